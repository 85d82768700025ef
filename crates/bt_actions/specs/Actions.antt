-- What the built-in functions do that run no other function.
use Rattle.std.specs.Prelude.{Option, Some, None, ℤ, pos, ◌++◌, length, int_lt, ◌+ℤ◌, ◌-ℤ◌}
use Rattle.std.specs.Option.{is_none}
use Rattle.bt_style.specs.declared.builtin.Builtin.{Builtin as Primitive}
use Rattle.bt_style.specs.declared.builtin.Builtin.TheVariants as builtin
use Rattle.bt_style.specs.Program.{Program}
use Rattle.bt_actions.specs.Item.{Txt}
use Rattle.bt_actions.specs.World.{World, Act, Goes, say}
use Rattle.bt_actions.specs.State.{pushed, popped, appended, held_line_ended}
use Rattle.bt_actions.specs.Arguments.{as_number, as_text, as_field_text, as_target, as_any, taken, taken_two, taken_three}
use Rattle.std.specs.Fmt.{signed_decimal}
use Rattle.bt_text.specs.Substrings.{text_prefix_of, substring_of}
use Rattle.bt_text.specs.Length.{text_length_of}
use Rattle.bt_text.specs.Period.{with_period}
use Rattle.bt_text.specs.Purification.{purified}
use Rattle.bt_text.specs.Widths.{width_of}
use Rattle.bt_names.specs.Names.{names_of}
use Rattle.bt_actions.specs.declared.complaint.Complaint.TheVariants.{Shown, Warned}
use Rattle.bt_actions.specs.Given.{Gives, number_given, truth, valued, zero_item, empty_item}
use Rattle.bt_actions.specs.Numbers.{byte_number, ascii_text}
use Rattle.bt_actions.specs.Comparison.{equality_of, is_blank}
use Rattle.bt_actions.specs.Texts.{case_of, quote}
use Rattle.bt_actions.specs.Names.{name_formatted}
use Rattle.bt_actions.specs.Operands.{of_entry, kind_item}
use Rattle.bt_actions.specs.Assignment.{assigned}
use Rattle.bt_actions.specs.LogLines.{shown_value, log_stack}
use Rattle.bt_actions.specs.Stack.{duplicated, swapped}

-- an action on an argument; without an argument, nothing is done
abbrev pub act_with : {A : Type 0} → (A → World → Act) → Option A × World → Act
act_with f (None, w) = Goes w
act_with f (Some a, w) = f a w

-- the same for a change, after which the run always goes on
abbrev pub change_with : {A : Type 0} → (A → World → World) → Option A × World → Act
change_with f (None, w) = Goes w
change_with f (Some a, w) = Goes (f a w)

-- The table of the built-in functions. It does nothing for `call.type$`, `if$` and `while$`, which run other functions:
-- `built_in` of bt_machine defines these.
abbrev pub basic : Program → Primitive → World → Act
basic p builtin.Greater w =
    valued (λ (n, m). Gives (truth (int_lt m n))) zero_item (taken_two builtin.Greater as_number as_number w)
basic p builtin.Less w =
    valued (λ (n, m). Gives (truth (int_lt n m))) zero_item (taken_two builtin.Less as_number as_number w)
basic p builtin.Equals w = valued equality_of zero_item (taken_two builtin.Equals as_any as_any w)
basic p builtin.Plus w =
    valued (λ (n, m). number_given builtin.Plus (n +ℤ m)) zero_item (taken_two builtin.Plus as_number as_number w)
basic p builtin.Minus w =
    valued (λ (n, m). number_given builtin.Minus (n -ℤ m)) zero_item (taken_two builtin.Minus as_number as_number w)
basic p builtin.Join w = valued (λ (t, u). Gives (Txt (t ++ u))) empty_item (taken_two builtin.Join as_text as_text w)
basic p builtin.Assign w = change_with assigned (taken_two builtin.Assign as_any as_target w)
basic p builtin.AddPeriod w = valued (λ t. Gives (Txt (with_period t))) empty_item (taken builtin.AddPeriod as_text w)
basic p builtin.CallType w = Goes w
basic p builtin.ChangeCase w = valued case_of empty_item (taken_two builtin.ChangeCase as_text as_text w)
basic p builtin.ChrToInt w = valued byte_number zero_item (taken builtin.ChrToInt as_text w)
basic p builtin.Cite w = of_entry (λ e. Txt e.key) empty_item w
basic p builtin.Duplicate w = duplicated w.stack w
basic p builtin.Empty w = valued (λ o. Gives (truth (is_blank o))) zero_item (taken builtin.Empty as_field_text w)
basic p builtin.FormatName w =
    valued name_formatted empty_item (taken_three builtin.FormatName as_text as_number as_text w)
basic p builtin.If w = Goes w
basic p builtin.IntToChr w = valued ascii_text empty_item (taken builtin.IntToChr as_number w)
basic p builtin.IntToStr w =
    valued (λ n. Gives (Txt (signed_decimal n))) empty_item (taken builtin.IntToStr as_number w)
basic p builtin.Missing w = valued (λ o. Gives (truth (is_none o))) zero_item (taken builtin.Missing as_field_text w)
basic p builtin.Newline w = Goes (held_line_ended w)
basic p builtin.NumNames w =
    valued (λ t. number_given builtin.NumNames (pos (length (names_of t)))) zero_item (taken builtin.NumNames as_text w)
basic p builtin.Pop w = Goes (popped w).1
basic p builtin.Preamble w = pushed (Txt w.preamble) w
basic p builtin.Purify w = valued (λ t. Gives (Txt (purified t))) empty_item (taken builtin.Purify as_text w)
basic p builtin.Quote w = pushed (Txt quote) w
basic p builtin.Skip w = Goes w
basic p builtin.Stack w = Goes (log_stack p w)
basic p builtin.Substring w =
    valued (λ (t, start, len). Gives (Txt (substring_of t start len))) empty_item
    (taken_three builtin.Substring as_text as_number as_number w)
basic p builtin.Swap w = Goes (swapped w.stack w)
basic p builtin.TextLength w =
    valued (λ t. number_given builtin.TextLength (pos (text_length_of t))) zero_item (taken builtin.TextLength as_text w)
basic p builtin.TextPrefix w =
    valued (λ (t, n). Gives (Txt (text_prefix_of t n))) empty_item (taken_two builtin.TextPrefix as_text as_number w)
basic p builtin.Top w = change_with (λ v. say (Shown (shown_value p v))) (taken builtin.Top as_any w)
basic p builtin.Type w = of_entry kind_item empty_item w
basic p builtin.Warning w = change_with (λ t. say (Warned t)) (taken builtin.Warning as_text w)
basic p builtin.While w = Goes w
basic p builtin.Width w =
    valued (λ t. number_given builtin.Width (pos (width_of t))) zero_item (taken builtin.Width as_text w)
basic p builtin.Write w = act_with appended (taken builtin.Write as_text w)
