-- What a built-in function makes of what is known of the stack, or nothing where it may complain.
use Rattle.std.specs.Prelude.{pos, Bool, true, false, not, ◌&&◌, List, [], ◌∷◌, Option, Some, None, if◌then◌else◌, option_and_then}
use Rattle.bt_style.specs.declared.builtin.Builtin.{Builtin as Primitive}
use Rattle.bt_style.specs.declared.builtin.Builtin.TheVariants as builtin
use Rattle.bt_sound.specs.Known.{Range, May, Known, Number, Text, any_text, joined_may, any_number, at_least, bit, sum_range, difference_range, less_range, missing_range, empty_range, names_range}

-- what comes of a stack, or nothing
abbrev pub After : Type 0
After = Option (List Known)

-- a number, a text that isn't missing, a field's value, or any value on the top, with what is below it

abbrev pub number_top : List Known → Option (Range × List Known)
number_top (Number r ∷ ks) = Some (r, ks)
number_top _ = None

abbrev pub text_top : List Known → Option (May × List Known)
text_top (Text m ∷ ks) = if m.missing then None else Some (m, ks)
text_top _ = None

abbrev pub field_top : List Known → Option (May × List Known)
field_top (Text m ∷ ks) = Some (m, ks)
field_top _ = None

abbrev pub any_top : List Known → Option (Known × List Known)
any_top (k ∷ ks) = Some (k, ks)
any_top _ = None

abbrev pub with_number : List Known → (Range → List Known → After) → After
with_number ks f = option_and_then (λ top. f top.0 top.1) (number_top ks)

abbrev pub with_text : List Known → (May → List Known → After) → After
with_text ks f = option_and_then (λ top. f top.0 top.1) (text_top ks)

abbrev pub with_field : List Known → (May → List Known → After) → After
with_field ks f = option_and_then (λ top. f top.0 top.1) (field_top ks)

abbrev pub with_any : List Known → (Known → List Known → After) → After
with_any ks f = option_and_then (λ top. f top.0 top.1) (any_top ks)

-- two numbers or two texts that aren't missing
abbrev pub are_alike : Known → Known → Bool
are_alike (Number q) (Number r) = true
are_alike (Text m) (Text n) = not m.missing && not n.missing
are_alike _ _ = false

abbrev pub with_equals : List Known → (List Known → After) → After
with_equals ks f = with_any ks (λ l ks. with_any ks (λ k ks. if are_alike l k then f ks else None))

-- any text
abbrev pub text_on : List Known → After
text_on ks = Some (Text any_text ∷ ks)

-- a number of this range
abbrev pub number_on : Range → List Known → After
number_on r ks = Some (Number r ∷ ks)

-- The functions that look at the stack alone. `:=`, `cite$`, `type$` and those that run others give nothing here.
abbrev pub stack_after : Primitive → List Known → After
stack_after builtin.Greater ks = with_number ks (λ q ks. with_number ks (λ r ks. number_on (less_range q r) ks))
stack_after builtin.Less ks = with_number ks (λ q ks. with_number ks (λ r ks. number_on (less_range r q) ks))
stack_after builtin.Equals ks = with_equals ks (number_on bit)
stack_after builtin.Plus ks = with_number ks (λ q ks. with_number ks (λ r ks. number_on (sum_range r q) ks))
stack_after builtin.Minus ks = with_number ks (λ q ks. with_number ks (λ r ks. number_on (difference_range r q) ks))
stack_after builtin.Join ks = with_text ks (λ n ks. with_text ks (λ m ks. Some (Text (joined_may m n) ∷ ks)))
stack_after builtin.Assign ks = None
stack_after builtin.AddPeriod ks = with_text ks (λ m ks. text_on ks)
stack_after builtin.CallType ks = None
stack_after builtin.ChangeCase ks = with_text ks (λ n ks. with_text ks (λ m ks. text_on ks))
stack_after builtin.ChrToInt ks = with_text ks (λ m ks. number_on (at_least (pos 0)) ks)
stack_after builtin.Cite ks = None
stack_after builtin.Duplicate ks = with_any ks (λ k ks. Some (k ∷ k ∷ ks))
stack_after builtin.Empty ks = with_field ks (λ m ks. number_on (empty_range m) ks)
stack_after builtin.FormatName ks =
    with_text ks (λ l ks. with_number ks (λ r ks. with_text ks (λ m ks. text_on ks)))
stack_after builtin.If ks = None
stack_after builtin.IntToChr ks = with_number ks (λ r ks. text_on ks)
stack_after builtin.IntToStr ks = with_number ks (λ r ks. text_on ks)
stack_after builtin.Missing ks = with_field ks (λ m ks. number_on (missing_range m) ks)
stack_after builtin.Newline ks = Some ks
stack_after builtin.NumNames ks = with_text ks (λ m ks. number_on (names_range m) ks)
stack_after builtin.Pop ks = with_any ks (λ k ks. Some ks)
stack_after builtin.Preamble ks = text_on ks
stack_after builtin.Purify ks = with_text ks (λ m ks. text_on ks)
stack_after builtin.Quote ks = text_on ks
stack_after builtin.Skip ks = Some ks
stack_after builtin.Stack ks = Some []
stack_after builtin.Substring ks =
    with_number ks (λ q ks. with_number ks (λ r ks. with_text ks (λ m ks. text_on ks)))
stack_after builtin.Swap ks = with_any ks (λ k ks. with_any ks (λ l ks. Some (l ∷ k ∷ ks)))
stack_after builtin.TextLength ks = with_text ks (λ m ks. number_on (at_least (pos 0)) ks)
stack_after builtin.TextPrefix ks = with_number ks (λ r ks. with_text ks (λ m ks. text_on ks))
stack_after builtin.Top ks = with_any ks (λ k ks. Some ks)
stack_after builtin.Type ks = None
stack_after builtin.Warning ks = with_text ks (λ m ks. Some ks)
stack_after builtin.While ks = None
stack_after builtin.Width ks = with_text ks (λ m ks. number_on any_number ks)
stack_after builtin.Write ks = with_text ks (λ m ks. Some ks)
