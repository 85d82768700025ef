-- Worked examples of what a style's text spells, computed.
use Rattle.std.proofs.Common.{◌≡◌, ℕ, List, [], ◌∷◌, ◌++◌, Ok, refl, codes, replicate, pos, negsuc, true, is_ok}
use Rattle.bt_style.specs.declared.fault.FaultKind.TheVariants.{UnclosedBrace}
use Rattle.bt_style.specs.declared.style.Target.TheVariants as targets
use Rattle.bt_style.specs.declared.builtin.Builtin.TheVariants as builtins
use Rattle.bt_style.specs.declared.style.Action.TheVariants as actions
use Rattle.bt_style.specs.Token.{AtEnd, Front, Open, Close, Word, Literal, tokens_of, tokens_after, piece_at, literal_piece}
use Rattle.bt_style.specs.Tree.{Amount, Words, Quoted, Braced, Called, body_of}
use Rattle.bt_style.specs.inner.Cases.{bare}
use Rattle.bt_style.specs.Elements.{word_element, number_at, size_at, quoted_at}
use Rattle.bt_style.specs.Bodies.{body_at}
use Rattle.bt_style.proofs.rows.FaultRows.{spelled, HasFault}

-- a text as its tokens
tokens_with_lines : tokens_of (codes "READ % all\n {\"a b\" '#1}") ≡ Front (Word (codes "READ")) 1 (Front Open 2 (Front (Literal (codes "a b")) 2 (Front (Word (codes "'#1")) 2 (Front Close 2 (AtEnd 2)))))
unfolding tokens_after piece_at literal_piece
tokens_with_lines = refl

a_style : spelled (codes "ENTRY {}{}{}\nFUNCTION {misc} {}\nFUNCTION {f} {\"key \" write$ cite$ write$ newline$}\nREAD\nITERATE {f}\n")
    ≡ Ok (record {
      fields = codes "crossref" ∷ [];
      entry_numbers = [];
      entry_texts = codes "sort.key$" ∷ [];
      global_numbers = codes "entry.max$" ∷ codes "global.max$" ∷ [];
      global_texts = [];
      macros = [];
      functions =
          record { name = codes "misc"; body = body_of [] } ∷
          record {
            name = codes "f";
            body = body_of (
                Words (codes "key ") ∷
                Called (targets.Builtin builtins.Write) ∷
                Called (targets.Builtin builtins.Cite) ∷
                Called (targets.Builtin builtins.Write) ∷
                Called (targets.Builtin builtins.Newline) ∷ []);
          } ∷ [];
      commands =
          record { action = actions.Entry; line = 1 } ∷
          record { action = actions.Function 0; line = 2 } ∷
          record { action = actions.Function 1; line = 3 } ∷
          record { action = actions.Read; line = 4 } ∷
          record { action = actions.Iterate (targets.Function 1); line = 5 } ∷ [];
    })
unfolding spelled
a_style = refl

another_style : spelled (codes "ENTRY {title}{}{}\nFUNCTION {misc} {title write$}\nREAD\nITERATE {call.type$}\nEXECUTE {newline$}\n")
    ≡ Ok (record {
      fields = codes "crossref" ∷ codes "title" ∷ [];
      entry_numbers = [];
      entry_texts = codes "sort.key$" ∷ [];
      global_numbers = codes "entry.max$" ∷ codes "global.max$" ∷ [];
      global_texts = [];
      macros = [];
      functions =
          record {
            name = codes "misc";
            body = body_of (
                Called (targets.Field 1) ∷
                Called (targets.Builtin builtins.Write) ∷ []);
          } ∷ [];
      commands =
          record { action = actions.Entry; line = 1 } ∷
          record { action = actions.Function 0; line = 2 } ∷
          record { action = actions.Read; line = 3 } ∷
          record { action = actions.Iterate (targets.Builtin builtins.CallType); line = 4 } ∷
          record { action = actions.Execute (targets.Builtin builtins.Newline); line = 5 } ∷ [];
    })
unfolding spelled
another_style = refl

sorting_style : spelled (codes "ENTRY {title}{}{}\nFUNCTION {misc} {title write$ newline$}\nFUNCTION {k} {title purify$ \"l\" change.case$ 'sort.key$ :=}\nREAD\nITERATE {k}\nSORT\nITERATE {call.type$}\n")
    ≡ Ok (record {
      fields = codes "crossref" ∷ codes "title" ∷ [];
      entry_numbers = [];
      entry_texts = codes "sort.key$" ∷ [];
      global_numbers = codes "entry.max$" ∷ codes "global.max$" ∷ [];
      global_texts = [];
      macros = [];
      functions =
          record {
            name = codes "misc";
            body = body_of (
                Called (targets.Field 1) ∷
                Called (targets.Builtin builtins.Write) ∷
                Called (targets.Builtin builtins.Newline) ∷ []);
          } ∷
          record {
            name = codes "k";
            body = body_of (
                Called (targets.Field 1) ∷
                Called (targets.Builtin builtins.Purify) ∷
                Words (codes "l") ∷
                Called (targets.Builtin builtins.ChangeCase) ∷
                Quoted (targets.EntryText 0) ∷
                Called (targets.Builtin builtins.Assign) ∷ []);
          } ∷ [];
      commands =
          record { action = actions.Entry; line = 1 } ∷
          record { action = actions.Function 0; line = 2 } ∷
          record { action = actions.Function 1; line = 3 } ∷
          record { action = actions.Read; line = 4 } ∷
          record { action = actions.Iterate (targets.Function 1); line = 5 } ∷
          record { action = actions.Sort; line = 6 } ∷
          record { action = actions.Iterate (targets.Builtin builtins.CallType); line = 7 } ∷ [];
    })
unfolding spelled
sorting_style = refl

crossref_before_entry : is_ok (spelled (codes "FUNCTION {f} {crossref 'Sort.Key$ \"a%b\"%}\n}\nMACRO {a}{\"b\"} STRINGS {s} ENTRY {t}{n}{m}")) ≡ true
unfolding spelled
crossref_before_entry = refl

no_commands : is_ok (spelled (codes " % nothing")) ≡ true
unfolding spelled
no_commands = refl

-- each name before its use
in_the_right_order : is_ok (spelled (codes "ENTRY {}{}{}\nFUNCTION {g} {skip$}\nFUNCTION {f} {g}\n")) ≡ true
unfolding spelled
in_the_right_order = refl

nested_braces : body_at bare [] []
    (tokens_of (codes "#1 {#-2 {} #003} #-2147483648}"))
    ≡ Ok (body_of (Amount (pos 1) ∷ Braced (body_of (Amount (negsuc 1) ∷ Braced (body_of []) ∷ Amount (pos 3) ∷ [])) ∷ Amount (negsuc 2147483647) ∷ []), AtEnd 1)
unfolding tokens_after piece_at literal_piece body_at word_element number_at size_at quoted_at
nested_braces = refl

abbrev braces : ℕ → List ℕ
braces n = codes "FUNCTION {f} " ++ replicate n 123 ++ replicate n 125

ten_deep : is_ok (spelled (braces 10)) ≡ true
unfolding spelled
ten_deep = refl

hundred_deep : is_ok (spelled (braces 100)) ≡ true
unfolding spelled
hundred_deep = refl

too_deep : HasFault (braces 101) UnclosedBrace 1
unfolding spelled
too_deep = refl

too_deep_below : HasFault (codes "FUNCTION {f} {\n" ++ replicate 100 123) UnclosedBrace 2
unfolding spelled
too_deep_below = refl
