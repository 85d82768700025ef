-- What READ hands to the databases, and what it tells.
use Rattle.std.specs.Prelude.{count_by}
use Rattle.std.proofs.Common.{◌≡◌, sym, ap, ◌∙◌, ℕ, List, [], ◌∷◌, ◌++◌, map, take}
use Rattle.std.proofs.lemmas.List.{take-map, append_assoc}
use Rattle.bt_style.specs.declared.style.Command.{Command}
use Rattle.bt_style.specs.declared.style.Function.{Function}
use Rattle.bt_style.specs.declared.style.Style.{Style}
use Rattle.bt_style.specs.Program.{Definition, definition_of, definitions_of, program_of}
use Rattle.bt_resolve.specs.declared.declared.Macro.{Macro}
use Rattle.bt_log.specs.declared.message.Message.{Message}
use Rattle.bt_run.specs.ReadCommand.{is_definition, declared_before}
use Rattle.bt_run.specs.inner.Cases.{known_macro}

abbrev name_of : Definition → List ℕ
name_of d = d.name

-- what the style declares, piece by piece
pub declared_by : (s : Style) (number count : ℕ) (fields types : List (List ℕ)) (macros : List Macro) (commands : List Command) (functions : List Function) → fields ≡ s.fields → commands ≡ take number s.commands → count ≡ count_by (λ (c : Command). is_definition c.action) commands → functions ≡ take count s.functions.items → types ≡ map (λ (d : Definition). d.name) (definitions_of functions) → macros ≡ map known_macro s.macros → record { fields = fields; types = types; macros = macros } ≡ declared_before number (program_of s)
declared_by s number count fields types macros commands functions is_fields are_commands is_count are_functions are_types are_macros =
    let counted : count ≡ count_by (λ (c : Command). is_definition c.action) (take number s.commands) = is_count ∙ ap (count_by (λ (c : Command). is_definition c.action)) are_commands in
    let before : definitions_of functions ≡ take (count_by (λ (c : Command). is_definition c.action) (take number s.commands)) (definitions_of s.functions.items) =
    ap definitions_of are_functions ∙ sym (take-map definition_of count s.functions.items) ∙ ap (λ n. take n (definitions_of s.functions.items)) counted in
    let all_types = are_types ∙ ap (map (λ (d : Definition). d.name)) before in
    λ j. record { fields = is_fields j; types = all_types j; macros = are_macros j }

-- what follows a message that was pushed
pub told_behind : (old log rest : List Message) (line seen : Message) → line ≡ seen → log ≡ old ++ line ∷ [] → log ++ rest ≡ old ++ seen ∷ rest
told_behind old log rest line seen is_line is_log = ap (λ l. l ++ rest) is_log ∙ append_assoc old (line ∷ []) rest ∙ ap (λ m. old ++ m ∷ rest) is_line
