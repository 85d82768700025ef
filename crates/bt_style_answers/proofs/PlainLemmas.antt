-- What is answered has no floats.
use Rattle.std.proofs.Common.{◌≡◌, ℕ, List, [], ◌∷◌, ◌++◌, map, refl, Bool, false, Option, Some, None, Result, Ok, Err}
use Rattle.std.specs.List.{AllByRecursion}
use Rattle.std.specs.Prelude.{filter_map}
use Rattle.serde_json.specs.Written.{has_float, items_have_float}
use Rattle.serde_json.specs.Data.{Data}
use Rattle.serde_json.specs.View.{items_of}
use Rattle.bt_positions.specs.Positions.{offset_of}
use Rattle.bt_positions.specs.declared.counting.Counting.{Counting}
use Rattle.bt_positions.specs.declared.indexed_text.Position.{Position}
use Rattle.bt_shapes.proofs.PlainLists.{IsPlain, items_plain, all_both, all_mapped, more_plain, fold_between_plain}
use Rattle.bt_style_text.specs.declared.words.Word.{Word}
use Rattle.bt_style_text.specs.declared.marks.Mark.{Mark}
use Rattle.bt_style_text.specs.declared.outline.Symbol.{Symbol}
use Rattle.bt_style_text.specs.declared.renaming.RenameRefusal.{RenameRefusal}
use Rattle.bt_style_text.specs.declared.completing.Offer.{Offer}
use Rattle.bt_style_text.specs.declared.completing.Offer.TheVariants.{Nothing, Commands, Names}
use Rattle.bt_style_text.specs.Builtins.{all_builtins}
use Rattle.bt_style_text.specs.Commands.{all_commands}
use Rattle.bt_style_text.specs.Words.{words_of}
use Rattle.bt_style_answers.specs.declared.completion.Written.{Written}
use Rattle.bt_style_text.specs.Marks.{marks_of}
use Rattle.bt_style_text.specs.Names.{name_at, definition, references}
use Rattle.bt_style_text.specs.Outline.{symbols_of}
use Rattle.bt_style_text.specs.Completing.{offer_at, offered}
use Rattle.bt_style_text.specs.Renaming.{rename}
use Rattle.bt_style_text.specs.Hover.{hover_of}
use Rattle.bt_effects.specs.Words.{with_notes}
use Rattle.bt_style_answers.specs.declared.references.Lent.{Lent}
use Rattle.bt_style_answers.specs.References.{mark_location, maybe_location, definition_at, asked_of, references_at, lent_declaration, with_mark, with_declaration}
use Rattle.bt_style_answers.specs.Hovering.{shown_words, hover_at}
use Rattle.bt_style_answers.specs.Outline.{symbol_of, symbols_in}
use Rattle.bt_style_text.specs.Hinting.{unused, declarations}
use Rattle.bt_style_answers.specs.Hinting.{unused_at, unknown_at, unused_in, unknown_but, unknown_in, hints_in}
use Rattle.bt_style_answers.specs.Folding.{fold_of, folds_of, folds_in, line_of}
use Rattle.bt_style_answers.specs.Completion.{written_at, builtin_item, builtin_items, command_item, command_items, mark_item, offered_items, completion_at}
use Rattle.bt_style_answers.specs.Renaming.{edit_of, edits_or_refusal, rename_at, range_or_refusal, renamed_range_at}

-- ---- references

pub location_plain : (c : Counting) (uri words : List ℕ) (mark : Option Mark) → has_float (maybe_location c uri words mark) ≡ false
location_plain c uri words None = refl
location_plain c uri words (Some mark) = refl

pub definition_plain : (c : Counting) (uri words : List ℕ) (at : Position) → has_float (definition_at c uri words at) ≡ false
definition_plain c uri words at = location_plain c uri words (definition words (marks_of words) (offset_of c at words))

pub references_plain : (c : Counting) (uri words : List ℕ) (at : Position) (declared : Bool) → has_float (references_at c uri words at declared) ≡ false
references_plain c uri words at declared =
    let found = asked_of (references words (marks_of words) (offset_of c at words)) declared in
    items_plain (map (mark_location c uri words) found) (all_mapped (mark_location c uri words) (λ m. refl) found)

mark_plain : (c : Counting) (uri words : List ℕ) (list : List Data) (mark : Option Mark) → AllByRecursion IsPlain list → AllByRecursion IsPlain (with_mark c uri words list mark)
mark_plain c uri words list None p = p
mark_plain c uri words list (Some m) p = all_both IsPlain list (mark_location c uri words m ∷ []) p (refl, tt)

pub declaration_plain : (c : Counting) (uri words : List ℕ) (lent : Lent) (name : List ℕ) (list : List Data) → AllByRecursion IsPlain list →
    AllByRecursion IsPlain (with_declaration c uri words lent name list)
declaration_plain c uri words lent name list p = mark_plain c uri words list (lent_declaration words (marks_of words) lent name) p

-- ---- hover

words_plain : (plain : Bool) (words : List ℕ) → has_float (shown_words plain words) ≡ false
words_plain plain [] = refl
words_plain plain (b ∷ words) = refl

pub hover_plain : (plain : Bool) (c : Counting) (words : List ℕ) (at : Position) (notes : List ℕ) → has_float (hover_at plain c words at notes) ≡ false
hover_plain plain c words at notes = words_plain plain (with_notes (hover_of words (marks_of words) (offset_of c at words)) notes)

-- ---- symbols and folds

pub symbols_plain : (c : Counting) (words : List ℕ) → has_float (symbols_in c words) ≡ false
symbols_plain c words =
    let found = symbols_of (marks_of words) in
    items_plain (map (symbol_of c words) found) (all_mapped (symbol_of c words) (λ s. refl) found)

all_folds : (c : Counting) (words : List ℕ) (symbols : List Symbol) → AllByRecursion IsPlain (filter_map (fold_of c words) symbols)
all_folds c words [] = tt
all_folds c words (s ∷ ss) = more_plain (fold_of c words s) _ (fold_between_plain (line_of c words s.start) (line_of c words s.end)) (all_folds c words ss)

pub folds_plain : (c : Counting) (words : List ℕ) → has_float (folds_in c words) ≡ false
folds_plain c words = items_plain (folds_of c words (symbols_of (marks_of words))) (all_folds c words (symbols_of (marks_of words)))

-- ---- completion

builtins_plain : (w : Written) → AllByRecursion IsPlain (builtin_items w)
builtins_plain w = all_mapped (builtin_item w) (λ b. refl) all_builtins

all_commands_plain : (w : Written) → AllByRecursion IsPlain (command_items w)
all_commands_plain w = all_mapped (command_item w) (λ c. refl) all_commands

offered_plain : (w : Written) (words : List ℕ) (marks : List Mark) (place : ℕ) (offer : Offer) → has_float (offered_items w words marks place offer) ≡ false
offered_plain w words marks place Nothing = refl
offered_plain w words marks place Commands = items_plain (command_items w) (all_commands_plain w)
offered_plain w words marks place Names =
    let found = offered place marks in
    items_plain (builtin_items w ++ map (mark_item w words) found)
    (all_both IsPlain (builtin_items w) (map (mark_item w words) found) (builtins_plain w) (all_mapped (mark_item w words) (λ m. refl) found))

pub completion_plain : (c : Counting) (words : List ℕ) (at : Position) → has_float (completion_at c words at) ≡ false
completion_plain c words at =
    let marks = marks_of words in
    let place = offset_of c at words in
    offered_plain (written_at c words marks place) words marks place (offer_at words place (words_of words))

-- ---- renaming

-- an outcome without floats
abbrev pub OutcomeIsPlain : Result Data RenameRefusal → Type 0
OutcomeIsPlain (Ok d) = has_float d ≡ false
OutcomeIsPlain (Err refusal) = Unit {0}

edits_plain : (c : Counting) (uri words new : List ℕ) (renamed : Result (List Mark) RenameRefusal) → OutcomeIsPlain (edits_or_refusal c uri words new renamed)
edits_plain c uri words new (Ok marks) =
    let p : items_have_float (items_of (map (edit_of c words new) marks)) ≡ false =
    items_plain (map (edit_of c words new) marks) (all_mapped (edit_of c words new) (λ m. refl) marks) in rw p refl
edits_plain c uri words new (Err refusal) = tt

pub rename_plain : (c : Counting) (uri words : List ℕ) (at : Position) (new : List ℕ) → OutcomeIsPlain (rename_at c uri words at new)
rename_plain c uri words at new = edits_plain c uri words new (rename words (marks_of words) (offset_of c at words) new)

range_plain : (c : Counting) (words : List ℕ) (mark declaration : Option Mark) → OutcomeIsPlain (range_or_refusal c words mark declaration)
range_plain c words (Some mark) (Some declaration) = refl
range_plain c words (Some mark) None = tt
range_plain c words None declaration = refl

pub renamed_range_plain : (c : Counting) (words : List ℕ) (at : Position) → OutcomeIsPlain (renamed_range_at c words at)
renamed_range_plain c words at =
    range_plain c words (name_at (offset_of c at words) (marks_of words)) (definition words (marks_of words) (offset_of c at words))

-- ---- hints

pub hints_plain : (c : Counting) (fault : Option Word) (words : List ℕ) → AllByRecursion IsPlain (hints_in c fault words)
hints_plain c fault words =
    let marks = marks_of words in
    all_both IsPlain (unused_in c words marks) (unknown_in c fault words marks) (all_mapped (unused_at c words) (λ m. refl) (unused words marks))
    (all_mapped (unknown_at c words (declarations marks)) (λ m. refl) (unknown_but fault words marks))
