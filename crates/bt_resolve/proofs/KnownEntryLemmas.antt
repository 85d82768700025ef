-- Entries that are known from an earlier resolution, and macros that stand for the same.
use Rattle.std.proofs.Common.{◌≡◌, ◌∙◌, ap, sym, refl, subst, append-nil, ℕ, ◌+◌, ◌<◌, ◌≤◌, Bool, true, false, List, [], ◌∷◌, ◌++◌, length, map, drop, get_or, Option, Some, None}
use Rattle.std.specs.Prelude.{find, if◌then◌else◌, option_map, unwrap_or}
use Rattle.std.proofs.lemmas.List.{drop_all, drop_more}
use Rattle.bt_text.specs.CaseFolding.{is_same_folded}
use Rattle.bt_bib.specs.declared.item.Entry.{Entry}
use Rattle.bt_bib.specs.declared.item.Field.{Field}
use Rattle.bt_bib.specs.declared.item.Part.{Part}
use Rattle.bt_bib.specs.declared.item.Part.TheVariants.{Text, Macro}
use Rattle.bt_log.specs.declared.message.Message.{Message}
use Rattle.bt_resolve.specs.declared.asked.Asked.{Asked}
use Rattle.bt_resolve.specs.declared.place.Origin.{Origin}
use Rattle.bt_resolve.specs.declared.stored.Stored.{Stored}
use Rattle.bt_resolve.specs.Fields.{given_value}
use Rattle.bt_resolve.specs.Messages.{stored_messages}
use Rattle.bt_resolve.specs.Names.{crossref, place_of_name}
use Rattle.bt_resolve.specs.Stored.{kind_of, stored_of}
use Rattle.bt_resolve.specs.Values.{MacroTexts, field_value, value, value_warnings, within_limit, without_first_space, without_last_space}
use Rattle.bt_resolve.specs.Warnings.{extra_field, line_at}
use Rattle.bt_resolve.specs.inner.Cases.{has_field, is_declared, joined_or_empty, length_warnings, macro_warnings, type_messages}
use Rattle.bt_resolve.specs.inner.KnownEntries.{AreSameFields, Gives, IsSamePart, IsSameValue}

-- ---- macros that stand for the same

no_value : (m n : MacroTexts) → IsSameValue m n []
no_value m n = record { text = refl; told = λ o. refl }

one_part : (m n : MacroTexts) (p : Part) (ps : List Part) → IsSamePart m n p → IsSameValue m n ps → IsSameValue m n (p ∷ ps)
one_part m n (Text text) ps one rest = record { text = ap (λ (t : List ℕ). text ++ t) rest.text; told = rest.told }
one_part m n (Macro name line) ps one rest = record {
  text = λ j. unwrap_or (one j) [] ++ rest.text j;
  told = λ o j. macro_warnings false (one j) (line_at o line) name ++ rest.told o j;
}

pub value_at : (m n : MacroTexts) (ps : List Part) (k : ℕ) (p : Part) → k < length ps → p ≡ get_or ps k p → IsSamePart m n p → IsSameValue m n (drop (k + 1) ps) → IsSameValue m n (drop k ps)
value_at m n ps k p less is one rest =
    let here : drop k ps ≡ p ∷ drop (k + 1) ps = drop_more ps k p less ∙ ap (λ (x : Part). x ∷ drop (k + 1) ps) (sym is) in
    subst (IsSameValue m n) (sym here) (one_part m n p (drop (k + 1) ps) one rest)

pub value_end : (m n : MacroTexts) (ps : List Part) (k : ℕ) → length ps ≤ k → IsSameValue m n (drop k ps)
value_end m n ps k all = subst (IsSameValue m n) (sym (drop_all k ps all)) (no_value m n)

same_value : (m n : MacroTexts) (ps : List Part) → IsSameValue m n ps → field_value m ps ≡ field_value n ps
unfolding field_value value
same_value m n ps same = ap (λ (t : List ℕ). without_last_space (without_first_space (joined_or_empty (within_limit t)))) same.text

same_warnings : (m n : MacroTexts) (o : Origin) (line : ℕ) (name : List ℕ) (ps : List Part) → IsSameValue m n ps → value_warnings None m o line name ps ≡ value_warnings None n o line name ps
unfolding value_warnings
same_warnings m n o line name ps same = λ j. same.told o j ++ length_warnings (within_limit (same.text j)) (line_at o line) name

no_fields : (m n : MacroTexts) → AreSameFields m n []
unfolding given_value
no_fields m n = record { given = λ name. refl; told = λ declared o key before. refl }

one_given : (b : Bool) (m n : MacroTexts) (f : Field) (one two : Option Field) → field_value m f.value ≡ field_value n f.value →
    option_map (λ (g : Field). field_value m g.value) one ≡ option_map (λ (g : Field). field_value n g.value) two →
    option_map (λ (g : Field). field_value m g.value) (if b then Some f else one) ≡ option_map (λ (g : Field). field_value n g.value) (if b then Some f else two)
one_given true m n f one two first rest = ap (λ (v : List ℕ). Some v) first
one_given false m n f one two first rest = rest

one_field : (m n : MacroTexts) (f : Field) (fs : List Field) → IsSameValue m n f.value → AreSameFields m n fs → AreSameFields m n (f ∷ fs)
unfolding given_value
one_field m n f fs one rest = record {
  given = λ name.
      let found = find (λ (g : Field). is_same_folded g.name name) fs in
      one_given (is_same_folded f.name name) m n f found found (same_value m n f.value one) (rest.given name);
  told = λ declared o key before j.
      (if is_declared declared f.name then same_warnings m n o f.line f.name f.value one j ++ (if has_field before f.name then extra_field (line_at o f.line) key f.name ∷ [] else []) else [])
      ++ rest.told declared o key (before ++ f ∷ []) j;
}

pub fields_at : (m n : MacroTexts) (fs : List Field) (k : ℕ) (f : Field) → k < length fs → f ≡ get_or fs k f → IsSameValue m n f.value → AreSameFields m n (drop (k + 1) fs) → AreSameFields m n (drop k fs)
fields_at m n fs k f less is one rest =
    let here : drop k fs ≡ f ∷ drop (k + 1) fs = drop_more fs k f less ∙ ap (λ (x : Field). x ∷ drop (k + 1) fs) (sym is) in
    subst (AreSameFields m n) (sym here) (one_field m n f (drop (k + 1) fs) one rest)

pub fields_end : (m n : MacroTexts) (fs : List Field) (k : ℕ) → length fs ≤ k → AreSameFields m n (drop k fs)
fields_end m n fs k all = subst (AreSameFields m n) (sym (drop_all k fs all)) (no_fields m n)

-- ---- what is stored again

pub stored_again : (a : Asked) (m n : MacroTexts) (database at : ℕ) (e : Entry) (key : List ℕ) (s t : Stored) → Gives a m database at e key s → AreSameFields m n e.fields → t ≡ s → t ≡ stored_of a n e key
unfolding stored_of
stored_again a m n database at e key s t gives same is =
    is ∙ gives.stored ∙ (λ j. record {
      key = key;
      kind = (stored_of a m e key).kind;
      function = place_of_name a.types (kind_of e);
      crossref = same.given crossref j;
      values = map (λ name. if is_same_folded name crossref then None else same.given name j) a.fields;
    })

pub key_again : (a : Asked) (m n : MacroTexts) (database at : ℕ) (e : Entry) (key : List ℕ) (s t : Stored) → Gives a m database at e key s → AreSameFields m n e.fields → t ≡ s → t.key ≡ key
unfolding stored_of
key_again a m n database at e key s t gives same is = ap (λ (u : Stored). u.key) (stored_again a m n database at e key s t gives same is)

same_told : (a : Asked) (m n : MacroTexts) (o : Origin) (at : ℕ) (e : Entry) (key : List ℕ) → AreSameFields m n e.fields → stored_messages a m o at e key ≡ stored_messages a n o at e key
unfolding stored_messages
same_told a m n o at e key same = ap (λ (told : List Message). type_messages (place_of_name a.types (kind_of e)) (line_at o at) key ++ told) (same.told a.fields o key [])

pub told_again : (a : Asked) (m n : MacroTexts) (o : Origin) (at : ℕ) (e : Entry) (key : List ℕ) (s : Stored) (told : List Message) → Gives a m o.database at e key s → AreSameFields m n e.fields →
    told ≡ told ++ stored_messages a n o at e key
told_again a m n o at e key s told gives same = sym (append-nil told) ∙ ap (λ (more : List Message). told ++ more) (sym (gives.told o.line) ∙ same_told a m n o at e key same)
