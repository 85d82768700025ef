-- Which entries are stored, and as what. The items before an item are given from the last one back.
use Rattle.std.specs.Prelude.{ℕ, Bool, not, ◌||◌, ◌&&◌, List, [], ◌∷◌, ◌++◌, Some, None, is_some, unwrap_or, if◌then◌else◌, map}
use Rattle.std.specs.List.{list_any}
use Rattle.bt_text.specs.CaseFolding.{folded, is_same_folded}
use Rattle.bt_bib.specs.Items.{PlacedItem}
use Rattle.bt_bib.specs.declared.item.Content.TheVariants as contents
use Rattle.bt_bib.specs.declared.item.Entry.{Entry}
use Rattle.bt_resolve.specs.declared.asked.Asked.{Asked}
use Rattle.bt_resolve.specs.declared.declared.Macro.{Macro}
use Rattle.bt_resolve.specs.declared.stored.Stored.{Stored}
use Rattle.bt_text.specs.NameList.{has_name}
use Rattle.bt_resolve.specs.Names.{crossref, place_of_name}
use Rattle.bt_resolve.specs.Values.{MacroTexts, is_named}
use Rattle.bt_resolve.specs.Macros.{macro_before}
use Rattle.bt_resolve.specs.Fields.{given_value}

abbrev pub kind_of : Entry → List ℕ
kind_of e = unwrap_or e.kind []

-- an entry as it is stored. `crossref` is kept apart from the other values, and not inherited.
unfoldable pub stored_of : Asked → MacroTexts → Entry → List ℕ → Stored
stored_of a macros e key = record {
  key = key;
  kind = folded (kind_of e);
  function = place_of_name a.types (kind_of e);
  crossref = given_value macros e.fields crossref;
  values = map (λ name. if is_same_folded name crossref then None else given_value macros e.fields name) a.fields;
}

-- An entry is wanted if all are cited, or its key is, or an entry that is stored before it refers to it.
abbrev pub is_wanted : Asked → List Stored → List ℕ → Bool
is_wanted a stored key =
    is_some a.star || has_name a.keys key || list_any (λ (s : Stored). is_named s.crossref key) stored

abbrev pub is_stored : List Stored → List ℕ → Bool
is_stored stored key = list_any (λ (s : Stored). is_same_folded s.key key) stored

-- the stored entries of these items, in the order of the databases: for each key the first wanted entry
unfoldable pub stored_among : Asked → List Macro → List PlacedItem → List Stored
stored_among a macros [] = []
stored_among a macros (placed ∷ before) =
    let stored = stored_among a macros before in
    elim placed.item.content [
      | contents.Entry e ↦ elim e.key [
        | None ↦ stored
        | Some key ↦
            if is_wanted a stored key && not (is_stored stored key)
            then stored ++ stored_of a (macro_before macros before) e key ∷ []
            else stored
      ]
      | _ ↦ stored
    ]
