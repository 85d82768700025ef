-- Values that are put in the place of others, one after the other.
use Rattle.std.specs.Prelude.{ℕ, List, [], ◌∷◌, slice_index_or, slice_set}
use Rattle.bt_actions.specs.declared.entry.Variables.{Variables}
use Rattle.bt_machine.specs.declared.substitution.Places.{Places}
use Rattle.bt_machine.specs.Footprint.{blend_variables}
use Rattle.bt_machine.specs.inner.Footprint.{among}

-- the value at a place of the first list, in the second
abbrev pub value_put : {A : Type 0} → A → ℕ → List A → List A → List A
value_put default n xs bs = slice_set bs n (slice_index_or xs n default)

abbrev pub values_put : {A : Type 0} → A → List ℕ → List A → List A → List A
values_put default [] xs bs = bs
values_put default (n ∷ ns) xs bs = values_put default ns xs (value_put default n xs bs)

-- variables that come from the first at some places, and from the second elsewhere
abbrev pub blend_at : Places → Variables → Variables → Variables
blend_at places v b = blend_variables (among places.numbers.now) (among places.texts.now) v b
