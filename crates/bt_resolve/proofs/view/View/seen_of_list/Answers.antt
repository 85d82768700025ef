use Rattle.std.specs.Prelude.{filter_map}
use Rattle.std.proofs.Common.{◌≡◌, ◌∙◌, ap, refl, ℕ, List, Option}
use Rattle.bt_resolve.specs.declared.stored.Stored.{Stored}
use Rattle.bt_resolve.specs.inner.Heirs.{made_at}
use Rattle.bt_resolve.specs.inner.Inheritance.{all_inherit, shown_among, values_read}
use Rattle.bt_resolve.proofs.InheritingLemmas.{entries_are}
use Rattle.bt_resolve.proofs.view.View.seen_of_list.Goals as goal

pub returns : goal.returns
returns c =
    let v = c.args.self.now in
    let stored = v.family.now in
    let places = c.args.places.items in
    let list : c.as_slice-list.result.now ≡ places = c.as_slice-list.ensures.value in
    let values : c.all_inherit.new.values ≡ all_inherit stored (values_read stored) places =
    c.in_ok-all_inherit.ensures
    ∙ ap (λ (vs : List (List (Option (List ℕ)))). all_inherit stored vs c.as_slice-list.result.now)
    (c.in_ok-values.ensures ∙ c.as_slice.ensures.value ∙ c.in_ok-read.ensures ∙ ap (λ (entries : List Stored). values_read entries) c.entries.ensures)
    ∙ ap (all_inherit stored (values_read stored)) list in
    let shown : c.in_ok-shown.shown ≡ shown_among v places = c.in_ok-shown.ensures ∙ ap (shown_among v) list in
    let seen = entries_are v.asked.now v.min stored places (all_inherit stored (values_read stored) places) c.requires refl in
    λ j. record {
      listed = (c.from_vec.ensures ∙ c.requires) j;
      places = (shown ∙ ap (shown_among v) c.requires) j;
      entries = (c.in_ok-entries.ensures
          ∙ (λ k. filter_map (made_at v.asked.now v.min stored (values k)) ((c.as_slice-2.ensures ∙ shown) k))
          ∙ seen) j;
    }
