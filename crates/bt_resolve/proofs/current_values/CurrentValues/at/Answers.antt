use Rattle.std.specs.Prelude.{slice_get}
use Rattle.std.proofs.Common.{◌≡◌, ◌∙◌, ap, subst, ℕ, List, Option, Some, None}
use Rattle.bt_text.proofs.NameLemmas.{if_ok}
use Rattle.bt_resolve.proofs.CurrentLemmas.{none_past, value_of}
use Rattle.bt_resolve.proofs.EarlierLemmas.{get_read}
use Rattle.bt_resolve.proofs.current_values.CurrentValues.at.Goals as goal

pub returns-in_default : goal.returns-in_default
returns-in_default c =
    let v = c.self.inside in
    let past = subst (λ (s : List (Option (List (Option (List ℕ))))). slice_get s c.args.place ≡ None) c.as_slice.ensures (none_past c.as_slice.result.now c.args.place c.in_default.ensures.lookup.0) in
    if_ok _ _ c.shared_at.result (λ (values : List (Option (List ℕ))) is.
    value_of v.before.now c.args.self.now v.since c.args.place None values c.self.invariant c.self.view_is past is) c.shared_at.ensures

pub returns-in-Some-since : goal.returns-in-Some-since
returns-in-Some-since c =
    let v = c.self.inside in
    let there = get_read c.as_slice.result.now v.since c.args.place c.in-Some.since.now c.as_slice.ensures c.in-Some.ensures.lookup.3.0 c.in-Some.ensures.lookup.1 in
    if_ok _ _ c.share.result (λ (values : List (Option (List ℕ))) is.
    value_of v.before.now c.args.self.now v.since c.args.place (Some (Some c.in-Some-since.values)) values c.self.invariant c.self.view_is (there ∙ ap Some c.in-Some-since.is) is) c.share.ensures

pub returns-in-None : goal.returns-in-None
returns-in-None c =
    let v = c.self.inside in
    let there = get_read c.as_slice.result.now v.since c.args.place c.in-Some.since.now c.as_slice.ensures c.in-Some.ensures.lookup.3.0 c.in-Some.ensures.lookup.1 in
    if_ok _ _ c.shared_at-in-None.result (λ (values : List (Option (List ℕ))) is.
    value_of v.before.now c.args.self.now v.since c.args.place (Some None) values c.self.invariant c.self.view_is (there ∙ ap Some c.in-None.is) is) c.shared_at-in-None.ensures
