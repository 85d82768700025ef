use Rattle.std.specs.Prelude.{slice_index_or}
use Rattle.std.proofs.Common.{◌∙◌, ap, sym, arith, length, List}
use Rattle.bt_actions.specs.declared.entry.Entry.{Entry}
use Rattle.bt_resolve.specs.declared.entry.Resolved.{Resolved}
use Rattle.bt_run.proofs.ChangedEntryLemmas.{keyed_alone}
use Rattle.bt_run.proofs.kept.Kept.is_only_of_key.Goals as goal

pub returns-clause-keyed : goal.returns-clause-keyed
returns-clause-keyed c = λ go.
    let kept = c.args.self.now in
    let k = c.args.found.now in
    let place = c.args.place in
    let e = c.index-entries-place.result in
    let are = c.as_slice-entries.ensures in
    keyed_alone k kept.entries place c.args.key.now e c.requires.apart (kept.found.found c.requires.own k c.requires.is)
    (omega (arith, c.if-found-entries.false, ap length c.as_slice-found.ensures, ap (λ (r : Resolved). length r.entries) c.resolved.ensures, ap length are))
    (omega (arith, c.if-place-entries.false, ap length are))
    (c.index-entries-place.is ∙ ap (λ (es : List Entry). slice_index_or es place e) are)
    (sym c.deref.ensures ∙ sym c.as_slice.ensures ∙ c.equal_bytes.ensures go)
