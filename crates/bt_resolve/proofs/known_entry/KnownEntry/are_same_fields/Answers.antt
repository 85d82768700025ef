use Rattle.std.proofs.Common.{subst, List}
use Rattle.bt_bib.specs.declared.item.Part.{Part}
use Rattle.bt_text.specs.ByName.{known}
use Rattle.bt_resolve.specs.inner.KnownEntries.{IsSameValue}
use Rattle.bt_resolve.proofs.KnownEntryLemmas.{fields_at, fields_end}
use Rattle.bt_resolve.proofs.known_entry.KnownEntry.are_same_fields.Goals as goal

pub fields-preserved : goal.fields-preserved
fields-preserved c = λ rest.
    let old = known c.args.self.now.macros.now in
    let new = known c.args.macros.now in
    let one = subst (λ (parts : List Part). IsSameValue old new parts) c.as_slice.ensures (c.in_ok-same.ensures c.if-not-same.false) in
    c.fields.invariant (fields_at old new c.args.fields.now c.fields.k c.index-fields-k.result c.fields-test.true c.index-fields-k.is one rest)

pub returns : goal.returns
returns c = λ all. c.fields.invariant (fields_end (known c.args.self.now.macros.now) (known c.args.macros.now) c.args.fields.now c.fields.k c.fields-test.false)
