use Rattle.std.proofs.Common.{subst, List, Option}
use Rattle.std.specs.Prelude.{IfSome}
use Rattle.bt_bib.specs.declared.item.Field.{Field}
use Rattle.bt_text.specs.ByName.{known}
use Rattle.bt_text.proofs.NameLemmas.{if_ok}
use Rattle.bt_resolve.specs.declared.known_entry.KnownEntry.{KnownEntry}
use Rattle.bt_resolve.specs.inner.KnownEntries.{AreSameFields, KnowsEntry, entry_of}
use Rattle.bt_resolve.proofs.KnownEntryLemmas.{key_again, stored_again, told_again}
use Rattle.bt_resolve.proofs.PlacingLemmas.{always}
use Rattle.bt_resolve.proofs.reader.Reader.known_or_stored.Goals as goal

pub returns-clause-key : goal.returns-clause-key
returns-clause-key c =
    let r = c.args.self.now in
    let k = c.in-Some.earlier in
    let e = c.args.entry.now in
    let knows = subst (λ (o : Option KnownEntry). IfSome o (KnowsEntry r.asked.now r.origin.database r.item.now.line e)) c.in-Some.is c.requires.known in
    let same = subst (λ (fs : List Field). AreSameFields (known k.macros.now) (known c.args.macros.now) fs) c.as_slice.ensures (c.in_ok-same.ensures c.if-not-same.false) in
    if_ok _ _ c.share.result (λ s is. key_again r.asked.now (known k.macros.now) (known c.args.macros.now) r.origin.database r.item.now.line e c.args.key.now (entry_of k) s (knows c.args.key.now c.requires.key) same is) c.share.ensures

pub returns-clause-stored : goal.returns-clause-stored
returns-clause-stored c =
    let r = c.args.self.now in
    let k = c.in-Some.earlier in
    let e = c.args.entry.now in
    let knows = subst (λ (o : Option KnownEntry). IfSome o (KnowsEntry r.asked.now r.origin.database r.item.now.line e)) c.in-Some.is c.requires.known in
    let same = subst (λ (fs : List Field). AreSameFields (known k.macros.now) (known c.args.macros.now) fs) c.as_slice.ensures (c.in_ok-same.ensures c.if-not-same.false) in
    if_ok _ _ c.share.result (λ s is. stored_again r.asked.now (known k.macros.now) (known c.args.macros.now) r.origin.database r.item.now.line e c.args.key.now (entry_of k) s (knows c.args.key.now c.requires.key) same is) c.share.ensures

pub returns-clause-messages : goal.returns-clause-messages
returns-clause-messages c =
    let r = c.args.self.now in
    let k = c.in-Some.earlier in
    let e = c.args.entry.now in
    let knows = subst (λ (o : Option KnownEntry). IfSome o (KnowsEntry r.asked.now r.origin.database r.item.now.line e)) c.in-Some.is c.requires.known in
    let same = subst (λ (fs : List Field). AreSameFields (known k.macros.now) (known c.args.macros.now) fs) c.as_slice.ensures (c.in_ok-same.ensures c.if-not-same.false) in
    always c.share.result _ (told_again r.asked.now (known k.macros.now) (known c.args.macros.now) r.origin r.item.now.line e c.args.key.now (entry_of k) c.args.messages.now (knows c.args.key.now c.requires.key) same)
