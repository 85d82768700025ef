use Rattle.std.proofs.Common.{◌≡◌, ◌∙◌, ◌++◌, ap, List}
use Rattle.bt_resolve.specs.declared.stored.Stored.{Stored}
use Rattle.bt_resolve.specs.References.{list_messages}
use Rattle.bt_resolve.specs.inner.Inheritance.{seen_of}
use Rattle.bt_resolve.specs.inner.Kept.{found_of}
use Rattle.bt_resolve.proofs.found.found_in.Goals as goal

pub returns : goal.returns
returns c =
    let read = c.args.read in
    let a = c.args.asked.now in
    let made = c.in_ok-seen.ensures in
    let store : c.in_ok-family.family ≡ read.store = c.in_ok-family.ensures ∙ c.replace-store.ensures.value in
    let messages = made.messages ∙ ap (λ (ss : List Stored). read.messages ++ list_messages a ss) store in
    let seen = made.seen ∙ ap (seen_of a c.args.min) store in
    c.in_ok-found.ensures ∙ (λ j. found_of (record read { store = store j; messages = messages j }) c.args.reaches (seen j))
