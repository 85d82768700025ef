use Rattle.std.specs.Prelude.{option_map}
use Rattle.std.proofs.Common.{◌≡◌, take}
use Rattle.bt_resolve.specs.inner.Heirs.{with_made}
use Rattle.bt_run.specs.inner.ChangedEntry.{with_other}
use Rattle.bt_run.proofs.changed_entry.only_changed.Given as goal

abbrev pub invariant-made : goal.invariant-made
invariant-made l = with_made (take l.number l.made) l.entries ≡ with_other (option_map (λ o. o.now) l.other) l.entries
