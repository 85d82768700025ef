use Rattle.std.proofs.Common.{◌∙◌, ap, map}
use Rattle.std.specs.Prelude.{bytes_eq}
use Rattle.std.specs.Map.{lookup}
use Rattle.bt_text.specs.ByName.{listed}
use Rattle.bt_text.proofs.NameLemmas.{on_ok, insert_entries, lookup_insert}
use Rattle.bt_text.proofs.by_name.ByName.put.Goals as goal

pub returns : goal.returns
returns g c = λ other.
    ap (λ es. lookup (bytes_eq other) (map (λ e. (e.0.items, e.1)) es)) (on_ok _ c.insert.result (c.insert.ensures.succeeds c.requires) c.insert.ensures.entries)
    ∙ ap (λ es. lookup (bytes_eq other) es) (insert_entries c.args.small c.args.value c.args.self.now.values.entries)
    ∙ lookup_insert c.args.small.items other c.args.value (listed c.args.self.now)
