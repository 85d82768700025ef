use Rattle.std.proofs.Common.{map}
use Rattle.bt_bib.specs.Items.{items_of}
use Rattle.bt_resolve.specs.Resolved.{all_items}
use Rattle.bt_resolve.proofs.BeforeLemmas.{macros_are}
use Rattle.bt_resolve.proofs.macros_before.macros_before.Goals as goal

pub returns : goal.returns
returns c =
    macros_are c.args.style.now (all_items (map items_of c.args.databases.now)) (items_of c.args.pieces.now) _ _ _ c.in_ok-macros.ensures c.in_ok-define_databases.ensures c.in_ok-define_pieces.ensures
