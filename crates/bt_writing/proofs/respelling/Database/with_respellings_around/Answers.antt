use Rattle.std.proofs.Common.{◌∙◌, ap, sym, map, Bor, Option, option_map}
use Rattle.serde_json.specs.View.{view}
use Rattle.bt_bib.specs.declared.placed_pieces.PlacedPiece.{PlacedPiece}
use Rattle.bt_writing.specs.Respelling.{with_respellings_around}
use Rattle.bt_writing.proofs.respelling.Database.with_respellings_around.Goals as goal

pub returns-in_ok-all-in-Some : goal.returns-in_ok-all-in-Some
returns-in_ok-all-in-Some c =
    let list = map view c.args.list.items in
    c.in_ok-all-in-Some.ensures ∙
    ap (λ (p : Option (Bor PlacedPiece)). with_respellings_around c.args.self.now.document.now c.args.self.now.pieces.now list (option_map (λ (q : Bor PlacedPiece). q.now) p)) (sym c.in-Some.is)
