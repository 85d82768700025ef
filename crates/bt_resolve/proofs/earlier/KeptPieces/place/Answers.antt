use Rattle.std.proofs.Common.{◌≡◌, ◌∙◌, ap, sym, ◌+◌, ◌-◌, arith}
use Rattle.bt_resolve.specs.inner.Earlier.{piece_at}
use Rattle.bt_resolve.proofs.earlier.KeptPieces.place.Goals as goal

pub returns : goal.returns
returns c = λ old new kept.
    let behind = c.args.index - c.args.self.before - c.args.self.added in
    let sum : c.args.self.before + c.args.self.added + behind ≡ c.args.index = omega (arith, c.if-index-self.false, c.if-behind-self.false) in
    ap (piece_at new) (sym sum) ∙ kept.back behind ∙ ap (piece_at old) (sym c.in_ok-place.ensures.1)
