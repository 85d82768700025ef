use Rattle.std.proofs.Common.{ℕ, Bool, ◌++◌, sym, ◌∙◌, ap, Ok}
use Rattle.bt_bib.specs.Spot.{here}
use Rattle.bt_bib.specs.inner.Cases.{next_one, pieces_from}
use Rattle.bt_bib.specs.Boundaries.{last_end}
use Rattle.bt_bib.specs.Splice.{is_common}
use Rattle.bt_bib.specs.inner.CommonBoundary.{until}
use Rattle.bt_bib.proofs.PieceLemmas.{next_piece_less}
use Rattle.bt_bib.proofs.LoopLemmas.{ahead_then, goes_down}
use Rattle.bt_bib.proofs.SpliceLemmas.{until_done, nothing_more, none_until, one_until, one_more, ends_here, goes_on}
use Rattle.bt_bib.proofs.reader.Reader.reread.Goals as goal

pub returns-in-Some-clause-pieces : goal.returns-in-Some-clause-pieces
returns-in-Some-clause-pieces c =
    let test : ℕ → Bool = is_common c.args.old.now c.args.splice.begin c.args.splice.end c.args.splice.inserted in
    let ps = pieces_from (here c.args.self.now.text.now c.again.at) in
    nothing_more c.again.items (until test c.again.at ps) _ (until_done test c.again.at ps c.in-Some.ensures.0) c.again.invariant.same

pub returns-in-Some-clause-ends : goal.returns-in-Some-clause-ends
returns-in-Some-clause-ends c =
    let test : ℕ → Bool = is_common c.args.old.now c.args.splice.begin c.args.splice.end c.args.splice.inserted in
    ap (last_end c.again.at) (sym (until_done test c.again.at (pieces_from (here c.args.self.now.text.now c.again.at)) c.in-Some.ensures.0)) ∙ c.again.invariant.ends

pub returns-in-None-clause-pieces : goal.returns-in-None-clause-pieces
returns-in-None-clause-pieces c =
    let test : ℕ → Bool = is_common c.args.old.now c.args.splice.begin c.args.splice.end c.args.splice.inserted in
    let is = c.in_ok-next.ensures.0 ∙ ap (λ o. (o, here c.args.self.now.text.now c.in_ok-next.end)) c.in-None.is in
    nothing_more c.again.items (until test c.again.at (pieces_from (here c.args.self.now.text.now c.again.at))) _ (none_until test c.args.self.now.text.now c.again.at c.in_ok-next.end is) c.again.invariant.same

pub returns-in-None-clause-ends : goal.returns-in-None-clause-ends
returns-in-None-clause-ends c =
    let test : ℕ → Bool = is_common c.args.old.now c.args.splice.begin c.args.splice.end c.args.splice.inserted in
    let is = c.in_ok-next.ensures.0 ∙ ap (λ o. (o, here c.args.self.now.text.now c.in_ok-next.end)) c.in-None.is in
    ap (last_end c.again.at) (sym (none_until test c.args.self.now.text.now c.again.at c.in_ok-next.end is)) ∙ c.again.invariant.ends

pub returns-in-None-clause-last : goal.returns-in-None-clause-last
returns-in-None-clause-last c = λ _. ends_here c.args.self.now.text.now c.again.at c.in_ok-next.end (c.in_ok-next.ensures.0 ∙ ap (λ o. (o, here c.args.self.now.text.now c.in_ok-next.end)) c.in-None.is)

pub again-smaller : goal.again-smaller
again-smaller c = goes_down next_one next_piece_less c.args.self.now.text.now c.again.at c.in_ok-next.end c.in-Some-next.piece (ap (λ x. Ok x) (c.in_ok-next.ensures.0 ∙ ap (λ o. (o, here c.args.self.now.text.now c.in_ok-next.end)) c.in-Some-next.is))

pub again-preserved : goal.again-preserved
again-preserved c =
    let test : ℕ → Bool = is_common c.args.old.now c.args.splice.begin c.args.splice.end c.args.splice.inserted in
    let is = c.in_ok-next.ensures.0 ∙ ap (λ o. (o, here c.args.self.now.text.now c.in_ok-next.end)) c.in-Some-next.is in
    let p = c.in-Some-next.piece in
    let ps = pieces_from (here c.args.self.now.text.now c.again.at) in
    let qs = pieces_from (here c.args.self.now.text.now c.in_ok-next.end) in
    let one = one_until test c.args.self.now.text.now c.again.at c.in_ok-next.end p c.in_default.ensures is in
    record {
      inside = ahead_then c.args.self.now.text.now c.args.from c.again.at c.in_ok-next.end c.again.invariant.inside c.in_ok-next.ensures.1;
      ends = ap (λ s. last_end s (until test c.in_ok-next.end qs)) (sym (goes_on c.args.self.now.text.now c.again.at c.in_ok-next.end p is).1) ∙ ap (last_end c.again.at) (sym one) ∙ c.again.invariant.ends;
      same = ap (λ l. l ++ until test c.in_ok-next.end qs) c.in_ok-push-in-Some-next.ensures.ok ∙ one_more c.again.items (until test c.again.at ps) (until test c.in_ok-next.end qs) _ p one c.again.invariant.same;
    }
