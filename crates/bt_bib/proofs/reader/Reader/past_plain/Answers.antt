use Rattle.std.proofs.Common.{ap, arith, drop, take, length, refl, ◌+◌, ◌-◌}
use Rattle.std.proofs.lemmas.List.{take_rest}
use Rattle.bt_bib.proofs.EnclosedLemmas.{upto_feed, upto_found}
use Rattle.bt_bib.proofs.reader.Reader.past_plain.Goals as goal

pub returns-then-close-eq125-clause-value : goal.returns-then-close-eq125-clause-value
returns-then-close-eq125-clause-value c =
    let text = c.args.self.now.text.now in
    let s = c.args.from in
    let most = c.min.result in
    upto_feed c.args.close text (take most (take (length text - s.place) (drop s.place text))) s (record { place = s.place + c.unwrap_or-count.result; line = s.line }) most c.memchr3.result c.unwrap_or-count.result c.if-close-eq125.true (ap (take most) (take_rest text s.place)) (omega (arith, c.min.ensures)) c.memchr3.ensures c.unwrap_or-count.ensures refl refl

pub returns-else-close-eq125-clause-value : goal.returns-else-close-eq125-clause-value
returns-else-close-eq125-clause-value c =
    let text = c.args.self.now.text.now in
    let s = c.args.from in
    let most = c.min.result in
    upto_found c.args.close text (take most (take (length text - s.place) (drop s.place text))) s c.ahead.result most c.memchr3-else-close-eq125.result c.unwrap_or-count-else-close-eq125.result (ap (take most) (take_rest text s.place)) (omega (arith, c.min.ensures)) c.memchr3-else-close-eq125.ensures c.unwrap_or-count-else-close-eq125.ensures c.ahead.ensures.value
