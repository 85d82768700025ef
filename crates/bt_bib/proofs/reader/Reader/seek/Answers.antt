use Rattle.std.proofs.Common.{drop, take, length, ◌-◌}
use Rattle.std.proofs.lemmas.List.{take_rest}
use Rattle.memchr.specs.Find.{is_byte}
use Rattle.bt_bib.proofs.SeekLemmas.{jumps}
use Rattle.bt_bib.proofs.reader.Reader.seek.Goals as goal

pub returns-clause-value : goal.returns-clause-value
returns-clause-value c =
    let text = c.args.self.now.text.now in
    let s = c.args.from in
    jumps (is_byte 64) text (take (length text - s.place) (drop s.place text)) s c.ahead.result c.memchr.result c.unwrap_or-count.result (take_rest text s.place) c.memchr.ensures c.unwrap_or-count.ensures c.ahead.ensures.value
