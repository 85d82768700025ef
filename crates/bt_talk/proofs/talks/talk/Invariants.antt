use Rattle.std.proofs.Common.{◌≡◌, ◌++◌, ℕ, List, Some}
use Rattle.bt_talk.proofs.TalkLemmas.{TalksOn}
use Rattle.bt_talk.proofs.talks.talk.Given as goal

abbrev pub invariant-turns : goal.invariant-turns
invariant-turns g l =
    let source = g.S.Source in
    let sink = g.K.Sink in
    let desk = g.D.Desk in
    record {
      reads : (source.seen l.source).failures ≡ (source.seen l.fn.source).failures;
      writes : (sink.seen l.sink).failures ≡ (sink.seen l.fn.sink).failures;
      talked : (input : List ℕ) (said : List ℕ) → (source.seen l.fn.source).rest ≡ Some input → (sink.seen l.fn.sink).contents ≡ Some said →
          (mid : List ℕ) × (told : List ℕ) × ((source.seen l.source).rest ≡ Some mid) × ((sink.seen l.sink).contents ≡ Some (said ++ told)) ×
          TalksOn desk.answers desk.notes desk.lost desk.is_over input mid l.fn.desk told l.desk;
    }

abbrev pub decreases-turns : goal.decreases-turns
decreases-turns g l = (g.S.Source.seen l.source).reads_left
