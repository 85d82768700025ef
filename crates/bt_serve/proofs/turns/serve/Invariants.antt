use Rattle.std.proofs.Common.{◌≡◌, ℕ, List, Bool, true, Some}
use Rattle.bt_serve.specs.Commands.{Command}
use Rattle.bt_serve.specs.Serves.{Answered}
use Rattle.bt_serve.proofs.turns.serve.Given as goal

abbrev pub invariant-turns : goal.invariant-turns
invariant-turns g l =
    let source = g.S.Source in
    let sink = g.K.Sink in
    record {
      reads : (source.seen l.source).failures ≡ (source.seen l.fn.source).failures;
      writes : (sink.seen l.sink).failures ≡ (sink.seen l.fn.sink).failures;
      flushed : (sink.seen l.fn.sink).is_flushed ≡ true → (sink.seen l.sink).is_flushed ≡ true;
      answered : (input : List ℕ) (said : List ℕ) → (source.seen l.fn.source).rest ≡ Some input → (sink.seen l.fn.sink).contents ≡ Some said →
          (cs : List Command) × (ms : List Bool) × (mid : List ℕ) × (told : List ℕ) × ((source.seen l.source).rest ≡ Some mid) × ((sink.seen l.sink).contents ≡ Some told) ×
          Answered input mid said told l.fn.session l.session cs ms;
    }

abbrev pub decreases-turns : goal.decreases-turns
decreases-turns g l = (g.S.Source.seen l.source).reads_left
