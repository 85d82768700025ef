use Rattle.std.proofs.Common.{◌≡◌, drop}
use Rattle.std.specs.List.{find}
use Rattle.bt_text.specs.CaseFolding.{is_same_folded}
use Rattle.bt_style.specs.declared.verbs.Verb.{Verb}
use Rattle.bt_style.specs.Verbs.{word_of}
use Rattle.bt_style.proofs.verbs.verb_among.Given as goal

abbrev pub invariant-loop-verb : goal.invariant-loop-verb
invariant-loop-verb l =
    let test = λ (verb : Verb). is_same_folded l.word (word_of verb) in
    find test (drop l.verb-index l.verbs) ≡ find test l.verbs
