use Rattle.bt_check.proofs.checker.Checker.+evaluation.Given as goal

abbrev pub decreases-body : goal.decreases-body
decreases-body l = l.depth

abbrev pub decreases-word : goal.decreases-word
decreases-word l = l.depth

abbrev pub decreases-call : goal.decreases-call
decreases-call l = l.depth

abbrev pub decreases-enter : goal.decreases-enter
decreases-enter l = l.depth

abbrev pub decreases-builtin : goal.decreases-builtin
decreases-builtin l = l.depth

abbrev pub decreases-branch : goal.decreases-branch
decreases-branch l = l.depth

abbrev pub decreases-run : goal.decreases-run
decreases-run l = l.depth

abbrev pub decreases-call_type : goal.decreases-call_type
decreases-call_type l = l.depth

abbrev pub decreases-repeat : goal.decreases-repeat
decreases-repeat l = l.depth

abbrev pub decreases-turn : goal.decreases-turn
decreases-turn l = l.depth
