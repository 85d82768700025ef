use Rattle.bt_check.proofs.values.Values.+kinds.Given as goal

abbrev pub decreases-kinds_within : goal.decreases-kinds_within
decreases-kinds_within l = l.depth

abbrev pub decreases-choice_kinds : goal.decreases-choice_kinds
decreases-choice_kinds l = l.depth

abbrev pub decreases-kinds_if : goal.decreases-kinds_if
decreases-kinds_if l = l.depth
