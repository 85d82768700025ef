use Rattle.bt_check.proofs.values.Values.+testing.Given as goal

abbrev pub decreases-tested : goal.decreases-tested
decreases-tested l = l.depth

abbrev pub decreases-choice_tested : goal.decreases-choice_tested
decreases-choice_tested l = l.depth
