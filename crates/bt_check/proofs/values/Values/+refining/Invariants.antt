use Rattle.bt_check.proofs.values.Values.+refining.Given as goal

abbrev pub decreases-refine_within : goal.decreases-refine_within
decreases-refine_within l = l.depth

abbrev pub decreases-refine_plain : goal.decreases-refine_plain
decreases-refine_plain l = l.depth

abbrev pub decreases-refine_both : goal.decreases-refine_both
decreases-refine_both l = l.depth

abbrev pub decreases-refine_choice : goal.decreases-refine_choice
decreases-refine_choice l = l.depth

abbrev pub decreases-again : goal.decreases-again
decreases-again l = l.depth
