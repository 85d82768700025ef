use Rattle.bt_check.proofs.values.Values.+deciding.Given as goal

abbrev pub decreases-decide_within : goal.decreases-decide_within
decreases-decide_within l = l.depth

abbrev pub decreases-decide_choice : goal.decreases-decide_choice
decreases-decide_choice l = l.depth

abbrev pub decreases-decide_made : goal.decreases-decide_made
decreases-decide_made l = l.depth

abbrev pub decreases-bounds_within : goal.decreases-bounds_within
decreases-bounds_within l = l.depth

abbrev pub decreases-choice_bounds : goal.decreases-choice_bounds
decreases-choice_bounds l = l.depth

abbrev pub decreases-made_bounds : goal.decreases-made_bounds
decreases-made_bounds l = l.depth
