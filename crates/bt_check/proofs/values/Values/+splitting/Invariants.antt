use Rattle.bt_check.proofs.values.Values.+splitting.Given as goal

abbrev pub decreases-split_within : goal.decreases-split_within
decreases-split_within l = l.depth

abbrev pub decreases-split_branch : goal.decreases-split_branch
decreases-split_branch l = l.depth

abbrev pub decreases-split_choice : goal.decreases-split_choice
decreases-split_choice l = l.depth
