use Rattle.concept.proofs.forest.Forest.+write_plain_write_turned.Given as goal

abbrev pub decreases-write_plain : goal.decreases-write_plain
decreases-write_plain l = l.place

abbrev pub decreases-write_turned : goal.decreases-write_turned
decreases-write_turned l = l.place
