use Rattle.std.proofs.Common.{◌≡◌, map, take}
use Rattle.concept.specs.Counts.{counted_forms}
use Rattle.concept.specs.Terms.{forms}
use Rattle.concept.proofs.checked.Checked.count.Given as goal

abbrev pub invariant-loop-term : goal.invariant-loop-term
invariant-loop-term l = l.counts.items ≡ map counted_forms (forms (take l.term-index l.term-items))
