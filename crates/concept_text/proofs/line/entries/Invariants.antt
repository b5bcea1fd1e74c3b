-- What was there stays in front, and every entry shortens the line.
use Rattle.std.proofs.Common.{length}
use Rattle.concept_text.specs.Adding.{Extends}
use Rattle.concept_text.proofs.line.entries.Given as goal

abbrev pub invariant-loop-list : goal.invariant-loop-list
invariant-loop-list g l = Extends l.fn.list.items l.list.items

abbrev pub decreases-loop-list : goal.decreases-loop-list
decreases-loop-list g l = length l.line.rest.now
