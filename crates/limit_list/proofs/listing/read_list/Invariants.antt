-- The lines so far are listed.
use Rattle.std.proofs.Common.{◌+◌}
use Rattle.std.specs.Iterator.Adapters.{enumerate_count, enumerate_source}
use Rattle.text.specs.Lines.{left_in}
use Rattle.limit_list.proofs.Listings.{Sofar}
use Rattle.limit_list.proofs.listing.read_list.Given as goal

abbrev pub invariant-loop-index : goal.invariant-loop-index
invariant-loop-index l =
    (goal.iterator-loop-index).can_next l.index-iterator
    × (goal.iterator-loop-index).is_finite l.index-iterator
    × Sofar l.text (enumerate_count l.index-iterator + 1) (left_in (enumerate_source l.index-iterator)) l.list
