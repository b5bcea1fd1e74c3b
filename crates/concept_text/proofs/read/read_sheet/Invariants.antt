-- The lines that are still to come are those after the ones that were read.
use Rattle.std.proofs.Common.{◌≡◌, ◌≤◌, drop, length}
use Rattle.text.specs.Lines.{lines, left_in}
use Rattle.concept_text.specs.Adding.{Few}
use Rattle.concept_text.proofs.read.read_sheet.Given as goal

abbrev pub invariant-loop-place : goal.invariant-loop-place
invariant-loop-place l =
    (goal.iterator-loop-place).can_next l.place-iterator
    × (goal.iterator-loop-place).is_finite l.place-iterator
    × Few l.sheet
    × (left_in l.place-iterator.iter ≡ drop l.place-iterator.count (lines l.fn.text))
    × (l.place-iterator.count ≤ length (lines l.fn.text))
