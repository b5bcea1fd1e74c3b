use Rattle.std.proofs.Common.{◌≡◌, ℕ, ◌<◌, ◌≤◌, length}
use Rattle.marks.specs.Joins.{root_of, renamed}
use Rattle.marks.proofs.join.rename.Given as goal

abbrev pub invariant-loop-root : goal.invariant-loop-root
invariant-loop-root l =
    (length l.roots ≡ 512)
    × ((v : ℕ) → v < l.root-index → root_of l.roots v ≡ renamed l.from l.to (root_of l.initial.roots v))
    × ((v : ℕ) → l.root-index ≤ v → root_of l.roots v ≡ root_of l.initial.roots v)
