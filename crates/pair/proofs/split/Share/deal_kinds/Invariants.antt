-- The kinds up to this one are dealt.
use Rattle.std.proofs.Common.{◌≡◌, ℕ, ◌<◌, length, get_or, take}
use Rattle.pair.specs.Split.{number, side_kinds, rank}
use Rattle.pair.proofs.split.Share.deal_kinds.Given as goal

abbrev pub invariant-loop-kind : goal.invariant-loop-kind
invariant-loop-kind l =
    (l.self.kinds.items ≡ side_kinds (number l.initial.self.side) (take l.kind-index l.kinds))
    × (length l.self.places.items ≡ l.kind-index)
    × ((k : ℕ) → k < l.kind-index → get_or l.self.places.items k 0 ≡ rank (number l.initial.self.side) l.kinds k)
    × (l.self.side ≡ l.initial.self.side)
    × (l.self.rows ≡ l.initial.self.rows)
