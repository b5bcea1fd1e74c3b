-- The rows up to this one are dealt.
use Rattle.std.proofs.Common.{◌≡◌, take}
use Rattle.pair.specs.Split.{number, side_rows}
use Rattle.pair.proofs.split.Share.deal_rows.Given as goal

abbrev pub invariant-loop-row : goal.invariant-loop-row
invariant-loop-row l =
    (l.self.rows.items ≡ side_rows (number l.initial.self.side) l.initial.self.places.items (take l.row-index l.rows))
    × (l.self.side ≡ l.initial.self.side)
    × (l.self.kinds ≡ l.initial.self.kinds)
    × (l.self.places ≡ l.initial.self.places)
