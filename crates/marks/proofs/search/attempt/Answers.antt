use Rattle.std.proofs.Common.{ℕ, Option, Some, None, MatchOption, List, sym, refl, arith}
use Rattle.marks.specs.Choices.{Never, Needless, Given}
use Rattle.marks.proofs.Searching.{never_needless, absent_needless, twin_needless}
use Rattle.marks.proofs.search.attempt.Goals as goal
use Rattle.marks.proofs.search.attempt.Goals.{then-not-has_bit-via-then-not-has_bit, then-not-has_bit-via-else-not-has_bit+then-has_twin}

pub returns-then-not-has_bit : goal.returns-then-not-has_bit
returns-then-not-has_bit c =
    elim c.then-not-has_bit.branch [
      | then-not-has_bit-via-then-not-has_bit w ↦
          absent_needless c.args.sets.now c.args.apart.now c.args.v c.args.b.number (omega arith) (sym w.if-not-has_bit.ensures)
      | then-not-has_bit-via-else-not-has_bit+then-has_twin w ↦
          let twin = w.if-has_twin.ensures refl in
          twin_needless c.args.sets.now c.args.apart.now c.args.v c.args.b.number twin.0 twin.1 c.args.b.known twin.2
    ]

pub returns : goal.returns
returns c = or_else c.give.result c.give.ensures
  where
    or_else : (r : Option (List ℕ)) → MatchOption r (Never c.args.sets.now c.args.apart.now c.args.v c.args.b.number) (Given c.args.sets.now c.args.apart.now c.args.v c.args.b.number)
        → MatchOption r (Needless c.args.sets.now c.args.apart.now c.args.v c.args.b.number) (Given c.args.sets.now c.args.apart.now c.args.v c.args.b.number)
    or_else None never = never_needless c.args.sets.now c.args.apart.now c.args.v c.args.b.number never
    or_else (Some given) g = g
