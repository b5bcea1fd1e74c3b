use Rattle.std.proofs.Common.{◌≡◌, ℕ, ◌+◌, ◌<◌, set, MatchOption, sym, subst, arith, rules}
use Rattle.marks.specs.Choices.{Within, Never, Given}
use Rattle.marks.proofs.Listing.{pair_is}
use Rattle.marks.proofs.Giving.{Parted, Giving, giving_none, giving_more, giving_stuck, giving_all, parted_more, parted_stuck, parted_apart, other_listed}
use Rattle.marks.proofs.search.give.Goals as goal
use Rattle.marks.proofs.search.give.Goals.{in-Some+in_ok-given, in_default}

pub loop-pair-init : goal.loop-pair-init
loop-pair-init c =
    giving_none c.args.sets.now c.args.apart.now c.args.v c.args.b.number c.only.result
    c.requires.full (omega arith) c.requires.allowed c.only.type_inv c.args.b.known c.only.ensures

pub loop-pair-preserved : goal.loop-pair-preserved
loop-pair-preserved c =
    let is = pair_is c.args.apart.now c.loop-pair.pair-index _ c.loop-pair-test.true c.pair-item.is in
    elim c.match-other.branch [
      | in-Some+in_ok-given w ↦
          let listed = other_listed c.pair-item.result c.args.v w.in-Some.w w.in-Some.ensures in
          let small : w.in_ok-given.field-0 < 65536 = search rules in
          subst (Giving c.args.sets.now c.args.apart.now c.args.v c.args.b.number (c.loop-pair.pair-index + 1)) (sym w.given-is)
          (giving_more c.args.sets.now c.args.apart.now c.args.v c.args.b.number c.loop-pair.given _ c.loop-pair.pair-index c.loop-pair.invariant
          c.loop-pair-test.true c.args.b.known
          (subst (λ q. Parted c.loop-pair.given q c.args.v c.args.b.number (set c.loop-pair.given w.in-Some.w w.in_ok-given.field-0)) (sym is)
          (parted_more c.loop-pair.given c.pair-item.result c.args.v c.args.b.number w.in-Some.w w.in-Some.ensures c.loop-pair.invariant.full
          (let size = c.loop-pair.invariant.size in omega arith) c.args.b.known w.in_ok-given.field-0 w.in_ok-given.ensures small)))
      | in_default w ↦
          subst (Giving c.args.sets.now c.args.apart.now c.args.v c.args.b.number (c.loop-pair.pair-index + 1)) (sym w.given-is)
          (giving_more c.args.sets.now c.args.apart.now c.args.v c.args.b.number c.loop-pair.given _ c.loop-pair.pair-index c.loop-pair.invariant
          c.loop-pair-test.true c.args.b.known
          (subst (λ q. Parted c.loop-pair.given q c.args.v c.args.b.number c.loop-pair.given) (sym is)
          (parted_apart c.loop-pair.given c.pair-item.result c.args.v c.args.b.number c.loop-pair.invariant.full w.in_default.ensures)))
    ]

pub returns-in_err-given : goal.returns-in_err-given
returns-in_err-given c =
    let is = pair_is c.args.apart.now c.loop-pair.pair-index _ c.loop-pair-test.true c.pair-item.is in
    let listed = other_listed c.pair-item.result c.args.v c.in-Some.w c.in-Some.ensures in
    subst (λ r. MatchOption r (Never c.args.sets.now c.args.apart.now c.args.v c.args.b.number) (Given c.args.sets.now c.args.apart.now c.args.v c.args.b.number))
    (sym c.from_residual.ensures)
    (giving_stuck c.args.sets.now c.args.apart.now c.args.v c.args.b.number c.loop-pair.given c.loop-pair.given c.loop-pair.pair-index
    c.loop-pair.invariant c.loop-pair-test.true
    (subst (λ q. (f : ℕ → ℕ) → Within c.loop-pair.given f → f c.args.v ≡ c.args.b.number → (f q.left ≡ f q.right → ⊥) → ⊥) (sym is)
    (parted_stuck c.loop-pair.given c.pair-item.result c.args.v c.args.b.number c.in-Some.w c.in-Some.ensures c.loop-pair.invariant.full
    (let size = c.loop-pair.invariant.size in omega arith) c.args.b.known c.in_err-given.ensures)))

pub returns : goal.returns
returns c =
    giving_all c.args.sets.now c.args.apart.now c.args.v c.args.b.number c.loop-pair.given c.loop-pair.pair-index c.loop-pair.invariant
    c.loop-pair-test.false (omega arith)
