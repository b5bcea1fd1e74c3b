use Rattle.std.proofs.Common.{◌≡◌, ◌-◌, ◌<◌, length, Decides, inl, inr, refl}
use Rattle.std.proofs.lemmas.Bool.{cases_Bool, both_ways}
use Rattle.std.specs.List.{All}
use Rattle.tenths.specs.Differences.{at}
use Rattle.tenths.proofs.Lowest.{is_lowest, in_range}
use Rattle.tenths.proofs.relax.Relaxation.lowest.Goals as goal

pub returns-then-settle-clause-lowest : goal.returns-then-settle-clause-lowest
returns-then-settle-clause-lowest c =
    let links = c.args.self.now.links.now in
    let ds = c.args.self.now.bounds.items in
    let after = c.settle.new.self.bounds.items in
    let told : Decides c.in_range.result ((at after (length after - 1) ≡ 32768) × All (λ b. b < 65536) after) = rw c.deref.ensures.0 at c.in_range.ensures in
    elim (cases_Bool c.in_range.result) [
      | inl t ↦ rw t (is_lowest (length ds - 1) links links ds after refl c.requires c.settle.ensures.spots c.settle.result c.settle.ensures.bounds c.if-settle.true (told.0 t))
      | inr f ↦ rw f (λ v p. both_ways c.in_range.result f (told.1 (in_range (length ds - 1) links links ds after refl c.requires c.settle.ensures.spots c.settle.result c.settle.ensures.bounds c.if-settle.true v p)))
    ]
