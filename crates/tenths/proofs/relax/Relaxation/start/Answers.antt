use Rattle.std.proofs.Common.{◌≡◌, ◌-◌, ◌++◌, length, replicate, take, arith, rules}
use Rattle.tenths.specs.Relaxing.{started}
use Rattle.tenths.proofs.Lowest.{started_size, started_low, started_under, is_started}
use Rattle.tenths.proofs.relax.Relaxation.start.Goals as goal

pub invariant_of-result : goal.invariant_of-result
invariant_of-result c =
    let n = c.args.variables in
    let spots : length (started n) - 1 ≡ n = omega (arith, started_size n) in
    let zeros : c.try_extend_from_slice.new.self.items ≡ c.new-bounds.result.items ++ take n (replicate 512 0) = search rules in
    rw (is_started n c.new-bounds.result.items c.try_extend_from_slice.new.self.items c.push.new.self.items c.requires.few c.new-bounds.ensures zeros c.push.ensures.items) (record {
      low = started_low n;
      some = omega (arith, started_size n);
      fair = rw (started_size n) c.requires.fair;
      under = rw spots (started_under n c.args.links.now);
    })

pub returns-clause-bounds : goal.returns-clause-bounds
returns-clause-bounds c =
    let n = c.args.variables in
    let zeros : c.try_extend_from_slice.new.self.items ≡ c.new-bounds.result.items ++ take n (replicate 512 0) = search rules in
    is_started n c.new-bounds.result.items c.try_extend_from_slice.new.self.items c.push.new.self.items c.requires.few c.new-bounds.ensures zeros c.push.ensures.items
