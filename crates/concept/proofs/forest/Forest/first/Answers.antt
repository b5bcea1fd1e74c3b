use Rattle.std.proofs.Common.{◌≤◌, arith}
use Rattle.std.proofs.lemmas.List.{length-take}
use Rattle.concept.proofs.Items.{fields, cut_ordered}
use Rattle.concept.proofs.forest.Forest.first.Goals as goal

pub invariant_of-result : goal.invariant_of-result
invariant_of-result c =
    let f = c.args.self in
    let le : c.args.len ≤ f.len = omega (arith, c.requires, f.filled) in
    fields _ _ (omega arith) (omega (arith, f.filled, length-take f.len f.nodes)) (cut_ordered f.nodes c.args.len f.len le f.ordered)
