use Rattle.std.proofs.Common.{◌≡◌, ◌<◌, length, is_some, sym, ap, ◌∙◌, arith, rules}
use Rattle.std.proofs.lemmas.List.{length-set}
use Rattle.concept.specs.Forests.{rooted, roots}
use Rattle.concept.specs.Held.{items}
use Rattle.concept.proofs.Items.{fields, length_items, push_ordered}
use Rattle.concept.proofs.forest.Forest.push.Goals as goal

pub invariant_of-result : goal.invariant_of-result
invariant_of-result c =
    let f = c.args.self in
    let n : length f.nodes ≡ 256 = search rules in
    let same : length (items f) ≡ f.len = length_items f in
    let room : f.len < 256 = omega (arith, c.requires.room) in
    fields _ _ (omega arith) (omega (arith, length-set f.nodes f.len c.args.node))
    (push_ordered f.nodes f.len c.args.node (omega arith) (ap (λ k. is_some (rooted k c.args.node (roots (items f)))) (sym same) ∙ c.requires.takes))
