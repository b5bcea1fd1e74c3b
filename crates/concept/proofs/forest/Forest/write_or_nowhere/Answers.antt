use Rattle.std.proofs.Common.{refl}
use Rattle.concept.specs.declared.normal.Normal.TheVariants.{Or}
use Rattle.concept.proofs.Trees.{leaf_as, disj_grown}
use Rattle.concept.proofs.Writing.{takes_trees}
use Rattle.concept.proofs.forest.Forest.write_or_nowhere.Goals as goal

pub push-requires-clause-takes : goal.push-requires-clause-takes
push-requires-clause-takes c =
    let leaf = leaf_as c.args.leaf c.requires.alone c.push-leaf.ensures in
    let none = disj_grown c.write_undefined-left.ensures c.write_undefined-right.ensures c.push-nowhere.ensures in
    takes_trees c.args.self (Or c.push-leaf.result.1 c.push-nowhere.result.1) leaf none refl

pub returns : goal.returns
returns c =
    let leaf = leaf_as c.args.leaf c.requires.alone c.push-leaf.ensures in
    let none = disj_grown c.write_undefined-left.ensures c.write_undefined-right.ensures c.push-nowhere.ensures in
    disj_grown leaf none c.push.ensures
