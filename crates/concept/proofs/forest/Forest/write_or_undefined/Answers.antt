use Rattle.std.proofs.Common.{refl}
use Rattle.concept.specs.declared.normal.Normal.TheVariants.{Or}
use Rattle.concept.proofs.Trees.{leaf_as, disj_grown}
use Rattle.concept.proofs.Writing.{takes_trees}
use Rattle.concept.proofs.forest.Forest.write_or_undefined.Goals as goal

pub push-requires-clause-takes : goal.push-requires-clause-takes
push-requires-clause-takes c =
    takes_trees c.args.self (Or c.push-leaf.result.1 c.write_undefined-nowhere.result.1) (leaf_as c.args.leaf c.requires.alone c.push-leaf.ensures) c.write_undefined-nowhere.ensures refl

pub returns : goal.returns
returns c = disj_grown (leaf_as c.args.leaf c.requires.alone c.push-leaf.ensures) c.write_undefined-nowhere.ensures c.push.ensures
