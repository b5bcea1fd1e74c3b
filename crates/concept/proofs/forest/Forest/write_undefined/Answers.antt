use Rattle.std.proofs.Common.{refl}
use Rattle.concept.specs.declared.normal.Normal.TheVariants.{Lacks, Forall}
use Rattle.concept.proofs.Trees.{leaf_as, all_grown}
use Rattle.concept.proofs.Writing.{takes_tree, grown_as, undefined_none, undefined_one, undefined_two, undefined_three}
use Rattle.concept.proofs.forest.Forest.write_undefined.Goals as goal

pub returns-in-0-default-default : goal.returns-in-0-default-default
returns-in-0-default-default c = grown_as (undefined_none c.args.chain c.in-0-default-default.is-0) (leaf_as (Lacks 0) refl c.push.ensures)

pub returns-in_default-eq0-default : goal.returns-in_default-eq0-default
returns-in_default-eq0-default c =
    let chain = c.args.chain in
    grown_as (undefined_one chain c.in_default-eq0-default.is-0.1 c.in_default-eq0-default.is-1) (leaf_as (Lacks chain.first) refl c.push-in_default-eq0-default.ensures)

-- two steps
pub push-requires-in_default-default-eq0-clause-takes : goal.push-requires-in_default-default-eq0-clause-takes
push-requires-in_default-default-eq0-clause-takes c =
    takes_tree c.args.self (Forall c.args.chain.first c.push-end.result.1) (leaf_as (Lacks c.args.chain.second) refl c.push-end.ensures) refl

pub returns-in_default-default-eq0 : goal.returns-in_default-default-eq0
returns-in_default-default-eq0 c =
    let chain = c.args.chain in
    let way = c.in_default-default-eq0 in
    grown_as (undefined_two chain way.is-0.1 way.is-1.1 way.is-2)
    (all_grown chain.first (leaf_as (Lacks chain.second) refl c.push-end.ensures) c.push-in_default-default-eq0.ensures)

-- three steps
pub push-rest-requires-clause-takes : goal.push-rest-requires-clause-takes
push-rest-requires-clause-takes c =
    takes_tree c.args.self (Forall c.args.chain.second c.push-end-in_default.result.1) (leaf_as (Lacks c.args.chain.third) refl c.push-end-in_default.ensures) refl

pub push-requires-in_default-clause-takes : goal.push-requires-in_default-clause-takes
push-requires-in_default-clause-takes c =
    let end = leaf_as (Lacks c.args.chain.third) refl c.push-end-in_default.ensures in
    takes_tree c.args.self (Forall c.args.chain.first c.push-rest.result.1) (all_grown c.args.chain.second end c.push-rest.ensures) refl

pub returns-in_default : goal.returns-in_default
returns-in_default c =
    let chain = c.args.chain in
    let way = c.in_default in
    let end = leaf_as (Lacks chain.third) refl c.push-end-in_default.ensures in
    grown_as (undefined_three chain way.is-0.1 way.is-1.1 way.is-2.1)
    (all_grown chain.first (all_grown chain.second end c.push-rest.ensures) c.push-in_default.ensures)
