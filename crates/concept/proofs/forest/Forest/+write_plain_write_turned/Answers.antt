use Rattle.std.proofs.Common.{refl}
use Rattle.concept.specs.declared.normal.Normal.TheVariants.{Atom, NotAtom, Has, Lacks, Holds, Meets, Parts}
use Rattle.concept.proofs.Trees.{leaf_as, some_grown, all_grown, conj_grown, disj_grown}
use Rattle.concept.proofs.Writing.{grown_as, plain_of, turned_of}
use Rattle.concept.proofs.forest.Forest.+write_plain_write_turned.Goals as goal

-- what a place stands for

pub write_plain-returns-in-Atom : goal.write_plain-returns-in-Atom
write_plain-returns-in-Atom t c =
    grown_as (plain_of c.in-Atom.ensures.form) (leaf_as (Atom c.in-Atom.name) refl c.push.ensures)

pub write_plain-returns-in-Has : goal.write_plain-returns-in-Has
write_plain-returns-in-Has t c =
    grown_as (plain_of c.in-Has.ensures.form) (leaf_as (Has c.in-Has.feature) refl c.push-in-Has.ensures)

pub write_plain-returns-in-Lacks : goal.write_plain-returns-in-Lacks
write_plain-returns-in-Lacks t c =
    grown_as (plain_of c.in-Lacks.ensures.form) (leaf_as (Lacks c.in-Lacks.feature) refl c.push-in-Lacks.ensures)

pub write_plain-returns-in-Holds : goal.write_plain-returns-in-Holds
write_plain-returns-in-Holds t c =
    grown_as (plain_of c.in-Holds.ensures.form) (leaf_as (Holds c.in-Holds.k.predicate c.in-Holds.k.u c.in-Holds.k.v) refl c.push-in-Holds.ensures)

pub write_plain-returns-in-Meets : goal.write_plain-returns-in-Meets
write_plain-returns-in-Meets t c =
    grown_as (plain_of c.in-Meets.ensures.form) (leaf_as (Meets c.in-Meets.u c.in-Meets.v) refl c.push-in-Meets.ensures)

pub write_plain-returns-in-Parts : goal.write_plain-returns-in-Parts
write_plain-returns-in-Parts t c =
    grown_as (plain_of c.in-Parts.ensures.form) (leaf_as (Parts c.in-Parts.u c.in-Parts.v) refl c.push-in-Parts.ensures)

pub write_plain-returns-in-And : goal.write_plain-returns-in-And
write_plain-returns-in-And t c =
    grown_as (plain_of c.in-And.ensures.form) (conj_grown c.write_plain-first.ensures c.write_plain-second.ensures c.push-in-And.ensures)

pub write_plain-returns-in-Or : goal.write_plain-returns-in-Or
write_plain-returns-in-Or t c =
    grown_as (plain_of c.in-Or.ensures.form) (disj_grown c.write_plain-first-in-Or.ensures c.write_plain-second-in-Or.ensures c.push-in-Or.ensures)

pub write_plain-returns-in-Exists : goal.write_plain-returns-in-Exists
write_plain-returns-in-Exists t c =
    grown_as (plain_of c.in-Exists.ensures.form) (some_grown c.in-Exists.relation c.write_plain-inner.ensures c.push-in-Exists.ensures)

pub write_plain-returns-in-Forall : goal.write_plain-returns-in-Forall
write_plain-returns-in-Forall t c =
    grown_as (plain_of c.in-Forall.ensures.form) (all_grown c.in-Forall.relation c.write_plain-inner-in-Forall.ensures c.push-in-Forall.ensures)

-- its negation

pub write_turned-returns-in-Atom : goal.write_turned-returns-in-Atom
write_turned-returns-in-Atom t c =
    grown_as (turned_of c.in-Atom.ensures.form) (leaf_as (NotAtom c.in-Atom.name) refl c.push.ensures)

pub write_turned-returns-in-Has : goal.write_turned-returns-in-Has
write_turned-returns-in-Has t c =
    grown_as (turned_of c.in-Has.ensures.form) (leaf_as (Lacks c.in-Has.feature) refl c.push-in-Has.ensures)

pub write_turned-returns-in-Lacks : goal.write_turned-returns-in-Lacks
write_turned-returns-in-Lacks t c =
    grown_as (turned_of c.in-Lacks.ensures.form) (leaf_as (Has c.in-Lacks.feature) refl c.push-in-Lacks.ensures)

pub write_turned-returns-in-And : goal.write_turned-returns-in-And
write_turned-returns-in-And t c =
    grown_as (turned_of c.in-And.ensures.form) (disj_grown c.write_turned-not_left.ensures c.write_turned-not_right.ensures c.push-in-And.ensures)

pub write_turned-returns-in-Or : goal.write_turned-returns-in-Or
write_turned-returns-in-Or t c =
    grown_as (turned_of c.in-Or.ensures.form) (conj_grown c.write_turned-not_left-in-Or.ensures c.write_turned-not_right-in-Or.ensures c.push-in-Or.ensures)

pub write_turned-returns-in-Exists : goal.write_turned-returns-in-Exists
write_turned-returns-in-Exists t c =
    grown_as (turned_of c.in-Exists.ensures.form) (all_grown c.in-Exists.relation c.write_turned-not_child.ensures c.push-in-Exists.ensures)

pub write_turned-returns-in-Forall : goal.write_turned-returns-in-Forall
write_turned-returns-in-Forall t c =
    grown_as (turned_of c.in-Forall.ensures.form) (some_grown c.in-Forall.relation c.write_turned-not_child-in-Forall.ensures c.push-in-Forall.ensures)
