-- The term that a node becomes once it is checked. Only the inner functions of the check speak of it: what a whole table
-- comes to stands in Checking.
use Rattle.std.specs.Prelude.{ℕ, cond, List, ◌==◌}
use Rattle.domain.specs.Meaning.{Meaning}
use Rattle.concept.specs.declared.node.Node.{Node}
use Rattle.concept.specs.declared.term.Constraint.{Constraint}
use Rattle.concept.specs.declared.term.Term.{Term}
use Rattle.concept.specs.declared.term.Term.TheVariants.{Atom, Not, And, Or, Exists, Forall, Has, Lacks, Holds, Meets, Parts}
use Rattle.concept.specs.Tables.{predicate_at}

-- the predicate of a holds node with its complement and its arity, as the domain tells them
abbrev pub constraint_of : Meaning → List ℕ → Node → Constraint
constraint_of m kinds n = record {
  predicate = predicate_at kinds n;
  complement = m.complement (predicate_at kinds n);
  arity = m.arity (predicate_at kinds n);
  u = n.u;
  v = n.v;
}

abbrev pub term_of : Meaning → List ℕ → Node → Term
term_of m kinds n =
    cond (n.form == 1) (Atom n.name)
    (cond (n.form == 2) (Not n.left)
    (cond (n.form == 3) (And n.left n.right)
    (cond (n.form == 4) (Or n.left n.right)
    (cond (n.form == 5) (Exists n.relation n.left)
    (cond (n.form == 6) (Forall n.relation n.left)
    (cond (n.form == 7) (Has n.relation)
    (cond (n.form == 8) (Lacks n.relation)
    (cond (n.form == 9) (Holds (constraint_of m kinds n))
    (cond (n.form == 10) (Meets n.u n.v)
    (Parts n.u n.v))))))))))
