-- Checked tables: the normal form that each place stands for, and that of its negation.
use Rattle.std.specs.Prelude.{ℕ, ◌+◌, Bool, true, cond, ◌&&◌, List, [], ◌∷◌, ◌==◌, nat_lt, slice_index_or}
use Rattle.concept.specs.declared.node.Chain.{Chain}
use Rattle.concept.specs.declared.term.Constraint.{Constraint}
use Rattle.concept.specs.declared.term.Sign.{Sign}
use Rattle.concept.specs.declared.term.Sign.TheVariants.{Plain, Negated}
use Rattle.concept.specs.declared.term.Term.{Term}
use Rattle.concept.specs.declared.term.Term.TheVariants.{Atom, Not, And, Or, Exists, Forall, Has, Lacks, Holds, Meets, Parts}
use Rattle.concept.specs.Concepts.{Concept}
use Rattle.concept.specs.Concepts.Concept.{atom, neg, conj, disj, some, all, has, lacks, holds, meets, parts}
use Rattle.concept.specs.Chains.{steps}
use Rattle.concept.specs.Growing.{grow}
use Rattle.concept.specs.Normal.{undefined}

-- a normal form, and that of the negation
pub record Forms : Type 0 where
  pub plain : Concept
  pub turned : Concept

-- the form that a sign asks for
abbrev pub signed : Sign → Forms → Concept
signed Plain f = f.plain
signed Negated f = f.turned

abbrev pub forms_at : List Forms → ℕ → Forms
forms_at below i = slice_index_or below i (record { plain = atom 0; turned = atom 0 })

-- one of the chains leads nowhere
abbrev pub nowhere : Chain → Chain → Concept
nowhere u v = disj (undefined (steps u)) (undefined (steps v))

abbrev pub constraint_forms : Constraint → Forms
constraint_forms k = record {
  plain = holds k.predicate (steps k.u) (steps k.v);
  turned = disj (holds k.complement (steps k.u) (steps k.v)) (cond (k.arity == 1) (undefined (steps k.u)) (nowhere k.u k.v));
}

-- the two forms of a term, given those of the places below it
abbrev pub term_forms : List Forms → Term → Forms
term_forms below (Atom n) = record { plain = atom n; turned = neg (atom n) }
term_forms below (Not l) = record { plain = (forms_at below l).turned; turned = (forms_at below l).plain }
term_forms below (And l r) = record {
  plain = conj (forms_at below l).plain (forms_at below r).plain;
  turned = disj (forms_at below l).turned (forms_at below r).turned;
}
term_forms below (Or l r) = record {
  plain = disj (forms_at below l).plain (forms_at below r).plain;
  turned = conj (forms_at below l).turned (forms_at below r).turned;
}
term_forms below (Exists r l) = record { plain = some r (forms_at below l).plain; turned = all r (forms_at below l).turned }
term_forms below (Forall r l) = record { plain = all r (forms_at below l).plain; turned = some r (forms_at below l).turned }
term_forms below (Has f) = record { plain = has f; turned = lacks f }
term_forms below (Lacks f) = record { plain = lacks f; turned = has f }
term_forms below (Holds k) = constraint_forms k
term_forms below (Meets u v) = record { plain = meets (steps u) (steps v); turned = disj (parts (steps u) (steps v)) (nowhere u v) }
term_forms below (Parts u v) = record { plain = parts (steps u) (steps v); turned = disj (meets (steps u) (steps v)) (nowhere u v) }

-- the forms of all places, each from those at lower places
abbrev pub forms : List Term → List Forms
forms terms = grow term_forms [] terms

-- a term at place i names lower places only
abbrev pub lower : ℕ → Term → Bool
lower i (Atom n) = true
lower i (Not l) = nat_lt l i
lower i (And l r) = nat_lt l i && nat_lt r i
lower i (Or l r) = nat_lt l i && nat_lt r i
lower i (Exists r l) = nat_lt l i
lower i (Forall r l) = nat_lt l i
lower i (Has f) = true
lower i (Lacks f) = true
lower i (Holds k) = true
lower i (Meets u v) = true
lower i (Parts u v) = true

abbrev pub all_lower : ℕ → List Term → Bool
all_lower i [] = true
all_lower i (t ∷ ts) = lower i t && all_lower (i + 1) ts
