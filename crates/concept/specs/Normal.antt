-- Normal forms: negation stands before names only. The normal form of a concept and that of its negation are worked out from
-- each other.
use Rattle.std.specs.Prelude.{ℕ, ◌+◌, max, cond, List, [], ◌∷◌, ◌==◌, nat_le}
use Rattle.domain.specs.declared.predicate.Predicate.{Predicate}
use Rattle.domain.specs.Meaning.{Meaning}
use Rattle.concept.specs.Concepts.{Concept}
use Rattle.concept.specs.Concepts.Concept.{atom, neg, conj, disj, some, all, has, lacks, holds, meets, parts}

-- the chain leads nowhere: every way along all steps but the last ends where the last is lacking
abbrev pub undefined : List ℕ → Concept
undefined [] = lacks 0
undefined (f ∷ []) = lacks f
undefined (f ∷ (g ∷ r)) = all f (undefined (g ∷ r))

-- not holds: the complement holds, or a chain that the predicate reads leads nowhere
abbrev pub not_holds : Meaning → Predicate → List ℕ → List ℕ → Concept
not_holds m p u v =
    disj (holds (m.complement p) u v) (cond (m.arity p == 1) (undefined u) (disj (undefined u) (undefined v)))

abbrev mutual
  pub normal : Meaning → Concept → Concept
  normal m (atom n) = atom n
  normal m (neg c) = negated m c
  normal m (conj c d) = conj (normal m c) (normal m d)
  normal m (disj c d) = disj (normal m c) (normal m d)
  normal m (some r c) = some r (normal m c)
  normal m (all r c) = all r (normal m c)
  normal m (has f) = has f
  normal m (lacks f) = lacks f
  normal m (holds p u v) = holds p u v
  normal m (meets u v) = meets u v
  normal m (parts u v) = parts u v

  pub negated : Meaning → Concept → Concept
  negated m (atom n) = neg (atom n)
  negated m (neg c) = normal m c
  negated m (conj c d) = disj (negated m c) (negated m d)
  negated m (disj c d) = conj (negated m c) (negated m d)
  negated m (some r c) = all r (negated m c)
  negated m (all r c) = some r (negated m c)
  negated m (has f) = lacks f
  negated m (lacks f) = has f
  negated m (holds p u v) = not_holds m p u v
  negated m (meets u v) = disj (parts u v) (disj (undefined u) (undefined v))
  negated m (parts u v) = disj (meets u v) (disj (undefined u) (undefined v))

-- N: the nodes of a normal form; a negated name is one node
abbrev pub nodes : Concept → ℕ
nodes (atom n) = 1
nodes (neg c) = nodes c
nodes (conj c d) = 1 + (nodes c + nodes d)
nodes (disj c d) = 1 + (nodes c + nodes d)
nodes (some r c) = 1 + nodes c
nodes (all r c) = 1 + nodes c
nodes (has f) = 1
nodes (lacks f) = 1
nodes (holds p u v) = 1
nodes (meets u v) = 1
nodes (parts u v) = 1

-- V: the nodes that ask for a feature or a value, has and holds
abbrev pub valued_nodes : Concept → ℕ
valued_nodes (atom n) = 0
valued_nodes (neg c) = valued_nodes c
valued_nodes (conj c d) = valued_nodes c + valued_nodes d
valued_nodes (disj c d) = valued_nodes c + valued_nodes d
valued_nodes (some r c) = valued_nodes c
valued_nodes (all r c) = valued_nodes c
valued_nodes (has f) = 1
valued_nodes (lacks f) = 0
valued_nodes (holds p u v) = 1
valued_nodes (meets u v) = 0
valued_nodes (parts u v) = 0

-- one more for a role, none for a link feature
abbrev pub role_step : ℕ → ℕ
role_step r = cond (nat_le 256 r) 1 0

-- R: the most role nodes, some or all, on one path
abbrev pub role_depth : Concept → ℕ
role_depth (atom n) = 0
role_depth (neg c) = role_depth c
role_depth (conj c d) = max (role_depth c) (role_depth d)
role_depth (disj c d) = max (role_depth c) (role_depth d)
role_depth (some r c) = role_step r + role_depth c
role_depth (all r c) = role_step r + role_depth c
role_depth (has f) = 0
role_depth (lacks f) = 0
role_depth (holds p u v) = 0
role_depth (meets u v) = 0
role_depth (parts u v) = 0
