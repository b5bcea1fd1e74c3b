-- Statements, when a plant satisfies them, and what is counted of them.
use Rattle.std.specs.Prelude.{ℕ, max, Bool, true, not, ◌&&◌, List, [], ◌∷◌, fold, sum_by, ◌==◌}
use Rattle.domain.specs.declared.predicate.Predicate.{Predicate}
use Rattle.domain.specs.Meaning.{Meaning, tested}
use Rattle.concept.specs.Concepts.{Concept}
use Rattle.concept.specs.Normal.{nodes, valued_nodes, role_depth}
use Rattle.concept.specs.Plants.{Plant, related, of_two, inside}

pub data Statement : Type 0 where
  -- the object lies in the concept
  states : ℕ → Concept → Statement
  -- the relation leads from the first object to the second
  links : ℕ → ℕ → ℕ → Statement
  -- the two objects stand for different things
  apart : ℕ → ℕ → Statement
  -- an object with its value feature, twice: both are defined, and the predicate holds of their values in this order
  compares : Predicate → ℕ → ℕ → ℕ → ℕ → Statement

-- the plant satisfies the statement
abbrev pub satisfied : Meaning → Plant → Statement → Bool
satisfied m plant (states o c) = inside m plant c (plant.stands o)
satisfied m plant (links o r q) = related plant r (plant.stands o) (plant.stands q)
satisfied m plant (apart o q) = not (plant.stands o == plant.stands q)
satisfied m plant (compares p o g q h) = of_two (tested m p) (plant.valued g (plant.stands o)) (plant.valued h (plant.stands q))

abbrev pub all_satisfied : Meaning → Plant → List Statement → Bool
all_satisfied m plant [] = true
all_satisfied m plant (s ∷ ss) = satisfied m plant s && all_satisfied m plant ss

-- what one statement, with its concept in normal form, adds to N, V, K and X, and how deep its roles go
abbrev pub nodes_of : Statement → ℕ
nodes_of (states o c) = nodes c
nodes_of (links o r q) = 0
nodes_of (apart o q) = 0
nodes_of (compares p o g q h) = 0

abbrev pub valued_of : Statement → ℕ
valued_of (states o c) = valued_nodes c
valued_of (links o r q) = 0
valued_of (apart o q) = 0
valued_of (compares p o g q h) = 0

abbrev pub comparisons_of : Statement → ℕ
comparisons_of (states o c) = 0
comparisons_of (links o r q) = 0
comparisons_of (apart o q) = 0
comparisons_of (compares p o g q h) = 1

abbrev pub others_of : Statement → ℕ
others_of (states o c) = 0
others_of (links o r q) = 1
others_of (apart o q) = 1
others_of (compares p o g q h) = 1

abbrev pub depth_of : Statement → ℕ
depth_of (states o c) = role_depth c
depth_of (links o r q) = 0
depth_of (apart o q) = 0
depth_of (compares p o g q h) = 0

-- N, V, K, X and R of a list of statements whose concepts are normal forms
abbrev pub n_of : List Statement → ℕ
n_of ss = sum_by nodes_of ss

abbrev pub v_of : List Statement → ℕ
v_of ss = sum_by valued_of ss

abbrev pub k_of : List Statement → ℕ
k_of ss = sum_by comparisons_of ss

abbrev pub x_of : List Statement → ℕ
x_of ss = sum_by others_of ss

abbrev pub r_of : List Statement → ℕ
r_of ss = fold (λ deepest s. max deepest (depth_of s)) 0 ss
