-- Normal forms mean what the concept means.
use Rattle.std.specs.Prelude.{◌≡◌, ℕ, true, not, List}
use Rattle.domain.specs.Meaning.{Meaning, Lawful}
use Rattle.concept.specs.Concepts.{Concept, formed}
use Rattle.concept.specs.Plants.{Plant, Proper, inside}
use Rattle.concept.specs.Normal.{normal, negated}

-- in every proper plant a thing lies in the normal form exactly when it lies in the concept, and in that of the negation
-- exactly when it does not
pub record Agrees (m : Meaning) (kinds : List ℕ) (c : Concept) : Type 0 where
  pub same : (plant : Plant) → Proper m kinds plant → (x : ℕ) → inside m plant (normal m c) x ≡ inside m plant c x
  pub opposite : (plant : Plant) → Proper m kinds plant → (x : ℕ) → inside m plant (negated m c) x ≡ not (inside m plant c x)

-- so it is for every lawful domain and every well-formed concept
abbrev pub Agreement : Type 0
Agreement = (m : Meaning) → Lawful m → (kinds : List ℕ) (c : Concept) → formed m kinds c ≡ true → Agrees m kinds c
