-- Worked examples.
use Rattle.std.specs.Prelude.{◌≡◌, ℕ, ◌<◌, true, false, List, [], ◌∷◌, ℤ, pos, Ok, Err}
use Rattle.domain.specs.declared.predicate.Predicate.{Predicate}
use Rattle.domain.specs.declared.predicate.Row.{Row}
use Rattle.domain.specs.declared.refusal.Refusal.TheVariants.{Unknown}
use Rattle.domain.specs.Meaning.{tested, complement_of}
use Rattle.domain.specs.Solving.{Chosen}
use Rattle.marks.specs.Marks.{marks}

abbrev pub pred : ℕ → ℤ → Predicate
pred f c = record { kind = 0; form = f; constant = c }

abbrev pub row : ℕ → ℤ → ℕ → ℕ → Row
row f c v w = record { predicate = pred f c; first = v; second = w }

pub record Examples : Type 0 where
  -- the set 0 has no mark, the set 65,535 all of them
  pub none : (x : ℕ) → tested marks (pred 1 (pos 0)) (pos x) (pos 0) ≡ false
  pub all : (x : ℕ) → x < 16 → tested marks (pred 1 (pos 65535)) (pos x) (pos 0) ≡ true
  -- 32,769 is the set of the marks 0 and 15
  pub outer : tested marks (pred 1 (pos 32769)) (pos 15) (pos 0) ≡ true
  pub inner : tested marks (pred 2 (pos 32769)) (pos 14) (pos 0) ≡ true
  pub beyond : tested marks (pred 2 (pos 32769)) (pos 16) (pos 0) ≡ false
  -- constants that are no set, and a constant beside form 3
  pub large : marks.arity (pred 1 (pos 65536)) ≡ 0
  pub beside : marks.arity (pred 3 (pos 1)) ≡ 0
  -- the complement keeps the constant, and an unknown predicate has none
  pub turned : complement_of marks (pred 1 (pos 5)) ≡ Ok (pred 2 (pos 5))
  pub unknown : complement_of marks (pred 5 (pos 0)) ≡ Err (Unknown (pred 5 (pos 0)))
  -- a variable is itself, and never differs from itself
  pub same : Chosen marks (0 ∷ []) (row 3 (pos 0) 0 0 ∷ []) (pos 7 ∷ [])
  pub other : (vs : List ℤ) → Chosen marks (0 ∷ []) (row 4 (pos 0) 0 0 ∷ []) vs → ⊥
