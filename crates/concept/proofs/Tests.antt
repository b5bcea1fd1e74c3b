-- Boolean algebra, and tests over the numbers below a bound.
use Rattle.std.proofs.Common.{◌≡◌, ℕ, zero, suc, ◌<◌, ◌≤◌, Bool, true, false, not, ◌&&◌, ◌||◌, eqb, ◌⊎◌, sym, refl, ap, ◌∙◌, ap₂, inl, inr, arith}
use Rattle.std.proofs.Math.Bool.{and-true, true-or}
use Rattle.std.proofs.lemmas.Bool.{cases_eq, eq-eqb, ne_eqb}
use Rattle.concept.specs.Plants.{any_below, all_below}

pub not_and : (a b : Bool) → (not a || not b) ≡ not (a && b)
not_and true true = refl
not_and true false = refl
not_and false true = refl
not_and false false = refl

pub not_or : (a b : Bool) → (not a && not b) ≡ not (a || b)
not_or true true = refl
not_or true false = refl
not_or false true = refl
not_or false false = refl

pub any_same : (p q : ℕ → Bool) (n : ℕ) → ((y : ℕ) → p y ≡ q y) → any_below p n ≡ any_below q n
any_same p q zero e = refl
any_same p q (suc n) e = ap₂ ◌||◌ (e n) (any_same p q n e)

pub all_same : (p q : ℕ → Bool) (n : ℕ) → ((y : ℕ) → p y ≡ q y) → all_below p n ≡ all_below q n
all_same p q zero e = refl
all_same p q (suc n) e = ap₂ ◌&&◌ (e n) (all_same p q n e)

-- not some is all not, and the other way round
pub all_not : (p q : ℕ → Bool) (n : ℕ) → ((y : ℕ) → p y ≡ not (q y)) → all_below p n ≡ not (any_below q n)
all_not p q zero e = refl
all_not p q (suc n) e = ap₂ ◌&&◌ (e n) (all_not p q n e) ∙ not_or (q n) (any_below q n)

pub any_not : (p q : ℕ → Bool) (n : ℕ) → ((y : ℕ) → p y ≡ not (q y)) → any_below p n ≡ not (all_below q n)
any_not p q zero e = refl
any_not p q (suc n) e = ap₂ ◌||◌ (e n) (any_not p q n e) ∙ not_and (q n) (all_below q n)

pub all_true : (p : ℕ → Bool) (n : ℕ) → ((y : ℕ) → p y ≡ true) → all_below p n ≡ true
all_true p zero e = refl
all_true p (suc n) e = ap₂ ◌&&◌ (e n) (all_true p n e)

-- only z is looked at
module _ (z : ℕ) (p : ℕ → Bool) where
  beyond : (n : ℕ) → n ≤ z → all_below (λ y. not (eqb z y) || p y) n ≡ true
  beyond zero h = refl
  beyond (suc n) h =
      let apart : z ≡ n → ⊥ = λ e. omega arith in
      let le : n ≤ z = omega arith in
      ap₂ ◌&&◌ (ap (λ b. not b || p n) (ne_eqb z n apart) ∙ true-or (p n)) (beyond n le)

  pub all_at : (n : ℕ) → z < n → all_below (λ y. not (eqb z y) || p y) n ≡ p z
  all_at zero h = absurd (omega arith)
  all_at (suc n) h = go (cases_eq z n) (λ k. all_at n k)
    where
      go : (z ≡ n) ⊎ (z ≡ n → ⊥) → (z < n → all_below (λ y. not (eqb z y) || p y) n ≡ p z) → all_below (λ y. not (eqb z y) || p y) (suc n) ≡ p z
      go (inl e) more =
          ap₂ ◌&&◌ (ap (λ b. not b || p n) (eq-eqb z n e)) (beyond n (omega arith)) ∙ (and-true (p n) ∙ ap p (sym e))
      go (inr ne) more = ap₂ ◌&&◌ (ap (λ b. not b || p n) (ne_eqb z n ne) ∙ true-or (p n)) (more (omega arith))
