-- Tests over the numbers below a bound, and over the list of these numbers.
use Rattle.std.proofs.Common.{◌≡◌, ℕ, zero, suc, ◌+◌, ◌<◌, Bool, true, false, ◌&&◌, ◌||◌, refl, ap, ◌∙◌, ap₂, arith}
use Rattle.std.specs.List.{list_any, list_all, range_with_len}
use Rattle.concept.specs.Plants.{any_below, all_below}

pub any_same : (p q : ℕ → Bool) (n : ℕ) → ((y : ℕ) → y < n → p y ≡ q y) → any_below p n ≡ any_below q n
any_same p q zero e = refl
any_same p q (suc n) e = ap₂ ◌||◌ (e n (omega arith)) (any_same p q n (λ y h. e y (omega arith)))

pub all_same : (p q : ℕ → Bool) (n : ℕ) → ((y : ℕ) → y < n → p y ≡ q y) → all_below p n ≡ all_below q n
all_same p q zero e = refl
all_same p q (suc n) e = ap₂ ◌&&◌ (e n (omega arith)) (all_same p q n (λ y h. e y (omega arith)))

any_last : (p : ℕ → Bool) (a n : ℕ) → list_any p (range_with_len a (suc n)) ≡ (p (a + n) || list_any p (range_with_len a n))
any_last p a zero = ap (λ k. p k || false) (omega arith)
any_last p a (suc n) =
    ap (λ b. p a || b) (any_last p (a + 1) n) ∙ (swap (p a) (p (a + 1 + n)) (list_any p (range_with_len (a + 1) n)) ∙ ap (λ k. p k || (p a || list_any p (range_with_len (a + 1) n))) (omega arith))
  where
    swap : (x y z : Bool) → (x || (y || z)) ≡ (y || (x || z))
    swap true true z = refl
    swap true false z = refl
    swap false y z = refl

pub any_range : (p : ℕ → Bool) (n : ℕ) → list_any p (range_with_len 0 n) ≡ any_below p n
any_range p zero = refl
any_range p (suc n) = any_last p 0 n ∙ ap₂ (λ k b. p k || b) (omega arith) (any_range p n)

all_last : (p : ℕ → Bool) (a n : ℕ) → list_all p (range_with_len a (suc n)) ≡ (p (a + n) && list_all p (range_with_len a n))
all_last p a zero = ap (λ k. p k && true) (omega arith)
all_last p a (suc n) =
    ap (λ b. p a && b) (all_last p (a + 1) n) ∙ (swap (p a) (p (a + 1 + n)) (list_all p (range_with_len (a + 1) n)) ∙ ap (λ k. p k && (p a && list_all p (range_with_len (a + 1) n))) (omega arith))
  where
    swap : (x y z : Bool) → (x && (y && z)) ≡ (y && (x && z))
    swap true y z = refl
    swap false true z = refl
    swap false false z = refl

pub all_range : (p : ℕ → Bool) (n : ℕ) → list_all p (range_with_len 0 n) ≡ all_below p n
all_range p zero = refl
all_range p (suc n) = all_last p 0 n ∙ ap₂ (λ k b. p k && b) (omega arith) (all_range p n)
