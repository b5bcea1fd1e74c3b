-- Sets of marks as numbers: what each operation does to each bit.
use Rattle.std.proofs.Common.{◌≡◌, ℕ, zero, suc, ◌-◌, ◌/◌, ◌%◌, ◌^◌, ◌<◌, min, max, true, false, not, ◌&&◌, ◌||◌, eqb, sym, ap, ◌∙◌, ap₂, pow-suc, arith}
use native.Mathlib.Nat.{div-div-eq-div-mul, pow-succ'}
use lib.Bits.{bit_and, bit_or, and_step, or_step}
use lib.Dec.{eqb-zero-suc, eqb-suc-zero, eqb-suc-suc}
use Rattle.std.proofs.lemmas.Bool.{eqb-false, ne_eqb, both_ways}
use Rattle.std.proofs.lemmas.Bool.Decides.{nat_tests}
use Rattle.marks.specs.Marks.{has}

-- the lowest bit, and the others
pub has_zero : (m : ℕ) → has m 0 ≡ eqb (m % 2) 1
unfolding has
has_zero m = ap (λ n. eqb (n % 2) 1) (let e : m / 1 ≡ m = omega arith in e)

pub has_suc : (m x : ℕ) → has m (suc x) ≡ has (m / 2) x
unfolding has
has_suc m x = ap (λ n. eqb (n % 2) 1) (ap (λ p. m / p) (pow-succ' 2 x) ∙ sym (div-div-eq-div-mul m 2 (2 ^ x)))

pub none_in_zero : (x : ℕ) → has 0 x ≡ false
none_in_zero zero = has_zero 0
none_in_zero (suc x) = has_suc 0 x ∙ none_in_zero x

-- a number below 2 ^ k with none of its k bits set is 0
pub empty_zero : (k m : ℕ) → m < 2 ^ k → ((x : ℕ) → x < k → has m x ≡ false) → m ≡ 0
empty_zero zero m l h = omega arith
empty_zero (suc k) m l h =
    let p = pow-suc 2 k in
    let half = empty_zero k (m / 2) (omega arith) (λ x lx. sym (has_suc m x) ∙ h (suc x) (omega arith)) in
    let low = eqb-false (m % 2) 1 (sym (has_zero m) ∙ h 0 (omega arith)) in
    let odd : m % 2 ≡ 0 = omega arith in
    omega arith

-- a set with a mark is not empty
pub has_not_empty : (m x : ℕ) → has m x ≡ true → m ≡ 0 → ⊥
has_not_empty m x h e = both_ways (has 0 x) (none_in_zero x) (ap (λ n. has n x) (sym e) ∙ h)

pub has_only : (x y : ℕ) → has (2 ^ x) y ≡ eqb y x
has_only zero zero = has_zero 1
has_only zero (suc y) = has_suc 1 y ∙ none_in_zero y ∙ sym (eqb-suc-zero y)
has_only (suc x) zero =
    has_zero (2 ^ suc x) ∙ ne_eqb _ 1 (λ e. let p = pow-suc 2 x in omega arith) ∙ sym (eqb-zero-suc x)
has_only (suc x) (suc y) =
    has_suc (2 ^ suc x) y ∙ ap (λ n. has n y) (let p = pow-suc 2 x in let e : 2 ^ suc x / 2 ≡ 2 ^ x = omega arith in e)
    ∙ has_only x y ∙ sym (eqb-suc-suc y x)

pub has_not : (k m y : ℕ) → m < 2 ^ k → y < k → has (2 ^ k - 1 - m) y ≡ not (has m y)
has_not zero m y l h = absurd (omega arith)
has_not (suc k) m zero l h =
    let p = pow-suc 2 k in
    has_zero (2 ^ suc k - 1 - m) ∙ flip (m % 2) _ (omega arith) (omega arith) ∙ ap not (sym (has_zero m))
  where
    flip : (a b : ℕ) → a < 2 → b ≡ 1 - a → eqb b 1 ≡ not (eqb a 1)
    flip a b l e = grind (arith, nat_tests)
has_not (suc k) m (suc y) l h =
    let p = pow-suc 2 k in
    let e : (2 ^ suc k - 1 - m) / 2 ≡ 2 ^ k - 1 - m / 2 = omega arith in
    has_suc (2 ^ suc k - 1 - m) y ∙ ap (λ n. has n y) e ∙ has_not k (m / 2) y (omega arith) (omega arith)
    ∙ ap not (sym (has_suc m y))

pub has_and : (a b x : ℕ) → has (bit_and a b) x ≡ (has a x && has b x)
has_and a b zero =
    has_zero (bit_and a b) ∙ low (a % 2) (b % 2) _ (omega arith) (omega arith) (let s = and_step a b in omega arith)
    ∙ ap₂ (λ p q. p && q) (sym (has_zero a)) (sym (has_zero b))
  where
    low : (p q r : ℕ) → p < 2 → q < 2 → r ≡ min p q → eqb r 1 ≡ (eqb p 1 && eqb q 1)
    low p q r lp lq e = grind (arith, nat_tests)
has_and a b (suc x) =
    let e : bit_and a b / 2 ≡ bit_and (a / 2) (b / 2) = let s = and_step a b in omega arith in
    has_suc (bit_and a b) x ∙ ap (λ n. has n x) e ∙ has_and (a / 2) (b / 2) x
    ∙ ap₂ (λ p q. p && q) (sym (has_suc a x)) (sym (has_suc b x))

pub has_all : (x : ℕ) → x < 16 → has 65535 x ≡ true
has_all x h = has_not 16 0 x (omega arith) h ∙ ap not (none_in_zero x)

pub has_or : (a b x : ℕ) → has (bit_or a b) x ≡ (has a x || has b x)
has_or a b zero =
    has_zero (bit_or a b) ∙ low (a % 2) (b % 2) _ (omega arith) (omega arith) (let s = or_step a b in omega arith)
    ∙ ap₂ (λ p q. p || q) (sym (has_zero a)) (sym (has_zero b))
  where
    low : (p q r : ℕ) → p < 2 → q < 2 → r ≡ max p q → eqb r 1 ≡ (eqb p 1 || eqb q 1)
    low p q r lp lq e = grind (arith, nat_tests)
has_or a b (suc x) =
    let e : bit_or a b / 2 ≡ bit_or (a / 2) (b / 2) = let s = or_step a b in omega arith in
    has_suc (bit_or a b) x ∙ ap (λ n. has n x) e ∙ has_or (a / 2) (b / 2) x
    ∙ ap₂ (λ p q. p || q) (sym (has_suc a x)) (sym (has_suc b x))
