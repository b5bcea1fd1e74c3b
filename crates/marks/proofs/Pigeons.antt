-- As many different marks as variables: the set that they come from has no fewer.
use Rattle.std.proofs.Common.{◌≡◌, ℕ, zero, suc, ◌+◌, ◌/◌, ◌%◌, ◌^◌, ◌<◌, ◌≤◌, Bool, true, false, cond, not, ◌&&◌, eqb, ◌⊎◌, sym, refl, ap, ◌∙◌, subst, ap₂, inl, inr, one-add, arith}
use lib.Count.{ones, ones_cat}
use Rattle.std.proofs.lemmas.Nat.{mod-pow-add, mod_below, pow_pos}
use Rattle.std.proofs.lemmas.Bool.{cases_eq, eq-eqb, ne_eqb, and_right, not_from_false, not_from_true}
use Rattle.marks.specs.Marks.{has}

-- how many numbers below n pass a test
abbrev below : (ℕ → Bool) → ℕ → ℕ
below test zero = 0
below test (suc n) = below test n + cond (test n) 1 0

below_same : (p q : ℕ → Bool) (n : ℕ) → ((x : ℕ) → x < n → p x ≡ q x) → below p n ≡ below q n
below_same p q zero h = refl
below_same p q (suc n) h =
    ap₂ (λ a b. a + b) (below_same p q n (λ x l. h x (omega arith))) (ap (λ b. cond b 1 0) (h n (omega arith)))

-- a test without the number x
abbrev less : (ℕ → Bool) → ℕ → ℕ → Bool
less test x y = test y && not (eqb y x)

and_true : (a b : Bool) → b ≡ true → (a && b) ≡ a
and_true true b e = e
and_true false b e = refl

less_other : (test : ℕ → Bool) (x y : ℕ) → (y ≡ x → ⊥) → less test x y ≡ test y
less_other test x y n = and_true (test y) (not (eqb y x)) (not_from_false _ (ne_eqb y x n))

less_same : (test : ℕ → Bool) (x : ℕ) → less test x x ≡ false
less_same test x = and_right (test x) _ (not_from_true _ (eq-eqb x x refl))

below_less : (test : ℕ → Bool) (x n : ℕ) → x < n → test x ≡ true → below test n ≡ suc (below (less test x) n)
below_less test x zero l h = absurd (omega arith)
below_less test x (suc n) l h =
    go (cases_eq x n) (λ k. below_less test x n k h)
  where
    go : (x ≡ n) ⊎ (x ≡ n → ⊥) → (x < n → below test n ≡ suc (below (less test x) n)) → below test (suc n) ≡ suc (below (less test x) (suc n))
    go (inl e) rest =
        let here : ◌≡◌ {A = ℕ} (cond (test n) 1 0) 1 = ap (λ b. cond b 1 0) (ap test (sym e) ∙ h) in
        let gone : ◌≡◌ {A = ℕ} (cond (less test x n) 1 0) 0 = ap (λ b. cond b 1 0) (ap (less test x) (sym e) ∙ less_same test x) in
        let others : below (less test x) n ≡ below test n = below_same (less test x) test n (λ y ly. less_other test x y (λ k. omega arith)) in
        omega arith
    go (inr ne) rest =
        let same : ◌≡◌ {A = ℕ} (cond (less test x n) 1 0) (cond (test n) 1 0) = ap (λ b. cond b 1 0) (less_other test x n (λ k. ne (sym k))) in
        let more = rest (omega arith) in
        omega arith

-- k different numbers below n that pass a test: at least k pass
pub pigeons :
    (test : ℕ → Bool) (n k : ℕ) (g : ℕ → ℕ) → ((i : ℕ) → i < k → (g i < n) × (test (g i) ≡ true))
    → ((i j : ℕ) → i < j → j < k → g i ≡ g j → ⊥) → k ≤ below test n
pigeons test n zero g pass differ = omega arith
pigeons test n (suc k) g pass differ =
    let last = pass k (omega arith) in
    let rest =
    pigeons (less test (g k)) n k g
    (λ i l. let p = pass i (omega arith) in (p.0, less_other test (g k) (g i) (differ i k l (omega arith)) ∙ p.1))
    (λ i j l m. differ i j l (omega arith)) in
    let one = below_less test (g k) n last.0 last.1 in
    omega arith

bit_ones : (d : ℕ) → d < 2 → ones d ≡ cond (eqb d 1) 1 0
unfolding ones
bit_ones zero l = refl
bit_ones (suc zero) l = refl
bit_ones (suc (suc d)) l = absurd (omega arith)

-- the marks of a set are its ones
below_ones : (m n : ℕ) → below (has m) n ≡ ones (m % 2 ^ n)
unfolding has ones
below_ones m zero = ap ones (let e : 0 ≡ m % 1 = omega arith in e)
below_ones m (suc n) =
    let split = mod-pow-add m 1 n in
    let low = mod_below m (2 ^ n) (pow_pos n) in
    ap₂ (λ a b. a + b) (below_ones m n) (sym (bit_ones (m / 2 ^ n % 2) (mod_below (m / 2 ^ n) 2 (omega arith))))
    ∙ swap (ones (m % 2 ^ n)) (ones (m / 2 ^ n % 2))
    ∙ sym (ones_cat n (m / 2 ^ n % 2) (m % 2 ^ n) low)
    ∙ ap ones (sym split)
    ∙ ap (λ k. ones (m % 2 ^ k)) (one-add n)
  where
    swap : (a b : ℕ) → a + b ≡ b + a
    swap a b = omega arith

pub marks_ones : (m : ℕ) → m < 65536 → below (has m) 16 ≡ ones m
marks_ones m l = below_ones m 16 ∙ ap ones (let e : m % 65536 ≡ m = omega arith in e)

-- members that all differ are at most as many as the marks of a set that has theirs
pub no_more_than_ones :
    (m k : ℕ) (g : ℕ → ℕ) → m < 65536 → ((i : ℕ) → i < k → (g i < 16) × (has m (g i) ≡ true)) → ((i j : ℕ) → i < j → j < k → g i ≡ g j → ⊥) → k ≤ ones m
no_more_than_ones m k g l pass differ = subst (λ n. k ≤ n) (marks_ones m l) (pigeons (has m) 16 k g pass differ)
