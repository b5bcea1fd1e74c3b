-- Counting the elements that pass a test.
use Rattle.std.proofs.Common.{◌≡◌, ℕ, zero, suc, ◌+◌, ◌<◌, ◌≤◌, Bool, true, false, cond, List, [], ◌∷◌, length, get_or, refl, arith}
use Rattle.std.specs.List.{count_by}
use Rattle.std.proofs.lemmas.Bool.{both_ways, cond-true, cond-false}
use Rattle.std.proofs.lemmas.List.Sums.{sum_by-cons}

one_at_most : (p q : Bool) → (p ≡ true → q ≡ true) → cond p 1 0 ≤ cond q 1 0
one_at_most true true h = omega arith
one_at_most true false h = absurd (both_ways false refl (h refl))
one_at_most false true h = omega arith
one_at_most false false h = omega arith

module _ {A : Type 0} where
  one_more : (test : A → Bool) (x : A) (xs : List A) → count_by test (x ∷ xs) ≡ cond (test x) 1 0 + count_by test xs
  one_more test x xs = sum_by-cons (λ y. cond (test y) 1 0) x xs

  module _ (few many : A → Bool) (d : A) where
    no_more :
        (xs : List A) → ((i : ℕ) → i < length xs → few (get_or xs i d) ≡ true → many (get_or xs i d) ≡ true) → count_by few xs ≤ count_by many xs
    no_more [] h = omega arith
    no_more (x ∷ xs) h =
        let here = one_at_most (few x) (many x) (h 0 (omega arith)) in
        let rest = no_more xs (λ i l. h (suc i) (omega arith)) in
        omega (arith, one_more few x xs, one_more many x xs)

    -- where one more fails the test, fewer pass
    pub fewer :
        (xs : List A) (i : ℕ) → ((i : ℕ) → i < length xs → few (get_or xs i d) ≡ true → many (get_or xs i d) ≡ true) → i < length xs
        → few (get_or xs i d) ≡ false → many (get_or xs i d) ≡ true → count_by few xs < count_by many xs
    fewer [] i h l a b = absurd (omega arith)
    fewer (x ∷ xs) zero h l a b =
        let rest = no_more xs (λ i l. h (suc i) (omega arith)) in
        omega (arith, one_more few x xs, one_more many x xs, cond-false {A = ℕ} (few x) 1 0 a, cond-true {A = ℕ} (many x) 1 0 b)
    fewer (x ∷ xs) (suc i) h l a b =
        let here = one_at_most (few x) (many x) (h 0 (omega arith)) in
        let rest = fewer xs i (λ i l. h (suc i) (omega arith)) (omega arith) a b in
        omega (arith, one_more few x xs, one_more many x xs)
