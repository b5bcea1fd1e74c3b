-- The elements that pass a test, each put through a function.
use Rattle.std.proofs.Common.{◌≡◌, ℕ, zero, suc, ◌+◌, ◌<◌, ◌≤◌, Bool, true, false, cond, not, List, [], ◌∷◌, ◌++◌, map, length, get_or, take, drop, filter, sym, refl, ap, ◌∙◌, one-add, arith}
use Rattle.std.proofs.lemmas.List.{append-nil, length-map, map-append, length-append, take-append-drop, drop_more, get_or_at, get_or-drop, length-take-le}
use Rattle.std.proofs.lemmas.List.Elements.{All-map, All-filter, filter_passes, filter-append, filter_more}
use Rattle.std.proofs.lemmas.List.Filters.{length-filter_both}
use Rattle.std.proofs.lemmas.Bool.{cond-false}
use Rattle.std.specs.List.{All}

suc_lt : {xs : ℕ} (i : ℕ) → i < xs → suc i < suc xs
suc_lt i h = omega arith

module _ {A B : Type 0} (f : A → B) (p : A → Bool) where
  abbrev pub sifted : List A → List B
  sifted xs = map f (filter p xs)

  pub sifted_more :
      (xs : List A) (i : ℕ) (d : A) → i < length xs → p (get_or xs i d) ≡ true → sifted (take (i + 1) xs) ≡ sifted (take i xs) ++ f (get_or xs i d) ∷ []
  sifted_more xs i d h t = rw (filter_more p xs i d h, t) (map-append f (filter p (take i xs)) (get_or xs i d ∷ []))

  pub sifted_same : (xs : List A) (i : ℕ) (d : A) → i < length xs → p (get_or xs i d) ≡ false → sifted (take (i + 1) xs) ≡ sifted (take i xs)
  sifted_same xs i d h t = ap (map f) (filter_more p xs i d h ∙ ap (λ (c : List A). filter p (take i xs) ++ c) (cond-false _ _ _ t) ∙ append-nil _)

  pub sifted_apart :
      (xs : List A) (i : ℕ) (d : A) → i < length xs → p (get_or xs i d) ≡ true → sifted xs ≡ sifted (take i xs) ++ f (get_or xs i d) ∷ sifted (drop (i + 1) xs)
  sifted_apart xs i d h t =
      ap sifted (sym (take-append-drop i xs) ∙ ap (λ (c : List A). take i xs ++ c) (drop_more xs i d h))
      ∙ (rw (filter-append p (take i xs) (get_or xs i d ∷ drop (i + 1) xs), t) (map-append f (filter p (take i xs)) (get_or xs i d ∷ filter p (drop (i + 1) xs))))

  pub get_or_sifted :
      (xs : List A) (i : ℕ) (d : A) (e : B) → i < length xs → p (get_or xs i d) ≡ true → get_or (sifted xs) (length (sifted (take i xs))) e ≡ f (get_or xs i d)
  get_or_sifted xs i d e h t = rw (sifted_apart xs i d h t) (get_or_at (sifted (take i xs)) (f (get_or xs i d)) (sifted (drop (i + 1) xs)) e _ refl)

  pub sifted_below : (xs : List A) (i : ℕ) (d : A) → i < length xs → p (get_or xs i d) ≡ true → length (sifted (take i xs)) < length (sifted xs)
  sifted_below xs i d h t =
      let e : length (sifted xs) ≡ length (sifted (take i xs)) + suc (length (sifted (drop (i + 1) xs))) = ap length (sifted_apart xs i d h t) ∙ length-append _ _ in
      omega arith

  pub length_sifted : (xs : List A) → length (sifted xs) ≤ length xs
  length_sifted xs = omega (arith, length-map (filter p xs) f, length-filter_both p (λ x. not (p x)) (λ _. refl) xs)

  pub length_sifted_take : (xs : List A) (i : ℕ) → i ≤ length xs → length (sifted (take i xs)) ≤ i
  length_sifted_take xs i h = omega (arith, length_sifted (take i xs), length-take-le i xs h)

  pub all_sifted : (P : A → Type 0) (Q : B → Type 0) → ((x : A) → p x ≡ true → P x → Q (f x)) → (xs : List A) → All P xs → All Q (sifted xs)
  all_sifted P Q turn xs h = All-map Q f (filter p xs) (λ k d lt. turn (get_or (filter p xs) k d) (filter_passes p xs k d lt) (All-filter p P xs h k d lt))

  pub all_unsifted : (Q : B → Type 0) → (xs : List A) → All Q (sifted xs) → All (λ x. p x ≡ true → Q (f x)) xs
  all_unsifted Q xs h k d lt t = rw (← get_or_sifted xs k d (f d) lt t) (h (length (sifted (take k xs))) (f d) (sifted_below xs k d lt t))

  -- each place of the result comes from a place that passes
  abbrev pub Source : A → List A → ℕ → Type 0
  Source d xs j = (i : ℕ) × (i < length xs) × (p (get_or xs i d) ≡ true) × (length (sifted (take i xs)) ≡ j)

  pub source : (d : A) (xs : List A) (j : ℕ) → j < length (sifted xs) → Source d xs j
  source d [] j h = absurd (omega arith)
  source d (x ∷ xs) j h = go (p x) refl j h (source d xs)
    where
      later : (b : Bool) → p x ≡ b → (j k : ℕ) → cond b (suc k) k ≡ j → Source d xs k → Source d (x ∷ xs) j
      later true t j k e s = (suc s.0, suc_lt s.0 s.1, s.2, rw t (ap suc s.3 ∙ e))
      later false t j k e s = (suc s.0, suc_lt s.0 s.1, s.2, rw t (s.3 ∙ e))

      go : (b : Bool) → p x ≡ b → (j : ℕ) → j < length (sifted (x ∷ xs)) → ((k : ℕ) → k < length (sifted xs) → Source d xs k) → Source d (x ∷ xs) j
      go true t zero h more = (0, omega arith, t, refl)
      go true t (suc j) h more = let k : suc j < suc (length (sifted xs)) = rw t at h in later true t (suc j) j refl (more j (omega arith))
      go false t j h more = later false t j j refl (more j (rw t at h))

  -- what stands in a second list at the places that pass
  abbrev pub beside : {C : Type 0} → C → List A → List C → List C
  beside e [] ys = []
  beside e (x ∷ xs) ys = cond (p x) (get_or ys 0 e ∷ beside e xs (drop 1 ys)) (beside e xs (drop 1 ys))

  pub length_beside : {C : Type 0} (e : C) (xs : List A) (ys : List C) → length (beside e xs ys) ≡ length (sifted xs)
  length_beside e [] ys = refl
  length_beside e (x ∷ xs) ys = go (p x) refl (length_beside e xs (drop 1 ys))
    where
      go : (b : Bool) → p x ≡ b → length (beside e xs (drop 1 ys)) ≡ length (sifted xs) → length (beside e (x ∷ xs) ys) ≡ length (sifted (x ∷ xs))
      go true t h = rw t (ap suc h)
      go false t h = rw t h

  pub get_or_beside :
      {C : Type 0} (e : C) (d : A) (xs : List A) (ys : List C) (i : ℕ)
      → i < length xs → p (get_or xs i d) ≡ true → get_or (beside e xs ys) (length (sifted (take i xs))) e ≡ get_or ys i e
  get_or_beside e d [] ys i h t = absurd (omega arith)
  get_or_beside e d (x ∷ xs) ys zero h t = rw t
  get_or_beside e d (x ∷ xs) ys (suc i) h t = go (p x) refl (get_or_beside e d xs (drop 1 ys) i (omega arith) t ∙ get_or-drop 1 ys i e ∙ ap (λ (n : ℕ). get_or ys n e) (one-add i))
    where
      go : (b : Bool) → p x ≡ b → get_or (beside e xs (drop 1 ys)) (length (sifted (take i xs))) e ≡ get_or ys (suc i) e
          → get_or (beside e (x ∷ xs) ys) (length (sifted (take (suc i) (x ∷ xs)))) e ≡ get_or ys (suc i) e
      go true t k = rw t k
      go false t k = rw t k
