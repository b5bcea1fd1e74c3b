-- Growing a list: one element more, its length, and what stands before.
use Rattle.std.proofs.Common.{◌≡◌, ℕ, ◌+◌, ◌<◌, ◌≤◌, List, [], ◌∷◌, ◌++◌, length, get_or, take, drop, sym, refl, ap, ◌∙◌, arith}
use Rattle.std.proofs.lemmas.List.{length_push, get_or_push, take-append-le, take-append-drop, take_all, take_more, get_or-take, length-take-le}
use Rattle.concept.specs.Growing.{grow}

module _ {A B : Type 0} (make : List B → A → B) where
  -- growing by two lists is growing by the one and then by the other
  pub grow_append : (done : List B) (xs ys : List A) → grow make done (xs ++ ys) ≡ grow make (grow make done xs) ys
  grow_append done [] ys = refl
  grow_append done (x ∷ xs) ys = grow_append (done ++ (make done x ∷ [])) xs ys

  pub grow_push : (done : List B) (xs : List A) (x : A) → grow make done (xs ++ (x ∷ [])) ≡ grow make done xs ++ (make (grow make done xs) x ∷ [])
  grow_push done xs x = grow_append done xs (x ∷ [])

  pub length_grow : (done : List B) (xs : List A) → length (grow make done xs) ≡ length done + length xs
  length_grow done [] = omega arith
  length_grow done (x ∷ xs) = length_grow (done ++ (make done x ∷ [])) xs ∙ omega (arith, length_push done (make done x))

  -- what stands in front stays there
  pub take_grow : (k : ℕ) (done : List B) (xs : List A) → k ≤ length done → take k (grow make done xs) ≡ take k done
  take_grow k done [] h = refl
  take_grow k done (x ∷ xs) h =
      let more : k ≤ length (done ++ (make done x ∷ [])) = omega (arith, length_push done (make done x)) in
      take_grow k (done ++ (make done x ∷ [])) xs more ∙ take-append-le k done (make done x ∷ []) h

  -- the first k entries are grown from the first k elements
  pub grow_take : (k : ℕ) (xs : List A) → k ≤ length xs → take k (grow make [] xs) ≡ grow make [] (take k xs)
  grow_take k xs h =
      let front : List B = grow make [] (take k xs) in
      let long : length front ≡ k = length_grow [] (take k xs) ∙ omega (arith, length-take-le k xs h) in
      ap (λ l. take k (grow make [] l)) (sym (take-append-drop k xs)) ∙ (ap (take k) (grow_append [] (take k xs) (drop k xs))
      ∙ (take_grow k front (drop k xs) (omega arith) ∙ take_all k front (omega arith)))

  -- a lower entry reads the same in a shorter list
  pub grow_below : (xs : List A) (i k : ℕ) (d : B) → i < k → k ≤ length xs → get_or (grow make [] (take k xs)) i d ≡ get_or (grow make [] xs) i d
  grow_below xs i k d lt h = rw (sym (grow_take k xs h)) (get_or-take k (grow make [] xs) i d lt)

  -- the entry at i is made from the entries before it and the element at i
  pub grow_at : (xs : List A) (i : ℕ) (a : A) (d : B) → i < length xs → get_or (grow make [] xs) i d ≡ make (grow make [] (take i xs)) (get_or xs i a)
  grow_at xs i a d h =
      let front : List B = grow make [] (take i xs) in
      let long : length front ≡ i = length_grow [] (take i xs) ∙ omega (arith, length-take-le i xs (omega arith)) in
      sym (grow_below xs i (i + 1) d (omega arith) (omega arith)) ∙ (ap (λ l. get_or (grow make [] l) i d) (take_more xs i a h)
      ∙ (ap (λ l. get_or l i d) (grow_push [] (take i xs) (get_or xs i a)) ∙ get_or_push front (make front (get_or xs i a)) d i long))
