-- Lists of open trials, rising by number.
use Rattle.std.proofs.Common.{◌≡◌, ℕ, zero, suc, ◌-◌, ◌<◌, ◌≤◌, Bool, true, false, cond, ◌&&◌, eqb, ltb, ◌⊎◌, List, [], ◌∷◌, ◌++◌, length, get_or, take, Some, None, sym, refl, ap, ◌∙◌, ap₂, inl, inr, arith}
use Rattle.std.specs.List.{All, position, position_or_len}
use Rattle.std.proofs.lemmas.List.{take_at, append-nil, append_assoc, get_or_at, get_or_append_left, length-append}
use Rattle.std.proofs.lemmas.List.Elements.{All-nil, All-cons, All-append}
use Rattle.std.proofs.lemmas.List.Sums.{position_or_len_is}
use Rattle.std.proofs.lemmas.Bool.{cases_eq, eq-eqb, ne_eqb, lt-ltb, le-ltb, cond-true, cond-false}
use Rattle.sheet.specs.declared.trial.Trial.{Trial}
use Rattle.sheet.specs.Views.{no_trial}
use Rattle.history.specs.Views.{trials_up_to}

-- one trial or none
abbrev pub one_if : (ℕ → Bool) → (ℕ → ℕ) → ℕ → List Trial
one_if test mark n = cond (test n) (record { number = n; mark = mark n } ∷ []) []

-- two tests that agree, with marks that agree where they pass
pub same_trials :
    (test other : ℕ → Bool) (mark sign : ℕ → ℕ) (n : ℕ) → ((k : ℕ) → 0 < k → k ≤ n → test k ≡ other k)
    → ((k : ℕ) → 0 < k → k ≤ n → other k ≡ true → mark k ≡ sign k) → trials_up_to test mark n ≡ trials_up_to other sign n
same_trials test other mark sign zero t g = refl
same_trials test other mark sign (suc n) t g =
    ap₂ ◌++◌ (same_trials test other mark sign n (λ k p q. t k p (omega arith)) (λ k p q. g k p (omega arith)))
    (here (other (suc n)) refl)
  where
    here : (b : Bool) → other (suc n) ≡ b → one_if test mark (suc n) ≡ one_if other sign (suc n)
    here true e =
        cond-true (test (suc n)) _ _ (t (suc n) (omega arith) (omega arith) ∙ e)
        ∙ (ap (λ k. record { number = suc n; mark = k } ∷ []) (g (suc n) (omega arith) (omega arith) e) ∙ sym (cond-true (other (suc n)) _ _ e))
    here false e = cond-false (test (suc n)) _ _ (t (suc n) (omega arith) (omega arith) ∙ e) ∙ sym (cond-false (other (suc n)) _ _ e)

module _ (test : ℕ → Bool) (mark : ℕ → ℕ) where
  -- the trials up to k stand at the front of those up to n
  pub front : (k n : ℕ) → k ≤ n → (rest : List Trial) × (trials_up_to test mark n ≡ trials_up_to test mark k ++ rest)
  front k zero h = ([], ap (trials_up_to test mark) none ∙ sym (append-nil (trials_up_to test mark k)))
    where
      none : 0 ≡ k
      none = omega arith
  front k (suc n) h = go (cases_eq k (suc n)) (λ l. front k n l)
    where
      go : (k ≡ suc n) ⊎ (k ≡ suc n → ⊥) → (k ≤ n → (rest : List Trial) × (trials_up_to test mark n ≡ trials_up_to test mark k ++ rest))
          → (rest : List Trial) × (trials_up_to test mark (suc n) ≡ trials_up_to test mark k ++ rest)
      go (inl e) more = ([], ap (trials_up_to test mark) (sym e) ∙ sym (append-nil (trials_up_to test mark k)))
      go (inr ne) more =
          let l : k ≤ n = omega arith in
          let p = more l in
          (p.0 ++ one_if test mark (suc n), ap (λ r. r ++ one_if test mark (suc n)) p.1 ∙ append_assoc (trials_up_to test mark k) p.0 (one_if test mark (suc n)))

  pub take_front : (k n : ℕ) → k ≤ n → take (length (trials_up_to test mark k)) (trials_up_to test mark n) ≡ trials_up_to test mark k
  take_front k n h =
      let p = front k n h in ap (take (length (trials_up_to test mark k))) p.1 ∙ take_at (trials_up_to test mark k) p.0 _ refl

  -- no trial up to n has the number a
  other_numbers : (a n : ℕ) → (n < a) ⊎ (test a ≡ false) → All (λ (t : Trial). eqb t.number a ≡ false) (trials_up_to test mark n)
  other_numbers a zero h = All-nil (λ (t : Trial). eqb t.number a ≡ false)
  other_numbers a (suc n) h =
      All-append (λ (t : Trial). eqb t.number a ≡ false) (trials_up_to test mark n) (one_if test mark (suc n)) (other_numbers a n (less h)) (here (test (suc n)) refl h)
    where
      less : (suc n < a) ⊎ (test a ≡ false) → (n < a) ⊎ (test a ≡ false)
      less (inl l) = inl (omega arith)
      less (inr e) = inr e

      other : test (suc n) ≡ true → (suc n < a) ⊎ (test a ≡ false) → suc n ≡ a → ⊥
      other e (inl l) q = omega arith
      other e (inr f) q = let z : ◌≡◌ {A = Bool} true false = sym e ∙ (ap test q ∙ f) in let y : ◌≡◌ {A = ℕ} 0 1 = cc in omega arith

      here : (b : Bool) → test (suc n) ≡ b → (suc n < a) ⊎ (test a ≡ false)
          → All (λ (t : Trial). eqb t.number a ≡ false) (cond b (record { number = suc n; mark = mark (suc n) } ∷ []) [])
      here false e d = All-nil (λ (t : Trial). eqb t.number a ≡ false)
      here true e d = All-cons (λ (t : Trial). eqb t.number a ≡ false) _ [] (ne_eqb (suc n) a (other e d)) (All-nil (λ (t : Trial). eqb t.number a ≡ false))

-- the first that passes, where what stands before it fails, and where all fail
found_behind : (p : Trial → Bool) (xs ys : List Trial) (x : Trial) → All (λ t. p t ≡ false) xs → p x ≡ true → position p (xs ++ (x ∷ ys)) ≡ Some (length xs)
found_behind p xs ys x fails passes =
    let long = length-append xs (x ∷ ys) in
    let first : position_or_len p (xs ++ (x ∷ ys)) ≡ length xs =
    position_or_len_is p (xs ++ (x ∷ ys)) (length xs) x (omega arith) (λ k h. ap p (get_or_append_left xs (x ∷ ys) x k h) ∙ fails k x h)
    (λ h. ap p (get_or_at xs x ys x _ refl) ∙ passes) in
    cond-true _ _ _ (lt-ltb (position_or_len p (xs ++ (x ∷ ys))) (length (xs ++ (x ∷ ys))) (omega arith)) ∙ ap Some first

found_nowhere : (p : Trial → Bool) (xs : List Trial) → All (λ t. p t ≡ false) xs → position p xs ≡ None
found_nowhere p xs fails =
    let last = position_or_len_is p xs (length xs) no_trial (omega arith) (λ k h. fails k no_trial h) (λ h. absurd (omega arith)) in
    cond-false _ _ _ (le-ltb (position_or_len p xs) (length xs) (omega arith))

module _ (test : ℕ → Bool) (mark : ℕ → ℕ) (a : ℕ) where
  -- the trial a stands behind those below it
  stands : (n : ℕ) → 0 < a → a ≤ n → test a ≡ true
      → (rest : List Trial) × (trials_up_to test mark n ≡ trials_up_to test mark (a - 1) ++ (record { number = a; mark = mark a } ∷ rest))
  stands n p h t =
      let k : ℕ = a - 1 in
      let up : suc k ≡ a = omega arith in
      let f = front test mark (suc k) n (omega arith) in
      let here : test (suc k) ≡ true = ap test up ∙ t in (
        f.0,
        f.1
            ∙ (ap (λ r. (trials_up_to test mark k ++ r) ++ f.0) (cond-true (test (suc k)) _ _ here)
            ∙ (append_assoc (trials_up_to test mark k) _ f.0 ∙ ap (λ b. trials_up_to test mark k ++ (record { number = b; mark = mark b } ∷ f.0)) up)),
      )

  -- where the trial a stands, if it does, and its mark
  pub place_found : (n : ℕ) → 0 < a → a ≤ n → test a ≡ true
      → position (λ (t : Trial). eqb t.number a) (trials_up_to test mark n) ≡ Some (length (trials_up_to test mark (a - 1)))
  place_found n p h t =
      let s = stands n p h t in
      ap (position (λ (t : Trial). eqb t.number a)) s.1
      ∙ found_behind (λ (t : Trial). eqb t.number a) (trials_up_to test mark (a - 1)) s.0 _ (other_numbers test mark a (a - 1) (inl (omega arith))) (eq-eqb a a refl)

  pub place_missing : (n : ℕ) → test a ≡ false → position (λ (t : Trial). eqb t.number a) (trials_up_to test mark n) ≡ None
  place_missing n t = found_nowhere (λ (t : Trial). eqb t.number a) (trials_up_to test mark n) (other_numbers test mark a n (inr t))

  pub mark_found : (n : ℕ) (d : Trial) → 0 < a → a ≤ n → test a ≡ true
      → (get_or (trials_up_to test mark n) (length (trials_up_to test mark (a - 1))) d).mark ≡ mark a
  mark_found n d p h t =
      let s = stands n p h t in
      ap (λ (r : List Trial). (get_or r (length (trials_up_to test mark (a - 1))) d).mark) s.1
      ∙ ap (λ (r : Trial). r.mark) (get_or_at (trials_up_to test mark (a - 1)) _ s.0 d _ refl)

  -- closing: nothing from a on is left
  pub closed_trials : (sign : ℕ → ℕ) (n : ℕ) → ((k : ℕ) → 0 < k → k < a → sign k ≡ mark k) → 0 < a → a ≤ suc n
      → trials_up_to (λ k. ltb k a && test k) sign n ≡ trials_up_to test mark (a - 1)
  closed_trials sign zero g p h = ap (trials_up_to test mark) none
    where
      none : 0 ≡ a - 1
      none = omega arith
  closed_trials sign (suc n) g p h = go (cases_eq a (suc (suc n))) (λ l. closed_trials sign n g p l)
    where
      go : (a ≡ suc (suc n)) ⊎ (a ≡ suc (suc n) → ⊥) → (a ≤ suc n → trials_up_to (λ k. ltb k a && test k) sign n ≡ trials_up_to test mark (a - 1))
          → trials_up_to (λ k. ltb k a && test k) sign (suc n) ≡ trials_up_to test mark (a - 1)
      go (inl e) more =
          let back : suc n ≡ a - 1 = omega arith in
          same_trials (λ k. ltb k a && test k) test sign mark (suc n)
          (λ k q r. let l : k < a = omega arith in ap (λ b. b && test k) (lt-ltb k a l)) (λ k q r t. g k q (omega arith))
          ∙ ap (trials_up_to test mark) back
      go (inr ne) more =
          let le : a ≤ suc n = omega arith in
          ap (λ b. trials_up_to (λ k. ltb k a && test k) sign n ++ cond (b && test (suc n)) (record { number = suc n; mark = sign (suc n) } ∷ []) []) (le-ltb (suc n) a le)
          ∙ (append-nil (trials_up_to (λ k. ltb k a && test k) sign n) ∙ more le)
