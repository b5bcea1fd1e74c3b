-- The definitions over histories go step by step.
use Rattle.std.proofs.Common.{◌≡◌, ℕ, suc, ◌+◌, ◌-◌, ◌<◌, ◌≤◌, Bool, true, false, ◌&&◌, ◌||◌, eqb, ltb, ◌⊎◌, List, [], ◌∷◌, ◌++◌, map, reverse, length, get_or, take, Some, None, Ok, Err, sym, refl, ap, ◌∙◌, ap₂, inl, inr, add-one, arith}
use mathlib.Core.List.{reverse-cons}
use Rattle.std.proofs.lemmas.List.{take_all, take-map, map_push, length-map, length-reverse}
use Rattle.std.proofs.lemmas.Bool.{eqb-true, eq-eqb, ne_eqb, le-ltb, cond-true, cond-false, and_parts, or_cases}
use Rattle.domain.specs.Meaning.{Meaning}
use Rattle.sheet.specs.declared.trial.Trial.{Trial}
use Rattle.sheet.specs.Statements.{Statement}
use Rattle.sheet.specs.Views.{View, with_statement, with_trial, kept, kept_at, dropped, dropped_at, no_trial, trial_place}
use Rattle.history.specs.Histories.{History, Accepted, opened, is_open, after_closing, before_trial, in_force, objects_set, kinds_set}
use Rattle.history.specs.Histories.Event.{set_up, state, link, set_apart, compare, open_trial, keep, drop}
use Rattle.history.specs.Views.{kept_statement, trials_up_to, mark_of, view_of}
use Rattle.history.specs.Steps.{Stepwise}
use Rattle.history.proofs.Stamps.{all_before, before_both, in_force_stamped, oldest_first}
use Rattle.history.proofs.Trials.{same_trials, take_front, place_found, place_missing, mark_found, closed_trials}

-- an open trial has been opened
closing_narrows : (b : Bool) (a n : ℕ) (was : Bool) → after_closing b a n was ≡ true → was ≡ true
closing_narrows true a n was e = (and_parts (ltb n a) was e).1
closing_narrows false a n was e = e

open_range : (h : History) (n : ℕ) → is_open h n ≡ true → (0 < n) × (n ≤ opened h)
open_range [] n e = let z : ◌≡◌ {A = ℕ} 0 1 = cc in absurd (omega arith)
open_range (set_up objects kinds r ∷ h) n e = open_range h n e
open_range (state o table r ∷ h) n e = open_range h n e
open_range (link o r q x ∷ h) n e = open_range h n e
open_range (set_apart o q r ∷ h) n e = open_range h n e
open_range (compare f c o g q k r ∷ h) n e = open_range h n e
open_range (open_trial (Ok k) ∷ h) n e = go (or_cases (eqb n (opened h + 1)) (is_open h n) e) (λ t. open_range h n t)
  where
    go : (eqb n (opened h + 1) ≡ true) ⊎ (is_open h n ≡ true) → (is_open h n ≡ true → (0 < n) × (n ≤ opened h)) → (0 < n) × (n ≤ opened h + 1)
    go (inl t) more = let q = eqb-true n (opened h + 1) t in (omega arith, omega arith)
    go (inr t) more = let p = more t in let a = p.0 in let b = p.1 in (a, omega arith)
open_range (open_trial (Err x) ∷ h) n e = open_range h n e
open_range (keep a k ∷ h) n e = open_range h n (closing_narrows (is_open h a) a n (is_open h n) e)
open_range (drop a k ∷ h) n e = open_range h n (closing_narrows (is_open h a) a n (is_open h n) e)

-- a view by its parts
abbrev holding : ℕ → List ℕ → ℕ → List Statement → List Trial → View
holding objects kinds n statements trials =
    record { objects = objects; kinds = kinds; statements = statements; trials = trials; opened = n }

module _ (m : Meaning) (h : History) where
  abbrev statements_of : List Accepted → List Statement
  statements_of xs = map (kept_statement m) (reverse xs)

  abbrev trials_of : List Trial
  trials_of = trials_up_to (is_open h) (mark_of h) (opened h)

  -- one accepted statement more
  pushed : (s : Accepted) (xs : List Accepted) → statements_of (s ∷ xs) ≡ statements_of xs ++ (kept_statement m s ∷ [])
  pushed s xs = ap (map (kept_statement m)) (reverse-cons s xs) ∙ map_push (kept_statement m) (reverse xs) s

  -- a statement that is newer than every open trial moves no mark
  marks_stay : (s : Statement) → trials_up_to (is_open h) (λ n. length (before_trial n (record { stamp = opened h; statement = s } ∷ in_force h))) (opened h) ≡ trials_of
  marks_stay s =
      same_trials (is_open h) (is_open h) (λ n. length (before_trial n (record { stamp = opened h; statement = s } ∷ in_force h))) (mark_of h) (opened h) (λ k p q. refl)
      (λ k p q t. ap length (cond-false (ltb (opened h) k) (record { stamp = opened h; statement = s } ∷ before_trial k (in_force h)) (before_trial k (in_force h)) (le-ltb (opened h) k q)))

  accepted : (s : Statement) →
      holding (objects_set h) (kinds_set h) (opened h) (statements_of (record { stamp = opened h; statement = s } ∷ in_force h))
      (trials_up_to (is_open h) (λ n. length (before_trial n (record { stamp = opened h; statement = s } ∷ in_force h))) (opened h))
      ≡ with_statement (view_of m h) (kept_statement m (record { stamp = opened h; statement = s }))
  accepted s =
      ap₂ (holding (objects_set h) (kinds_set h) (opened h)) (pushed (record { stamp = opened h; statement = s }) (in_force h)) (marks_stay s)

  -- one open trial more
  opened_one : (k : ℕ) → view_of m (open_trial (Ok k) ∷ h) ≡ with_trial (view_of m h)
  opened_one k = ap (holding (objects_set h) (kinds_set h) (opened h + 1) (statements_of (in_force h))) longer
    where
      test : ℕ → Bool
      test n = eqb n (opened h + 1) || is_open h n

      earlier : trials_up_to test (mark_of h) (opened h) ≡ trials_of
      earlier =
          same_trials test (is_open h) (mark_of h) (mark_of h) (opened h)
          (λ n p q. let ne : n ≡ opened h + 1 → ⊥ = λ e. omega arith in ap (λ b. b || is_open h n) (ne_eqb n (opened h + 1) ne)) (λ n p q t. refl)

      newest : test (suc (opened h)) ≡ true
      newest = ap (λ b. b || is_open h (suc (opened h))) (eq-eqb (suc (opened h)) (opened h + 1) (omega arith))

      whole : mark_of h (suc (opened h)) ≡ length (statements_of (in_force h))
      whole =
          ap length (all_before (suc (opened h)) (opened h) (in_force h) (in_force_stamped h) (omega arith))
          ∙ sym (length-map (reverse (in_force h)) (kept_statement m) ∙ length-reverse (in_force h))

      longer : trials_up_to test (mark_of h) (opened h + 1) ≡ trials_of ++ (record { number = opened h + 1; mark = length (statements_of (in_force h)) } ∷ [])
      longer =
          ap (trials_up_to test (mark_of h)) (add-one (opened h))
          ∙ ap₂ ◌++◌ earlier
          (cond-true (test (suc (opened h))) _ _ newest
          ∙ ap₂ (λ (a b : ℕ). record { number = a; mark = b } ∷ []) (sym (add-one (opened h))) whole)

  module _ (a : ℕ) (sign : ℕ → ℕ) (g : (k : ℕ) → 0 < k → k < a → sign k ≡ mark_of h k) where
    -- the trials that a closing leaves
    closed : is_open h a ≡ true
        → trials_up_to (λ n. after_closing (is_open h a) a n (is_open h n)) sign (opened h) ≡ take (length (trials_up_to (is_open h) (mark_of h) (a - 1))) trials_of
    closed e =
        let r = open_range h a e in
        let low = r.0 in
        let high = r.1 in
        same_trials _ (λ n. ltb n a && is_open h n) sign sign (opened h) (λ k p q. ap (λ b. after_closing b a k (is_open h k)) e) (λ k p q t. refl)
        ∙ (closed_trials (is_open h) (mark_of h) a sign (opened h) g low (omega arith)
        ∙ sym (take_front (is_open h) (mark_of h) (a - 1) (opened h) (omega arith)))

  -- a closing of a trial that is not open changes nothing
  unclosed : (a : ℕ) → is_open h a ≡ false → trials_up_to (λ n. after_closing (is_open h a) a n (is_open h n)) (mark_of h) (opened h) ≡ trials_of
  unclosed a e =
      same_trials _ (is_open h) (mark_of h) (mark_of h) (opened h) (λ k p q. ap (λ b. after_closing b a k (is_open h k)) e) (λ k p q t. refl)

  place_open : (a : ℕ) → is_open h a ≡ true → trial_place (view_of m h) a ≡ Some (length (trials_up_to (is_open h) (mark_of h) (a - 1)))
  place_open a e = let r = open_range h a e in place_found (is_open h) (mark_of h) a (opened h) r.0 r.1 e

  kept_one : (a n : ℕ) → view_of m (keep a n ∷ h) ≡ kept (view_of m h) a
  kept_one a n = go (is_open h a) refl
    where
      go : (b : Bool) → is_open h a ≡ b → view_of m (keep a n ∷ h) ≡ kept (view_of m h) a
      go true e =
          ap₂ (holding (objects_set h) (kinds_set h) (opened h))
          (sym (take_all (length (statements_of (in_force h))) (statements_of (in_force h)) (omega arith))) (closed a (mark_of h) (λ k p q. refl) e)
          ∙ sym (ap (kept_at (view_of m h)) (place_open a e))
      go false e =
          ap (holding (objects_set h) (kinds_set h) (opened h) (statements_of (in_force h))) (unclosed a e)
          ∙ sym (ap (kept_at (view_of m h)) (place_missing (is_open h) (mark_of h) a (opened h) e))

  dropped_one : (a n : ℕ) → view_of m (drop a n ∷ h) ≡ dropped (view_of m h) a
  dropped_one a n = go (is_open h a) refl
    where
      go : (b : Bool) → is_open h a ≡ b → view_of m (drop a n ∷ h) ≡ dropped (view_of m h) a
      go true e =
          let r = open_range h a e in
          let left : in_force (drop a n ∷ h) ≡ before_trial a (in_force h) = cond-true (is_open h a) _ _ e in
          let mark : (get_or trials_of (length (trials_up_to (is_open h) (mark_of h) (a - 1))) no_trial).mark ≡ mark_of h a = mark_found (is_open h) (mark_of h) a (opened h) no_trial r.0 r.1 e in
          ap₂ (holding (objects_set h) (kinds_set h) (opened h))
          (ap statements_of left
          ∙ (sym (take-map (kept_statement m) (mark_of h a) (reverse (in_force h)) ∙ ap (map (kept_statement m)) (oldest_first a (opened h) (in_force h) (in_force_stamped h)))
          ∙ ap (λ k. take k (statements_of (in_force h))) (sym mark)))
          (closed a (mark_of (drop a n ∷ h)) (λ k p q. ap (λ xs. length (before_trial k xs)) left ∙ ap length (before_both k a (in_force h) (omega arith))) e)
          ∙ sym (ap (dropped_at (view_of m h)) (place_open a e))
      go false e =
          let left : in_force (drop a n ∷ h) ≡ in_force h = cond-false (is_open h a) _ _ e in
          ap₂ (holding (objects_set h) (kinds_set h) (opened h)) (ap statements_of left)
          (same_trials (is_open (drop a n ∷ h)) (is_open (drop a n ∷ h)) (mark_of (drop a n ∷ h)) (mark_of h) (opened h) (λ k p q. refl) (λ k p q t. ap (λ xs. length (before_trial k xs)) left) ∙ unclosed a e)
          ∙ sym (ap (dropped_at (view_of m h)) (place_missing (is_open h) (mark_of h) a (opened h) e))

pub stepwise : Stepwise
stepwise m (set_up objects kinds None) h = refl
stepwise m (set_up objects kinds (Some e)) h = refl
stepwise m (state o table None) h = accepted m h _
stepwise m (state o table (Some e)) h = refl
stepwise m (link o r q None) h = accepted m h _
stepwise m (link o r q (Some e)) h = refl
stepwise m (set_apart o q None) h = accepted m h _
stepwise m (set_apart o q (Some e)) h = refl
stepwise m (compare f c o g q k None) h = accepted m h _
stepwise m (compare f c o g q k (Some e)) h = refl
stepwise m (open_trial (Ok n)) h = opened_one m h n
stepwise m (open_trial (Err e)) h = refl
stepwise m (keep a n) h = kept_one m h a n
stepwise m (drop a n) h = dropped_one m h a n
