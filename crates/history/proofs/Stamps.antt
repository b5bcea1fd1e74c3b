-- The statements in force are stamped in the order in which they were accepted.
use Rattle.std.proofs.Common.{◌≡◌, ℕ, ◌+◌, ◌<◌, ◌≤◌, Bool, true, false, cond, ltb, ◌⊎◌, List, [], ◌∷◌, reverse, length, take, Some, None, Ok, Err, Option, sym, refl, ap, ◌∙◌, inl, inr, arith}
use mathlib.Core.List.{reverse-cons}
use Rattle.std.proofs.lemmas.List.{take_all, take-append-le, length-reverse}
use Rattle.std.proofs.lemmas.Bool.{cases_lt, lt-ltb, le-ltb, cond-true, cond-false}
use Rattle.sheet.specs.declared.refusal.Refusal.{Refusal}
use Rattle.sheet.specs.Statements.{Statement}
use Rattle.history.specs.Histories.{History, Accepted, accept, opened, is_open, before_trial, in_force}
use Rattle.history.specs.Histories.Event.{set_up, state, link, set_apart, compare, open_trial, keep, drop}

-- stamps are at most n, and do not rise from newer to older
abbrev pub Stamped : ℕ → List Accepted → Type 0
Stamped n [] = Unit {0}
Stamped n (s ∷ xs) = (s.stamp ≤ n) × Stamped s.stamp xs

pub stamped_later : (n k : ℕ) (xs : List Accepted) → n ≤ k → Stamped n xs → Stamped k xs
stamped_later n k [] h s = tt
stamped_later n k (x ∷ xs) h s = let a = s.0 in (omega arith, s.1)

-- all were accepted before a trial that is opened later
pub all_before : (a n : ℕ) (xs : List Accepted) → Stamped n xs → n < a → before_trial a xs ≡ xs
all_before a n [] s h = refl
all_before a n (x ∷ xs) s h =
    let le = s.0 in
    let lt : x.stamp < a = omega arith in
    cond-true (ltb x.stamp a) _ _ (lt-ltb x.stamp a lt) ∙ ap (λ r. x ∷ r) (all_before a x.stamp xs s.1 lt)

pub before_stamped : (a n : ℕ) (xs : List Accepted) → Stamped n xs → Stamped n (before_trial a xs)
before_stamped a n [] s = tt
before_stamped a n (x ∷ xs) s = go (ltb x.stamp a) (before_stamped a x.stamp xs s.1)
  where
    go : (b : Bool) → Stamped x.stamp (before_trial a xs) → Stamped n (cond b (x ∷ before_trial a xs) (before_trial a xs))
    go true t = (s.0, t)
    go false t = stamped_later x.stamp n (before_trial a xs) s.0 t

pub before_shorter : (a : ℕ) (xs : List Accepted) → length (before_trial a xs) ≤ length xs
before_shorter a [] = omega arith
before_shorter a (x ∷ xs) = go (ltb x.stamp a) (before_shorter a xs)
  where
    go : (b : Bool) → length (before_trial a xs) ≤ length xs → length (cond b (x ∷ before_trial a xs) (before_trial a xs)) ≤ length (x ∷ xs)
    go true h = omega arith
    go false h = omega arith

-- what is older than an older trial is older than both
pub before_both : (n a : ℕ) (xs : List Accepted) → n ≤ a → before_trial n (before_trial a xs) ≡ before_trial n xs
before_both n a [] h = refl
before_both n a (x ∷ xs) h = go (cases_lt x.stamp a) (before_both n a xs h)
  where
    go : (x.stamp < a) ⊎ (a ≤ x.stamp) → before_trial n (before_trial a xs) ≡ before_trial n xs
        → before_trial n (before_trial a (x ∷ xs)) ≡ before_trial n (x ∷ xs)
    go (inl lt) ih =
        ap (before_trial n) (cond-true (ltb x.stamp a) _ _ (lt-ltb x.stamp a lt)) ∙ ap (λ r. cond (ltb x.stamp n) (x ∷ r) r) ih
    go (inr le) ih =
        let le' : n ≤ x.stamp = omega arith in
        ap (before_trial n) (cond-false (ltb x.stamp a) _ _ (le-ltb x.stamp a le))
        ∙ (ih ∙ sym (cond-false (ltb x.stamp n) _ _ (le-ltb x.stamp n le')))

-- oldest first, what was accepted before a trial stands at the front
pub oldest_first : (a n : ℕ) (xs : List Accepted) → Stamped n xs → take (length (before_trial a xs)) (reverse xs) ≡ reverse (before_trial a xs)
oldest_first a n [] s = refl
oldest_first a n (x ∷ xs) s = go (cases_lt x.stamp a) (oldest_first a x.stamp xs s.1)
  where
    go : (x.stamp < a) ⊎ (a ≤ x.stamp) → take (length (before_trial a xs)) (reverse xs) ≡ reverse (before_trial a xs)
        → take (length (before_trial a (x ∷ xs))) (reverse (x ∷ xs)) ≡ reverse (before_trial a (x ∷ xs))
    go (inl lt) ih =
        let all : before_trial a (x ∷ xs) ≡ x ∷ xs = cond-true (ltb x.stamp a) _ _ (lt-ltb x.stamp a lt) ∙ ap (λ r. x ∷ r) (all_before a x.stamp xs s.1 lt) in
        let long : length (reverse (x ∷ xs)) ≤ length (x ∷ xs) = omega (arith, length-reverse (x ∷ xs)) in
        rw all (take_all (length (x ∷ xs)) (reverse (x ∷ xs)) long)
    go (inr le) ih =
        let rest : before_trial a (x ∷ xs) ≡ before_trial a xs = cond-false (ltb x.stamp a) _ _ (le-ltb x.stamp a le) in
        let short : length (before_trial a xs) ≤ length (reverse xs) = omega (arith, length-reverse xs, before_shorter a xs) in
        rw rest
        (ap (take (length (before_trial a xs))) (reverse-cons x xs)
        ∙ (take-append-le (length (before_trial a xs)) (reverse xs) (x ∷ []) short ∙ ih))

accept_stamped : (r : Option Refusal) (n : ℕ) (s : Statement) (xs : List Accepted) → Stamped n xs → Stamped n (accept r n s xs)
accept_stamped None n s xs h = (omega arith, h)
accept_stamped (Some e) n s xs h = h

pub in_force_stamped : (h : History) → Stamped (opened h) (in_force h)
in_force_stamped [] = tt
in_force_stamped (set_up objects kinds r ∷ h) = in_force_stamped h
in_force_stamped (state o table r ∷ h) = accept_stamped r (opened h) _ (in_force h) (in_force_stamped h)
in_force_stamped (link o r q x ∷ h) = accept_stamped x (opened h) _ (in_force h) (in_force_stamped h)
in_force_stamped (set_apart o q r ∷ h) = accept_stamped r (opened h) _ (in_force h) (in_force_stamped h)
in_force_stamped (compare f c o g q k r ∷ h) = accept_stamped r (opened h) _ (in_force h) (in_force_stamped h)
in_force_stamped (open_trial (Ok n) ∷ h) = stamped_later (opened h) (opened h + 1) (in_force h) (omega arith) (in_force_stamped h)
in_force_stamped (open_trial (Err e) ∷ h) = in_force_stamped h
in_force_stamped (keep a n ∷ h) = in_force_stamped h
in_force_stamped (drop a n ∷ h) = go (is_open h a) (in_force_stamped h)
  where
    go : (b : Bool) → Stamped (opened h) (in_force h) → Stamped (opened h) (cond b (before_trial a (in_force h)) (in_force h))
    go true s = before_stamped a (opened h) (in_force h) s
    go false s = s
