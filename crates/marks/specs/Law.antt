-- Marks is lawful.
use Rattle.std.specs.Prelude.{◌≡◌, ℕ, ◌≤◌, Bool, true, false, cond, not, ◌&&◌, ◌||◌, ◌⊎◌, ℤ, pos, negsuc, ◌≤ℤ◌, FitsSigned, ◌==◌, int_le, nat_lt, refl}
use Rattle.std.proofs.Common.{inl, inr, sym, subst, arith}
use Rattle.std.specs.Int.{w32}
use Rattle.std.proofs.lemmas.Bool.{and_parts, eqb-true, leb-true, cases_eq, ne_eqb, both_ways, cond_both}
use Rattle.std.proofs.lemmas.Int.{ints}
use Rattle.domain.specs.declared.predicate.Predicate.{Predicate}
use Rattle.domain.specs.Forms.{turned}
use Rattle.domain.specs.Meaning.{Lawful, Complementary}
use Rattle.marks.specs.Marks.{marks, in_range, places, says, has, nat}

-- a value of the domain is a natural number up to 15
pub mark_of : (x : ℤ) → in_range x ≡ true → (n : ℕ) × (x ≡ pos n) × (n ≤ 15)
mark_of (pos n) h = (n, refl, leb-true n 15 (and_parts _ _ h).1)
mark_of (negsuc n) h = absurd (both_ways false refl h)

of_mark : (n : ℕ) → n ≤ 15 → FitsSigned w32 (pos n)
of_mark n h = record { sfits = omega arith }

pub fits_mark : (x : ℤ) → in_range x ≡ true → FitsSigned w32 x
fits_mark x h = let m = mark_of x h in subst (λ z. FitsSigned w32 z) (sym m.1) (of_mark m.0 m.2)

below_top : (x : ℤ) → in_range x ≡ true → x ≤ℤ pos 15
below_top x h = let m = mark_of x h in subst (λ z. z ≤ℤ pos 15) (sym m.1) (let l = m.2 in omega (arith, ints))

not_not : (b : Bool) → b ≡ not (not b)
not_not true = refl
not_not false = refl

few_places : (f : ℕ) (c : ℤ) → places f c ≤ 2
few_places f c =
    cond_both (f == 1 || f == 2) _ _ (λ n. n ≤ 2)
    (λ _. cond_both (int_le (pos 0) c && int_le c (pos 65535)) 1 0 (λ n. n ≤ 2) (λ _. omega arith) (λ _. omega arith))
    (λ _. cond_both (f == 3 || f == 4) _ _ (λ n. n ≤ 2)
    (λ _. cond_both (int_le (pos 0) c && int_le c (pos 0)) 2 0 (λ n. n ≤ 2) (λ _. omega arith) (λ _. omega arith))
    (λ _. omega arith))

abbrev pred : ℕ → ℕ → ℤ → Predicate
pred k f c = record { kind = k; form = f; constant = c }

abbrev Turns : ℕ → ℕ → ℤ → Type 0
Turns k f c = Complementary marks (pred k f c) (pred k (turned f) c)

-- a known predicate has one of the four forms
pub four_forms :
    (f : ℕ) (c : ℤ) → nat_lt 0 (places f c) ≡ true → ((f ≡ 1) ⊎ (f ≡ 2)) ⊎ ((f ≡ 3) ⊎ (f ≡ 4))
four_forms f c h =
    elim (cases_eq f 1) [
      | inl e ↦ inl (inl e)
      | inr n1 ↦
          elim (cases_eq f 2) [
            | inl e ↦ inl (inr e)
            | inr n2 ↦
                elim (cases_eq f 3) [
                  | inl e ↦ inr (inl e)
                  | inr n3 ↦
                      elim (cases_eq f 4) [
                        | inl e ↦ inr (inr e)
                        | inr n4 ↦
                            absurd (both_ways _ (rw (ne_eqb f 1 n1, ne_eqb f 2 n2, ne_eqb f 3 n3, ne_eqb f 4 n4)) h)
                      ]
                ]
          ]
    ]

turns_1 : (k : ℕ) (c : ℤ) → Turns k 1 c
turns_1 k c = record { arity = refl; kind = refl; back = refl; turned = λ x y _ _. refl }

turns_2 : (k : ℕ) (c : ℤ) → Turns k 2 c
turns_2 k c = record { arity = refl; kind = refl; back = refl; turned = λ x y _ _. not_not (has (nat c) (nat x)) }

turns_3 : (k : ℕ) (c : ℤ) → Turns k 3 c
turns_3 k c = record { arity = refl; kind = refl; back = refl; turned = λ x y _ _. refl }

turns_4 : (k : ℕ) (c : ℤ) → Turns k 4 c
turns_4 k c = record { arity = refl; kind = refl; back = refl; turned = λ x y _ _. not_not (nat x == nat y) }

known_parts : (k : ℕ) (n : ℕ) → nat_lt 0 (cond (k == 0) n 0) ≡ true → ((k == 0) ≡ true) × (nat_lt 0 n ≡ true)
known_parts k n h = go (k == 0) h
  where
    go : (b : Bool) → nat_lt 0 (cond b n 0) ≡ true → (b ≡ true) × (nat_lt 0 n ≡ true)
    go true e = (refl, e)
    go false e = absurd (both_ways false refl e)

turns : (k f : ℕ) (c : ℤ) → nat_lt 0 (places f c) ≡ true → Turns k f c
turns k f c h =
    elim (four_forms f c h) [
      | inl a ↦ elim a [ inl e ↦ subst (λ n. Turns k n c) (sym e) (turns_1 k c) | inr e ↦ subst (λ n. Turns k n c) (sym e) (turns_2 k c) ]
      | inr a ↦ elim a [ inl e ↦ subst (λ n. Turns k n c) (sym e) (turns_3 k c) | inr e ↦ subst (λ n. Turns k n c) (sym e) (turns_4 k c) ]
    ]

one_place : (f : ℕ) (c : ℤ) (b : Bool) → cond b (places f c) 0 ≡ 1 → (x y z : ℕ) → says f (nat c) x y ≡ says f (nat c) x z
one_place f c b h x y z =
    elim (cases_eq f 3) [
      | inl e ↦ absurd (two_not_one 3 b (rw e at h) (λ n. refl))
      | inr n3 ↦ elim (cases_eq f 4) [
        | inl e ↦ absurd (two_not_one 4 b (rw e at h) (λ n. refl))
        | inr n4 ↦ rw (ne_eqb f 3 n3, ne_eqb f 4 n4)
      ]
    ]
  where
    two : (b d : Bool) → ◌≡◌ {A = ℕ} (cond b (cond d 2 0) 0) 1 → ⊥
    two true true e = omega arith
    two true false e = omega arith
    two false d e = omega arith

    two_not_one : (g : ℕ) (b : Bool) → cond b (places g c) 0 ≡ 1 → ((n : ℕ) → places g c ≡ cond (int_le (pos 0) c && int_le c (pos 0)) 2 0) → ⊥
    two_not_one g b e s = two b (int_le (pos 0) c && int_le c (pos 0)) (rw (s 0) at e)

pub lawful : Lawful marks
lawful = record {
  kinds = λ k h. let e = eqb-true k 0 h in omega arith;
  values = λ k x h. fits_mark x (and_parts _ _ h).1;
  owned = λ k x h. (and_parts _ _ h).0;
  sampled = λ k h. rw h;
  topped = λ k x h. below_top x (and_parts _ _ h).1;
  arities = λ p. cond_both (p.kind == 0) (places p.form p.constant) 0 (λ n. n ≤ 2) (λ _. few_places p.form p.constant) (λ _. omega arith);
  kinded = λ p h. (known_parts p.kind _ h).0;
  alone = λ p x y z h. one_place p.form p.constant (p.kind == 0) h (nat x) (nat y) (nat z);
  complements = λ p h. turns p.kind p.form p.constant (known_parts p.kind _ h).1;
}
