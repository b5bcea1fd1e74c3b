-- Gathering the sets of joined variables.
use Rattle.std.proofs.Common.{◌≡◌, ℕ, ◌+◌, ◌<◌, true, List, length, get_or, replicate, set, sym, ap, ◌∙◌, subst, inl, inr, arith, below_more}
use lib.Bits.{bit_and, and_le_l}
use Rattle.std.proofs.lemmas.List.{get_or-set_same, get_or-set_other, get_or-replicate, length-set, length-replicate}
use Rattle.std.proofs.lemmas.Bool.{cases_eq, and_parts}
use Rattle.marks.specs.Marks.{has}
use Rattle.marks.specs.Choices.{Within, set_of}
use Rattle.marks.specs.Joins.{root_of, Rooted, Gathered}
use Rattle.marks.proofs.Sets.{has_all, has_not_empty}
use Rattle.marks.proofs.Masking.{has_less_same, has_less_before, has_less_after}

module _ (sets roots : List ℕ) (size : length sets ≡ 512) where
  pub gathered_none : Gathered sets roots 0 (replicate 512 65535)
  gathered_none = record {
    size = length-replicate {A = ℕ} 512 65535;
    full = λ v l. let e = blank v (let k = length-replicate {A = ℕ} 512 65535 in omega arith) in (omega arith, omega arith);
    within = λ f _ within u l. let lu : u < 512 = let k = length-replicate {A = ℕ} 512 65535 in omega arith in
        let in_set = within u (omega arith) in
        (in_set.0, ap (λ s. has s (f u)) (blank u lu) ∙ has_all (f u) in_set.0);
    narrow = λ v x l. absurd (omega arith);
  }
    where
      blank : (v : ℕ) → v < 512 → get_or (replicate {A = ℕ} 512 65535) v 0 ≡ 65535
      blank v l = get_or-replicate {A = ℕ} 512 v 65535 0 l

  module _ (n : ℕ) (joined : List ℕ) (g : Gathered sets roots n joined) (l : n < 512) (lr : root_of roots n < 512) where
    lw : root_of roots n < length joined
    lw = let k = g.size in omega arith

    -- what fits before fits after
    kept :
        (f : ℕ → ℕ) → Rooted roots f → Within sets f
        → Within (set joined (root_of roots n) (bit_and (set_of joined (root_of roots n)) (set_of sets n))) f
    kept f rooted within u lu =
        let old = g.within f rooted within u (let k = length-set joined (root_of roots n) (bit_and (set_of joined (root_of roots n)) (set_of sets n)) in omega arith) in (
          old.0,
          has_less_after joined (root_of roots n) (set_of sets n) lw u (f u) old.1
              (λ e. ap (has (set_of sets n)) (ap f e ∙ sym (rooted n l)) ∙ (within n (omega arith)).1),
        )

    pub gathered_stuck :
        bit_and (set_of joined (root_of roots n)) (set_of sets n) ≡ 0 → (f : ℕ → ℕ) → Rooted roots f → Within sets f → ⊥
    gathered_stuck e f rooted within =
        has_not_empty _ (f (root_of roots n))
        (sym (ap (λ s. has s (f (root_of roots n))) (get_or-set_same joined (root_of roots n) _ 0 lw))
        ∙ (kept f rooted within (root_of roots n) (let k = length-set joined (root_of roots n) (bit_and (set_of joined (root_of roots n)) (set_of sets n)) in let z = lw in omega arith)).1)
        e

    pub gathered_more :
        (bit_and (set_of joined (root_of roots n)) (set_of sets n) ≡ 0 → ⊥)
        → Gathered sets roots (n + 1) (set joined (root_of roots n) (bit_and (set_of joined (root_of roots n)) (set_of sets n)))
    gathered_more some = record {
      size = length-set joined (root_of roots n) _ ∙ g.size;
      full = λ u lu. elim (cases_eq u (root_of roots n)) [
        | inl e ↦ subst (λ s. (0 < s) × (s < 65536))
            (sym (ap (set_of (set joined (root_of roots n) (bit_and (set_of joined (root_of roots n)) (set_of sets n)))) e ∙ get_or-set_same joined (root_of roots n) _ 0 lw))
            (omega (arith, some), let small = (g.full (root_of roots n) lw).1 in omega (arith, and_le_l (set_of joined (root_of roots n)) (set_of sets n)))
        | inr k ↦ subst (λ s. (0 < s) × (s < 65536)) (sym (get_or-set_other joined (root_of roots n) u _ 0 k))
            (g.full u (let z = length-set joined (root_of roots n) (bit_and (set_of joined (root_of roots n)) (set_of sets n)) in omega arith))
      ];
      within = kept;
      narrow = λ v x lv lx h. below_more
          (λ w. has (set_of (set joined (root_of roots n) (bit_and (set_of joined (root_of roots n)) (set_of sets n))) (root_of roots w)) x ≡ true → has (set_of sets w) x ≡ true)
          n
          (λ w lw' t. g.narrow w x lw' lx (has_less_before joined (root_of roots n) (set_of sets n) lw (root_of roots w) x t))
          (λ t. (and_parts _ _ (sym (has_less_same joined (root_of roots n) (set_of sets n) lw x) ∙ t)).1)
          v lv h;
    }
