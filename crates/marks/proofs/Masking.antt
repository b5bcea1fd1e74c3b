-- Taking marks from the sets, row by row.
use Rattle.std.proofs.Common.{◌≡◌, ℕ, ◌+◌, ◌<◌, true, ◌&&◌, List, length, get_or, replicate, set, sym, ap, ◌∙◌, inl, inr, arith, below_more}
use lib.Bits.{bit_and}
use Rattle.std.proofs.lemmas.List.{get_or-set_same, get_or-set_other, get_or-replicate, length-set, length-replicate}
use Rattle.std.proofs.lemmas.Bool.{cases_eq, and_parts, and_from, ne_eqb, cond-false}
use Rattle.domain.specs.declared.predicate.Row.{Row}
use Rattle.marks.specs.Marks.{has}
use Rattle.marks.specs.Rows.{nth_row, one, Masked}
use Rattle.marks.proofs.Sets.{has_all, has_and}

pub masked_none : (rows : List Row) → Masked rows 0 (replicate 512 65535)
masked_none rows = record {
  size = length-replicate {A = ℕ} 512 65535;
  suits = λ v x lv lx h i l. absurd (omega arith);
  whole = λ v x lv lx _. ap (λ s. has s x) (get_or-replicate 512 v 65535 0 lv) ∙ has_all x lx;
}

module _ (sets : List ℕ) (w m : ℕ) (lw : w < length sets) where
  -- the set of w has lost what is not in m
  pub has_less_same : (x : ℕ) → has (get_or (set sets w (bit_and (get_or sets w 0) m)) w 0) x ≡ (has (get_or sets w 0) x && has m x)
  has_less_same x = ap (λ s. has s x) (get_or-set_same sets w _ 0 lw) ∙ has_and (get_or sets w 0) m x

  pub has_less_other : (v x : ℕ) → (v ≡ w → ⊥) → has (get_or (set sets w (bit_and (get_or sets w 0) m)) v 0) x ≡ has (get_or sets v 0) x
  has_less_other v x n = ap (λ s. has s x) (get_or-set_other sets w v _ 0 n)

  pub has_less_before :
      (v x : ℕ) → has (get_or (set sets w (bit_and (get_or sets w 0) m)) v 0) x ≡ true → has (get_or sets v 0) x ≡ true
  has_less_before v x h = elim (cases_eq v w) [
    | inl e ↦ ap (λ u. has (get_or sets u 0) x) e
        ∙ (and_parts _ _ (sym (has_less_same x) ∙ ap (λ u. has (get_or (set sets w (bit_and (get_or sets w 0) m)) u 0) x) (sym e) ∙ h)).0
    | inr n ↦ sym (has_less_other v x n) ∙ h
  ]

  pub has_less_after :
      (v x : ℕ) → has (get_or sets v 0) x ≡ true → (v ≡ w → has m x ≡ true)
      → has (get_or (set sets w (bit_and (get_or sets w 0) m)) v 0) x ≡ true
  has_less_after v x h t = elim (cases_eq v w) [
    | inl e ↦ ap (λ u. has (get_or (set sets w (bit_and (get_or sets w 0) m)) u 0) x) e ∙ has_less_same x
        ∙ and_from _ _ (ap (λ u. has (get_or sets u 0) x) (sym e) ∙ h) (t e)
    | inr n ↦ has_less_other v x n ∙ h
  ]

module _ (rows : List Row) (n : ℕ) (sets : List ℕ) (g : Masked rows n sets) where
  pub masked_more :
      (m : ℕ) → (nth_row rows n).first < 512 → ((x : ℕ) → x < 16 → has m x ≡ one (nth_row rows n) x)
      → Masked rows (n + 1) (set sets (nth_row rows n).first (bit_and (get_or sets (nth_row rows n).first 0) m))
  masked_more m lf marks = record {
    size = length-set sets w _ ∙ g.size;
    suits = λ v x lv lx h.
        below_more _ n (g.suits v x lv lx (has_less_before sets w m lw v x h))
        (λ e. sym (marks x lx) ∙ (and_parts _ _ (sym (has_less_same sets w m lw x) ∙ ap (λ u. has (get_or (set sets w (bit_and (get_or sets w 0) m)) u 0) x) e ∙ h)).1);
    whole = λ v x lv lx s.
        has_less_after sets w m lw v x (g.whole v x lv lx (λ i l. s i (omega arith))) (λ e. marks x lx ∙ s n (omega arith) (sym e));
  }
    where
      w : ℕ
      w = (nth_row rows n).first

      lw : w < length sets
      lw = let k = g.size in omega arith

-- a row of form 3 or 4 holds of every mark
pub one_of_other :
    (r : Row) (x : ℕ) → x < 16 → (r.predicate.form ≡ 1 → ⊥) → (r.predicate.form ≡ 2 → ⊥) → has 65535 x ≡ one r x
one_of_other r x l n1 n2 =
    has_all x l ∙ sym (cond-false _ _ _ (ne_eqb r.predicate.form 1 n1) ∙ cond-false _ _ _ (ne_eqb r.predicate.form 2 n2))
