-- Two marks that stand in the same sets can be exchanged in any choice.
use Rattle.std.proofs.Common.{◌≡◌, ℕ, ◌<◌, cond, eqb, List, sym, ap, ◌∙◌, inl, inr, arith}
use Rattle.std.proofs.lemmas.Bool.{cases_eq, eq-eqb, ne_eqb, cond-true, cond-false}
use Rattle.std.proofs.lemmas.Bool.Decides.{nat_tests}
use Rattle.marks.specs.declared.pair.Pair.{Pair}
use Rattle.marks.specs.Marks.{has}
use Rattle.marks.specs.Choices.{Fits, Alike, set_of}

abbrev swap : ℕ → ℕ → ℕ → ℕ
swap a b x = cond (eqb x a) b (cond (eqb x b) a x)

swap_back : (a b x : ℕ) → swap a b (swap a b x) ≡ x
swap_back a b x = grind (arith, nat_tests)

swap_below : (a b x n : ℕ) → a < n → b < n → x < n → swap a b x < n
swap_below a b x n la lb lx = grind (arith, nat_tests)

swap_at : (a b : ℕ) → swap a b b ≡ a
swap_at a b = grind (arith, nat_tests)

swap_has : (m a b x : ℕ) → has m a ≡ has m b → has m (swap a b x) ≡ has m x
swap_has m a b x e = elim (cases_eq x a) [
  | inl h ↦ ap (has m) (cond-true (eqb x a) b _ (eq-eqb x a h)) ∙ sym e ∙ ap (has m) (sym h)
  | inr n ↦ ap (has m) (cond-false (eqb x a) b _ (ne_eqb x a n)) ∙ elim (cases_eq x b) [
    | inl h ↦ ap (has m) (cond-true (eqb x b) a x (eq-eqb x b h)) ∙ e ∙ ap (has m) (sym h)
    | inr k ↦ ap (has m) (cond-false (eqb x b) a x (ne_eqb x b k))
  ]
]

-- a choice with the one mark gives a choice with the other
pub swapped :
    (sets : List ℕ) (pairs : List Pair) (a b v : ℕ) (f : ℕ → ℕ) → Alike sets a b → a < 16 → b < 16 → Fits sets pairs f → f v ≡ b
    → (g : ℕ → ℕ) × Fits sets pairs g × (g v ≡ a)
swapped sets pairs a b v f alike la lb fits e = (
  λ w. swap a b (f w),
  record {
    within = λ w lw. (swap_below a b (f w) 16 la lb (fits.within w lw).0, swap_has (set_of sets w) a b (f w) (alike w lw) ∙ (fits.within w lw).1);
    apart = λ i l k. fits.apart i l (sym (swap_back a b _) ∙ ap (swap a b) k ∙ swap_back a b _);
  },
  ap (swap a b) e ∙ swap_at a b,
)
