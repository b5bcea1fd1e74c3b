-- One mark after another is tried, and those that fail are never taken.
use Rattle.std.proofs.Common.{◌≡◌, ℕ, ◌+◌, ◌<◌, ◌≤◌, false, List, length, sym, ap, ◌∙◌, inl, inr, arith}
use Rattle.std.proofs.lemmas.Bool.{both_ways, cases_eq}
use Rattle.marks.specs.declared.pair.Pair.{Pair}
use Rattle.marks.specs.Marks.{has}
use Rattle.marks.specs.Choices.{Fits, Hopeless, Never, Needless, Given, Alike, set_of}
use Rattle.marks.proofs.Swap.{swapped}

module _ (sets : List ℕ) (pairs : List Pair) (v b : ℕ) where
  pub never_needless : Never sets pairs v b → Needless sets pairs v b
  never_needless never f fits e = absurd (never f fits e)

  pub absent_needless : v < length sets → has (set_of sets v) b ≡ false → Needless sets pairs v b
  absent_needless l h = never_needless (λ f fits e. both_ways _ h (ap (has (set_of sets v)) (sym e) ∙ (fits.within v l).1))

  pub twin_needless : (a : ℕ) → a < b → b < 16 → Alike sets a b → Needless sets pairs v b
  twin_needless a la lb alike f fits e =
      let g = swapped sets pairs a b v f alike (omega arith) lb fits e in
      (g.0, g.1, let e = g.2 in omega arith)

  pub refuted_needless :
      (after : List ℕ) → Given sets pairs v b after → Hopeless after pairs → Needless sets pairs v b
  refuted_needless after g none = never_needless (λ f fits e. none.none f (g.kept f fits e))

  -- with b out of the way, only higher marks are left
  pub next_mark :
      ((f : ℕ → ℕ) → Fits sets pairs f → b ≤ f v) → Needless sets pairs v b → (f : ℕ → ℕ) → Fits sets pairs f → b + 1 ≤ f v
  next_mark low needless f fits =
      let here = low f fits in
      elim (cases_eq (f v) b) [
        | inl e ↦ let g = needless f fits e in let lower = low g.0 g.1 in absurd (omega (arith, g.2))
        | inr n ↦ omega arith
      ]

  pub none_left :
      v < length sets → 16 ≤ b → ((f : ℕ → ℕ) → Fits sets pairs f → b ≤ f v) → Hopeless sets pairs
  none_left l high low = record { none = λ f fits. let here = low f fits in let mark = (fits.within v l).0 in omega arith }
