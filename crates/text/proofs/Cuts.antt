-- A text is its first line and the lines after it.
use Rattle.std.proofs.Common.{◌≡◌, ℕ, ◌+◌, ◌<◌, ◌≤◌, Bool, true, false, cond, not, eqb, List, [], ◌∷◌, length, drop, sym, refl, ap, ◌∙◌, arith}
use Rattle.text.specs.declared.bytes.Class.TheVariants.{Inline}
use Rattle.text.specs.Bytes.{run, past_run}
use Rattle.text.specs.Lines.{lines, onto}
use Rattle.text.proofs.Runs.{run-cons, past_run-cons}

split :
    (t : Bool) (c : ℕ) (cs : List ℕ)
    → onto c (lines cs) ≡ (c ∷ run Inline cs) ∷ lines (drop 1 (past_run Inline cs))
    → cond t ([] ∷ lines cs) (onto c (lines cs))
    ≡ cond (not t) (c ∷ run Inline cs) [] ∷ lines (drop 1 (cond (not t) (past_run Inline cs) (c ∷ cs)))
split true c cs h = refl
split false c cs h = h

first_cut :
    (c : ℕ) (cs : List ℕ)
    → onto c (lines cs) ≡ (c ∷ run Inline cs) ∷ lines (drop 1 (past_run Inline cs))
    → lines (c ∷ cs) ≡ run Inline (c ∷ cs) ∷ lines (drop 1 (past_run Inline (c ∷ cs)))
first_cut c cs h =
    split (eqb c 10) c cs h
    ∙ (λ i. sym (run-cons Inline c cs) i ∷ lines (drop 1 (sym (past_run-cons Inline c cs) i)))

onto_cut : (b : ℕ) (bs : List ℕ) → onto b (lines bs) ≡ (b ∷ run Inline bs) ∷ lines (drop 1 (past_run Inline bs))
onto_cut b [] = refl
onto_cut b (c ∷ cs) = ap (onto b) (first_cut c cs (onto_cut c cs))

pub lines_cut : (s : List ℕ) → 0 < length s → lines s ≡ run Inline s ∷ lines (drop 1 (past_run Inline s))
lines_cut [] h = absurd (omega arith)
lines_cut (c ∷ cs) h = first_cut c cs (onto_cut c cs)

few_onto : (b : ℕ) (ls : List (List ℕ)) → length (onto b ls) ≤ 1 + length ls
few_onto b [] = omega arith
few_onto b (l ∷ ls) = omega arith

few_more : (t : Bool) (b : ℕ) (ls : List (List ℕ)) → length (cond t ([] ∷ ls) (onto b ls)) ≤ 1 + length ls
few_more true b ls = omega arith
few_more false b ls = few_onto b ls

-- a text has no more lines than bytes
pub few_lines : (s : List ℕ) → length (lines s) ≤ length s
few_lines [] = omega arith
few_lines (b ∷ bs) = omega (arith, few_more (eqb b 10) b (lines bs), few_lines bs)
