-- The lines of a text, which are no more than its bytes, one after the other.
use Rattle.std.proofs.Common.{◌≡◌, ℕ, ◌+◌, ◌≤◌, Bool, true, false, cond, eqb, List, [], ◌∷◌, length, drop, sym, ap, ◌∙◌, arith}
use Rattle.std.proofs.lemmas.List.{drop-drop, length-drop}
use Rattle.text.specs.Lines.{lines, onto}

onto_few : (b : ℕ) (ls : List (List ℕ)) → length (onto b ls) ≤ 1 + length ls
onto_few b [] = omega arith
onto_few b (l ∷ ls) = omega arith

one_more : (t : Bool) (b n : ℕ) (ls : List (List ℕ)) → length ls ≤ n → length (cond t ([] ∷ ls) (onto b ls)) ≤ 1 + n
one_more true b n ls h = omega (arith, h)
one_more false b n ls h = omega (arith, h, onto_few b ls)

pub lines_few : (s : List ℕ) → length (lines s) ≤ length s
lines_few [] = omega arith
lines_few (b ∷ bs) = omega (arith, one_more (eqb b 10) b (length bs) (lines bs) (lines_few bs))

-- the first of the lines that are left comes next
pub next_line : {A : Type 0} (n : ℕ) (xs ys : List A) (y : A) → drop n xs ≡ y ∷ ys → (drop (n + 1) xs ≡ ys) × (n + 1 ≤ length xs)
next_line n xs ys y e =
    let shorter = ap length e in
    let long = length-drop n xs in
    (sym (drop-drop 1 n xs) ∙ ap (drop 1) e, omega (arith, shorter, long))
