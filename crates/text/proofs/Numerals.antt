-- The value of digits, read from the front.
use Rattle.std.proofs.Common.{◌≡◌, ℕ, ◌+◌, ◌-◌, ◌*◌, ◌<◌, ◌≤◌, List, [], ◌∷◌, length, get_or, drop, fold, sym, ◌∙◌, arith}
use Rattle.std.proofs.lemmas.List.{at_drop_more, at_drop_all}

-- one digit more
abbrev pub shift : ℕ → ℕ → ℕ
shift n d = n * 10 + (d - 48)

grows : (n : ℕ) (ds : List ℕ) → n ≤ fold shift n ds
grows n [] = omega arith
grows n (d ∷ ds) = omega (arith, grows (shift n d) ds)

-- the whole value is at least that of the digits up to one
pub reached : (n v : ℕ) (ds : List ℕ) (i : ℕ) → i < length ds → fold shift n (drop i ds) ≡ v → n * 10 + (get_or ds i 0 - 48) ≤ v
reached n v ds i h e =
    omega (arith, grows (shift n (get_or ds i 0)) (drop (i + 1) ds), at_drop_more (fold shift n) ds i 0 h, e)

pub folded_all : (n v : ℕ) (ds : List ℕ) (i : ℕ) → length ds ≤ i → fold shift n (drop i ds) ≡ v → n ≡ v
folded_all n v ds i h e = sym (at_drop_all (fold shift n) ds i h) ∙ e
