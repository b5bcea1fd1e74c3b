-- Lists that agree from a place on.
use Rattle.std.proofs.Common.{◌≡◌, ℕ, ◌+◌, List, get_or, drop, set, sym, ap, ◌∙◌, add-zero, arith}
use Rattle.std.proofs.lemmas.List.{get_or-drop, drop-drop, drop-set-lt}

module _ {A : Type 0} (xs ys : List A) (i : ℕ) (same : drop i xs ≡ drop i ys) where
  pub same_here : (d : A) → get_or xs i d ≡ get_or ys i d
  same_here d = here xs ∙ ap (λ (zs : List A). get_or zs 0 d) same ∙ sym (here ys)
    where
      here : (zs : List A) → get_or zs i d ≡ get_or (drop i zs) 0 d
      here zs = sym (get_or-drop i zs 0 d ∙ ap (λ (n : ℕ). get_or zs n d) (add-zero i))

  pub same_after : drop (i + 1) xs ≡ drop (i + 1) ys
  same_after = sym (drop-drop 1 i xs) ∙ ap (drop 1) same ∙ drop-drop 1 i ys

  pub same_after_set : (v : A) → drop (i + 1) (set xs i v) ≡ drop (i + 1) ys
  same_after_set v = drop-set-lt (i + 1) xs i v (omega arith) ∙ same_after
