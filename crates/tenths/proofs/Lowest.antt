-- Where the rounds start, and what their end says.
use Rattle.std.proofs.Common.{◌≡◌, ℕ, ◌+◌, ◌-◌, ◌<◌, ◌≤◌, Bool, true, false, List, [], ◌∷◌, ◌++◌, length, take, replicate, sym, ap, ◌∙◌, inl, inr, arith, length-append}
use Rattle.std.proofs.Math.ListN.{get_or-append}
use Rattle.std.proofs.Math.Seq.{get_or-append_seam}
use Rattle.std.proofs.lemmas.List.{get_or-replicate, length-replicate, take-replicate}
use Rattle.std.proofs.lemmas.List.Elements.{All-append, All-cons, All-nil, All-replicate, All-from_get_or}
use Rattle.std.proofs.lemmas.Bool.{cases_eq}
use Rattle.std.specs.List.{All}
use Rattle.tenths.specs.declared.links.Link.{Link}
use Rattle.tenths.specs.Differences.{at, Potential, Under}
use Rattle.tenths.specs.Relaxing.{Low, Rounds, Lowest, started}
use Rattle.tenths.proofs.Settling.{ceiling}

module _ (n : ℕ) where
  pub started_size : length (started n) ≡ n + 1
  started_size = length-append (replicate n 0) (32768 ∷ []) ∙ ap (λ m. m + 1) (length-replicate {A = ℕ} n 0)

  started_zero : at (started n) n ≡ 32768
  started_zero = ap (λ m. at (started n) m) (sym (length-replicate {A = ℕ} n 0)) ∙ get_or-append_seam (replicate n 0) 32768 [] 0

  started_other : (x : ℕ) → x < n → at (started n) x ≡ 0
  started_other x h = get_or-append (replicate n 0) (32768 ∷ []) 0 x (omega (arith, length-replicate {A = ℕ} n 0)) ∙ get_or-replicate n x 0 0 h

  pub started_low : Low (started n)
  started_low =
      let low : ℕ → Type 0 = λ b. b ≤ 65536 in
      All-append low (replicate n 0) (32768 ∷ []) (All-replicate low n 0 (omega arith)) (All-cons low 32768 [] (omega arith) (All-nil low))

  pub started_under : (links : List Link) → Under links n (started n)
  started_under links v p x h =
      elim (cases_eq x n) [
        | inl e ↦ rw e (omega (arith, started_zero, p.zero))
        | inr ne ↦ (let o = started_other x (omega arith) in omega arith)
      ]

  -- as the bounds are made
  pub is_started : (none some all : List ℕ) → n ≤ 512 → none ≡ [] → some ≡ none ++ take n (replicate 512 0) → all ≡ some ++ 32768 ∷ [] → all ≡ started n
  is_started none some all few a b c =
      c ∙ ap (λ (xs : List ℕ). xs ++ 32768 ∷ []) (b ∙ (ap (λ (xs : List ℕ). xs ++ take n (replicate 512 0)) a ∙ take-replicate n 512 0 (omega arith)))

  -- the end of rounds over these links, from these bounds
  module _ (links given : List Link) (ds after : List ℕ) (same : given ≡ links) (e : ds ≡ started n) (size : length after ≡ length ds) (r : Bool) (end : Rounds (length ds - 1) given ds after r) where
    last : length after - 1 ≡ n
    last = let s : length ds ≡ n + 1 = ap length e ∙ started_size in omega arith

    over : (b : Bool) → r ≡ b → Rounds n links (started n) after b
    over b is =
        let spots : length (started n) - 1 ≡ n = omega (arith, started_size) in
        let here : Rounds (length (started n) - 1) links (started n) after b = rw (same, e, is) at end in
        rw spots at here

    module _ (t : r ≡ true) where
      ended : Rounds n links (started n) after true
      ended = over true t

      -- every link is kept, by bounds below any potential: they are one where they are values of their spots, and else there is none
      pub is_lowest : (at after (length after - 1) ≡ 32768) × All (λ b. b < 65536) after → Potential n links (at after) × Under links n after
      is_lowest range =
          (record { zero = ap (at after) (sym last) ∙ range.0; ranged = λ x h. range.1 x 0 (omega (arith, last)); kept = ended.0 }, ended.1)

      pub in_range : (v : ℕ → ℕ) → Potential n links v → (at after (length after - 1) ≡ 32768) × All (λ b. b < 65536) after
      in_range v p =
          let zero : at after n ≡ 32768 = omega (arith, ended.1 v p n (omega arith), ended.2 n, started_zero, p.zero) in (
            ap (at after) last ∙ zero,
            All-from_get_or (λ b. b < 65536) after 0 (λ x h. let low = ended.1 v p x (omega (arith, last)) in let top = ceiling n links v p x (omega (arith, last)) in omega arith),
          )

-- what is told of bounds that started over n variables
pub lowest_over :
    (n : ℕ) (links given : List Link) (ds after : List ℕ) (r b : Bool) → given ≡ links → ds ≡ started n → r ≡ b → Lowest (length ds - 1) given after r
    → Lowest n links after b
lowest_over n links given ds after r b same e is told =
    let spots : length (started n) - 1 ≡ n = omega (arith, started_size n) in
    let here : Lowest (length (started n) - 1) links after b = rw (same, e, is) at told in
    rw spots at here
