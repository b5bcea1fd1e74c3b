-- How many spots are not settled yet, and which of them has the smallest gap.
use Rattle.std.proofs.Common.{◌≡◌, ℕ, zero, suc, ◌+◌, ◌<◌, ◌≤◌, Bool, true, false, cond, eqb, ◌⊎◌, sym, refl, ap, ◌∙◌, inl, inr, arith}
use Rattle.std.proofs.lemmas.Bool.{cases_eq, cases_lt, both_ways, eqb-true, eqb-false}
use Rattle.tenths.proofs.Settling.{with_spot}

-- how many of the first b spots are not settled
abbrev pub missing : (ℕ → Bool) → ℕ → ℕ
missing done zero = 0
missing done (suc b) = cond (done b) 0 1 + missing done b

module _ (done : ℕ → Bool) where
  pub missing_none : (b : ℕ) → missing done b ≡ 0 → (x : ℕ) → x < b → done x ≡ true
  missing_none zero e x h = absurd (omega arith)
  missing_none (suc b) e x h = go (done b) refl (missing_none b)
    where
      go : (t : Bool) → done b ≡ t → (missing done b ≡ 0 → (y : ℕ) → y < b → done y ≡ true) → done x ≡ true
      go true t more =
          let u : 0 + missing done b ≡ 0 = rw t at e in
          elim (cases_eq x b) [ inl same ↦ rw same t | inr ne ↦ more (omega arith) x (omega arith) ]
      go false t more = absurd (let z : 1 + missing done b ≡ 0 = rw t at e in omega arith)

  -- with at most one missing, two that are missing are one
  pub missing_one : (b : ℕ) → missing done b ≤ 1 → (x y : ℕ) → x < b → y < b → done x ≡ false → done y ≡ false → x ≡ y
  missing_one zero e x y hx hy dx dy = absurd (omega arith)
  missing_one (suc b) e x y hx hy dx dy = go (done b) refl (missing_one b) (missing_none b)
    where
      go :
          (t : Bool) → done b ≡ t → (missing done b ≤ 1 → (x y : ℕ) → x < b → y < b → done x ≡ false → done y ≡ false → x ≡ y)
          → (missing done b ≡ 0 → (z : ℕ) → z < b → done z ≡ true) → x ≡ y
      go true t more none =
          let off : (z : ℕ) → done z ≡ false → z ≡ b → ⊥ = λ z dz same. both_ways (done z) dz (ap done same ∙ t) in
          let nx = off x dx in
          let ny = off y dy in
          more (let u : 0 + missing done b ≤ 1 = rw t at e in omega arith) x y (omega arith) (omega arith) dx dy
      go false t more none =
          let u : 1 + missing done b ≤ 1 = rw t at e in
          let last : (z : ℕ) → z < suc b → done z ≡ false → z ≡ b = λ z hz dz. elim (cases_eq z b) [ inl same ↦ same | inr ne ↦ absurd (both_ways (done z) dz (none (omega arith) z (omega arith))) ] in
          last x hx dx ∙ sym (last y hy dy)

  module _ (m : ℕ) where
    missing_before : (b : ℕ) → b ≤ m → missing (with_spot done m) b ≡ missing done b
    missing_before zero h = refl
    missing_before (suc b) h = go (eqb b m) refl (missing_before b (omega arith))
      where
        go : (t : Bool) → eqb b m ≡ t → missing (with_spot done m) b ≡ missing done b → missing (with_spot done m) (suc b) ≡ missing done (suc b)
        go true t more = absurd (omega (arith, eqb-true b m t))
        go false t more = rw (t, more)

    -- one more settled is one fewer missing
    pub missing_less : (b : ℕ) → m < b → done m ≡ false → missing (with_spot done m) b + 1 ≡ missing done b
    missing_less zero h out = absurd (omega arith)
    missing_less (suc b) h out = go (eqb b m) refl (λ less. missing_less b less out)
      where
        go :
            (t : Bool) → eqb b m ≡ t → (m < b → missing (with_spot done m) b + 1 ≡ missing done b)
            → missing (with_spot done m) (suc b) + 1 ≡ missing done (suc b)
        go true t more =
            let same = eqb-true b m t in
            let a : done b ≡ false = ap done same ∙ out in
            let c = missing_before b (omega arith) in
            rw (t, a) (omega arith)
        go false t more =
            let ne = eqb-false b m t in
            let c = more (omega arith) in
            rw t (omega arith)

pub missing_all : (b : ℕ) → missing (λ _. false) b ≡ b
missing_all zero = refl
missing_all (suc b) = let r = missing_all b in omega arith

-- a spot below b that is not settled, of smallest gap among those
pub record Outside (v d : ℕ → ℕ) (done : ℕ → Bool) (b : ℕ) : Type 0 where
  pub spot : ℕ
  pub within : spot < b
  pub out : done spot ≡ false
  pub least : (y : ℕ) → y < b → done y ≡ false → v spot + d y ≤ v y + d spot

module _ (v d : ℕ → ℕ) (done : ℕ → Bool) where
  alone : (b : ℕ) → done b ≡ false → ((x : ℕ) → x < b → done x ≡ true) → Outside v d done (suc b)
  alone b t all =
      record {
        spot = b;
        within = omega arith;
        out = t;
        least = λ y h dy. elim (cases_eq y b) [ inl e ↦ rw e (omega arith) | inr ne ↦ absurd (both_ways (done y) dy (all y (omega arith))) ];
      }

  narrower : (b : ℕ) → done b ≡ false → (o : Outside v d done b) → Outside v d done (suc b)
  narrower b t o =
      elim (cases_lt (v b + d o.spot) (v o.spot + d b)) [
        | inl less ↦ record {
          spot = b;
          within = omega arith;
          out = t;
          least = λ y h dy. elim (cases_eq y b) [ inl e ↦ rw e (omega arith) | inr ne ↦ (let r = o.least y (omega arith) dy in omega arith) ];
        }
        | inr more ↦ record {
          spot = o.spot;
          within = omega (arith, o.within);
          out = o.out;
          least = λ y h dy. elim (cases_eq y b) [ inl e ↦ rw e more | inr ne ↦ o.least y (omega arith) dy ];
        }
      ]

  skipped : (b : ℕ) → done b ≡ true → (o : Outside v d done b) → Outside v d done (suc b)
  skipped b t o =
      record {
        spot = o.spot;
        within = omega (arith, o.within);
        out = o.out;
        least = λ y h dy. elim (cases_eq y b) [ inl e ↦ absurd (both_ways (done y) dy (ap done e ∙ t)) | inr ne ↦ o.least y (omega arith) dy ];
      }

  pub smallest : (b : ℕ) → ((x : ℕ) → x < b → done x ≡ true) ⊎ Outside v d done b
  smallest zero = inl (λ x h. absurd (omega arith))
  smallest (suc b) = go (done b) refl (smallest b)
    where
      go : (t : Bool) → done b ≡ t → ((x : ℕ) → x < b → done x ≡ true) ⊎ Outside v d done b → ((x : ℕ) → x < suc b → done x ≡ true) ⊎ Outside v d done (suc b)
      go true t (inl all) = inl (λ x h. elim (cases_eq x b) [ inl e ↦ ap done e ∙ t | inr ne ↦ all x (omega arith) ])
      go true t (inr o) = inr (skipped b t o)
      go false t (inl all) = inr (alone b t all)
      go false t (inr o) = inr (narrower b t o)

  pub missing_some : (b : ℕ) → ((x : ℕ) → x < b → done x ≡ true) → missing done b ≡ 0
  missing_some zero all = refl
  missing_some (suc b) all = let r = missing_some b (λ x h. all x (omega arith)) in let t = all b (omega arith) in rw (t, r)
