-- Worked examples over the definitions.
use Rattle.std.specs.Prelude.{◌≡◌, ℕ, true, false, List, [], ◌∷◌, ℤ, pos, negsuc}
use Rattle.domain.specs.declared.predicate.Predicate.{Predicate}
use Rattle.domain.specs.declared.predicate.Row.{Row}
use Rattle.domain.specs.Meaning.{known, tested}
use Rattle.domain.specs.Solving.{Chosen}
use Rattle.tenths.specs.Tenths.{tenths}

abbrev pub form : ℕ → ℤ → Predicate
form f c = record { kind = 0; form = f; constant = c }

-- x ≤ c, x > c, x - y ≤ c and x - y > c, over the variables at these places
abbrev pub at_most : ℕ → ℤ → Row
at_most x c = record { predicate = form 1 c; first = x; second = 0 }

abbrev pub above : ℕ → ℤ → Row
above x c = record { predicate = form 2 c; first = x; second = 0 }

abbrev pub apart_at_most : ℕ → ℕ → ℤ → Row
apart_at_most x y c = record { predicate = form 3 c; first = x; second = y }

abbrev pub apart_above : ℕ → ℕ → ℤ → Row
apart_above x y c = record { predicate = form 4 c; first = x; second = y }

pub record Examples : Type 0 where
  -- values are whole: x > 0, y - x > 0 and y ≤ 1 leave none
  pub between : (vs : List ℤ) → Chosen tenths (0 ∷ 0 ∷ []) (above 0 (pos 0) ∷ apart_above 1 0 (pos 0) ∷ at_most 1 (pos 1) ∷ []) vs → ⊥
  -- ≤ -90 and > -90 exclude each other; ≤ -89 and > -90 leave -89
  pub split : (vs : List ℤ) → Chosen tenths (0 ∷ []) (at_most 0 (negsuc 89) ∷ above 0 (negsuc 89) ∷ []) vs → ⊥
  pub left : Chosen tenths (0 ∷ []) (at_most 0 (negsuc 88) ∷ above 0 (negsuc 89) ∷ []) (negsuc 88 ∷ [])
  -- a value differs from itself by 0
  pub itself : (vs : List ℤ) → Chosen tenths (0 ∷ []) (apart_at_most 0 0 (negsuc 0) ∷ []) vs → ⊥
  -- constants run from -65,536 to 65,536
  pub largest : known tenths (form 1 (pos 65536)) ≡ true
  pub too_large : known tenths (form 1 (pos 65537)) ≡ false
  pub smallest : known tenths (form 4 (negsuc 65535)) ≡ true
  pub too_small : known tenths (form 4 (negsuc 65536)) ≡ false
  -- values run from -32,768 to 32,767
  pub lowest : tested tenths (form 1 (negsuc 65535)) (negsuc 32767) (pos 0) ≡ false
  pub highest : tested tenths (form 2 (pos 32766)) (pos 32767) (pos 0) ≡ true
  pub outside : tested tenths (form 2 (pos 32766)) (pos 32768) (pos 0) ≡ false
