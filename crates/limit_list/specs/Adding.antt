-- One step of making a list: a name is mentioned, or what one line says is added.
use Rattle.std.specs.Prelude.{◌≡◌, ℕ, List, [], ◌∷◌, ◌++◌, length, replicate, Ok, Err, vec_items, Result}
use Rattle.std.specs.Borrow.{Bor}
use Rattle.limit_list.specs.declared.list.LimitList.{LimitList}
use Rattle.limit_list.specs.declared.limit.Quantity.{Quantity}
use Rattle.limit_list.specs.declared.limit.Quantity.TheVariants.{Reading, Difference}
use Rattle.limit_list.specs.Listing.{place, mention, mention_term, mention_said, rows_of, names_in}
use Rattle.text.specs.declared.fault.Fault.{Fault}
use Rattle.text.specs.declared.trouble.Trouble.{Trouble}
use Rattle.text.specs.declared.trouble.Trouble.TheVariants.{Misread, Memory}
use Rattle.limit_list.specs.declared.fault.Expected.{Expected}
use Rattle.limit_list.specs.Spelling.{Said, term_of, reads, placed}

-- every reading is of kind 0
abbrev pub Even : LimitList → Type 0
Even l = vec_items l.kinds ≡ replicate (length (names_in l)) 0

-- the name stands at this place now, and nothing else has changed
pub record Mentioned (old : LimitList) (x : List ℕ) (new : LimitList) (p : ℕ) : Type 0 where
  pub names : names_in new ≡ mention (names_in old) x
  pub at : p ≡ place (names_in new) x
  pub kinds : Even old → Even new
  pub rows : vec_items new.rows ≡ vec_items old.rows

-- where the readings of a quantity stand among names
abbrev pub PlacedIn : List (List ℕ) → Quantity (Bor (List ℕ)) → Quantity ℕ → Type 0
PlacedIn ns (Reading x) (Reading i) = i ≡ place ns x.now
PlacedIn ns (Difference x y) (Difference i j) = (i ≡ place ns x.now) × (j ≡ place ns y.now)
PlacedIn ns _ _ = ⊥

-- the readings of the quantity stand at these places now, and nothing else has changed
pub record Placed (old : LimitList) (q : Quantity (Bor (List ℕ))) (new : LimitList) (over : Quantity ℕ) : Type 0 where
  pub names : names_in new ≡ mention_term (names_in old) (term_of q)
  pub at : PlacedIn (names_in new) q over
  pub kinds : Even old → Even new
  pub rows : vec_items new.rows ≡ vec_items old.rows

-- what a line says is added
pub record Added (old : LimitList) (s : Said) (new : LimitList) : Type 0 where
  pub names : names_in new ≡ mention_said (names_in old) s
  pub kinds : Even old → Even new
  pub rows : vec_items new.rows ≡ vec_items old.rows ++ rows_of (names_in new) (s ∷ [])

-- what taking a line gives: all that it says is added, or it cannot be read; nothing is said where memory fails
abbrev pub Took : LimitList → ℕ → List ℕ → LimitList → Result (Unit {0}) (Trouble (Fault Expected)) → Type 0
Took old n line new (Ok _) = (s : Said) × (placed n line (reads line) ≡ Ok s) × Added old s new
Took old n line new (Err (Misread f)) = placed n line (reads line) ≡ Err f
Took old n line new (Err Memory) = Unit {0}
