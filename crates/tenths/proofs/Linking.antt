-- A row and its link say the same.
use Rattle.std.proofs.Common.{◌≡◌, ℕ, zero, suc, List, [], ◌∷◌, length, get_or, ◌+◌, ◌<◌, ◌≤◌, ◌&&◌, eqb, ℤ, pos, negsuc, ◌+ℤ◌, ◌-ℤ◌, ◌≤ℤ◌, Decides, refl, inl, inr, arith, w32, SFits, to_z, of_z}
use lib.Signed.{le_z, lt_z}
use Rattle.std.proofs.lemmas.Int.{ints}
use Rattle.std.proofs.lemmas.Bool.{and_parts}
use Rattle.std.specs.List.{AllZip}
use Rattle.domain.specs.declared.predicate.Row.{Row}
use Rattle.tenths.specs.declared.links.Link.{Link}
use Rattle.tenths.specs.Rows.{value, Placed, Stands}
use Rattle.tenths.specs.Tenths.{tenths, places}
use Rattle.tenths.specs.Forms.{Form, known_parts}

-- a constant in its range, as the two weights
record Ranged (c : ℤ) : Type 0 where
  low : negsuc 65535 ≤ℤ c
  high : c ≤ℤ pos 65536

ranged : (n : ℕ) (row : Row) → Placed n row → Ranged row.predicate.constant
ranged n row placed =
    let c = row.predicate.constant in
    let s = (and_parts (eqb row.predicate.kind 0) (le_z (negsuc 65535) c && le_z c (pos 65536)) (known_parts row.predicate placed.known).0).1 in
    let b = and_parts (le_z (negsuc 65535) c) (le_z c (pos 65536)) s in
    record { low = grind (arith, ints, b.0); high = grind (arith, ints, b.1) }

module _ (a b w : ℕ) (c : ℤ) where
  at_most_zero : pos w ≡ pos 131072 -ℤ c → b ≡ 32768 → Decides (le_z (value a) c) (a + w ≤ b + 131072)
  at_most_zero e z = (λ h. grind (arith, ints), λ h. grind (arith, ints))

  above_zero : pos w ≡ pos 131073 +ℤ c → b ≡ 32768 → Decides (lt_z c (value a)) (b + w ≤ a + 131072)
  above_zero e z = (λ h. grind (arith, ints), λ h. grind (arith, ints))

  at_most_apart : pos w ≡ pos 131072 -ℤ c → Decides (le_z (value a -ℤ value b) c) (a + w ≤ b + 131072)
  at_most_apart e = (λ h. grind (arith, ints), λ h. grind (arith, ints))

  above_apart : pos w ≡ pos 131073 +ℤ c → Decides (lt_z c (value a -ℤ value b)) (b + w ≤ a + 131072)
  above_apart e = (λ h. grind (arith, ints), λ h. grind (arith, ints))

-- the form that is left after the first three
last_form : (f : ℕ) → Form f → (f ≡ 1 → ⊥) → (f ≡ 2 → ⊥) → (f ≡ 3 → ⊥) → f ≡ 4
last_form f (Form.at_most e) a b c = absurd (a e)
last_form f (Form.above e) a b c = absurd (b e)
last_form f (Form.apart_at_most e) a b c = absurd (c e)
last_form f (Form.apart_above e) a b c = e

-- a link of each form
module _ (n : ℕ) (row : Row) (placed : Placed n row) (fits : SFits w32 row.predicate.constant) (l : Link) where
  range : Ranged row.predicate.constant
  range = ranged n row placed

  first_in : row.first < n + 1
  first_in = omega (arith, placed.first)

  second_in : (f : ℕ) → row.predicate.form ≡ f → 2 ≡ places f → row.second < n + 1
  second_in f e two =
      let arity : 2 ≡ tenths.arity row.predicate = rw ((known_parts row.predicate placed.known).0, e) two in
      elim placed.second [ inl one ↦ absurd (omega arith) | inr h ↦ omega arith ]

  -- the weight of a form with at most, less the constant
  module _ (weight : pos l.weight ≡ to_z w32 (of_z w32 (pos 0 -ℤ to_z w32 (of_z w32 row.predicate.constant))) +ℤ pos 131072) where
    low : pos l.weight ≡ pos 131072 -ℤ row.predicate.constant
    low = omega (arith, ints, range.low, range.high)

    light_low : l.weight ≤ 262144
    light_low = omega (arith, ints, low, range.low)

    pub stands_at_most : row.predicate.form ≡ 1 → l.tail ≡ row.first → l.head ≡ n → Stands n row l
    stands_at_most f t h =
        record {
          fair = record { tail = rw t first_in; head = omega (arith, h); light = light_low };
          means = λ v z. rw (f, t, h) (at_most_zero (v row.first) (v n) l.weight row.predicate.constant low z);
        }

    pub stands_apart_at_most : row.predicate.form ≡ 3 → l.tail ≡ row.first → l.head ≡ row.second → Stands n row l
    stands_apart_at_most f t h =
        record {
          fair = record { tail = rw t first_in; head = rw h (second_in 3 f refl); light = light_low };
          means = λ v z. rw (f, t, h) (at_most_apart (v row.first) (v row.second) l.weight row.predicate.constant low);
        }

  -- that of a form with above, one more than the constant
  module _ (weight : pos l.weight ≡ to_z w32 (of_z w32 (to_z w32 (of_z w32 row.predicate.constant) +ℤ pos 1)) +ℤ pos 131072) where
    high : pos l.weight ≡ pos 131073 +ℤ row.predicate.constant
    high = omega (arith, ints, range.low, range.high)

    light_high : l.weight ≤ 262144
    light_high = omega (arith, ints, high, range.high)

    pub stands_above : row.predicate.form ≡ 2 → l.tail ≡ n → l.head ≡ row.first → Stands n row l
    stands_above f t h =
        record {
          fair = record { tail = omega (arith, t); head = rw h first_in; light = light_high };
          means = λ v z. rw (f, t, h) (above_zero (v row.first) (v n) l.weight row.predicate.constant high z);
        }

    -- the form that is left after the first three
    pub stands_apart_above :
        (row.predicate.form ≡ 1 → ⊥) → (row.predicate.form ≡ 2 → ⊥) → (row.predicate.form ≡ 3 → ⊥) → l.tail ≡ row.second → l.head ≡ row.first
        → Stands n row l
    stands_apart_above a b d t h =
        let f = last_form row.predicate.form (known_parts row.predicate placed.known).1 a b d in
        record {
          fair = record { tail = rw t (second_in 4 f refl); head = rw h first_in; light = light_high };
          means = λ v z. rw (f, t, h) (above_apart (v row.first) (v row.second) l.weight row.predicate.constant high);
        }

-- what two lists of rows and links say at a place
pub stands_at :
    (n : ℕ) (rows : List Row) (links : List Link) → AllZip (Stands n) rows links → (k : ℕ) (d : Row) (e : Link) → k < length rows
    → Stands n (get_or rows k d) (get_or links k e)
stands_at n [] [] all k d e h = absurd (omega arith)
stands_at n [] (l ∷ links) all k d e h = elim all [ ]
stands_at n (row ∷ rows) [] all k d e h = elim all [ ]
stands_at n (row ∷ rows) (l ∷ links) all zero d e h = all.0
stands_at n (row ∷ rows) (l ∷ links) all (suc k) d e h = stands_at n rows links all.1 k d e (omega arith)
