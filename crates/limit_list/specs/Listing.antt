-- What a whole text lists: the lines, the readings by first mention, and a row for each limit.
use Rattle.std.specs.Prelude.{◌≡◌, ℕ, ◌+◌, Bool, true, false, cond, List, [], ◌∷◌, ◌++◌, map, length, replicate, ℤ, Ok, Err, vec_items, fold, Result, nat_lt}
use Rattle.std.specs.List.{position_or_len}
use Rattle.std.specs.Str.{bytes_eq}
use Rattle.domain.specs.declared.predicate.Row.{Row}
use Rattle.text.specs.declared.fault.Fault.{Fault}
use Rattle.text.specs.declared.trouble.Trouble.{Trouble}
use Rattle.text.specs.declared.trouble.Trouble.TheVariants.{Misread, Memory}
use Rattle.text.specs.Lines.{lines}
use Rattle.limit_list.specs.declared.fault.Expected.{Expected}
use Rattle.limit_list.specs.declared.limit.Operator.{Operator}
use Rattle.limit_list.specs.declared.limit.Quantity.{Quantity}
use Rattle.limit_list.specs.declared.limit.Quantity.TheVariants.{Reading, Difference}
use Rattle.limit_list.specs.declared.list.LimitList.{LimitList}
use Rattle.limit_list.specs.Limits.{form_of, constant_of}
use Rattle.limit_list.specs.Spelling.{Term, reading, difference, Said, nothing, limit, reads, placed}

abbrev pub before : Result Said (Fault Expected) → Result (List Said) (Fault Expected) → Result (List Said) (Fault Expected)
before (Err f) r = Err f
before (Ok s) (Err f) = Err f
before (Ok s) (Ok ss) = Ok (s ∷ ss)

-- what lines say that are numbered from n, or the first fault
abbrev pub says_all : ℕ → List (List ℕ) → Result (List Said) (Fault Expected)
says_all n [] = Ok []
says_all n (l ∷ ls) = before (placed n l (reads l)) (says_all (n + 1) ls)

-- the place of a name among names that are all different; their number if it is not among them
abbrev pub place : List (List ℕ) → List ℕ → ℕ
place ns x = position_or_len (λ n. bytes_eq n x) ns

-- a name not yet mentioned comes last
abbrev pub mention : List (List ℕ) → List ℕ → List (List ℕ)
mention ns x = cond (nat_lt (place ns x) (length ns)) ns (ns ++ x ∷ [])

abbrev pub mention_term : List (List ℕ) → Term → List (List ℕ)
mention_term ns (reading x) = mention ns x
mention_term ns (difference x y) = mention (mention ns x) y

abbrev pub mention_said : List (List ℕ) → Said → List (List ℕ)
mention_said ns nothing = ns
mention_said ns (limit t o n) = mention_term ns t

-- the names of all readings, in order of first mention
abbrev pub names_of : List Said → List (List ℕ)
names_of ss = fold mention_said [] ss

abbrev pub row_at : Bool → ℕ → ℕ → Operator → ℤ → Row
row_at paired i j o n = record { predicate = record { kind = 0; form = form_of paired o; constant = constant_of o n }; first = i; second = j }

-- the row of a limit on the readings at these places
abbrev pub row_over : Quantity ℕ → Operator → ℤ → Row
row_over (Reading i) o n = row_at false i i o n
row_over (Difference i j) o n = row_at true i j o n

-- the row of a limit, over the places of its readings
abbrev pub row : List (List ℕ) → Term → Operator → ℤ → Row
row ns (reading x) o n = row_at false (place ns x) (place ns x) o n
row ns (difference x y) o n = row_at true (place ns x) (place ns y) o n

-- the rows of all limits, in their order
abbrev pub rows_of : List (List ℕ) → List Said → List Row
rows_of ns [] = []
rows_of ns (nothing ∷ ss) = rows_of ns ss
rows_of ns (limit t o n ∷ ss) = row ns t o n ∷ rows_of ns ss

-- the names that a list holds
abbrev pub names_in : LimitList → List (List ℕ)
names_in l = map (λ x. x.now) (vec_items l.names)

-- a list of what was said: every reading once, in order of first mention and of kind 0, and a row for each limit in its order
pub record Lists (ss : List Said) (l : LimitList) : Type 0 where
  pub names : names_in l ≡ names_of ss
  pub kinds : vec_items l.kinds ≡ replicate (length (names_of ss)) 0
  pub rows : vec_items l.rows ≡ rows_of (names_of ss) ss

-- what reading a text gives: a list of all that its lines say, or the first fault; nothing is said where memory fails
abbrev pub Read : List ℕ → Result LimitList (Trouble (Fault Expected)) → Type 0
Read text (Ok l) = (ss : List Said) × (says_all 1 (lines text) ≡ Ok ss) × Lists ss l
Read text (Err (Misread f)) = says_all 1 (lines text) ≡ Err f
Read text (Err Memory) = Unit {0}
