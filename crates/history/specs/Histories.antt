-- Histories of one sheet: the calls that were made on it, with their answers, the newest first.
use Rattle.std.specs.Prelude.{ℕ, ◌+◌, Bool, true, false, cond, ◌&&◌, ◌||◌, ltb, List, [], ◌∷◌, ℤ, Some, None, Ok, Err, filter, Option, Result, ◌==◌, nat_lt}
use Rattle.concept.specs.declared.node.Node.{Node}
use Rattle.concept.specs.Concepts.{kind_at}
use Rattle.concept.specs.Tables.{concept_of}
use Rattle.sheet.specs.declared.refusal.Refusal.{Refusal}
use Rattle.sheet.specs.Statements.{Statement}
use Rattle.sheet.specs.Statements.Statement.{states, links, apart, compares}

-- A call with its answer. A call that adds to the sheet was refused, or it was accepted (no refusal).
pub data Event : Type 0 where
  -- the number of objects and the kinds of the value features
  set_up : ℕ → List ℕ → Option Refusal → Event
  -- an object and a concept table
  state : ℕ → List Node → Option Refusal → Event
  -- an object, a relation, an object
  link : ℕ → ℕ → ℕ → Option Refusal → Event
  set_apart : ℕ → ℕ → Option Refusal → Event
  -- the predicate's form and constant, and an object with its value feature, twice
  compare : ℕ → ℤ → ℕ → ℕ → ℕ → ℕ → Option Refusal → Event
  -- the number of the token
  open_trial : Result ℕ Refusal → Event
  -- the number of the token that was spent, and how many trials closed
  keep drop : ℕ → ℕ → Event

abbrev pub History : Type 0
History = List Event

-- how many trials were opened
abbrev pub opened : History → ℕ
opened [] = 0
opened (set_up objects kinds r ∷ h) = opened h
opened (state o table r ∷ h) = opened h
opened (link o r q x ∷ h) = opened h
opened (set_apart o q r ∷ h) = opened h
opened (compare f c o g q k r ∷ h) = opened h
opened (open_trial (Ok n) ∷ h) = opened h + 1
opened (open_trial (Err e) ∷ h) = opened h
opened (keep a n ∷ h) = opened h
opened (drop a n ∷ h) = opened h

-- once the trial a is closed, if it was open, every trial from a on is
abbrev pub after_closing : Bool → ℕ → ℕ → Bool → Bool
after_closing true a n was = nat_lt n a && was
after_closing false a n was = was

-- the trial n is open: it was opened and has not been closed since
abbrev pub is_open : History → ℕ → Bool
is_open [] n = false
is_open (set_up objects kinds r ∷ h) n = is_open h n
is_open (state o table r ∷ h) n = is_open h n
is_open (link o r q x ∷ h) n = is_open h n
is_open (set_apart o q r ∷ h) n = is_open h n
is_open (compare f c o g q k r ∷ h) n = is_open h n
is_open (open_trial (Ok k) ∷ h) n = n == opened h + 1 || is_open h n
is_open (open_trial (Err e) ∷ h) n = is_open h n
is_open (keep a k ∷ h) n = after_closing (is_open h a) a n (is_open h n)
is_open (drop a k ∷ h) n = after_closing (is_open h a) a n (is_open h n)

-- the number of objects: 0 until a set-up was accepted
abbrev pub objects_set : History → ℕ
objects_set [] = 0
objects_set (set_up objects kinds None ∷ h) = objects
objects_set (set_up objects kinds (Some e) ∷ h) = objects_set h
objects_set (state o table r ∷ h) = objects_set h
objects_set (link o r q x ∷ h) = objects_set h
objects_set (set_apart o q r ∷ h) = objects_set h
objects_set (compare f c o g q k r ∷ h) = objects_set h
objects_set (open_trial r ∷ h) = objects_set h
objects_set (keep a n ∷ h) = objects_set h
objects_set (drop a n ∷ h) = objects_set h

-- the kinds of the value features: none until a set-up was accepted
abbrev pub kinds_set : History → List ℕ
kinds_set [] = []
kinds_set (set_up objects kinds None ∷ h) = kinds
kinds_set (set_up objects kinds (Some e) ∷ h) = kinds_set h
kinds_set (state o table r ∷ h) = kinds_set h
kinds_set (link o r q x ∷ h) = kinds_set h
kinds_set (set_apart o q r ∷ h) = kinds_set h
kinds_set (compare f c o g q k r ∷ h) = kinds_set h
kinds_set (open_trial r ∷ h) = kinds_set h
kinds_set (keep a n ∷ h) = kinds_set h
kinds_set (drop a n ∷ h) = kinds_set h

-- an accepted statement, with how many trials had been opened by then
pub record Accepted : Type 0 where
  pub stamp : ℕ
  pub statement : Statement

abbrev pub accept : Option Refusal → ℕ → Statement → List Accepted → List Accepted
accept None n s rest = record { stamp = n; statement = s } ∷ rest
accept (Some e) n s rest = rest

-- what was accepted before the trial a was opened
abbrev pub before_trial : ℕ → List Accepted → List Accepted
before_trial a rest = filter (λ s. ltb s.stamp a) rest

-- the statements in force, newest first: the accepted ones, less those accepted between the opening of a trial and a dropping
-- that closed it
abbrev pub in_force : History → List Accepted
in_force [] = []
in_force (set_up objects kinds r ∷ h) = in_force h
in_force (state o table r ∷ h) = accept r (opened h) (states o (concept_of (kinds_set h) table)) (in_force h)
in_force (link o r q x ∷ h) = accept x (opened h) (links o r q) (in_force h)
in_force (set_apart o q r ∷ h) = accept r (opened h) (apart o q) (in_force h)
in_force (compare f c o g q k r ∷ h) =
    accept r (opened h) (compares (record { kind = kind_at (kinds_set h) g; form = f; constant = c }) o g q k) (in_force h)
in_force (open_trial r ∷ h) = in_force h
in_force (keep a n ∷ h) = in_force h
in_force (drop a n ∷ h) = cond (is_open h a) (before_trial a (in_force h)) (in_force h)
