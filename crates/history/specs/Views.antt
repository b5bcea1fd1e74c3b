-- What a sheet holds after a history, and which answer of each call is the right one.
use Rattle.std.specs.Prelude.{ℕ, zero, suc, Bool, cond, List, [], ◌∷◌, ◌++◌, map, reverse, length, Some, None, Ok, Err}
use Rattle.domain.specs.Meaning.{Meaning}
use Rattle.concept.specs.Normal.{normal}
use Rattle.sheet.specs.declared.trial.Trial.{Trial}
use Rattle.sheet.specs.Statements.{Statement}
use Rattle.sheet.specs.Statements.Statement.{states, links, apart, compares}
use Rattle.sheet.specs.Views.{View, compared_by, set_up as set_up_view, with_statement, stated, with_trial, kept, dropped}
use Rattle.history.specs.Histories.{Event, History, Accepted, opened, is_open, objects_set, kinds_set, before_trial, in_force}
use Rattle.history.specs.Histories.Event.{set_up, state, link, set_apart, compare, open_trial, keep, drop}

-- a statement with its concept in normal form, as a sheet keeps it
abbrev pub normalised : Meaning → Statement → Statement
normalised m (states o c) = states o (normal m c)
normalised m (links o r q) = links o r q
normalised m (apart o q) = apart o q
normalised m (compares p o g q h) = compares p o g q h

abbrev pub kept_statement : Meaning → Accepted → Statement
kept_statement m s = normalised m s.statement

-- the numbers from 1 to n that pass the test, rising, as trials with these marks
abbrev pub trials_up_to : (ℕ → Bool) → (ℕ → ℕ) → ℕ → List Trial
trials_up_to test mark zero = []
trials_up_to test mark (suc n) = trials_up_to test mark n ++ cond (test (suc n)) (record { number = suc n; mark = mark (suc n) } ∷ []) []

-- how many statements in force are older than the trial n
abbrev pub mark_of : History → ℕ → ℕ
mark_of h n = length (before_trial n (in_force h))

-- what the sheet holds after the history
abbrev pub view_of : Meaning → History → View
view_of m h = record {
  objects = objects_set h;
  kinds = kinds_set h;
  statements = map (kept_statement m) (reverse (in_force h));
  trials = trials_up_to (is_open h) (mark_of h) (opened h);
  opened = opened h;
}

-- what an event makes of a sheet
abbrev pub after : Meaning → Event → View → View
after m (set_up objects kinds None) v = set_up_view v objects kinds
after m (set_up objects kinds (Some e)) v = v
after m (state o table None) v = with_statement v (stated m v o table)
after m (state o table (Some e)) v = v
after m (link o r q None) v = with_statement v (links o r q)
after m (link o r q (Some e)) v = v
after m (set_apart o q None) v = with_statement v (apart o q)
after m (set_apart o q (Some e)) v = v
after m (compare f c o g q k None) v = with_statement v (compares (compared_by v g f c) o g q k)
after m (compare f c o g q k (Some e)) v = v
after m (open_trial (Ok n)) v = with_trial v
after m (open_trial (Err e)) v = v
after m (keep a n) v = kept v a
after m (drop a n) v = dropped v a
