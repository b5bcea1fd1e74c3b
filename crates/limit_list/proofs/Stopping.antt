-- A limit that is read has a number that may follow its operator, and the reading of a line stops within the line.
use Rattle.std.proofs.Common.{◌≡◌, ℕ, ◌≤◌, IfErr, Bool, true, false, cond, ◌==◌, List, length, drop, ℤ, Some, None, Ok, Err, Option, Result, sym, refl, subst, arith, length-drop}
use Rattle.std.proofs.lemmas.Bool.{and_parts}
use Rattle.std.specs.List.{prefix_len}
use Rattle.text.specs.declared.bytes.Class.{Class}
use Rattle.text.specs.declared.bytes.Class.TheVariants.{Blank, Word, Digit}
use Rattle.text.specs.declared.fault.Stop.{Stop}
use Rattle.text.specs.Bytes.{in_class, letter, run, past_run}
use Rattle.limit_list.specs.declared.fault.Expected.{Expected}
use Rattle.limit_list.specs.declared.fault.Expected.TheVariants as expected
use Rattle.limit_list.specs.declared.limit.Limit.{Limit}
use Rattle.limit_list.specs.declared.limit.Operator.{Operator}
use Rattle.limit_list.specs.Limits.{allowed}
use Rattle.limit_list.specs.Spelling.{Term, reading, difference, number_of, Said, Fitting, told, head, ended, unsigned, numbered, operator_of, width, bared, after_operator, from_end, from_number, from_operator, from_second, from_first, from_start, reads}

-- what is read fits, and where the reading stops, at most n bytes are left
abbrev pub Good : Result Said (Stop Expected) → ℕ → Type 0
Good (Ok l) n = Fitting l
Good (Err e) n = e.left ≤ n

either_good : (b : Bool) (p q : Result Said (Stop Expected)) (n : ℕ) → (b ≡ true → Good p n) → Good q n → Good (cond b p q) n
either_good true p q n h k = h refl
either_good false p q n h k = k

longer : (r : Result Said (Stop Expected)) {m n : ℕ} → m ≤ n → Good r m → Good r n
longer (Ok l) k h = h
longer (Err e) k h = omega arith

pub past_le : (c : Class) (s : List ℕ) → length (past_run c s) ≤ length s
past_le c s = omega (arith, length-drop (prefix_len (in_class c) s) s)

drop_le : (k : ℕ) (s : List ℕ) → length (drop k s) ≤ length s
drop_le k s = omega (arith, length-drop k s)

sign_le : (b : Bool) (s : List ℕ) → length (cond b (drop 1 s) s) ≤ length s
sign_le true s = drop_le 1 s
sign_le false s = omega arith

end_good : (t : Term) (o : Operator) (n : ℤ) (s : List ℕ) → allowed o n ≡ true → Good (from_end t o n s) (length s)
unfolding from_end
end_good t o n s h = either_good (ended s) _ _ (length s) (λ _. h) (omega arith)

number_good : (t : Term) (o : Operator) (s : List ℕ) → Good (from_number t o s) (length s)
unfolding from_number
number_good t o s =
    let rest = past_run Digit (unsigned s) in
    let k : length (bared rest) ≤ length s = omega (arith, past_le Blank rest, past_le Digit (unsigned s), sign_le (head s == 45) s) in
    either_good (numbered o s) _ _ (length s) (λ e. longer (from_end t o (number_of s) (bared rest)) k (end_good t o (number_of s) (bared rest) (and_parts _ _ e).1)) (omega arith)

after_good : (t : Term) (x : Expected) (s : List ℕ) (o : Option Operator) → Good (after_operator t x s o) (length s)
after_good t x s None = omega arith
after_good t x s (Some o) =
    let rest = drop (width o) s in
    longer (from_number t o (bared rest)) (omega (arith, past_le Blank rest, drop_le (width o) s)) (number_good t o (bared rest))

operator_good : (t : Term) (x : Expected) (s : List ℕ) → Good (from_operator t x s) (length s)
unfolding from_operator
operator_good t x s = after_good t x s (operator_of s)

word_le : (s : List ℕ) → length (bared (past_run Word s)) ≤ length s
word_le s = omega (arith, past_le Blank (past_run Word s), past_le Word s)

second_good : (x s : List ℕ) → Good (from_second x s) (length s)
unfolding from_second
second_good x s =
    either_good (letter (head s)) _ _ (length s) (λ _. longer (from_operator (difference x (run Word s)) expected.Operator (bared (past_run Word s))) (word_le s) (operator_good (difference x (run Word s)) expected.Operator (bared (past_run Word s)))) (omega arith)

first_good : (x s : List ℕ) → Good (from_first x s) (length s)
unfolding from_first
first_good x s =
    let rest = drop 1 s in
    either_good (head s == 45) _ _ (length s)
    (λ _. longer (from_second x (bared rest)) (omega (arith, past_le Blank rest, drop_le 1 s)) (second_good x (bared rest)))
    (operator_good (reading x) expected.MinusOrOperator s)

start_good : (s : List ℕ) → Good (from_start s) (length s)
unfolding from_start
start_good s =
    either_good (ended s) _ _ (length s) (λ _. tt)
    (either_good (letter (head s)) _ _ (length s) (λ _. longer (from_first (run Word s) (bared (past_run Word s))) (word_le s) (first_good (run Word s) (bared (past_run Word s)))) (omega arith))

pub reads_good : (line : List ℕ) → Good (reads line) (length line)
reads_good line = longer (from_start (bared line)) (past_le Blank line) (start_good (bared line))

-- the same of what a call told
pub told_good : (line : List ℕ) (r : Result (Option Limit) (Stop Expected)) → told r ≡ reads line → Good (told r) (length line)
told_good line r e = subst (λ x. Good x (length line)) (sym e) (reads_good line)

pub told_within : (line : List ℕ) (r : Result (Option Limit) (Stop Expected)) → told r ≡ reads line → IfErr r (λ stop. stop.left ≤ length line)
told_within line (Ok l) e = tt
told_within line (Err stop) e = told_good line (Err stop) e
