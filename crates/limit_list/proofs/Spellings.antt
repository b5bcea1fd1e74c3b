-- What is read is spelt.
use Rattle.std.proofs.Common.{◌≡◌, ℕ, Bool, true, false, cond, not, eqb, List, [], ◌∷◌, ◌++◌, length, drop, ℤ, pos, neg_ℤ, IfOk, Some, None, Ok, Option, Result, sym, refl, ap, ◌∙◌, subst, ⊎_elim, arith}
use Rattle.std.proofs.lemmas.Result.{IfOk-weaker, IfOk-at_ok}
use Rattle.std.proofs.lemmas.List.{take-append-drop}
use Rattle.std.proofs.lemmas.List.Elements.{All-nil, All-cons}
use Rattle.std.specs.List.{prefix_len}
use Rattle.std.proofs.lemmas.Bool.{cond-true, cond-false, and_parts, or_left, eqb-true, cases_Bool, false≢true}
use Rattle.text.specs.declared.bytes.Class.{Class}
use Rattle.text.specs.declared.bytes.Class.TheVariants.{Blank, Word, Digit}
use Rattle.limit_list.specs.declared.fault.Expected.{Expected}
use Rattle.limit_list.specs.declared.fault.Expected.TheVariants as expected
use Rattle.text.specs.declared.fault.Stop.{Stop}
use Rattle.limit_list.specs.declared.limit.Operator.{Operator}
use Rattle.limit_list.specs.declared.limit.Operator.TheVariants.{AtMost, Below, AtLeast, Above}
use Rattle.text.specs.Bytes.{in_class, letter, run, past_run}
use Rattle.text.specs.Numerals.{value}
use Rattle.text.proofs.Runs.{run-cons}
use Rattle.limit_list.specs.Grammar.{Only, Name, symbol, Numeral, plain, minus, Bound, Spells, silent, one, two}
use Rattle.limit_list.specs.Limits.{allowed}
use Rattle.limit_list.specs.Spelling.{Term, reading, difference, Said, nothing, limit, stops, head, ended, number_of, unsigned, numbered, bared, operator_of, width, after_operator, from_end, from_number, from_operator, from_second, from_first, from_start, reads}

either_made : (b : Bool) (p q : Result Said (Stop Expected)) (P : Said → Type 0) → (b ≡ true → IfOk p P) → (b ≡ false → IfOk q P) → IfOk (cond b p q) P
either_made true p q P f g = f refl
either_made false p q P f g = g refl

split_run : (c : Class) (s : List ℕ) → run c s ++ past_run c s ≡ s
split_run c s = take-append-drop (prefix_len (in_class c) s) s

only_step : (c : Class) (t : Bool) (b : ℕ) (r : List ℕ) → in_class c b ≡ t → Only c r → Only c (cond t (b ∷ r) [])
only_step c true b r e h = All-cons (λ k. in_class c k ≡ true) b r e h
only_step c false b r e h = All-nil (λ k. in_class c k ≡ true)

only_run : (c : Class) (s : List ℕ) → Only c (run c s)
only_run c [] = All-nil (λ k. in_class c k ≡ true)
only_run c (b ∷ s) = subst (Only c) (sym (run-cons c b s)) (only_step c (in_class c b) b (run c s) refl (only_run c s))

head_is : (k : ℕ) → eqb 0 k ≡ false → (s : List ℕ) → eqb (head s) k ≡ true → s ≡ k ∷ drop 1 s
head_is k z [] h = absurd (false≢true (sym z ∙ h))
head_is k z (b ∷ s) h = ap (λ x. x ∷ s) (eqb-true b k h)

-- a number and what is left after it
record Tail (o : Operator) (n : ℤ) (s : List ℕ) : Type 0 where
  digits : List ℕ
  space : List ℕ
  rest : List ℕ
  blank : Only Blank space
  number : Numeral digits n
  fits : allowed o n ≡ true
  done : ended rest ≡ true
  cut : s ≡ digits ++ (space ++ rest)

plain_numeral : (ds : List ℕ) → Only Digit ds → not (eqb (length ds) 0) ≡ true → Numeral ds (pos (value ds))
plain_numeral [] h e = absurd (false≢true e)
plain_numeral (d ∷ ds) h e = plain d ds h

minus_numeral : (ds : List ℕ) → Only Digit ds → not (eqb (length ds) 0) ≡ true → Numeral (45 ∷ ds) (neg_ℤ (pos (value ds)))
minus_numeral [] h e = absurd (false≢true e)
minus_numeral (d ∷ ds) h e = minus d ds h

numeral_made :
    (s : List ℕ) → not (eqb (length (run Digit (unsigned s))) 0) ≡ true
    → (x : List ℕ) × Numeral x (number_of s) × (s ≡ x ++ past_run Digit (unsigned s))
numeral_made s some =
    let u = unsigned s in
    let ds = run Digit u in
    ⊎_elim
    (λ e. (
      45 ∷ ds,
      subst (Numeral (45 ∷ ds)) (sym (cond-true _ _ _ e)) (minus_numeral ds (only_run Digit u) some),
      head_is 45 refl s e ∙ ap (λ k. 45 ∷ k) (sym (split_run Digit u ∙ cond-true _ _ _ e)),
    ))
    (λ e. (
      ds,
      subst (Numeral ds) (sym (cond-false _ _ _ e)) (plain_numeral ds (only_run Digit u) some),
      sym (split_run Digit u ∙ cond-false _ _ _ e),
    ))
    (cases_Bool (eqb (head s) 45))

end_made : (t : Term) (o : Operator) (n : ℤ) (s : List ℕ) (P : Said → Type 0) → (ended s ≡ true → P (limit t o n)) → IfOk (from_end t o n s) P
unfolding from_end
end_made t o n s P f = either_made (ended s) (Ok (limit t o n)) (stops expected.EndOfLine s) P f (λ _. tt)

number_made : (t : Term) (o : Operator) (s : List ℕ) → IfOk (from_number t o s) (λ l. (n : ℤ) × (l ≡ limit t o n) × Tail o n s)
unfolding from_number
number_made t o s =
    let P : Said → Type 0 = λ l. (n : ℤ) × (l ≡ limit t o n) × Tail o n s in
    let after = past_run Digit (unsigned s) in
    either_made (numbered o s) (from_end t o (number_of s) (bared after)) (stops (expected.Number o) s) P
    (λ e.
    let parts = and_parts _ _ e in
    let num = numeral_made s parts.0 in
    end_made t o (number_of s) (bared after) P
    (λ done. (
      number_of s,
      refl,
      record {
        digits = num.0;
        space = run Blank after;
        rest = bared after;
        blank = only_run Blank after;
        number = num.1;
        fits = parts.1;
        done = done;
        cut = num.2 ∙ ap (λ k. num.0 ++ k) (sym (split_run Blank after));
      },
    )))
    (λ _. tt)

symbol_step :
    (a : ℕ) (r : List ℕ) (o : Operator) (p q u : Bool) → eqb a 60 ≡ p → eqb (head r) 61 ≡ q → eqb a 62 ≡ u
    → cond p (Some (cond q AtMost Below)) (cond u (Some (cond q AtLeast Above)) None) ≡ Some o
    → a ∷ r ≡ symbol o ++ drop (width o) (a ∷ r)
symbol_step a r o true true u p q e h =
    let is : AtMost ≡ o = cc in
    subst (λ k. a ∷ r ≡ symbol k ++ drop (width k) (a ∷ r)) is (λ i. eqb-true a 60 p i ∷ head_is 61 refl r q i)
symbol_step a r o true false u p q e h =
    let is : Below ≡ o = cc in
    subst (λ k. a ∷ r ≡ symbol k ++ drop (width k) (a ∷ r)) is (ap (λ k. k ∷ r) (eqb-true a 60 p))
symbol_step a r o false true true p q e h =
    let is : AtLeast ≡ o = cc in
    subst (λ k. a ∷ r ≡ symbol k ++ drop (width k) (a ∷ r)) is (λ i. eqb-true a 62 e i ∷ head_is 61 refl r q i)
symbol_step a r o false false true p q e h =
    let is : Above ≡ o = cc in
    subst (λ k. a ∷ r ≡ symbol k ++ drop (width k) (a ∷ r)) is (ap (λ k. k ∷ r) (eqb-true a 62 e))
symbol_step a r o false true false p q e h = let z : ◌≡◌ {A = ℕ} 0 1 = cc in absurd (omega arith)
symbol_step a r o false false false p q e h = let z : ◌≡◌ {A = ℕ} 0 1 = cc in absurd (omega arith)

symbol_cut : (s : List ℕ) (o : Operator) → operator_of s ≡ Some o → s ≡ symbol o ++ drop (width o) s
symbol_cut [] o h = let z : ◌≡◌ {A = ℕ} 0 1 = cc in absurd (omega arith)
symbol_cut (a ∷ r) o h = symbol_step a r o (eqb a 60) (eqb (head r) 61) (eqb a 62) refl refl refl h

after_made :
    (t : Term) (e : Expected) (s : List ℕ) (q : Option Operator) → operator_of s ≡ q
    → IfOk (after_operator t e s q) (λ l. (o : Operator) × (n : ℤ) × (l ≡ limit t o n) × Bound o n s)
after_made t e s None h = tt
after_made t e s (Some o) h =
    let w = drop (width o) s in
    IfOk-weaker (from_number t o (bared w)) (λ l. (n : ℤ) × (l ≡ limit t o n) × Tail o n (bared w)) _
    (λ l got.
    let tail = got.2 in (
      o,
      got.0,
      got.1,
      record {
        gap = run Blank w;
        digits = tail.digits;
        space = tail.space;
        rest = tail.rest;
        blank = (only_run Blank w, tail.blank);
        number = tail.number;
        fits = tail.fits;
        done = tail.done;
        cut = symbol_cut s o h ∙ ap (λ k. symbol o ++ k) (sym (split_run Blank w) ∙ ap (λ k. run Blank w ++ k) tail.cut);
      },
    ))
    (number_made t o (bared w))

bound_made : (t : Term) (e : Expected) (s : List ℕ) → IfOk (from_operator t e s) (λ l. (o : Operator) × (n : ℤ) × (l ≡ limit t o n) × Bound o n s)
unfolding from_operator
bound_made t e s = after_made t e s (operator_of s) refl

name_starts : (s : List ℕ) → letter (head s) ≡ true → letter (head (run Word s)) ≡ true
name_starts [] h = absurd (false≢true h)
name_starts (b ∷ s) h = ap (λ k. letter (head k)) (run-cons Word b s ∙ cond-true _ _ _ (or_left _ _ h)) ∙ h

name_made : (s : List ℕ) → letter (head s) ≡ true → Name (run Word s)
name_made s h = record { starts = name_starts s h; goes_on = only_run Word s }

-- a name, blanks, and the rest
name_cut : (s : List ℕ) → s ≡ run Word s ++ (run Blank (past_run Word s) ++ bared (past_run Word s))
name_cut s = sym (split_run Word s) ∙ ap (λ k. run Word s ++ k) (sym (split_run Blank (past_run Word s)))

-- the second name of a difference, and its bound
record Second (x s : List ℕ) (l : Said) : Type 0 where
  y : List ℕ
  d : List ℕ
  rest : List ℕ
  o : Operator
  n : ℤ
  is : l ≡ limit (difference x y) o n
  name : Name y
  blank : Only Blank d
  bound : Bound o n rest
  cut : s ≡ y ++ (d ++ rest)

second_made : (x s : List ℕ) → IfOk (from_second x s) (Second x s)
unfolding from_second
second_made x s =
    let after = past_run Word s in
    either_made (letter (head s)) (from_operator (difference x (run Word s)) expected.Operator (bared after)) (stops expected.Name s) (Second x s)
    (λ e.
    IfOk-weaker (from_operator (difference x (run Word s)) expected.Operator (bared after))
    (λ l. (o : Operator) × (n : ℤ) × (l ≡ limit (difference x (run Word s)) o n) × Bound o n (bared after))
    (Second x s)
    (λ l got. record {
      y = run Word s;
      d = run Blank after;
      rest = bared after;
      o = got.0;
      n = got.1;
      is = got.2;
      name = name_made s e;
      blank = only_run Blank after;
      bound = got.3;
      cut = name_cut s;
    })
    (bound_made (difference x (run Word s)) expected.Operator (bared after)))
    (λ _. tt)

-- after the first name
abbrev After : List ℕ → List ℕ → Said → Type 0
After x s l = (a b : List ℕ) → Only Blank a → Name x → Only Blank b → Spells (a ++ (x ++ (b ++ s))) l

first_made : (x s : List ℕ) → IfOk (from_first x s) (After x s)
unfolding from_first
first_made x s =
    let w = drop 1 s in
    either_made (eqb (head s) 45) (from_second x (bared w)) (from_operator (reading x) expected.MinusOrOperator s) (After x s)
    (λ e.
    IfOk-weaker (from_second x (bared w)) (Second x (bared w)) (After x s)
    (λ l got a b ha hx hb.
    let cut : 45 ∷ (run Blank w ++ (got.y ++ (got.d ++ got.rest))) ≡ s = ap (λ k. 45 ∷ k) (ap (λ k. run Blank w ++ k) (sym got.cut) ∙ split_run Blank w) ∙ sym (head_is 45 refl s e) in
    subst (λ k. Spells (a ++ (x ++ (b ++ k))) l) cut
    (subst (Spells (a ++ (x ++ (b ++ (45 ∷ (run Blank w ++ (got.y ++ (got.d ++ got.rest)))))))) (sym got.is)
    (two a x b (run Blank w) got.y got.d got.rest got.o got.n ha hx hb (only_run Blank w) got.name got.blank got.bound)))
    (second_made x (bared w)))
    (λ _.
    IfOk-weaker (from_operator (reading x) expected.MinusOrOperator s)
    (λ l. (o : Operator) × (n : ℤ) × (l ≡ limit (reading x) o n) × Bound o n s)
    (After x s)
    (λ l got a b ha hx hb. subst (Spells (a ++ (x ++ (b ++ s)))) (sym got.2) (one a x b s got.0 got.1 ha hx hb got.3))
    (bound_made (reading x) expected.MinusOrOperator s))

start_made : (s : List ℕ) → IfOk (from_start s) (λ l. (a : List ℕ) → Only Blank a → Spells (a ++ s) l)
unfolding from_start
start_made s =
    let P : Said → Type 0 = λ l. (a : List ℕ) → Only Blank a → Spells (a ++ s) l in
    let after = past_run Word s in
    either_made (ended s) (Ok nothing) (cond (letter (head s)) (from_first (run Word s) (bared after)) (stops expected.Name s)) P
    (λ e a ha. silent a s ha e)
    (λ _.
    either_made (letter (head s)) (from_first (run Word s) (bared after)) (stops expected.Name s) P
    (λ e.
    IfOk-weaker (from_first (run Word s) (bared after)) (After (run Word s) (bared after)) P
    (λ l got a ha. subst (λ k. Spells (a ++ k) l) (sym (name_cut s)) (got a (run Blank after) ha (name_made s e) (only_run Blank after)))
    (first_made (run Word s) (bared after)))
    (λ _. tt))

-- a line spells what is read
pub read_spelt : (line : List ℕ) (s : Said) → reads line ≡ Ok s → Spells line s
read_spelt line s h =
    subst (λ k. Spells k s) (split_run Blank line)
    (IfOk-at_ok (λ l. (a : List ℕ) → Only Blank a → Spells (a ++ bared line) l) h (start_made (bared line)) (run Blank line) (only_run Blank line))
