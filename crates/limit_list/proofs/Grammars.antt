-- Every spelling is read back.
use Rattle.std.proofs.Common.{◌≡◌, ℕ, true, false, cond, not, eqb, List, [], ◌∷◌, ◌++◌, length, drop, ℤ, pos, neg_ℤ, Some, Ok, Err, sym, refl, ap, ◌∙◌, subst, arith}
use Rattle.std.proofs.lemmas.List.Elements.{All-head, All-tail}
use Rattle.std.proofs.lemmas.Bool.{cond-true, cond-false, and_from, or_from, ne_eqb, false≢true}
use Rattle.text.specs.declared.bytes.Class.{Class}
use Rattle.text.specs.declared.bytes.Class.TheVariants.{Blank, Word, Digit}
use Rattle.limit_list.specs.declared.fault.Expected.{Expected}
use Rattle.limit_list.specs.declared.fault.Expected.TheVariants as expected
use Rattle.text.specs.declared.fault.Stop.{Stop}
use Rattle.limit_list.specs.declared.limit.Operator.{Operator}
use Rattle.limit_list.specs.declared.limit.Operator.TheVariants.{AtMost, Below, AtLeast, Above}
use Rattle.text.specs.Bytes.{in_class, letter, run, past_run}
use Rattle.text.specs.Numerals.{value}
use Rattle.text.proofs.Runs.{run-cons, past_run-cons}
use Rattle.limit_list.specs.Grammar.{Only, Name, symbol, Numeral, plain, minus, Bound, Spells, silent, one, two}
use Rattle.limit_list.specs.Limits.{allowed}
use Rattle.limit_list.specs.Spelling.{Term, reading, difference, Said, nothing, limit, head, ended, number_of, unsigned, numbered, bared, operator_of, width, after_operator, from_end, from_number, from_operator, from_second, from_first, from_start, reads}

-- the next byte is not of the class
abbrev Ends : Class → List ℕ → Type 0
Ends c s = in_class c (head s) ≡ false

past_stop : (c : Class) (s : List ℕ) → Ends c s → past_run c s ≡ s
past_stop c [] h = refl
past_stop c (b ∷ s) h = past_run-cons c b s ∙ cond-false _ _ _ h

run_stop : (c : Class) (s : List ℕ) → Ends c s → run c s ≡ []
run_stop c [] h = refl
run_stop c (b ∷ s) h = run-cons c b s ∙ cond-false _ _ _ h

first_of : (c : Class) (b : ℕ) (x : List ℕ) → Only c (b ∷ x) → in_class c b ≡ true
first_of c b x h = All-head (λ k. in_class c k ≡ true) b x h

others_of : (c : Class) (b : ℕ) (x : List ℕ) → Only c (b ∷ x) → Only c x
others_of c b x h = All-tail (λ k. in_class c k ≡ true) b x h

past_only : (c : Class) (x s : List ℕ) → Only c x → Ends c s → past_run c (x ++ s) ≡ s
past_only c [] s h e = past_stop c s e
past_only c (b ∷ x) s h e = past_run-cons c b (x ++ s) ∙ cond-true _ _ _ (first_of c b x h) ∙ past_only c x s (others_of c b x h) e

run_only : (c : Class) (x s : List ℕ) → Only c x → Ends c s → run c (x ++ s) ≡ x
run_only c [] s h e = run_stop c s e
run_only c (b ∷ x) s h e = run-cons c b (x ++ s) ∙ cond-true _ _ _ (first_of c b x h) ∙ ap (λ t. b ∷ t) (run_only c x s (others_of c b x h) e)

blank_word : (b : ℕ) → in_class Blank b ≡ true → in_class Word b ≡ false
blank_word b h = grind arith

blank_digit : (b : ℕ) → in_class Blank b ≡ true → in_class Digit b ≡ false
blank_digit b h = grind arith

letter_blank : (b : ℕ) → letter b ≡ true → in_class Blank b ≡ false
letter_blank b h = grind arith

ends_blank : (c : Class) (b s : List ℕ) → ((k : ℕ) → in_class Blank k ≡ true → in_class c k ≡ false) → Only Blank b → Ends c s → Ends c (b ++ s)
ends_blank c [] s f h e = e
ends_blank c (k ∷ b) s f h e = f k (first_of Blank k b h)

ended_blank : (s : List ℕ) → ended s ≡ true → Ends Blank s
ended_blank [] h = refl
ended_blank (b ∷ s) h = grind arith

ended_digit : (s : List ℕ) → ended s ≡ true → Ends Digit s
ended_digit [] h = refl
ended_digit (b ∷ s) h = grind arith

digit_sign : (d : ℕ) → in_class Digit d ≡ true → eqb d 45 ≡ false
digit_sign d h = grind arith

digit_equals : (d : ℕ) → in_class Digit d ≡ true → eqb d 61 ≡ false
digit_equals d h = grind arith

digit_blank : (d : ℕ) → in_class Digit d ≡ true → in_class Blank d ≡ false
digit_blank d h = grind arith

blank_equals : (d : ℕ) → in_class Blank d ≡ true → eqb d 61 ≡ false
blank_equals d h = grind arith

numeral_blank : (x : List ℕ) (n : ℤ) (t : List ℕ) → Numeral x n → Ends Blank (x ++ t)
numeral_blank _ _ t (plain d ds h) = digit_blank d (first_of Digit d ds h)
numeral_blank _ _ t (minus d ds h) = refl

gap_equals : (b x : List ℕ) (n : ℤ) (t : List ℕ) → Only Blank b → Numeral x n → eqb (head (b ++ (x ++ t))) 61 ≡ false
gap_equals [] _ _ t g (plain d ds h) = digit_equals d (first_of Digit d ds h)
gap_equals [] _ _ t g (minus d ds h) = refl
gap_equals (k ∷ b) x n t g num = blank_equals k (first_of Blank k b g)

some_digits : (d : ℕ) (ds : List ℕ) → not (eqb (length (d ∷ ds)) 0) ≡ true
some_digits d ds = ap not (ne_eqb (length (d ∷ ds)) 0 (λ e. omega arith))

-- a number that is written at the front is read there
record Numbers (s : List ℕ) (n : ℤ) (t : List ℕ) : Type 0 where
  is : number_of s ≡ n
  rest : past_run Digit (unsigned s) ≡ t
  some : not (eqb (length (run Digit (unsigned s))) 0) ≡ true

numeral_read : (x : List ℕ) (n : ℤ) (t : List ℕ) → Numeral x n → Ends Digit t → Numbers (x ++ t) n t
numeral_read _ _ t (minus d ds h) e =
    let r = run_only Digit (d ∷ ds) t h e in
    record {
      is = ap (λ k. neg_ℤ (pos (value k))) r;
      rest = past_only Digit (d ∷ ds) t h e;
      some = ap (λ k. not (eqb (length k) 0)) r ∙ some_digits d ds;
    }
numeral_read _ _ t (plain d ds h) e =
    let u : unsigned ((d ∷ ds) ++ t) ≡ (d ∷ ds) ++ t = cond-false _ _ _ (digit_sign d (first_of Digit d ds h)) in
    let r : run Digit (unsigned ((d ∷ ds) ++ t)) ≡ d ∷ ds = ap (run Digit) u ∙ run_only Digit (d ∷ ds) t h e in
    record {
      is = cond-false _ _ _ (digit_sign d (first_of Digit d ds h)) ∙ ap (λ k. pos (value k)) r;
      rest = ap (past_run Digit) u ∙ past_only Digit (d ∷ ds) t h e;
      some = ap (λ k. not (eqb (length k) 0)) r ∙ some_digits d ds;
    }

end_read : (t : Term) (o : Operator) (n : ℤ) (s : List ℕ) → ended s ≡ true → from_end t o n s ≡ Ok (limit t o n)
unfolding from_end
end_read t o n s h = cond-true _ _ _ h

number_read :
    (t : Term) (o : Operator) (n : ℤ) (x b s : List ℕ) → Numeral x n → allowed o n ≡ true → Only Blank b → ended s ≡ true
    → from_number t o (x ++ (b ++ s)) ≡ Ok (limit t o n)
unfolding from_number
number_read t o n x b s num fits blank done =
    let got = numeral_read x n (b ++ s) num (ends_blank Digit b s blank_digit blank (ended_digit s done)) in
    let good : numbered o (x ++ (b ++ s)) ≡ true = and_from _ _ got.some (ap (allowed o) got.is ∙ fits) in
    let left : bared (past_run Digit (unsigned (x ++ (b ++ s)))) ≡ s = ap bared got.rest ∙ past_only Blank b s blank (ended_blank s done) in
    cond-true _ _ _ good ∙ (λ i. from_end t o (got.is i) (left i)) ∙ end_read t o n s done

operator_read : (o : Operator) (s : List ℕ) → eqb (head s) 61 ≡ false → operator_of (symbol o ++ s) ≡ Some o
operator_read AtMost s h = refl
operator_read Below s h = ap (λ b. Some (cond b AtMost Below)) h
operator_read AtLeast s h = refl
operator_read Above s h = ap (λ b. Some (cond b AtLeast Above)) h

width_drop : (o : Operator) (s : List ℕ) → drop (width o) (symbol o ++ s) ≡ s
width_drop AtMost s = refl
width_drop Below s = refl
width_drop AtLeast s = refl
width_drop Above s = refl

bound_read : (t : Term) (e : Expected) (o : Operator) (n : ℤ) (s : List ℕ) → Bound o n s → from_operator t e s ≡ Ok (limit t o n)
unfolding from_operator
bound_read t e o n s h =
    let tail = h.digits ++ (h.space ++ h.rest) in
    let found = operator_read o (h.gap ++ tail) (gap_equals h.gap h.digits n (h.space ++ h.rest) h.blank.0 h.number) in
    ap (from_operator t e) h.cut
    ∙ ap (after_operator t e (symbol o ++ (h.gap ++ tail))) found
    ∙ ap (from_number t o) (ap bared (width_drop o (h.gap ++ tail)) ∙ past_only Blank h.gap tail h.blank.0 (numeral_blank h.digits n (h.space ++ h.rest) h.number))
    ∙ number_read t o n h.digits h.space h.rest h.number h.fits h.blank.1 h.done

-- what holds of `<` and of `>` holds of the byte that begins a bound
bound_head : (P : ℕ → Type 0) → P 60 → P 62 → (o : Operator) (n : ℤ) (s : List ℕ) → Bound o n s → P (head s)
bound_head P less more o n s h = subst (λ k. P (head k)) (sym h.cut) (first o)
  where
    first : (q : Operator) → P (head (symbol q ++ (h.gap ++ (h.digits ++ (h.space ++ h.rest)))))
    first AtMost = less
    first Below = less
    first AtLeast = more
    first Above = more

name_head : (x t : List ℕ) → Name x → letter (head (x ++ t)) ≡ true
name_head [] t h = absurd (false≢true h.starts)
name_head (b ∷ x) t h = h.starts

letter_comment : (b : ℕ) → letter b ≡ true → eqb b 35 ≡ false
letter_comment b h = grind arith

named_not_ended : (s : List ℕ) → letter (head s) ≡ true → ended s ≡ false
named_not_ended [] h = absurd (false≢true h)
named_not_ended (b ∷ s) h = or_from _ _ (ne_eqb (length (b ∷ s)) 0 (λ e. omega arith)) (letter_comment b h)

-- a name, and the blanks after it
module _ (x b s : List ℕ) (name : Name x) (blank : Only Blank b) (word : Ends Word s) (space : Ends Blank s) where
  name_run : run Word (x ++ (b ++ s)) ≡ x
  name_run = run_only Word x (b ++ s) name.goes_on (ends_blank Word b s blank_word blank word)

  name_rest : bared (past_run Word (x ++ (b ++ s))) ≡ s
  name_rest = ap bared (past_only Word x (b ++ s) name.goes_on (ends_blank Word b s blank_word blank word)) ∙ past_only Blank b s blank space

  start_read : from_start (x ++ (b ++ s)) ≡ from_first x s
  unfolding from_start
  start_read =
      cond-false _ _ _ (named_not_ended (x ++ (b ++ s)) (name_head x (b ++ s) name))
      ∙ cond-true _ _ _ (name_head x (b ++ s) name)
      ∙ (λ i. from_first (name_run i) (name_rest i))

module _ (o : Operator) (n : ℤ) (s : List ℕ) (bound : Bound o n s) where
  bound_word : Ends Word s
  bound_word = bound_head (λ k. in_class Word k ≡ false) refl refl o n s bound

  bound_blank : Ends Blank s
  bound_blank = bound_head (λ k. in_class Blank k ≡ false) refl refl o n s bound

  first_read : (x : List ℕ) → from_first x s ≡ Ok (limit (reading x) o n)
  unfolding from_first
  first_read x = cond-false _ _ _ (bound_head (λ k. eqb k 45 ≡ false) refl refl o n s bound) ∙ bound_read (reading x) expected.MinusOrOperator o n s bound

  second_read : (x y d : List ℕ) → Name y → Only Blank d → from_second x (y ++ (d ++ s)) ≡ Ok (limit (difference x y) o n)
  unfolding from_second
  second_read x y d name blank =
      cond-true _ _ _ (name_head y (d ++ s) name)
      ∙ (λ i. from_operator (difference x (name_run y d s name blank bound_word bound_blank i)) expected.Operator (name_rest y d s name blank bound_word bound_blank i))
      ∙ bound_read (difference x y) expected.Operator o n s bound

  minus_read : (x c y d : List ℕ) → Only Blank c → Name y → Only Blank d → from_first x (45 ∷ (c ++ (y ++ (d ++ s)))) ≡ Ok (limit (difference x y) o n)
  unfolding from_first
  minus_read x c y d gap name blank =
      ap (from_second x) (past_only Blank c (y ++ (d ++ s)) gap (letter_blank (head (y ++ (d ++ s))) (name_head y (d ++ s) name)))
      ∙ second_read x y d name blank

silent_read : (s : List ℕ) → ended s ≡ true → from_start s ≡ Ok nothing
unfolding from_start
silent_read s h = cond-true _ _ _ h

-- every spelling is read back as what it spells
pub read_back : (line : List ℕ) (s : Said) → Spells line s → reads line ≡ Ok s
read_back _ _ (silent a s blank done) = ap from_start (past_only Blank a s blank (ended_blank s done)) ∙ silent_read s done
read_back _ _ (one a x b s o n ha name hb bound) =
    ap from_start (past_only Blank a (x ++ (b ++ s)) ha (letter_blank (head (x ++ (b ++ s))) (name_head x (b ++ s) name)))
    ∙ start_read x b s name hb (bound_word o n s bound) (bound_blank o n s bound)
    ∙ first_read o n s bound x
read_back _ _ (two a x b c y d s o n ha name hb hc other hd bound) =
    let w = 45 ∷ (c ++ (y ++ (d ++ s))) in
    ap from_start (past_only Blank a (x ++ (b ++ w)) ha (letter_blank (head (x ++ (b ++ w))) (name_head x (b ++ w) name)))
    ∙ start_read x b w name hb refl refl
    ∙ minus_read o n s bound x c y d hc other hd

-- so a line that is not read spells nothing
pub not_spelt : (line : List ℕ) (e : Stop Expected) → reads line ≡ Err e → (s : Said) → Spells line s → ⊥
not_spelt line e h s spelt = let back = read_back line s spelt in let z : ◌≡◌ {A = ℕ} 0 1 = cc in omega arith
