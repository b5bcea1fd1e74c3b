-- The laws of a domain hold of the meaning of Tenths.
use Rattle.std.specs.Prelude.{◌≡◌, ℕ, ◌≤◌, Bool, true, false, cond, ℤ, pos, negsuc, ◌≤ℤ◌, FitsSigned, ◌==◌, int_le, refl}
use Rattle.std.proofs.Common.{ap, arith}
use Rattle.std.specs.Int.{w32}
use Rattle.std.proofs.lemmas.Int.{ints}
use Rattle.std.proofs.lemmas.Bool.{and_parts, eqb-true}
use Rattle.std.proofs.lemmas.Bool.Decides.{nat_tests}
use Rattle.domain.specs.declared.predicate.Predicate.{Predicate}
use Rattle.domain.specs.Meaning.{Lawful, Complementary, known}
use Rattle.tenths.specs.Tenths.{tenths, in_range, spoken, places}
use Rattle.tenths.specs.Forms.{known_parts, turned_says, turned_back, turned_places, alone_says}

pub range_fits : (x : ℤ) → in_range x ≡ true → FitsSigned w32 x
range_fits x h = let p = and_parts (int_le (negsuc 32767) x) (int_le x (pos 32767)) h in grind (arith, ints)

range_top : (x : ℤ) → in_range x ≡ true → x ≤ℤ pos 32767
range_top x h = let p = and_parts (int_le (negsuc 32767) x) (int_le x (pos 32767)) h in grind (arith, ints)

few_places : (b : Bool) (f : ℕ) → cond b (places f) 0 ≤ 2
few_places b f = grind (arith, nat_tests)

placed : (b : Bool) (f : ℕ) → cond b (places f) 0 ≡ 1 → (b ≡ true) × (places f ≡ 1)
placed true f h = (refl, h)
placed false f h = absurd (omega arith)

complements : (p : Predicate) → known tenths p ≡ true → Complementary tenths p (tenths.complement p)
complements p h =
    let form = (known_parts p h).1 in
    record {
      arity = ap (λ (n : ℕ). cond (spoken p) n 0) (turned_places p.form form);
      kind = refl;
      back = ap (λ (f : ℕ). record { kind = p.kind; form = f; constant = p.constant }) (turned_back p.form form);
      turned = λ x y _ _. turned_says p.form form p.constant x y;
    }

one_known : (p : Predicate) → tenths.arity p ≡ 1 → known tenths p ≡ true
one_known p h = rw h

pub lawful : Lawful tenths
lawful =
    record {
      kinds = λ k h. omega (arith, eqb-true k 0 h);
      values = λ k x h. range_fits x (and_parts (k == 0) (in_range x) h).1;
      owned = λ k x h. (and_parts (k == 0) (in_range x) h).0;
      sampled = λ k h. rw h;
      topped = λ k x h. range_top x (and_parts (k == 0) (in_range x) h).1;
      arities = λ p. few_places (spoken p) p.form;
      kinded = λ p h. (and_parts (p.kind == 0) _ (known_parts p h).0).0;
      alone = λ p x y z one. alone_says p.form (known_parts p (one_known p one)).1 (placed (spoken p) p.form one).1 p.constant x y z;
      complements = complements;
    }
