-- Two plants in one: the things of the first, and behind them those of the second, with pairs from the first to the second.
use Rattle.std.proofs.Common.{◌≡◌, ℕ, ◌+◌, ◌-◌, ◌<◌, ◌≤◌, Bool, true, false, cond, eqb, ltb, ◌⊎◌, List, ℤ, Some, None, Option, sym, refl, ap, ◌∙◌, inl, inr, arith}
use Rattle.std.proofs.lemmas.Bool.{cond-true, cond-false, lt-ltb, le-ltb, cases_lt}
use Rattle.std.proofs.lemmas.Bool.Decides.{same_from_decides, Decides-like, Decides-eqb}
use Rattle.domain.specs.Meaning.{Meaning}
use Rattle.concept.specs.Plants.{Plant, typed}
use Rattle.tableau.proofs.Embedding.{placed, Closed, Carries, Embeds}

-- the first n from one list of values, what lies behind from another
abbrev pub split : {A : Type 0} → ℕ → (ℕ → A) → (ℕ → A) → ℕ → A
split n first second x = cond (ltb x n) (first x) (second (x - n))

module _ {A : Type 0} (n : ℕ) (first second : ℕ → A) where
  pub split_first : (x : ℕ) → x < n → split n first second x ≡ first x
  split_first x h = cond-true (ltb x n) (first x) (second (x - n)) (lt-ltb x n h)

  pub split_second : (x : ℕ) → n ≤ x → split n first second x ≡ second (x - n)
  split_second x h = cond-false (ltb x n) (first x) (second (x - n)) (le-ltb x n h)

  pub split_behind : (x : ℕ) → split n first second (n + x) ≡ second x
  split_behind x =
      let h : n ≤ n + x = omega arith in
      let s : n + x - n ≡ x = omega arith in
      split_second (n + x) h ∙ ap second s

-- extra r x y: the role r leads from the thing x of the first to the thing y of the second
abbrev pub beside : Plant → Plant → (ℕ → ℕ → ℕ → Bool) → Plant
beside p q extra = record {
  count = p.count + q.count;
  named = λ n. split p.count (p.named n) (q.named n);
  joined = λ r. split p.count (λ x. split p.count (p.joined r x) (extra r x)) (λ x. split p.count (λ y. false) (q.joined r x));
  linked = λ f. split p.count (p.linked f) (λ x. placed (λ y. p.count + y) (q.linked f x));
  valued = λ g. split p.count (p.valued g) (q.valued g);
  stands = p.stands;
}

abbrev pub none : ℕ → ℕ → ℕ → Bool
none r x y = false

placed_itself : (o : Option ℕ) → o ≡ placed (λ x. x) o
placed_itself None = refl
placed_itself (Some x) = refl

placed_at : (e : ℕ → ℕ) (o : Option ℕ) (y : ℕ) → placed e o ≡ Some y → (x : ℕ) × (o ≡ Some x) × (y ≡ e x)
placed_at e None y s = let z : ◌≡◌ {A = ℕ} 0 1 = cc in absurd (omega arith)
placed_at e (Some x) y s = (x, refl, cc)

shift_apart : (n x y : ℕ) → eqb (n + x) (n + y) ≡ eqb x y
shift_apart n x y =
    same_from_decides (eqb (n + x) (n + y)) (eqb x y) (Decides-eqb (n + x) (n + y))
    (Decides-like (eqb x y) (λ s. ap (λ z. n + z) s) (λ s. omega arith) (Decides-eqb x y))

module _ (p q : Plant) (extra : ℕ → ℕ → ℕ → Bool) where
  pub first_carried : Carries p (beside p q extra) (λ x. x)
  first_carried = record {
    things = λ x h. omega arith;
    apart = λ x y. refl;
    names = λ n x h. split_first p.count (p.named n) (q.named n) x h;
    links = λ f x h. split_first p.count (p.linked f) (λ x. placed (λ y. p.count + y) (q.linked f x)) x h ∙ placed_itself (p.linked f x);
    values = λ g x h. split_first p.count (p.valued g) (q.valued g) x h;
  }

  pub second_carried : Carries q (beside p q extra) (λ x. p.count + x)
  second_carried = record {
    things = λ x h. omega arith;
    apart = λ x y. shift_apart p.count x y;
    names = λ n x h. split_behind p.count (p.named n) (q.named n) x;
    links = λ f x h. split_behind p.count (p.linked f) (λ x. placed (λ y. p.count + y) (q.linked f x)) x;
    values = λ g x h. split_behind p.count (p.valued g) (q.valued g) x;
  }

  pub first_pairs : (r x z : ℕ) → x < p.count → (beside p q extra).joined r x z ≡ split p.count (p.joined r x) (extra r x) z
  first_pairs r x z h =
      ap (λ (f : ℕ → Bool). f z)
      (split_first p.count (λ x. split p.count (p.joined r x) (extra r x)) (λ x. split p.count (λ y. false) (q.joined r x)) x h)

  second_pairs : (r x z : ℕ) → (beside p q extra).joined r (p.count + x) z ≡ split p.count (λ y. false) (q.joined r x) z
  second_pairs r x z =
      ap (λ (f : ℕ → Bool). f z)
      (split_behind p.count (λ x. split p.count (p.joined r x) (extra r x)) (λ x. split p.count (λ y. false) (q.joined r x)) x)

  pub second_embedded : Embeds q (beside p q extra) (λ x. p.count + x)
  second_embedded = record {
    carries = second_carried;
    forth = λ r x y h k s. second_pairs r x (p.count + y) ∙ (split_behind p.count (λ y. false) (q.joined r x) y ∙ s);
    back = λ r x z h k s. go r x z k (sym (second_pairs r x z) ∙ s) (cases_lt z p.count);
  }
    where
      go : (r x z : ℕ) → z < p.count + q.count → split p.count (λ y. false) (q.joined r x) z ≡ true → (z < p.count) ⊎ (p.count ≤ z)
          → (y : ℕ) × (y < q.count) × (z ≡ p.count + y) × (q.joined r x y ≡ true)
      go r x z k s (inl l) =
          let f = sym (split_first p.count (λ y. false) (q.joined r x) z l) ∙ s in
          let z : ◌≡◌ {A = ℕ} 0 1 = cc in absurd (omega arith)
      go r x z k s (inr l) =
          (z - p.count, omega arith, omega arith, sym (split_second p.count (λ y. false) (q.joined r x) z l) ∙ s)

  pub beside_closed : Closed p → Closed q → Closed (beside p q extra)
  beside_closed c d f x y s = go (cases_lt x p.count)
    where
      go : (x < p.count) ⊎ (p.count ≤ x) → y < p.count + q.count
      go (inl l) =
          let h = c f x y (sym (split_first p.count (p.linked f) (λ x. placed (λ y. p.count + y) (q.linked f x)) x l) ∙ s) in omega arith
      go (inr l) =
          let t = placed_at (λ y. p.count + y) (q.linked f (x - p.count)) y (sym (split_second p.count (p.linked f) (λ x. placed (λ y. p.count + y) (q.linked f x)) x l) ∙ s) in
          let h = d f (x - p.count) t.0 t.1 in
          omega arith

-- values are of their feature's kind
abbrev pub Typed : Meaning → List ℕ → Plant → Type 0
Typed m kinds p = (g x : ℕ) (v : ℤ) → p.valued g x ≡ Some v → typed m kinds g v ≡ true

pub beside_typed :
    (m : Meaning) (kinds : List ℕ) (p q : Plant) (extra : ℕ → ℕ → ℕ → Bool) → Typed m kinds p → Typed m kinds q → Typed m kinds (beside p q extra)
beside_typed m kinds p q extra c d g x v s = go (cases_lt x p.count)
  where
    go : (x < p.count) ⊎ (p.count ≤ x) → typed m kinds g v ≡ true
    go (inl l) = c g x v (sym (split_first p.count (p.valued g) (q.valued g) x l) ∙ s)
    go (inr l) = d g (x - p.count) v (sym (split_second p.count (p.valued g) (q.valued g) x l) ∙ s)

-- with no pairs between them the first is embedded too
pub first_embedded : (p q : Plant) → Embeds p (beside p q none) (λ x. x)
first_embedded p q = record {
  carries = first_carried p q none;
  forth = λ r x y h k s. first_pairs p q none r x y h ∙ (split_first p.count (p.joined r x) (none r x) y k ∙ s);
  back = λ r x z h k s. go r x z (sym (first_pairs p q none r x z h) ∙ s) (cases_lt z p.count);
}
  where
    go : (r x z : ℕ) → split p.count (p.joined r x) (none r x) z ≡ true → (z < p.count) ⊎ (p.count ≤ z)
        → (y : ℕ) × (y < p.count) × (z ≡ y) × (p.joined r x y ≡ true)
    go r x z s (inl l) = (z, l, refl, sym (split_first p.count (p.joined r x) (none r x) z l) ∙ s)
    go r x z s (inr l) =
        let f = sym (split_second p.count (p.joined r x) (none r x) z l) ∙ s in
        let z : ◌≡◌ {A = ℕ} 0 1 = cc in absurd (omega arith)
