-- A plant that is part of a greater one, each thing in a place of its own. Where the part keeps all links and values of its
-- things, it keeps what the chains lead to; where it also keeps all neighbours, every thing lies in the same concepts.
use Rattle.std.proofs.Common.{◌≡◌, ℕ, ◌<◌, ◌≤◌, Bool, true, cond, not, ◌&&◌, ◌||◌, eqb, ltb, ◌⊎◌, List, [], ◌∷◌, is_some, Some, None, Option, sym, refl, ap, ◌∙◌, ap₂, inl, inr, arith}
use Rattle.std.proofs.lemmas.Bool.{cases_lt, eq-eqb, eqb-true}
use Rattle.std.proofs.lemmas.Bool.Decides.{same_from_decides, Decides-like}
use Rattle.domain.specs.declared.predicate.Predicate.{Predicate}
use Rattle.domain.specs.Meaning.{Meaning}
use Rattle.concept.specs.Concepts.{Concept}
use Rattle.concept.specs.Concepts.Concept.{atom, neg, conj, disj, some, all, has, lacks, holds, meets, parts}
use Rattle.concept.specs.Plants.{Plant, onward, walk, reading, leads_to, related, defined, of_two, measured, inside}
use Rattle.tableau.proofs.Neighbours.{decides_some, decides_all, by_link, by_role, leads}

abbrev pub placed : (ℕ → ℕ) → Option ℕ → Option ℕ
placed e None = None
placed e (Some x) = Some (e x)

-- links stay among the things
abbrev pub Closed : Plant → Type 0
Closed p = (f x y : ℕ) → p.linked f x ≡ Some y → y < p.count

-- the things of p stand in q at the places e, with their names, links and values
pub record Carries (p q : Plant) (e : ℕ → ℕ) : Type 0 where
  pub things : (x : ℕ) → x < p.count → e x < q.count
  pub apart : (x y : ℕ) → eqb (e x) (e y) ≡ eqb x y
  pub names : (n x : ℕ) → x < p.count → q.named n (e x) ≡ p.named n x
  pub links : (f x : ℕ) → x < p.count → q.linked f (e x) ≡ placed e (p.linked f x)
  pub values : (g x : ℕ) → x < p.count → q.valued g (e x) ≡ p.valued g x

module _ (e : ℕ → ℕ) where
  some_placed : (o : Option ℕ) → is_some (placed e o) ≡ is_some o
  some_placed None = refl
  some_placed (Some x) = refl

  two_placed : (test : ℕ → ℕ → Bool) → ((x y : ℕ) → test (e x) (e y) ≡ test x y) → (o u : Option ℕ) → of_two test (placed e o) (placed e u) ≡ of_two test o u
  two_placed test h None None = refl
  two_placed test h None (Some y) = refl
  two_placed test h (Some x) None = refl
  two_placed test h (Some x) (Some y) = h x y

module _ (m : Meaning) (p q : Plant) (e : ℕ → ℕ) (closed : Closed p) (carries : Carries p q e) where
  walk_carried : (u : List ℕ) (x : ℕ) → x < p.count → walk q u (e x) ≡ placed e (walk p u x)
  walk_carried [] x h = refl
  walk_carried (f ∷ u) x h =
      ap (λ o. onward o (walk q u)) (carries.links f x h) ∙ go (p.linked f x) refl (λ y k. walk_carried u y k)
    where
      go : (o : Option ℕ) → p.linked f x ≡ o → ((y : ℕ) → y < p.count → walk q u (e y) ≡ placed e (walk p u y))
          → onward (placed e o) (walk q u) ≡ placed e (onward o (walk p u))
      go None s more = refl
      go (Some y) s more = more y (closed f x y s)

  reading_carried : (u : List ℕ) (x : ℕ) → x < p.count → reading q u (e x) ≡ reading p u x
  reading_carried [] x h = refl
  reading_carried (g ∷ []) x h = carries.values g x h
  reading_carried (f ∷ (g ∷ u)) x h =
      ap (λ o. onward o (reading q (g ∷ u))) (carries.links f x h) ∙ go (p.linked f x) refl (λ y k. reading_carried (g ∷ u) y k)
    where
      go : (o : Option ℕ) → p.linked f x ≡ o → ((y : ℕ) → y < p.count → reading q (g ∷ u) (e y) ≡ reading p (g ∷ u) y)
          → onward (placed e o) (reading q (g ∷ u)) ≡ onward o (reading p (g ∷ u))
      go None s more = refl
      go (Some y) s more = more y (closed f x y s)

  pub defined_carried : (f x : ℕ) → x < p.count → defined q f (e x) ≡ defined p f x
  defined_carried f x h =
      ap₂ (λ a b. cond (ltb f 128) a b) (ap is_some (carries.links f x h) ∙ some_placed e (p.linked f x)) (ap is_some (carries.values f x h))

  pub holds_carried : (s : Predicate) (u v : List ℕ) (x : ℕ) → x < p.count → inside m q (holds s u v) (e x) ≡ inside m p (holds s u v) x
  holds_carried s u v x h = ap₂ (measured m s) (reading_carried u x h) (reading_carried v x h)

  pub meets_carried : (u v : List ℕ) (x : ℕ) → x < p.count → inside m q (meets u v) (e x) ≡ inside m p (meets u v) x
  meets_carried u v x h =
      ap₂ (of_two eqb) (walk_carried u x h) (walk_carried v x h) ∙ two_placed e eqb carries.apart (walk p u x) (walk p v x)

  pub parts_carried : (u v : List ℕ) (x : ℕ) → x < p.count → inside m q (parts u v) (e x) ≡ inside m p (parts u v) x
  parts_carried u v x h =
      ap₂ (of_two (λ a b. not (eqb a b))) (walk_carried u x h) (walk_carried v x h)
      ∙ two_placed e (λ a b. not (eqb a b)) (λ a b. ap not (carries.apart a b)) (walk p u x) (walk p v x)

-- the things of p have the same pairs too, and no others
pub record Embeds (p q : Plant) (e : ℕ → ℕ) : Type 0 where
  pub carries : Carries p q e
  pub forth : (r x y : ℕ) → x < p.count → y < p.count → p.joined r x y ≡ true → q.joined r (e x) (e y) ≡ true
  pub back :
      (r x z : ℕ) → x < p.count → z < q.count → q.joined r (e x) z ≡ true → (y : ℕ) × (y < p.count) × (z ≡ e y) × (p.joined r x y ≡ true)

module _ (m : Meaning) (p q : Plant) (e : ℕ → ℕ) (closed : Closed p) (embeds : Embeds p q e) where
  related_forth : (r x y : ℕ) → x < p.count → y < p.count → related p r x y ≡ true → related q r (e x) (e y) ≡ true
  related_forth r x y h k s = go (cases_lt r 256)
    where
      go : (r < 256) ⊎ (256 ≤ r) → related q r (e x) (e y) ≡ true
      go (inl l) =
          by_link q r (e x) (e y) l
          ∙ (ap (λ o. leads_to o (e y)) (embeds.carries.links r x h ∙ ap (placed e) (leads (p.linked r x) y (sym (by_link p r x y l) ∙ s)))
          ∙ eq-eqb (e y) (e y) refl)
      go (inr l) = by_role q r (e x) (e y) l ∙ embeds.forth r x y h k (sym (by_role p r x y l) ∙ s)

  related_back : (r x z : ℕ) → x < p.count → z < q.count → related q r (e x) z ≡ true → (y : ℕ) × (y < p.count) × (z ≡ e y) × (related p r x y ≡ true)
  related_back r x z h k s = go (cases_lt r 256)
    where
      along : r < 256 → (o : Option ℕ) → p.linked r x ≡ o → leads_to (placed e o) z ≡ true
          → (y : ℕ) × (y < p.count) × (z ≡ e y) × (related p r x y ≡ true)
      along l None t b = let z : ◌≡◌ {A = ℕ} 0 1 = cc in absurd (omega arith)
      along l (Some y) t b =
          (y, closed r x y t, sym (eqb-true (e y) z b), by_link p r x y l ∙ (ap (λ o. leads_to o y) t ∙ eq-eqb y y refl))

      go : (r < 256) ⊎ (256 ≤ r) → (y : ℕ) × (y < p.count) × (z ≡ e y) × (related p r x y ≡ true)
      go (inl l) =
          along l (p.linked r x) refl (ap (λ o. leads_to o z) (sym (embeds.carries.links r x h)) ∙ (sym (by_link q r (e x) z l) ∙ s))
      go (inr l) =
          let b = embeds.back r x z h k (sym (by_role q r (e x) z l) ∙ s) in
          (b.0, b.1, b.2, by_role p r x b.0 l ∙ b.3)

  -- every thing lies in the same concepts
  pub embedded : (c : Concept) (x : ℕ) → x < p.count → inside m q c (e x) ≡ inside m p c x
  embedded (atom n) x h = embeds.carries.names n x h
  embedded (neg c) x h = ap not (embedded c x h)
  embedded (conj c d) x h = ap₂ ◌&&◌ (embedded c x h) (embedded d x h)
  embedded (disj c d) x h = ap₂ ◌||◌ (embedded c x h) (embedded d x h)
  embedded (some r c) x h = go (λ y k. embedded c y k)
    where
      go : ((y : ℕ) → y < p.count → inside m q c (e y) ≡ inside m p c y) → inside m q (some r c) (e x) ≡ inside m p (some r c) x
      go same =
          same_from_decides (inside m q (some r c) (e x)) (inside m p (some r c) x) (decides_some m q r c (e x))
          (Decides-like (inside m p (some r c) x)
          (λ t. (e t.0, embeds.carries.things t.0 t.1, (related_forth r x t.0 h t.1 t.2.0, same t.0 t.1 ∙ t.2.1)))
          (λ t. let b = related_back r x t.0 h t.1 t.2.0 in
          (b.0, b.1, (b.3, sym (same b.0 b.1) ∙ (ap (inside m q c) (sym b.2) ∙ t.2.1))))
          (decides_some m p r c x))
  embedded (all r c) x h = go (λ y k. embedded c y k)
    where
      go : ((y : ℕ) → y < p.count → inside m q c (e y) ≡ inside m p c y) → inside m q (all r c) (e x) ≡ inside m p (all r c) x
      go same =
          same_from_decides (inside m q (all r c) (e x)) (inside m p (all r c) x) (decides_all m q r c (e x))
          (Decides-like (inside m p (all r c) x)
          (λ t z k s. let b = related_back r x z h k s in
          ap (inside m q c) b.2 ∙ (same b.0 b.1 ∙ t b.0 b.1 b.3))
          (λ t y k s. sym (same y k) ∙ t (e y) (embeds.carries.things y k) (related_forth r x y h k s))
          (decides_all m p r c x))
  embedded (has f) x h = defined_carried m p q e closed embeds.carries f x h
  embedded (lacks f) x h = ap not (defined_carried m p q e closed embeds.carries f x h)
  embedded (holds s u v) x h = holds_carried m p q e closed embeds.carries s u v x h
  embedded (meets u v) x h = meets_carried m p q e closed embeds.carries u v x h
  embedded (parts u v) x h = parts_carried m p q e closed embeds.carries u v x h
