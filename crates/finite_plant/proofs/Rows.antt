-- Rows of answers: one for each place, in it one answer for each thing.
use Rattle.std.proofs.Common.{◌≡◌, ℕ, ◌+◌, ◌-◌, ◌<◌, ◌≤◌, Bool, List, [], ◌∷◌, ◌++◌, length, get_or, take, Option, sym, refl, ap, ◌∙◌, subst, ⊎_elim, arith}
use Rattle.std.proofs.lemmas.List.{get_or_past, length-take-le, take_more, take_all}
use Rattle.std.proofs.lemmas.Option.{slice_get-get_or, slice_get_past}
use Rattle.std.specs.Prelude.{MatchOption, slice_get}
use Rattle.std.proofs.lemmas.Bool.{cases_lt, cond_below, cond_above}
use Rattle.domain.specs.Meaning.{Meaning}
use Rattle.concept.specs.declared.node.Node.{Node}
use Rattle.concept.specs.Concepts.{Concept}
use Rattle.concept.specs.Concepts.Concept.{atom}
use Rattle.concept.specs.Plants.{Plant, inside}
use Rattle.concept.specs.Tables.{below_at, concept_of, concepts, reads}
use Rattle.concept.proofs.Growing.{grow_push, length_grow}
use Rattle.finite_plant.specs.declared.plant.FinitePlant.{FinitePlant}
use Rattle.finite_plant.specs.Data.{plant_of}
use Rattle.finite_plant.specs.Answers.{told_at, Told, Members}

module _ (m : Meaning) (plant : Plant) where
  -- what is told at a place
  pub told_right : (cs : List Concept) (rows : List (List Bool)) → Told m plant cs rows → (i x : ℕ) → x < plant.count → told_at plant rows i x ≡ inside m plant (below_at cs i) x
  told_right cs rows t i x low =
      ⊎_elim (λ h. sym (cond_below i (length rows) _ _ h) ∙ t.right i (omega (arith, t.each)) x low)
      (λ h. sym (cond_above i (length rows) _ _ _ h refl) ∙ ap (λ c. inside m plant c x) (sym (get_or_past cs i (atom 0) (omega (arith, t.each)))))
      (cases_lt i (length rows))

module _ (m : Meaning) (plant : Plant) (kinds : List ℕ) (table : List Node) where
  module _ (i : ℕ) (rows : List (List Bool)) (t : Told m plant (concepts kinds (take i table)) rows) where
    pub told_length : i ≤ length table → length rows ≡ i
    told_length h = t.each ∙ (length_grow (reads kinds) [] (take i table) ∙ omega (arith, length-take-le i table h))

    -- the row of the root
    root_row : length table ≤ i → 0 < length table → Members m plant (concept_of kinds table) (get_or rows (length table - 1) [])
    root_row e some =
        let whole : Told m plant (concepts kinds table) rows = subst (λ ns. Told m plant (concepts kinds ns) rows) (take_all i table e) t in
        whole.right (length table - 1) (omega (arith, length_grow (reads kinds) [] table))

    pub last_row : i ≡ length table → (o : Option (List Bool)) → o ≡ slice_get rows (length rows - 1) → MatchOption o (length table ≡ 0) (Members m plant (concept_of kinds table))
    last_row end o e =
        let long : length rows ≡ length table = told_length (omega arith) ∙ end in
        ⊎_elim (λ h. subst (λ r. MatchOption r (length table ≡ 0) (Members m plant (concept_of kinds table))) (sym (e ∙ slice_get-get_or rows (length rows - 1) [] (omega arith)))
        (subst (λ k. Members m plant (concept_of kinds table) (get_or rows (k - 1) [])) (sym long) (root_row (omega arith) (omega arith))))
        (λ h. subst (λ r. MatchOption r (length table ≡ 0) (Members m plant (concept_of kinds table))) (sym (e ∙ slice_get_past rows (length rows - 1) (omega arith))) (omega arith))
        (cases_lt 0 (length rows))

-- the row of one node more, where what is asked stays as it was
pub told_more :
    {A : Type 0} (meaning : A → Meaning) {a b : A} {kinds now : List ℕ} {p q : FinitePlant} → b ≡ a → now ≡ kinds → q ≡ p → (table : List Node) (i : ℕ) (d : Node) (rows more : List (List Bool))
    → i < length table → Told (meaning a) (plant_of p) (concepts kinds (take i table)) rows
    → ((cs : List Concept) → Told (meaning b) (plant_of q) cs rows → Told (meaning b) (plant_of q) (cs ++ (reads now cs (get_or table i d) ∷ [])) more)
    → Told (meaning a) (plant_of p) (concepts kinds (take (i + 1) table)) more
told_more meaning {a} {b} {kinds} {now} {p} {q} same_domain same_kinds same_plant table i d rows more h t step =
    let cs = concepts kinds (take i table) in
    let new = get_or table i d in
    let here = subst (λ x. Told (meaning x) (plant_of q) cs rows) (sym same_domain) (subst (λ x. Told (meaning a) (plant_of x) cs rows) (sym same_plant) t) in
    let next = subst (λ x. Told (meaning x) (plant_of q) (cs ++ (reads now cs new ∷ [])) more) same_domain (step cs here) in
    let read = subst (λ x. Told (meaning a) (plant_of x) (cs ++ (reads now cs new ∷ [])) more) same_plant next in
    subst (λ l. Told (meaning a) (plant_of p) l more)
    (ap (λ k. cs ++ (reads k cs new ∷ [])) same_kinds ∙ sym (ap (concepts kinds) (take_more table i d h) ∙ grow_push (reads kinds) [] (take i table) new))
    read
