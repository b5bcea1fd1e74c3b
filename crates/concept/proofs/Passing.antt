-- A table without a fault: its terms name lower places only, and stand for the normal forms of its concepts, which are
-- well-formed.
use Rattle.std.proofs.Common.{◌≡◌, ℕ, zero, suc, ◌+◌, ◌-◌, ◌<◌, ◌≤◌, Bool, true, false, cond, ◌&&◌, ◌||◌, eqb, ltb, ◌⊎◌, List, [], ◌∷◌, ◌++◌, map, length, take, ℤ, Some, None, Option, sym, refl, ap, ◌∙◌, subst, ap₂, inl, inr, arith}
use Rattle.std.proofs.lemmas.List.{length_push, get_or_append_left, get_or_push}
use Rattle.std.proofs.lemmas.Bool.{and_parts, and_from, or_cases, or_left, or_right, ltb-true, eqb-true, eq-eqb, ne_eqb, cases_eq, cases_lt}
use Rattle.domain.specs.declared.predicate.Predicate.{Predicate}
use Rattle.domain.specs.Meaning.{Meaning, Lawful}
use Rattle.concept.specs.declared.checked.Checked.{Checked}
use Rattle.concept.specs.declared.fault.PredicateFault.{PredicateFault}
use Rattle.concept.specs.declared.fault.TableFault.{TableFault}
use Rattle.concept.specs.declared.fault.TableFault.TheVariants.{Broken}
use Rattle.concept.specs.declared.node.Chain.{Chain}
use Rattle.concept.specs.declared.node.Node.{Node}
use Rattle.concept.specs.Concepts.{Concept, value_chain, link_chain, end_kind, leads_to_kind, is_empty, fitting, formed}
use Rattle.concept.specs.Concepts.Concept.{atom, conj, disj, some, all}
use Rattle.concept.specs.Chains.{steps, zeros_follow, no_chain, to_thing, to_value}
use Rattle.concept.specs.Growing.{grow}
use Rattle.concept.specs.Normal.{normal, negated}
use Rattle.concept.specs.Tables.{below_at, reads, concepts, concept_of, predicate_at, whole, misfit, unfit, unfit_at, node_fault, or_else, first_fault, length_fits}
use Rattle.concept.specs.Terms.{Forms, forms, forms_at, term_forms, lower, all_lower}
use Rattle.concept.specs.Checking.{root_forms, Passes}
use Rattle.concept.specs.Translating.{term_of}
use Rattle.concept.proofs.Agreement.{agreement}
use Rattle.concept.proofs.Growing.{length_grow}
use Rattle.concept.proofs.Refusing.{some_nodes, of_the_nodes}

-- the forms of nodes
data Form : ℕ → Type 0 where
  form_1 : Form 1
  form_2 : Form 2
  form_3 : Form 3
  form_4 : Form 4
  form_5 : Form 5
  form_6 : Form 6
  form_7 : Form 7
  form_8 : Form 8
  form_9 : Form 9
  form_10 : Form 10
  form_11 : Form 11

at_form : (f k : ℕ) → Form k → ((f ≡ k → ⊥) → Form f) → Form f
at_form f k here other = elim (cases_eq f k) [ inl e ↦ subst Form (sym e) here | inr h ↦ other h ]

form_of : (kinds : List ℕ) (i : ℕ) (n : Node) → whole kinds i n ≡ true → Form n.form
form_of kinds i n w =
    let f : ℕ = n.form in
    at_form f 1 form_1 (λ h1. at_form f 2 form_2 (λ h2. at_form f 3 form_3 (λ h3. at_form f 4 form_4 (λ h4. at_form f 5 form_5 (λ h5.
    at_form f 6 form_6 (λ h6. at_form f 7 form_7 (λ h7. at_form f 8 form_8 (λ h8. at_form f 9 form_9 (λ h9. at_form f 10 form_10 (λ h10.
    at_form f 11 form_11 (λ h11.
    let z : ◌≡◌ {A = ℕ} 0 1 = cc (rw (
      ne_eqb f 1 h1,
      ne_eqb f 2 h2,
      ne_eqb f 3 h3,
      ne_eqb f 4 h4,
      ne_eqb f 5 h5,
      ne_eqb f 6 h6,
      ne_eqb f 7 h7,
      ne_eqb f 8 h8,
      ne_eqb f 9 h9,
      ne_eqb f 10 h10,
      ne_eqb f 11 h11,
    ) at w) in
    absurd (omega arith))))))))))))

-- a node of a form
abbrev node : ℕ → ℕ → ℕ → ℕ → Chain → Chain → ℕ → ℤ → ℕ → Node
node name left right relation u v predicate constant form = record {
  form = form;
  name = name;
  left = left;
  right = right;
  relation = relation;
  u = u;
  v = v;
  predicate = predicate;
  constant = constant;
}

-- a concept, and the forms that stand for it
record Stands (m : Meaning) (kinds : List ℕ) (c : Concept) (f : Forms) : Type 0 where
  plain : f.plain ≡ normal m c
  turned : f.turned ≡ negated m c
  well_formed : formed m kinds c ≡ true

record Alike (m : Meaning) (kinds : List ℕ) (cs : List Concept) (fs : List Forms) : Type 0 where
  as_long : length fs ≡ length cs
  each : (i : ℕ) → i < length cs → Stands m kinds (below_at cs i) (forms_at fs i)

-- a known predicate that is not unfit has arity 1 beside one chain and arity 2 beside two
arity_cases :
    {E : Type 0} (x y z : E) (a : ℕ) (lone : Bool) → a ≤ 2
    → cond (eqb a 0) (Some x) (cond (eqb a 1) (cond lone None (Some y)) (cond lone (Some z) None)) ≡ None
    → ((a ≡ 1) × (lone ≡ true)) ⊎ ((a ≡ 2) × (lone ≡ false))
arity_cases x y z zero lone h e = let w : ◌≡◌ {A = ℕ} 0 1 = cc in absurd (omega arith)
arity_cases x y z (suc zero) true h e = inl (refl, refl)
arity_cases x y z (suc zero) false h e = let w : ◌≡◌ {A = ℕ} 0 1 = cc in absurd (omega arith)
arity_cases x y z (suc (suc zero)) true h e = let w : ◌≡◌ {A = ℕ} 0 1 = cc in absurd (omega arith)
arity_cases x y z (suc (suc zero)) false h e = inr (refl, refl)
arity_cases x y z (suc (suc (suc a))) lone h e = absurd (omega arith)

links_from : (u v : Chain) → (to_thing u && to_thing v) ≡ true → (link_chain (steps u) && link_chain (steps v)) ≡ true
links_from u v w =
    let h = and_parts (to_thing u) (to_thing v) w in
    and_from (link_chain (steps u)) (link_chain (steps v)) (and_parts (zeros_follow u) _ h.0).1 (and_parts (zeros_follow v) _ h.1).1

-- a node without a fault
sound_node : (i : ℕ) (b : Bool) (o : Option PredicateFault) → cond b (unfit_at i o) (Some (Broken i)) ≡ None → (b ≡ true) × (o ≡ None)
sound_node i true None e = (refl, refl)
sound_node i true (Some x) e = let w : ◌≡◌ {A = ℕ} 0 1 = cc in absurd (omega arith)
sound_node i false o e = let w : ◌≡◌ {A = ℕ} 0 1 = cc in absurd (omega arith)

both_none : (o next : Option TableFault) → or_else o next ≡ None → (o ≡ None) × (next ≡ None)
both_none None next e = (refl, e)
both_none (Some x) next e = let w : ◌≡◌ {A = ℕ} 0 1 = cc in absurd (omega arith)

-- every term names lower places only
module _ (m : Meaning) (kinds : List ℕ) where
  module _ (name left right relation : ℕ) (u v : Chain) (predicate : ℕ) (constant : ℤ) where
    lower_of :
        (i : ℕ) {f : ℕ} → Form f → whole kinds i (node name left right relation u v predicate constant f) ≡ true
        → lower i (term_of m kinds (node name left right relation u v predicate constant f)) ≡ true
    lower_of i form_1 w = refl
    lower_of i form_2 w = w
    lower_of i form_3 w = w
    lower_of i form_4 w = w
    lower_of i form_5 w = (and_parts _ _ w).1
    lower_of i form_6 w = (and_parts _ _ w).1
    lower_of i form_7 w = refl
    lower_of i form_8 w = refl
    lower_of i form_9 w = refl
    lower_of i form_10 w = refl
    lower_of i form_11 w = refl

  node_lower : (i : ℕ) (n : Node) → node_fault m kinds i n ≡ None → lower i (term_of m kinds n) ≡ true
  node_lower i n e =
      let h = sound_node i (whole kinds i n) (unfit m kinds n) e in
      lower_of n.name n.left n.right n.relation n.u n.v n.predicate n.constant i (form_of kinds i n h.0) h.0

  pub lower_grown : (i : ℕ) (ns : List Node) → first_fault m kinds i ns ≡ None → all_lower i (map (term_of m kinds) ns) ≡ true
  lower_grown i [] e = refl
  lower_grown i (n ∷ ns) e =
      let h = both_none (node_fault m kinds i n) (first_fault m kinds (i + 1) ns) e in
      and_from _ _ (node_lower i n h.0) (lower_grown (i + 1) ns h.1)

module _ (m : Meaning) (kinds : List ℕ) (few : (p : Predicate) → m.arity p ≤ 2) where
  fitting_from :
      (p : Predicate) (u v : List ℕ) → leads_to_kind kinds p.kind u ≡ true → (is_empty v ≡ true) ⊎ (leads_to_kind kinds p.kind v ≡ true)
      → misfit m p (is_empty v) ≡ None → fitting m kinds p u v ≡ true
  fitting_from p u v h chains e = and_from _ _ h (go (arity_cases _ _ _ (m.arity p) (is_empty v) (few p) e) chains)
    where
      go : ((m.arity p ≡ 1) × (is_empty v ≡ true)) ⊎ ((m.arity p ≡ 2) × (is_empty v ≡ false))
          → (is_empty v ≡ true) ⊎ (leads_to_kind kinds p.kind v ≡ true)
          → ((eqb (m.arity p) 1 && is_empty v) || (eqb (m.arity p) 2 && leads_to_kind kinds p.kind v)) ≡ true
      go (inl one) q = or_left _ _ (and_from _ _ (eq-eqb _ 1 one.0) one.1)
      go (inr two) (inl none) = let w : ◌≡◌ {A = ℕ} 0 1 = cc in absurd (omega arith)
      go (inr two) (inr leads) = or_right _ _ (and_from _ _ (eq-eqb _ 2 two.0) leads)

  -- the chains of a holds node that is not broken
  chains_from :
      (u v : Chain)
      → (to_value u && (no_chain v || (to_value v && eqb (end_kind kinds (steps u)) (end_kind kinds (steps v))))) ≡ true
      → (leads_to_kind kinds (end_kind kinds (steps u)) (steps u) ≡ true)
      × ((is_empty (steps v) ≡ true) ⊎ (leads_to_kind kinds (end_kind kinds (steps u)) (steps v) ≡ true))
  chains_from u v w =
      let k : ℕ = end_kind kinds (steps u) in
      (and_from (value_chain (steps u)) (eqb k k) (and_parts (zeros_follow u) _ both.0).1 (eq-eqb k k refl), go (or_cases _ _ both.1))
    where
      both : (to_value u ≡ true) × ((no_chain v || (to_value v && eqb (end_kind kinds (steps u)) (end_kind kinds (steps v)))) ≡ true)
      both = and_parts _ _ w

      go : (no_chain v ≡ true) ⊎ ((to_value v && eqb (end_kind kinds (steps u)) (end_kind kinds (steps v))) ≡ true)
          → (is_empty (steps v) ≡ true) ⊎ (leads_to_kind kinds (end_kind kinds (steps u)) (steps v) ≡ true)
      go (inl none) = inl (and_parts (zeros_follow v) (is_empty (steps v)) none).1
      go (inr q) =
          let k : ℕ = end_kind kinds (steps u) in
          let l : ℕ = end_kind kinds (steps v) in
          let p = and_parts (to_value v) (eqb k l) q in
          inr (and_from (value_chain (steps v)) (eqb l k) (and_parts (zeros_follow v) _ p.0).1 (eq-eqb l k (sym (eqb-true k l p.1))))

  module _ (name left right relation : ℕ) (u v : Chain) (predicate : ℕ) (constant : ℤ) where
    module _ (cs : List Concept) (fs : List Forms) (below : Alike m kinds cs fs) where
      at_left : ltb left (length cs) ≡ true → Stands m kinds (below_at cs left) (forms_at fs left)
      at_left h = below.each left (ltb-true _ _ h)

      at_right : ltb right (length cs) ≡ true → Stands m kinds (below_at cs right) (forms_at fs right)
      at_right h = below.each right (ltb-true _ _ h)

      stands_for :
          {f : ℕ} → Form f → whole kinds (length cs) (node name left right relation u v predicate constant f) ≡ true
          → unfit m kinds (node name left right relation u v predicate constant f) ≡ None
          → Stands m kinds (reads kinds cs (node name left right relation u v predicate constant f))
          (term_forms fs (term_of m kinds (node name left right relation u v predicate constant f)))
      stands_for form_1 w e = record { plain = refl; turned = refl; well_formed = w }
      stands_for form_2 w e = let l = at_left w in record { plain = l.turned; turned = l.plain; well_formed = l.well_formed }
      stands_for form_3 w e =
          let h = and_parts _ _ w in
          let l = at_left h.0 in
          let r = at_right h.1 in
          record { plain = ap₂ conj l.plain r.plain; turned = ap₂ disj l.turned r.turned; well_formed = and_from _ _ l.well_formed r.well_formed }
      stands_for form_4 w e =
          let h = and_parts _ _ w in
          let l = at_left h.0 in
          let r = at_right h.1 in
          record { plain = ap₂ disj l.plain r.plain; turned = ap₂ conj l.turned r.turned; well_formed = and_from _ _ l.well_formed r.well_formed }
      stands_for form_5 w e =
          let h = and_parts _ _ w in
          let l = at_left h.1 in
          record { plain = ap (some relation) l.plain; turned = ap (all relation) l.turned; well_formed = and_from _ _ h.0 l.well_formed }
      stands_for form_6 w e =
          let h = and_parts _ _ w in
          let l = at_left h.1 in
          record { plain = ap (all relation) l.plain; turned = ap (some relation) l.turned; well_formed = and_from _ _ h.0 l.well_formed }
      stands_for form_7 w e = record { plain = refl; turned = refl; well_formed = w }
      stands_for form_8 w e = record { plain = refl; turned = refl; well_formed = w }
      stands_for form_9 w e =
          let h = chains_from u v w in
          let p : Predicate = predicate_at kinds (node name left right relation u v predicate constant 9) in
          record { plain = refl; turned = refl; well_formed = fitting_from p (steps u) (steps v) h.0 h.1 e }
      stands_for form_10 w e = record { plain = refl; turned = refl; well_formed = links_from u v w }
      stands_for form_11 w e = record { plain = refl; turned = refl; well_formed = links_from u v w }

  -- one more concept, with its forms
  alike_push :
      (cs : List Concept) (fs : List Forms) (c : Concept) (f : Forms) → Alike m kinds cs fs → Stands m kinds c f
      → Alike m kinds (cs ++ (c ∷ [])) (fs ++ (f ∷ []))
  alike_push cs fs c f below new = record { as_long = longer; each = λ i h. go i (cases_lt i (length cs)) h }
    where
      longer : length (fs ++ (f ∷ [])) ≡ length (cs ++ (c ∷ []))
      longer = length_push fs f ∙ (ap (λ k. k + 1) below.as_long ∙ sym (length_push cs c))

      go : (i : ℕ) → (i < length cs) ⊎ (length cs ≤ i) → i < length (cs ++ (c ∷ [])) → Stands m kinds (below_at (cs ++ (c ∷ [])) i) (forms_at (fs ++ (f ∷ [])) i)
      go i (inl h) _ =
          let k : i < length fs = rw below.as_long h in
          rw (get_or_append_left cs (c ∷ []) (atom 0) i h, get_or_append_left fs (f ∷ []) (record { plain = atom 0; turned = atom 0 }) i k) (below.each i h)
      go i (inr h) lt =
          let here : length cs ≡ i = omega (arith, length_push cs c) in
          let here' : length fs ≡ i = below.as_long ∙ here in
          rw (get_or_push cs c (atom 0) i here, get_or_push fs f (record { plain = atom 0; turned = atom 0 }) i here') new

  node_stands :
      (cs : List Concept) (fs : List Forms) → Alike m kinds cs fs → (n : Node) → node_fault m kinds (length cs) n ≡ None
      → Stands m kinds (reads kinds cs n) (term_forms fs (term_of m kinds n))
  node_stands cs fs below n e =
      let h = sound_node (length cs) (whole kinds (length cs) n) (unfit m kinds n) e in
      stands_for n.name n.left n.right n.relation n.u n.v n.predicate n.constant cs fs below
      (form_of kinds (length cs) n h.0) h.0 h.1

  -- place by place, along a table
  alike_grown :
      (cs : List Concept) (fs : List Forms) → Alike m kinds cs fs → (ns : List Node) (i : ℕ) → length cs ≡ i → first_fault m kinds i ns ≡ None
      → Alike m kinds (grow (reads kinds) cs ns) (grow term_forms fs (map (term_of m kinds) ns))
  alike_grown cs fs below [] i q e = below
  alike_grown cs fs below (n ∷ ns) i q e =
      let h = both_none (node_fault m kinds i n) (first_fault m kinds (i + 1) ns) e in
      let e' : node_fault m kinds (length cs) n ≡ None = ap (λ k. node_fault m kinds k n) q ∙ h.0 in
      alike_grown (cs ++ (reads kinds cs n ∷ [])) (fs ++ (term_forms fs (term_of m kinds n) ∷ []))
      (alike_push cs fs (reads kinds cs n) (term_forms fs (term_of m kinds n)) below (node_stands cs fs below n e'))
      ns (i + 1) (length_push cs (reads kinds cs n) ∙ ap (λ k. k + 1) q) h.1

  root_stands :
      (table : List Node) → 0 < length table → first_fault m kinds 0 table ≡ None
      → Stands m kinds (concept_of kinds table) (forms_at (forms (map (term_of m kinds) table)) (length table - 1))
  root_stands table h e =
      let long = length_grow (reads kinds) [] table in
      let lt : length table - 1 < length (concepts kinds table) = omega arith in
      (alike_grown [] [] (record { as_long = refl; each = λ i h. absurd (omega arith) }) table 0 refl e).each (length table - 1) lt

-- a table whose nodes have no fault passes, with the terms of its nodes
pub passes :
    (m : Meaning) → Lawful m → (kinds : List ℕ) (table : List Node) (checked : Checked) → true ≡ length_fits (length table) → checked.len ≡ length table
    → take checked.len checked.terms ≡ map (term_of m kinds) table → first_fault m kinds 0 table ≡ None → Passes m kinds table checked
passes m lawful kinds table checked fits long terms e =
    let root = root_stands m kinds lawful.arities table (some_nodes (length table) fits) e in
    let same : root_forms checked ≡ forms_at (forms (map (term_of m kinds) table)) (length table - 1)
    = ap₂ (λ ts i. forms_at (forms ts) (i - 1)) terms long in
    record {
      unrefused = of_the_nodes m kinds table fits ∙ e;
      well_formed = root.well_formed;
      plain = ap (λ f. f.plain) same ∙ root.plain;
      turned = ap (λ f. f.turned) same ∙ root.turned;
      agrees = agreement m lawful kinds (concept_of kinds table) root.well_formed;
    }
