-- Every normal form has a node, no more of its nodes ask for values than it has, and no path is longer.
use Rattle.std.proofs.Common.{◌≡◌, ℕ, ◌*◌, ◌≤◌, Bool, true, false, cond, eqb, leb, sym, ap, ◌∙◌, mul-le-mul, arith}
use Rattle.std.proofs.lemmas.Bool.{and_from, eq-eqb}
use Rattle.concept.specs.declared.count.Counts.{Counts}
use Rattle.concept.specs.Concepts.{Concept}
use Rattle.concept.specs.Concepts.Concept.{atom, neg, conj, disj, some, all, has, lacks, holds, meets, parts}
use Rattle.concept.specs.Counts.{counted}
use Rattle.concept.specs.Normal.{nodes, valued_nodes, role_depth}
use Rattle.sheet.specs.Layout.{weighs}

pub some_node : (c : Concept) → 1 ≤ nodes c
some_node (atom n) = omega arith
some_node (neg c) = some_node c
some_node (conj c d) = omega arith
some_node (disj c d) = omega arith
some_node (some r c) = omega arith
some_node (all r c) = omega arith
some_node (has f) = omega arith
some_node (lacks f) = omega arith
some_node (holds p u v) = omega arith
some_node (meets u v) = omega arith
some_node (parts u v) = omega arith

pub few_valued : (c : Concept) → valued_nodes c ≤ nodes c
few_valued (atom n) = omega arith
few_valued (neg c) = few_valued c
few_valued (conj c d) = omega (arith, few_valued c, few_valued d)
few_valued (disj c d) = omega (arith, few_valued c, few_valued d)
few_valued (some r c) = omega (arith, few_valued c)
few_valued (all r c) = omega (arith, few_valued c)
few_valued (has f) = omega arith
few_valued (lacks f) = omega arith
few_valued (holds p u v) = omega arith
few_valued (meets u v) = omega arith
few_valued (parts u v) = omega arith

step_le : (b : Bool) → cond b 1 0 ≤ 1
step_le true = omega arith
step_le false = omega arith

pub short_paths : (c : Concept) → role_depth c ≤ nodes c
short_paths (atom n) = omega arith
short_paths (neg c) = short_paths c
short_paths (conj c d) = omega (arith, short_paths c, short_paths d)
short_paths (disj c d) = omega (arith, short_paths c, short_paths d)
short_paths (some r c) = omega (arith, short_paths c, step_le (leb 256 r))
short_paths (all r c) = omega (arith, short_paths c, step_le (leb 256 r))
short_paths (has f) = omega arith
short_paths (lacks f) = omega arith
short_paths (holds p u v) = omega arith
short_paths (meets u v) = omega arith
short_paths (parts u v) = omega arith

-- where there are few nodes, nothing was cut off in counting
pub counted_right : (c : Concept) (w : Counts) → w ≡ counted c → nodes c ≤ 256 → (w.nodes ≡ nodes c) × ((w.valued ≡ valued_nodes c) × (weighs c w ≡ true))
counted_right c w e h =
    let n : w.nodes ≡ nodes c = ap (λ (a : Counts). a.nodes) e ∙ omega arith in
    let v : w.valued ≡ valued_nodes c = ap (λ (a : Counts). a.valued) e ∙ omega (arith, few_valued c) in
    let d : w.depth ≡ role_depth c = ap (λ (a : Counts). a.depth) e ∙ omega (arith, short_paths c) in (
      n,
      (
        v,
        and_from (eqb (nodes c) w.nodes) _ (eq-eqb _ _ (sym n))
            (and_from (eqb (valued_nodes c) w.valued) (eqb (role_depth c) w.depth) (eq-eqb _ _ (sym v)) (eq-eqb _ _ (sym d))),
      ),
    )

pub product_small : (m a : ℕ) → m ≤ 16 → a ≤ 512 → m * a ≤ 8192
product_small m a h k = mul-le-mul h k
