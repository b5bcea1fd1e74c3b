use Rattle.std.proofs.Common.{◌≡◌, ℕ, ◌-◌, List, map, length, get_or, take, sym, ap, ◌∙◌, ap₂, arith, rules}
use Rattle.std.proofs.lemmas.List.{length-take-le}
use Rattle.concept.specs.declared.checked.Checked.{Checked}
use Rattle.concept.specs.declared.count.SignedCounts.{SignedCounts}
use Rattle.concept.specs.declared.term.Term.{Term}
use Rattle.concept.specs.declared.term.Term.TheVariants.{Atom}
use Rattle.concept.specs.Counts.{counted, counted_forms}
use Rattle.concept.specs.Held.{table_forms, root_forms}
use Rattle.concept.specs.Terms.{forms, forms_at, lower, all_lower, signed}
use Rattle.concept.proofs.Counting.{counted_length, counted_lower, counted_more, root_counted}
use Rattle.concept.proofs.checked.Checked.count.Goals as goal

all_terms : (table : Checked) (ts : List Term) → length table.terms ≡ 64 → ts ≡ take table.len table.terms → length ts ≡ table.len
all_terms table ts n e = ap length e ∙ length-take-le table.len table.terms (omega (arith, table.few))

-- the counts at the root, when all terms are counted
at_root :
    (table : Checked) (ts : List Term) (counts got : List SignedCounts) (i : ℕ) (d : SignedCounts) → length table.terms ≡ 64 → ts ≡ take table.len table.terms
    → counts ≡ map counted_forms (forms (take i ts)) → got ≡ counts → i ≡ length ts → get_or got (table.len - 1) d ≡ counted_forms (root_forms table)
unfolding table_forms
at_root table ts counts got i d n e same is end =
    let long = all_terms table ts n e in
    ap₂ (λ cs k. get_or cs (k - 1) d) is (sym long) ∙ (root_counted ts counts i same d end (omega (arith, table.some))
    ∙ (ap (λ k. counted_forms (forms_at (forms ts) (k - 1))) long ∙ ap (λ l. counted_forms (forms_at (forms l) (table.len - 1))) e))

pub term_counts-more-requires : goal.term_counts-more-requires
term_counts-more-requires c =
    let ts = c.as_slice-term-items.result.now in
    ap (λ cs. lower (length cs) (get_or ts c.loop-term.term-index (Atom 0))) c.as_slice.ensures.value
    ∙ counted_lower ts c.loop-term.counts.items c.loop-term.term-index c.loop-term.invariant (Atom 0) (omega arith) (ap (all_lower 0) c.as_slice-term-items.ensures ∙ c.args.self.now.lower)

pub push-requires : goal.push-requires
push-requires c =
    let table = c.args.self.now in
    let n : length table.terms ≡ 64 = search rules in
    let long = all_terms table _ n c.as_slice-term-items.ensures in
    let done = counted_length c.as_slice-term-items.result.now c.loop-term.counts.items c.loop-term.term-index c.loop-term.invariant (omega arith) in
    (omega arith, omega (arith, done, long, table.few))

pub loop-term-preserved : goal.loop-term-preserved
loop-term-preserved c =
    let ts = c.as_slice-term-items.result.now in
    let i = c.loop-term.term-index in
    let same = c.loop-term.invariant in
    c.push.ensures.items
    ∙ counted_more ts c.loop-term.counts.items i same (Atom 0) c.term_counts-more.result (omega arith) (c.term_counts-more.ensures (forms (take i ts)) (c.as_slice.ensures.value ∙ same))

pub bounds-as_slice-self : goal.bounds-as_slice-self
bounds-as_slice-self c =
    let table = c.args.self.now in
    let n : length table.terms ≡ 64 = search rules in
    let long = all_terms table _ n c.as_slice-term-items.ensures in
    let done = counted_length c.as_slice-term-items.result.now c.loop-term.counts.items c.loop-term.term-index c.loop-term.invariant (omega arith) in
    omega (arith, ap length c.as_slice-2.ensures.value, done, long, table.some)

pub returns-in-Plain : goal.returns-in-Plain
returns-in-Plain c =
    let table = c.args.self.now in
    let n : length table.terms ≡ 64 = search rules in
    let root = at_root table _ _ _ _ _ n c.as_slice-term-items.ensures c.loop-term.invariant c.as_slice-2.ensures.value (omega arith) in
    ap (λ (s : SignedCounts). s.plain) root ∙ ap (λ s. counted (signed s (root_forms table))) (sym c.in-Plain.is)

pub returns-in-Negated : goal.returns-in-Negated
returns-in-Negated c =
    let table = c.args.self.now in
    let n : length table.terms ≡ 64 = search rules in
    let root = at_root table _ _ _ _ _ n c.as_slice-term-items.ensures c.loop-term.invariant c.as_slice-2.ensures.value (omega arith) in
    ap (λ (s : SignedCounts). s.turned) root ∙ ap (λ s. counted (signed s (root_forms table))) (sym c.in-Negated.is)
