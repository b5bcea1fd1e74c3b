use Rattle.std.proofs.Common.{refl, ap}
use Rattle.concept.specs.declared.count.SignedCounts.{SignedCounts}
use Rattle.concept.specs.Chains.{steps}
use Rattle.concept.specs.Concepts.Concept.{parts}
use Rattle.concept.specs.Terms.{forms_at, nowhere}
use Rattle.concept.proofs.Counting.{lower_two, read_counts, two_counted, met_counted}
use Rattle.concept.proofs.count.term_counts.Goals as goal

pub returns-in-And : goal.returns-in-And
returns-in-And c = λ fs same.
    let l = c.in-And.left in
    let r = c.in-And.right in
    let low = lower_two _ _ c.requires l r c.in-And.is in
    let left = read_counts _ fs same l _ low.0 in
    let right = read_counts _ fs same r _ low.1 in
    two_counted fs c.args.term _ _ l r c.in-And.is
    (c.joined.ensures (forms_at fs l).plain (forms_at fs r).plain (ap (λ (s : SignedCounts). s.plain) left) (ap (λ (s : SignedCounts). s.plain) right))
    (c.joined-in-And.ensures (forms_at fs l).turned (forms_at fs r).turned (ap (λ (s : SignedCounts). s.turned) left) (ap (λ (s : SignedCounts). s.turned) right))

pub returns-in-Meets : goal.returns-in-Meets
returns-in-Meets c = λ fs same.
    let u = c.in-Meets.u in
    let v = c.in-Meets.v in
    met_counted fs c.args.term u v _ c.in-Meets.is c.or_nowhere-in-Meets.ensures.plain
    (c.or_nowhere-in-Meets.ensures.turned (parts (steps u) (steps v)) (nowhere u v) refl c.nowhere_counts-in-Meets.ensures)
