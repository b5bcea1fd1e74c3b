use Rattle.std.proofs.Common.{◌≡◌, ◌+◌, ◌-◌, ◌≤◌, min, length, set, ◌∙◌, arith, rules}
use Rattle.std.proofs.lemmas.List.{length-set}
use Rattle.std.proofs.lemmas.List.Elements.{All-contains, All-set}
use Rattle.arrayvec.proofs.ArrayVecLemmas.{items-with_items}
use Rattle.tenths.specs.Differences.{at, Fair}
use Rattle.tenths.proofs.Settling.{raised_under}
use Rattle.tenths.proofs.relax.Relaxation.relax.Goals as goal

pub invariant_of-self : goal.invariant_of-self
invariant_of-self c =
    let before = c.args.self.now in
    let link = c.args.link in
    let ds = before.bounds.items in
    let fair : Fair (length ds) link = All-contains (Fair (length ds)) before.links.now link before.fair c.requires in
    let raised = min 65536 (at ds link.tail + link.weight - 131072) in
    let written : set c.deref_mut.result.now link.head c.min.result ≡ set ds link.head raised = search rules in
    let size : length (set ds link.head raised) ≡ length ds = length-set ds link.head raised in
    let is = items-with_items before.bounds (set c.deref_mut.result.now link.head c.min.result) (rw written size) ∙ written in
    rw is (record {
      low = All-set (λ b. b ≤ 65536) ds link.head raised (omega arith) before.low;
      some = rw size before.some;
      fair = rw size before.fair;
      under = rw size (raised_under before.links.now ds link fair c.requires before.under);
    })
