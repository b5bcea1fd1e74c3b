use Rattle.std.proofs.Common.{length, refl, sym, subst, rules}
use Rattle.std.proofs.lemmas.List.{take_at, drop_at}
use Rattle.domain.specs.Solving.{Chosen}
use Rattle.marks.specs.Marks.{marks}
use Rattle.marks.proofs.Solving.{accepted_ready, chosen_allowed, allowed_chosen}
use Rattle.marks.proofs.solve.solve_rows.Goals as goal

pub invariant_of-ready : goal.invariant_of-ready
invariant_of-ready c = record {
  ready = accepted_ready c.args.kinds.now c.args.rows.now (length c.args.values.now) c.requires.accepted;
  few = c.requires.accepted.few_rows;
}

pub returns-in-None : goal.returns-in-None
returns-in-None c = (
  c.requires.admitted,
  (λ vs ch. c.in-None.ensures _ (chosen_allowed c.args.kinds.now c.args.rows.now (length c.args.values.now) c.requires.accepted c.allow-sets.result c.allow-sets.ensures vs ch)),
  refl,
)

pub returns-in-Some : goal.returns-in-Some
returns-in-Some c = (
  c.requires.admitted,
  subst (Chosen marks c.args.kinds.now c.args.rows.now) (sym (take_at c.write_values.new.values _ _ (search rules)))
      (allowed_chosen c.args.kinds.now c.args.rows.now (length c.args.values.now) c.requires.accepted c.allow-sets.result c.allow-sets.ensures
      c.in-Some.choice c.in-Some.ensures c.write_values.new.values (search rules) (λ v l. c.write_values.ensures v (search rules))),
  drop_at c.write_values.new.values _ _ (search rules),
)
