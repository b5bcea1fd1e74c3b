use Rattle.std.proofs.Common.{rules}
use Rattle.limit_list.proofs.Choosing.{chosen_all}
use Rattle.limit_list.proofs.answering.answer.Goals as goal

pub returns-in-Solved : goal.returns-in-Solved
returns-in-Solved g c =
    record {
      answered = chosen_all (g.D.Domain.meaning c.args.domain.now) c.as_slice.result.now _ c.as_slice-2.result.now _ c.as_mut_slice.result.now c.solve.new.values c.in_ok-values.values.items c.in_ok-values.values.len
          c.in_ok-outcome.outcome c.in-Solved.is c.in_ok-outcome.ensures.answer c.as_slice.ensures.value c.as_slice-2.ensures.value (search rules) (search rules);
      meant = c.in_ok-outcome.ensures.meant;
    }
