use Rattle.std.proofs.Common.{rules}
use Rattle.text.specs.Lines.{lines, left_in}
use Rattle.concept_text.proofs.Lines.{lines_few, next_line}
use Rattle.concept_text.proofs.read.read_sheet.Goals as goal

pub loop-place-init : goal.loop-place-init
loop-place-init c =
    let few = lines_few c.args.text.now in
    search rules

pub loop-place-preserved : goal.loop-place-preserved
loop-place-preserved c =
    let next = next_line c.loop-place.place-iterator.count (lines c.args.text.now) (left_in c.next.new.self.iter) c.in-Some.line.now (search rules) in
    search rules
