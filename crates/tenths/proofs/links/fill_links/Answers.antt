use Rattle.std.proofs.Common.{◌≡◌, length, take, ◌∙◌, arith, rules}
use Rattle.std.proofs.lemmas.List.{length-take-le, take_more}
use Rattle.std.proofs.lemmas.Slice.Zip.{AllZip-long, all_zipped_more}
use Rattle.domain.proofs.Failing.{no_row}
use Rattle.tenths.specs.Rows.{Stands}
use Rattle.tenths.proofs.links.fill_links.Goals as goal

pub push-requires : goal.push-requires
push-requires c =
    let front = take c.loop-row.row-index c.args.rows.now in
    let size : length c.loop-row.links.items ≡ c.loop-row.row-index = AllZip-long (Stands c.args.zero) front c.loop-row.links.items c.loop-row.invariant ∙ length-take-le c.loop-row.row-index c.args.rows.now (omega arith) in
    search rules

pub loop-row-preserved : goal.loop-row-preserved
loop-row-preserved c =
    let rows = c.args.rows.now in
    rw (take_more rows c.loop-row.row-index no_row c.loop-row-test.true, c.push.ensures.items)
    (all_zipped_more (Stands c.args.zero) (take c.loop-row.row-index rows) c.loop-row.links.items _ c.link_of.result c.loop-row.invariant c.link_of.ensures)
