use Rattle.std.proofs.Common.{◌≡◌, rules}
use Rattle.limit_list.specs.Spelling.{told, reads, placed}
use Rattle.limit_list.proofs.Lines.{what_told}
use Rattle.limit_list.proofs.parse.parse_line.Goals as goal

pub returns : goal.returns
returns c =
    let read : told c.map_err.result ≡ placed c.args.number c.args.line.now (reads c.args.line.now) = search rules in
    let all = what_told c.args.number c.args.line.now c.map_err.result read in
    record { read = read; spelt = all.spelt; fitting = all.fitting; inside = all.inside }
