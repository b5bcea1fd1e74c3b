use Rattle.std.proofs.Common.{◌≡◌, ℕ, ◌<◌, length, List, ◌++◌, get_or, map, drop, ℤ, pos, sym, ap, ◌∙◌, arith}
use Rattle.std.proofs.lemmas.List.{get_or-map, length-map}
use Rattle.std.proofs.lemmas.List.Prefix.{front_from_reads}
use Rattle.tenths.specs.Rows.{value}
use Rattle.tenths.proofs.choose.write_values.Goals as goal

pub returns : goal.returns
returns c =
    let bounds = c.args.bounds.now in
    let size : length (map value bounds) ≡ length bounds = length-map bounds value in
    let written : (x : ℕ) → x < length (map value bounds) → get_or c.loop-i.values x (pos 0) ≡ get_or (map value bounds) x (pos 0) =
    λ x h. c.loop-i.invariant.0 x (omega arith) ∙ sym (get_or-map value bounds x 0 (pos 0) (omega arith)) in
    let front = front_from_reads (pos 0) c.loop-i.values (map value bounds) (omega arith) written in
    let whole : c.loop-i.values ≡ map value bounds ++ drop (length bounds) c.loop-i.values = rw size at front in
    whole ∙ ap (λ (xs : List ℤ). map value bounds ++ xs) c.loop-i.invariant.1
