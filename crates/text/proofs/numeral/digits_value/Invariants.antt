-- What is left of the digits goes on from n.
use Rattle.std.proofs.Common.{◌≡◌, ◌<◌, ◌^◌, drop, fold}
use Rattle.text.specs.Numerals.{value}
use Rattle.text.proofs.Numerals.{shift}
use Rattle.text.proofs.numeral.digits_value.Given as goal

abbrev pub invariant-loop-d : goal.invariant-loop-d
invariant-loop-d l = (l.n < 2 ^ 64) × (fold shift l.n (drop l.d-index l.digits) ≡ value l.digits)
