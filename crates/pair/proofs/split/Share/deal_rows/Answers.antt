use Rattle.std.proofs.Common.{◌≡◌, ◌<◌, Bool, List, [], ◌∷◌, ◌++◌, length, get_or, refl, sym, ap, ◌∙◌, arith}
use Rattle.domain.proofs.Failing.{no_row}
use Rattle.domain.specs.declared.predicate.Row.{Row}
use Rattle.pair.specs.Split.{number, row_on, moved, side_rows}
use Rattle.pair.proofs.Sifting.{sifted_more, sifted_same, length_sifted_take}
use Rattle.pair.proofs.split.Share.deal_rows.Goals as goal
use Rattle.pair.proofs.split.Share.deal_rows.Goals.{then-has, else-has}

pub loop-row-init : goal.loop-row-init
unfolding side_rows
loop-row-init c = (c.requires.none, refl, refl, refl)

pub push-requires : goal.push-requires
unfolding side_rows
push-requires c =
    let few = length_sifted_take (moved c.args.self.now.places.items) (row_on (number c.args.self.now.side)) c.args.rows.now c.loop-row.row-index (omega arith) in
    let room : length c.loop-row.self.rows.items < 256 = omega (arith, few, ap length c.loop-row.invariant.0) in
    (omega arith, room)

tested : (c : goal.Joined-has) (b : Bool) → c.has.result ≡ b → row_on (number c.args.self.now.side) (get_or c.args.rows.now c.loop-row.row-index no_row) ≡ b
tested c b e = rw c.loop-row.invariant.1 at (sym c.has.ensures ∙ e)

pub loop-row-preserved : goal.loop-row-preserved
unfolding side_rows
loop-row-preserved c =
    elim c.if-has.branch [
      | then-has w ↦
          let places : w.deref.result.now ≡ c.args.self.now.places.items = rw c.loop-row.invariant.3 at w.deref.ensures.0 in
          let row : w.moved_row-moved.result ≡ moved c.args.self.now.places.items (get_or c.args.rows.now c.loop-row.row-index no_row) = rw places at w.moved_row-moved.ensures in
          rw w.self-is (
            w.push.ensures.items
                ∙ ap (λ (rs : List Row). rs ++ w.moved_row-moved.result ∷ []) c.loop-row.invariant.0
                ∙ rw row (sym (sifted_more (moved c.args.self.now.places.items) (row_on (number c.args.self.now.side)) c.args.rows.now c.loop-row.row-index no_row c.loop-row-test.true (tested c _ w.if-has.true))),
            c.loop-row.invariant.1,
            c.loop-row.invariant.2,
            c.loop-row.invariant.3,
          )
      | else-has w ↦ rw w.self-is (
        c.loop-row.invariant.0
            ∙ sym (sifted_same (moved c.args.self.now.places.items) (row_on (number c.args.self.now.side)) c.args.rows.now c.loop-row.row-index no_row c.loop-row-test.true (tested c _ w.if-has.false)),
        c.loop-row.invariant.1,
        c.loop-row.invariant.2,
        c.loop-row.invariant.3,
      )
    ]
