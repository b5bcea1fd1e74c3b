use Rattle.std.proofs.Common.{◌≡◌, ℕ, ◌+◌, ◌/◌, ◌<◌, Bool, List, [], ◌∷◌, ◌++◌, length, get_or, take, refl, sym, ap, ◌∙◌, arith, below_more}
use Rattle.std.proofs.lemmas.List.{get_or_append_left, get_or_push}
use Rattle.pair.specs.Split.{number, on, side_kinds, rank}
use Rattle.pair.proofs.Sifting.{sifted_more, sifted_same, length_sifted_take}
use Rattle.pair.proofs.split.Share.deal_kinds.Goals as goal
use Rattle.pair.proofs.split.Share.deal_kinds.Goals.{then-has, else-has}

pub loop-kind-init : goal.loop-kind-init
unfolding side_kinds
loop-kind-init c = (c.requires.none.0, ap length c.requires.none.1, λ k h. absurd (omega arith), refl, refl)

pub push-requires-then-has : goal.push-requires-then-has
unfolding side_kinds
push-requires-then-has c =
    let few = length_sifted_take (λ (k : ℕ). k / 2) (on (number c.args.self.now.side)) c.args.kinds.now c.loop-kind.kind-index (omega arith) in
    let room : length c.loop-kind.self.kinds.items < 512 = omega (arith, few, ap length c.loop-kind.invariant.0) in
    (omega arith, room)

tested : (c : goal.Joined-has) (b : Bool) → c.has.result ≡ b → on (number c.args.self.now.side) (get_or c.args.kinds.now c.loop-kind.kind-index 0) ≡ b
tested c b e = rw c.loop-kind.invariant.3 at (sym c.has.ensures ∙ e)

dealt : (c : goal.Joined-has) → c.if-has.self.kinds.items ≡ side_kinds (number c.args.self.now.side) (take (c.loop-kind.kind-index + 1) c.args.kinds.now)
unfolding side_kinds
dealt c =
    elim c.if-has.branch [
      | then-has w ↦ rw w.self-is
          (w.push-then-has.ensures.items
          ∙ ap (λ (ks : List ℕ). ks ++ get_or c.args.kinds.now c.loop-kind.kind-index 0 / 2 ∷ []) c.loop-kind.invariant.0
          ∙ sym (sifted_more (λ (k : ℕ). k / 2) (on (number c.args.self.now.side)) c.args.kinds.now c.loop-kind.kind-index 0 c.loop-kind-test.true (tested c _ w.if-has.true)))
      | else-has w ↦ rw w.self-is
          (c.loop-kind.invariant.0
          ∙ sym (sifted_same (λ (k : ℕ). k / 2) (on (number c.args.self.now.side)) c.args.kinds.now c.loop-kind.kind-index 0 c.loop-kind-test.true (tested c _ w.if-has.false)))
    ]

pub loop-kind-preserved : goal.loop-kind-preserved
unfolding side_kinds rank
loop-kind-preserved c =
    let placed : c.if-has.self.places ≡ c.push.new.self = elim c.if-has.branch [ then-has w ↦ rw w.self-is refl | else-has w ↦ rw w.self-is refl ] in
    let same_side : c.if-has.self.side ≡ c.loop-kind.self.side = elim c.if-has.branch [ then-has w ↦ rw w.self-is refl | else-has w ↦ rw w.self-is refl ] in
    let same_rows : c.if-has.self.rows ≡ c.loop-kind.self.rows = elim c.if-has.branch [ then-has w ↦ rw w.self-is refl | else-has w ↦ rw w.self-is refl ] in (
      dealt c,
      rw placed (omega (arith, c.push.ensures.len, c.loop-kind.invariant.1)),
      below_more _ _
          (λ k h. rw (placed, c.push.ensures.items, get_or_append_left c.loop-kind.self.places.items _ 0 k (omega (arith, c.loop-kind.invariant.1))) (c.loop-kind.invariant.2 k h))
          (rw (placed, c.push.ensures.items, get_or_push c.loop-kind.self.places.items _ 0 _ c.loop-kind.invariant.1) (c.len.ensures.value ∙ ap length c.loop-kind.invariant.0)),
      same_side ∙ c.loop-kind.invariant.3,
      same_rows ∙ c.loop-kind.invariant.4,
    )
