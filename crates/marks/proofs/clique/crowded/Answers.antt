use Rattle.std.proofs.Common.{replicate, refl, arith}
use Rattle.std.proofs.lemmas.List.{get_or-replicate}
use Rattle.marks.proofs.Crowding.{joined_by, no_members, none_near, more_members, more_near, crowd_refuted, candidate_new}
use Rattle.marks.proofs.clique.crowded.Goals as goal

pub loop-size-init : goal.loop-size-init
loop-size-init c = (
  λ i. i,
  no_members c.args.sets.now c.args.apart.now,
  none_near c.args.apart.now (replicate 512 0) (λ w l. get_or-replicate 512 w 0 0 l),
  candidate_new (replicate 512 0) 0 _ c.args.seed refl c.requires (get_or-replicate 512 c.args.seed 0 0 c.requires),
)

pub offset_bounds-sets-v : goal.offset_bounds-sets-v
offset_bounds-sets-v c = let v = (c.loop-size.invariant.3 c.in-Some.v c.in-Some.is).0 in omega arith

pub bounds-sets-v : goal.bounds-sets-v
bounds-sets-v c = let v = (c.loop-size.invariant.3 c.in-Some.v c.in-Some.is).0 in omega arith

pub returns-then-union-size : goal.returns-then-union-size
returns-then-union-size c =
    let inv = c.loop-size.invariant in
    let v = inv.3 c.in-Some.v c.in-Some.is in
    crowd_refuted c.args.sets.now c.args.apart.now (joined_by inv.0 c.loop-size.size c.in-Some.v) c.loop-size.size _
    (more_members c.args.sets.now c.args.apart.now inv.0 c.loop-size.size c.loop-size.union inv.1 c.loop-size.near inv.2
    c.in-Some.v v.0 v.1 c.told-sets (c.fits-sets c.in-Some.v))
    c.if-union-size.true

pub loop-size-preserved : goal.loop-size-preserved
loop-size-preserved c =
    let inv = c.loop-size.invariant in
    let v = inv.3 c.in-Some.v c.in-Some.is in (
      joined_by inv.0 c.loop-size.size c.in-Some.v,
      more_members c.args.sets.now c.args.apart.now inv.0 c.loop-size.size c.loop-size.union inv.1 c.loop-size.near inv.2
          c.in-Some.v v.0 v.1 c.told-sets (c.fits-sets c.in-Some.v),
      more_near c.args.sets.now c.args.apart.now inv.0 c.loop-size.size c.loop-size.union inv.1 c.loop-size.near inv.2
          c.in-Some.v v.0 v.1 c.told-sets c.approach.new.near c.approach.ensures,
      c.candidate-next.ensures,
    )
