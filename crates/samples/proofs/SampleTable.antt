-- The sample table computes.
use Rattle.std.proofs.Common.{◌≡◌, ℕ, Bool, true, false, cond, ◌&&◌, eqb, negsuc, Some, None, sym, refl, ap, ◌∙◌, arith}
use Rattle.std.proofs.lemmas.Bool.{eqb-true, and_parts}
use Rattle.tenths.specs.Tenths.{tenths}
use Rattle.concept.specs.Plants.{Proper, typed}
use Rattle.samples.specs.SamplePlant.{SampleTable, sample, sample_kinds, p, q}

only_one : {A : Type 0} (b : Bool) (x y : A) → cond b (Some x) None ≡ Some y → (b ≡ true) × (x ≡ y)
only_one true x y e = (refl, cc)
only_one false x y e = let z : ◌≡◌ {A = ℕ} 0 1 = cc in absurd (omega arith)

proper : Proper tenths sample_kinds sample
proper = record {
  something = omega arith;
  objects = λ o. omega arith;
  links = λ f x y e. let h = (only_one (eqb f 1 && eqb x p) q y e).1 in omega arith;
  values = λ g x v e.
      let h = only_one (eqb g 128 && eqb x q) (negsuc 89) v e in
      let k = eqb-true g 128 (and_parts (eqb g 128) (eqb x q) h.0).0 in
      ap (λ n. typed tenths sample_kinds n v) k ∙ ap (typed tenths sample_kinds 128) (sym h.1);
}

pub sample_table : SampleTable
sample_table = record {
  proper = proper;
  far_cold = refl;
  not_cold = refl;
  near_warm = refl;
  nothing_joined = refl;
  leads_to_named = refl;
  parts_itself = refl;
  meets_itself = refl;
  size = refl;
  written = refl;
  well_formed = refl;
}
