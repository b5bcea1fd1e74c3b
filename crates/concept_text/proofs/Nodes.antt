-- A chain that may be missing.
use Rattle.std.proofs.Common.{◌≡◌, Bool, true, false, cond, Option, Some, None, is_some, refl, ap, ◌∙◌}
use Rattle.std.specs.Option.{unwrap_or}
use Rattle.concept.specs.declared.node.Chain.{Chain}

given : (b : Bool) (x d : Chain) → unwrap_or (cond b (Some x) None) d ≡ cond b x d
given true x d = refl
given false x d = refl

present : (b : Bool) (x : Chain) → is_some (cond b (Some x) None) ≡ b
present true x = refl
present false x = refl

pub second : (b : Bool) (x d : Chain) (v : Option Chain) → v ≡ cond b (Some x) None → (unwrap_or v d ≡ cond b x d) × (is_some v ≡ b)
second b x d v e = (ap (λ o. unwrap_or o d) e ∙ given b x d, ap is_some e ∙ present b x)
