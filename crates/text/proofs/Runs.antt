-- The run of a class at the front of a text, and what follows it, one byte at a time.
use Rattle.std.proofs.Common.{◌≡◌, ℕ, ◌+◌, Bool, true, false, cond, List, [], ◌∷◌, drop, suc, refl, ap, arith}
use Rattle.std.proofs.lemmas.List.Sums.{take_while-cons}
use Rattle.std.specs.List.{prefix_len}
use Rattle.text.specs.declared.bytes.Class.{Class}
use Rattle.text.specs.Bytes.{in_class, run, past_run}

pub run-cons : (c : Class) (b : ℕ) (bs : List ℕ) → run c (b ∷ bs) ≡ cond (in_class c b) (b ∷ run c bs) []
run-cons c b bs = take_while-cons (in_class c) b bs

drop_step : (t : Bool) (n b : ℕ) (bs : List ℕ) → drop (cond t (1 + n) 0) (b ∷ bs) ≡ cond t (drop n bs) (b ∷ bs)
drop_step true n b bs = let e : 1 + n ≡ suc n = omega arith in ap (λ k. drop k (b ∷ bs)) e
drop_step false n b bs = refl

pub past_run-cons : (c : Class) (b : ℕ) (bs : List ℕ) → past_run c (b ∷ bs) ≡ cond (in_class c b) (past_run c bs) (b ∷ bs)
past_run-cons c b bs = drop_step (in_class c b) (prefix_len (in_class c) bs) b bs
