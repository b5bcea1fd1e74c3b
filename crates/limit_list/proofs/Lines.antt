-- What a call that read a line has told.
use Rattle.std.proofs.Common.{◌≡◌, ℕ, ◌+◌, ◌-◌, ◌≤◌, List, length, IfOk, IfErr, Ok, Err, Option, Result, refl, ap, ◌∙◌, arith}
use Rattle.text.specs.declared.fault.Fault.{Fault}
use Rattle.text.specs.declared.fault.Stop.{Stop}
use Rattle.limit_list.specs.declared.fault.Expected.{Expected}
use Rattle.limit_list.specs.declared.limit.Limit.{Limit}
use Rattle.limit_list.specs.Grammar.{Spells, silent, one, two, Spelt}
use Rattle.limit_list.specs.Spelling.{Said, Fitting, said, told, reads, placed}
use Rattle.limit_list.proofs.Grammars.{not_spelt}
use Rattle.limit_list.proofs.Spellings.{read_spelt}

-- that it is spelt so, that its number fits, and that its column lies in the line
pub record Told (line : List ℕ) (r : Result (Option Limit) (Fault Expected)) : Type 0 where
  pub spelt : Spelt line r
  pub fitting : IfOk r (λ l. Fitting (said l))
  pub inside : IfErr r (λ f. (1 ≤ f.column) × (f.column ≤ length line + 1))

fits : (line : List ℕ) (s : Said) → Spells line s → Fitting s
fits _ _ (silent a s ha done) = tt
fits _ _ (one a x b s o n ha name hb bound) = bound.fits
fits _ _ (two a x b c y d s o n ha name hb hc other hd bound) = bound.fits

module _ (n : ℕ) (line : List ℕ) where
  cases :
      (r : Result (Option Limit) (Fault Expected)) (q : Result Said (Stop Expected))
      → reads line ≡ q → told r ≡ placed n line q → Told line r
  cases (Ok l) (Ok s) e h =
      let same : s ≡ said l = cc in
      let is : reads line ≡ Ok (said l) = e ∙ ap Ok same in
      record { spelt = read_spelt line (said l) is; fitting = fits line (said l) (read_spelt line (said l) is); inside = tt }
  cases (Err f) (Err t) e h =
      let column : f.column ≡ length line - t.left + 1 = cc in
      record { spelt = not_spelt line t e; fitting = tt; inside = (omega arith, omega arith) }
  cases (Ok l) (Err t) e h = let z : ◌≡◌ {A = ℕ} 0 1 = cc in absurd (omega arith)
  cases (Err f) (Ok s) e h = let z : ◌≡◌ {A = ℕ} 0 1 = cc in absurd (omega arith)

  pub what_told : (r : Result (Option Limit) (Fault Expected)) → told r ≡ placed n line (reads line) → Told line r
  what_told r h = cases r (reads line) refl h
