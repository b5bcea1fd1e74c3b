-- The words that lines are written with.
use Rattle.std.specs.Prelude.{ℕ, cond, List, Option, Some, None, codes}
use Rattle.std.specs.Str.{bytes_eq}
use Rattle.concept_text.specs.declared.form.Form.{Form}
use Rattle.concept_text.specs.declared.form.Form.TheVariants.{Name, Not, And, Or, Some as form-some, All, Has, Lacks, Holds, Meets, Parts}

-- the form that a word stands for
abbrev pub form_of : List ℕ → Option Form
form_of w =
    cond (bytes_eq w (codes "name")) (Some Name) (
    cond (bytes_eq w (codes "not")) (Some Not) (
    cond (bytes_eq w (codes "and")) (Some And) (
    cond (bytes_eq w (codes "or")) (Some Or) (
    cond (bytes_eq w (codes "some")) (Some form-some) (
    cond (bytes_eq w (codes "all")) (Some All) (
    cond (bytes_eq w (codes "has")) (Some Has) (
    cond (bytes_eq w (codes "lacks")) (Some Lacks) (
    cond (bytes_eq w (codes "holds")) (Some Holds) (
    cond (bytes_eq w (codes "meets")) (Some Meets) (
    cond (bytes_eq w (codes "parts")) (Some Parts) None))))))))))
