-- Lists that the code cuts behind their first element.
use Rattle.std.proofs.Common.{◌≡◌, ◌<◌, ◌-◌, List, [], ◌∷◌, ◌++◌, length, map, take, drop, get_or, Option, Some, None, refl, sym, ap, ◌∙◌, arith}
use Rattle.std.specs.Prelude.{IfNone}
use Rattle.std.proofs.lemmas.List.{take_rest}
use Rattle.cue_lattice.specs.Path.{Path}
use Rattle.cue_lattice.specs.Path as paths
use Rattle.cue_row.specs.Steps.{step_of}
use Rattle.cue_row.specs.declared.step.Step.{Step as Code}

cut_list : {X : Type 0} (xs : List X) (x : X) → 0 < length xs → x ≡ get_or xs 0 x → xs ≡ x ∷ take (length xs - 1) (drop 1 xs)
cut_list [] x h e = absurd (omega arith)
cut_list (y ∷ ys) x h e = ap (λ z. z ∷ ys) (sym e) ∙ ap (λ zs. x ∷ zs) (sym (take_rest (y ∷ ys) 1))

-- the path of steps that are cut so
pub cut_path : (steps : List Code) (step : Code) → 0 < length steps → step ≡ get_or steps 0 step
    → map step_of steps ≡ step_of step ∷ map step_of (take (length steps - 1) (drop 1 steps))
cut_path steps step h e = ap (map step_of) (cut_list steps step h e)

pub not_nil : (before : Path) (step : paths.Step) (after : Path) → [] ≡ before ++ step ∷ after → ⊥
not_nil [] step after e = cc
not_nil (x ∷ before) step after e = cc

pub any_none : {X : Type 0} (found : Option X) (P : Type 0) → P → IfNone found P
any_none None P p = p
any_none (Some x) P p = tt

pub unmapped : (steps : List Code) → map step_of steps ≡ [] → steps ≡ []
unmapped [] e = refl
unmapped (s ∷ steps) e = cc
