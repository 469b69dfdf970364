-- The steps to the place at hand.
use Rattle.std.proofs.Common.{◌≡◌, ℕ, ◌+◌, ◌<◌, List, [], ◌∷◌, ◌++◌, length, get_or, take, map, sym, ap, ◌∙◌}
use Rattle.std.proofs.lemmas.List.{map_push, map_more}
use Rattle.cue_row.specs.Steps.{step_of}
use Rattle.cue_row.specs.declared.step.Step.{Step}
use Rattle.cue_table.specs.StepsOfCode.{step_at}
use Rattle.cue_table.specs.declared.step_ref.StepRef.{StepRef}

pub trail_more :
    (xs : List StepRef) (i : ℕ) (item : StepRef) (copied : Step) (old new : List Step) → i < length xs → item ≡ get_or xs i item
    → step_of copied ≡ step_at item → map step_of old ≡ map step_at (take i xs) → new ≡ old ++ copied ∷ [] → map step_of new ≡ map step_at (take (i + 1) xs)
trail_more xs i item copied old new h is c e n =
    ap (map step_of) n ∙ map_push step_of old copied
    ∙ ap (λ ys. ys ++ step_of copied ∷ []) e
    ∙ ap (λ s. map step_at (take i xs) ++ s ∷ []) c
    ∙ ap (λ s. map step_at (take i xs) ++ step_at s ∷ []) is
    ∙ sym (map_more step_at xs i item h)

-- the copies of the steps, and an element behind them
pub element_trail :
    (copies after : List Step) (held now : List StepRef) (x : Step) → map step_of copies ≡ map step_at held → held ≡ now → after ≡ copies ++ x ∷ []
    → map step_of after ≡ map step_at now ++ step_of x ∷ []
element_trail copies after held now x c h a =
    ap (map step_of) a ∙ map_push step_of copies x ∙ ap (λ ys. ys ++ step_of x ∷ []) c ∙ ap (λ zs. map step_at zs ++ step_of x ∷ []) h
