use Rattle.std.proofs.Common.{◌≡◌, ◌↔◌, Option, Result, None, Some, refl, ap, sym, subst, ◌∙◌}
use Rattle.std.specs.Prelude.{IfOk, unwrap_or}
use Rattle.std.proofs.lemmas.Result.{IfOk-weaker}
use Rattle.cue_lattice.specs.Question.{Question}
use Rattle.cue_scalars.specs.Values.{pair_of_value}
use Rattle.cue_scalars.specs.declared.scalar_set.ScalarSet.{ScalarSet}
use Rattle.cue_scalars.specs.declared.valued.Valued.{Valued}
use Rattle.cue_row.specs.Made.{scalar_row}
use Rattle.cue_row.specs.Row.{RowRefusesQuestion}
use Rattle.cue_row.specs.declared.level.Level.TheVariants.{Optional}
use Rattle.cue_row.specs.declared.parts.RowParts.{RowParts as Row}
use Rattle.cue_eval.specs.Places.{ScalarRefuses}
use Rattle.cue_eval.proofs.PlaceRows.{valued_refuses}
use Rattle.cue_eval.proofs.rows.scalar_row.Goals as goal

-- the row of a value, and of its default or all of it, refuses what the pair does
made : {E : Type 0} (r : Result Row E) (valued : Valued) (default : Option ScalarSet) (usuals : ScalarSet) → valued.usual ≡ default → unwrap_or default valued.value ≡ usuals
    → IfOk r (λ row. row ≡ scalar_row Optional valued.value usuals) → IfOk r (λ row. (question : Question) → RowRefusesQuestion row question ↔ ScalarRefuses (pair_of_value valued) question)
made r valued default usuals given is =
    let usual = ap (λ (d : Option ScalarSet). unwrap_or d valued.value) given ∙ is in
    IfOk-weaker r _ _ (λ row same question. subst (λ (row : Row). RowRefusesQuestion row question ↔ ScalarRefuses (pair_of_value valued) question) (sym (same ∙ ap (scalar_row Optional valued.value) (sym usual))) (valued_refuses valued question))

pub returns-in-None : goal.returns-in-None
returns-in-None c = made c.of_all_usual.result c.args.valued None c.args.valued.value c.in-None.is refl c.of_all_usual.ensures

pub returns-in-Some : goal.returns-in-Some
returns-in-Some c = made c.of_scalars.result c.args.valued (Some c.in-Some.usual) c.in-Some.usual c.in-Some.is refl c.of_scalars.ensures
