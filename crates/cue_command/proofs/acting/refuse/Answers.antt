use Rattle.std.proofs.Common.{◌∷◌, ◌++◌, [], ap, inr, refl, subst, ◌∙◌}
use Rattle.cue_program.specs.Outlets.{BreaksAfter, passage_of}
use Rattle.cue_command.proofs.acting.refuse.Goals as goal

pub returns-in-Err : goal.returns-in-Err
returns-in-Err g c =
    let bytes = c.as_bytes.ensures.value ∙ c.as_str.ensures.value ∙ c.push_str.ensures.bytes ∙ ap (λ text. text ++ 10 ∷ []) c.text_of-line.ensures.text in
    inr (refl, subst (BreaksAfter (passage_of g.W.Write.contents c.args.out.now c.write_out.new.self)) bytes c.in-Err.ensures.broken, c.complain.ensures)
