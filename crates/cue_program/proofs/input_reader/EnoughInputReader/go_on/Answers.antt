use Rattle.std.proofs.Common.{ℕ, List, subst}
use Rattle.cue_program.specs.Inputs.{IsEnoughOf}
use Rattle.cue_program.proofs.Keeping.{enough_more}
use Rattle.cue_program.proofs.input_reader.EnoughInputReader.go_on.Goals as goal

pub returns-clause-kept : goal.returns-clause-kept
returns-clause-kept c front some kept =
    let after = c.keep_enough.new.bytes.items in
    enough_more front c.args.self.now.bytes.items c.args.piece.now after kept
    (subst (λ (b : List ℕ). IsEnoughOf b after) c.in_ok-extend_from_slice.ensures.items c.keep_enough.ensures)
