use Rattle.std.proofs.Common.{[], refl, subst, sym}
use Rattle.cue_codec.specs.Pieces.{Intake, IsIntake}
use Rattle.cue_wire.proofs.Connections.{err_on}
use Rattle.cue_program.proofs.input_reader.InputInputReader.begin.Goals as goal

pub returns-in_err-feed-clause-fault : goal.returns-in_err-feed-clause-fault
returns-in_err-feed-clause-fault g c =
    err_on c.from_residual-in_err-feed.result c.in_err-feed.field-0.0 _ c.from_residual-in_err-feed.ensures.1
    (c.in_err-feed.ensures.fault [] (subst (λ (i : Intake). IsIntake [] i) (sym c.new-reader.ensures) refl))
