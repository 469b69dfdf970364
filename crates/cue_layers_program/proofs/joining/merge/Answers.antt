use Rattle.std.proofs.Common.{inl, refl}
use Rattle.cue_layers_program.proofs.Results.{err_on}
use Rattle.cue_layers_program.proofs.joining.merge.Goals as goal

pub returns-in_err-all-clause-stop : goal.returns-in_err-all-clause-stop
returns-in_err-all-clause-stop g c = err_on c.from_residual.result c.in_err-all.field-0.0 _ c.from_residual.ensures.1 (inl (c.in_err-all.ensures.stop, refl))
