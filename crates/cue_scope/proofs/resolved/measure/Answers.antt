use Rattle.cue_syntax.specs.Syntax.{entries}
use Rattle.cue_scope.proofs.Resolving.{all_known}
use Rattle.cue_scope.specs.declared.measure.KnownMeasures.{KnownMeasures}
use Rattle.cue_scope.proofs.resolved.measure.Goals as goal

pub returns : goal.returns
returns c =
    let known : KnownMeasures = record { definitions = c.args.definitions; measures = c.args.measures } in
    c.literal.ensures _ (c.file.ensures (all_known known (entries c.args.declarations.now) c.requires.length c.requires.measured))
