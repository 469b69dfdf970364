use Rattle.std.proofs.Common.{List, subst}
use Rattle.cue_layers.specs.declared.layer.Layer.{Layer}
use Rattle.cue_layers.specs.Layers.{key}
use Rattle.cue_layers.specs.Inner.Places.{IsGap}
use Rattle.cue_layers.proofs.Replacing.{gap_none}
use Rattle.cue_layers.proofs.layers.Layers.extract.Goals as goal

pub returns-in-Err-clause-none : goal.returns-in-Err-clause-none
returns-in-Err-clause-none c =
    let k = key c.args.kind c.args.name.now in
    let P : List Layer → Type 0 = λ ls. IsGap ls k c.in-Err.field-0 in
    gap_none c.args.self.now k c.in-Err.field-0 (subst P c.entries.ensures.layers c.in-Err.ensures)
