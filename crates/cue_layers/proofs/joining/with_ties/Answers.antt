use Rattle.std.proofs.Common.{◌≡◌, ◌∷◌, ◌++◌, [], List, subst, sym, rules}
use Rattle.cue_lattice.specs.World.{AllAlong}
use Rattle.cue_layers.specs.declared.layer.Layer.{Layer}
use Rattle.cue_layers.specs.Inner.Merging.{IsTied}
use Rattle.cue_layers.proofs.Merged.{along_push}
use Rattle.cue_layers.proofs.joining.with_ties.Goals as goal

pub loop-other-preserved : goal.loop-other-preserved
loop-other-preserved c =
    let own = c.args.own.now in
    let x = c.in-Some.other in
    let y = c.in_ok-with_tie.field-0 in
    let items : c.push.new.self.items ≡ c.loop-other.tied.items ++ y ∷ [] = search rules in
    let P : List Layer → Type 0 = λ ls. AllAlong (IsTied own) (c.loop-other.yielded ++ x ∷ []) ls in
    subst P (sym items) (along_push (IsTied own) c.loop-other.yielded c.loop-other.tied.items x y c.loop-other.invariant c.in_ok-with_tie.ensures)
