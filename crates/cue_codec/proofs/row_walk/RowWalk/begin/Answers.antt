use Rattle.std.proofs.Common.{[], ◌∷◌, ◌++◌, None, refl, ap, ◌∙◌}
use Rattle.cue_codec.specs.declared.row_walk.WalkPlace.{WalkPlace}
use Rattle.cue_codec.proofs.Walking.{walk_first}
use Rattle.cue_codec.proofs.row_walk.RowWalk.begin.Goals as goal

pub returns-clause-walk : goal.returns-clause-walk
returns-clause-walk c =
    let place : WalkPlace = record { below = c.of.result; size = 0 } in
    (walk_first (record { steps = c.new-steps.result; stack = c.push.new.self; next = None }) place c.args.root.now c.new-steps.ensures.items
    (c.in_ok-push.ensures.items ∙ ap (λ t. t ++ place ∷ []) c.new-stack.ensures.items) refl refl c.of.ensures c.requires.sound c.requires.deep).0
