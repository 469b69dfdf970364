use Rattle.std.proofs.Common.{ℕ, List, ◌++◌, take, drop, append_assoc, sym, ap, ◌∙◌}
use Rattle.std.proofs.lemmas.List.{take-append-drop}
use Rattle.cue_layers.specs.Inner.Stages.{intake_of}
use Rattle.cue_layers.proofs.Taking.{taken_twice}
use Rattle.cue_layers.proofs.stage.Stage.more.Goals as goal

pub pieces-preserved : goal.pieces-preserved
pieces-preserved c =
    let taken = c.pieces.invariant.taken in
    let rest = c.pieces.rest.now in
    let front = take c.in_ok-next.len rest in
    record {
      sound = c.in_ok-next.ensures.sound;
      taken = (
        taken.0 ++ front,
        taken.1 ∙ ap (λ (t : List ℕ). taken.0 ++ t) (sym (take-append-drop c.in_ok-next.len rest)) ∙ sym (append_assoc taken.0 front (drop c.in_ok-next.len rest)) ∙ ap (λ (t : List ℕ). (taken.0 ++ front) ++ t) (sym c.split_at.ensures.back),
        taken_twice (intake_of c.args.self) (intake_of c.pieces.stage) (intake_of c.in_ok-next.next) taken.0 front taken.2 c.in_ok-next.ensures.ok,
      );
    }
