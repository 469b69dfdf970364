use Rattle.std.proofs.Common.{ℕ, [], ◌∷◌, ◌++◌, take, sym, ap, subst, ◌∙◌}
use Rattle.cue_layers.specs.Bytes.{IsOtherLayersVersion}
use Rattle.cue_layers.specs.Inner.Stages.{front_byte, front_bytes}
use Rattle.cue_layers.proofs.Steps.{front_other}
use Rattle.cue_layers.proofs.stage.wrong_front.Goals as goal

pub returns-then-count-eq4 : goal.returns-then-count-eq4
returns-then-count-eq4 c =
    let is4 = c.if-count-eq4.true in
    (tt, subst (λ (n : ℕ). IsOtherLayersVersion (take n front_bytes ++ c.args.byte ∷ [])) (sym is4) (front_other c.args.byte (λ e. c.requires.wrong (e ∙ ap front_byte (sym is4)))))
