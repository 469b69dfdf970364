use Rattle.std.proofs.Common.{sym, subst}
use Rattle.cue_layers.specs.Pieces.{LayersIntake, HasTakenIn, HasFaultAt}
use Rattle.cue_layers.proofs.Ending.{ended, fault_is}
use Rattle.cue_layers.proofs.layers_reader.LayersReader.finish.Goals as goal

pub returns : goal.returns
returns c =
    let stage = c.self.inside.stage in
    record {
      ok = λ bytes h. tt;
      refused = λ bytes h. ended stage bytes c.self.invariant c.in_default.not-Whole c.in_default.not-OtherVersion c.in_default.not-Failed (subst (λ (i : LayersIntake). HasTakenIn i bytes) (sym c.self.view_is) h);
      fault = λ why h. let is = fault_is stage why c.self.invariant c.in_default.not-OtherVersion c.in_default.not-Failed (subst (λ (i : LayersIntake). HasFaultAt i why) (sym c.self.view_is) h) in cc;
    }
