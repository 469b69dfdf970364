use Rattle.std.proofs.Common.{◌≡◌, ◌++◌, sym, subst}
use Rattle.std.specs.Prelude.{IfSome}
use Rattle.cue_table.specs.SlotsOfCode.{slot_of}
use Rattle.cue_codec.specs.declared.version.Version.{Version}
use Rattle.cue_codec.specs.Entry.{step_kind}
use Rattle.cue_codec.specs.Parts.{step_bytes}
use Rattle.cue_codec.proofs.paths.after_slot.Goals as goal

pub returns-in-At : goal.returns-in-At
returns-in-At c =
    subst (λ slot. IfSome c.after_step.result (λ rest. (version : Version) → c.args.bytes.now ≡ step_bytes version (step_kind (slot_of slot)) ++ rest.now)) (sym c.in-At.is) c.after_step.ensures
