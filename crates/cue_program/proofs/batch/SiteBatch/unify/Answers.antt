use Rattle.std.proofs.Common.{◌∙◌, subst}
use Rattle.cue_replica.specs.Language.{Table, language}
use Rattle.cue_replica.specs.Replica.{AddsRefusals}
use Rattle.cue_program.proofs.Batches.{all_in_front, all_taken}
use Rattle.cue_program.proofs.batch.SiteBatch.unify.Goals as goal

pub returns : goal.returns
returns c pieces h =
    all_in_front c.unify.new.self _ pieces
    (all_taken c.args.self.now.site c.args.self.now.batch c.unify.new.self pieces h
    (subst (λ (t : Table). AddsRefusals c.args.self.now.site (language.table_refuses t) c.unify.new.self) c.replace-batch.ensures.value c.in_ok-unify.ensures.ok)
    c.in_ok-unify.ensures.valid)
    (c.replace-batch.ensures.after ∙ c.new.ensures)
