use Rattle.std.proofs.Common.{◌<◌, ℕ, List, length, subst}
use Rattle.std.proofs.lemmas.Bool.Decides.{Decides-ltb}
use Rattle.cue_service.specs.declared.kept.CachedAnswer.{CachedAnswer}
use Rattle.cue_service.specs.Kept.{IsCachedAnswer}
use Rattle.cue_service.proofs.Bounded.{kept_over}
use Rattle.cue_service.proofs.kept.CachedAnswer.is_over.Goals as goal

pub returns-in-Whole-clause-over : goal.returns-in-Whole-clause-over
returns-in-Whole-clause-over c = λ t table question kept.
    kept_over c.args.limit question table c.in-Whole.told
    (subst (λ (a : CachedAnswer). IsCachedAnswer question table a) c.in-Whole.is kept)
    (subst (λ (n : ℕ). c.args.limit < n) c.len.ensures.value ((Decides-ltb c.args.limit c.len.result).0 t))
