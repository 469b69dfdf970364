use Rattle.std.proofs.Common.{◌⊎◌, ◌++◌, ◌∙◌, ℕ, List, ap, inr}
use Rattle.std.proofs.lemmas.Result.{IfErr-weaker}
use Rattle.cue_program.specs.Stops.{IsMemoryStop}
use Rattle.cue_program.specs.inner.Texts.{IsTextRefused}
use Rattle.cue_program.proofs.Takings.{rest_at_end}
use Rattle.cue_program.proofs.stdin_splitter.StdinSplitter.finish.Goals as goal

pub returns-clause-holds : goal.returns-clause-holds
returns-clause-holds c bytes h =
    c.take_parts.ensures.holds bytes
    (rest_at_end c.args.self bytes c.deref-2.result.now _ h.read c.in_ok-finish.ensures (c.deref-2.ensures.value ∙ (c.in_ok-extend_from_slice.ensures.items ∙ ap (λ (l : List ℕ). c.args.self.part.items ++ l) c.deref.ensures.value)))

pub returns-clause-stop : goal.returns-clause-stop
returns-clause-stop c bytes h =
    IfErr-weaker c.take_parts.result (IsTextRefused bytes) (λ stop. IsMemoryStop stop ⊎ IsTextRefused bytes stop) (λ stop refused. inr refused)
    (c.take_parts.ensures.refused bytes
    (rest_at_end c.args.self bytes c.deref-2.result.now _ h.read c.in_ok-finish.ensures (c.deref-2.ensures.value ∙ (c.in_ok-extend_from_slice.ensures.items ∙ ap (λ (l : List ℕ). c.args.self.part.items ++ l) c.deref.ensures.value))))
