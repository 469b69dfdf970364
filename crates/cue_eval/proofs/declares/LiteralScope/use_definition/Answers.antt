use Rattle.std.proofs.Common.{◌≡◌, None, Some, sym, subst, ◌∙◌}
use Rattle.std.proofs.lemmas.Result.{IfOk-weaker}
use Rattle.cue_scope.specs.Kept.{nodes_kept}
use Rattle.cue_scope.specs.Meaning.{meaning_of_number}
use Rattle.cue_scope.proofs.Measuring.{use_listed}
use Rattle.cue_eval.specs.Inner.Told.{AreDots}
use Rattle.cue_eval.proofs.TellingNames.{use_told, unknown_told}
use Rattle.cue_eval.proofs.declares.LiteralScope.use_definition.Goals as goal

pub returns-in-None : goal.returns-in-None
returns-in-None c = rw c.new.ensures (unknown_told _ _ (sym c.in-None.ensures))

pub returns-in-None-get : goal.returns-in-None-get
returns-in-None-get c =
    let found = c.requires.used c.in-Some.number (use_listed _ c.in-Some.number c.in-Some.ensures) in
    let e = c.in-None-get.ensures.lookup.2 found.1 in
    absurd (cc)

pub returns-in-None-kept : goal.returns-in-None-kept
returns-in-None-kept c =
    let found = c.requires.used c.in-Some.number (use_listed _ c.in-Some.number c.in-Some.ensures) in
    let e : None ≡ Some found.0 = sym c.in-None-kept.is ∙ c.in-Some-get.ensures.lookup.1 ∙ found.2 c.in-Some-get.kept.now in
    absurd (cc)

pub returns-in-Some-kept : goal.returns-in-Some-kept
returns-in-Some-kept c =
    let found = c.requires.used c.in-Some.number (use_listed _ c.in-Some.number c.in-Some.ensures) in
    let e : Some c.in-Some-kept.dots ≡ Some found.0 = sym c.in-Some-kept.is ∙ c.in-Some-get.ensures.lookup.1 ∙ found.2 c.in-Some-get.kept.now in
    let same : found.0 ≡ c.in-Some-kept.dots = cc in
    IfOk-weaker c.copy.result (λ t. t ≡ c.in-Some-kept.dots) _
    (λ t is. use_told _ _ c.in-Some.number t c.in-Some.ensures (subst (λ z. AreDots (meaning_of_number (nodes_kept c.args.self.now.definitions.now) c.in-Some.number) z) (same ∙ sym is) found.3)) c.copy.ensures
