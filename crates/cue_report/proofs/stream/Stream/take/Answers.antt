use Rattle.std.proofs.Common.{◌≡◌, ◌++◌, IfOk, ap, subst, ◌∙◌, string_bytes}
use Rattle.std.specs.String.{string_vec}
use Rattle.json.specs.Print.{print}
use Rattle.cue_report.proofs.Flows.{boundary_behind, none_behind}
use Rattle.cue_report.proofs.stream.Stream.take.Goals as goal

pub returns-clause-boundary : goal.returns-clause-boundary
returns-clause-boundary c =
    let full = c.replace-full.result in
    let before = ap (λ w. w.before) c.replace-full.ensures.value ∙ c.self.invariant.before in
    let text : string_bytes c.unwrap-text.result ≡ print full.tokens =
    ap (λ v. v.items) (subst (λ r. IfOk r (λ t. string_vec t ≡ c.into_inner.result)) c.unwrap-text.ensures c.from_utf8.ensures.ok) ∙ c.into_inner.ensures.items
    ∙ ap (λ front. front ++ print full.tokens) before in
    boundary_behind c.self.inside.primed full.tokens c.self.invariant.rest (string_bytes c.unwrap-text.result) c.opener_len-skipped.result
    (ap (λ w. w.tokens) c.replace-full.ensures.value ∙ c.self.invariant.tokens) text c.opener_len-skipped.ensures c.into_inner.ensures.utf8

pub returns-clause-none : goal.returns-clause-none
returns-clause-none c = none_behind c.self.inside.owes c.replace-full.new.dest.tokens (ap (λ w. w.tokens) c.replace-full.ensures.after ∙ c.in_ok-empty.ensures.tokens)
