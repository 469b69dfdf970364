use Rattle.std.proofs.Common.{◌≡◌, ◌∷◌, ◌&&◌, not, ap, sym, ◌∙◌, rules}
use Rattle.std.specs.List.{list_all}
use Rattle.std.proofs.lemmas.Result.{IfOk-weaker}
use Rattle.cue_sets.specs.Pieces.{is_member}
use Rattle.cue_sets.proofs.LeftOut.{first_but_lacked}
use Rattle.cue_sets.proofs.int_set.IntSet.meet_all.Goals as goal

pub returns : goal.returns
returns c =
    let first = c.in-Some.first.now in
    let others = c.in-Some.others.now in
    let is : c.args.sets.items ≡ first ∷ others = search rules in
    IfOk-weaker c.without.result _ _
    (λ met h n.
    h n
    ∙ ap (λ b. is_member first n && not b) (c.in_ok-left_out.ensures n ∙ c.in_ok-gaps.ensures.members n)
    ∙ first_but_lacked first others n c.known.ensures
    ∙ ap (list_all (λ set. is_member set n)) (sym is))
    c.without.ensures
