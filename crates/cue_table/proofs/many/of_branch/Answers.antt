use Rattle.std.proofs.Common.{◌∷◌, ◌++◌, ◌∙◌, [], None, ap, sym, subst, refl}
use Rattle.std.proofs.lemmas.List.Elements.{All-nil, All-cons, All-same}
use Rattle.cue_table.specs.Inner.Form.{StepsRise}
use Rattle.cue_table.specs.Inner.Given.{IsBranch}
use Rattle.cue_table.specs.Inner.View.{branches}
use Rattle.cue_table.specs.Tree.{node, no_rest}
use Rattle.cue_table.proofs.many.of_branch.Goals as goal

pub same-child : goal.same-child
same-child g c = refl

pub of_rising-requires-clause-branches : goal.of_rising-requires-clause-branches
of_rising-requires-clause-branches g c =
    let P = IsBranch g.R.Narrow.refuses g.R.Narrow.is_value in
    let one = c.in_ok-push.ensures.items ∙ ap (λ xs. xs ++ c.args.child ∷ []) c.in_ok-children.ensures.items in
    All-same P c.push.new.self.items (c.args.child ∷ []) one (All-cons P c.args.child [] c.requires (All-nil P))

pub of_rising-requires-clause-rise : goal.of_rising-requires-clause-rise
of_rising-requires-clause-rise g c =
    let one = c.in_ok-push.ensures.items ∙ ap (λ xs. xs ++ c.args.child ∷ []) c.in_ok-children.ensures.items in
    subst (λ xs. StepsRise (branches xs)) (sym one) (tt, tt)

pub returns : goal.returns
returns g c =
    let one = c.in_ok-push.ensures.items ∙ ap (λ xs. xs ++ c.args.child ∷ []) c.in_ok-children.ensures.items in
    c.of_rising.ensures.same ∙ ap (λ xs. node None (branches xs) no_rest) one
