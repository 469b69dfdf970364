use Rattle.std.proofs.Common.{◌≡◌, ◌∙◌, [], map, ap, sym, arith}
use Rattle.cue_device.proofs.Telling.{told_as, begun_as}
use Rattle.cue_print.specs.Difference.{scalars_without}
use Rattle.cue_print.specs.Terms.{terms_of}
use Rattle.cue_print.specs.Inner.TermOf.{term_of}
use Rattle.cue_print.proofs.Scalars.{plain, marked, none_shown, some_shown}
use Rattle.cue_print.proofs.scalar.push_scalar.Goals as goal

pub returns-then-is_empty-clause-told : goal.returns-then-is_empty-clause-told
returns-then-is_empty-clause-told g c =
    let row = c.args.row.now in
    let left : terms_of (scalars_without row.value row.usual) ≡ [] = ap terms_of (sym (c.of.ensures ∙ c.in_ok-others.ensures)) ∙ sym c.in_ok-terms.ensures ∙ none_shown term_of c.in_ok-terms.terms.items (grind arith) in
    told_as c.push_terms.result _ _ _ _ (plain _ (terms_of row.value) (terms_of row.usual) (terms_of (scalars_without row.value row.usual)) (ap (map term_of) c.deref.ensures.value ∙ c.in_ok-all.ensures ∙ ap terms_of c.value.ensures) left) c.push_terms.ensures.told

pub returns-then-is_empty-clause-begun : goal.returns-then-is_empty-clause-begun
returns-then-is_empty-clause-begun g c =
    let row = c.args.row.now in
    let left : terms_of (scalars_without row.value row.usual) ≡ [] = ap terms_of (sym (c.of.ensures ∙ c.in_ok-others.ensures)) ∙ sym c.in_ok-terms.ensures ∙ none_shown term_of c.in_ok-terms.terms.items (grind arith) in
    begun_as c.push_terms.result _ _ _ _ (plain _ (terms_of row.value) (terms_of row.usual) (terms_of (scalars_without row.value row.usual)) (ap (map term_of) c.deref.ensures.value ∙ c.in_ok-all.ensures ∙ ap terms_of c.value.ensures) left) c.push_terms.ensures.begun

pub returns-clause-told : goal.returns-clause-told
returns-clause-told g c =
    let row = c.args.row.now in
    told_as c.push_marked.result _ _ _ _ (marked _ _ (terms_of row.value) (terms_of row.usual) (terms_of (scalars_without row.value row.usual))
    (ap (map term_of) c.deref-2.ensures.value ∙ c.in_ok-usual.ensures ∙ ap terms_of c.usual.ensures)
    (ap (map term_of) c.deref-3.ensures.value ∙ c.in_ok-terms.ensures ∙ ap terms_of (c.of.ensures ∙ c.in_ok-others.ensures))
    (λ h. some_shown term_of c.in_ok-terms.terms.items (λ k. let n = c.if-is_empty.false in grind arith) (c.in_ok-terms.ensures ∙ ap terms_of (c.of.ensures ∙ c.in_ok-others.ensures) ∙ h))) c.push_marked.ensures.told

pub returns-clause-begun : goal.returns-clause-begun
returns-clause-begun g c =
    let row = c.args.row.now in
    begun_as c.push_marked.result _ _ _ _ (marked _ _ (terms_of row.value) (terms_of row.usual) (terms_of (scalars_without row.value row.usual))
    (ap (map term_of) c.deref-2.ensures.value ∙ c.in_ok-usual.ensures ∙ ap terms_of c.usual.ensures)
    (ap (map term_of) c.deref-3.ensures.value ∙ c.in_ok-terms.ensures ∙ ap terms_of (c.of.ensures ∙ c.in_ok-others.ensures))
    (λ h. some_shown term_of c.in_ok-terms.terms.items (λ k. let n = c.if-is_empty.false in grind arith) (c.in_ok-terms.ensures ∙ ap terms_of (c.of.ensures ∙ c.in_ok-others.ensures) ∙ h))) c.push_marked.ensures.begun
