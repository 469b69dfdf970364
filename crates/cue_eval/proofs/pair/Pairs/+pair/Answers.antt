use Rattle.std.proofs.Common.{◌≡◌, subst, sym, ap, ◌∙◌, drop, ◌+◌, arith, w64, to_z, of_z, ◌&&◌, All}
use Rattle.std.proofs.lemmas.Int.{ints}
use denote.Param.Weighed.{most, at_most}
use Rattle.std.proofs.Common.{◌≤◌}
use Rattle.cue_syntax.specs.declared.tree.Expr.{size-Expr}
use Rattle.cue_syntax.specs.declared.tree.Term.{size-Term}
use Rattle.cue_syntax.specs.declared.tree.Declaration.TheViews.{size_is-Term}
use Rattle.cue_syntax.specs.Syntax.{expression, branches_of_list}
use Rattle.cue_syntax.proofs.Views.{view-Integer, view-Bottom}
use Rattle.cue_scope.proofs.Walking.{at_hand}
use Rattle.cue_eval.specs.Inner.Known.{core_of}
use Rattle.cue_eval.specs.Sets.{integer_alone}
use Rattle.cue_eval.specs.Pairs.{pair, plain_pair}
use Rattle.std.specs.Prelude.{IfSome}
use Rattle.cue_sets.specs.Texts.{is_listed}
use Rattle.cue_scalars.specs.Pairs.{disjunction}
use Rattle.cue_syntax.specs.Grammar.{IsInRange}
use Rattle.cue_sets.specs.Pieces.{is_int64, is_member}
use Rattle.cue_eval.specs.Inner.Written.{AreIntegerTerms, AreTextTerms, is_listed_integer}
use Rattle.cue_eval.proofs.IntegerTerms.{integer_disjunction}
use Rattle.cue_eval.proofs.TextTerms.{text_disjunction}
use Rattle.cue_eval.proofs.Pairing.{PairingParts, PairingTerms, part_can, part_more, term_can, term_more}
use Rattle.cue_eval.proofs.pair.Pairs.+pair.Goals as goal

pub pair-returns-in-Integer : goal.pair-returns-in-Integer
pair-returns-in-Integer t c =
    let n = c.integer_of.result in
    let number : to_z w64 (of_z w64 n) ≡ n = omega (arith, ints, c.integer_of.type_inv) in
    c.integer_alone.ensures ∙ ap (λ m. plain_pair (integer_alone m)) (number ∙ c.integer_of.ensures)
    ∙ ap (λ e. pair (core_of c.args.self.now e)) (sym (ap expression c.in-Integer.is ∙ view-Integer c.in-Integer.written))

pub pair-returns-in-Bottom : goal.pair-returns-in-Bottom
pair-returns-in-Bottom t c = c.bottom_value.ensures ∙ ap (λ e. pair (core_of c.args.self.now e)) (sym (ap expression c.in-Bottom.is ∙ view-Bottom))

pub conjunction-pair-requires : goal.conjunction-pair-requires
conjunction-pair-requires t c =
    let can = part_can c.args.self.now _ c.args.parts.now _ c.part-item.result _ c.loop-part.invariant (at_hand c.args.parts.now c.loop-part.part-index c.part-item.result c.loop-part-test.true c.part-item.is) in (
      let among : size-Expr c.part-item.result ≤ most (λ e. size-Expr e) c.args.parts.now =
          subst (λ e. size-Expr e ≤ most (λ x. size-Expr x) c.args.parts.now) (sym c.part-item.is) (at_most (λ e. size-Expr e) c.args.parts.now c.loop-part.part-index c.part-item.result c.loop-part-test.true) in
          omega (arith, c.decreases, among),
      can,
    )

pub conjunction-loop-part-preserved : goal.conjunction-loop-part-preserved
conjunction-loop-part-preserved t c =
    subst (λ xs. PairingParts c.args.self.now xs c.args.parts.now (drop (c.loop-part.part-index + 1) c.args.parts.now)) (sym c.in_ok-push.ensures.items)
    (part_more c.args.self.now _ c.args.parts.now _ c.part-item.result _ c.in_ok-pair.pair c.loop-part.invariant
    (at_hand c.args.parts.now c.loop-part.part-index c.part-item.result c.loop-part-test.true c.part-item.is) c.in_ok-pair.ensures)

pub disjunction-pair-requires : goal.disjunction-pair-requires
disjunction-pair-requires t c =
    let can = term_can c.args.self.now _ c.args.terms.now _ c.term-item.result _ c.loop-term.invariant (at_hand c.args.terms.now c.loop-term.term-index c.term-item.result c.loop-term-test.true c.term-item.is) in (
      let among : size-Term c.term-item.result ≤ most (λ e. size-Term e) c.args.terms.now =
          subst (λ e. size-Term e ≤ most (λ x. size-Term x) c.args.terms.now) (sym c.term-item.is) (at_most (λ e. size-Term e) c.args.terms.now c.loop-term.term-index c.term-item.result c.loop-term-test.true) in
          let own = size_is-Term c.term-item.result in
          omega (arith, c.decreases, among, own),
      can,
    )

pub disjunction-loop-term-preserved : goal.disjunction-loop-term-preserved
disjunction-loop-term-preserved t c =
    subst (λ xs. PairingTerms c.args.self.now xs c.args.terms.now (branches_of_list (drop (c.loop-term.term-index + 1) c.args.terms.now))) (sym c.in_ok-push.ensures.items)
    (term_more c.args.self.now _ c.args.terms.now _ c.term-item.result _ c.in_ok-pair.pair c.loop-term.invariant
    (at_hand c.args.terms.now c.loop-term.term-index c.term-item.result c.loop-term-test.true c.term-item.is) c.in_ok-pair.ensures)

pub disjunction-returns-in-Some-set_of_texts : goal.disjunction-returns-in-Some-set_of_texts
disjunction-returns-in-Some-set_of_texts t c =
    let texts = c.in-Some.texts.items in
    let terms : AreTextTerms c.args.terms.now texts = subst (λ found. IfSome found (λ all. AreTextTerms c.args.terms.now all.items)) c.in-Some.is c.in_ok-texts.ensures in
    c.of_texts.ensures (is_listed texts) (λ text. c.in-Some-set_of_texts.ensures text) ∙ sym (text_disjunction texts) ∙ ap disjunction (sym (terms c.args.self.now))

pub disjunction-set_of_integers-requires : goal.disjunction-set_of_integers-requires
disjunction-set_of_integers-requires t c =
    let numbers = c.in-Some-2.numbers.items in
    let terms : AreIntegerTerms c.args.terms.now numbers =
    subst (λ found. IfSome found (λ all. AreIntegerTerms c.args.terms.now all.items)) c.in-Some-2.is c.in_ok-numbers.ensures in
    subst (λ ns. All IsInRange ns) (sym c.deref.ensures.value) (terms.in_range c.requires.right)

pub disjunction-returns-in-Some-2 : goal.disjunction-returns-in-Some-2
disjunction-returns-in-Some-2 t c =
    let numbers = c.in-Some-2.numbers.items in
    let terms : AreIntegerTerms c.args.terms.now numbers =
    subst (λ found. IfSome found (λ all. AreIntegerTerms c.args.terms.now all.items)) c.in-Some-2.is c.in_ok-numbers.ensures in
    c.of_integers.ensures (is_listed_integer numbers)
    (λ n. subst (λ ns. is_member c.in_ok-set.set n ≡ (is_int64 n && is_listed_integer ns n)) c.deref.ensures.value (c.in_ok-set.ensures n))
    ∙ sym (integer_disjunction numbers) ∙ ap disjunction (sym (terms.meant c.args.self.now))
