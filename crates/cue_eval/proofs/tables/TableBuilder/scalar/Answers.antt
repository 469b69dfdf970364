use Rattle.std.proofs.Common.{◌≡◌, ◌↔◌, ap, sym, subst, ◌∙◌, arith, w64, to_z, of_z}
use Rattle.std.proofs.lemmas.Int.{ints}
use Rattle.cue_lattice.specs.Question.{Question}
use Rattle.cue_row.specs.Row.{RowRefusesQuestion}
use Rattle.cue_scalars.specs.Pairs.{ScalarPair}
use Rattle.cue_syntax.specs.Syntax.{expression}
use Rattle.cue_syntax.proofs.Views.{view-Integer, view-Text}
use Rattle.cue_scope.specs.Meaning.{meaning_of_number, meant}
use Rattle.cue_eval.specs.Pairs.{pair, plain_pair}
use Rattle.cue_eval.specs.Places.{ScalarRefuses}
use Rattle.cue_eval.specs.Inner.Ready.{all_definitions}
use Rattle.cue_eval.specs.Sets.{integer_alone, text_alone}
use Rattle.cue_eval.proofs.Gathering.{row_alone}
use Rattle.cue_eval.proofs.Leaves.{leaf_scalar, leaf_result, scalar_result}
use Rattle.cue_eval.proofs.tables.TableBuilder.scalar.Goals as goal

pub pair-requires : goal.pair-requires
pair-requires c =
    let ds = all_definitions c.args.self.now in record {
      right = c.requires.ready.right;
      scalar = leaf_scalar ds (meaning_of_number ds) (expression c.args.expression.now) c.requires.scalar c.requires.ready.terms;
      used = c.requires.ready.used.pairs;
    }

pub returns-in-Integer-clause-answers : goal.returns-in-Integer-clause-answers
returns-in-Integer-clause-answers c =
    let ds = all_definitions c.args.self.now in
    let e = expression c.args.expression.now in
    let meant_pair = pair (meant ds (meaning_of_number ds) e) in
    let row = c.integer_row.result in
    let n = c.integer_of.result in
    let number : to_z w64 (of_z w64 n) ≡ n = omega (arith, ints, c.integer_of.type_inv) in
    let is : plain_pair (integer_alone (to_z w64 (of_z w64 n))) ≡ meant_pair =
    ap (λ n. plain_pair (integer_alone n)) (number ∙ c.integer_of.ensures) ∙ ap (λ x. pair (meant ds (meaning_of_number ds) x)) (sym (ap expression c.in-Integer.is ∙ view-Integer c.in-Integer.written)) in
    let refused = subst (λ (p : ScalarPair). (question : Question) → RowRefusesQuestion row question ↔ ScalarRefuses p question) is c.integer_row.ensures in
    scalar_result c.table_of.result ds (meaning_of_number ds) e c.requires.scalar (row_alone c.table_of.result row (ScalarRefuses meant_pair) c.table_of.ensures.answers refused)

pub returns-in_ok-to_text-in-Text-clause-answers : goal.returns-in_ok-to_text-in-Text-clause-answers
returns-in_ok-to_text-in-Text-clause-answers c =
    let ds = all_definitions c.args.self.now in
    let e = expression c.args.expression.now in
    let meant_pair = pair (meant ds (meaning_of_number ds) e) in
    let row = c.text_row.result in
    let is : plain_pair (text_alone c.in_ok-to_text-in-Text.field-0) ≡ meant_pair =
    ap (λ t. plain_pair (text_alone t)) c.in_ok-to_text-in-Text.ensures.bytes ∙ ap (λ x. pair (meant ds (meaning_of_number ds) x)) (sym (ap expression c.in-Text.is ∙ view-Text c.in-Text.text)) in
    let refused = subst (λ (p : ScalarPair). (question : Question) → RowRefusesQuestion row question ↔ ScalarRefuses p question) is c.text_row.ensures in
    scalar_result c.table_of-in-Text.result ds (meaning_of_number ds) e c.requires.scalar (row_alone c.table_of-in-Text.result row (ScalarRefuses meant_pair) c.table_of-in-Text.ensures.answers refused)

pub returns-in_ok-pair-in_default-clause-answers : goal.returns-in_ok-pair-in_default-clause-answers
returns-in_ok-pair-in_default-clause-answers c =
    let ds = all_definitions c.args.self.now in
    leaf_result c.scalar_table.result ds (meaning_of_number ds) (expression c.args.expression.now) c.in_ok-pair-in_default.field-0 c.requires.scalar c.in_ok-pair-in_default.ensures c.scalar_table.ensures.answers
