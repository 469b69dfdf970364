use Rattle.std.proofs.Common.{◌≡◌, ◌∙◌, ◌++◌, [], ◌∷◌, length, ap, sym, subst, arith, rules}
use Rattle.std.proofs.lemmas.List.{length-append}
use Rattle.cue_syntax.specs.Viability.{BeginsLabel}
use Rattle.cue_syntax.specs.Recogniser.{MovesStack, ParserRefusesAt, value, chains}
use Rattle.cue_syntax.proofs.RowsGrow.{labels_push}
use Rattle.cue_syntax.proofs.MovesAndStops.{err_from, stopped}
use Rattle.cue_syntax.proofs.MovesOverLabels.{chain_next, chain_refused, opens_label, misses_value}
use Rattle.cue_syntax.proofs.OpensLevels.{labels_lead}
use Rattle.cue_syntax.proofs.ValuesAreExpressions.{keyword_refused}
use Rattle.cue_syntax.proofs.label.labels.Goals as goal

pub chain-preserved : goal.chain-preserved
chain-preserved c =
    let pushed : c.push.new.values.items ≡ c.chain.labels.items ++ c.in_ok-label.label ∷ [] = search rules in
    record {
      shorter = omega (arith, c.in_ok-label.ensures.further.shorter);
      levels = omega (arith, ap length pushed, length-append c.chain.labels.items (c.in_ok-label.label ∷ []), c.in_ok-left.ensures.left);
      reads = rw pushed (labels_push c.chain.labels.items c.in_ok-label.label c.chain.invariant.reads c.in_ok-label.ensures.spelled);
      end = c.in_ok-label.ensures.further.end ∙ c.chain.invariant.end;
      moves = subst (λ z. MovesStack c.args.room (value ∷ []) c.args.cursor.rest.now (value ∷ chains z) c.in_ok-label.after.rest.now) (sym pushed)
          (chain_next c.in_ok-left.left c.chain.labels.items c.in_ok-label.label (omega (arith, c.in_ok-left.ensures.left, c.chain.invariant.levels)) c.chain.invariant.moves c.in_ok-label.ensures.spelled);
    }

pub returns-in_err-left-clause-refused : goal.returns-in_err-left-clause-refused
returns-in_err-left-clause-refused c =
    let l = c.chain in
    let zero : 0 ≡ l.left = sym c.in_err-left.ensures.none in
    let here : ParserRefusesAt l.left l.rest.end (value ∷ []) l.rest.rest.now c.in_err-left.field-0.0 =
    subst (λ z. ParserRefusesAt z l.rest.end (value ∷ []) l.rest.rest.now c.in_err-left.field-0.0) zero (stopped (opens_label (c.begins_label.ensures.0 c.chain-test.true) c.in_err-left.ensures.refused)) in
    err_from (λ r. ParserRefusesAt c.args.room c.args.cursor.end (value ∷ []) c.args.cursor.rest.now r) c.from_residual.result _ c.from_residual.ensures.1
    (chain_refused l.left l.labels.items l.invariant.levels l.invariant.end l.invariant.moves (labels_lead l.labels.items l.invariant.reads) here)

pub returns-in_err-label-clause-refused : goal.returns-in_err-label-clause-refused
returns-in_err-label-clause-refused c =
    let l = c.chain in
    err_from (λ r. ParserRefusesAt c.args.room c.args.cursor.end (value ∷ []) c.args.cursor.rest.now r) c.from_residual-in_err-label.result _ c.from_residual-in_err-label.ensures.1
    (chain_refused l.left l.labels.items l.invariant.levels l.invariant.end l.invariant.moves (labels_lead l.labels.items l.invariant.reads) (misses_value (omega (arith, c.in_ok-left.ensures.left)) c.in_err-label.ensures.refused))

pub returns-in_err-refuse_keyword-clause-refused : goal.returns-in_err-refuse_keyword-clause-refused
returns-in_err-refuse_keyword-clause-refused c =
    let l = c.chain in
    let label : ¬ BeginsLabel l.rest.rest.now = search rules in
    err_from (λ r. ParserRefusesAt c.args.room c.args.cursor.end (value ∷ []) c.args.cursor.rest.now r) c.from_residual-in_err-refuse_keyword.result _ c.from_residual-in_err-refuse_keyword.ensures.1
    (chain_refused l.left l.labels.items l.invariant.levels l.invariant.end l.invariant.moves (labels_lead l.labels.items l.invariant.reads) (keyword_refused label c.in_err-refuse_keyword.ensures.refused))
