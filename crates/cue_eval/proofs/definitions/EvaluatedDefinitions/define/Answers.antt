use Rattle.std.proofs.Common.{◌≡◌, true, false, sym, ap, subst, ◌∙◌}
use Rattle.std.specs.Prelude.{IsTrue}
use Rattle.cue_scope.specs.Core.{is_scalar}
use Rattle.cue_scope.specs.Kept.{nodes_kept}
use Rattle.cue_scope.specs.Listed.{definition_of}
use Rattle.cue_scope.specs.Meaning.{meaning_of_number, meant}
use Rattle.cue_scope.specs.Uses.{uses}
use Rattle.cue_eval.specs.Inner.Finding.{body_of, IsDefinable, IsKept}
use Rattle.cue_eval.specs.Inner.Known.{IsPairOf}
use Rattle.cue_eval.specs.Pairs.{pair}
use Rattle.cue_eval.proofs.Defining.{pairable_of, pair_of_body}
use Rattle.cue_eval.proofs.definitions.EvaluatedDefinitions.define.Goals as goal
use Rattle.cue_eval.proofs.definitions.EvaluatedDefinitions.define.Goals.{then-is_scalar+in_ok-pair, else-is_scalar}

pub pair-requires : goal.pair-requires
pair-requires c =
    let same = ap nodes_kept c.tables-tables.ensures.definitions in
    let d = definition_of c.args.definition.now in
    let can = subst (λ ds. IsDefinable ds d c.args.self.now) (sym same) c.requires.definable in
    let kept = subst (λ ds. IsKept (uses ds d.value) c.args.self.now c.close_body.new.self) (sym same) c.in_ok-closed.ensures.kept in
    let sure : IsTrue (is_scalar (body_of (nodes_kept c.args.definitions.now) d)) = sym c.requires.is_scalar ∙ c.if-is_scalar.true in
    pairable_of c.args.self.now c.close_body.new.self c.tables-tables.result d kept c.tables-tables.ensures.pairs can
    (subst (λ ds. IsTrue (is_scalar (body_of ds d))) (sym same) sure)

pub returns-clause-defined : goal.returns-clause-defined
returns-clause-defined c =
    let ds = nodes_kept c.args.definitions.now in
    let d = definition_of c.args.definition.now in
    let closed = c.in_ok-closed.ensures.closed in record {
      pair = λ sure. elim c.if-is_scalar.branch [
        | then-is_scalar+in_ok-pair w ↦
            let same = ap nodes_kept w.tables-tables.ensures.definitions in
            subst (λ p. IsPairOf (body_of ds d) p) (sym w.pair-is)
            (w.in_ok-pair.ensures ∙ ap (λ zs. pair (meant zs (meaning_of_number zs) d.value)) same ∙ sym (pair_of_body ds d sure))
        | else-is_scalar w ↦ let no : false ≡ true = sym w.if-is_scalar.false ∙ c.requires.is_scalar ∙ sure in absurd (cc)
      ];
      rows = record { form = closed.form; answers = closed.answers };
      dots = record { form = closed.dots.form; told = closed.dots.told };
    }
