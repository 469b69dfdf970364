use Rattle.std.proofs.Common.{subst, refl, Bool, Option}
use Rattle.std.specs.Prelude.{IfSome, IfNone}
use Rattle.std.specs.Option.{option_map}
use Rattle.cue_report.specs.Inner.GapSearch.{IsGapAt}
use Rattle.cue_report.specs.Inner.Trail.{shown_steps}
use Rattle.cue_report.proofs.FoundGaps.{looked_none, looked_one}
use Rattle.cue_report.proofs.GapFronts.{fronts_none, looked_begun}
use Rattle.cue_report.proofs.Writing.{on_any}
use Rattle.cue_report.proofs.gap.look_at.Goals as goal

pub returns-in_err-gap_at-clause-begun : goal.returns-in_err-gap_at-clause-begun
returns-in_err-gap_at-clause-begun g c = on_any _ (fronts_none g.S.GapSink.piece _ _ _ _ refl)

pub returns-in_err-gap-in-Some-clause-begun : goal.returns-in_err-gap-in-Some-clause-begun
returns-in_err-gap-in-Some-clause-begun g c =
    let row = option_map (λ row. row.now) c.args.row in
    let lacking = let P : Option Bool → Type 0 = λ found. IfSome found (IsGapAt row) in subst P c.in-Some.is c.in_ok-gap_at.ensures.some in
    on_any _ (looked_begun g.S.GapSink.piece c.args.not_allowed c.in-Some.missing row (shown_steps c.args.steps.now) (g.S.GapSink.tally c.args.sink.now c.args.out.now) (g.S.GapSink.tally c.gap.new.self c.gap.new.out)
    c.if-not_allowed.false lacking c.in_err-gap-in-Some.ensures.begun)

pub returns-in-None-clause-gaps : goal.returns-in-None-clause-gaps
returns-in-None-clause-gaps g c =
    let row = option_map (λ row. row.now) c.args.row in
    let none = let P : Option Bool → Type 0 = λ found. IfNone found ((missing : Bool) → IsGapAt row missing → ⊥) in subst P c.in-None.is c.in_ok-gap_at.ensures.none in
    looked_none g.S.GapSink.piece c.args.not_allowed row (shown_steps c.args.steps.now) (g.S.GapSink.tally c.args.sink.now c.args.out.now) (λ missing e. none missing)

pub returns-in_ok-gap-in-Some-clause-gaps : goal.returns-in_ok-gap-in-Some-clause-gaps
returns-in_ok-gap-in-Some-clause-gaps g c =
    let row = option_map (λ row. row.now) c.args.row in
    let lacking = let P : Option Bool → Type 0 = λ found. IfSome found (IsGapAt row) in subst P c.in-Some.is c.in_ok-gap_at.ensures.some in
    looked_one g.S.GapSink.piece c.args.not_allowed c.in-Some.missing row (shown_steps c.args.steps.now) (g.S.GapSink.tally c.args.sink.now c.args.out.now) (g.S.GapSink.tally c.gap.new.self c.gap.new.out)
    c.if-not_allowed.false lacking c.in_ok-gap-in-Some.ensures.told
