use Rattle.std.proofs.Common.{rules}
use Rattle.cue_lex.proofs.Words.{run_boundary, run_end, run_stop, run_next}
use Rattle.cue_lex.proofs.name.wide_len.Goals as goal

pub returns-then-not-is_name_part-clause-value : goal.returns-then-not-is_name_part-clause-value
returns-then-not-is_name_part-clause-value c = run_stop c.loop-c.invariant _ _ c.in-Some.ensures.steps.0 (search rules)

pub returns-then-not-is_name_part-clause-boundary : goal.returns-then-not-is_name_part-clause-boundary
returns-then-not-is_name_part-clause-boundary c = run_boundary c.loop-c.invariant

pub loop-c-preserved : goal.loop-c-preserved
loop-c-preserved c = run_next c.loop-c.invariant _ _ c.in-Some.ensures.steps.0 _ (search rules) (search rules)

pub returns-clause-value : goal.returns-clause-value
returns-clause-value c = run_end c.loop-c.invariant (search rules)

pub returns-clause-boundary : goal.returns-clause-boundary
returns-clause-boundary c = run_boundary c.loop-c.invariant
