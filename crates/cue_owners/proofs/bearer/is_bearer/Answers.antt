use Rattle.cue_owners.proofs.Bearers.{with_scheme, without_scheme}
use Rattle.cue_owners.proofs.bearer.is_bearer.Goals as goal

pub returns-then-eq_ignore_ascii_case : goal.returns-then-eq_ignore_ascii_case
returns-then-eq_ignore_ascii_case c =
    with_scheme c.args.token.now c.args.field.now c.in-Some.scheme.now c.in-Some.rest.now c.same_bytes.result c.in-Some.ensures.cases.1 c.in-Some.ensures.cases.2 (c.eq_ignore_ascii_case.ensures.test.0 c.if-eq_ignore_ascii_case.true) c.same_bytes.ensures

pub returns-else-eq_ignore_ascii_case : goal.returns-else-eq_ignore_ascii_case
returns-else-eq_ignore_ascii_case c =
    without_scheme c.args.token.now c.args.field.now c.in-Some.scheme.now c.eq_ignore_ascii_case.result c.if-eq_ignore_ascii_case.false c.in-Some.ensures.cases.1 c.eq_ignore_ascii_case.ensures.test
