use Rattle.std.proofs.Common.{subst}
use Rattle.cue_lattice.specs.World.{state}
use Rattle.cue_replica.specs.Language.{Table, language}
use Rattle.cue_replica.specs.Replica.{AddsRefusals}
use Rattle.cue_service.specs.Pulls.{CoversPiece}
use Rattle.cue_service.proofs.Pulls.{covers_added, err_on, state_why}
use Rattle.cue_service.proofs.desk.unify_bytes.Goals as goal

pub returns-clause-some : goal.returns-clause-some
returns-clause-some c = record {
  is_state = c.in_ok-take.ensures.state;
  adds = subst (λ (t : Table). AddsRefusals t (language.state_refuses c.args.bytes.now) c.take.new.self) c.in_ok-next.ensures c.in_ok-take.ensures.ok;
  valid = c.take.ensures.valid;
}

pub returns-then-same : goal.returns-then-same
returns-then-same c = record {
  some = tt;
  none = subst (λ (t : Table). CoversPiece t (state c.args.bytes.now)) (c.same.ensures.0 c.if-same.true)
      (covers_added c.args.site.now c.take.new.self (state c.args.bytes.now)
      (subst (λ (t : Table). AddsRefusals t (language.state_refuses c.args.bytes.now) c.take.new.self) c.in_ok-next.ensures c.in_ok-take.ensures.ok));
  refused = tt;
}

pub returns-in_err-take-clause-refused : goal.returns-in_err-take-clause-refused
returns-in_err-take-clause-refused c =
    err_on c.from_residual-in_err-take.result c.in_err-take.field-0.0 _ c.from_residual-in_err-take.ensures.1 (state_why c.args.bytes.now _ c.in_err-take.ensures.refused)
