use Rattle.std.proofs.Common.{sym, subst, arith}
use Rattle.cue_codec.specs.declared.version.Version.{Version}
use Rattle.cue_codec.specs.Parts.{index_bytes}
use Rattle.cue_codec.specs.Reading.{ReadsItem, ReadsNoItem, IsIndex}
use Rattle.cue_codec.proofs.Numbers.{index_cut, index_found}
use Rattle.cue_codec.proofs.reading.index_at.Goals as goal

pub returns-in_err-fixed-in-Second-clause-none : goal.returns-in_err-fixed-in-Second-clause-none
returns-in_err-fixed-in-Second-clause-none c =
    rw c.from_residual.ensures
    (subst (λ (v : Version). ReadsNoItem (IsIndex v) (index_bytes v) c.args.bytes.now) (sym c.in-Second.is) (index_cut c.args.bytes.now c.in_err-fixed-in-Second.ensures))

pub returns-in_ok-fixed-in-Second-clause-some : goal.returns-in_ok-fixed-in-Second-clause-some
returns-in_ok-fixed-in-Second-clause-some c =
    rw c.from.ensures
    (subst (λ (v : Version). ReadsItem (IsIndex v) (index_bytes v) c.in_ok-fixed-in-Second.fixed c.args.bytes.now c.in_ok-fixed-in-Second.rest.now) (sym c.in-Second.is)
    (index_found c.args.bytes.now c.in_ok-fixed-in-Second.rest.now c.in_ok-fixed-in-Second.fixed (λ i. omega (arith, c.type_inv.bytes i)) c.in_ok-fixed-in-Second.ensures))
