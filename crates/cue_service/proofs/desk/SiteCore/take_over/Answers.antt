use Rattle.std.proofs.Common.{inl, refl, sym, subst, arith}
use Rattle.std.specs.Prelude.{IfSome}
use Rattle.cue_replica.specs.Language.{Table}
use Rattle.cue_lattice.specs.World.{state}
use Rattle.cue_service.specs.Entries.{entry_of}
use Rattle.cue_service.proofs.Listing.{listed_more, same_run_more}
use Rattle.cue_service.specs.Answering.{BringsState}
use Rattle.cue_service.proofs.desk.SiteCore.take_over.Goals as goal

pub returns-clause-ok : goal.returns-clause-ok
returns-clause-ok c =
    let found : IfSome c.in_ok-next.field-0 (BringsState c.args.bytes.now c.table.result.now) = c.in_ok-next.ensures.some in
    let next : BringsState c.args.bytes.now c.table.result.now c.in-Some.next = subst (λ o. IfSome o (BringsState c.args.bytes.now c.table.result.now)) c.in-Some.is found in
    let brings : BringsState c.args.bytes.now c.args.self.now.board c.replace.new.self =
    subst (λ (t : Table). BringsState c.args.bytes.now c.args.self.now.board t) (sym c.replace.ensures)
    (subst (λ (t : Table). BringsState c.args.bytes.now t c.in-Some.next) c.table.ensures next) in
    inl (record {
      rules = refl;
      acceptable = brings.is_state;
      fits = omega (arith, c.in_ok-queue.ensures.fits);
      adds = brings.adds;
      valid = brings.valid;
      waits = c.in_ok-queue.ensures.waits;
      same_run = same_run_more c.args.self.now.pieces c.queue.new.pieces c.trim.new.self (entry_of (state c.args.bytes.now)) c.in_ok-queue.ensures.listed c.trim.ensures.gives_up;
      listed = listed_more c.args.self.now.pieces c.queue.new.pieces c.trim.new.self (state c.args.bytes.now) c.in_ok-queue.ensures.listed c.trim.ensures.gives_up;
    })
