use Rattle.std.proofs.Common.{length, ap, arith, refl, sym, subst, ◌∙◌}
use Rattle.cue_lattice.specs.World.{piece_refuses}
use Rattle.cue_replica.specs.Language.{Table, language}
use Rattle.cue_replica.specs.Replica.{AddsRefusals}
use Rattle.cue_service.specs.Entries.{entry_of}
use Rattle.cue_service.specs.Requests.{piece_of_bytes}
use Rattle.std.specs.Prelude.{IfSome, Option}
use Rattle.cue_replica.specs.declared.question.SiteQuestion.{SiteQuestion}
use Rattle.cue_service.specs.Limits.{IsOverLimit}
use Rattle.cue_service.proofs.Admitted.{adds_same}
use Rattle.cue_service.proofs.Gathered.{same_desk}
use Rattle.cue_service.proofs.Handing.{same_bytes}
use Rattle.cue_service.proofs.Listing.{listed_more, same_run_more}
use Rattle.cue_service.proofs.desk.SiteCore.admit_measured.Goals as goal

pub returns-in-Some-clause-ok : goal.returns-in-Some-clause-ok
returns-in-Some-clause-ok c =
    let piece = piece_of_bytes c.args.hand c.args.bytes.now in (
      same_desk c.args.self.now,
      record {
        unified = c.unify.new.self;
        adds = adds_same c.args.self.now.board c.unify.new.self (language.table_refuses c.args.piece) (piece_refuses language piece) c.requires.alone
            (subst (λ (t : Table). AddsRefusals t (language.table_refuses c.args.piece) c.unify.new.self) (c.in_ok-next.ensures ∙ c.table.ensures) c.in_ok-unify.ensures.ok);
        question = c.in-Some.question;
        over = subst (λ (o : Option SiteQuestion). IfSome o (λ question. IsOverLimit c.args.self.now.rules.limit question c.unify.new.self)) c.in-Some.is c.in_ok-question.ensures;
      },
    )

pub returns-clause-ok : goal.returns-clause-ok
returns-clause-ok c =
    let piece = piece_of_bytes c.args.hand c.args.bytes.now in
    record {
      rules = refl;
      acceptable = c.requires.acceptable;
      fits = omega (arith, c.in_ok-queue.ensures.fits, ap length (same_bytes c.args.hand c.args.bytes.now));
      adds = subst (λ (t : Table). AddsRefusals c.args.self.now.board (piece_refuses language piece) t) (sym c.replace_measured.ensures)
          (adds_same c.args.self.now.board c.unify.new.self (language.table_refuses c.args.piece) (piece_refuses language piece) c.requires.alone
          (subst (λ (t : Table). AddsRefusals t (language.table_refuses c.args.piece) c.unify.new.self) (c.in_ok-next.ensures ∙ c.table.ensures) c.in_ok-unify.ensures.ok));
      valid = subst (λ (t : Table). language.IsValid t) (sym c.replace_measured.ensures) c.unify.ensures.valid;
      waits = c.in_ok-queue.ensures.waits;
      same_run = same_run_more c.args.self.now.pieces c.queue.new.pieces c.trim.new.self (entry_of piece) c.in_ok-queue.ensures.listed c.trim.ensures.gives_up;
      listed = listed_more c.args.self.now.pieces c.queue.new.pieces c.trim.new.self piece c.in_ok-queue.ensures.listed c.trim.ensures.gives_up;
    }
