use Rattle.std.proofs.Common.{length, ap, arith, refl}
use Rattle.cue_lattice.specs.World.{piece_refuses}
use Rattle.cue_replica.specs.Language.{language}
use Rattle.cue_service.specs.Entries.{entry_of}
use Rattle.cue_service.specs.Requests.{piece_of_bytes}
use Rattle.cue_service.proofs.Admitted.{adds_same}
use Rattle.cue_service.proofs.Handing.{same_bytes}
use Rattle.cue_service.proofs.Listing.{listed_more, same_run_more}
use Rattle.cue_service.proofs.desk.SiteCore.add_alone.Goals as goal

pub returns-in-Ok-clause-ok : goal.returns-in-Ok-clause-ok
returns-in-Ok-clause-ok c =
    let piece = piece_of_bytes c.args.hand c.args.bytes.now in
    record {
      rules = refl;
      acceptable = c.requires.acceptable;
      fits = omega (arith, c.in_ok-queue.ensures.fits, ap length (same_bytes c.args.hand c.args.bytes.now));
      adds = adds_same c.args.self.now.board c.unify.new.self (language.table_refuses c.args.piece) (piece_refuses language piece) c.requires.alone c.in-Ok.ensures.adds;
      valid = c.in-Ok.ensures.valid;
      waits = c.in_ok-queue.ensures.waits;
      same_run = same_run_more c.args.self.now.pieces c.queue.new.pieces c.trim.new.self (entry_of piece) c.in_ok-queue.ensures.listed c.trim.ensures.gives_up;
      listed = listed_more c.args.self.now.pieces c.queue.new.pieces c.trim.new.self piece c.in_ok-queue.ensures.listed c.trim.ensures.gives_up;
    }
