use Rattle.std.proofs.Common.{ℕ, List, length, ap, arith, refl, ◌≡◌}
use Rattle.cue_service.specs.declared.route.PieceKind.{PieceKind}
use Rattle.cue_service.specs.declared.route.PieceKind.TheVariants as hands
use Rattle.cue_service.specs.Refusals.{bytes_in}
use Rattle.cue_service.specs.Entries.{entry_of}
use Rattle.cue_service.specs.Requests.{piece_of_bytes}
use Rattle.cue_service.proofs.Listing.{listed_more, same_run_more}
use Rattle.cue_service.proofs.desk.SiteCore.accept.Goals as goal

same_bytes : (hand : PieceKind) (bytes : List ℕ) → bytes_in (piece_of_bytes hand bytes) ≡ bytes
same_bytes hands.Text bytes = refl
same_bytes hands.State bytes = refl

pub returns-in-Ok-clause-ok : goal.returns-in-Ok-clause-ok
returns-in-Ok-clause-ok c = record {
  rules = refl;
  acceptable = c.in-Ok.ensures.acceptable;
  fits = omega (arith, c.in_ok-queue.ensures.fits, ap length (same_bytes c.args.hand c.args.bytes.now));
  adds = c.in-Ok.ensures.adds;
  valid = c.in-Ok.ensures.valid;
  waits = c.in_ok-queue.ensures.waits;
  same_run = same_run_more c.args.self.now.pieces c.queue.new.pieces c.trim.new.self (entry_of (piece_of_bytes c.args.hand c.args.bytes.now)) c.in_ok-queue.ensures.listed c.trim.ensures.gives_up;
  listed = listed_more c.args.self.now.pieces c.queue.new.pieces c.trim.new.self (piece_of_bytes c.args.hand c.args.bytes.now) c.in_ok-queue.ensures.listed c.trim.ensures.gives_up;
}
