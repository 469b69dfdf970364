use Rattle.cue_lattice.specs.World.{piece_refuses}
use Rattle.cue_replica.specs.Language.{language}
use Rattle.cue_service.specs.Requests.{piece_of_bytes}
use Rattle.cue_service.proofs.Admitted.{alone}
use Rattle.cue_service.proofs.admission.piece_alone.Goals as goal

pub returns-clause-alone : goal.returns-clause-alone
returns-clause-alone c = alone c.new-site.result c.submit_piece.new.site (piece_refuses language (piece_of_bytes c.args.hand c.args.bytes.now)) c.new-site.ensures c.in_ok-submit_piece.ensures.adds
