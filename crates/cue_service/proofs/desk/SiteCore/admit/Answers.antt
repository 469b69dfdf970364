use Rattle.std.proofs.Common.{refl}
use Rattle.cue_service.specs.declared.admission.Admission.TheVariants.{Accepted}
use Rattle.cue_service.specs.Requests.{piece_of_bytes}
use Rattle.cue_service.proofs.Admitted.{admitted_from, admitted_from_if}
use Rattle.cue_service.proofs.desk.SiteCore.admit.Goals as goal

pub returns-then-stays_within-clause-ok : goal.returns-then-stays_within-clause-ok
returns-then-stays_within-clause-ok c =
    admitted_from (piece_of_bytes c.args.hand c.args.bytes.now) Accepted c.args.self.now (record c.args.self.now { board = c.stays_within.new.self }) c.add_alone.new.self
    (record { rules = refl; table = c.stays_within.ensures; waits = refl; pieces = refl })
    c.in_ok-add_alone.ensures.ok

pub returns-clause-ok : goal.returns-clause-ok
returns-clause-ok c =
    admitted_from_if c.admit_measured.result (piece_of_bytes c.args.hand c.args.bytes.now) c.args.self.now (record c.args.self.now { board = c.stays_within.new.self }) c.admit_measured.new.self
    (record { rules = refl; table = c.stays_within.ensures; waits = refl; pieces = refl })
    c.admit_measured.ensures.ok
