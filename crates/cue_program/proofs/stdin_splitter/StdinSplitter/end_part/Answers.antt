use Rattle.std.proofs.Common.{[], ◌∷◌, ◌++◌, List, ℕ, map, subst}
use Rattle.cue_lattice.specs.World.{text}
use Rattle.cue_wire.proofs.Connections.{err_on}
use Rattle.cue_program.specs.inner.Gathered.{IsGathered}
use Rattle.cue_program.proofs.Takings.{part_stops, part_taken}
use Rattle.cue_program.proofs.stdin_splitter.StdinSplitter.end_part.Goals as goal

pub returns-in_err-take-clause-stop : goal.returns-in_err-take-clause-stop
returns-in_err-take-clause-stop c bytes h is =
    err_on c.from_residual.result c.in_err-take.field-0.0 _ c.from_residual.ensures.1 (part_stops c.args.self.now bytes _ c.saturating_add-self.result c.in_err-take.field-0.0 h is c.saturating_add-self.ensures c.deref.ensures.value c.in_err-take.ensures.refused)

pub returns-clause-taken : goal.returns-clause-taken
returns-clause-taken c bytes h is =
    part_taken c.args.self.now _ bytes h is c.saturating_add-self.ensures
    (subst (λ (t : List ℕ). IsGathered c.take.new.self (map text h.done ++ text t ∷ [])) c.deref.ensures.value (c.in_ok-take.ensures.taken (map text h.done) h.texts))
    c.clear.ensures.items c.clear-2.ensures.items
