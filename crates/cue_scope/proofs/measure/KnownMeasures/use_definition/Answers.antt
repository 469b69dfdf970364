use Rattle.std.proofs.Common.{sym, subst}
use Rattle.cue_scope.specs.Kept.{nodes_kept}
use Rattle.cue_scope.specs.Meaning.{meaning_of_number}
use Rattle.cue_scope.specs.Definitions.{number_of_name}
use Rattle.cue_scope.specs.Measures.{IsUse}
use Rattle.cue_scope.proofs.Measuring.{use_found, use_listed}
use Rattle.cue_scope.proofs.measure.KnownMeasures.use_definition.Goals as goal

pub returns-in-None-get : goal.returns-in-None-get
returns-in-None-get c = λ known.
    let found = known c.in-Some.number (use_listed (number_of_name c.args.name.now (nodes_kept c.args.self.now.definitions.now)) c.in-Some.number c.in-Some.ensures) in
    let e = c.in-None-get.ensures.lookup.2 found.0 in
    absurd (cc)

pub returns-in-Some-get : goal.returns-in-Some-get
returns-in-Some-get c = λ known.
    let ds = nodes_kept c.args.self.now.definitions.now in
    let found = known c.in-Some.number (use_listed (number_of_name c.args.name.now ds) c.in-Some.number c.in-Some.ensures) in
    let measured = subst (λ m. IsUse m (meaning_of_number ds c.in-Some.number)) (sym c.in-Some-get.ensures.lookup.1) (found.1 c.in-Some-get.measure.now) in
    use_found (meaning_of_number ds) (number_of_name c.args.name.now ds) c.in-Some.number c.in-Some-get.measure.now c.in-Some.ensures measured
