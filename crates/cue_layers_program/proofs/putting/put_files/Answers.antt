use Rattle.std.proofs.Common.{List, [], ◌∷◌, subst, arith}
use Rattle.cue_lattice.specs.World.{state}
use Rattle.cue_layers.specs.Join.{IsOnePut}
use Rattle.cue_layers.specs.Refusals.{IsPutRefusal}
use Rattle.cue_layers.specs.declared.Layer.{Layer}
use Rattle.cue_program.specs.Files.{texts_of_files}
use Rattle.cue_program.specs.Inputs.{inputs_of}
use Rattle.cue_layers_program.proofs.Changes.{AreOf, change_refused, changed}
use Rattle.cue_layers_program.proofs.Results.{err_as}
use Rattle.cue_layers_program.specs.Stops.{IsRefusalLayersStop}
use Rattle.cue_layers_program.proofs.putting.put_files.Goals as goal

pub returns-in_err-revision-clause-stop : goal.returns-in_err-revision-clause-stop
returns-in_err-revision-clause-stop g c =
    let inputs = inputs_of (g.H.FileSystem.held c.args.rt.now) (texts_of_files c.args.files.now) (g.R.Read.remaining c.args.input.now) in
    let site = c.in_ok-site.site in
    let bytes = c.in_ok-state.field-0.items in
    let holds = c.in_ok-site.ensures.holds in
    let of : AreOf site bytes = record { valid = holds.2.1.0; written = c.in_ok-state.ensures; held = omega arith } in
    let why = c.in_err-revision.field-0.0 in
    let P : List Layer → Type 0 = λ layers. IsPutRefusal layers c.args.kind c.args.name.now (state bytes ∷ []) why in
    err_as c.from_residual-in_err-revision.result (λ stop. IsRefusalLayersStop why stop) _ c.from_residual-in_err-revision.ensures.1
    (λ stop is. change_refused c.args.before.now c.args.kind c.args.name.now inputs site bytes why stop c.requires holds of (subst P c.in_ok-after.ensures c.in_err-revision.ensures.refused) is)

pub returns-clause-changed : goal.returns-clause-changed
returns-clause-changed g c =
    let inputs = inputs_of (g.H.FileSystem.held c.args.rt.now) (texts_of_files c.args.files.now) (g.R.Read.remaining c.args.input.now) in
    let site = c.in_ok-site.site in
    let bytes = c.in_ok-state.field-0.items in
    let holds = c.in_ok-site.ensures.holds in
    let of : AreOf site bytes = record { valid = holds.2.1.0; written = c.in_ok-state.ensures; held = omega arith } in
    let revision = c.in_ok-revision.revision in
    let P : List Layer → Type 0 = λ layers. IsOnePut layers c.args.kind c.args.name.now (state bytes ∷ []) c.put.new.self revision in
    changed c.args.before.now c.put.new.self c.args.kind c.args.name.now inputs site bytes revision holds of (subst P c.in_ok-after.ensures c.in_ok-revision.ensures.ok)
