use Rattle.std.proofs.Common.{◌≡◌, ◌⊎◌, ⊎_elim, ◌<◌, Some, rules, length, inl, inr, subst, sym, IfOk, IfErr}
use Rattle.std.proofs.lemmas.Result.{IfOk-weaker, IfErr-weaker}
use Rattle.cue_replica.specs.Accepted.{IsAcceptable}
use Rattle.cue_wire.proofs.Connections.{err_on}
use Rattle.cue_program.specs.Files.{texts_of_files}
use Rattle.cue_program.specs.Inputs.{Inputs, IsUnified, IsInputRefused, IsInputUnread, IsPieceRefusal, inputs_of, stream}
use Rattle.cue_program.specs.Runs.{IsStopOn}
use Rattle.cue_program.specs.Stops.{IsMemoryStop}
use Rattle.cue_program.proofs.Pieces.{held_in_memory}
use Rattle.cue_program.proofs.Streams.{held_of_known, refused_of_known, inputs_none, inputs_some}
use Rattle.cue_program.proofs.run.site_for.Goals as goal

pub returns-clause-holds : goal.returns-clause-holds
returns-clause-holds g c =
    let held = g.H.FileSystem.held c.args.rt.now in
    let known = g.R.Read.remaining c.args.input.now in
    let empty : length c.args.files.now ≡ 0 = search rules in
    let read = c.in_ok-input.ensures.all in
    IfOk-weaker c.site_of.result (IsUnified (stream (Some read.0))) (IsUnified (inputs_of held (texts_of_files c.args.files.now) known))
    (λ site h. subst (λ (i : Inputs). IsUnified i site) (sym (inputs_none held c.args.files.now known empty)) (held_of_known known read.0 site read.1 h))
    (c.site_of.ensures.holds read.0 (read.2, held_in_memory read.0 read.3))

pub returns-clause-stop : goal.returns-clause-stop
returns-clause-stop g c =
    let held = g.H.FileSystem.held c.args.rt.now in
    let known = g.R.Read.remaining c.args.input.now in
    let empty : length c.args.files.now ≡ 0 = search rules in
    let read = c.in_ok-input.ensures.all in
    IfErr-weaker c.site_of.result (λ stop. IsInputRefused (stream (Some read.0)) stop ⊎ IsMemoryStop stop) (IsStopOn (inputs_of held (texts_of_files c.args.files.now) known))
    (λ stop why. ⊎_elim
    (λ h. inl (subst (λ (i : Inputs). IsInputRefused i stop) (sym (inputs_none held c.args.files.now known empty)) (refused_of_known IsAcceptable IsPieceRefusal known read.0 stop read.1 h)))
    (λ memory. inr (inr memory)) why)
    (c.site_of.ensures.stop read.0 (read.2, held_in_memory read.0 read.3))

pub returns-in_err-input-clause-stop : goal.returns-in_err-input-clause-stop
returns-in_err-input-clause-stop g c =
    let held = g.H.FileSystem.held c.args.rt.now in
    let known = g.R.Read.remaining c.args.input.now in
    let empty : length c.args.files.now ≡ 0 = search rules in
    err_on c.from_residual.result c.in_err-input.field-0.0 _ c.from_residual.ensures.1
    (inr (inl (subst (λ (i : Inputs). IsInputUnread i c.in_err-input.field-0.0) (sym (inputs_none held c.args.files.now known empty)) c.in_err-input.ensures.fault)))

pub returns-then-not-is_empty-clause-holds : goal.returns-then-not-is_empty-clause-holds
returns-then-not-is_empty-clause-holds g c =
    let held = g.H.FileSystem.held c.args.rt.now in
    let known = g.R.Read.remaining c.args.input.now in
    let some : 0 < length c.args.files.now = search rules in
    subst (λ (i : Inputs). IfOk c.site_of_files.result (IsUnified i)) (sym (inputs_some held c.args.files.now known some)) c.site_of_files.ensures.holds

pub returns-then-not-is_empty-clause-stop : goal.returns-then-not-is_empty-clause-stop
returns-then-not-is_empty-clause-stop g c =
    let held = g.H.FileSystem.held c.args.rt.now in
    let known = g.R.Read.remaining c.args.input.now in
    let some : 0 < length c.args.files.now = search rules in
    subst (λ (i : Inputs). IfErr c.site_of_files.result (IsStopOn i)) (sym (inputs_some held c.args.files.now known some)) c.site_of_files.ensures.stop
