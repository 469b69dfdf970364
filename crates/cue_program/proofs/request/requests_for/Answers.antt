use Rattle.std.proofs.Common.{◌≡◌, ◌<◌, List, ℕ, Some, rules, length, inl, inr, subst, sym, IfOk, IfErr}
use Rattle.std.specs.Prelude.{Vec}
use Rattle.std.specs.Global.{Global}
use Rattle.std.proofs.lemmas.Result.{IfOk-weaker, IfErr-weaker}
use Rattle.cue_wire.proofs.Connections.{err_on}
use Rattle.cue_wire.specs.declared.request.Request as requests
use Rattle.cue_program.specs.Files.{AreAll, texts_of_files}
use Rattle.cue_program.specs.Inputs.{Inputs, inputs_of, stream}
use Rattle.cue_program.specs.Requests.{AreRequests, IsUnsentOn}
use Rattle.cue_program.proofs.Requests.{sent_of_known, unsent_of_known}
use Rattle.cue_program.proofs.Streams.{inputs_none, inputs_some}
use Rattle.cue_program.proofs.request.requests_for.Goals as goal

pub returns-clause-requests : goal.returns-clause-requests
returns-clause-requests g c =
    let held = g.H.FileSystem.held c.args.rt.now in
    let known = g.R.Read.remaining c.args.input.now in
    let empty : length c.args.files.now ≡ 0 = search rules in
    let all : AreAll known c.in_ok-bytes.bytes.items = subst (λ (b : List ℕ). AreAll known b) (sym c.in_ok-bytes.ensures.all.2) c.in_ok-bytes.ensures.all.1 in
    IfOk-weaker c.requests_of.result (λ (asked : Vec requests.Request Global). AreRequests (stream (Some c.in_ok-bytes.bytes.items)) asked.items)
    (λ (asked : Vec requests.Request Global). AreRequests (inputs_of held (texts_of_files c.args.files.now) known) asked.items)
    (λ asked h. subst (λ (i : Inputs). AreRequests i asked.items) (sym (inputs_none held c.args.files.now known empty))
    (sent_of_known known c.in_ok-bytes.bytes.items asked.items all h))
    c.requests_of.ensures.requests

pub returns-clause-stop : goal.returns-clause-stop
returns-clause-stop g c =
    let held = g.H.FileSystem.held c.args.rt.now in
    let known = g.R.Read.remaining c.args.input.now in
    let empty : length c.args.files.now ≡ 0 = search rules in
    let all : AreAll known c.in_ok-bytes.bytes.items = subst (λ (b : List ℕ). AreAll known b) (sym c.in_ok-bytes.ensures.all.2) c.in_ok-bytes.ensures.all.1 in
    IfErr-weaker c.requests_of.result (IsUnsentOn (stream (Some c.in_ok-bytes.bytes.items))) (IsUnsentOn (inputs_of held (texts_of_files c.args.files.now) known))
    (λ stop h. subst (λ (i : Inputs). IsUnsentOn i stop) (sym (inputs_none held c.args.files.now known empty)) (unsent_of_known known c.in_ok-bytes.bytes.items stop all h))
    c.requests_of.ensures.stop

pub returns-in_err-bytes-clause-stop : goal.returns-in_err-bytes-clause-stop
returns-in_err-bytes-clause-stop g c =
    let held = g.H.FileSystem.held c.args.rt.now in
    let known = g.R.Read.remaining c.args.input.now in
    let empty : length c.args.files.now ≡ 0 = search rules in
    err_on c.from_residual.result c.in_err-bytes.field-0.0 _ c.from_residual.ensures.1
    (subst (λ (i : Inputs). IsUnsentOn i c.in_err-bytes.field-0.0) (sym (inputs_none held c.args.files.now known empty)) (inr (inl c.in_err-bytes.ensures.fault)))

pub returns-then-not-is_empty-clause-requests : goal.returns-then-not-is_empty-clause-requests
returns-then-not-is_empty-clause-requests g c =
    let held = g.H.FileSystem.held c.args.rt.now in
    let known = g.R.Read.remaining c.args.input.now in
    let some : 0 < length c.args.files.now = search rules in
    subst (λ (i : Inputs). IfOk c.requests_of_files.result (λ (asked : Vec requests.Request Global). AreRequests i asked.items)) (sym (inputs_some held c.args.files.now known some))
    c.requests_of_files.ensures.requests

pub returns-then-not-is_empty-clause-stop : goal.returns-then-not-is_empty-clause-stop
returns-then-not-is_empty-clause-stop g c =
    let held = g.H.FileSystem.held c.args.rt.now in
    let known = g.R.Read.remaining c.args.input.now in
    let some : 0 < length c.args.files.now = search rules in
    subst (λ (i : Inputs). IfErr c.requests_of_files.result (IsUnsentOn i)) (sym (inputs_some held c.args.files.now known some)) c.requests_of_files.ensures.stop
