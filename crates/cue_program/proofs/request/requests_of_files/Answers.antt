use Rattle.std.proofs.Common.{◌++◌, ◌∷◌, ℕ, List, Option, rules, sym, subst, ap, inr, ⊎_elim, ◌+◌, ◌-◌, ◌^◌, min, map, take, drop, ◌∙◌, []}
use Rattle.cue_wire.specs.declared.request.Request as requests
use Rattle.cue_wire.proofs.Connections.{err_on}
use Rattle.cue_program.specs.Files.{known_at, texts_of_files}
use Rattle.cue_program.specs.Inputs.{files}
use Rattle.cue_program.specs.Requests.{AreRequests, CanBeSent, IsRequestFault, IsUnsentOn}
use Rattle.cue_program.proofs.SubmittedInputs.{take_known, split_known}
use Rattle.cue_program.proofs.Requests.{files_sent_none, files_sent_more, files_unsent, files_sent_unread}
use Rattle.cue_program.proofs.Keeping.{fine_is_all, refused_is_all, long_fault, long_is_unsent}
use Rattle.cue_program.proofs.request.requests_of_files.Goals as goal

pub loop-name-init : goal.loop-name-init
loop-name-init g c = record {
  sent = subst (AreRequests (files [])) (sym c.new-requests.ensures.items) files_sent_none;
  room = search rules;
}

pub returns-in_err-file-clause-stop : goal.returns-in_err-file-clause-stop
returns-in_err-file-clause-stop g c =
    let K = known_at (g.H.FileSystem.held c.args.rt.now) in
    let names = c.args.names.now in
    let i = c.loop-name.name-index in
    err_on c.from_residual-in_err-file.result c.in_err-file.field-0.0 _ c.from_residual-in_err-file.ensures.1 (subst (λ (ks : List (Option (List ℕ))). IsUnsentOn (files ks) c.in_err-file.field-0.0)
    (sym (split_known K names i _ c.loop-name-test.true))
    (files_sent_unread (map K (texts_of_files (take i names))) (map K (texts_of_files (drop (i + 1) names))) _ c.loop-name.requests.items c.in_err-file.field-0.0
    c.loop-name.invariant.sent c.in_err-file.ensures.unread))

pub returns-in_err-request-clause-stop : goal.returns-in_err-request-clause-stop
returns-in_err-request-clause-stop g c =
    let K = known_at (g.H.FileSystem.held c.args.rt.now) in
    let names = c.args.names.now in
    let i = c.loop-name.name-index in
    err_on c.from_residual-in_err-request.result c.in_err-request.field-0.0 _ c.from_residual-in_err-request.ensures.1 (⊎_elim
    (λ fault.
    let whole = refused_is_all IsRequestFault _ c.in_ok-file.file.bytes.items c.saturating_add-number.result c.in_err-request.field-0.0 long_fault c.in_ok-file.ensures.all fault in
    subst (λ (ks : List (Option (List ℕ))). IsUnsentOn (files ks) c.in_err-request.field-0.0)
    (sym (split_known K names i _ c.loop-name-test.true))
    (files_unsent (map K (texts_of_files (take i names))) (map K (texts_of_files (drop (i + 1) names))) _ c.loop-name.requests.items c.saturating_add-number.result
    whole.0 c.in_err-request.field-0.0 c.loop-name.invariant.sent whole.1
    (c.saturating_add-number.ensures ∙ ap (λ n. min (n + 1) (2 ^ 64 - 1)) (c.len.ensures ∙ c.loop-name.requests.ok.0)) whole.2))
    (λ memory. inr (inr memory))
    c.in_err-request.ensures.stop)

pub loop-name-preserved : goal.loop-name-preserved
loop-name-preserved g c =
    let K = known_at (g.H.FileSystem.held c.args.rt.now) in
    let names = c.args.names.now in
    let i = c.loop-name.name-index in
    let sent = c.in_ok-request.ensures.request in
    record {
      sent = subst (λ (rs : List requests.Request). AreRequests (files (map K (texts_of_files (take (i + 1) names)))) rs) (sym c.in_ok-push.ensures.items)
          (subst (λ (ks : List (Option (List ℕ))). AreRequests (files ks) (c.loop-name.requests.items ++ c.in_ok-request.request ∷ []))
          (sym (take_known K names i _ c.loop-name-test.true))
          (files_sent_more (map K (texts_of_files (take i names))) _ c.in_ok-file.file.bytes.items c.loop-name.requests.items c.in_ok-request.request
          c.loop-name.invariant.sent (fine_is_all CanBeSent _ c.in_ok-file.file.bytes.items long_is_unsent c.in_ok-file.ensures.all sent.0 sent.1 sent.2) sent));
      room = search rules;
    }
