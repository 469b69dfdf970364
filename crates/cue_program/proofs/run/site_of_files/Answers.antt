use Rattle.std.proofs.Common.{◌≡◌, Bor, ℕ, List, Option, rules, sym, subst, ap, inl, inr, ⊎_elim, ◌+◌, map, take, drop, ◌∙◌, arith}
use Rattle.std.proofs.lemmas.List.{take_all}
use Rattle.cue_replica.specs.Accepted.{IsAcceptable}
use Rattle.cue_wire.proofs.Connections.{err_on}
use Rattle.cue_program.specs.Files.{known_at, texts_of_files}
use Rattle.cue_program.specs.Inputs.{IsInputRefused, IsInputUnread, files}
use Rattle.cue_program.proofs.SubmittedInputs.{HasTakenFiles, files_fine, files_none, files_more, files_refused, files_unread, take_known, split_known, length_known}
use Rattle.cue_program.proofs.Pieces.{held_in_memory}
use Rattle.cue_program.proofs.run.site_of_files.Goals as goal

pub loop-name-init : goal.loop-name-init
loop-name-init g c = record {
  taken = files_none c.new-gathered.result c.new-gathered.ensures;
  counted = search rules;
  room = search rules;
}

pub returns-in_err-file-clause-stop : goal.returns-in_err-file-clause-stop
returns-in_err-file-clause-stop g c =
    let K = known_at (g.H.FileSystem.held c.args.rt.now) in
    let names = c.args.names.now in
    let i = c.loop-name.name-index in
    let front = map K (texts_of_files (take i names)) in
    let taken = c.loop-name.invariant.taken in
    err_on c.from_residual-in_err-file.result c.in_err-file.field-0.0 _ c.from_residual-in_err-file.ensures.1 (inr (inl (subst (λ (ks : List (Option (List ℕ))). IsInputUnread (files ks) c.in_err-file.field-0.0)
    (sym (split_known K names i _ c.loop-name-test.true))
    (files_unread IsAcceptable front (map K (texts_of_files (drop (i + 1) names))) _ taken.pieces c.in_err-file.field-0.0
    taken.given (files_fine c.loop-name.gathered front taken) c.in_err-file.ensures.unread))))

pub returns-in_err-take_file-clause-stop : goal.returns-in_err-take_file-clause-stop
returns-in_err-take_file-clause-stop g c =
    let K = known_at (g.H.FileSystem.held c.args.rt.now) in
    let names = c.args.names.now in
    let i = c.loop-name.name-index in
    let front = map K (texts_of_files (take i names)) in
    let read = c.in_ok-file.ensures.all in
    err_on c.from_residual-in_err-take_file.result c.in_err-take_file.field-0.0 _ c.from_residual-in_err-take_file.ensures.1
    (⊎_elim (λ memory. inr (inr memory)) (λ fault. inl (subst (λ (ks : List (Option (List ℕ))). IsInputRefused (files ks) c.in_err-take_file.field-0.0)
    (sym (split_known K names i _ c.loop-name-test.true))
    (files_refused front (map K (texts_of_files (drop (i + 1) names))) _ (c.loop-name.number + 1) c.loop-name.gathered
    read.0 c.in_err-take_file.field-0.0 c.loop-name.invariant.taken read.1
    (ap (λ n. n + 1) (c.loop-name.invariant.counted ∙ sym (length_known K names i c.loop-name-test.true)))
    (omega (arith, c.loop-name.auto.number-fits)) fault)))
    (c.in_err-take_file.ensures.refused read.0 (read.2, held_in_memory read.0 read.3)))

pub loop-name-preserved : goal.loop-name-preserved
loop-name-preserved g c =
    let K = known_at (g.H.FileSystem.held c.args.rt.now) in
    let names = c.args.names.now in
    let i = c.loop-name.name-index in
    let read = c.in_ok-file.ensures.all in
    let taken = c.loop-name.invariant.taken in
    record {
      taken = subst (HasTakenFiles c.take_file.new.self)
          (sym (take_known K names i _ c.loop-name-test.true))
          (files_more (map K (texts_of_files (take i names))) _ c.loop-name.gathered c.take_file.new.self read.0 taken read.1
          (c.in_ok-take_file.ensures.taken read.0 taken.pieces (read.2, held_in_memory read.0 read.3) taken.gathers));
      counted = search rules;
      room = search rules;
    }

pub returns-clause-holds : goal.returns-clause-holds
returns-clause-holds g c =
    let K = known_at (g.H.FileSystem.held c.args.rt.now) in
    let names = c.args.names.now in
    let whole : map K (texts_of_files (take c.loop-name.name-index names)) ≡ map K (texts_of_files names) =
    ap (λ (ns : List (Bor (List ℕ))). map K (texts_of_files ns)) (take_all c.loop-name.name-index names (omega arith)) in
    let taken = subst (HasTakenFiles c.loop-name.gathered) whole c.loop-name.invariant.taken in
    (taken.pieces, taken.given, c.in_ok-finish.ensures taken.pieces taken.gathers)
