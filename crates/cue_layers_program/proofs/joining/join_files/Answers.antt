use Rattle.std.proofs.Common.{rules, ◌≡◌, ◌+◌, ℕ, List, Option, map, take, drop, inl, inr, sym, ap, ◌∙◌, subst}
use Rattle.cue_layers_program.specs.Joined.{all_puts, ArePutsOf, IsFileRefusal, IsJoined, IsJoinStop}
use Rattle.cue_layers_program.specs.Stops.{stop_of}
use Rattle.cue_layers_program.specs.declared.stop.LayersStop.TheVariants as ends
use Rattle.cue_program.proofs.SubmittedInputs.{length_known, split_known, take_known}
use Rattle.cue_program.specs.Files.{known_at, texts_of_files}
use Rattle.cue_layers_program.proofs.JoinedFiles.{file_refused, file_unread, joined_more, joined_none}
use Rattle.cue_layers_program.proofs.Results.{err_as}
use Rattle.cue_layers_program.proofs.joining.join_files.Goals as goal

pub loop-name-init : goal.loop-name-init
loop-name-init g c = record {
  joined = joined_none c.in_ok-all.all c.in_ok-all.ensures;
  counted = search rules;
}

pub returns-in_err-bytes-clause-stop : goal.returns-in_err-bytes-clause-stop
returns-in_err-bytes-clause-stop g c =
    let K = known_at (g.H.FileSystem.held c.args.rt.now) in
    let names = c.args.files.now in
    let i = c.loop-name.name-index in
    let front = map K (texts_of_files (take i names)) in
    err_as c.from_residual-in_err-bytes.result (λ stop. stop ≡ stop_of c.in_err-bytes.field-0.0) (IsJoinStop (map K (texts_of_files names))) c.from_residual-in_err-bytes.ensures.1
    (λ stop is. subst (λ (ks : List (Option (List ℕ))). IsJoinStop ks stop) (sym (split_known K names i _ c.loop-name-test.true))
    (inr (inl (file_unread front (map K (texts_of_files (drop (i + 1) names))) _ c.loop-name.all stop c.loop-name.invariant.joined (c.in_err-bytes.field-0.0, c.in_err-bytes.ensures.unread, is)))))

pub returns-in-Err-clause-stop : goal.returns-in-Err-clause-stop
returns-in-Err-clause-stop g c =
    let K = known_at (g.H.FileSystem.held c.args.rt.now) in
    let names = c.args.files.now in
    let i = c.loop-name.name-index in
    let front = map K (texts_of_files (take i names)) in
    let number = c.loop-name.number + 1 in
    subst (λ (ks : List (Option (List ℕ))). IsJoinStop ks (ends.RefusedInput c.in-Err.why number)) (sym (split_known K names i _ c.loop-name-test.true))
    (inl (file_refused front (map K (texts_of_files (drop (i + 1) names))) _ c.loop-name.all c.in_ok-bytes.bytes.items c.in-Err.why number c.loop-name.invariant.joined c.in_ok-bytes.ensures.whole
    (subst (λ (bytes : List ℕ). IsFileRefusal bytes c.in-Err.why) c.deref.ensures.value c.in-Err.ensures.refused)
    (ap (λ n. n + 1) (c.loop-name.invariant.counted ∙ sym (length_known K names i c.loop-name-test.true)))))

pub loop-name-preserved : goal.loop-name-preserved
loop-name-preserved g c =
    let K = known_at (g.H.FileSystem.held c.args.rt.now) in
    let names = c.args.files.now in
    let i = c.loop-name.name-index in
    let front = map K (texts_of_files (take i names)) in
    let so_far = c.loop-name.invariant.joined in
    let more = c.in_default.ensures.joins (all_puts so_far.0) so_far.2 in
    record {
      joined = subst (λ (ks : List (Option (List ℕ))). IsJoined ks c.take_bytes.new.all) (sym (take_known K names i _ c.loop-name-test.true))
          (joined_more front _ c.loop-name.all c.take_bytes.new.all c.in_ok-bytes.bytes.items so_far c.in_ok-bytes.ensures.whole
          (more.0, subst (λ (bytes : List ℕ). ArePutsOf bytes more.0) c.deref.ensures.value more.1, more.2));
      counted = ap (λ n. n + 1) c.loop-name.invariant.counted;
    }
