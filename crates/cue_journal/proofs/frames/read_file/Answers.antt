use Rattle.std.proofs.Common.{◌≡◌, ◌++◌, Some, None, sym, ◌∙◌}
use Rattle.std.proofs.lemmas.Bool.Decides.{Decides-eqb}
use Rattle.std.proofs.lemmas.Slice.Eq.{strip_prefix_is}
use Rattle.cue_journal.specs.Frames.{file_head}
use Rattle.cue_journal.proofs.Files.{other_head, no_gate, none_shut, open_shut, read_ends, read_entries, read_sound}
use Rattle.cue_journal.proofs.frames.read_file.Goals as goal

pub returns-in_default-clause-damaged : goal.returns-in_default-clause-damaged
unfolding file_head
returns-in_default-clause-damaged c = λ damage. other_head c.args.bytes.now c.requires (strip_prefix_is Decides-eqb c.args.bytes.now file_head None c.in_default.ensures.cases)

pub returns-then-is_open_gate-clause-damaged : goal.returns-then-is_open_gate-clause-damaged
unfolding file_head
returns-then-is_open_gate-clause-damaged c = λ damage.
    let is : c.args.bytes.now ≡ file_head ++ c.in-Some.frames.now = strip_prefix_is Decides-eqb c.args.bytes.now file_head (Some c.in-Some.frames) c.in-Some.ensures.cases in
    no_gate c.args.bytes.now c.in-Some.frames.now c.in-Ok.found.1.now c.requires is c.in-Ok.ensures.rest
    (open_shut c.in-Ok.found.1.now _ c.in-Some-split_first.gate.now c.in-Some-split_first.ensures.cases.0 (sym c.is_open_gate.ensures ∙ c.if-is_open_gate.true))

pub returns-in-None-clause-damaged : goal.returns-in-None-clause-damaged
unfolding file_head
returns-in-None-clause-damaged c = λ damage.
    let is : c.args.bytes.now ≡ file_head ++ c.in-Some.frames.now = strip_prefix_is Decides-eqb c.args.bytes.now file_head (Some c.in-Some.frames) c.in-Some.ensures.cases in
    no_gate c.args.bytes.now c.in-Some.frames.now c.in-Ok.found.1.now c.requires is c.in-Ok.ensures.rest
    (none_shut c.in-Ok.found.1.now c.in-None.ensures.cases)

pub returns-clause-entries : goal.returns-clause-entries
unfolding file_head
returns-clause-entries c =
    let is : c.args.bytes.now ≡ file_head ++ c.in-Some.frames.now = strip_prefix_is Decides-eqb c.args.bytes.now file_head (Some c.in-Some.frames) c.in-Some.ensures.cases in
    c.in-Ok.ensures.entries ∙ read_entries c.args.bytes.now c.in-Some.frames.now is

pub returns-clause-end : goal.returns-clause-end
unfolding file_head
returns-clause-end c =
    let is : c.args.bytes.now ≡ file_head ++ c.in-Some.frames.now = strip_prefix_is Decides-eqb c.args.bytes.now file_head (Some c.in-Some.frames) c.in-Some.ensures.cases in
    read_ends c.args.bytes.now c.in-Some.frames.now c.in-Ok.found.1.now _ c.in-Some-split_first.gate.now is c.in-Ok.ensures.rest c.in-Some-split_first.ensures.cases.0 (sym c.is_open_gate.ensures ∙ c.if-is_open_gate.false)

pub returns-clause-sound : goal.returns-clause-sound
unfolding file_head
returns-clause-sound c =
    let is : c.args.bytes.now ≡ file_head ++ c.in-Some.frames.now = strip_prefix_is Decides-eqb c.args.bytes.now file_head (Some c.in-Some.frames) c.in-Some.ensures.cases in
    read_sound c.args.bytes.now c.in-Some.frames.now c.in-Ok.found.1.now _ c.in-Some-split_first.gate.now is c.in-Ok.ensures.rest c.in-Some-split_first.ensures.cases.0 (sym c.is_open_gate.ensures ∙ c.if-is_open_gate.false)
