use Rattle.std.proofs.Common.{◌≡◌, ℕ, List, Some, inl, refl, subst, sym}
use Rattle.std.proofs.lemmas.Bool.{both_ways}
use Rattle.cue_lattice.specs.World.{state}
use Rattle.std.specs.Prelude.{slice_get}
use Rattle.cue_program.proofs.Requests.{file_text_sent, file_text_unsent}
use Rattle.cue_program.proofs.request.request_of_file.Goals as goal

pub returns-then-begins_a_state-clause-request : goal.returns-then-begins_a_state-clause-request
returns-then-begins_a_state-clause-request c =
    let first = subst (λ (b : List ℕ). slice_get b 0 ≡ Some 254) c.deref.ensures.value (c.begins_a_state.ensures.0 c.if-begins_a_state.true) in
    (state c.args.bytes.items, inl (first, refl), tt, refl)

pub returns-clause-request : goal.returns-clause-request
returns-clause-request c =
    file_text_sent c.args.bytes.items c.deref-2.result.now c.request_of_text.result c.deref-2.ensures.value
    (λ is. both_ways c.begins_a_state.result c.if-begins_a_state.false (c.begins_a_state.ensures.1 (subst (λ (b : List ℕ). slice_get b 0 ≡ Some 254) (sym c.deref.ensures.value) is)))
    c.request_of_text.ensures.request c.request_of_text.ensures.fits

pub returns-clause-stop : goal.returns-clause-stop
returns-clause-stop c =
    file_text_unsent c.args.bytes.items c.deref-2.result.now c.args.number c.request_of_text.result c.deref-2.ensures.value
    (λ is. both_ways c.begins_a_state.result c.if-begins_a_state.false (c.begins_a_state.ensures.1 (subst (λ (b : List ℕ). slice_get b 0 ≡ Some 254) (sym c.deref.ensures.value) is)))
    c.request_of_text.ensures.stop
