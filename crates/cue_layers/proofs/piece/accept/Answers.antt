use Rattle.std.proofs.Common.{◌∷◌, [], List, ℕ, subst, sym}
use Rattle.std.specs.Prelude.{OnOk}
use Rattle.std.proofs.lemmas.Result.{on_ok_weaker}
use Rattle.cue_lattice.specs.World.{text, state, pieces_refuse}
use Rattle.cue_replica.specs.Accepted.{IsAcceptable}
use Rattle.cue_replica.specs.Language.{language}
use Rattle.cue_replica.specs.Replica.{AddsRefusals}
use Rattle.cue_layers.specs.Refusals.{piece_of_refusal}
use Rattle.cue_layers.specs.declared.piece.Piece.{Piece}
use Rattle.cue_layers.proofs.Pieces.{adds_one}
use Rattle.cue_layers.proofs.piece.accept.Goals as goal

pub returns-in-Text-clause-ok : goal.returns-in-Text-clause-ok
returns-in-Text-clause-ok c =
    let old = c.args.replica.now in
    let new = c.submit.new.self in
    let P : Piece → Type 0 = λ p. OnOk c.submit.result (AddsRefusals old (pieces_refuse language (piece_of_refusal p ∷ [])) new) in
    let Q : List ℕ → Type 0 = λ t. OnOk c.submit.result (AddsRefusals old (pieces_refuse language (text t ∷ [])) new) in
    subst P (sym c.in-Text.is) (subst Q c.as_str.ensures (on_ok_weaker c.submit.result (adds_one old new (text c.as_str.result.now)) c.submit.ensures.ok))

pub returns-in-State-clause-acceptable : goal.returns-in-State-clause-acceptable
returns-in-State-clause-acceptable c =
    let P : Piece → Type 0 = λ p. OnOk c.take.result (IsAcceptable (piece_of_refusal p)) in
    let Q : List ℕ → Type 0 = λ b. OnOk c.take.result (language.IsState b) in
    subst P (sym c.in-State.is) (subst Q c.as_slice.ensures.value c.take.ensures.state)

pub returns-in-State-clause-ok : goal.returns-in-State-clause-ok
returns-in-State-clause-ok c =
    let old = c.args.replica.now in
    let new = c.take.new.self in
    let P : Piece → Type 0 = λ p. OnOk c.take.result (AddsRefusals old (pieces_refuse language (piece_of_refusal p ∷ [])) new) in
    let Q : List ℕ → Type 0 = λ b. OnOk c.take.result (AddsRefusals old (pieces_refuse language (state b ∷ [])) new) in
    subst P (sym c.in-State.is) (subst Q c.as_slice.ensures.value (on_ok_weaker c.take.result (adds_one old new (state c.as_slice.result.now)) c.take.ensures.ok))
