use Rattle.std.proofs.Common.{ℕ, List, OnOk, IfErr, inr, sym, ap, subst}
use Rattle.cue_lattice.specs.World.{piece_refuses, text}
use Rattle.cue_replica.specs.Language.{language}
use Rattle.cue_replica.specs.Replica.{AddsRefusals}
use Rattle.cue_lattice.specs.declared.refusal.Refusal.{Refusal}
use Rattle.cue_service.specs.declared.route.PieceKind.{PieceKind}
use Rattle.cue_service.specs.Refusals.{IsRefusalOf}
use Rattle.cue_service.specs.Requests.{piece_of_bytes}
use Rattle.cue_service.proofs.Pulls.{state_refusal, text_refusal}
use Rattle.cue_service.proofs.entries.submit_piece.Goals as goal

pub returns-in-State-clause-adds : goal.returns-in-State-clause-adds
returns-in-State-clause-adds c = subst (λ (h : PieceKind). OnOk c.take.result (AddsRefusals c.args.site.now (piece_refuses language (piece_of_bytes h c.args.bytes.now)) c.take.new.self)) (sym c.in-State.is) c.take.ensures.ok

pub returns-in-Ok-clause-adds : goal.returns-in-Ok-clause-adds
returns-in-Ok-clause-adds c =
    subst (λ (h : PieceKind). OnOk c.submit.result (AddsRefusals c.args.site.now (piece_refuses language (piece_of_bytes h c.args.bytes.now)) c.submit.new.self)) (sym c.in-Text.is)
    (subst (λ (t : List ℕ). OnOk c.submit.result (AddsRefusals c.args.site.now (language.text_refuses t) c.submit.new.self)) c.in-Ok.ensures.cases.0 c.submit.ensures.ok)

pub returns-in-State-clause-refused : goal.returns-in-State-clause-refused
returns-in-State-clause-refused c =
    subst (λ (h : PieceKind). IfErr c.take.result (IsRefusalOf (piece_of_bytes h c.args.bytes.now))) (sym c.in-State.is) (state_refusal c.take.result c.args.bytes.now c.take.ensures.refused)

pub returns-in-Ok-clause-refused : goal.returns-in-Ok-clause-refused
returns-in-Ok-clause-refused c =
    subst (λ (h : PieceKind). IfErr c.submit.result (IsRefusalOf (piece_of_bytes h c.args.bytes.now))) (sym c.in-Text.is)
    (subst (λ (t : List ℕ). IfErr c.submit.result (IsRefusalOf (text t))) c.in-Ok.ensures.cases.0 (text_refusal c.submit.result _ c.submit.ensures.refused))

pub returns-in-Err-clause-refused : goal.returns-in-Err-clause-refused
returns-in-Err-clause-refused c = rw c.in-Text.is (inr (λ legal. c.in-Err.ensures.cases.0 legal.3, inr (c.in-Err.ensures.cases.0, ap (λ (w : Refusal). w.kind) c.at.ensures)))
