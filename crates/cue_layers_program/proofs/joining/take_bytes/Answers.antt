use Rattle.std.proofs.Common.{◌≡◌, ◌⊎◌, ℕ, List, inl, inr, map, refl, subst}
use Rattle.cue_lattice.specs.Refusal.{memory}
use Rattle.cue_lattice.specs.World.{state, text}
use Rattle.cue_layers.specs.Join.{CommonsGrows}
use Rattle.cue_layers.specs.Maps.{put_of}
use Rattle.cue_layers.specs.declared.LayersRefusal.TheVariants.{Store}
use Rattle.cue_replica.specs.Language.{language}
use Rattle.cue_layers_program.proofs.JoinedFiles.{said_piece}
use Rattle.cue_layers_program.proofs.Results.{err_as, fails, ok_as, passes}
use Rattle.cue_layers_program.proofs.joining.take_bytes.Goals as goal

pub returns-then-begins_layers-clause-joins : goal.returns-then-begins_layers-clause-joins
returns-then-begins_layers-clause-joins c puts of =
    ok_as c.take_layers.result (c.take_layers.ensures.joins puts of) (λ h. (map put_of h.0, inl (h.0, h.1, refl), h.2))

pub returns-in_err-take-clause-refused : goal.returns-in_err-take-clause-refused
returns-in_err-take-clause-refused c =
    err_as c.from_residual.result (λ why. why ≡ Store c.in_err-take.field-0.0) _ c.from_residual.ensures.1
    (λ why is. inr (
      fails c.begins_layers.result c.begins_layers.ensures c.if-begins_layers.false,
      (state c.args.bytes.now, c.in_err-take.field-0.0, inl (passes c.begins_a_state.result c.begins_a_state.ensures c.if-begins_a_state.true, refl), c.in_err-take.ensures.refused, is),
    ))

pub returns-then-begins_a_state-clause-joins : goal.returns-then-begins_a_state-clause-joins
returns-then-begins_a_state-clause-joins c puts of =
    let bytes = c.args.bytes.now in
    said_piece bytes (state bytes) puts c.args.all.now c.take.new.self (fails c.begins_layers.result c.begins_layers.ensures c.if-begins_layers.false)
    (inl (passes c.begins_a_state.result c.begins_a_state.ensures c.if-begins_a_state.true, refl)) c.in_ok-take.ensures.state of c.in_ok-take.ensures.is_map c.in_ok-take.ensures.ok

pub returns-in_err-text_of-clause-refused : goal.returns-in_err-text_of-clause-refused
returns-in_err-text_of-clause-refused c =
    err_as c.from_residual-in_err-text_of.result (λ why. why ≡ Store c.in_err-text_of.field-0.0) _ c.from_residual-in_err-text_of.ensures.1
    (λ why is. inr (
      fails c.begins_layers.result c.begins_layers.ensures c.if-begins_layers.false,
      (text c.args.bytes.now, c.in_err-text_of.field-0.0, inr (fails c.begins_a_state.result c.begins_a_state.ensures c.if-begins_a_state.false, refl), inl c.in_err-text_of.ensures.fault, is),
    ))

pub returns-in_err-submit-clause-refused : goal.returns-in_err-submit-clause-refused
returns-in_err-submit-clause-refused c =
    let fault = c.in_err-submit.field-0.0 in
    let t = c.in_ok-text_of.ensures.text in
    let P : List ℕ → Type 0 = λ bytes. ((fault ≡ memory) × (language.IsTextRefusedAtOnce bytes → ⊥)) ⊎ language.IsTextFault bytes fault in
    err_as c.from_residual-in_err-submit.result (λ why. why ≡ Store fault) _ c.from_residual-in_err-submit.ensures.1
    (λ why is. inr (
      fails c.begins_layers.result c.begins_layers.ensures c.if-begins_layers.false,
      (text c.args.bytes.now, fault, inr (fails c.begins_a_state.result c.begins_a_state.ensures c.if-begins_a_state.false, refl), inr (t.1, subst P t.0 c.in_err-submit.ensures.refused), is),
    ))

pub returns-clause-joins : goal.returns-clause-joins
returns-clause-joins c puts of =
    let bytes = c.args.bytes.now in
    let old = c.args.all.now in
    let new = c.submit.new.self in
    let t = c.in_ok-text_of.ensures.text in
    let P : List ℕ → Type 0 = λ b. language.IsLegal b in
    let Q : List ℕ → Type 0 = λ b. CommonsGrows old (language.text_refuses b) new in
    said_piece bytes (text bytes) puts old new (fails c.begins_layers.result c.begins_layers.ensures c.if-begins_layers.false)
    (inr (fails c.begins_a_state.result c.begins_a_state.ensures c.if-begins_a_state.false, refl))
    (subst P t.0 c.in_ok-submit.ensures.legal) of c.in_ok-submit.ensures.is_map (subst Q t.0 c.in_ok-submit.ensures.ok)
