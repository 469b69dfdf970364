use Rattle.std.proofs.Common.{◌≡◌, ◌⊎◌, List, ℕ, map, true, false, inl, refl, subst, sym, ◌∙◌}
use Rattle.std.proofs.lemmas.Result.{IfOk-weaker, IfErr-weaker}
use Rattle.cue_layers.specs.declared.layer.Layer.{Layer}
use Rattle.cue_layers.specs.declared.refusal.LayersRefusal.TheVariants.{RevisionsUsed}
use Rattle.cue_layers.specs.Join.{IsOnePut}
use Rattle.cue_layers.specs.Layers.{key}
use Rattle.cue_layers.specs.Names.{IsLayerName}
use Rattle.cue_layers.specs.Puts.{of_layers, IsUsedUp}
use Rattle.cue_layers.specs.Refusals.{piece_of_refusal, out_of_memory, IsPutRefusal}
use Rattle.cue_layers.specs.Inner.Putting.{Replaces}
use Rattle.cue_layers.proofs.Opening.{may_not_be, put_done, put_refused}
use Rattle.cue_layers.proofs.layers.Layers.put.Goals as goal

pub returns-then-not-may_put-clause-refused : goal.returns-then-not-may_put-clause-refused
returns-then-not-may_put-clause-refused c =
    let pieces = map piece_of_refusal c.args.pieces.now in
    let named = subst IsLayerName c.as_bytes.ensures.value c.in_default.ensures.name in
    let e = c.in_ok-content.ensures in
    inl (named, e.acceptable, may_not_be c.args.kind c.in_ok-content.content pieces e.unified (λ may. let t : true ≡ false = sym (c.may_put.ensures.1 may) ∙ c.if-not-may_put.true in cc))

pub returns-clause-ok : goal.returns-clause-ok
returns-clause-ok c =
    let pieces = map piece_of_refusal c.args.pieces.now in
    let old = c.self.inside.entries.items in
    let new = c.replace.new.entries.items in
    let kind = c.args.kind in
    let name = c.args.name.now in
    let named = subst IsLayerName c.as_bytes.ensures.value c.in_default.ensures.name in
    let e = c.in_ok-content.ensures in
    let content = c.in_ok-content.content in
    let P : List Layer → ℕ → Type 0 = λ ls revision. IsOnePut ls kind name pieces new revision in
    IfOk-weaker c.replace.result (Replaces old kind name content new) (P c.args.self.now)
    (λ revision done. let Q : List Layer → Type 0 = λ ls. P ls revision in subst Q c.self.view_is (put_done old kind name pieces content new revision named e.acceptable e.unified (c.may_put.ensures.0 c.if-not-may_put.false) done))
    c.replace.ensures.ok

pub returns-clause-refused : goal.returns-clause-refused
returns-clause-refused c =
    let pieces = map piece_of_refusal c.args.pieces.now in
    let old = c.self.inside.entries.items in
    let kind = c.args.kind in
    let name = c.args.name.now in
    let named = subst IsLayerName c.as_bytes.ensures.value c.in_default.ensures.name in
    let e = c.in_ok-content.ensures in
    let content = c.in_ok-content.content in
    IfErr-weaker c.replace.result (λ why. ((why ≡ RevisionsUsed) × IsUsedUp of_layers old (key kind name)) ⊎ (why ≡ out_of_memory)) (IsPutRefusal c.args.self.now kind name pieces)
    (λ why h. let Q : List Layer → Type 0 = λ ls. IsPutRefusal ls kind name pieces why in subst Q c.self.view_is (put_refused old kind name pieces content why named e.acceptable e.unified (c.may_put.ensures.0 c.if-not-may_put.false) h))
    c.replace.ensures.refused

pub same-self-then-not-may_put : goal.same-self-then-not-may_put
same-self-then-not-may_put c = refl
