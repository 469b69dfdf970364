use Rattle.std.proofs.Common.{arith, sym, subst, []}
use Rattle.cue_lattice.specs.OneOf.{OneOf}
use Rattle.cue_lattice.specs.World.{IsUnified}
use Rattle.cue_policies.specs.WellFormed.{IsWellFormed}
use Rattle.cue_policies.proofs.Gains.{gains_start, gains_more, gains_done}
use Rattle.cue_policies.proofs.Unions.{empty_formed}
use Rattle.cue_replica.specs.Language.{Table, language}
use Rattle.cue_replica.proofs.Accepted.{new_site}
use Rattle.cue_layers.specs.Layers.{IsLayer}
use Rattle.cue_layers.specs.Inner.Viewing.{LayerRefuses}
use Rattle.cue_layers.proofs.Viewing.{each_at, gathered, more_formed}
use Rattle.cue_layers.proofs.view.unified_of.Goals as goal

pub loop-layer-init : goal.loop-layer-init
loop-layer-init c =
    let P : Table → Type 0 = λ t. IsUnified language t [] in
    let none = subst P (sym c.new-site.ensures) new_site in
    let W : Table → Type 0 = λ t. IsWellFormed (language.table_refuses t) in
    record {
      valid = none.0;
      all = λ path question. gains_start (language.table_refuses c.new-site.result path question) (LayerRefuses c.args.kind path question) c.args.layers.now (none.1 path question).0;
      formed = λ e. subst W (sym c.new-site.ensures) empty_formed;
    }

pub loop-layer-preserved : goal.loop-layer-preserved
loop-layer-preserved c =
    let old = c.loop-layer.site in
    let new = c.add_layer.new.site in
    let layers = c.args.layers.now in
    let layer = c.layer-item.result in
    let kind = c.args.kind in
    let adds = c.in_ok-add_layer.ensures.adds in
    record {
      valid = c.in_ok-add_layer.ensures.valid;
      all = λ path question.
          gains_more (language.table_refuses old path question) (language.table_refuses new path question) (LayerRefuses kind path question) layers c.loop-layer.layer-index layer (OneOf (LayerRefuses kind path question) layers)
          c.loop-layer-test.true c.layer-item.is (adds path question) (c.loop-layer.invariant.all path question);
      formed = more_formed kind layer old new (each_at IsLayer layers c.loop-layer.layer-index layer c.requires c.loop-layer-test.true c.layer-item.is) adds c.loop-layer.invariant.formed;
    }

pub returns-clause-unified : goal.returns-clause-unified
returns-clause-unified c =
    let layers = c.args.layers.now in
    let kind = c.args.kind in
    gathered kind layers c.loop-layer.site
    (λ path question. gains_done (language.table_refuses c.loop-layer.site path question) (LayerRefuses kind path question) layers c.loop-layer.layer-index (OneOf (LayerRefuses kind path question) layers) (omega (arith, c.loop-layer-test.false)) (c.loop-layer.invariant.all path question))
