use Rattle.std.proofs.Common.{◌≡◌}
use Rattle.cue_lattice.specs.OneOf.{OneOf}
use Rattle.cue_lattice.specs.Path.{Path}
use Rattle.cue_lattice.specs.Question.{Question}
use Rattle.cue_policies.specs.WellFormed.{IsWellFormed}
use Rattle.cue_policies.specs.declared.kind.LayerKind.TheVariants as kinds
use Rattle.cue_policies.proofs.Gains.{Gains}
use Rattle.cue_replica.specs.Language.{language}
use Rattle.cue_layers.specs.Inner.Viewing.{LayerRefuses}
use Rattle.cue_layers.proofs.view.unified_of.Given as goal

-- what the site refuses, and what the layers do that are left, is all
abbrev pub invariant-loop-layer : goal.invariant-loop-layer
invariant-loop-layer l = record {
  valid : language.IsValid l.site;
  all : (path : Path) (question : Question) → Gains (language.table_refuses l.site path question) (LayerRefuses l.kind path question) l.layers l.layer-index (OneOf (LayerRefuses l.kind path question) l.layers);
  formed : l.kind ≡ kinds.Policy → IsWellFormed (language.table_refuses l.site);
}
