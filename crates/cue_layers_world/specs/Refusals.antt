-- Why an event is refused, by the set of puts that its site has accepted.
use Rattle.std.specs.Prelude.{◌≡◌, ◌⊎◌, ℕ, List}
use Rattle.std.specs.List.{AllByRecursion}
use Rattle.cue_lattice.specs.Refusal.{memory}
use Rattle.cue_lattice.specs.World.{Piece}
use Rattle.cue_lattice.specs.declared.refusal.Refusal.{Refusal}
use Rattle.cue_policies.specs.declared.kind.LayerKind.{LayerKind}
use Rattle.cue_replica.specs.Accepted.{IsAcceptable}
use Rattle.cue_replica.specs.Language.{language}
use Rattle.cue_layers.specs.Layers.{key}
use Rattle.cue_layers.specs.Names.{IsLayerName, IsBadAt}
use Rattle.cue_layers.specs.Puts.{Put, of_puts, IsUsedUp}
use Rattle.cue_layers.specs.Refusals.{out_of_memory, IsFirstFault, MayBe}
use Rattle.cue_layers.specs.declared.refusal.LayersRefusal.{LayersRefusal}
use Rattle.cue_layers.specs.declared.refusal.LayersRefusal.TheVariants as reasons

-- Why a put is refused, where memory suffices. The name is looked at first, then each piece in
-- turn, then whether a policy is well formed, and then the revisions.
abbrev pub IsPutEventFault : List Put → LayerKind → List ℕ → List Piece → LayersRefusal → Type 0
IsPutEventFault puts kind name pieces (reasons.BadName place) = IsBadAt name place
IsPutEventFault puts kind name pieces (reasons.InPiece index why) =
    IsLayerName name × IsFirstFault pieces index why
IsPutEventFault puts kind name pieces reasons.NotWellFormed =
    IsLayerName name × AllByRecursion IsAcceptable pieces × ¬ MayBe kind pieces
IsPutEventFault puts kind name pieces reasons.RevisionsUsed =
    IsLayerName name × AllByRecursion IsAcceptable pieces × MayBe kind pieces
    × IsUsedUp of_puts puts (key kind name)
IsPutEventFault puts kind name pieces reason = ⊥

-- Memory may run out, but not before the name was looked at.
abbrev pub IsPutEventRefusal : List Put → LayerKind → List ℕ → List Piece → LayersRefusal → Type 0
IsPutEventRefusal puts kind name pieces why =
    IsPutEventFault puts kind name pieces why ⊎ ((why ≡ out_of_memory) × IsLayerName name)

-- why a text is refused
abbrev pub IsLayersTextRefusal : List ℕ → LayersRefusal → Type 0
IsLayersTextRefusal text why =
    (cause : Refusal) × (why ≡ reasons.Store cause)
    × (((cause ≡ memory) × ¬ language.IsTextRefusedAtOnce text) ⊎ language.IsTextFault text cause)

-- why bytes are refused as a state
abbrev pub IsLayersStateRefusal : List ℕ → LayersRefusal → Type 0
IsLayersStateRefusal bytes why =
    (cause : Refusal) × (why ≡ reasons.Store cause)
    × (((cause ≡ memory) × ¬ language.IsStateRefusedAtOnce bytes)
    ⊎ language.IsStateFault bytes cause)
