-- Where a reader stands that was handed no layers bytes.
use Rattle.std.proofs.Common.{◌≡◌, inr, ℕ, ◌<◌, ◌^◌, List, [], ◌++◌, append-nil, append_assoc, length, take, refl, sym, ◌∙◌, subst, arith, Vec, Global}
use Rattle.std.proofs.lemmas.List.{length-take}
use Rattle.cue_codec.specs.Pieces as states
use Rattle.cue_layers.specs.declared.layer.Layer.{Layer}
use Rattle.cue_layers.specs.declared.refusal.LayersRefusal.{LayersRefusal}
use Rattle.cue_layers.specs.declared.refusal.LayersRefusal.TheVariants.{NotLayers}
use Rattle.cue_layers.specs.declared.stage.LayersRead.{LayersRead}
use Rattle.cue_layers.specs.declared.stage.StateRead.{StateRead}
use Rattle.cue_layers.specs.declared.stage.Stage.{Stage}
use Rattle.cue_layers.specs.declared.stage.Stage.TheVariants as stages
use Rattle.cue_layers.specs.Bytes.{IsLayersBytes, IsOtherLayersVersion, IsLayersFault}
use Rattle.cue_layers.specs.Pieces.{IsNoLayersPrefix, IsLayersIntake, HasTakenIn, HasFaultAt}
use Rattle.cue_layers.specs.Inner.Stages.{front_bytes, IsFed, IsPartRead, IsStateRead, IsSound, read_bytes, before_state, intake_of, intake_behind}
use Rattle.cue_layers.specs.Inner.Walks.{head_bytes}
use Rattle.cue_layers.proofs.Heads.{short_of}
use Rattle.cue_layers.proofs.Steps.{front_fault, count_fault, start_fault, head_fault, state_fault}

-- no layers bytes begin so
prefix_fault : (bytes : List ℕ) → IsNoLayersPrefix bytes → length bytes < 2 ^ 64 → IsLayersFault bytes NotLayers
prefix_fault bytes none fits =
    let same = sym (append-nil bytes) in
    inr (
      refl,
      λ other. none.known [] (subst IsOtherLayersVersion same other),
      λ layers is. none.none layers [] (subst (λ (b : List ℕ). length b < 2 ^ 64) same fits) (subst (λ (b : List ℕ). IsLayersBytes b layers) same is),
    )

state_cut :
    (read : LayersRead) (state : StateRead) (intake : states.Intake) (bytes : List ℕ) → IsPartRead read → IsStateRead read.layers.items state → IsFed state.size state.missing intake → 0 < state.missing → IsLayersIntake bytes (intake_behind (before_state read state) intake) → length bytes < 2 ^ 64
    → IsLayersFault bytes NotLayers
state_cut read state (states.so_far taken) bytes part is fed more has fits =
    let head = head_bytes state.kind state.name state.revision state.size in
    let all : read_bytes read ++ (head ++ taken) ≡ bytes = sym (append_assoc (read_bytes read) head taken) ∙ has in
    subst (λ (b : List ℕ). IsLayersFault b NotLayers) all
    (state_fault read.count read.layers.items state.kind state.name state.revision state.size state.missing taken part.front part.more part.small (subst (λ (b : List ℕ). length b < 2 ^ 64) (sym all) fits)
    (short_of state.kind state.name state.revision is.may) is.revision_small is.size_small fed.0 more)
state_cut read state states.other_version bytes part is fed more has fits = prefix_fault bytes has fits
state_cut read state states.no_state bytes part is fed more has fits = prefix_fault bytes has fits
state_cut read state states.failed bytes part is fed more has fits = absurd fed

pub ended :
    (stage : Stage) (bytes : List ℕ) → IsSound stage → ((layers : Vec Layer Global) → stage ≡ stages.Whole layers → ⊥) → (stage ≡ stages.OtherVersion → ⊥) → (stage ≡ stages.Failed → ⊥) → HasTakenIn (intake_of stage) bytes
    → IsLayersFault bytes NotLayers
ended (stages.Front count) bytes sound open_it other fail has =
    let short : length (take count front_bytes) < 5 = omega (arith, sound, length-take count front_bytes) in
    subst (λ (b : List ℕ). IsLayersFault b NotLayers) has.0 (front_fault (take count front_bytes) short)
ended (stages.Count some) bytes sound open_it other fail has = subst (λ (b : List ℕ). IsLayersFault b NotLayers) has.0 (count_fault some.items sound)
ended (stages.Start read some) bytes sound open_it other fail has =
    let part = sound.0 in
    subst (λ (b : List ℕ). IsLayersFault b NotLayers) has.0 (start_fault read.count read.layers.items some.items part.front part.more part.small (subst (λ (b : List ℕ). length b < 2 ^ 64) (sym has.0) has.1) sound.1)
ended (stages.Head read start some) bytes sound open_it other fail has =
    let part = sound.0 in
    subst (λ (b : List ℕ). IsLayersFault b NotLayers) has.0 (head_fault read.count read.layers.items start.kind start.len some.items part.front part.more part.small (subst (λ (b : List ℕ). length b < 2 ^ 64) (sym has.0) has.1) sound.1 sound.2)
ended (stages.State read state) bytes sound open_it other fail has = let is = sound.1 in state_cut read state state.reader bytes sound.0 is is.fed sound.2 has.0 has.1
ended (stages.Whole layers) bytes sound open_it other fail has = absurd (open_it layers refl)
ended stages.OtherVersion bytes sound open_it other fail has = absurd (other refl)
ended stages.NoLayers bytes sound open_it other fail has = prefix_fault bytes has.0 has.1
ended stages.Failed bytes sound open_it other fail has = absurd (fail refl)

behind_fault : (before : List ℕ) (size missing : ℕ) (intake : states.Intake) (why : LayersRefusal) → IsFed size missing intake → HasFaultAt (intake_behind before intake) why → why ≡ NotLayers
behind_fault before size missing (states.so_far taken) why fed h = absurd h
behind_fault before size missing states.other_version why fed h = h
behind_fault before size missing states.no_state why fed h = h
behind_fault before size missing states.failed why fed h = absurd fed

pub fault_is : (stage : Stage) (why : LayersRefusal) → IsSound stage → (stage ≡ stages.OtherVersion → ⊥) → (stage ≡ stages.Failed → ⊥) → HasFaultAt (intake_of stage) why → why ≡ NotLayers
fault_is (stages.Front count) why sound other fail h = absurd h
fault_is (stages.Count some) why sound other fail h = absurd h
fault_is (stages.Start read some) why sound other fail h = absurd h
fault_is (stages.Head read start some) why sound other fail h = absurd h
fault_is (stages.State read state) why sound other fail h = let is = sound.1 in behind_fault (before_state read state) state.size state.missing state.reader why is.fed h
fault_is (stages.Whole layers) why sound other fail h = absurd h
fault_is stages.OtherVersion why sound other fail h = absurd (other refl)
fault_is stages.NoLayers why sound other fail h = h
fault_is stages.Failed why sound other fail h = absurd (fail refl)
