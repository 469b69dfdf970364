-- The state of a layer that comes in pieces.
use Rattle.std.proofs.Common.{◌≡◌, inl, inr, ⊎_elim, ℕ, ◌+◌, ◌<◌, ◌≤◌, ◌^◌, List, [], ◌∷◌, ◌++◌, Option, Some, None, IfSome, IfNone, Ok, append_assoc, length, take, refl, sym, ap, ◌∙◌, subst, arith}
use Rattle.std.specs.Prelude.{slice_get, IsErrOf}
use Rattle.std.proofs.lemmas.List.{length-append, take_all}
use Rattle.cue_codec.specs.Pieces as states
use Rattle.cue_lattice.specs.declared.refusal.Kind.{Kind}
use Rattle.cue_lattice.specs.declared.refusal.Kind.TheVariants as kinds
use Rattle.cue_policies.specs.declared.kind.LayerKind.{LayerKind}
use Rattle.cue_policies.specs.declared.kind.LayerKind.TheVariants as layer_kinds
use Rattle.cue_policies.specs.WellFormed.{IsWellFormed}
use Rattle.cue_replica.specs.Language.{Table, language}
use Rattle.cue_replica.specs.Reading.{HasFaultAt as HasStateFaultAt}
use Rattle.cue_layers.specs.declared.layer.Layer.{Layer}
use Rattle.cue_layers.specs.declared.stage.LayersRead.{LayersRead}
use Rattle.cue_layers.specs.declared.stage.StateRead.{StateRead}
use Rattle.cue_layers.specs.declared.stage.Stage.{Stage}
use Rattle.cue_layers.specs.declared.stage.Stage.TheVariants as stages
use Rattle.cue_layers.specs.Bytes.{layers_bytes}
use Rattle.cue_layers.specs.Names.{IsLayerName}
use Rattle.cue_layers.specs.Pieces as pieces
use Rattle.cue_layers.specs.Pieces.{IsLayersIntake, IsTakenIn, IsNotTakenIn}
use Rattle.cue_layers.specs.Inner.Reading.{AreFront, IsHeld, IsKeyBehind, MayHave}
use Rattle.cue_layers.specs.Inner.Stages.{IsPartRead, IsFed, IsStateRead, IsSound, HasTaken, HasNoFault, IsContentRead, IsNoContentRead, IsStateInLayers, read_bytes, before_state, intake_of, intake_behind}
use Rattle.cue_layers.specs.Inner.Walks.{head_bytes}
use Rattle.cue_layers.proofs.Heads.{short_of, fed_begun}
use Rattle.cue_layers.proofs.ReadBytes.{same_content}
use Rattle.cue_layers.proofs.ReadMaps.{more_front}
use Rattle.cue_layers.proofs.Stages.{read_front}
use Rattle.cue_layers.proofs.Steps.{fifth_more, state_taken, layer_read, no_layer_inside, no_more}
use Rattle.cue_layers.proofs.Taking.{state_ended}

-- what an answer says, by its case
pub some_is : {X : Type 0} (o : Option X) (x : X) (P : X → Type 0) → o ≡ Some x → IfSome o P → P x
some_is o x P e h = subst (λ found. IfSome found P) e h

pub none_is : {X : Type 0} (o : Option X) (P : Type 0) → o ≡ None → IfNone o P → P
none_is o P e h = subst (λ found. IfNone found P) e h

-- what was answered is no fault
pub ok_no_err : {T E : Type 0} (x : T) (e : E) → IsErrOf (Ok x) e → ⊥
ok_no_err x e h = cc

-- a fault at which a reader of state bytes stands is not that memory ran out
pub no_memory_fault : (intake : states.Intake) (kind : Kind) → HasStateFaultAt intake kind → kind ≡ kinds.Memory → ⊥
no_memory_fault (states.so_far taken) kind h e = absurd h
no_memory_fault states.other_version kind h e = let f : kinds.Version ≡ kinds.Memory = sym h ∙ e in cc
no_memory_fault states.no_state kind h e = let f : kinds.NotState ≡ kinds.Memory = sym h ∙ e in cc
no_memory_fault states.failed kind h e = let f : kinds.Failed ≡ kinds.Memory = sym h ∙ e in cc

-- a reader was handed a piece more
pub fed_more : (size missing left : ℕ) (piece : List ℕ) (old new : states.Intake) → IsFed size missing old → states.IsTakenIn old piece new → length piece + left ≡ missing → IsFed size left new
fed_more size missing left piece (states.so_far taken) new fed is len = fed_begun size left (taken ++ piece) new (omega (arith, fed.0, len, length-append taken piece)) (fifth_more taken piece fed.1) is
fed_more size missing left piece states.other_version new fed is len = subst (IsFed size left) (sym is) tt
fed_more size missing left piece states.no_state new fed is len = subst (IsFed size left) (sym is) tt
fed_more size missing left piece states.failed new fed is len = absurd fed

-- what it was handed stands behind what was read before
pub behind_more :
    (read : LayersRead) (kind : LayerKind) (name : List ℕ) (revision size missing : ℕ) (piece : List ℕ) (old new : states.Intake) → IsPartRead read → MayHave kind name revision → revision < 2 ^ 64 → size < 2 ^ 64 → IsFed size missing old
    → states.IsTakenIn old piece new → length piece ≤ missing
    → IsTakenIn (intake_behind (read_bytes read ++ head_bytes kind name revision size) old) piece (intake_behind (read_bytes read ++ head_bytes kind name revision size) new)
behind_more read kind name revision size missing piece (states.so_far taken) new part may sr ss fed is few =
    let before = read_bytes read ++ head_bytes kind name revision size in
    let long : length (taken ++ piece) ≤ size = omega (arith, fed.0, few, length-append taken piece) in
    let all = state_taken read.count read.layers.items kind name revision size taken piece new part.front part.more part.small (short_of kind name revision may) sr ss long (fifth_more taken piece fed.1) is in
    subst (λ (b : List ℕ). IsLayersIntake b (intake_behind before new)) (sym (append_assoc before taken piece)) all
behind_more read kind name revision size missing piece states.other_version new part may sr ss fed is few = ap (intake_behind (read_bytes read ++ head_bytes kind name revision size)) is
behind_more read kind name revision size missing piece states.no_state new part may sr ss fed is few = ap (intake_behind (read_bytes read ++ head_bytes kind name revision size)) is
behind_more read kind name revision size missing piece states.failed new part may sr ss fed is few = absurd fed

-- memory ran out for it
pub not_behind : (before : List ℕ) (size missing : ℕ) (old new : states.Intake) (kind : Kind) → IsFed size missing old → states.IsNotTakenIn old kind new → IsNotTakenIn (intake_behind before old) kind pieces.failed
not_behind before size missing (states.so_far taken) new kind fed h = (h.0, refl)
not_behind before size missing states.other_version new kind fed h = absurd h
not_behind before size missing states.no_state new kind fed h = absurd h
not_behind before size missing states.failed new kind fed h = absurd fed

-- memory ran out behind its last piece
pub not_ended :
    (before : List ℕ) (size missing : ℕ) (piece : List ℕ) (old new : states.Intake) (kind : Kind) → IsFed size missing old → states.IsTakenIn old piece new → HasNoFault new → kind ≡ kinds.Memory → IsNotTakenIn (intake_behind before old) kind pieces.failed
not_ended before size missing piece (states.so_far taken) new kind fed is free memory = (memory, refl)
not_ended before size missing piece states.other_version new kind fed is free memory = absurd (free kinds.Version (subst (λ (i : states.Intake). HasStateFaultAt i kinds.Version) (sym is) refl))
not_ended before size missing piece states.no_state new kind fed is free memory = absurd (free kinds.NotState (subst (λ (i : states.Intake). HasStateFaultAt i kinds.NotState) (sym is) refl))
not_ended before size missing piece states.failed new kind fed is free memory = absurd fed

-- ---- a state is whole

pub so_far_of : (size missing : ℕ) (intake : states.Intake) → IsFed size missing intake → HasNoFault intake → (taken : List ℕ) × (intake ≡ states.so_far taken)
so_far_of size missing (states.so_far taken) fed free = (taken, refl)
so_far_of size missing states.other_version fed free = absurd (free kinds.Version refl)
so_far_of size missing states.no_state fed free = absurd (free kinds.NotState refl)
so_far_of size missing states.failed fed free = absurd fed

module _ (read : LayersRead) (state : StateRead) (part : IsPartRead read) (is : IsStateRead read.layers.items state) (whole : state.missing ≡ 0) where
  fed_whole : (taken : List ℕ) → state.reader ≡ states.so_far taken → (length taken ≡ state.size) × (slice_get taken 4 ≡ Some 2)
  fed_whole taken e =
      let fed : IsFed state.size state.missing (states.so_far taken) = subst (IsFed state.size state.missing) e is.fed in
      (omega (arith, fed.0, whole), fed.1)

  held_state : (taken : List ℕ) → state.reader ≡ states.so_far taken → IsStateInLayers taken
  held_state taken e = let f = fed_whole taken e in let small = is.size_small in (omega (arith, f.0, small), f.1)

  fed_none : IsFed state.size 0 state.reader
  fed_none = subst (λ (n : ℕ). IsFed state.size n state.reader) whole is.fed

  -- no layer has it
  no_layer_of : ((taken : List ℕ) → state.reader ≡ states.so_far taken → (table : Table) → language.IsValid table → language.written table ≡ taken → (state.kind ≡ layer_kinds.Policy → IsWellFormed (language.table_refuses table)) → ⊥)
      → IsTakenIn (intake_behind (before_state read state) state.reader) [] pieces.no_layers
  no_layer_of none = state_ended (before_state read state) state.size state.reader pieces.no_layers fed_none
      (λ taken e. no_layer_inside read.count read.layers.items state.kind state.name state.revision state.size taken part.front part.more part.small (short_of state.kind state.name state.revision is.may) is.revision_small is.size_small (fed_whole taken e).0 (none taken e))
      (λ kind h. refl)

  pub ended_none : IsNoContentRead state.reader → IsTakenIn (intake_behind (before_state read state) state.reader) [] pieces.no_layers
  ended_none none = no_layer_of (λ taken e table valid own formed. none taken e (held_state taken e) table valid own)

  pub ended_bad : (content : Table) → IsContentRead state.reader content → ((state.kind ≡ layer_kinds.Policy → IsWellFormed (language.table_refuses content)) → ⊥) → IsTakenIn (intake_behind (before_state read state) state.reader) [] pieces.no_layers
  ended_bad content h bad = no_layer_of (λ taken e table valid own formed.
      let held = held_state taken e in
      let spelled = h.spelled taken e held in
      let same : table ≡ content = same_content table content valid h.valid (subst (λ (b : List ℕ). length b < 2 ^ 64) (sym own) held.0) (own ∙ sym spelled) in
      bad (λ policy. subst (λ (t : Table). IsWellFormed (language.table_refuses t)) same (formed policy)))

  module _ (l : Layer) (kind : l.kind ≡ state.kind) (name : l.name ≡ state.name) (revision : l.revision ≡ state.revision) (h : IsContentRead state.reader l.content) (formed : state.kind ≡ layer_kinds.Policy → IsWellFormed (language.table_refuses l.content)) where
    held_layer : IsHeld l
    held_layer =
        let some = so_far_of state.size 0 state.reader fed_none h.no_fault in
        let held = held_state some.0 some.1 in
        let own = h.spelled some.0 some.1 held in
        record {
          is_layer = record {
            is = ⊎_elim
                (λ c. inl (record { kind = kind ∙ c.0; name = name ∙ c.1; revision = revision ∙ c.2 }))
                (λ n. inr (record { name = subst IsLayerName (sym name) n.0; from = let from = n.1 in omega (arith, from, revision); to = let to = is.revision_small in omega (arith, to, revision) }))
                is.may;
            valid = h.valid;
            well_formed = λ policy. formed (sym kind ∙ policy);
          };
          long = subst (λ (b : List ℕ). length b < 2 ^ 64) (sym own) held.0;
        }

    pub ended_front : AreFront (read.layers.items ++ l ∷ [])
    ended_front = more_front read.layers.items l part.front (subst (λ (k : LayerKind). IsKeyBehind read.layers.items k l.name) (sym kind) (subst (λ (n : List ℕ). IsKeyBehind read.layers.items state.kind n) (sym name) is.behind)) held_layer

    pub ended_read : (longer : LayersRead) (new : Stage) → longer.count ≡ read.count → longer.layers.items ≡ read.layers.items ++ l ∷ [] → HasTaken (read_bytes longer) new → IsTakenIn (intake_behind (before_state read state) state.reader) [] (intake_of new)
    ended_read longer new count items taken_in = state_ended (before_state read state) state.size state.reader (intake_of new) fed_none
        (λ taken e.
        let f = fed_whole taken e in
        let own = h.spelled taken e (held_state taken e) in
        let heads : head_bytes state.kind state.name state.revision state.size ≡ head_bytes l.kind l.name l.revision state.size =
        ap (λ (k : LayerKind). head_bytes k state.name state.revision state.size) (sym kind) ∙ ap (λ (n : List ℕ). head_bytes l.kind n state.revision state.size) (sym name) ∙ ap (λ (r : ℕ). head_bytes l.kind l.name r state.size) (sym revision) in
        let all : before_state read state ++ taken ≡ read_bytes longer =
        ap (λ (t : List ℕ). (read_bytes read ++ t) ++ taken) heads ∙ layer_read read.count read.layers.items l state.size taken own f.0
        ∙ ap (λ (n : ℕ). read_front n (read.layers.items ++ l ∷ [])) (sym count) ∙ ap (read_front longer.count) (sym items) in
        subst (λ (b : List ℕ). IsLayersIntake b (intake_of new)) (sym all) taken_in.1)
        (λ fault found. absurd (h.no_fault fault found))

-- ---- behind all layers
pub whole_more : (stage : Stage) (layers : _) (piece : List ℕ) → stage ≡ stages.Whole layers → IsSound stage → 0 < length piece → IsTakenIn (intake_of stage) (take (length piece) piece) pieces.no_layers
whole_more stage layers piece e sound some =
    let map = subst IsSound e sound in
    let all : take (length piece) piece ≡ piece = take_all (length piece) piece (omega arith) in
    subst (λ (s : Stage). IsTakenIn (intake_of s) (take (length piece) piece) pieces.no_layers) (sym e) (subst (λ (p : List ℕ). IsLayersIntake (layers_bytes layers.items ++ p) pieces.no_layers) (sym all) (no_more layers.items piece map some))
