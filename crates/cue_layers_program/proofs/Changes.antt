-- A put of one state, which holds all inputs.
use Rattle.std.proofs.Common.{◌≡◌, ◌⊎◌, inl, inr, ⊎_elim, ℕ, zero, suc, ◌<◌, ◌^◌, List, [], ◌∷◌, ◌++◌, Some, None, Option, IfSome, is_some, not, Bor, Bool, true, false, length, refl, sym, ap, ◌∙◌, subst}
use Rattle.std.specs.Prelude.{take, slice_get}
use Rattle.std.specs.List.{AllByRecursion}
use Rattle.cue_lattice.specs.Question.{Refusals, SameAnswers}
use Rattle.cue_lattice.specs.World.{Piece, state, pieces_refuse}
use Rattle.cue_lattice.specs.declared.refusal.Refusal.{Refusal}
use Rattle.cue_layers.specs.Join.{IsOnePut}
use Rattle.cue_layers.proofs.Lists.{all_at}
use Rattle.cue_layers.specs.Layers.{key, key_of}
use Rattle.cue_layers.specs.Names.{IsLayerName}
use Rattle.cue_layers.specs.Puts.{HasElement}
use Rattle.cue_layers.specs.Refusals.{IsFirstFault, IsPieceFault, IsPutFault, IsPutRefusal, MayBe}
use Rattle.cue_layers.specs.declared.Layer.{Layer}
use Rattle.cue_layers.specs.declared.LayersRefusal.{LayersRefusal}
use Rattle.cue_layers.specs.declared.LayersRefusal.TheVariants as reasons
use Rattle.cue_policies.specs.WellFormed.{IsWellFormed}
use Rattle.cue_policies.specs.declared.kind.LayerKind.{LayerKind}
use Rattle.cue_policies.specs.declared.kind.LayerKind.TheVariants as kinds
use Rattle.cue_program.specs.Inputs.{Inputs, IsUnified}
use Rattle.cue_replica.proofs.Sound.{sound}
use Rattle.cue_replica.specs.Accepted.{IsAcceptable}
use Rattle.cue_replica.specs.Language.{Table, language}
use Rattle.cue_layers_program.specs.Changes.{IsAbsent, IsMapChange, IsChangeStop}
use Rattle.cue_layers_program.specs.Stops.{IsRefusalLayersStop}
use Rattle.cue_layers_program.specs.declared.stop.LayersStop.{LayersStop}
use Rattle.cue_layers_program.specs.declared.stop.LayersStop.TheVariants as ends

-- the bytes are those of the table
pub record AreOf (table : Table) (bytes : List ℕ) : Type 0 where
  pub valid : language.IsValid table
  pub written : bytes ≡ language.written table
  pub held : length bytes < 2 ^ 64

reads : (table : Table) (bytes : List ℕ) → AreOf table bytes → language.IsState bytes × SameAnswers (language.state_refuses bytes) (language.table_refuses table)
reads table bytes of =
    let P : List ℕ → Type 0 = λ b. length b < 2 ^ 64 in
    let Q : List ℕ → Type 0 = λ b. language.IsState b × SameAnswers (language.state_refuses b) (language.table_refuses table) in
    subst Q (sym of.written) (sound.reads_own table of.valid (subst P of.written of.held))

-- the one state refuses what the pieces do
same_pieces : (table : Table) (bytes : List ℕ) (pieces : List Piece) → AreOf table bytes → SameAnswers (language.table_refuses table) (pieces_refuse language pieces)
    → SameAnswers (pieces_refuse language (state bytes ∷ [])) (pieces_refuse language pieces)
same_pieces table bytes pieces of same path question =
    let read = reads table bytes of in (
      λ r. ⊎_elim (λ h. (same path question).0 ((read.1 path question).0 h)) (λ no. absurd no) r,
      λ r. inl ((read.1 path question).1 ((same path question).1 r)),
    )

turned : (a b : Refusals) → SameAnswers a b → SameAnswers b a
turned a b same path question = ((same path question).1, (same path question).0)

well_same : (a b : Refusals) → SameAnswers a b → IsWellFormed a → IsWellFormed b
well_same a b same w = record {
  lists = λ path question r. w.lists path question ((same path question).1 r);
  sets = λ path l pattern r is. (same path _).0 (w.sets path l pattern ((same path _).1 r) is);
}

may_same : (kind : LayerKind) (a b : List Piece) → SameAnswers (pieces_refuse language a) (pieces_refuse language b) → MayBe kind a → MayBe kind b
may_same kinds.Layer a b same may = tt
may_same kinds.Policy a b same may = well_same (pieces_refuse language a) (pieces_refuse language b) same may

-- a put of the state is one of the pieces
pub changed :
    (old new : List Layer) (kind : LayerKind) (name : List ℕ) (inputs : Inputs) (table : Table) (bytes : List ℕ) (revision : ℕ) → IsUnified inputs table → AreOf table bytes
    → IsOnePut old kind name (state bytes ∷ []) new revision → IsMapChange old kind name inputs new revision
changed old new kind name inputs table bytes revision holds of put =
    let pieces = holds.0 in
    let same = same_pieces table bytes pieces of holds.2.1.1 in (
      pieces,
      holds.1,
      record {
        is_name = put.is_name;
        acceptable = holds.2.0;
        may_be = may_same kind (state bytes ∷ []) pieces same put.may_be;
        is_next = put.is_next;
        small = put.small;
        content = put.content;
        refuses = λ path question. (λ r. (same path question).0 ((put.refuses path question).0 r), λ r. (put.refuses path question).1 ((same path question).1 r));
        joined = put.joined;
      },
    )

-- the state has no fault
no_fault : (table : Table) (bytes : List ℕ) (index : ℕ) (why : Refusal) → AreOf table bytes → IsFirstFault (state bytes ∷ []) index why → ⊥
no_fault table bytes zero why of fault =
    let is : state bytes ≡ fault.1.0 = let e = fault.1.1 in cc in
    sound.no_state_fault bytes why (reads table bytes of).0 (subst (λ (p : Piece). IsPieceFault p why) (sym is) fault.1.2)
no_fault table bytes (suc index) why of fault = let e = fault.1.1 in absurd cc

put_fault :
    (old : List Layer) (kind : LayerKind) (name : List ℕ) (inputs : Inputs) (table : Table) (bytes : List ℕ) (why : LayersRefusal) → IsLayerName name → IsUnified inputs table → AreOf table bytes
    → IsPutFault old kind name (state bytes ∷ []) why → IsChangeStop old kind name inputs (ends.Refused why)
put_fault old kind name inputs table bytes (reasons.Store why) named holds of fault = absurd fault
put_fault old kind name inputs table bytes (reasons.InPiece index why) named holds of fault = absurd (no_fault table bytes index why of fault.1)
put_fault old kind name inputs table bytes reasons.NotLayers named holds of fault = absurd fault
put_fault old kind name inputs table bytes (reasons.BadName place) named holds of fault = absurd (fault.no_name named)
put_fault old kind name inputs table bytes reasons.NotWellFormed named holds of fault =
    let same = same_pieces table bytes holds.0 of holds.2.1.1 in
    inr (inl (holds.0, holds.1, holds.2.0, inl (λ may. fault.2 (may_same kind holds.0 (state bytes ∷ []) (turned (pieces_refuse language (state bytes ∷ [])) (pieces_refuse language holds.0) same) may), refl)))
put_fault old kind name inputs table bytes reasons.RevisionsUsed named holds of fault =
    let same = same_pieces table bytes holds.0 of holds.2.1.1 in
    inr (inl (holds.0, holds.1, holds.2.0, inr (may_same kind (state bytes ∷ []) holds.0 same fault.2, fault.3, refl)))
put_fault old kind name inputs table bytes reasons.ViewTooLarge named holds of fault = absurd fault

-- why the put of the state is refused
pub change_refused :
    (old : List Layer) (kind : LayerKind) (name : List ℕ) (inputs : Inputs) (table : Table) (bytes : List ℕ) (why : LayersRefusal) (stop : LayersStop) → IsLayerName name → IsUnified inputs table
    → AreOf table bytes → IsPutRefusal old kind name (state bytes ∷ []) why → IsRefusalLayersStop why stop → IsChangeStop old kind name inputs stop
change_refused old kind name inputs table bytes why stop named holds of (inl fault) is =
    subst (IsChangeStop old kind name inputs) (sym is) (put_fault old kind name inputs table bytes why named holds of fault)
change_refused old kind name inputs table bytes why stop named holds of (inr memory) is =
    inr (inr (is ∙ ap (λ (w : LayersRefusal). ends.Refused w) memory.0))

-- a layer that was found is there
pub there :
    (found : Option (Bor Layer)) (layers : List Layer) (kind : LayerKind) (name : List ℕ) → IfSome found (λ layer. HasElement layers layer.now × (key_of layer.now ≡ key kind name))
    → (r : Bool) → is_some found ≡ not r → r ≡ false → IsAbsent kind name layers → ⊥
there None layers kind name h r is e absent = absurd (let wrong : false ≡ true = is ∙ ap not e in cc)
there (Some l) layers kind name h r is e absent = all_at (λ (layer : Layer). key_of layer ≡ key kind name → ⊥) layers l.now absent h.0 h.1
