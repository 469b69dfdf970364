-- What a reader of layers bytes has taken in, piece by piece.
use Rattle.std.proofs.Common.{◌≡◌, ◌≢◌, inl, inr, ℕ, ◌<◌, ◌^◌, List, [], ◌++◌, append-nil, append_assoc, length, refl, sym, ap, subst}
use Rattle.cue_lattice.specs.declared.refusal.Kind.{Kind}
use Rattle.cue_lattice.specs.declared.refusal.Kind.TheVariants as kinds
use Rattle.cue_codec.specs.Pieces as states
use Rattle.cue_replica.specs.Reading.{HasFaultAt as HasStateFaultAt}
use Rattle.cue_layers.specs.declared.refusal.LayersRefusal.{LayersRefusal}
use Rattle.cue_layers.specs.Bytes.{IsLayersBytes, IsOtherLayersVersion, IsLayersFault}
use Rattle.cue_layers.specs.Pieces.{LayersIntake, so_far, other_version, no_layers, failed, IsNoLayersPrefix, IsLayersIntake, IsTakenIn, IsNotTakenIn, HasFaultAt, AreReadInPieces}
use Rattle.cue_layers.specs.Inner.Stages.{intake_behind, IsFed}

pub no_layers_more : (bytes more : List ℕ) → IsNoLayersPrefix bytes → IsNoLayersPrefix (bytes ++ more)
no_layers_more bytes more none = record {
  known = λ rest other. none.known (more ++ rest) (subst IsOtherLayersVersion (append_assoc bytes more rest) other);
  none = λ layers rest fits is.
      let same = append_assoc bytes more rest in
      none.none layers (more ++ rest) (subst (λ (b : List ℕ). length b < 2 ^ 64) same fits) (subst (λ (b : List ℕ). IsLayersBytes b layers) same is);
}

pub other_more : (bytes more : List ℕ) → IsOtherLayersVersion bytes → IsOtherLayersVersion (bytes ++ more)
other_more bytes more other = (other.0, other.1 ++ more, ap (λ (t : List ℕ). t ++ more) other.2, other.3)

pub intake_more : (bytes piece : List ℕ) (old new : LayersIntake) → IsLayersIntake bytes old → IsTakenIn old piece new → IsLayersIntake (bytes ++ piece) new
intake_more bytes piece (so_far taken) new is more = subst (λ (b : List ℕ). IsLayersIntake (b ++ piece) new) is more
intake_more bytes piece other_version new is same = subst (IsLayersIntake (bytes ++ piece)) (sym same) (other_more bytes piece is)
intake_more bytes piece no_layers new is same = subst (IsLayersIntake (bytes ++ piece)) (sym same) (no_layers_more bytes piece is)
intake_more bytes piece failed new is more = absurd is

pub taken_twice : (old middle new : LayersIntake) (p q : List ℕ) → IsTakenIn old p middle → IsTakenIn middle q new → IsTakenIn old (p ++ q) new
taken_twice (so_far bytes) middle new p q first second = subst (λ (b : List ℕ). IsLayersIntake b new) (append_assoc bytes p q) (intake_more (bytes ++ p) q middle new first second)
taken_twice other_version middle new p q first second = subst (λ (m : LayersIntake). IsTakenIn m q new) first second
taken_twice no_layers middle new p q first second = subst (λ (m : LayersIntake). IsTakenIn m q new) first second
taken_twice failed middle new p q first second = absurd first

pub taken_nothing : (intake : LayersIntake) → intake ≢ failed → IsTakenIn intake [] intake
taken_nothing (so_far bytes) ok = sym (append-nil bytes)
taken_nothing other_version ok = refl
taken_nothing no_layers ok = refl
taken_nothing failed ok = absurd (ok refl)

pub not_taken_later : (old middle new : LayersIntake) (p : List ℕ) (kind : Kind) → IsTakenIn old p middle → IsNotTakenIn middle kind new → IsNotTakenIn old kind new
not_taken_later (so_far bytes) (so_far taken) new p kind first second = second
not_taken_later (so_far bytes) other_version new p kind first second = absurd second
not_taken_later (so_far bytes) no_layers new p kind first second = absurd second
not_taken_later (so_far bytes) failed new p kind first second = absurd first
not_taken_later other_version middle new p kind first second = subst (λ (m : LayersIntake). IsNotTakenIn m kind new) first second
not_taken_later no_layers middle new p kind first second = subst (λ (m : LayersIntake). IsNotTakenIn m kind new) first second
not_taken_later failed middle new p kind first second = absurd first

pub read_in_pieces : AreReadInPieces
read_in_pieces = record { none = refl; more = intake_more; stands = stands }
  where
    stands : (bytes rest : List ℕ) (intake : LayersIntake) (why : LayersRefusal) → IsLayersIntake bytes intake → HasFaultAt intake why → length (bytes ++ rest) < 2 ^ 64 → IsLayersFault (bytes ++ rest) why
    stands bytes rest (so_far taken) why is fault fits = absurd fault
    stands bytes rest other_version why is fault fits = inl (fault, other_more bytes rest is)
    stands bytes rest no_layers why is fault fits = inr (fault, is.known rest, λ layers own. is.none layers rest fits own)
    stands bytes rest failed why is fault fits = absurd is

-- the end of a state behind other bytes
pub state_ended :
    (before : List ℕ) (size : ℕ) (intake : states.Intake) (new : LayersIntake) → IsFed size 0 intake → ((taken : List ℕ) → intake ≡ states.so_far taken → IsLayersIntake (before ++ taken) new)
    → ((kind : Kind) → HasStateFaultAt intake kind → new ≡ no_layers) → IsTakenIn (intake_behind before intake) [] new
state_ended before size (states.so_far taken) new fed reads faults = subst (λ (b : List ℕ). IsLayersIntake b new) (sym (append-nil (before ++ taken))) (reads taken refl)
state_ended before size states.other_version new fed reads faults = faults kinds.Version refl
state_ended before size states.no_state new fed reads faults = faults kinds.NotState refl
state_ended before size states.failed new fed reads faults = absurd fed
