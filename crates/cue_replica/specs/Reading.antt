-- State bytes that a reader was handed piece by piece, and a site by this reader.
use Rattle.std.specs.Prelude.{◌≡◌, ◌<◌, ◌^◌, ℕ, List, [], ◌++◌, length}
use Rattle.cue_lattice.specs.declared.refusal.Kind.{Kind}
use Rattle.cue_lattice.specs.declared.refusal.Kind.TheVariants as kinds
use Rattle.cue_lattice.specs.declared.refusal.Refusal.{Refusal}
use Rattle.cue_lattice.specs.Refusal.{refusal_at}
use Rattle.cue_codec.specs.Pieces.{Intake, so_far, other_version, no_state, failed}
use Rattle.cue_codec.specs.Pieces.{IsIntake, IsTakenIn}
use Rattle.cue_replica.specs.Language.{language}

-- these are all bytes that the reader has taken in, as many as a memory can hold
abbrev pub HasTakenIn : Intake → List ℕ → Type 0
HasTakenIn intake bytes = IsIntake bytes intake × (length bytes < 2 ^ 64)

-- the fault at which a reader stands, whatever it is handed further
abbrev pub HasFaultAt : Intake → Kind → Type 0
HasFaultAt (so_far bytes) kind = ⊥
HasFaultAt other_version kind = kind ≡ kinds.Version
HasFaultAt no_state kind = kind ≡ kinds.NotState
HasFaultAt failed kind = kind ≡ kinds.Failed

-- What a reader has taken in tells of all bytes that it was handed, however they were cut.
pub record AreReadInPieces : Type 0 where
  -- a new reader was handed no bytes
  pub none : IsIntake [] (so_far [])
  -- one that takes in a piece more was handed that piece too
  pub more : (bytes piece : List ℕ) (old new : Intake) → IsIntake bytes old
      → IsTakenIn old piece new → IsIntake (bytes ++ piece) new
  -- where it stands at a fault, that is the fault of its bytes, whatever follows them, as many
  -- bytes as a memory can hold
  pub stands : (bytes rest : List ℕ) (intake : Intake) (kind : Kind) → IsIntake bytes intake
      → HasFaultAt intake kind → length (bytes ++ rest) < 2 ^ 64
      → language.IsStateFault (bytes ++ rest) (refusal_at kind 0)
  -- no bytes have two faults
  pub one_fault : (bytes : List ℕ) (why other : Refusal) → language.IsStateFault bytes why
      → language.IsStateFault bytes other → why ≡ other
