-- The language keeps to what is asked of every language.
use Rattle.std.proofs.Common.{◌≡◌, ◌⊎◌, ◌<◌, ◌^◌, ℕ, List, [], ◌∷◌, length, refl, ap, sym, ◌∙◌, subst, ⊎_elim, inl, inr}
use Rattle.cue_lattice.specs.declared.refusal.Kind.{Kind}
use Rattle.cue_lattice.specs.declared.refusal.Kind.TheVariants as kinds
use Rattle.cue_lattice.specs.declared.refusal.Refusal.{Refusal}
use Rattle.cue_lattice.specs.Question.{SameAnswers}
use Rattle.cue_lattice.specs.Refusal.{memory, refusal_at}
use Rattle.cue_lattice.specs.World.{IsSoundLanguage}
use Rattle.cue_row.specs.Row.{RowRefusesQuestion}
use Rattle.cue_table.specs.Refuses.{TableRefuses}
use Rattle.cue_table.specs.Valid.{IsValidTable}
use Rattle.cue_codec.specs.State.{table_bytes, IsTableBytes}
use Rattle.cue_codec.specs.Decoding.{IsOtherStateVersion, IsUndecoded}
use Rattle.cue_codec.proofs.ReadStates as codec
use Rattle.std.specs.List.{AllByRecursion}
use Rattle.cue_codec.specs.Entry.{Entry, StateStep, at, to_rest, CanHoldStep, entries_of}
use Rattle.cue_codec.specs.Version.{written_version}
use Rattle.cue_codec.proofs.WrittenStates.{parts_of_state}
use Rattle.cue_replica.specs.Language.{Table, language}
use Rattle.cue_replica.specs.States.{IsTableOf, IsState, state_refuses, IsStateFault, IsStateRefusedAtOnce}
use Rattle.cue_replica.specs.Texts.{IsTextFault}
use Rattle.cue_replica.proofs.Asked.{one_table}
use Rattle.cue_replica.proofs.Texts.{no_text_fault, memory_no_text_fault, text_at_once}

-- the version that is written tells every table
each_told : (steps : List StateStep) → AllByRecursion (CanHoldStep written_version) steps
each_told [] = tt
each_told (at step ∷ steps) = (tt, each_told steps)
each_told (to_rest ∷ steps) = (tt, each_told steps)

told_in_second : (entries : List Entry) → AllByRecursion (λ entry. AllByRecursion (CanHoldStep written_version) entry.path) entries
told_in_second [] = tt
told_in_second (entry ∷ entries) = (each_told entry.path, told_in_second entries)

-- a table that memory can spell is told by its bytes
one_spelling : (bytes : List ℕ) (a b : Table) → length bytes < 2 ^ 64 → IsTableOf bytes a → IsTableOf bytes b → a ≡ b
one_spelling bytes a b held h k =
    codec.one_table a b bytes h.valid k.valid held h.spelled k.spelled

-- the table that bytes are read as refuses what the bytes do
pub state_answers :
    (table : Table) (bytes : List ℕ) → length bytes < 2 ^ 64 → IsTableOf bytes table
    → SameAnswers (TableRefuses RowRefusesQuestion table) (state_refuses bytes)
state_answers table bytes held is path question = (
  λ h. (table, is, h),
  λ h.
      let one = one_spelling bytes h.0 table held h.1 is in
      subst (λ (t : Table). TableRefuses RowRefusesQuestion t path question) one h.2,
)

-- the bytes of a table are of a version that is known
pub known_version : (table : Table) (bytes : List ℕ) → IsTableBytes bytes table → IsOtherStateVersion bytes → ⊥
known_version table bytes is other =
    codec.known_version is.0 bytes _ (sym is.2 ∙ parts_of_state is.0 (entries_of is.0 table)) other

no_state_fault : (bytes : List ℕ) (why : Refusal) → IsState bytes → IsStateFault bytes why → ⊥
no_state_fault bytes why is fault =
    ⊎_elim
    (λ version. known_version is.0 bytes is.1.spelled version.1)
    (λ other. other.2 is.0 is.1.valid is.1.spelled)
    fault.1

memory_apart : (bytes : List ℕ) → (IsTextFault bytes memory ⊎ IsStateFault bytes memory) → ⊥
memory_apart bytes (inl fault) = memory_no_text_fault bytes fault
memory_apart bytes (inr fault) = ⊎_elim (λ version. let no = version.0 in cc) (λ other. let no = other.0 in cc) fault.1

state_at_once : (bytes : List ℕ) → IsStateRefusedAtOnce bytes → (why : Refusal) × IsStateFault bytes why
state_at_once bytes none = let fault = codec.headless_fault bytes none in (refusal_at fault.0 0, (refl, fault.1))

-- what the decoder refuses, and where it may want memory
pub decoder_refuses :
    (bytes : List ℕ) (kind : Kind) → IsUndecoded bytes kind
    → ((refusal_at kind 0 ≡ memory) × ¬ IsStateRefusedAtOnce bytes) ⊎ IsStateFault bytes (refusal_at kind 0)
decoder_refuses bytes kind (inl h) = inl (ap (λ k. refusal_at k 0) h.0, λ none. none h.1)
decoder_refuses bytes kind (inr h) = inr (refl, h)

-- another version is told as such
pub decoder_version : (bytes : List ℕ) (kind : Kind) → IsUndecoded bytes kind → IsOtherStateVersion bytes → kind ≡ kinds.Version
decoder_version bytes kind (inl h) other = absurd (codec.begun_known bytes h.1 other)
decoder_version bytes kind (inr (inl h)) other = h.0
decoder_version bytes kind (inr (inr h)) other = absurd (h.1 other)

-- the bytes of a state are not refused at once
pub state_not_at_once : (bytes : List ℕ) → IsState bytes → IsStateRefusedAtOnce bytes → ⊥
state_not_at_once bytes is first = let fault = state_at_once bytes first in no_state_fault bytes fault.0 is fault.1

-- a valid table is that of its own bytes
pub own_table : (table : Table) → IsValidTable table → IsTableOf (table_bytes table) table
own_table table valid = record { valid = valid; spelled = (written_version, told_in_second (entries_of written_version table), refl) }

reads_own :
    (table : Table) → IsValidTable table → length (table_bytes table) < 2 ^ 64
    → IsState (table_bytes table) × SameAnswers (state_refuses (table_bytes table)) (TableRefuses RowRefusesQuestion table)
reads_own table valid held =
    let is = own_table table valid in
    let same = state_answers table (table_bytes table) held is in (
      (table, is),
      λ path question. ((same path question).1, (same path question).0),
    )

-- the language keeps to what is asked of a meaning
pub sound : IsSoundLanguage Table language
sound = record {
  no_text_fault = no_text_fault;
  no_state_fault = no_state_fault;
  memory_apart = memory_apart;
  text_at_once = text_at_once;
  state_at_once = state_at_once;
  reads_own = reads_own;
  one_table = one_table;
}
