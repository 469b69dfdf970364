-- The state bytes in layers, which are of the version that is written.
use Rattle.std.proofs.Common.{◌≡◌, ◌≢◌, ◌⊎◌, inl, inr, ⊎_elim, ℕ, ◌<◌, ◌^◌, List, length, Some, sym, ap, ◌∙◌, subst}
use Rattle.std.specs.Prelude.{slice_get}
use Rattle.cue_lattice.specs.Refusal.{memory}
use Rattle.cue_lattice.specs.declared.refusal.Refusal.{Refusal}
use Rattle.cue_codec.specs.Entry.{entries_of}
use Rattle.cue_codec.specs.State.{table_bytes_in}
use Rattle.cue_codec.specs.Version.{written_version}
use Rattle.cue_codec.specs.declared.version.Version.{Version}
use Rattle.cue_codec.specs.declared.version.Version.TheVariants as versions
use Rattle.cue_codec.proofs.WrittenStates.{parts_of_state}
use Rattle.cue_replica.specs.Language.{Table, language, empty_site}
use Rattle.cue_replica.specs.Replica.{AddsRefusals}
use Rattle.cue_replica.specs.States.{IsTableOf}
use Rattle.cue_replica.proofs.Accepted.{new_site}
use Rattle.cue_replica.proofs.Sound.{sound, state_answers}
use Rattle.cue_layers.specs.declared.refusal.LayersRefusal.{LayersRefusal}
use Rattle.cue_layers.specs.declared.refusal.LayersRefusal.TheVariants.{NotLayers}
use Rattle.cue_layers.specs.Inner.Reading.{IsRefusedFor}
use Rattle.cue_layers.specs.Refusals.{out_of_memory}

-- the byte of the version
pub fifth : (table : Table) → slice_get (language.written table) 4 ≡ Some 2
fifth table = ap (λ (bytes : List ℕ). slice_get bytes 4) (parts_of_state written_version (entries_of written_version table))

-- the table of bytes of that version has them
spelled : (bytes : List ℕ) (table : Table) → IsTableOf bytes table → slice_get bytes 4 ≡ Some 2 → language.written table ≡ bytes
spelled bytes table is two = by is.spelled.0 is.spelled.2
  where
    by : (version : Version) → table_bytes_in version table ≡ bytes → language.written table ≡ bytes
    by versions.Second e = e
    by versions.First e =
        let one : slice_get bytes 4 ≡ Some 1 = ap (λ (b : List ℕ). slice_get b 4) (sym e ∙ parts_of_state versions.First (entries_of versions.First table)) in
        absurd (let no : Some 1 ≡ Some 2 = sym one ∙ two in cc)

-- what a new site holds that has accepted them
pub content_again : (bytes : List ℕ) (old new : Table) → length bytes < 2 ^ 64 → slice_get bytes 4 ≡ Some 2 → old ≡ empty_site → language.IsState bytes → AddsRefusals old (language.state_refuses bytes) new → language.IsValid new → language.written new ≡ bytes
content_again bytes old new held two is state adds valid =
    let table = state.0 in
    let answers = state_answers table bytes held state.1 in
    let one : new ≡ table = sound.one_table new table valid state.1.valid (λ path question. (
      λ h. ⊎_elim (λ g. absurd ((new_site.1 path question).0 (subst (λ (t : Table). language.table_refuses t path question) is g))) (λ g. (answers path question).1 g) ((adds path question).0 h),
      λ h. (adds path question).1 (inr ((answers path question).0 h)),
    )) in
    ap language.written one ∙ spelled bytes table state.1 two

-- bytes with a fault are those of no table
pub no_content : (bytes : List ℕ) (why : Refusal) → length bytes < 2 ^ 64 → language.IsStateFault bytes why → (table : Table) → language.IsValid table → language.written table ≡ bytes → ⊥
no_content bytes why held fault table valid e =
    let P : List ℕ → Type 0 = λ b. length b < 2 ^ 64 in
    let Q : List ℕ → Type 0 = λ b. language.IsState b in
    sound.no_state_fault bytes why (subst Q e ((sound.reads_own table valid (subst P (sym e) held)).0)) fault

pub refused_for : (bytes : List ℕ) (why : Refusal) (refusal : LayersRefusal) → length bytes < 2 ^ 64 → (why ≡ memory) ⊎ language.IsStateFault bytes why → (why ≡ memory → refusal ≡ out_of_memory) → (why ≢ memory → refusal ≡ NotLayers)
    → IsRefusedFor refusal ((table : Table) → language.IsValid table → language.written table ≡ bytes → ⊥)
refused_for bytes why refusal held (inl m) out none = inl (out m)
refused_for bytes why refusal held (inr fault) out none =
    inr (none (λ m. sound.memory_apart bytes (inr (subst (language.IsStateFault bytes) m fault))), no_content bytes why held fault)
