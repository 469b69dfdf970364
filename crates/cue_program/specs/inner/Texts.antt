-- The parts of what a reader gives, as texts.
use Rattle.std.specs.Prelude.{◌≡◌, ℕ, ◌+◌, ◌-◌, ◌^◌, min, List, ◌∷◌, ◌++◌, length}
use Rattle.std.specs.Prelude.{Option, Some, None}
use Rattle.std.specs.List.{AllByRecursion}
use Rattle.cue_replica.specs.Accepted.{IsOfTexts}
use Rattle.cue_replica.specs.Language.{Table, language}
use Rattle.cue_replica.specs.declared.Refusal.{Refusal}
use Rattle.cue_program.specs.Inputs.{IsTextInputRefusal}
use Rattle.cue_program.specs.Parts.{lines_of, ArePartsOfText}
use Rattle.cue_program.specs.Stops.{IsRefusedAs}
use Rattle.cue_program.specs.declared.stop.RunError.{RunError}

-- the table is valid, and the unification of the parts of the bytes, which are texts of the
-- language
abbrev pub AreTexts : List ℕ → Table → Type 0
AreTexts bytes table =
    (parts : List (List ℕ)) × ArePartsOfText (lines_of bytes) parts × IsOfTexts table parts

-- with the parts of the rest, where there is one, these are the parts of the bytes
abbrev pub AreFirstParts : List ℕ → List (List ℕ) → Option (List ℕ) → Type 0
AreFirstParts bytes done None = ArePartsOfText (lines_of bytes) done
AreFirstParts bytes done (Some rest) =
    (parts : List (List ℕ)) → ArePartsOfText (lines_of rest) parts
    → ArePartsOfText (lines_of bytes) (done ++ parts)

-- the number is so many, or the greatest number that can be told
abbrev pub IsCountOf : ℕ → List (List ℕ) → Type 0
IsCountOf number done = number ≡ min (length done) (2 ^ 64 - 1)

-- The table is the unification of the first parts of the bytes, which are so many, and this is the
-- rest.
abbrev pub HasTakenParts : List ℕ → Table → ℕ → Option (List ℕ) → Type 0
HasTakenParts bytes table number rest =
    (done : List (List ℕ)) × IsOfTexts table done × AreFirstParts bytes done rest
    × IsCountOf number done

-- the parts in front are fine, and the next one is refused for such a reason
abbrev pub IsPartRefused :
    (List ℕ → Type 0) → (List ℕ → Refusal → Type 0) → List ℕ → RunError → Type 0
IsPartRefused IsFine IsReason bytes stop =
    (before : List (List ℕ)) × (part : List ℕ) × (others : List (List ℕ))
    × ArePartsOfText (lines_of bytes) (before ++ part ∷ others)
    × AllByRecursion IsFine before
    × ((why : Refusal) × IsRefusedAs why (min (length before + 1) (2 ^ 64 - 1)) stop
    × IsReason part why)

-- the parts in front are texts of the language, and the next one is refused
abbrev pub IsTextRefused : List ℕ → RunError → Type 0
IsTextRefused bytes stop = IsPartRefused language.IsLegal IsTextInputRefusal bytes stop
