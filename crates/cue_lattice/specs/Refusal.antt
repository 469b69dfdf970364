-- What a refusal says: the number and the name of each kind. Both stay the same for good.
use Rattle.std.specs.Prelude.{ℕ, zero, suc, List, [], ◌∷◌, Option, None, codes, slice_get}
use Rattle.cue_lattice.specs.declared.refusal.Kind.{Kind}
use Rattle.cue_lattice.specs.declared.refusal.Kind.TheVariants as kinds
use Rattle.cue_lattice.specs.declared.refusal.Refusal.{Refusal}

abbrev pub number_of : Kind → ℕ
number_of kinds.TooLong = 1
number_of kinds.BadCharacter = 2
number_of kinds.BadString = 3
number_of kinds.BadNumber = 4
number_of kinds.IntRange = 5
number_of kinds.TextTooLong = 6
number_of kinds.Syntax = 7
number_of kinds.Nesting = 8
number_of (kinds.LeftOut form) = 9
number_of kinds.UnknownName = 10
number_of kinds.FieldReference = 11
number_of kinds.Repeated = 12
number_of kinds.Cycle = 13
number_of kinds.TooLarge = 14
number_of kinds.TooDeep = 15
number_of kinds.NotScalar = 16
number_of kinds.Version = 17
number_of kinds.NotState = 18
number_of kinds.FrameTooLong = 19
number_of kinds.BadRequest = 20
number_of kinds.TurnsUsed = 21
number_of kinds.Device = 22
number_of kinds.ReplyTooLong = 23
number_of kinds.Memory = 24
number_of kinds.Failed = 25

-- the names, in the order of the numbers
abbrev pub names : List (List ℕ)
names =
    codes "TooLong" ∷
    codes "BadCharacter" ∷
    codes "BadString" ∷
    codes "BadNumber" ∷
    codes "IntRange" ∷
    codes "TextTooLong" ∷
    codes "Syntax" ∷
    codes "Nesting" ∷
    codes "LeftOut" ∷
    codes "UnknownName" ∷
    codes "FieldReference" ∷
    codes "Repeated" ∷
    codes "Cycle" ∷
    codes "TooLarge" ∷
    codes "TooDeep" ∷
    codes "NotScalar" ∷
    codes "Version" ∷
    codes "NotState" ∷
    codes "FrameTooLong" ∷
    codes "BadRequest" ∷
    codes "TurnsUsed" ∷
    codes "Device" ∷
    codes "ReplyTooLong" ∷
    codes "Memory" ∷
    codes "Failed" ∷
    []

-- the name of the kind with this number, where one has it
abbrev pub name_at : ℕ → Option (List ℕ)
name_at zero = None
name_at (suc n) = slice_get names n

-- the refusal for this reason, at this byte of the text
abbrev pub refusal_at : Kind → ℕ → Refusal
refusal_at kind place = record { kind = kind; place = place }

-- out of memory, which is of no text
abbrev pub memory : Refusal
memory = record { kind = kinds.Memory; place = 0 }
