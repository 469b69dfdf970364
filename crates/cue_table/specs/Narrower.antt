-- The order of tables, and what unification is in it.
use Rattle.std.specs.Prelude.{◌≡◌}
use Rattle.cue_lattice.specs.Question.{IsAsNarrowAs}
use Rattle.cue_table.specs.Tree.{Tree}
use Rattle.cue_table.specs.Form.{IsTable}
use Rattle.cue_table.specs.Meet.{IsMet}
use Rattle.cue_table.specs.Refuses.{TableRefuses}

-- the first table is at least as narrow as the second: it refuses all that the second refuses
abbrev pub IsNarrower : {R Q : Type 0} → (R → Q → Type 0) → Tree R → Tree R → Type 0
IsNarrower refuses a b = IsAsNarrowAs (TableRefuses refuses a) (TableRefuses refuses b)

-- both orders give one table
abbrev pub MeetsCommute : {R Q : Type 0} → (R → Q → Type 0) → (R → Type 0) → Type 0
MeetsCommute {R} refuses is_value =
    (a b m n : Tree R) → IsTable refuses is_value m → IsTable refuses is_value n
    → IsMet refuses a b m → IsMet refuses b a n → m ≡ n

-- three tables give one table, whichever two are met first
abbrev pub MeetsAssociate : {R Q : Type 0} → (R → Q → Type 0) → (R → Type 0) → Type 0
MeetsAssociate {R} refuses is_value =
    (a b c ab bc m n : Tree R) → IsTable refuses is_value m → IsTable refuses is_value n
    → IsMet refuses a b ab → IsMet refuses ab c m → IsMet refuses b c bc
    → IsMet refuses a bc n → m ≡ n

-- a table met with itself is the table
abbrev pub MeetsRepeat : {R Q : Type 0} → (R → Q → Type 0) → (R → Type 0) → Type 0
MeetsRepeat {R} refuses is_value =
    (a m : Tree R) → IsTable refuses is_value a → IsTable refuses is_value m
    → IsMet refuses a a m → m ≡ a

-- the met table is at least as narrow as both
abbrev pub MeetsNarrow : {R Q : Type 0} → (R → Q → Type 0) → Type 0
MeetsNarrow {R} refuses =
    (a b m : Tree R) → IsMet refuses a b m → IsNarrower refuses m a × IsNarrower refuses m b

-- and what is at least as narrow as both is at least as narrow as it
abbrev pub MeetsAreWidest : {R Q : Type 0} → (R → Q → Type 0) → Type 0
MeetsAreWidest {R} refuses =
    (a b m n : Tree R) → IsMet refuses a b m → IsNarrower refuses n a → IsNarrower refuses n b
    → IsNarrower refuses n m
