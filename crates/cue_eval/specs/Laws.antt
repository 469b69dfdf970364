-- Laws of what expressions refuse.
use Rattle.std.specs.Prelude.{◌≡◌, ◌<◌, ◌↔◌, ◌⊎◌, List, ℕ, IsTrue, length, slice_get}
use Rattle.cue_lattice.specs.Path.{Path}
use Rattle.cue_lattice.specs.Question.{Question, allows, SameAnswers, IsAsNarrowAs}
use Rattle.cue_scope.specs.Core.{Core, conjunction, struct, closed, Cores, no_cores, core, Members}
use Rattle.cue_scope.specs.Core.{no_members, member, dots, is_scalar}
use Rattle.cue_scope.specs.Definitions.{Definition}
use Rattle.cue_scope.specs.Graph.{IsOrder}
use Rattle.cue_scope.specs.Uses.{graph}
use Rattle.cue_scope.specs.Meaning.{meaning_of_number, meant_use}
use Rattle.cue_eval.specs.Pairs.{pair}
use Rattle.cue_eval.specs.Literals.{literals, LeaveOut}
use Rattle.cue_eval.specs.Places.{IsAtPlace, ScalarRefuses}
use Rattle.cue_eval.specs.Refuses.{Refuses}

-- `a & b`
abbrev pub conjunction_of : Core → Core → Core
conjunction_of a b = conjunction (core a (core b no_cores))

-- Where definitions can be ordered by use, a use of one means its body, closed.
abbrev pub UsesAreClosedBodies : Type 0
UsesAreClosedBodies =
    (ds : List Definition) (order : List ℕ) → IsOrder (graph ds) order → (i : ℕ) → i < length ds →
    meaning_of_number ds i ≡ meant_use ds (meaning_of_number ds) (slice_get ds i)

-- `a & b` refuses exactly what one of both refuses
abbrev pub IsUnification : Type 0
IsUnification = (a b : Core) (path : Path) (question : Question) →
    Refuses (conjunction_of a b) path question ↔ (Refuses a path question ⊎ Refuses b path question)

-- What refuses more, refuses more with b too.
abbrev pub IsMonotone : Type 0
IsMonotone =
    (a c b : Core) → IsAsNarrowAs (Refuses a) (Refuses c)
    → IsAsNarrowAs (Refuses (conjunction_of a b)) (Refuses (conjunction_of c b))

-- the declarations of two struct literals as one
abbrev pub joined_members : Members → Members → Members
joined_members no_members ms = ms
joined_members (member l mark c rest) ms = member l mark c (joined_members rest ms)
joined_members (dots rest) ms = dots (joined_members rest ms)

-- Declarations may stand in one struct literal or in several that are unified.
abbrev pub IsSplitAnywhere : Type 0
IsSplitAnywhere =
    (some others : Members)
    → SameAnswers (Refuses (struct (joined_members some others)))
    (Refuses (conjunction_of (struct some) (struct others)))

-- A place where labels are left out already is changed by no closing around it.
abbrev pub IsClosedOnce : Type 0
IsClosedOnce = (c : Core) (path : Path) (k l : List ℕ) →
    Refuses c path (allows k) → LeaveOut (literals c path) l → Refuses c path (allows l)

-- Closing a body twice is closing it once.
abbrev pub IsClosedForGood : Type 0
IsClosedForGood = (c : Core) → SameAnswers (Refuses (closed (closed c))) (Refuses (closed c))

-- Parts that are closed one by one are at least as narrow as what is closed whole: each part must
-- allow a label then.
abbrev pub IsClosedByParts : Type 0
IsClosedByParts =
    (a b : Core) → IsAsNarrowAs (Refuses (conjunction_of (closed a) (closed b))) (Refuses (closed (conjunction_of a b)))

-- Each `&` has parts, as the grammar has it. Of what stands in terms, structs and lists nothing is
-- asked.
abbrev mutual
  pub HasParts : Core → Type 0
  HasParts (conjunction no_cores) = ⊥
  HasParts (conjunction (core c cs)) = HasParts c × AllHaveParts cs
  HasParts (closed c) = HasParts c
  HasParts _ = Unit {0}

  pub AllHaveParts : Cores → Type 0
  AllHaveParts no_cores = Unit {0}
  AllHaveParts (core c cs) = HasParts c × AllHaveParts cs

-- A scalar expression refuses what its value and default refuse, at its own place alone.
abbrev pub IsItsPair : Type 0
IsItsPair =
    (c : Core) → IsTrue (is_scalar c) → HasParts c
    → SameAnswers (Refuses c) (IsAtPlace (ScalarRefuses (pair c)))
