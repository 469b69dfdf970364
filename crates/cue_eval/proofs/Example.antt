-- What the examples share.
use Rattle.std.proofs.Common.{◌≡◌, ◌<◌, ℕ, true, false, List, [], ◌∷◌, sym, ◌∙◌, arith}
use Rattle.std.specs.Prelude.{codes, pos}
use Rattle.std.specs.List.{list_any}
use Rattle.std.specs.Str.{bytes_eq}
use Rattle.std.proofs.lemmas.Bool.{false≢true}
use Rattle.std.proofs.lemmas.Int.{ints}
use Rattle.std.proofs.lemmas.Slice.Eq.{bytes_eq-Decides}
use Rattle.cue_lattice.specs.Path.{Path, label}
use Rattle.cue_lattice.specs.Scalar.{IsInteger}
use Rattle.cue_lattice.specs.Question.{Question, may_be, usual}
use Rattle.cue_lattice.specs.declared.scalar.Scalar.TheVariants as scalars
use Rattle.cue_syntax.specs.declared.tree.Mark.TheVariants.{Regular, Optional, Required}
use Rattle.cue_syntax.specs.declared.tree.Sign.TheVariants.{Absent}
use Rattle.cue_scope.specs.Core.{Core, integer, Members, member}
use Rattle.cue_eval.specs.Literals.{has_declaration, has_dots, LeaveOut}

-- an integer, and the questions of it
abbrev pub number : ℕ → Core
number n = integer (record { sign = Absent; magnitude = n })

abbrev pub may_be_number : ℕ → Question
may_be_number n = may_be (scalars.Int (pos n))

abbrev pub usual_number : ℕ → Question
usual_number n = usual (scalars.Int (pos n))

-- such a number is an integer of the language where it is not too large
pub in_range : (n : ℕ) → n < 9223372036854775808 → IsInteger (pos n)
in_range n h = (omega (arith, ints), omega (arith, ints))

-- a field without a mark, one with `?`, one with `!`
abbrev pub field : List ℕ → Core → Members → Members
field l c ms = member l Regular c ms

abbrev pub optional : List ℕ → Core → Members → Members
optional l c ms = member l Optional c ms

abbrev pub required : List ℕ → Core → Members → Members
required l c ms = member l Required c ms

abbrev pub a : List ℕ
a = codes "a"

abbrev pub b : List ℕ
b = codes "b"

abbrev pub c : List ℕ
c = codes "c"

abbrev pub at : List ℕ → Path
at l = label l ∷ []

-- another label
pub other : (k l : List ℕ) → bytes_eq k l ≡ false → k ≡ l → ⊥
other k l e f = false≢true (sym e ∙ (bytes_eq-Decides k l).1 f)

pub left_out : (ms : Members) (written : List Members) (l : List ℕ) →
    list_any has_dots (ms ∷ written) ≡ false → list_any (has_declaration l) (ms ∷ written) ≡ false → LeaveOut (ms ∷ written) l
left_out ms written l d e = record { some = (λ f. cc); without_dots = d; undeclared = e }

pub declared_stays : (written : List Members) (l : List ℕ) → list_any (has_declaration l) written ≡ true → LeaveOut written l → ⊥
declared_stays written l e out = false≢true (sym out.undeclared ∙ e)

pub dots_open : (written : List Members) (l : List ℕ) → list_any has_dots written ≡ true → LeaveOut written l → ⊥
dots_open written l e out = false≢true (sym out.without_dots ∙ e)
