-- A scalar expression refuses what its value and its default refuse.
use Rattle.std.proofs.Common.{◌≡◌, ◌↔◌, ◌⊎◌, inl, inr, ⊎_elim, Bool, true, false, ◌&&◌, ◌||◌, List, [], ◌∷◌, ◌++◌, Option, Some, None, refl, sym, ap, subst, ◌∙◌}
use Rattle.std.specs.Prelude.{IsTrue, is_some, unwrap_or, if◌then◌else◌}
use Rattle.std.specs.List.{list_any, list_all}
use Rattle.std.proofs.lemmas.Bool.{false≢true}
use Rattle.cue_lattice.specs.OneOf.{OneOf}
use Rattle.cue_lattice.specs.Path.{Path}
use Rattle.cue_lattice.specs.Question as questions
use Rattle.cue_lattice.specs.Question.{Question, may_be, usual, allows}
use Rattle.cue_lattice.specs.declared.scalar.Scalar.{Scalar}
use Rattle.cue_lattice.specs.Scalar.{IsScalar}
use Rattle.cue_scalars.specs.Pairs.{ScalarMembers, ScalarPair, default_or_value, all_of}
use Rattle.cue_scope.specs.Core.{Core, top, conjunction, struct, close, list, closed, Cores, no_cores, core, Members, is_scalar, are_scalar}
use Rattle.cue_eval.specs.Pairs.{pair, pairs_of}
use Rattle.cue_eval.specs.Literals.{literals, literals_of_parts}
use Rattle.cue_eval.specs.Places.{IsAtPlace, ScalarRefuses, ClosingRefuses}
use Rattle.cue_eval.specs.Refuses.{PartsRefuse}
use Rattle.cue_eval.specs.Laws.{AllHaveParts, IsItsPair}

pub one_false : (a b : Bool) → ((a && b) ≡ false) ↔ ((a ≡ false) ⊎ (b ≡ false))
one_false false b = (λ e. inl refl, λ h. refl)
one_false true b = (inr, λ h. ⊎_elim (λ e. absurd (false≢true (sym e))) (λ e. e) h)

pub both_false : (a b : Bool) → (a || b) ≡ false → (a ≡ false) × (b ≡ false)
both_false false b e = (refl, e)
both_false true b e = absurd (false≢true (sym e))

none_unwrapped : (usual : Option ScalarMembers) (value : ScalarMembers) (x : Scalar) → is_some usual ≡ false → unwrap_or usual value x ≡ value x
none_unwrapped None value x e = refl
none_unwrapped (Some set) value x e = absurd (false≢true (sym e))

none_brought : (pair : ScalarPair) (x : Scalar) → is_some pair.usual ≡ false → default_or_value pair x ≡ pair.value x
none_brought pair x e = none_unwrapped pair.usual pair.value x e

-- without defaults each brings its value
values_brought : (pairs : List ScalarPair) (x : Scalar) → list_any (λ (pair : ScalarPair). is_some pair.usual) pairs ≡ false → list_all (λ (pair : ScalarPair). pair.value x) pairs ≡ list_all (λ pair. default_or_value pair x) pairs
values_brought [] x e = refl
values_brought (pair ∷ pairs) x e =
    let parts = both_false (is_some pair.usual) (list_any (λ (p : ScalarPair). is_some p.usual) pairs) e in
    ap (λ b. b && list_all (λ (p : ScalarPair). p.value x) pairs) (sym (none_brought pair x parts.0)) ∙ ap (λ b. default_or_value pair x && b) (values_brought pairs x parts.1)

default_brought : (given : Bool) (set value : ScalarMembers) (x : Scalar) → (given ≡ false → value x ≡ set x) → unwrap_or (if given then Some set else None) value x ≡ set x
default_brought true set value x h = refl
default_brought false set value x h = h refl

-- the default of several, or the value of all where none has one, is what all bring
pub all_brought : (pairs : List ScalarPair) (x : Scalar) → default_or_value (all_of pairs) x ≡ list_all (λ pair. default_or_value pair x) pairs
all_brought pairs x =
    default_brought (list_any (λ (pair : ScalarPair). is_some pair.usual) pairs) (λ y. list_all (λ pair. default_or_value pair y) pairs)
    (λ y. list_all (λ (pair : ScalarPair). pair.value y) pairs) x (values_brought pairs x)

-- one of several refuses a scalar exactly where all together don't bring it
one_leaves_out : (test : ScalarPair → Bool) (pairs : List ScalarPair) (A : Type 0) → OneOf (λ pair. A × (test pair ≡ false)) pairs ↔ (A × (list_all test pairs ≡ false))
one_leaves_out test [] A = (λ h. absurd h, λ h. absurd (false≢true (sym h.1)))
one_leaves_out test (pair ∷ pairs) A =
    let here = one_false (test pair) (list_all test pairs) in
    let rest = one_leaves_out test pairs A in (
      λ h. ⊎_elim (λ g. (g.0, here.1 (inl g.1))) (λ g. let found = rest.0 g in (found.0, here.1 (inr found.1))) h,
      λ h. ⊎_elim (λ e. inl (h.0, e)) (λ e. inr (rest.1 (h.0, e))) (here.0 h.1),
    )

-- each of some refuses it
each_refuses : (first : ScalarPair) (pairs : List ScalarPair) → OneOf (λ pair. Unit {0}) (first ∷ pairs) ↔ Unit {0}
each_refuses first pairs = (λ h. tt, λ h. inl tt)

none_refuses : (pairs : List ScalarPair) → OneOf (λ pair. ⊥) pairs → ⊥
none_refuses [] h = h
none_refuses (pair ∷ pairs) (inl h) = h
none_refuses (pair ∷ pairs) (inr h) = none_refuses pairs h

-- several scalar expressions together refuse what one of them refuses
together : (first : ScalarPair) (pairs : List ScalarPair) (question : Question) → OneOf (λ pair. ScalarRefuses pair question) (first ∷ pairs) ↔ ScalarRefuses (all_of (first ∷ pairs)) question
together first pairs (may_be x) = one_leaves_out (λ pair. pair.value x) (first ∷ pairs) (IsScalar x)
together first pairs (usual x) =
    let met = one_leaves_out (λ pair. default_or_value pair x) (first ∷ pairs) (IsScalar x) in
    let same = all_brought (first ∷ pairs) x in (
      λ h. let found = met.0 h in (found.0, same ∙ found.1),
      λ h. met.1 (h.0, sym same ∙ h.1),
    )
together first pairs questions.struct = each_refuses first pairs
together first pairs questions.list = each_refuses first pairs
together first pairs _ = (λ h. none_refuses (first ∷ pairs) h, λ h. absurd h)

pub both_true : (a b : Bool) → IsTrue (a && b) → IsTrue a × IsTrue b
both_true true b h = (refl, h)
both_true false b h = absurd (false≢true h)

-- no struct literal is written in a scalar expression
mutual
  nothing_written : (c : Core) (path : Path) → IsTrue (is_scalar c) → literals c path ≡ []
  nothing_written (conjunction cs) path h = no_part_written cs path h
  nothing_written (closed c) path h = nothing_written c path h
  nothing_written (struct ms) path h = absurd (false≢true h)
  nothing_written (close ms) path h = absurd (false≢true h)
  nothing_written (list es) path h = absurd (false≢true h)
  nothing_written _ path h = refl

  no_part_written : (cs : Cores) (path : Path) → IsTrue (are_scalar cs) → literals_of_parts cs path ≡ []
  no_part_written no_cores path h = refl
  no_part_written (core c cs) path h =
      let parts = both_true (is_scalar c) (are_scalar cs) h in
      ap (λ xs. xs ++ literals_of_parts cs path) (nothing_written c path parts.0) ∙ no_part_written cs path parts.1

closing_nothing : (question : Question) → ClosingRefuses [] question → ⊥
closing_nothing (allows l) out = out.some refl
closing_nothing _ out = out

nothing_closed : (c : Core) (path : Path) (question : Question) → IsTrue (is_scalar c) → ClosingRefuses (literals c path) question → ⊥
nothing_closed c path question h out = closing_nothing question (subst (λ (xs : List Members). ClosingRefuses xs question) (nothing_written c path h) out)

same_here : (a b : Question → Type 0) (path : Path) (question : Question) → (a question ↔ b question) → IsAtPlace a path question ↔ IsAtPlace b path question
same_here a b [] question e = e
same_here a b (step ∷ path) question e = (λ h. h, λ h. h)

-- one of several refuses at their own place
one_here : (pairs : List ScalarPair) (path : Path) (question : Question) → OneOf (λ pair. IsAtPlace (ScalarRefuses pair) path question) pairs ↔ IsAtPlace (λ q. OneOf (λ pair. ScalarRefuses pair q) pairs) path question
one_here pairs [] question = (λ h. h, λ h. h)
one_here pairs (step ∷ path) question = (λ h. none_refuses pairs h, λ h. absurd h)

-- Scalars that are joined by `&` refuse, at their own place, exactly what one of them does: a scalar may stand, and is
-- usual, where each of them says so.
pub all_refuse : (first : ScalarPair) (pairs : List ScalarPair) (path : Path) (question : Question) →
    OneOf (λ pair. IsAtPlace (ScalarRefuses pair) path question) (first ∷ pairs) ↔ IsAtPlace (ScalarRefuses (all_of (first ∷ pairs))) path question
all_refuse first pairs path question =
    let here = one_here (first ∷ pairs) path question in
    let all = same_here (λ q. OneOf (λ pair. ScalarRefuses pair q) (first ∷ pairs)) (ScalarRefuses (all_of (first ∷ pairs))) path question (together first pairs question) in
    (λ h. all.0 (here.0 h), λ h. here.1 (all.1 h))

mutual
  pub by_pair : IsItsPair
  by_pair (conjunction no_cores) h parts path question = absurd parts
  by_pair (conjunction (core c cs)) h parts path question =
      let each = by_pairs (core c cs) h parts path question in
      let all = all_refuse (pair c) (pairs_of cs) path question in
      (λ r. all.0 (each.0 r), λ r. each.1 (all.1 r))
  by_pair (closed c) h parts path question =
      let inner = by_pair c h parts path question in (
        λ r. ⊎_elim (λ g. inner.0 g) (λ out. absurd (nothing_closed c path question h out)) r,
        λ r. inl (inner.1 r),
      )
  by_pair (struct ms) h parts path question = absurd (false≢true h)
  by_pair (close ms) h parts path question = absurd (false≢true h)
  by_pair (list es) h parts path question = absurd (false≢true h)
  by_pair top h parts path question = absurd (false≢true h)
  by_pair _ h parts path question = (λ r. r, λ r. r)

  by_pairs : (cs : Cores) → IsTrue (are_scalar cs) → AllHaveParts cs → (path : Path) (question : Question) → PartsRefuse cs path question ↔ OneOf (λ pair. IsAtPlace (ScalarRefuses pair) path question) (pairs_of cs)
  by_pairs no_cores h parts path question = (λ r. r, λ r. r)
  by_pairs (core c cs) h parts path question =
      let scalar = both_true (is_scalar c) (are_scalar cs) h in
      let here = by_pair c scalar.0 parts.0 path question in
      let rest = by_pairs cs scalar.1 parts.1 path question in (
        λ r. ⊎_elim (λ g. inl (here.0 g)) (λ g. inr (rest.0 g)) r,
        λ r. ⊎_elim (λ g. inl (here.1 g)) (λ g. inr (rest.1 g)) r,
      )
