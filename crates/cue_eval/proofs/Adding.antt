-- What closing adds.
use Rattle.std.proofs.Common.{◌≡◌, ◌≢◌, ◌⊎◌, inl, inr, ⊎_elim, ℕ, zero, suc, ◌+◌, ◌<◌, max, Bool, true, false, List, [], ◌∷◌, length, replicate, refl, sym, ap, ◌∙◌, arith}
use Rattle.std.specs.List.{list_any}
use Rattle.std.specs.Str.{bytes_eq}
use Rattle.std.proofs.lemmas.Bool.{false≢true}
use Rattle.std.proofs.lemmas.List.{length-replicate}
use Rattle.std.proofs.lemmas.Slice.Eq.{bytes_eq-Decides}
use Rattle.cue_lattice.specs.Path.{Path, label, index}
use Rattle.cue_lattice.specs.Question.{allows}
use Rattle.cue_scope.specs.Core.{Core, conjunction, struct, close, list, closed, Cores, no_cores, core, Members, no_members, member, dots, Elements, ends, goes_on, each, element}
use Rattle.cue_eval.specs.Literals.{literals, has_declaration, has_dots, LeaveOut}
use Rattle.cue_eval.specs.Refuses.{Refuses, PartsRefuse, FieldRefuses, ElementRefuses}
use Rattle.cue_eval.specs.Closing.{OneOfUsed, OneOfParts, OneOfFields, OneOfElements, any_literal, LeaveOutOwn, UsedAreClosed, IsClosedByOwn}
use Rattle.cue_eval.proofs.Own.{own_or_used, does_more}

-- ---- a label that none of some literals declares
longest : Members → ℕ
longest no_members = 0
longest (member k mark c ms) = max (length k) (longest ms)
longest (dots ms) = longest ms

pub longest_of : List Members → ℕ
longest_of [] = 0
longest_of (ms ∷ all) = max (longest ms) (longest_of all)

pub longer_differs : (k l : List ℕ) → length k < length l → bytes_eq k l ≡ false
longer_differs k l h = by (bytes_eq k l) refl where
  by : (b : Bool) → bytes_eq k l ≡ b → b ≡ false
  by false e = refl
  by true e = let same = ap length ((bytes_eq-Decides k l).0 e) in absurd (omega (arith, h, same))

longer_undeclared : (l : List ℕ) (ms : Members) → longest ms < length l → has_declaration l ms ≡ false
unfolding longest
longer_undeclared l no_members h = refl
longer_undeclared l (dots ms) h = longer_undeclared l ms h
longer_undeclared l (member k mark c ms) h = rw (longer_differs k l (omega (arith, h))) (longer_undeclared l ms (omega (arith, h)))

pub longer_undeclared_by_all : (l : List ℕ) (all : List Members) → longest_of all < length l → list_any (has_declaration l) all ≡ false
unfolding longest_of
longer_undeclared_by_all l [] h = refl
longer_undeclared_by_all l (ms ∷ all) h = rw (longer_undeclared l ms (omega (arith, h))) (longer_undeclared_by_all l all (omega (arith, h)))

undeclared : (all : List Members) → (k : List ℕ) × (list_any (has_declaration k) all ≡ false)
undeclared all =
    let n : ℕ = longest_of all + 1 in
    (replicate n 0, longer_undeclared_by_all (replicate n 0) all (rw length-replicate (omega arith)))

-- literals without `...` leave a label out
left_out : (all : List Members) → all ≢ [] → list_any has_dots all ≡ false → (k : List ℕ) × LeaveOut all k
left_out all some none = let k = undeclared all in (k.0, record { some = some; without_dots = none; undeclared = k.1 })

any_some : (all : List Members) → list_any any_literal all ≡ true → all ≢ []
any_some [] h e = false≢true h
any_some (ms ∷ all) h e = cc

some_any : (all : List Members) → all ≢ [] → list_any any_literal all ≡ true
some_any [] h = absurd (h refl)
some_any (ms ∷ all) h = refl

-- ---- what definitions close
ClosedIn : (Type 0) → (List ℕ → Type 0) → Type 0
ClosedIn dotted refuses = dotted ⊎ ((k : List ℕ) × refuses k)

closed_more : {A B : Type 0} {P Q : List ℕ → Type 0} → (A → B) → ((k : List ℕ) → P k → Q k) → ClosedIn A P → ClosedIn B Q
unfolding ClosedIn
closed_more f g (inl a) = inl (f a)
closed_more f g (inr (k, p)) = inr (k, g k p)

closed_use : (c : Core) (path : Path) → list_any any_literal (literals c path) ≡ true → ClosedIn (list_any has_dots (literals c path) ≡ true) (λ k. Refuses (closed c) path (allows k))
unfolding ClosedIn
closed_use c path h = by (list_any has_dots (literals c path)) refl where
  by : (b : Bool) → list_any has_dots (literals c path) ≡ b → (list_any has_dots (literals c path) ≡ true) ⊎ ((k : List ℕ) × Refuses (closed c) path (allows k))
  by true e = inl e
  by false e = let out = left_out (literals c path) (any_some (literals c path) h) e in inr (out.0, inr out.1)

abbrev Any : Core → Path → Type 0
Any c path = list_any any_literal (literals c path) ≡ true

abbrev Dotted : Core → Path → Type 0
Dotted c path = list_any has_dots (literals c path) ≡ true

mutual
  used_closed : (c : Core) (path : Path) → OneOfUsed any_literal c path → ClosedIn (OneOfUsed has_dots c path) (λ k. Refuses c path (allows k))
  used_closed (conjunction cs) path h = parts_closed cs path h
  used_closed (struct ms) [] h = absurd h
  used_closed (struct ms) (label l ∷ path) h = fields_closed ms l path h
  used_closed (struct ms) (index i ∷ path) h = absurd h
  used_closed (close ms) [] h = absurd h
  used_closed (close ms) (label l ∷ path) h = closed_more (λ d. d) (λ k r. inl r) (fields_closed ms l path h)
  used_closed (close ms) (index i ∷ path) h = absurd h
  used_closed (list es) [] h = absurd h
  used_closed (list es) (label l ∷ path) h = absurd h
  used_closed (list es) (index i ∷ path) h = elements_closed es i path h
  used_closed (closed c) path h = closed_use c path h
  used_closed _ path h = absurd h

  parts_closed : (cs : Cores) (path : Path) → OneOfParts (λ ms. ⊥) Any cs path → ClosedIn (OneOfParts (λ ms. ⊥) Dotted cs path) (λ k. PartsRefuse cs path (allows k))
  parts_closed no_cores path h = absurd h
  parts_closed (core c cs) path (inl h) = closed_more inl (λ k r. inl r) (used_closed c path h)
  parts_closed (core c cs) path (inr h) = closed_more inr (λ k r. inr r) (parts_closed cs path h)

  fields_closed : (ms : Members) (l : List ℕ) (path : Path) → OneOfFields (λ ms. ⊥) Any ms l path → ClosedIn (OneOfFields (λ ms. ⊥) Dotted ms l path) (λ k. FieldRefuses ms l path (allows k))
  fields_closed no_members l path h = absurd h
  fields_closed (dots ms) l path h = fields_closed ms l path h
  fields_closed (member j mark c ms) l path (inl h) = closed_more (λ d. inl (h.0, d)) (λ k r. inl (h.0, inr r)) (used_closed c path h.1)
  fields_closed (member j mark c ms) l path (inr h) = closed_more inr (λ k r. inr r) (fields_closed ms l path h)

  elements_closed : (es : Elements) (i : ℕ) (path : Path) → OneOfElements (λ ms. ⊥) Any es i path → ClosedIn (OneOfElements (λ ms. ⊥) Dotted es i path) (λ k. ElementRefuses es i path (allows k))
  elements_closed ends i path h = absurd h
  elements_closed goes_on i path h = absurd h
  elements_closed (each c) i path h = used_closed c path h
  elements_closed (element c es) zero path h = used_closed c path h
  elements_closed (element c es) (suc i) path h = elements_closed es i path h

pub used_are_closed : UsedAreClosed
unfolding ClosedIn
used_are_closed c path h = used_closed c path h

-- ---- what is left to close
passes_any : (test : Members → Bool) (all : List Members) → list_any test all ≡ true → list_any any_literal all ≡ true
passes_any test [] h = h
passes_any test (ms ∷ all) h = refl

any_used : (test : Members → Bool) (c : Core) (path : Path) → OneOfUsed test c path → OneOfUsed any_literal c path
any_used test = does_more (λ ms. ⊥) (λ ms. ⊥) (λ c path. list_any test (literals c path) ≡ true) Any (λ ms h. h) (λ c path h. passes_any test (literals c path) h)

not_true : (b : Bool) → ¬ (b ≡ true) → b ≡ false
not_true true h = absurd (h refl)
not_true false h = refl

pub closed_by_own : IsClosedByOwn
closed_by_own c path l all = (to, from) where
  -- where no used literal has a `...`, none stands
  none_used : ¬ OneOfUsed has_dots c path → ¬ OneOfUsed any_literal c path
  none_used d u = ⊎_elim (λ g. d g) (λ r. all r.0 r.1) (used_are_closed c path u)

  to : LeaveOut (literals c path) l → LeaveOutOwn c path l
  to out =
      let dotless : ¬ (list_any has_dots (literals c path) ≡ true) = λ e. false≢true (sym out.without_dots ∙ e) in
      let used_dotless : ¬ OneOfUsed has_dots c path = λ u. dotless ((own_or_used has_dots c path).1 (inr u)) in
      record {
        some = ⊎_elim (λ o. o) (λ u. absurd (none_used used_dotless u)) ((own_or_used any_literal c path).0 (some_any (literals c path) out.some));
        without_dots = λ o. dotless ((own_or_used has_dots c path).1 (inl o));
        used_without_dots = used_dotless;
        undeclared = λ o. false≢true (sym out.undeclared ∙ (own_or_used (has_declaration l) c path).1 (inl o));
      }

  from : LeaveOutOwn c path l → LeaveOut (literals c path) l
  from out = record {
    some = any_some (literals c path) ((own_or_used any_literal c path).1 (inl out.some));
    without_dots = not_true (list_any has_dots (literals c path)) (λ e. ⊎_elim out.without_dots out.used_without_dots ((own_or_used has_dots c path).0 e));
    undeclared = not_true (list_any (has_declaration l) (literals c path)) (λ e. ⊎_elim out.undeclared (λ u. none_used out.used_without_dots (any_used (has_declaration l) c path u)) ((own_or_used (has_declaration l) c path).0 e));
  }
