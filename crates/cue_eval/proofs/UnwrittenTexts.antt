-- Texts that an expression doesn't write are all alike in it.
use Rattle.std.proofs.Common.{◌≡◌, inl, inr, ℕ, zero, suc, ℤ, Bool, true, false, not, ◌&&◌, ◌||◌, List, [], ◌∷◌, ◌++◌, Option, Some, None, refl, sym, ap, ◌∙◌}
use Rattle.std.specs.Prelude.{is_some, unwrap_or, filter_map, if◌then◌else◌}
use Rattle.std.specs.List.{list_any, list_all, cons_option, AllByRecursion}
use Rattle.std.specs.Str.{bytes_eq}
use Rattle.cue_lattice.specs.Path.{Path, label, index}
use Rattle.cue_lattice.specs.Question.{Question, may_be, usual}
use Rattle.cue_lattice.specs.declared.scalar.Scalar.{Scalar}
use Rattle.cue_lattice.specs.declared.scalar.Scalar.TheVariants.{Text}
use Rattle.cue_sets.specs.Texts.{is_listed}
use Rattle.cue_scalars.specs.Pairs.{ScalarMembers, ScalarPair, default_or_value, default_of, unite_defaults, is_any_marked}
use Rattle.cue_syntax.specs.declared.tree.Comparison.{Comparison}
use Rattle.cue_syntax.specs.declared.tree.Comparison.TheVariants.{Less}
use Rattle.cue_syntax.specs.declared.tree.Mark.{Mark}
use Rattle.cue_scope.specs.declared.named.Named.{Named}
use Rattle.cue_scope.specs.declared.named.Named.TheVariants as names
use Rattle.cue_scope.specs.Core.{Core, text, named, top, bound, other_text, conjunction, disjunction, struct, close, list, closed, Cores, no_cores, core, Choices, no_choices, choice, Members, no_members, member, dots, Elements, ends, goes_on, each, element}
use Rattle.cue_eval.specs.Sets.{named_set, bound_scalars, integer_of}
use Rattle.cue_eval.specs.Pairs.{pair, pairs_of, terms_of}
use Rattle.cue_eval.specs.Places.{IsAtPlace, MarkRefuses, ScalarRefuses, StructRefuses, ListRefuses, ClosingRefuses}
use Rattle.cue_eval.specs.Refuses.{Refuses, PartsRefuse, FieldRefuses, ElementRefuses, count_of_elements, is_open_list}
use Rattle.cue_eval.specs.Words.{words, words_of_cores, words_of_choices, words_of_members, words_of_elements}
use Rattle.cue_eval.specs.Validity.{UnwrittenTextsAreAlike}
use Rattle.cue_eval.proofs.ByPair.{both_false}
use Rattle.cue_eval.proofs.Unwritten.{in_neither}

-- the same of both scalars is said by a default, where there is one
abbrev SameUsual : Scalar → Scalar → Option ScalarMembers → Type 0
SameUsual x y None = Unit {0}
SameUsual x y (Some set) = set x ≡ set y

abbrev AllSame : Scalar → Scalar → List ScalarMembers → Type 0
AllSame x y sets = AllByRecursion (λ set. set x ≡ set y) sets

record SameAt (x y : Scalar) (p : ScalarPair) : Type 0 where
  value : p.value x ≡ p.value y
  default : SameUsual x y p.usual

unwrapped : (x y : Scalar) (given : Option ScalarMembers) (value : ScalarMembers) → SameUsual x y given → value x ≡ value y → unwrap_or given value x ≡ unwrap_or given value y
unwrapped x y None value d v = v
unwrapped x y (Some set) value d v = d

same_brought : (x y : Scalar) (p : ScalarPair) → SameAt x y p → default_or_value p x ≡ default_or_value p y
same_brought x y p h = unwrapped x y p.usual p.value h.default h.value

-- several at once
abbrev AllSameAt : Scalar → Scalar → List ScalarPair → Type 0
AllSameAt x y pairs = AllByRecursion (SameAt x y) pairs

all_values : (x y : Scalar) (pairs : List ScalarPair) → AllSameAt x y pairs → list_all (λ (p : ScalarPair). p.value x) pairs ≡ list_all (λ (p : ScalarPair). p.value y) pairs
all_values x y [] h = refl
all_values x y (p ∷ pairs) h =
    ap (λ b. b && list_all (λ (q : ScalarPair). q.value x) pairs) h.0.value ∙ ap (λ b. p.value y && b) (all_values x y pairs h.1)

all_brought : (x y : Scalar) (pairs : List ScalarPair) → AllSameAt x y pairs → list_all (λ p. default_or_value p x) pairs ≡ list_all (λ p. default_or_value p y) pairs
all_brought x y [] h = refl
all_brought x y (p ∷ pairs) h =
    ap (λ b. b && list_all (λ q. default_or_value q x) pairs) (same_brought x y p h.0) ∙ ap (λ b. default_or_value p y && b) (all_brought x y pairs h.1)

default_if : (x y : Scalar) (given : Bool) (set : ScalarMembers) → set x ≡ set y → SameUsual x y (if given then Some set else None)
default_if x y true set h = h
default_if x y false set h = tt

-- ---- disjunctions
any_same : (x y : Scalar) (sets : List ScalarMembers) → AllSame x y sets → list_any (λ (set : ScalarMembers). set x) sets ≡ list_any (λ (set : ScalarMembers). set y) sets
any_same x y [] h = refl
any_same x y (set ∷ sets) h = ap (λ b. b || list_any (λ (s : ScalarMembers). s x) sets) h.0 ∙ ap (λ b. set y || b) (any_same x y sets h.1)

united_same : (x y : Scalar) (sets : List ScalarMembers) → AllSame x y sets → SameUsual x y (unite_defaults sets)
united_same x y [] h = tt
united_same x y (set ∷ sets) h = any_same x y (set ∷ sets) h

more_same : (x y : Scalar) (given : Option ScalarMembers) (sets : List ScalarMembers) → SameUsual x y given → AllSame x y sets → AllSame x y (cons_option given sets)
more_same x y None sets d h = h
more_same x y (Some set) sets d h = (d, h)

term_same : (x y : Scalar) (any_marked marked : Bool) (p : ScalarPair) → SameAt x y p → SameUsual x y (default_of any_marked (marked, p))
term_same x y false marked p h = h.default
term_same x y true true p h = same_brought x y p h
term_same x y true false p h = tt

-- ---- sets that have names, and bounds
same_named : (name : Named) (t u : List ℕ) → named_set name (Text t) ≡ named_set name (Text u)
same_named names.Int t u = refl
same_named _ t u = refl

same_bounded : (comparison : Comparison) (n : ℤ) (t u : List ℕ) → bound_scalars comparison n (Text t) ≡ bound_scalars comparison n (Text u)
same_bounded Less n t u = refl
same_bounded _ n t u = refl

neither_equal : (s t u : List ℕ) → is_listed (s ∷ []) t ≡ false → is_listed (s ∷ []) u ≡ false → bytes_eq s t ≡ bytes_eq s u
neither_equal s t u h k = (both_false (bytes_eq s t) false h).0 ∙ sym (both_false (bytes_eq s u) false k).0

mutual
  same_pair : (c : Core) (t u : List ℕ) → is_listed (words c) t ≡ false → is_listed (words c) u ≡ false → SameAt (Text t) (Text u) (pair c)
  same_pair (named name) t u h k = record { value = same_named name t u; default = tt }
  same_pair (bound comparison n) t u h k = record { value = same_bounded comparison (integer_of n) t u; default = tt }
  same_pair (text s) t u h k = record { value = neither_equal s t u h k; default = tt }
  same_pair (other_text s) t u h k = record { value = ap not (neither_equal s t u h k); default = tt }
  same_pair (conjunction cs) t u h k =
      let all = same_pairs cs t u h k in record {
        value = all_values (Text t) (Text u) (pairs_of cs) all;
        default = default_if (Text t) (Text u) (list_any (λ (p : ScalarPair). is_some p.usual) (pairs_of cs)) (λ x. list_all (λ p. default_or_value p x) (pairs_of cs)) (all_brought (Text t) (Text u) (pairs_of cs) all);
      }
  same_pair (disjunction terms) t u h k = record {
    value = same_values terms t u h k;
    default = united_same (Text t) (Text u) (filter_map (default_of (is_any_marked (terms_of terms))) (terms_of terms)) (same_defaults (is_any_marked (terms_of terms)) terms t u h k);
  }
  same_pair (closed c) t u h k = same_pair c t u h k
  same_pair _ t u h k = record { value = refl; default = tt }

  same_pairs : (cs : Cores) (t u : List ℕ) → is_listed (words_of_cores cs) t ≡ false → is_listed (words_of_cores cs) u ≡ false → AllSameAt (Text t) (Text u) (pairs_of cs)
  same_pairs no_cores t u h k = tt
  same_pairs (core c cs) t u h k =
      let a = in_neither (words c) (words_of_cores cs) t h in
      let b = in_neither (words c) (words_of_cores cs) u k in
      (same_pair c t u a.0 b.0, same_pairs cs t u a.1 b.1)

  same_values : (terms : Choices) (t u : List ℕ) → is_listed (words_of_choices terms) t ≡ false → is_listed (words_of_choices terms) u ≡ false
      → list_any (λ (term : Bool × ScalarPair). term.1.value (Text t)) (terms_of terms) ≡ list_any (λ (term : Bool × ScalarPair). term.1.value (Text u)) (terms_of terms)
  same_values no_choices t u h k = refl
  same_values (choice marked c terms) t u h k =
      let a = in_neither (words c) (words_of_choices terms) t h in
      let b = in_neither (words c) (words_of_choices terms) u k in
      ap (λ x. x || list_any (λ (term : Bool × ScalarPair). term.1.value (Text t)) (terms_of terms)) (same_pair c t u a.0 b.0).value
      ∙ ap (λ x. (pair c).value (Text u) || x) (same_values terms t u a.1 b.1)

  same_defaults : (any_marked : Bool) (terms : Choices) (t u : List ℕ) → is_listed (words_of_choices terms) t ≡ false → is_listed (words_of_choices terms) u ≡ false
      → AllSame (Text t) (Text u) (filter_map (default_of any_marked) (terms_of terms))
  same_defaults any_marked no_choices t u h k = tt
  same_defaults any_marked (choice marked c terms) t u h k =
      let a = in_neither (words c) (words_of_choices terms) t h in
      let b = in_neither (words c) (words_of_choices terms) u k in
      more_same (Text t) (Text u) (default_of any_marked (marked, pair c)) (filter_map (default_of any_marked) (terms_of terms))
      (term_same (Text t) (Text u) any_marked marked (pair c) (same_pair c t u a.0 b.0)) (same_defaults any_marked terms t u a.1 b.1)

-- ---- what is refused of texts: whether they may stand, or whether they are usual
abbrev asks : Bool → List ℕ → Question
asks true t = may_be (Text t)
asks false t = usual (Text t)

scalar_alike : (which : Bool) (c : Core) (t u : List ℕ) → is_listed (words c) t ≡ false → is_listed (words c) u ≡ false → ScalarRefuses (pair c) (asks which t) → ScalarRefuses (pair c) (asks which u)
scalar_alike true c t u h k r = (tt, sym (same_pair c t u h k).value ∙ r.1)
scalar_alike false c t u h k r = (tt, sym (same_brought (Text t) (Text u) (pair c) (same_pair c t u h k)) ∙ r.1)

struct_alike : (which : Bool) (t u : List ℕ) → StructRefuses (asks which t) → StructRefuses (asks which u)
struct_alike true t u r = r
struct_alike false t u r = r

list_alike : (which : Bool) (n : ℕ) (more : Bool) (t u : List ℕ) → ListRefuses n more (asks which t) → ListRefuses n more (asks which u)
list_alike true n more t u r = r
list_alike false n more t u r = r

mark_alike : (which : Bool) (mark : Mark) (path : Path) (t : List ℕ) → IsAtPlace (MarkRefuses mark) path (asks which t) → ⊥
mark_alike true mark [] t r = r
mark_alike false mark [] t r = r
mark_alike which mark (step ∷ path) t r = r

closing_alike : (which : Bool) (written : List Members) (t : List ℕ) → ClosingRefuses written (asks which t) → ⊥
closing_alike true written t r = r
closing_alike false written t r = r

here_alike : (which : Bool) (c : Core) (path : Path) (t u : List ℕ) → is_listed (words c) t ≡ false → is_listed (words c) u ≡ false → IsAtPlace (ScalarRefuses (pair c)) path (asks which t) → IsAtPlace (ScalarRefuses (pair c)) path (asks which u)
here_alike which c [] t u h k r = scalar_alike which c t u h k r
here_alike which c (step ∷ path) t u h k r = r

mutual
  alike : (which : Bool) (c : Core) (path : Path) (t u : List ℕ) → is_listed (words c) t ≡ false → is_listed (words c) u ≡ false → Refuses c path (asks which t) → Refuses c path (asks which u)
  alike which (conjunction cs) path t u h k r = alike_by_parts which cs path t u h k r
  alike which (struct ms) [] t u h k r = struct_alike which t u r
  alike which (struct ms) (label l ∷ path) t u h k r = alike_in_field which ms l path t u h k r
  alike which (struct ms) (index i ∷ path) t u h k r = r
  alike which (close ms) [] t u h k (inl r) = inl (struct_alike which t u r)
  alike which (close ms) [] t u h k (inr r) = absurd (closing_alike which (ms ∷ []) t r)
  alike which (close ms) (label l ∷ path) t u h k (inl r) = inl (alike_in_field which ms l path t u h k r)
  alike which (close ms) (label l ∷ path) t u h k (inr r) = inr r
  alike which (close ms) (index i ∷ path) t u h k r = r
  alike which (list es) [] t u h k r = list_alike which (count_of_elements es) (is_open_list es) t u r
  alike which (list es) (label l ∷ path) t u h k r = r
  alike which (list es) (index i ∷ path) t u h k r = alike_in_element which es i path t u h k r
  alike which (closed c) path t u h k (inl r) = inl (alike which c path t u h k r)
  alike which (closed c) path t u h k (inr r) = absurd (closing_alike which _ t r)
  alike which top path t u h k r = r
  alike which c path t u h k r = here_alike which c path t u h k r

  alike_by_parts : (which : Bool) (cs : Cores) (path : Path) (t u : List ℕ) → is_listed (words_of_cores cs) t ≡ false → is_listed (words_of_cores cs) u ≡ false → PartsRefuse cs path (asks which t) → PartsRefuse cs path (asks which u)
  alike_by_parts which no_cores path t u h k r = r
  alike_by_parts which (core c cs) path t u h k (inl r) =
      inl (alike which c path t u (in_neither (words c) (words_of_cores cs) t h).0 (in_neither (words c) (words_of_cores cs) u k).0 r)
  alike_by_parts which (core c cs) path t u h k (inr r) =
      inr (alike_by_parts which cs path t u (in_neither (words c) (words_of_cores cs) t h).1 (in_neither (words c) (words_of_cores cs) u k).1 r)

  alike_in_field : (which : Bool) (ms : Members) (l : List ℕ) (path : Path) (t u : List ℕ) → is_listed (words_of_members ms) t ≡ false → is_listed (words_of_members ms) u ≡ false → FieldRefuses ms l path (asks which t) → FieldRefuses ms l path (asks which u)
  alike_in_field which no_members l path t u h k r = r
  alike_in_field which (dots ms) l path t u h k r = alike_in_field which ms l path t u h k r
  alike_in_field which (member j mark c ms) l path t u h k (inl (e, inl r)) = absurd (mark_alike which mark path t r)
  alike_in_field which (member j mark c ms) l path t u h k (inl (e, inr r)) =
      let a = in_neither (words c) (words_of_members ms) t (both_false (bytes_eq j t) (is_listed (words c ++ words_of_members ms) t) h).1 in
      let b = in_neither (words c) (words_of_members ms) u (both_false (bytes_eq j u) (is_listed (words c ++ words_of_members ms) u) k).1 in
      inl (e, inr (alike which c path t u a.0 b.0 r))
  alike_in_field which (member j mark c ms) l path t u h k (inr r) =
      let a = in_neither (words c) (words_of_members ms) t (both_false (bytes_eq j t) (is_listed (words c ++ words_of_members ms) t) h).1 in
      let b = in_neither (words c) (words_of_members ms) u (both_false (bytes_eq j u) (is_listed (words c ++ words_of_members ms) u) k).1 in
      inr (alike_in_field which ms l path t u a.1 b.1 r)

  alike_in_element : (which : Bool) (es : Elements) (i : ℕ) (path : Path) (t u : List ℕ) → is_listed (words_of_elements es) t ≡ false → is_listed (words_of_elements es) u ≡ false → ElementRefuses es i path (asks which t) → ElementRefuses es i path (asks which u)
  alike_in_element which ends i path t u h k r = r
  alike_in_element which goes_on i path t u h k r = r
  alike_in_element which (each c) i path t u h k r = alike which c path t u h k r
  alike_in_element which (element c es) zero path t u h k r =
      alike which c path t u (in_neither (words c) (words_of_elements es) t h).0 (in_neither (words c) (words_of_elements es) u k).0 r
  alike_in_element which (element c es) (suc i) path t u h k r =
      alike_in_element which es i path t u (in_neither (words c) (words_of_elements es) t h).1 (in_neither (words c) (words_of_elements es) u k).1 r

pub unwritten_texts : UnwrittenTextsAreAlike
unwritten_texts c path t u h k = (λ r. alike true c path t u h k r, λ r. alike false c path t u h k r)
