-- A disjunction whose terms are split into values and defaults.
use Rattle.std.proofs.Common.{◌≡◌, Bool, true, false, ◌||◌, List, [], ◌∷◌, ◌++◌, Option, Some, None, refl, sym, ap, ◌∙◌, map, length, append_assoc}
use Rattle.std.specs.Prelude.{filter_map, option_map}
use Rattle.std.specs.List.{list_any, cons_option}
use Rattle.std.proofs.lemmas.Bool.{false≢true, or_right}
use Rattle.std.proofs.lemmas.List.{map-append}
use Rattle.std.proofs.lemmas.List.Folds.{list_any-append}
use mathlib.Core.Path.{fun_ext}
use Rattle.cue_lattice.specs.declared.scalar.Scalar.{Scalar}
use Rattle.cue_scalars.specs.Pairs.{ScalarMembers, ScalarPair, default_of, unite_defaults, union_all, is_any_marked, disjunction}
use Rattle.cue_scalars.specs.Scalars.{members, IsScalarsWithin}
use Rattle.cue_scalars.specs.Inner.Lists.{value_of, AreWithin}
use Rattle.cue_scalars.specs.Values.{pair_of_value, terms_of_values}
use Rattle.cue_scalars.specs.declared.scalar_set.ScalarSet.{ScalarSet}
use Rattle.cue_scalars.specs.declared.valued.Valued.{Valued}

-- ---- the terms one by one
abbrev pub defaults_of : Bool → List (Bool × Valued) → List ScalarMembers
defaults_of marked terms = filter_map (default_of marked) (terms_of_values terms)

-- a term that brings no default
pub usuals_none :
    (marked : Bool) (usuals : List ScalarSet) (term : Bool × Valued) (terms later : List (Bool × Valued)) (all : List ScalarMembers) → terms ≡ term ∷ later
    → None ≡ default_of marked (term.0, pair_of_value term.1)
    → map members usuals ++ defaults_of marked terms ≡ all → map members usuals ++ defaults_of marked later ≡ all
usuals_none marked usuals term terms later all is none before =
    ap (λ o. map members usuals ++ cons_option o (defaults_of marked later)) none
    ∙ ap (λ ts. map members usuals ++ defaults_of marked ts) (sym is)
    ∙ before

-- a term that brings one
pub usuals_more :
    (marked : Bool) (usuals : List ScalarSet) (usual : ScalarSet) (term : Bool × Valued) (terms later : List (Bool × Valued)) (all : List ScalarMembers) → terms ≡ term ∷ later
    → Some (members usual) ≡ default_of marked (term.0, pair_of_value term.1)
    → map members usuals ++ defaults_of marked terms ≡ all → map members (usuals ++ usual ∷ []) ++ defaults_of marked later ≡ all
usuals_more marked usuals usual term terms later all is some before =
    ap (λ sets. sets ++ defaults_of marked later) (map-append members usuals (usual ∷ []))
    ∙ append_assoc (map members usuals) (members usual ∷ []) (defaults_of marked later)
    ∙ ap (λ o. map members usuals ++ cons_option o (defaults_of marked later)) some
    ∙ ap (λ ts. map members usuals ++ defaults_of marked ts) (sym is)
    ∙ before

or_cases : (a b : Bool) {P : Type 0} → (a ≡ true → P) → (b ≡ true → P) → (a || b) ≡ true → P
or_cases true b f g e = f refl
or_cases false b f g e = g e

or_left : (a b : Bool) → a ≡ true → (a || b) ≡ true
or_left true b e = refl
or_left false b e = absurd (false≢true e)

-- one more value keeps what is within
pub AreWithin-more : (usuals values : List ScalarSet) (value : ScalarSet) → AreWithin usuals values → AreWithin usuals (values ++ value ∷ [])
AreWithin-more usuals values value within scalar m =
    list_any-append (λ set. members set scalar) values (value ∷ []) ∙ or_left _ _ (within scalar m)

-- and so does a default that is within it
pub AreWithin-both : (usuals values : List ScalarSet) (usual value : ScalarSet) → AreWithin usuals values → IsScalarsWithin usual value → AreWithin (usuals ++ usual ∷ []) (values ++ value ∷ [])
AreWithin-both usuals values usual value within one scalar m =
    or_cases (list_any (λ set. members set scalar) usuals) (members usual scalar || false)
    (λ h. AreWithin-more usuals values value within scalar h)
    (λ h. list_any-append (λ set. members set scalar) values (value ∷ [])
    ∙ or_right _ _ (or_left _ _ (one scalar (or_cases (members usual scalar) false (λ e. e) (λ e. absurd (false≢true e)) h))))
    (sym (list_any-append (λ set. members set scalar) usuals (usual ∷ [])) ∙ m)

-- ---- the union of sets
list_any-members : (sets : List ScalarSet) (scalar : Scalar) → list_any (λ set. members set scalar) sets ≡ union_all (map members sets) scalar
list_any-members [] scalar = refl
list_any-members (set ∷ sets) scalar = ap (λ b. members set scalar || b) (list_any-members sets scalar)

-- a set with the members of one or more sets
pub union_is : (all : ScalarSet) (sets : List ScalarSet) → ((scalar : Scalar) → members all scalar ≡ list_any (λ set. members set scalar) sets) → members all ≡ union_all (map members sets)
union_is all sets same = fun_ext (λ scalar. same scalar ∙ list_any-members sets scalar)

-- the union of several defaults
pub united_some : (all : ScalarSet) (sets : List ScalarSet) → (length sets ≡ 0 → ⊥) → ((scalar : Scalar) → members all scalar ≡ list_any (λ set. members set scalar) sets) → Some (members all) ≡ unite_defaults (map members sets)
united_some all [] some same = absurd (some refl)
united_some all (set ∷ sets) some same = ap Some (union_is all (set ∷ sets) same)

-- ---- the whole disjunction
is_any_marked-terms : (terms : List (Bool × Valued)) → is_any_marked (terms_of_values terms) ≡ list_any (λ term. term.0) terms
is_any_marked-terms [] = refl
is_any_marked-terms (term ∷ terms) = ap (λ b. term.0 || b) (is_any_marked-terms terms)

values_of-terms : (terms : List (Bool × Valued)) (scalar : Scalar) → union_all (map value_of terms) scalar ≡ list_any (λ (term : Bool × ScalarPair). term.1.value scalar) (terms_of_values terms)
values_of-terms [] scalar = refl
values_of-terms (term ∷ terms) scalar = ap (λ b. value_of term scalar || b) (values_of-terms terms scalar)

abbrev pub pair_with : ScalarSet → Option ScalarSet → ScalarPair
pair_with value usual = record { value = members value; usual = option_map members usual }

-- the union of the values with that of the defaults is what the terms mean
pub disjunction_is :
    (marked : Bool) (terms : List (Bool × Valued)) (values usuals : List ScalarSet) (value : ScalarSet) (usual : Option ScalarSet)
    → marked ≡ list_any (λ term. term.0) terms → map members values ≡ map value_of terms → map members usuals ≡ defaults_of marked terms
    → ((scalar : Scalar) → members value scalar ≡ list_any (λ set. members set scalar) values)
    → option_map members usual ≡ unite_defaults (map members usuals)
    → pair_with value usual ≡ disjunction (terms_of_values terms)
disjunction_is marked terms values usuals value usual any values_are usuals_are value_is usual_is =
    let values_same = union_is value values value_is ∙ ap union_all values_are ∙ fun_ext (values_of-terms terms) in
    let usual_same = usual_is ∙ ap unite_defaults usuals_are ∙ ap (λ m. unite_defaults (defaults_of m terms)) (any ∙ sym (is_any_marked-terms terms)) in
    λ i. record { value = values_same i; usual = usual_same i }

-- the members of a united default
members_united : (default : ScalarSet) (usuals : List ScalarSet) → Some (members default) ≡ unite_defaults (map members usuals) → (scalar : Scalar) → members default scalar ≡ list_any (λ set. members set scalar) usuals
members_united default [] e scalar = absurd (none e) where
  none : Some (members default) ≡ None → ⊥
  none f = cc
members_united default (set ∷ sets) e scalar =
    ap (λ all. all scalar) (same (members default) (union_all (map members (set ∷ sets))) e) ∙ sym (list_any-members (set ∷ sets) scalar) where
      same : (a b : ScalarMembers) → Some a ≡ Some b → a ≡ b
      same a b f = cc

-- a united default is within the united values
pub united_within :
    (values usuals : List ScalarSet) (value default : ScalarSet) (usual : Option ScalarSet) → AreWithin usuals values
    → ((scalar : Scalar) → members value scalar ≡ list_any (λ set. members set scalar) values)
    → option_map members usual ≡ unite_defaults (map members usuals) → usual ≡ Some default → IsScalarsWithin default value
united_within values usuals value default usual within value_is usual_is is scalar m =
    value_is scalar
    ∙ within scalar (sym (members_united default usuals (ap (option_map members) (sym is) ∙ usual_is) scalar) ∙ m)
