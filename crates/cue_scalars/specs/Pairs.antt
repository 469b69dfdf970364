-- Value and default pairs, by the CUE language specification, over plain sets of scalars.
use Rattle.std.specs.Prelude.{Bool, true, false, ◌&&◌, ◌||◌, List, [], ◌∷◌, Option, Some, None}
use Rattle.std.specs.Prelude.{is_some, unwrap_or, if◌then◌else◌, filter_map}
use Rattle.std.specs.List.{list_any, list_all}
use Rattle.cue_lattice.specs.declared.scalar.Scalar.{Scalar}

-- a set of scalars: what tells its members
abbrev pub ScalarMembers : Type 0
ScalarMembers = Scalar → Bool

-- the scalars that may stand, and the default where there is one: those among them that are meant
-- where nothing is said
pub record ScalarPair : Type 0 where
  pub value : ScalarMembers
  pub usual : Option ScalarMembers

abbrev pub meet_of : ScalarMembers → ScalarMembers → ScalarMembers
meet_of a b scalar = a scalar && b scalar

-- the members of one set of the list
abbrev pub union_all : List ScalarMembers → ScalarMembers
union_all sets scalar = list_any (λ set. set scalar) sets

-- the default, or the value where there is none
abbrev pub default_or_value : ScalarPair → ScalarMembers
default_or_value pair = unwrap_or pair.usual pair.value

-- Unification `a & b`: values meet, and so do defaults, where a side without a default brings its
-- value. There is a default where one side has one. An empty default stays a default.
abbrev pub unify_pairs : ScalarPair → ScalarPair → ScalarPair
unify_pairs a b = record {
  value = meet_of a.value b.value;
  usual =
      if is_some a.usual || is_some b.usual then Some (meet_of (default_or_value a) (default_or_value b)) else None;
}

-- Unification of one or more, whose order and halving do not matter: a scalar may stand where each
-- lets it stand, and there is a default where one has one.
abbrev pub all_of : List ScalarPair → ScalarPair
all_of pairs = record {
  value = λ scalar. list_all (λ pair. pair.value scalar) pairs;
  usual =
      if list_any (λ pair. is_some pair.usual) pairs
      then Some (λ scalar. list_all (λ pair. default_or_value pair scalar) pairs)
      else None;
}

-- What a term of a disjunction brings as default. The first argument says whether some term is
-- marked. If none is, each keeps its own. Otherwise a marked term brings its default, or its value
-- where it has none, and an unmarked term loses its default.
abbrev pub default_of : Bool → Bool × ScalarPair → Option ScalarMembers
default_of false term = term.1.usual
default_of true (true, pair) = Some (default_or_value pair)
default_of true (false, pair) = None

-- the union of the defaults, where there is one
abbrev pub unite_defaults : List ScalarMembers → Option ScalarMembers
unite_defaults [] = None
unite_defaults (first ∷ defaults) = Some (union_all (first ∷ defaults))

abbrev pub is_any_marked : List (Bool × ScalarPair) → Bool
is_any_marked terms = list_any (λ term. term.0) terms

-- the values of all terms, and the union of the defaults that they bring
abbrev pub sum_of : Bool → List (Bool × ScalarPair) → ScalarPair
sum_of marked terms = record {
  value = λ scalar. list_any (λ term. term.1.value scalar) terms;
  usual = unite_defaults (filter_map (default_of marked) terms);
}

-- Disjunction `a | b | ..` of marked and unmarked terms
abbrev pub disjunction : List (Bool × ScalarPair) → ScalarPair
disjunction terms = sum_of (is_any_marked terms) terms
