-- What the checks ask of an expression, and what the program keeps of it.
use Rattle.std.specs.Prelude.{ℕ, ◌≡◌, ◌+◌, ◌*◌, ◌&&◌, eqb, min, max, Bool, true, false, cond, List}
use Rattle.std.specs.Prelude.{[], ◌∷◌, ◌++◌, Option, None, Some, ◌<◌, ◌≤◌, slice_index_or, length}
use Rattle.cue_lattice.specs.declared.refusal.Kind.{Kind}
use Rattle.cue_lattice.specs.declared.refusal.Kind.TheVariants as kinds
use Rattle.cue_lattice.specs.Limits.{size_limit, step_limit}
use Rattle.cue_syntax.specs.Syntax.{Expression, Elements, Rest, Branches, Entries}
use Rattle.cue_scope.specs.declared.measure.Measure.{Measure}
use Rattle.cue_scope.specs.declared.measure.KnownMeasures.{KnownMeasures}
use Rattle.cue_scope.specs.Core.{Core, ends, followed_by, is_scalar, are_scalar}
use Rattle.cue_scope.specs.Core.{are_scalar_choices}
use Rattle.cue_scope.specs.Definitions.{Definition}
use Rattle.cue_scope.specs.First.{IsFirstName}
use Rattle.cue_scope.specs.Graph.{IsNodeIn}
use Rattle.cue_scope.specs.Kept.{nodes_kept}
use Rattle.cue_scope.specs.Limits as limits
use Rattle.cue_scope.specs.Meaning.{meaning_of_number, meant, meant_elements, meant_rest, meant_branches}
use Rattle.cue_scope.specs.Meaning.{meant_members, meant_fields}
use Rattle.cue_scope.specs.Terms.{terms, terms_of_elements, terms_of_rest, terms_of_branches}
use Rattle.cue_scope.specs.Terms.{terms_of_entries}

-- whether all is scalar, how large it is, how many steps its longest path has, and where its terms
-- stand that aren't scalar
pub record Total : Type 0 where
  pub scalar : Bool
  pub size : ℕ
  pub depth : ℕ
  pub places : List ℕ

abbrev pub first_term : List ℕ → Option ℕ
first_term [] = None
first_term (x ∷ xs) = Some x

-- sizes and depths are counted no further than just past their limits
pub record IsMeasured (m : Measure) (t : Total) : Type 0 where
  pub scalar : m.scalar ≡ t.scalar
  pub size : m.size ≡ min t.size (size_limit + 1)
  pub depth : m.depth ≡ min t.depth (step_limit + 1)
  pub place : m.term ≡ first_term t.places

abbrev pub none : Total
none = record { scalar = true; size = 0; depth = 0; places = [] }

abbrev pub leaf : Bool → Total
leaf scalar = record { scalar = scalar; size = 1; depth = 0; places = [] }

abbrev pub join_totals : Total → Total → Total
join_totals a b = record {
  scalar = a.scalar && b.scalar;
  size = a.size + b.size;
  depth = max a.depth b.depth;
  places = a.places ++ b.places;
}

abbrev pub add_to_size : ℕ → Total → Total
add_to_size more t = record {
  scalar = t.scalar;
  size = more + t.size;
  depth = t.depth;
  places = t.places;
}

-- as a struct or a list of these parts
abbrev pub as_literal : ℕ → Total → Total
as_literal more t = record {
  scalar = false;
  size = more + t.size;
  depth = t.depth;
  places = t.places;
}

-- as a field of a struct, of which it matters no more whether it is scalar
abbrev pub as_field : Total → Total
as_field t = record { scalar = true; size = 1 + t.size; depth = 1 + t.depth; places = t.places }

-- as an element of a list
abbrev pub as_element : Total → Total
as_element t = record { scalar = true; size = t.size; depth = 1 + t.depth; places = t.places }

-- as a term that begins at this place
abbrev pub as_term : ℕ → Total → Total
as_term place t = record {
  scalar = t.scalar;
  size = t.size;
  depth = t.depth;
  places = cond t.scalar [] (place ∷ []) ++ t.places;
}

-- behind so many labels, each of which is in a struct of its own
abbrev pub behind_labels : ℕ → Total → Total
behind_labels n t = record {
  scalar = t.scalar && eqb n 0;
  size = t.size + 2 * n;
  depth = t.depth + n;
  places = t.places;
}

abbrev pub only_places : Total → Total
only_places t = record { scalar = true; size = 0; depth = 0; places = t.places }

abbrev pub total_of : Core → List ℕ → Total
total_of c places = record {
  scalar = is_scalar c;
  size = limits.size c;
  depth = limits.depth c;
  places = places;
}

abbrev pub total_measure : List Definition → Expression → Total
total_measure ds e = total_of (meant ds (meaning_of_number ds) e) (terms ds (meaning_of_number ds) e)

abbrev pub total_of_parts : List Definition → Elements → Total
total_of_parts ds es = record {
  scalar = are_scalar (meant_elements ds (meaning_of_number ds) es);
  size = limits.size_of_cores (meant_elements ds (meaning_of_number ds) es);
  depth = limits.depth_of_cores (meant_elements ds (meaning_of_number ds) es);
  places = terms_of_elements ds (meaning_of_number ds) es;
}

abbrev pub total_of_elements : List Definition → Elements → Total
total_of_elements ds es = record {
  scalar = true;
  size = limits.size_of_cores (meant_elements ds (meaning_of_number ds) es);
  depth = limits.depth_of_elements (followed_by (meant_elements ds (meaning_of_number ds) es) ends);
  places = terms_of_elements ds (meaning_of_number ds) es;
}

abbrev pub total_of_rest : List Definition → Rest → Total
total_of_rest ds rest = record {
  scalar = true;
  size = limits.size_of_elements (meant_rest ds (meaning_of_number ds) rest);
  depth = limits.depth_of_elements (meant_rest ds (meaning_of_number ds) rest);
  places = terms_of_rest ds (meaning_of_number ds) rest;
}

abbrev pub total_of_terms : List Definition → Branches → Total
total_of_terms ds bs = record {
  scalar = are_scalar_choices (meant_branches ds (meaning_of_number ds) bs);
  size = limits.size_of_choices (meant_branches ds (meaning_of_number ds) bs);
  depth = limits.depth_of_choices (meant_branches ds (meaning_of_number ds) bs);
  places = terms_of_branches ds (meaning_of_number ds) bs;
}

abbrev pub total_of_entries : List Definition → Entries → Total
total_of_entries ds es = record {
  scalar = true;
  size = limits.size_of_members (meant_members ds (meaning_of_number ds) es);
  depth = limits.depth_of_members (meant_members ds (meaning_of_number ds) es);
  places = terms_of_entries ds (meaning_of_number ds) es;
}

-- the regular declarations of a text; all of its terms count, those in definitions too
abbrev pub total_of_file : List Definition → Entries → Total
total_of_file ds es = record {
  scalar = true;
  size = limits.size_of_members (meant_fields ds (meaning_of_number ds) es);
  depth = limits.depth_of_members (meant_fields ds (meaning_of_number ds) es);
  places = terms_of_entries ds (meaning_of_number ds) es;
}

-- it passes the checks on terms, sizes and paths
pub record IsMeasureWithin (t : Total) : Type 0 where
  pub places : t.places ≡ []
  pub size : t.size ≤ size_limit
  pub depth : t.depth ≤ step_limit

-- the first of these checks that it fails
abbrev pub IsMeasureBeyond : Total → Kind → ℕ → Type 0
IsMeasureBeyond t kinds.NotScalar place = IsFirstName place t.places
IsMeasureBeyond t kinds.TooLarge place = (t.places ≡ []) × (size_limit < t.size) × (place ≡ 0)
IsMeasureBeyond t kinds.TooDeep place =
    (t.places ≡ []) × (t.size ≤ size_limit) × (step_limit < t.depth) × (place ≡ 0)
IsMeasureBeyond t _ place = ⊥

-- what is known of a use of a definition
pub record IsUse (m : Measure) (c : Core) : Type 0 where
  pub scalar : m.scalar ≡ is_scalar c
  pub size : m.size ≡ min (limits.size c) (size_limit + 1)
  pub depth : m.depth ≡ min (limits.depth c) (step_limit + 1)

-- these definitions were measured
abbrev pub IsMeasureKnown : KnownMeasures → List ℕ → Type 0
IsMeasureKnown known is =
    (i : ℕ) → IsNodeIn i is → (i < length known.measures.now)
    × ((d : Measure) → IsUse (slice_index_or known.measures.now i d)
    (meaning_of_number (nodes_kept known.definitions.now) i))
