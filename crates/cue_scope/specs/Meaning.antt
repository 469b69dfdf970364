-- What expressions and texts mean.
use Rattle.std.specs.Prelude.{ℕ, suc, zero, true, false, cond, List, [], ◌∷◌, length, Option}
use Rattle.std.specs.Prelude.{None, Some, codes, slice_get}
use Rattle.std.specs.Option.{option_map_or}
use Rattle.std.specs.Str.{bytes_eq}
use Rattle.cue_syntax.specs.declared.tree.Identifier.{Identifier}
use Rattle.cue_syntax.specs.declared.tree.Identifier.TheVariants as identifiers
use Rattle.cue_syntax.specs.declared.tree.Label.{Label}
use Rattle.cue_syntax.specs.declared.tree.LabelName.{LabelName}
use Rattle.cue_syntax.specs.declared.tree.LabelName.TheVariants as names
use Rattle.cue_syntax.specs.Syntax as tree
use Rattle.cue_syntax.specs.Syntax.{Expression, Elements, no_elements, element, branch, Branches}
use Rattle.cue_syntax.specs.Syntax.{no_branches, next_branch, ellipsis, field, definition, Entries}
use Rattle.cue_syntax.specs.Syntax.{no_entries, entry}
use Rattle.cue_scope.specs.Core as cores
use Rattle.cue_scope.specs.Core.{Core, null, truth, integer, text, named, top, bottom, bound}
use Rattle.cue_scope.specs.Core.{other_integer, other_text, conjunction, disjunction, struct, close}
use Rattle.cue_scope.specs.Core.{list, closed, Cores, no_cores, core, ends, goes_on, each}
use Rattle.cue_scope.specs.Core.{followed_by, Choices, no_choices, choice, Members, no_members}
use Rattle.cue_scope.specs.Core.{member, dots}
use Rattle.cue_scope.specs.Named.{named_of}
use Rattle.cue_scope.specs.Definitions.{Definition, definitions, number_of_name}

abbrev pub text_of : LabelName → List ℕ
text_of (names.Plain t) = t
text_of (names.Quoted t) = t

-- `a: b: V` is `a: {b: V}`
abbrev pub nest_in_labels : List Label → Core → Core
nest_in_labels [] c = c
nest_in_labels (l ∷ ls) c = struct (member (text_of l.name) l.mark (nest_in_labels ls c) no_members)

-- a name of the language; any other has no meaning, and stands in no legal text
abbrev pub meant_word : List ℕ → Core
meant_word t =
    cond (bytes_eq t (codes "true")) (truth true)
    (cond (bytes_eq t (codes "false")) (truth false)
    (cond (bytes_eq t (codes "null")) null
    (option_map_or named (named_of t) bottom)))

-- `meaning_of_number` says what a use of each definition means, by its number
abbrev pub meant_name : List Definition → (ℕ → Core) → Identifier → Core
meant_name ds meaning_of_number (identifiers.Plain t) = meant_word t
meant_name ds meaning_of_number (identifiers.Definition t) = option_map_or meaning_of_number (number_of_name t ds) bottom
meant_name ds meaning_of_number (identifiers.Hidden t) = cond (bytes_eq t (codes "_")) top bottom

abbrev mutual
  pub meant : List Definition → (ℕ → Core) → Expression → Core
  meant ds meaning_of_number (tree.name n place) = meant_name ds meaning_of_number n
  meant ds meaning_of_number (tree.integer n) = integer n
  meant ds meaning_of_number (tree.text t) = text t
  meant ds meaning_of_number tree.bottom = bottom
  meant ds meaning_of_number (tree.bound c n) = bound c n
  meant ds meaning_of_number (tree.other_integer n) = other_integer n
  meant ds meaning_of_number (tree.other_text t) = other_text t
  meant ds meaning_of_number (tree.parenthesis e comma) = meant ds meaning_of_number e
  meant ds meaning_of_number (tree.struct es comma) = struct (meant_members ds meaning_of_number es)
  meant ds meaning_of_number (tree.close place es inner comma) = close (meant_members ds meaning_of_number es)
  meant ds meaning_of_number (tree.list es rest comma) =
      list (followed_by (meant_elements ds meaning_of_number es) (meant_rest ds meaning_of_number rest))
  meant ds meaning_of_number (tree.conjunction es) = conjunction (meant_elements ds meaning_of_number es)
  meant ds meaning_of_number (tree.disjunction bs) = disjunction (meant_branches ds meaning_of_number bs)

  pub meant_elements : List Definition → (ℕ → Core) → Elements → Cores
  meant_elements ds meaning_of_number no_elements = no_cores
  meant_elements ds meaning_of_number (element e es) =
      core (meant ds meaning_of_number e) (meant_elements ds meaning_of_number es)

  -- what stands behind the last element of a list
  pub meant_rest : List Definition → (ℕ → Core) → tree.Rest → cores.Elements
  meant_rest ds meaning_of_number tree.no_rest = ends
  meant_rest ds meaning_of_number tree.any_rest = goes_on
  meant_rest ds meaning_of_number (tree.each_rest e) = each (meant ds meaning_of_number e)

  pub meant_branches : List Definition → (ℕ → Core) → Branches → Choices
  meant_branches ds meaning_of_number no_branches = no_choices
  meant_branches ds meaning_of_number (next_branch (branch marked place e) bs) =
      choice marked (meant ds meaning_of_number e) (meant_branches ds meaning_of_number bs)

  pub meant_members : List Definition → (ℕ → Core) → Entries → Members
  meant_members ds meaning_of_number no_entries = no_members
  meant_members ds meaning_of_number (entry ellipsis es) = dots (meant_members ds meaning_of_number es)
  meant_members ds meaning_of_number (entry (field l chain e) es) =
      member (text_of l.name) l.mark (nest_in_labels chain (meant ds meaning_of_number e))
      (meant_members ds meaning_of_number es)
  meant_members ds meaning_of_number (entry (definition t place chain e) es) = meant_members ds meaning_of_number es

-- a use of a definition means its body, closed
abbrev pub meant_use : List Definition → (ℕ → Core) → Option Definition → Core
meant_use ds meaning_of_number None = bottom
meant_use ds meaning_of_number (Some d) = closed (nest_in_labels d.chain (meant ds meaning_of_number d.value))

-- the same where chains of uses are followed through so many definitions
unfoldable pub meaning_within : ℕ → List Definition → ℕ → Core
meaning_within zero ds i = bottom
meaning_within (suc steps) ds i = meant_use ds (meaning_within steps ds) (slice_get ds i)

-- Where no definition reaches itself, no chain of uses is longer than there are definitions.
abbrev pub meaning_of_number : List Definition → ℕ → Core
meaning_of_number ds i = meaning_within (length ds) ds i

-- the regular declarations of a text
abbrev pub meant_fields : List Definition → (ℕ → Core) → Entries → Members
meant_fields ds meaning_of_number no_entries = no_members
meant_fields ds meaning_of_number (entry (field l chain e) es) =
    member (text_of l.name) l.mark (nest_in_labels chain (meant ds meaning_of_number e)) (meant_fields ds meaning_of_number es)
meant_fields ds meaning_of_number (entry _ es) = meant_fields ds meaning_of_number es

-- a text means the struct of its regular declarations; its package clause and a `...` at its top
-- mean nothing
abbrev pub meant_text : Entries → Core
meant_text es = struct (meant_fields (definitions es) (meaning_of_number (definitions es)) es)
