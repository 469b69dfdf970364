-- Which definitions use which.
use Rattle.std.specs.Prelude.{ℕ, List, [], ◌++◌, map}
use Rattle.std.specs.Option.{option_to_list}
use Rattle.cue_syntax.specs.declared.tree.Identifier.{Identifier}
use Rattle.cue_syntax.specs.declared.tree.Identifier.TheVariants as identifiers
use Rattle.cue_syntax.specs.Syntax as tree
use Rattle.cue_syntax.specs.Syntax.{Expression, Elements, no_elements, element, branch, Branches}
use Rattle.cue_syntax.specs.Syntax.{no_branches, next_branch, ellipsis, field, definition, Entries}
use Rattle.cue_syntax.specs.Syntax.{no_entries, entry}
use Rattle.cue_scope.specs.Definitions.{Definition, number_of_name}

abbrev pub uses_of_name : List Definition → Identifier → List ℕ
uses_of_name ds (identifiers.Definition t) = option_to_list (number_of_name t ds)
uses_of_name ds _ = []

-- the numbers of the definitions that an expression names, in text order, as often as it names them
abbrev mutual
  pub uses : List Definition → Expression → List ℕ
  uses ds (tree.name n place) = uses_of_name ds n
  uses ds (tree.parenthesis e comma) = uses ds e
  uses ds (tree.struct es comma) = uses_of_entries ds es
  uses ds (tree.close place es inner comma) = uses_of_entries ds es
  uses ds (tree.list es rest comma) = uses_of_elements ds es ++ uses_of_rest ds rest
  uses ds (tree.conjunction es) = uses_of_elements ds es
  uses ds (tree.disjunction bs) = uses_of_branches ds bs
  uses ds _ = []

  pub uses_of_elements : List Definition → Elements → List ℕ
  uses_of_elements ds no_elements = []
  uses_of_elements ds (element e es) = uses ds e ++ uses_of_elements ds es

  pub uses_of_rest : List Definition → tree.Rest → List ℕ
  uses_of_rest ds tree.no_rest = []
  uses_of_rest ds tree.any_rest = []
  uses_of_rest ds (tree.each_rest e) = uses ds e

  pub uses_of_branches : List Definition → Branches → List ℕ
  uses_of_branches ds no_branches = []
  uses_of_branches ds (next_branch (branch marked place e) bs) = uses ds e ++ uses_of_branches ds bs

  pub uses_of_entries : List Definition → Entries → List ℕ
  uses_of_entries ds no_entries = []
  uses_of_entries ds (entry ellipsis es) = uses_of_entries ds es
  uses_of_entries ds (entry (field l chain e) es) = uses ds e ++ uses_of_entries ds es
  uses_of_entries ds (entry (definition t place chain e) es) = uses ds e ++ uses_of_entries ds es

-- the definitions that each definition uses
abbrev pub graph : List Definition → List (List ℕ)
graph ds = map (λ d. uses ds d.value) ds

-- those that the regular declarations of a text name
abbrev pub uses_of_fields : List Definition → Entries → List ℕ
uses_of_fields ds no_entries = []
uses_of_fields ds (entry (field l chain e) es) = uses ds e ++ uses_of_fields ds es
uses_of_fields ds (entry _ es) = uses_of_fields ds es
