-- Which terms of disjunctions aren't scalar.
use Rattle.std.specs.Prelude.{ℕ, cond, List, [], ◌∷◌, ◌++◌}
use Rattle.cue_syntax.specs.Syntax as tree
use Rattle.cue_syntax.specs.Syntax.{Expression, Elements, no_elements, element, branch, Branches}
use Rattle.cue_syntax.specs.Syntax.{no_branches, next_branch, ellipsis, field, definition, Entries}
use Rattle.cue_syntax.specs.Syntax.{no_entries, entry}
use Rattle.cue_scope.specs.Core.{Core, is_scalar}
use Rattle.cue_scope.specs.Definitions.{Definition, definitions}
use Rattle.cue_scope.specs.Meaning.{meant, meaning_of_number}

-- the places of the terms that aren't scalar, in text order, an outer term before those in it
abbrev mutual
  pub terms : List Definition → (ℕ → Core) → Expression → List ℕ
  terms ds meaning_of_number (tree.parenthesis e comma) = terms ds meaning_of_number e
  terms ds meaning_of_number (tree.struct es comma) = terms_of_entries ds meaning_of_number es
  terms ds meaning_of_number (tree.close place es inner comma) = terms_of_entries ds meaning_of_number es
  terms ds meaning_of_number (tree.list es rest comma) =
      terms_of_elements ds meaning_of_number es ++ terms_of_rest ds meaning_of_number rest
  terms ds meaning_of_number (tree.conjunction es) = terms_of_elements ds meaning_of_number es
  terms ds meaning_of_number (tree.disjunction bs) = terms_of_branches ds meaning_of_number bs
  terms ds meaning_of_number _ = []

  pub terms_of_elements : List Definition → (ℕ → Core) → Elements → List ℕ
  terms_of_elements ds meaning_of_number no_elements = []
  terms_of_elements ds meaning_of_number (element e es) =
      terms ds meaning_of_number e ++ terms_of_elements ds meaning_of_number es

  pub terms_of_rest : List Definition → (ℕ → Core) → tree.Rest → List ℕ
  terms_of_rest ds meaning_of_number tree.no_rest = []
  terms_of_rest ds meaning_of_number tree.any_rest = []
  terms_of_rest ds meaning_of_number (tree.each_rest e) = terms ds meaning_of_number e

  pub terms_of_branches : List Definition → (ℕ → Core) → Branches → List ℕ
  terms_of_branches ds meaning_of_number no_branches = []
  terms_of_branches ds meaning_of_number (next_branch (branch marked place e) bs) =
      (cond (is_scalar (meant ds meaning_of_number e)) [] (place ∷ []) ++ terms ds meaning_of_number e)
      ++ terms_of_branches ds meaning_of_number bs

  pub terms_of_entries : List Definition → (ℕ → Core) → Entries → List ℕ
  terms_of_entries ds meaning_of_number no_entries = []
  terms_of_entries ds meaning_of_number (entry ellipsis es) = terms_of_entries ds meaning_of_number es
  terms_of_entries ds meaning_of_number (entry (field l chain e) es) =
      terms ds meaning_of_number e ++ terms_of_entries ds meaning_of_number es
  terms_of_entries ds meaning_of_number (entry (definition t place chain e) es) =
      terms ds meaning_of_number e ++ terms_of_entries ds meaning_of_number es

-- those of a text
abbrev pub bad_terms : Entries → List ℕ
bad_terms es = terms_of_entries (definitions es) (meaning_of_number (definitions es)) es
