-- Trees without their places. Two trees are the same without them where they differ by nothing but
-- where their tokens stand in the text.
use Rattle.cue_syntax.specs.Syntax.{FileTree, Expression, name, integer, text, bottom, bound}
use Rattle.cue_syntax.specs.Syntax.{other_integer, other_text, parenthesis, struct, close, list}
use Rattle.cue_syntax.specs.Syntax.{conjunction, disjunction, Elements, no_elements, element}
use Rattle.cue_syntax.specs.Syntax.{Rest, no_rest, any_rest, each_rest, Branch, branch, Branches}
use Rattle.cue_syntax.specs.Syntax.{no_branches, next_branch, Entry, ellipsis, field, definition}
use Rattle.cue_syntax.specs.Syntax.{Entries, no_entries, entry}

-- the same tree with each place 0
abbrev mutual
  pub unplaced : Expression → Expression
  unplaced (name n from) = name n 0
  unplaced (integer n) = integer n
  unplaced (text t) = text t
  unplaced bottom = bottom
  unplaced (bound c n) = bound c n
  unplaced (other_integer n) = other_integer n
  unplaced (other_text t) = other_text t
  unplaced (parenthesis e comma) = parenthesis (unplaced e) comma
  unplaced (struct es comma) = struct (unplaced_entries es) comma
  unplaced (close from es inner comma) = close 0 (unplaced_entries es) inner comma
  unplaced (list es rest comma) = list (unplaced_elements es) (unplaced_rest rest) comma
  unplaced (conjunction es) = conjunction (unplaced_elements es)
  unplaced (disjunction bs) = disjunction (unplaced_branches bs)

  pub unplaced_elements : Elements → Elements
  unplaced_elements no_elements = no_elements
  unplaced_elements (element e es) = element (unplaced e) (unplaced_elements es)

  pub unplaced_rest : Rest → Rest
  unplaced_rest no_rest = no_rest
  unplaced_rest any_rest = any_rest
  unplaced_rest (each_rest e) = each_rest (unplaced e)

  pub unplaced_branch : Branch → Branch
  unplaced_branch (branch marked from e) = branch marked 0 (unplaced e)

  pub unplaced_branches : Branches → Branches
  unplaced_branches no_branches = no_branches
  unplaced_branches (next_branch b bs) = next_branch (unplaced_branch b) (unplaced_branches bs)

  pub unplaced_entry : Entry → Entry
  unplaced_entry ellipsis = ellipsis
  unplaced_entry (field label chain e) = field label chain (unplaced e)
  unplaced_entry (definition t from chain e) = definition t 0 chain (unplaced e)

  pub unplaced_entries : Entries → Entries
  unplaced_entries no_entries = no_entries
  unplaced_entries (entry e es) = entry (unplaced_entry e) (unplaced_entries es)

abbrev pub unplaced_file : FileTree → FileTree
unplaced_file file = record {
  package_clause = file.package_clause;
  declarations = unplaced_entries file.declarations;
  comma = file.comma;
}
