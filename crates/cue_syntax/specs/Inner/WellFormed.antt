-- A file has at most one proof of being well formed.
use Rattle.std.specs.Prelude.{ℕ, Bool, true, false, List, Option, Some, None}
use Rattle.std.proofs.Props.{props}
use Rattle.cue_syntax.specs.declared.tree.Identifier.{Identifier}
use Rattle.cue_syntax.specs.declared.tree.Identifier.TheVariants as identifiers
use Rattle.cue_lattice.specs.Word.{IsWord}
use Rattle.cue_lex.specs.Kinds.{HasWord}
use Rattle.cue_syntax.specs.declared.tree.Label.{Label}
use Rattle.cue_syntax.specs.declared.tree.LabelName.{LabelName}
use Rattle.cue_syntax.specs.declared.tree.LabelName.TheVariants as names
use Rattle.cue_syntax.specs.declared.tree.Package.{Package}
use Rattle.cue_syntax.specs.Spelling.{identifier_kind, label_kind}
use Rattle.cue_syntax.specs.Syntax.{Expression, name, integer, text, bottom, bound, other_integer}
use Rattle.cue_syntax.specs.Syntax.{other_text, parenthesis, struct, close, list, conjunction}
use Rattle.cue_syntax.specs.Syntax.{disjunction, Elements, no_elements, element, Rest, no_rest}
use Rattle.cue_syntax.specs.Syntax.{any_rest, each_rest, Branch, branch}
use Rattle.cue_syntax.specs.Syntax.{Branches, no_branches, next_branch, Entry, ellipsis, field}
use Rattle.cue_syntax.specs.Syntax.{definition, Entries, no_entries, entry}
use Rattle.cue_syntax.specs.Words.{HasWordLabel, HasWords, HaveWords, HasWordsRest}
use Rattle.cue_syntax.specs.Words.{HasWordsBranch, HaveWordsBranches, HasWordsEntry}
use Rattle.cue_syntax.specs.Words.{HaveWordsEntries}
use Rattle.cue_syntax.specs.Grammar.{IsOperand, IsUnary, IsConjunct, IsNested, AreUnary, AreNested}
use Rattle.cue_syntax.specs.Grammar.{TwoElements, TwoBranches, IsTerm, EndsEntries, EndsElements}
use Rattle.cue_syntax.specs.Grammar.{IsRight, AreRight, IsRightRest, IsRightBranch}
use Rattle.cue_syntax.specs.Grammar.{AreRightBranches, IsRightEntry, AreRightEntries}
use Rattle.cue_syntax.specs.Grammar.{IsPackageName, IsRightPackage, IsFragment}

operand_prop : (n : Identifier) → IsProp (IsOperand n)
operand_prop (identifiers.Plain t) = hlevel
operand_prop (identifiers.Definition t) = hlevel
operand_prop (identifiers.Hidden t) = hlevel

unary_prop : (e : Expression) → IsProp (IsUnary e)
unary_prop (conjunction es) = hlevel
unary_prop (disjunction bs) = hlevel
unary_prop _ = hlevel

conjunct_prop : (e : Expression) → IsProp (IsConjunct e)
conjunct_prop (disjunction bs) = hlevel
conjunct_prop _ = hlevel

nested_entry_prop : (e : Entry) → IsProp (IsNested e)
nested_entry_prop (definition t from chain e) = hlevel
nested_entry_prop _ = hlevel

all_unary_prop : (es : Elements) → IsProp (AreUnary es)
all_unary_prop no_elements = hlevel
all_unary_prop (element e es) = hlevel (unary_prop e, all_unary_prop es)

nested_prop : (es : Entries) → IsProp (AreNested es)
nested_prop no_entries = hlevel
nested_prop (entry e es) = hlevel (nested_entry_prop e, nested_prop es)

two_elements_prop : (es : Elements) → IsProp (TwoElements es)
two_elements_prop no_elements = hlevel
two_elements_prop (element d no_elements) = hlevel
two_elements_prop (element d (element e es)) = hlevel

two_branches_prop : (bs : Branches) → IsProp (TwoBranches bs)
two_branches_prop no_branches = hlevel
two_branches_prop (next_branch a no_branches) = hlevel
two_branches_prop (next_branch a (next_branch b bs)) = hlevel

term_prop : (marked : Bool) (e : Expression) → IsProp (IsTerm marked e)
term_prop true e = unary_prop e
term_prop false e = conjunct_prop e

ends_entries_prop : (comma : Bool) (es : Entries) → IsProp (EndsEntries comma es)
ends_entries_prop true no_entries = hlevel
ends_entries_prop true (entry e es) = hlevel
ends_entries_prop false es = hlevel

ends_elements_prop : (comma : Bool) (rest : Rest) (es : Elements)
    → IsProp (EndsElements comma rest es)
ends_elements_prop true no_rest no_elements = hlevel
ends_elements_prop true no_rest (element e es) = hlevel
ends_elements_prop true any_rest es = hlevel
ends_elements_prop true (each_rest e) es = hlevel
ends_elements_prop false rest es = hlevel

mutual
  right_prop : (e : Expression) → IsProp (IsRight e)
  right_prop (name n from) = operand_prop n
  right_prop (integer n) = hlevel props
  right_prop (text t) = hlevel
  right_prop bottom = hlevel
  right_prop (bound c n) = hlevel props
  right_prop (other_integer n) = hlevel props
  right_prop (other_text t) = hlevel
  right_prop (parenthesis e comma) = right_prop e
  right_prop (struct es comma) =
      hlevel (right_entries_prop es, nested_prop es, ends_entries_prop comma es)
  right_prop (close from es inner comma) =
      hlevel (right_entries_prop es, nested_prop es, ends_entries_prop inner es)
  right_prop (list es rest comma) =
      hlevel (all_right_prop es, right_rest_prop rest, ends_elements_prop comma rest es)
  right_prop (conjunction es) = hlevel (all_right_prop es, all_unary_prop es, two_elements_prop es)
  right_prop (disjunction bs) = hlevel (right_branches_prop bs, two_branches_prop bs)

  all_right_prop : (es : Elements) → IsProp (AreRight es)
  all_right_prop no_elements = hlevel
  all_right_prop (element e es) = hlevel (right_prop e, all_right_prop es)

  right_rest_prop : (rest : Rest) → IsProp (IsRightRest rest)
  right_rest_prop no_rest = hlevel
  right_rest_prop any_rest = hlevel
  right_rest_prop (each_rest e) = right_prop e

  right_branch_prop : (b : Branch) → IsProp (IsRightBranch b)
  right_branch_prop (branch marked from e) = hlevel (right_prop e, term_prop marked e)

  right_branches_prop : (bs : Branches) → IsProp (AreRightBranches bs)
  right_branches_prop no_branches = hlevel
  right_branches_prop (next_branch b bs) = hlevel (right_branch_prop b, right_branches_prop bs)

  right_entry_prop : (e : Entry) → IsProp (IsRightEntry e)
  right_entry_prop ellipsis = hlevel
  right_entry_prop (field label chain e) = right_prop e
  right_entry_prop (definition t from chain e) = right_prop e

  right_entries_prop : (es : Entries) → IsProp (AreRightEntries es)
  right_entries_prop no_entries = hlevel
  right_entries_prop (entry e es) = hlevel (right_entry_prop e, right_entries_prop es)

word_prop : (t : List ℕ) → IsProp (IsWord t)
word_prop t = hlevel props

identifier_prop : (n : Identifier) → IsProp (HasWord (identifier_kind n))
identifier_prop (identifiers.Plain t) = word_prop t
identifier_prop (identifiers.Definition t) = word_prop t
identifier_prop (identifiers.Hidden t) = word_prop t

name_prop : (n : LabelName) → IsProp (HasWord (label_kind n))
name_prop (names.Plain t) = word_prop t
name_prop (names.Quoted t) = word_prop t

label_prop : (label : Label) → IsProp (HasWordLabel label)
label_prop label = name_prop label.name

mutual
  words_prop : (e : Expression) → IsProp (HasWords e)
  words_prop (name n from) = identifier_prop n
  words_prop (integer n) = hlevel
  words_prop (text t) = word_prop t
  words_prop bottom = hlevel
  words_prop (bound c n) = hlevel
  words_prop (other_integer n) = hlevel
  words_prop (other_text t) = word_prop t
  words_prop (parenthesis e comma) = words_prop e
  words_prop (struct es comma) = entries_words_prop es
  words_prop (close from es inner comma) = entries_words_prop es
  words_prop (list es rest comma) = hlevel (elements_words_prop es, rest_words_prop rest)
  words_prop (conjunction es) = elements_words_prop es
  words_prop (disjunction bs) = branches_words_prop bs

  elements_words_prop : (es : Elements) → IsProp (HaveWords es)
  elements_words_prop no_elements = hlevel
  elements_words_prop (element e es) = hlevel (words_prop e, elements_words_prop es)

  rest_words_prop : (rest : Rest) → IsProp (HasWordsRest rest)
  rest_words_prop no_rest = hlevel
  rest_words_prop any_rest = hlevel
  rest_words_prop (each_rest e) = words_prop e

  branch_words_prop : (b : Branch) → IsProp (HasWordsBranch b)
  branch_words_prop (branch marked from e) = words_prop e

  branches_words_prop : (bs : Branches) → IsProp (HaveWordsBranches bs)
  branches_words_prop no_branches = hlevel
  branches_words_prop (next_branch b bs) = hlevel (branch_words_prop b, branches_words_prop bs)

  entry_words_prop : (e : Entry) → IsProp (HasWordsEntry e)
  entry_words_prop ellipsis = hlevel
  entry_words_prop (field label chain e) = hlevel (props, label_prop, words_prop e)
  entry_words_prop (definition t from chain e) =
      hlevel (props, word_prop t, label_prop, words_prop e)

  entries_words_prop : (es : Entries) → IsProp (HaveWordsEntries es)
  entries_words_prop no_entries = hlevel
  entries_words_prop (entry e es) = hlevel (entry_words_prop e, entries_words_prop es)

package_name_prop : (n : Identifier) → IsProp (IsPackageName n)
package_name_prop (identifiers.Plain t) = hlevel
package_name_prop (identifiers.Definition t) = hlevel
package_name_prop (identifiers.Hidden t) = hlevel

packaged_prop : (clause : Option Package) (es : Entries) → IsProp (IsRightPackage clause es)
packaged_prop None es = hlevel
packaged_prop (Some clause) no_entries = package_name_prop clause.name
packaged_prop (Some clause) (entry e es) = hlevel (props, package_name_prop clause.name)

-- Well-formedness is a proposition, so that a file may promise it.
pub prop : {clause : Option Package} {es : Entries} {comma : Bool}
    → IsProp (IsFragment clause es comma)
prop {clause} {es} {comma} =
    hlevel (
      props,
      packaged_prop clause es,
      right_entries_prop es,
      ends_entries_prop comma es,
      entries_words_prop es,
    )
