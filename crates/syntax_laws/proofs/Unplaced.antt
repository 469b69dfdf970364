-- Trees and the same trees without their places follow the grammar alike.
use Rattle.std.proofs.Common.{◌≡◌, ◌∙◌, ◌↔◌, ap, refl, ◌+◌, max, Bool, true, false, Option, Some, None, length, arith}
use Rattle.cue_syntax.specs.declared.tree.Package.{Package}
use Rattle.cue_syntax.specs.Syntax.{Expression, name, integer, text, bottom, bound, other_integer, other_text, parenthesis, struct, close, list, conjunction, disjunction, Elements, no_elements, element, Branch, branch, Branches, no_branches, next_branch, Entry, ellipsis, field, definition, Entries, no_entries, entry, Rest, no_rest, any_rest, each_rest}
use Rattle.cue_syntax.specs.Words.{HasWords, HaveWords, HasWordsRest, HasWordsBranch, HaveWordsBranches, HasWordsEntry, HaveWordsEntries}
use Rattle.cue_syntax.specs.Grammar.{IsUnary, IsConjunct, IsNested, AreUnary, AreNested, TwoElements, TwoBranches, IsTerm, EndsEntries, EndsElements, IsRight, AreRight, IsRightRest, IsRightBranch, AreRightBranches, IsRightEntry, AreRightEntries, IsRightPackage, levels, levels_of_elements, levels_of_rest, levels_of_branch, levels_of_branches, levels_of_entry, levels_of_entries}
use Rattle.cue_syntax.specs.Unplaced.{unplaced, unplaced_elements, unplaced_rest, unplaced_branch, unplaced_branches, unplaced_entry, unplaced_entries}
use Rattle.syntax_laws.specs.Places.{KeepsForm, KeepsLevels}

same : {A : Type 0} → A ↔ A
same = (λ x. x, λ x. x)

unary_same : (e : Expression) → IsUnary e ↔ IsUnary (unplaced e)
unary_same (conjunction es) = same
unary_same (disjunction bs) = same
unary_same (name n from) = same
unary_same (integer n) = same
unary_same (text t) = same
unary_same bottom = same
unary_same (bound c n) = same
unary_same (other_integer n) = same
unary_same (other_text t) = same
unary_same (parenthesis e comma) = same
unary_same (struct es comma) = same
unary_same (close from es inner comma) = same
unary_same (list es rest comma) = same

conjunct_same : (e : Expression) → IsConjunct e ↔ IsConjunct (unplaced e)
conjunct_same (conjunction es) = same
conjunct_same (disjunction bs) = same
conjunct_same (name n from) = same
conjunct_same (integer n) = same
conjunct_same (text t) = same
conjunct_same bottom = same
conjunct_same (bound c n) = same
conjunct_same (other_integer n) = same
conjunct_same (other_text t) = same
conjunct_same (parenthesis e comma) = same
conjunct_same (struct es comma) = same
conjunct_same (close from es inner comma) = same
conjunct_same (list es rest comma) = same

nested_one : (e : Entry) → IsNested e ↔ IsNested (unplaced_entry e)
nested_one ellipsis = same
nested_one (field label chain e) = same
nested_one (definition t from chain e) = same

all_unary_same : (es : Elements) → AreUnary es ↔ AreUnary (unplaced_elements es)
all_unary_same no_elements = same
all_unary_same (element e es) = (λ r. ((unary_same e).0 r.0, (all_unary_same es).0 r.1), λ r. ((unary_same e).1 r.0, (all_unary_same es).1 r.1))

nested_same : (es : Entries) → AreNested es ↔ AreNested (unplaced_entries es)
nested_same no_entries = same
nested_same (entry e es) = (λ r. ((nested_one e).0 r.0, (nested_same es).0 r.1), λ r. ((nested_one e).1 r.0, (nested_same es).1 r.1))

two_elements_same : (es : Elements) → TwoElements es ↔ TwoElements (unplaced_elements es)
two_elements_same no_elements = same
two_elements_same (element d no_elements) = same
two_elements_same (element d (element e es)) = same

two_branches_same : (bs : Branches) → TwoBranches bs ↔ TwoBranches (unplaced_branches bs)
two_branches_same no_branches = same
two_branches_same (next_branch a no_branches) = same
two_branches_same (next_branch a (next_branch b bs)) = same

term_same : (marked : Bool) (e : Expression) → IsTerm marked e ↔ IsTerm marked (unplaced e)
term_same true e = unary_same e
term_same false e = conjunct_same e

ends_same : (comma : Bool) (es : Entries) → EndsEntries comma es ↔ EndsEntries comma (unplaced_entries es)
ends_same true no_entries = same
ends_same true (entry e es) = same
ends_same false no_entries = same
ends_same false (entry e es) = same

ends_elements_same : (comma : Bool) (rest : Rest) (es : Elements) → EndsElements comma rest es ↔ EndsElements comma (unplaced_rest rest) (unplaced_elements es)
ends_elements_same true any_rest no_elements = same
ends_elements_same true (each_rest d) no_elements = same
ends_elements_same true no_rest no_elements = same
ends_elements_same false rest no_elements = same
ends_elements_same true any_rest (element e es) = same
ends_elements_same true (each_rest d) (element e es) = same
ends_elements_same true no_rest (element e es) = same
ends_elements_same false rest (element e es) = same

mutual
  right_same : (e : Expression) → IsRight e ↔ IsRight (unplaced e)
  right_same (name n from) = same
  right_same (integer n) = same
  right_same (text t) = same
  right_same bottom = same
  right_same (bound c n) = same
  right_same (other_integer n) = same
  right_same (other_text t) = same
  right_same (parenthesis e comma) = right_same e
  right_same (struct es comma) = (λ r. ((right_entries_same es).0 r.0, (nested_same es).0 r.1, (ends_same comma es).0 r.2), λ r. ((right_entries_same es).1 r.0, (nested_same es).1 r.1, (ends_same comma es).1 r.2))
  right_same (close from es inner comma) = (λ r. ((right_entries_same es).0 r.0, (nested_same es).0 r.1, (ends_same inner es).0 r.2), λ r. ((right_entries_same es).1 r.0, (nested_same es).1 r.1, (ends_same inner es).1 r.2))
  right_same (list es rest comma) = (λ r. ((all_right_same es).0 r.0, (right_rest_same rest).0 r.1, (ends_elements_same comma rest es).0 r.2), λ r. ((all_right_same es).1 r.0, (right_rest_same rest).1 r.1, (ends_elements_same comma rest es).1 r.2))
  right_same (conjunction es) = (λ r. ((all_right_same es).0 r.0, (all_unary_same es).0 r.1, (two_elements_same es).0 r.2), λ r. ((all_right_same es).1 r.0, (all_unary_same es).1 r.1, (two_elements_same es).1 r.2))
  right_same (disjunction bs) = (λ r. ((right_branches_same bs).0 r.0, (two_branches_same bs).0 r.1), λ r. ((right_branches_same bs).1 r.0, (two_branches_same bs).1 r.1))

  all_right_same : (es : Elements) → AreRight es ↔ AreRight (unplaced_elements es)
  all_right_same no_elements = same
  all_right_same (element e es) = (λ r. ((right_same e).0 r.0, (all_right_same es).0 r.1), λ r. ((right_same e).1 r.0, (all_right_same es).1 r.1))

  right_rest_same : (rest : Rest) → IsRightRest rest ↔ IsRightRest (unplaced_rest rest)
  right_rest_same no_rest = same
  right_rest_same any_rest = same
  right_rest_same (each_rest e) = right_same e

  right_branch_same : (b : Branch) → IsRightBranch b ↔ IsRightBranch (unplaced_branch b)
  right_branch_same (branch marked from e) = (λ r. ((right_same e).0 r.0, (term_same marked e).0 r.1), λ r. ((right_same e).1 r.0, (term_same marked e).1 r.1))

  right_branches_same : (bs : Branches) → AreRightBranches bs ↔ AreRightBranches (unplaced_branches bs)
  right_branches_same no_branches = same
  right_branches_same (next_branch b bs) = (λ r. ((right_branch_same b).0 r.0, (right_branches_same bs).0 r.1), λ r. ((right_branch_same b).1 r.0, (right_branches_same bs).1 r.1))

  right_entry_same : (e : Entry) → IsRightEntry e ↔ IsRightEntry (unplaced_entry e)
  right_entry_same ellipsis = same
  right_entry_same (field label chain e) = right_same e
  right_entry_same (definition t from chain e) = right_same e

  pub right_entries_same : (es : Entries) → AreRightEntries es ↔ AreRightEntries (unplaced_entries es)
  right_entries_same no_entries = same
  right_entries_same (entry e es) = (λ r. ((right_entry_same e).0 r.0, (right_entries_same es).0 r.1), λ r. ((right_entry_same e).1 r.0, (right_entries_same es).1 r.1))

mutual
  words_same : (e : Expression) → HasWords e ↔ HasWords (unplaced e)
  words_same (name n from) = same
  words_same (integer n) = same
  words_same (text t) = same
  words_same bottom = same
  words_same (bound c n) = same
  words_same (other_integer n) = same
  words_same (other_text t) = same
  words_same (parenthesis e comma) = words_same e
  words_same (struct es comma) = words_entries_same es
  words_same (close from es inner comma) = words_entries_same es
  words_same (list es rest comma) = (λ r. ((words_elements_same es).0 r.0, (words_rest_same rest).0 r.1), λ r. ((words_elements_same es).1 r.0, (words_rest_same rest).1 r.1))
  words_same (conjunction es) = words_elements_same es
  words_same (disjunction bs) = words_branches_same bs

  words_elements_same : (es : Elements) → HaveWords es ↔ HaveWords (unplaced_elements es)
  words_elements_same no_elements = same
  words_elements_same (element e es) = (λ r. ((words_same e).0 r.0, (words_elements_same es).0 r.1), λ r. ((words_same e).1 r.0, (words_elements_same es).1 r.1))

  words_rest_same : (rest : Rest) → HasWordsRest rest ↔ HasWordsRest (unplaced_rest rest)
  words_rest_same no_rest = same
  words_rest_same any_rest = same
  words_rest_same (each_rest e) = words_same e

  words_branch_same : (b : Branch) → HasWordsBranch b ↔ HasWordsBranch (unplaced_branch b)
  words_branch_same (branch marked from e) = words_same e

  words_branches_same : (bs : Branches) → HaveWordsBranches bs ↔ HaveWordsBranches (unplaced_branches bs)
  words_branches_same no_branches = same
  words_branches_same (next_branch b bs) = (λ r. ((words_branch_same b).0 r.0, (words_branches_same bs).0 r.1), λ r. ((words_branch_same b).1 r.0, (words_branches_same bs).1 r.1))

  words_entry_same : (e : Entry) → HasWordsEntry e ↔ HasWordsEntry (unplaced_entry e)
  words_entry_same ellipsis = same
  words_entry_same (field label chain e) = (λ r. (r.0, r.1, (words_same e).0 r.2), λ r. (r.0, r.1, (words_same e).1 r.2))
  words_entry_same (definition t from chain e) = (λ r. (r.0, r.1, (words_same e).0 r.2), λ r. (r.0, r.1, (words_same e).1 r.2))

  words_entries_same : (es : Entries) → HaveWordsEntries es ↔ HaveWordsEntries (unplaced_entries es)
  words_entries_same no_entries = same
  words_entries_same (entry e es) = (λ r. ((words_entry_same e).0 r.0, (words_entries_same es).0 r.1), λ r. ((words_entry_same e).1 r.0, (words_entries_same es).1 r.1))

mutual
  levels_same : (e : Expression) → levels (unplaced e) ≡ levels e
  levels_same (name n from) = refl
  levels_same (integer n) = refl
  levels_same (text t) = refl
  levels_same bottom = refl
  levels_same (bound c n) = refl
  levels_same (other_integer n) = refl
  levels_same (other_text t) = refl
  levels_same (parenthesis e comma) = ap (λ n. 1 + n) (levels_same e)
  levels_same (struct es comma) = ap (λ n. 1 + n) (levels_entries_same es)
  levels_same (close from es inner comma) = ap (λ n. 2 + n) (levels_entries_same es)
  levels_same (list es rest comma) =
      ap (λ n. 1 + max n (levels_of_rest (unplaced_rest rest))) (levels_elements_same es) ∙ ap (λ n. 1 + max (levels_of_elements es) n) (levels_rest_same rest)
  levels_same (conjunction es) = levels_elements_same es
  levels_same (disjunction bs) = levels_branches_same bs

  levels_elements_same : (es : Elements) → levels_of_elements (unplaced_elements es) ≡ levels_of_elements es
  levels_elements_same no_elements = refl
  levels_elements_same (element e es) = ap (λ n. max n (levels_of_elements (unplaced_elements es))) (levels_same e) ∙ ap (max (levels e)) (levels_elements_same es)

  levels_rest_same : (rest : Rest) → levels_of_rest (unplaced_rest rest) ≡ levels_of_rest rest
  levels_rest_same no_rest = refl
  levels_rest_same any_rest = refl
  levels_rest_same (each_rest e) = levels_same e

  levels_branch_same : (b : Branch) → levels_of_branch (unplaced_branch b) ≡ levels_of_branch b
  levels_branch_same (branch marked from e) = levels_same e

  levels_branches_same : (bs : Branches) → levels_of_branches (unplaced_branches bs) ≡ levels_of_branches bs
  levels_branches_same no_branches = refl
  levels_branches_same (next_branch b bs) = ap (λ n. max n (levels_of_branches (unplaced_branches bs))) (levels_branch_same b) ∙ ap (max (levels_of_branch b)) (levels_branches_same bs)

  levels_entry_same : (e : Entry) → levels_of_entry (unplaced_entry e) ≡ levels_of_entry e
  levels_entry_same ellipsis = refl
  levels_entry_same (field label chain e) = ap (λ n. length chain + n) (levels_same e)
  levels_entry_same (definition t from chain e) = ap (λ n. length chain + n) (levels_same e)

  pub levels_entries_same : (es : Entries) → levels_of_entries (unplaced_entries es) ≡ levels_of_entries es
  levels_entries_same no_entries = refl
  levels_entries_same (entry e es) = ap (λ n. max n (levels_of_entries (unplaced_entries es))) (levels_entry_same e) ∙ ap (max (levels_of_entry e)) (levels_entries_same es)

pub package_same : (clause : Option Package) (es : Entries) → IsRightPackage clause es ↔ IsRightPackage clause (unplaced_entries es)
package_same None no_entries = same
package_same None (entry e es) = same
package_same (Some clause) no_entries = same
package_same (Some clause) (entry e es) = same

-- whether declarations end with a comma, without their places
pub comma_same : (comma : Bool) (es : Entries) → EndsEntries comma es ↔ EndsEntries comma (unplaced_entries es)
comma_same comma es = ends_same comma es

-- well-formedness and levels do not depend on places
pub form_same : KeepsForm
form_same clause es comma = (
  λ f. record {
    package_clause = (package_same clause es).0 f.package_clause;
    right = (right_entries_same es).0 f.right;
    ends = (ends_same comma es).0 f.ends;
    levels = omega (arith, f.levels, levels_entries_same es);
    words = (words_entries_same es).0 f.words;
  },
  λ f. record {
    package_clause = (package_same clause es).1 f.package_clause;
    right = (right_entries_same es).1 f.right;
    ends = (ends_same comma es).1 f.ends;
    levels = omega (arith, f.levels, levels_entries_same es);
    words = (words_entries_same es).1 f.words;
  },
)

pub levels_keep : KeepsLevels
levels_keep es = levels_entries_same es
