-- Where the tokens of a tree stand changes neither its form, nor what it means, nor what the checks say of it, where
-- it has no definitions.
use Rattle.std.proofs.Common.{◌≡◌, ℕ, ◌+◌, ◌||◌, max, Bool, true, false, List, [], ◌∷◌, ◌++◌, length, refl, ap, ap₂, cond, codes}
use Rattle.std.specs.Option.{is_some}
use Rattle.std.specs.Str.{bytes_eq}
use Rattle.cue_lattice.specs.declared.refusal.Refusal.{Refusal}
use Rattle.cue_syntax.specs.declared.tree.Identifier.{Identifier}
use Rattle.cue_syntax.specs.declared.tree.Identifier.TheVariants as identifiers
use Rattle.cue_syntax.specs.declared.tree.Label.{Label}
use Rattle.cue_syntax.specs.Syntax.{Expression, name, integer, text, bottom, bound, other_integer, other_text, parenthesis, struct, close, list, conjunction, disjunction, Elements, no_elements, element, Branch, branch, Branches, no_branches, next_branch, Entry, ellipsis, field, definition, Entries, no_entries, entry, Rest, no_rest, any_rest, each_rest}
use Rattle.cue_syntax.specs.Unplaced.{unplaced, unplaced_elements, unplaced_rest, unplaced_branch, unplaced_branches, unplaced_entry, unplaced_entries}
use Rattle.cue_syntax.specs.Grammar.{IsUnary, IsConjunct, IsTerm, IsNested, AreUnary, AreNested, TwoElements, TwoBranches, EndsEntries, EndsElements, IsRight, AreRight, IsRightRest, IsRightBranch, AreRightBranches, IsRightEntry, AreRightEntries, levels, levels_of_elements, levels_of_rest, levels_of_branch, levels_of_branches, levels_of_entry, levels_of_entries}
use Rattle.cue_syntax.specs.Words.{HasWords, HaveWords, HasWordsRest, HasWordsBranch, HaveWordsBranches, HasWordsEntry, HaveWordsEntries}
use Rattle.cue_scope.specs.Core.{Core, is_scalar}
use Rattle.cue_scope.specs.Core as meant_as
use Rattle.cue_scope.specs.Definitions.{Definition, definitions}
use Rattle.cue_scope.specs.Meaning.{text_of, nest_in_labels, meant_rest, meant, meant_elements, meant_branches, meant_members, meant_fields}
use Rattle.cue_scope.specs.Named.{named_of, is_literal}
use Rattle.cue_scope.specs.Names.{Scope, is_unquoted, has_label, scope_inside, scope_behind, fault_of_name, fault_of_close, faults, faults_of_elements, faults_of_rest, faults_of_branches, faults_of_entries}
use Rattle.cue_scope.specs.Terms.{terms, terms_of_elements, terms_of_rest, terms_of_branches, terms_of_entries}

-- ---- form
unary_placed : (e : Expression) → IsUnary (unplaced e) → IsUnary e
unary_placed (conjunction es) is = is
unary_placed (disjunction bs) is = is
unary_placed _ is = tt

conjunct_placed : (e : Expression) → IsConjunct (unplaced e) → IsConjunct e
conjunct_placed (disjunction bs) is = is
conjunct_placed _ is = tt

term_placed : (marked : Bool) (e : Expression) → IsTerm marked (unplaced e) → IsTerm marked e
term_placed true e is = unary_placed e is
term_placed false e is = conjunct_placed e is

nested_placed : (e : Entry) → IsNested (unplaced_entry e) → IsNested e
nested_placed (definition t from chain e) is = is
nested_placed _ is = tt

all_unary_placed : (es : Elements) → AreUnary (unplaced_elements es) → AreUnary es
all_unary_placed no_elements are = tt
all_unary_placed (element e es) are = (unary_placed e are.0, all_unary_placed es are.1)

all_nested_placed : (es : Entries) → AreNested (unplaced_entries es) → AreNested es
all_nested_placed no_entries are = tt
all_nested_placed (entry e es) are = (nested_placed e are.0, all_nested_placed es are.1)

two_elements_placed : (es : Elements) → TwoElements (unplaced_elements es) → TwoElements es
two_elements_placed no_elements are = are
two_elements_placed (element d no_elements) are = are
two_elements_placed (element d (element e es)) are = tt

two_branches_placed : (bs : Branches) → TwoBranches (unplaced_branches bs) → TwoBranches bs
two_branches_placed no_branches are = are
two_branches_placed (next_branch a no_branches) are = are
two_branches_placed (next_branch a (next_branch b bs)) are = tt

pub ends_placed : (comma : Bool) (es : Entries) → EndsEntries comma (unplaced_entries es) → EndsEntries comma es
ends_placed true no_entries ends = ends
ends_placed true (entry e es) ends = tt
ends_placed false es ends = tt

ends_elements_placed : (comma : Bool) (rest : Rest) (es : Elements) → EndsElements comma (unplaced_rest rest) (unplaced_elements es) → EndsElements comma rest es
ends_elements_placed true no_rest no_elements ends = ends
ends_elements_placed true no_rest (element e es) ends = tt
ends_elements_placed true any_rest es ends = tt
ends_elements_placed true (each_rest e) es ends = tt
ends_elements_placed false rest es ends = tt

mutual
  right_placed : (e : Expression) → IsRight (unplaced e) → IsRight e
  right_placed (name n from) is = is
  right_placed (integer n) is = is
  right_placed (text t) is = tt
  right_placed bottom is = tt
  right_placed (bound c n) is = is
  right_placed (other_integer n) is = is
  right_placed (other_text t) is = tt
  right_placed (parenthesis e comma) is = right_placed e is
  right_placed (struct es comma) is = (entries_right es is.0, all_nested_placed es is.1, ends_placed comma es is.2)
  right_placed (close from es inner comma) is = (entries_right es is.0, all_nested_placed es is.1, ends_placed inner es is.2)
  right_placed (list es rest comma) is = (elements_right es is.0, rest_right rest is.1, ends_elements_placed comma rest es is.2)
  right_placed (conjunction es) is = (elements_right es is.0, all_unary_placed es is.1, two_elements_placed es is.2)
  right_placed (disjunction bs) is = (branches_right bs is.0, two_branches_placed bs is.1)

  elements_right : (es : Elements) → AreRight (unplaced_elements es) → AreRight es
  elements_right no_elements are = tt
  elements_right (element e es) are = (right_placed e are.0, elements_right es are.1)

  rest_right : (rest : Rest) → IsRightRest (unplaced_rest rest) → IsRightRest rest
  rest_right no_rest is = tt
  rest_right any_rest is = tt
  rest_right (each_rest e) is = right_placed e is

  branch_right : (b : Branch) → IsRightBranch (unplaced_branch b) → IsRightBranch b
  branch_right (branch marked from e) is = (right_placed e is.0, term_placed marked e is.1)

  branches_right : (bs : Branches) → AreRightBranches (unplaced_branches bs) → AreRightBranches bs
  branches_right no_branches are = tt
  branches_right (next_branch b bs) are = (branch_right b are.0, branches_right bs are.1)

  entry_right : (e : Entry) → IsRightEntry (unplaced_entry e) → IsRightEntry e
  entry_right ellipsis is = tt
  entry_right (field label chain e) is = right_placed e is
  entry_right (definition t from chain e) is = right_placed e is

  pub entries_right : (es : Entries) → AreRightEntries (unplaced_entries es) → AreRightEntries es
  entries_right no_entries are = tt
  entries_right (entry e es) are = (entry_right e are.0, entries_right es are.1)

mutual
  words_placed : (e : Expression) → HasWords (unplaced e) → HasWords e
  words_placed (name n from) is = is
  words_placed (integer n) is = tt
  words_placed (text t) is = is
  words_placed bottom is = tt
  words_placed (bound c n) is = tt
  words_placed (other_integer n) is = tt
  words_placed (other_text t) is = is
  words_placed (parenthesis e comma) is = words_placed e is
  words_placed (struct es comma) is = entries_words es is
  words_placed (close from es inner comma) is = entries_words es is
  words_placed (list es rest comma) is = (elements_words es is.0, rest_words rest is.1)
  words_placed (conjunction es) is = elements_words es is
  words_placed (disjunction bs) is = branches_words bs is

  elements_words : (es : Elements) → HaveWords (unplaced_elements es) → HaveWords es
  elements_words no_elements are = tt
  elements_words (element e es) are = (words_placed e are.0, elements_words es are.1)

  rest_words : (rest : Rest) → HasWordsRest (unplaced_rest rest) → HasWordsRest rest
  rest_words no_rest is = tt
  rest_words any_rest is = tt
  rest_words (each_rest e) is = words_placed e is

  branch_words : (b : Branch) → HasWordsBranch (unplaced_branch b) → HasWordsBranch b
  branch_words (branch marked from e) is = words_placed e is

  branches_words : (bs : Branches) → HaveWordsBranches (unplaced_branches bs) → HaveWordsBranches bs
  branches_words no_branches are = tt
  branches_words (next_branch b bs) are = (branch_words b are.0, branches_words bs are.1)

  entry_words : (e : Entry) → HasWordsEntry (unplaced_entry e) → HasWordsEntry e
  entry_words ellipsis is = tt
  entry_words (field label chain e) is = (is.0, is.1, words_placed e is.2)
  entry_words (definition t from chain e) is = (is.0, is.1, words_placed e is.2)

  pub entries_words : (es : Entries) → HaveWordsEntries (unplaced_entries es) → HaveWordsEntries es
  entries_words no_entries are = tt
  entries_words (entry e es) are = (entry_words e are.0, entries_words es are.1)

mutual
  levels_placed : (e : Expression) → levels (unplaced e) ≡ levels e
  levels_placed (name n from) = refl
  levels_placed (integer n) = refl
  levels_placed (text t) = refl
  levels_placed bottom = refl
  levels_placed (bound c n) = refl
  levels_placed (other_integer n) = refl
  levels_placed (other_text t) = refl
  levels_placed (parenthesis e comma) = ap (λ n. 1 + n) (levels_placed e)
  levels_placed (struct es comma) = ap (λ n. 1 + n) (entries_levels es)
  levels_placed (close from es inner comma) = ap (λ n. 2 + n) (entries_levels es)
  levels_placed (list es rest comma) = ap₂ (λ m n. 1 + max m n) (elements_levels es) (rest_levels rest)
  levels_placed (conjunction es) = elements_levels es
  levels_placed (disjunction bs) = branches_levels bs

  elements_levels : (es : Elements) → levels_of_elements (unplaced_elements es) ≡ levels_of_elements es
  elements_levels no_elements = refl
  elements_levels (element e es) = ap₂ max (levels_placed e) (elements_levels es)

  rest_levels : (rest : Rest) → levels_of_rest (unplaced_rest rest) ≡ levels_of_rest rest
  rest_levels no_rest = refl
  rest_levels any_rest = refl
  rest_levels (each_rest e) = levels_placed e

  branch_levels : (b : Branch) → levels_of_branch (unplaced_branch b) ≡ levels_of_branch b
  branch_levels (branch marked from e) = levels_placed e

  branches_levels : (bs : Branches) → levels_of_branches (unplaced_branches bs) ≡ levels_of_branches bs
  branches_levels no_branches = refl
  branches_levels (next_branch b bs) = ap₂ max (branch_levels b) (branches_levels bs)

  entry_levels : (e : Entry) → levels_of_entry (unplaced_entry e) ≡ levels_of_entry e
  entry_levels ellipsis = refl
  entry_levels (field label chain e) = ap (λ n. length chain + n) (levels_placed e)
  entry_levels (definition t from chain e) = ap (λ n. length chain + n) (levels_placed e)

  pub entries_levels : (es : Entries) → levels_of_entries (unplaced_entries es) ≡ levels_of_entries es
  entries_levels no_entries = refl
  entries_levels (entry e es) = ap₂ max (entry_levels e) (entries_levels es)

-- ---- meaning
mutual
  meant_placed : (e : Expression) (ds : List Definition) (m : ℕ → Core) → meant ds m (unplaced e) ≡ meant ds m e
  meant_placed (name n from) ds m = refl
  meant_placed (integer n) ds m = refl
  meant_placed (text t) ds m = refl
  meant_placed bottom ds m = refl
  meant_placed (bound c n) ds m = refl
  meant_placed (other_integer n) ds m = refl
  meant_placed (other_text t) ds m = refl
  meant_placed (parenthesis e comma) ds m = meant_placed e ds m
  meant_placed (struct es comma) ds m = ap meant_as.struct (members_placed es ds m)
  meant_placed (close from es inner comma) ds m = ap meant_as.close (members_placed es ds m)
  meant_placed (list es rest comma) ds m = ap₂ (λ cs others. meant_as.list (meant_as.followed_by cs others)) (cores_placed es ds m) (rest_placed rest ds m)
  meant_placed (conjunction es) ds m = ap meant_as.conjunction (cores_placed es ds m)
  meant_placed (disjunction bs) ds m = ap meant_as.disjunction (choices_placed bs ds m)

  cores_placed : (es : Elements) (ds : List Definition) (m : ℕ → Core) → meant_elements ds m (unplaced_elements es) ≡ meant_elements ds m es
  cores_placed no_elements ds m = refl
  cores_placed (element e es) ds m = ap₂ meant_as.core (meant_placed e ds m) (cores_placed es ds m)

  rest_placed : (rest : Rest) (ds : List Definition) (m : ℕ → Core) → meant_rest ds m (unplaced_rest rest) ≡ meant_rest ds m rest
  rest_placed no_rest ds m = refl
  rest_placed any_rest ds m = refl
  rest_placed (each_rest e) ds m = ap meant_as.each (meant_placed e ds m)

  choices_placed : (bs : Branches) (ds : List Definition) (m : ℕ → Core) → meant_branches ds m (unplaced_branches bs) ≡ meant_branches ds m bs
  choices_placed no_branches ds m = refl
  choices_placed (next_branch (branch marked from e) bs) ds m = ap₂ (λ c cs. meant_as.choice marked c cs) (meant_placed e ds m) (choices_placed bs ds m)

  members_placed : (es : Entries) (ds : List Definition) (m : ℕ → Core) → meant_members ds m (unplaced_entries es) ≡ meant_members ds m es
  members_placed no_entries ds m = refl
  members_placed (entry ellipsis es) ds m = ap meant_as.dots (members_placed es ds m)
  members_placed (entry (field label chain e) es) ds m = ap₂ (λ c ms. meant_as.member (text_of label.name) label.mark (nest_in_labels chain c) ms) (meant_placed e ds m) (members_placed es ds m)
  members_placed (entry (definition t from chain e) es) ds m = members_placed es ds m

-- the regular declarations of a text
pub declarations_placed : (es : Entries) (ds : List Definition) (m : ℕ → Core) → meant_fields ds m (unplaced_entries es) ≡ meant_fields ds m es
declarations_placed no_entries ds m = refl
declarations_placed (entry ellipsis es) ds m = declarations_placed es ds m
declarations_placed (entry (field label chain e) es) ds m = ap₂ (λ c ms. meant_as.member (text_of label.name) label.mark (nest_in_labels chain c) ms) (meant_placed e ds m) (declarations_placed es ds m)
declarations_placed (entry (definition t from chain e) es) ds m = declarations_placed es ds m

-- ---- names, where there are no definitions
pub no_definitions_placed : (es : Entries) → definitions (unplaced_entries es) ≡ [] → definitions es ≡ []
no_definitions_placed no_entries none = refl
no_definitions_placed (entry ellipsis es) none = no_definitions_placed es none
no_definitions_placed (entry (field label chain e) es) none = no_definitions_placed es none
no_definitions_placed (entry (definition t from chain e) es) none = cc

none_left : {A : Type 0} (xs ys : List A) → xs ++ ys ≡ [] → xs ≡ []
none_left [] ys none = refl
none_left (x ∷ xs) ys none = cc

none_right : {A : Type 0} (xs ys : List A) → xs ++ ys ≡ [] → ys ≡ []
none_right [] ys none = none
none_right (x ∷ xs) ys none = cc

pub both_none : {A : Type 0} {xs ys : List A} → xs ≡ [] → ys ≡ [] → xs ++ ys ≡ []
both_none first second = ap₂ (λ xs ys. xs ++ ys) first second

-- two places see the same labels
abbrev AreSame : Scope → Scope → Type 0
AreSame a b = (t : List ℕ) → a t ≡ b t

label_placed : (t : List ℕ) (es : Entries) → has_label t (unplaced_entries es) ≡ has_label t es
label_placed t no_entries = refl
label_placed t (entry ellipsis es) = label_placed t es
label_placed t (entry (field label chain e) es) = ap (λ b. is_unquoted t label.name || b) (label_placed t es)
label_placed t (entry (definition u from chain e) es) = label_placed t es

inside_placed : (es : Entries) (a b : Scope) → AreSame a b → AreSame (scope_inside (unplaced_entries es) a) (scope_inside es b)
inside_placed es a b same t = ap₂ (λ x y. x || y) (label_placed t es) (same t)

behind_placed : (chain : List Label) (a b : Scope) → AreSame a b → AreSame (scope_behind chain a) (scope_behind chain b)
behind_placed [] a b same = same
behind_placed (label ∷ chain) a b same = behind_placed chain (λ t. is_unquoted t label.name || a t) (λ t. is_unquoted t label.name || b t) (λ t. ap (λ x. is_unquoted t label.name || x) (same t))

-- no fault stays no fault
three : (x y u v : Refusal) (a b seen c : Bool) → b ≡ seen → cond a [] (cond b (x ∷ []) (cond c [] (y ∷ []))) ≡ [] → cond a [] (cond seen (u ∷ []) (cond c [] (v ∷ []))) ≡ []
three x y u v true b seen c same none = refl
three x y u v false true seen c same none = cc
three x y u v false false true c same none = cc
three x y u v false false false true same none = refl
three x y u v false false false false same none = cc

one : (x u : Refusal) (a : Bool) → cond a [] (x ∷ []) ≡ [] → cond a [] (u ∷ []) ≡ []
one x u true none = refl
one x u false none = cc

other : (x u : Refusal) (a seen : Bool) → a ≡ seen → cond a (x ∷ []) [] ≡ [] → cond seen (u ∷ []) [] ≡ []
other x u true seen same none = cc
other x u false true same none = cc
other x u false false same none = refl

name_placed : (n : Identifier) (from : ℕ) (a b : Scope) → AreSame a b → fault_of_name [] a n 0 ≡ [] → fault_of_name [] b n from ≡ []
name_placed (identifiers.Plain t) from a b same none = three _ _ _ _ (is_literal t) (a t) (b t) (is_some (named_of t)) (same t) none
name_placed (identifiers.Definition t) from a b same none = cc
name_placed (identifiers.Hidden t) from a b same none = one _ _ (bytes_eq t (codes "_")) none

close_placed : (from : ℕ) (a b : Scope) → AreSame a b → fault_of_close a 0 ≡ [] → fault_of_close b from ≡ []
close_placed from a b same none = other _ _ (a (codes "close")) (b (codes "close")) (same (codes "close")) none

mutual
  faults_placed : (e : Expression) (a b : Scope) → AreSame a b → faults [] a (unplaced e) ≡ [] → faults [] b e ≡ []
  faults_placed (name n from) a b same none = name_placed n from a b same none
  faults_placed (integer n) a b same none = refl
  faults_placed (text t) a b same none = refl
  faults_placed bottom a b same none = refl
  faults_placed (bound c n) a b same none = refl
  faults_placed (other_integer n) a b same none = refl
  faults_placed (other_text t) a b same none = refl
  faults_placed (parenthesis e comma) a b same none = faults_placed e a b same none
  faults_placed (struct es comma) a b same none = entries_faults es (scope_inside (unplaced_entries es) a) (scope_inside es b) (inside_placed es a b same) none
  faults_placed (close from es inner comma) a b same none =
      both_none (close_placed from a b same (none_left (fault_of_close a 0) (faults_of_entries [] (scope_inside (unplaced_entries es) a) (unplaced_entries es)) none))
      (entries_faults es (scope_inside (unplaced_entries es) a) (scope_inside es b) (inside_placed es a b same) (none_right (fault_of_close a 0) (faults_of_entries [] (scope_inside (unplaced_entries es) a) (unplaced_entries es)) none))
  faults_placed (list es rest comma) a b same none =
      both_none (elements_faults es a b same (none_left (faults_of_elements [] a (unplaced_elements es)) (faults_of_rest [] a (unplaced_rest rest)) none))
      (rest_faults rest a b same (none_right (faults_of_elements [] a (unplaced_elements es)) (faults_of_rest [] a (unplaced_rest rest)) none))
  faults_placed (conjunction es) a b same none = elements_faults es a b same none
  faults_placed (disjunction bs) a b same none = branches_faults bs a b same none

  elements_faults : (es : Elements) (a b : Scope) → AreSame a b → faults_of_elements [] a (unplaced_elements es) ≡ [] → faults_of_elements [] b es ≡ []
  elements_faults no_elements a b same none = refl
  elements_faults (element e es) a b same none =
      both_none (faults_placed e a b same (none_left (faults [] a (unplaced e)) (faults_of_elements [] a (unplaced_elements es)) none))
      (elements_faults es a b same (none_right (faults [] a (unplaced e)) (faults_of_elements [] a (unplaced_elements es)) none))

  rest_faults : (rest : Rest) (a b : Scope) → AreSame a b → faults_of_rest [] a (unplaced_rest rest) ≡ [] → faults_of_rest [] b rest ≡ []
  rest_faults no_rest a b same none = refl
  rest_faults any_rest a b same none = refl
  rest_faults (each_rest e) a b same none = faults_placed e a b same none

  branches_faults : (bs : Branches) (a b : Scope) → AreSame a b → faults_of_branches [] a (unplaced_branches bs) ≡ [] → faults_of_branches [] b bs ≡ []
  branches_faults no_branches a b same none = refl
  branches_faults (next_branch (branch marked from e) bs) a b same none =
      both_none (faults_placed e a b same (none_left (faults [] a (unplaced e)) (faults_of_branches [] a (unplaced_branches bs)) none))
      (branches_faults bs a b same (none_right (faults [] a (unplaced e)) (faults_of_branches [] a (unplaced_branches bs)) none))

  pub entries_faults : (es : Entries) (a b : Scope) → AreSame a b → faults_of_entries [] a (unplaced_entries es) ≡ [] → faults_of_entries [] b es ≡ []
  entries_faults no_entries a b same none = refl
  entries_faults (entry ellipsis es) a b same none = entries_faults es a b same none
  entries_faults (entry (field label chain e) es) a b same none =
      both_none (faults_placed e (scope_behind chain a) (scope_behind chain b) (behind_placed chain a b same) (none_left (faults [] (scope_behind chain a) (unplaced e)) (faults_of_entries [] a (unplaced_entries es)) none))
      (entries_faults es a b same (none_right (faults [] (scope_behind chain a) (unplaced e)) (faults_of_entries [] a (unplaced_entries es)) none))
  entries_faults (entry (definition t from chain e) es) a b same none =
      both_none (faults_placed e (scope_behind chain a) (scope_behind chain b) (behind_placed chain a b same) (none_left (faults [] (scope_behind chain a) (unplaced e)) (faults_of_entries [] a (unplaced_entries es)) none))
      (entries_faults es a b same (none_right (faults [] (scope_behind chain a) (unplaced e)) (faults_of_entries [] a (unplaced_entries es)) none))

-- in a whole text
pub text_faults : (es : Entries) → faults_of_entries [] (scope_inside (unplaced_entries es) (λ t. false)) (unplaced_entries es) ≡ [] → faults_of_entries [] (scope_inside es (λ t. false)) es ≡ []
text_faults es none = entries_faults es (scope_inside (unplaced_entries es) (λ t. false)) (scope_inside es (λ t. false)) (inside_placed es (λ t. false) (λ t. false) (λ t. refl)) none

-- ---- terms
scalar_placed : (place from : ℕ) (a b : Bool) → a ≡ b → cond a [] (place ∷ []) ≡ [] → cond b [] (from ∷ []) ≡ []
scalar_placed place from true true same none = refl
scalar_placed place from true false same none = cc
scalar_placed place from false true same none = refl
scalar_placed place from false false same none = cc

mutual
  terms_placed : (e : Expression) (m : ℕ → Core) → terms [] m (unplaced e) ≡ [] → terms [] m e ≡ []
  terms_placed (name n from) m none = refl
  terms_placed (integer n) m none = refl
  terms_placed (text t) m none = refl
  terms_placed bottom m none = refl
  terms_placed (bound c n) m none = refl
  terms_placed (other_integer n) m none = refl
  terms_placed (other_text t) m none = refl
  terms_placed (parenthesis e comma) m none = terms_placed e m none
  terms_placed (struct es comma) m none = entries_terms es m none
  terms_placed (close from es inner comma) m none = entries_terms es m none
  terms_placed (list es rest comma) m none =
      both_none (elements_terms es m (none_left (terms_of_elements [] m (unplaced_elements es)) (terms_of_rest [] m (unplaced_rest rest)) none))
      (rest_terms rest m (none_right (terms_of_elements [] m (unplaced_elements es)) (terms_of_rest [] m (unplaced_rest rest)) none))
  terms_placed (conjunction es) m none = elements_terms es m none
  terms_placed (disjunction bs) m none = branches_terms bs m none

  elements_terms : (es : Elements) (m : ℕ → Core) → terms_of_elements [] m (unplaced_elements es) ≡ [] → terms_of_elements [] m es ≡ []
  elements_terms no_elements m none = refl
  elements_terms (element e es) m none =
      both_none (terms_placed e m (none_left (terms [] m (unplaced e)) (terms_of_elements [] m (unplaced_elements es)) none))
      (elements_terms es m (none_right (terms [] m (unplaced e)) (terms_of_elements [] m (unplaced_elements es)) none))

  rest_terms : (rest : Rest) (m : ℕ → Core) → terms_of_rest [] m (unplaced_rest rest) ≡ [] → terms_of_rest [] m rest ≡ []
  rest_terms no_rest m none = refl
  rest_terms any_rest m none = refl
  rest_terms (each_rest e) m none = terms_placed e m none

  branches_terms : (bs : Branches) (m : ℕ → Core) → terms_of_branches [] m (unplaced_branches bs) ≡ [] → terms_of_branches [] m bs ≡ []
  branches_terms no_branches m none = refl
  branches_terms (next_branch (branch marked from e) bs) m none =
      let here : List ℕ = cond (is_scalar (meant [] m (unplaced e))) [] (0 ∷ []) in
      let inner = terms [] m (unplaced e) in
      let more = terms_of_branches [] m (unplaced_branches bs) in
      let first = none_left (here ++ inner) more none in
      both_none (both_none (scalar_placed 0 from (is_scalar (meant [] m (unplaced e))) (is_scalar (meant [] m e)) (ap is_scalar (meant_placed e [] m)) (none_left here inner first)) (terms_placed e m (none_right here inner first)))
      (branches_terms bs m (none_right (here ++ inner) more none))

  pub entries_terms : (es : Entries) (m : ℕ → Core) → terms_of_entries [] m (unplaced_entries es) ≡ [] → terms_of_entries [] m es ≡ []
  entries_terms no_entries m none = refl
  entries_terms (entry ellipsis es) m none = entries_terms es m none
  entries_terms (entry (field label chain e) es) m none =
      both_none (terms_placed e m (none_left (terms [] m (unplaced e)) (terms_of_entries [] m (unplaced_entries es)) none))
      (entries_terms es m (none_right (terms [] m (unplaced e)) (terms_of_entries [] m (unplaced_entries es)) none))
  entries_terms (entry (definition t from chain e) es) m none =
      both_none (terms_placed e m (none_left (terms [] m (unplaced e)) (terms_of_entries [] m (unplaced_entries es)) none))
      (entries_terms es m (none_right (terms [] m (unplaced e)) (terms_of_entries [] m (unplaced_entries es)) none))
