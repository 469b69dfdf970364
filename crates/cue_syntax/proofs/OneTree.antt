-- The reader finds each tree of the grammar, so no two of them share a spelling.
use Rattle.std.proofs.Common.{◌≡◌, ◌∙◌, ap, sym, refl, ℕ, ◌+◌, ◌≤◌, Bool, true, false, ◌&&◌, not, List, [], ◌++◌, Option, None, Some, arith, codes}
use Rattle.cue_lex.specs.declared.token.Token.{Token}
use Rattle.cue_lex.specs.declared.token.TokenKind.TheVariants as kinds
use Rattle.cue_syntax.specs.declared.tree.Identifier.{Identifier}
use Rattle.cue_syntax.specs.declared.tree.Identifier.TheVariants as identifiers
use Rattle.cue_syntax.specs.declared.tree.Package.{Package}
use Rattle.cue_syntax.specs.Spelling.{SpellsTree, one, comma_if, identifier_kind, spell_entry, spell_more_entries, spell_entries, spell_package}
use Rattle.cue_syntax.specs.Grammar.{IsRight, AreRight, IsRightRest, IsRightBranch, AreRightBranches, IsRightEntry, AreRightEntries, EndsEntries, Limit, IsFileTree}
use Rattle.cue_syntax.specs.OneTree.{NoTwoTrees}
use Rattle.cue_syntax.specs.Syntax.{FileTree, Expression, name, integer, text, bottom, bound, other_integer, other_text, parenthesis, struct, close, list, conjunction, disjunction, Elements, no_elements, element, Rest, no_rest, any_rest, each_rest, Branch, branch, Branches, no_branches, next_branch, Entry, ellipsis, field, definition, Entries, no_entries, entry}
use Rattle.cue_syntax.proofs.PartsByTheirTokens.{is_mark, is_name, is_comma, first, behind, behind_comma, identifier_at, identifier_of, is_clause}
use Rattle.cue_syntax.proofs.ReaderOfTrees.{reader, read_file, as_file, size_of_entries}
use Rattle.cue_syntax.proofs.ReadingsJoin.{reads_then}
use Rattle.cue_syntax.proofs.ReadingsCut.{cut, headed, head_first, head_behind, ends_text, comma_seen, comma_behind, entries_row}
use Rattle.cue_syntax.proofs.ReadsRows.{Knows, KnowsBranch, KnowsEntry, AreKnown, IsKnownRest, AreKnownBranches, AreKnownEntries, entries_known}
use Rattle.cue_syntax.proofs.ReadsOperands.{name_answers, integer_answers, text_answers, bottom_answers, bound_answers, other_integer_answers, other_text_answers, parenthesis_answers, struct_answers, close_answers, list_answers}
use Rattle.cue_syntax.proofs.ReadsExpressions.{operand_knows, conjunction_knows, disjunction_knows, branch_knows, ellipsis_knows, field_knows, definition_knows}

mutual
  knows : (e : Expression) → IsRight e → Knows e
  knows (name i from) right = operand_knows (name i from) (omega arith) (name_answers i from)
  knows (integer i) right = operand_knows (integer i) (omega arith) (integer_answers i)
  knows (text t) right = operand_knows (text t) (omega arith) (text_answers t)
  knows bottom right = operand_knows bottom (omega arith) bottom_answers
  knows (bound c i) right = operand_knows (bound c i) (omega arith) (bound_answers c i)
  knows (other_integer i) right = operand_knows (other_integer i) (omega arith) (other_integer_answers i)
  knows (other_text t) right = operand_knows (other_text t) (omega arith) (other_text_answers t)
  knows (parenthesis e comma) right = operand_knows (parenthesis e comma) (omega arith) (parenthesis_answers e comma (knows e right))
  knows (struct es comma) right = operand_knows (struct es comma) (omega arith) (struct_answers es comma (all_entries es right.0))
  knows (close from es inner comma) right = operand_knows (close from es inner comma) (omega arith) (close_answers from es inner comma (all_entries es right.0))
  knows (list es tail comma) right = operand_knows (list es tail comma) (omega arith) (list_answers es tail comma (all es right.0) (knows_rest tail right.1))
  knows (conjunction es) right = conjunction_knows es (all es right.0) right.1 right.2
  knows (disjunction bs) right = disjunction_knows bs (all_branches bs right.0) right.1

  all : (es : Elements) → AreRight es → AreKnown es
  all no_elements right = tt
  all (element e es) right = (knows e right.0, all es right.1)

  knows_rest : (tail : Rest) → IsRightRest tail → IsKnownRest tail
  knows_rest no_rest right = tt
  knows_rest any_rest right = tt
  knows_rest (each_rest e) right = knows e right

  knows_branch : (b : Branch) → IsRightBranch b → KnowsBranch b
  knows_branch (branch marked from e) right = branch_knows marked from e (knows e right.0) right.1

  all_branches : (bs : Branches) → AreRightBranches bs → AreKnownBranches bs
  all_branches no_branches right = tt
  all_branches (next_branch b bs) right = (knows_branch b right.0, all_branches bs right.1)

  knows_entry : (e : Entry) → IsRightEntry e → KnowsEntry e
  knows_entry ellipsis right = ellipsis_knows
  knows_entry (field l chain e) right = field_knows l chain e (knows e right)
  knows_entry (definition t from chain e) right = definition_knows t from chain e (knows e right)

  all_entries : (es : Entries) → AreRightEntries es → AreKnownEntries es
  all_entries no_entries right = tt
  all_entries (entry e es) right = (knows_entry e right.0, all_entries es right.1)

-- the declarations of a text, up to its end

-- the reader finds the declarations, and sees whether a comma stands after them
pub record TextSeen (n : ℕ) (es : Entries) (comma : Bool) (tokens : List Token) : Type 0 where
  pub rest : List Token
  pub reads : (reader n).entries tokens ≡ (es, rest)
  pub comma_is : first is_comma rest ≡ comma

text_seen : (n : ℕ) (es : Entries) (comma : Bool) (tokens : List Token) → AreKnownEntries es → size_of_entries es ≤ n
    → SpellsTree tokens (spell_entries es ++ comma_if comma) [] → TextSeen n es comma tokens
text_seen n es comma tokens known s h =
    let u = cut (spell_entries es) (comma_if comma) h in
    record {
      rest = u.middle;
      reads = entries_known es known n tokens u.middle u.left (entries_row comma u.right refl refl ends_text) s;
      comma_is = comma_seen comma u.right refl;
    }

-- they begin with no comma, and not as a package clause does
text_begins : (es : Entries) (comma : Bool) (tokens : List Token) → AreKnownEntries es → EndsEntries comma es
    → SpellsTree tokens (spell_entries es ++ comma_if comma) [] → (first is_comma tokens ≡ false) × (is_clause tokens ≡ false)
text_begins no_entries true tokens known right h = absurd right
text_begins no_entries false tokens known right h = (ap (first is_comma) h.follows, ap is_clause h.follows)
text_begins (entry e es) comma tokens known right h =
    let u = cut (spell_entry e ++ spell_more_entries es) (comma_if comma) h in
    let v = cut (spell_entry e) (spell_more_entries es) u.left in
    (known.0.no_comma tokens v.middle v.left, known.0.no_clause tokens v.middle v.left)

identifier_known : (i : Identifier) → identifier_at (identifier_kind i) ≡ i
identifier_known (identifiers.Plain t) = refl
identifier_known (identifiers.Definition t) = refl
identifier_known (identifiers.Hidden t) = refl

identifier_no_mark : (i : Identifier) → is_mark (identifier_kind i) ≡ false
identifier_no_mark (identifiers.Plain t) = refl
identifier_no_mark (identifiers.Definition t) = refl
identifier_no_mark (identifiers.Hidden t) = refl

-- a package clause
record PackageSeen (clause : Package) (tokens rest : List Token) : Type 0 where
  begins : is_clause tokens ≡ true
  its_name : identifier_of (behind tokens) ≡ clause.name
  its_comma : first is_comma (behind (behind tokens)) ≡ clause.comma
  behind_it : behind_comma (behind (behind tokens)) ≡ rest

package_seen : (clause : Package) (tokens rest : List Token) → SpellsTree tokens (spell_package (Some clause)) rest → first is_comma rest ≡ false
    → PackageSeen clause tokens rest
package_seen clause tokens rest h no_comma =
    let word = headed (kinds.Name (codes "package")) (one (identifier_kind clause.name) ++ comma_if clause.comma) h in
    let called = headed (identifier_kind clause.name) (comma_if clause.comma) word.right in
    let past_word = head_behind word.head in
    let past_name : behind (behind tokens) ≡ called.middle = ap behind past_word ∙ head_behind called.head in
    record {
      begins = ap (λ (z : Bool). z && not (first is_mark (behind tokens))) (head_first is_name word.head)
          ∙ ap not (ap (first is_mark) past_word ∙ head_first is_mark called.head ∙ identifier_no_mark clause.name);
      its_name = ap identifier_of (past_word ∙ called.head.is) ∙ ap identifier_at called.head.kind_is ∙ identifier_known clause.name;
      its_comma = ap (first is_comma) past_name ∙ comma_seen clause.comma called.right no_comma;
      behind_it = ap behind_comma past_name ∙ comma_behind clause.comma called.right no_comma;
    }

abbrev package_with : Identifier → Bool → Option Package
package_with i comma = Some (record { name = i; comma = comma })

abbrev tree_of : Option Package → Entries → Bool → FileTree
tree_of clause es comma = record { package_clause = clause; declarations = es; comma = comma }

file_known : (n : ℕ) (clause : Option Package) (es : Entries) (comma : Bool) (tokens : List Token) → AreKnownEntries es → EndsEntries comma es
    → size_of_entries es ≤ n → SpellsTree tokens (spell_package clause ++ spell_entries es ++ comma_if comma) [] → read_file (reader n) (is_clause tokens) tokens ≡ tree_of clause es comma
file_known n None es comma tokens known right s h =
    let seen = text_seen n es comma tokens known s h in
    ap (λ (z : Bool). read_file (reader n) z tokens) (text_begins es comma tokens known right h).1
    ∙ ap (as_file None) seen.reads
    ∙ ap (tree_of None es) seen.comma_is
file_known n (Some clause) es comma tokens known right s h =
    let u = cut (spell_package (Some clause) ++ spell_entries es) (comma_if comma) h in
    let v = cut (spell_package (Some clause)) (spell_entries es) u.left in
    let text = reads_then v.right u.right in
    let package_is = package_seen clause tokens v.middle v.left (text_begins es comma v.middle known right text).0 in
    let seen = text_seen n es comma v.middle known s text in
    ap (λ (z : Bool). read_file (reader n) z tokens) package_is.begins
    ∙ (λ i. as_file (package_with (package_is.its_name i) (package_is.its_comma i)) ((reader n).entries (package_is.behind_it i)))
    ∙ ap (as_file (Some clause)) seen.reads
    ∙ ap (tree_of (Some clause) es) seen.comma_is

file_read : {limit : Limit} {tokens : List Token} {file : FileTree} (n : ℕ) → IsFileTree limit tokens file → size_of_entries file.declarations ≤ n
    → read_file (reader n) (is_clause tokens) tokens ≡ file
file_read {tokens = tokens} {file = file} n is s =
    file_known n file.package_clause file.declarations file.comma tokens (all_entries file.declarations is.right) is.ends s is.reads

-- two trees of the grammar that the same tokens spell are one
pub one_tree : NoTwoTrees
one_tree limit other tokens a b first_is second_is =
    let n = size_of_entries a.declarations + size_of_entries b.declarations in
    sym (file_read n first_is (omega arith)) ∙ file_read n second_is (omega arith)
