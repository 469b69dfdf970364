-- The tree that a table is printed as is accepted, wherever its tokens stand.
use Rattle.std.proofs.Common.{◌≡◌, ◌⊎◌, inl, inr, ◌≤◌, false, List, [], None, refl, ap, sym, subst, subst₂, ◌∙◌, ⊎_elim}
use Rattle.std.proofs.lemmas.Bool.{cases_lt}
use Rattle.cue_lattice.specs.Limits.{level_limit, size_limit, step_limit}
use Rattle.cue_lex.specs.declared.token.Token.{Token}
use Rattle.cue_syntax.specs.Syntax.{FileTree, Entries}
use Rattle.cue_syntax.specs.Spelling.{SpellsTree, spell_file}
use Rattle.cue_syntax.specs.Grammar.{AreRightEntries, EndsEntries, IsRightPackage, IsFragment, levels_of_entries, unlimited, IsFileTree}
use Rattle.cue_syntax.specs.Unplaced.{unplaced_entries, unplaced_file}
use Rattle.cue_syntax.specs.Words.{HaveWordsEntries}
use Rattle.cue_scope.specs.Definitions.{definitions, repeated_names}
use Rattle.cue_scope.specs.Graph.{IsAcyclic}
use Rattle.cue_scope.specs.Limits.{size, depth}
use Rattle.cue_scope.specs.Meaning.{meaning_of_number, meant_text}
use Rattle.cue_scope.specs.Names.{scope_inside, faults_of_entries}
use Rattle.cue_scope.specs.Refusing.{HasScalarTerms, IsLegalTree}
use Rattle.cue_scope.specs.Terms.{terms_of_entries}
use Rattle.cue_scope.specs.Uses.{graph}
use Rattle.cue_print.specs.Expressions.{Fields}
use Rattle.print_laws.specs.Accepted.{IsAccepted, IsTreeOverLimit, IsAcceptedAgain}
use Rattle.print_laws.specs.Inner.Printable.{ArePrintableFields}
use Rattle.print_laws.specs.PrintedTree.{field_trees, has_some, printed_file_tree}
use Rattle.print_laws.proofs.Legal.{no_definitions, open_inside, fields_named, none_reached, fields_terms}
use Rattle.print_laws.proofs.Places.{ends_placed, entries_right, entries_words, no_definitions_placed, text_faults, entries_terms}
use Rattle.print_laws.proofs.Valid.{valid_printable}
use Rattle.print_laws.proofs.WellFormed.{fields_well, ends_well}

-- what the tree is, but for its places
record IsOf (tree : FileTree) (fields : Fields) : Type 0 where
  pub clause : tree.package_clause ≡ None
  pub entries : unplaced_entries tree.declarations ≡ field_trees fields
  pub comma : tree.comma ≡ has_some fields

is_of : (tree : FileTree) (fields : Fields) → unplaced_file tree ≡ printed_file_tree fields → IsOf tree fields
unfolding printed_file_tree
is_of tree fields same = record { clause = ap (λ f. f.package_clause) same; entries = ap (λ f. f.declarations) same; comma = ap (λ f. f.comma) same }

-- its form is one of the grammar
record IsRight (tree : FileTree) : Type 0 where
  pub clause : IsRightPackage tree.package_clause tree.declarations
  pub right : AreRightEntries tree.declarations
  pub ends : EndsEntries tree.comma tree.declarations

is_right : (tree : FileTree) (fields : Fields) → IsOf tree fields → ArePrintableFields fields → IsRight tree
is_right tree fields is are = record {
  clause = subst (λ clause. IsRightPackage clause tree.declarations) (sym is.clause) tt;
  right = entries_right tree.declarations (subst AreRightEntries (sym is.entries) (fields_well fields are).right);
  ends = ends_placed tree.comma tree.declarations (subst₂ EndsEntries (sym is.comma) (sym is.entries) (ends_well fields));
}

-- what spells it is a file of the grammar, whatever levels it opens
pub spelled_file : (tree : FileTree) (fields : Fields) → unplaced_file tree ≡ printed_file_tree fields → ArePrintableFields fields → (found : List Token) → SpellsTree found (spell_file tree) [] → IsFileTree unlimited found tree
spelled_file tree fields same are found reads =
    let form = is_right tree fields (is_of tree fields same) are in
    record { reads = reads; clause = form.clause; right = form.right; ends = form.ends; levels = tt }

fragment : (tree : FileTree) (fields : Fields) → IsOf tree fields → ArePrintableFields fields → levels_of_entries tree.declarations ≤ level_limit → IsFragment tree.package_clause tree.declarations tree.comma
fragment tree fields is are few =
    let form = is_right tree fields is are in
    record {
      package_clause = form.clause;
      right = form.right;
      ends = form.ends;
      levels = few;
      words = entries_words tree.declarations (subst HaveWordsEntries (sym is.entries) (fields_well fields are).words);
    }

passes : (es : Entries) (fields : Fields) → unplaced_entries es ≡ field_trees fields → HasScalarTerms es
passes es fields same =
    let none : definitions es ≡ [] = no_definitions_placed es (ap definitions same ∙ no_definitions fields) in
    record {
      ordered = record {
        named = record {
          unrepeated = ap repeated_names none;
          names = ap (λ ds. faults_of_entries ds (scope_inside es (λ t. false)) es) none
              ∙ text_faults es (ap (λ xs. faults_of_entries [] (scope_inside xs (λ t. false)) xs) same ∙ fields_named fields (scope_inside (field_trees fields) (λ t. false)) (open_inside fields (λ t. false) (λ t. refl)));
        };
        acyclic = subst (λ ds. IsAcyclic (graph ds)) (sym none) (λ i reached. none_reached [] i refl reached);
      };
      terms = ap (λ ds. terms_of_entries ds (meaning_of_number (definitions es)) es) none
          ∙ entries_terms es (meaning_of_number (definitions es)) (ap (terms_of_entries [] (meaning_of_number (definitions es))) same ∙ fields_terms fields (meaning_of_number (definitions es)));
    }

legal : (tree : FileTree) (fields : Fields) → IsOf tree fields → size (meant_text tree.declarations) ≤ size_limit → depth (meant_text tree.declarations) ≤ step_limit → IsLegalTree tree.declarations
legal tree fields is small shallow = record { small = record { scalar = passes tree.declarations fields is.entries; size = small }; depth = shallow }

tree_accepted : (tree : FileTree) (fields : Fields) → IsOf tree fields → ArePrintableFields fields → IsAccepted tree ⊎ IsTreeOverLimit tree
tree_accepted tree fields is are =
    ⊎_elim
    (λ many. inr (inl many))
    (λ few. ⊎_elim
    (λ large. inr (inr (inl large)))
    (λ small. ⊎_elim
    (λ deep. inr (inr (inr deep)))
    (λ shallow. inl (record { fragment = fragment tree fields is are few; legal = legal tree fields is small shallow }))
    (cases_lt step_limit (depth (meant_text tree.declarations))))
    (cases_lt size_limit (size (meant_text tree.declarations))))
    (cases_lt level_limit (levels_of_entries tree.declarations))

-- The tree that a valid table is printed as is accepted, or it is over a limit.
pub accepted_again : IsAcceptedAgain
accepted_again table fields valid is tree same = tree_accepted tree fields (is_of tree fields same) (valid_printable table fields valid is)
