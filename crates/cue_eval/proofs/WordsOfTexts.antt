-- What a text whose names, labels and strings are words means, writes words.
use Rattle.std.proofs.Common.{ℕ, zero, suc, Bool, true, false, cond, List, [], ◌∷◌, ◌++◌, length, Option, Some, None, sym, subst}
use Rattle.std.specs.Prelude.{slice_get, codes}
use Rattle.std.specs.List.{AllByRecursion}
use Rattle.std.specs.Option.{option_map_or}
use Rattle.std.specs.Str.{bytes_eq}
use Rattle.cue_lattice.specs.Word as lattice
use Rattle.cue_row.specs.ValidRow.{IsWord, AreWords}
use Rattle.cue_syntax.specs.declared.tree.Identifier.{Identifier}
use Rattle.cue_syntax.specs.declared.tree.Identifier.TheVariants as identifiers
use Rattle.cue_syntax.specs.declared.tree.Label.{Label}
use Rattle.cue_syntax.specs.declared.tree.LabelName.{LabelName}
use Rattle.cue_syntax.specs.declared.tree.Mark.{Mark}
use Rattle.cue_syntax.specs.declared.tree.LabelName.TheVariants as names
use Rattle.cue_syntax.specs.Syntax as tree
use Rattle.cue_syntax.specs.Syntax.{Expression, Elements, no_elements, element, branch, Branches, no_branches, next_branch, ellipsis, field, definition, Entries, no_entries, entry}
use Rattle.cue_syntax.specs.Words.{HasWordLabel, HasWords, HaveWords, HasWordsRest, HaveWordsBranches, HaveWordsEntries}
use Rattle.cue_scope.specs.Core.{Core, null, truth, named, bottom, top}
use Rattle.cue_scope.specs.Definitions.{Definition, definitions, number_of_name}
use Rattle.cue_scope.specs.Meaning.{text_of, nest_in_labels, meant_name, meant, meant_elements, meant_rest, meant_branches, meant_members, meant_use, meaning_within, meaning_of_number, meant_fields}
use Rattle.cue_scope.specs.Named.{named_of}
use Rattle.cue_scope.specs.declared.named.Named.{Named}
use Rattle.cue_eval.specs.Words.{words, words_of_cores, words_of_elements, words_of_choices, words_of_members, WritesWords}
use Rattle.cue_eval.specs.Validity.{TextsWriteWords}
use Rattle.cue_eval.proofs.Rests.{words_followed}

word : (t : List ℕ) → lattice.IsWord t → IsWord t
word t h = record { utf8 = h.utf8; short = h.short }

both_words : (xs ys : List (List ℕ)) → AreWords xs → AreWords ys → AreWords (xs ++ ys)
both_words [] ys h k = k
both_words (x ∷ xs) ys h k = (h.0, both_words xs ys h.1 k)

name_word : (name : LabelName) (mark : Mark) → HasWordLabel (record { name = name; mark = mark }) → IsWord (text_of name)
name_word (names.Plain t) mark h = word t h
name_word (names.Quoted t) mark h = word t h

nested_words : (chain : List Label) (c : Core) → AllByRecursion HasWordLabel chain → WritesWords c → WritesWords (nest_in_labels chain c)
nested_words [] c h w = w
nested_words (l ∷ ls) c h w = (name_word l.name l.mark h.0, both_words (words (nest_in_labels ls c)) [] (nested_words ls c h.1 w) tt)

if_words : (b : Bool) (c d : Core) → WritesWords c → WritesWords d → WritesWords (cond b c d)
if_words true c d v w = v
if_words false c d v w = w

named_words : (o : Option Named) → WritesWords (option_map_or named o bottom)
named_words None = tt
named_words (Some name) = tt

used_words : (f : ℕ → Core) (o : Option ℕ) → ((i : ℕ) → WritesWords (f i)) → WritesWords (option_map_or f o bottom)
used_words f None h = tt
used_words f (Some i) h = h i

name_words : (ds : List Definition) (f : ℕ → Core) (n : Identifier) → ((i : ℕ) → WritesWords (f i)) → WritesWords (meant_name ds f n)
name_words ds f (identifiers.Plain t) h =
    if_words (bytes_eq t (codes "true")) (truth true) _ tt
    (if_words (bytes_eq t (codes "false")) (truth false) _ tt
    (if_words (bytes_eq t (codes "null")) null (option_map_or named (named_of t) bottom) tt (named_words (named_of t))))
name_words ds f (identifiers.Definition t) h = used_words f (number_of_name t ds) h
name_words ds f (identifiers.Hidden t) h = if_words (bytes_eq t (codes "_")) top bottom tt tt

-- where definitions mean what writes words
mutual
  meant_words : (ds : List Definition) (f : ℕ → Core) (e : Expression) → ((i : ℕ) → WritesWords (f i)) → HasWords e → WritesWords (meant ds f e)
  meant_words ds f (tree.name n place) h w = name_words ds f n h
  meant_words ds f (tree.integer n) h w = tt
  meant_words ds f (tree.text t) h w = (word t w, tt)
  meant_words ds f tree.bottom h w = tt
  meant_words ds f (tree.bound c n) h w = tt
  meant_words ds f (tree.other_integer n) h w = tt
  meant_words ds f (tree.other_text t) h w = (word t w, tt)
  meant_words ds f (tree.parenthesis e comma) h w = meant_words ds f e h w
  meant_words ds f (tree.struct es comma) h w = member_words ds f es h w
  meant_words ds f (tree.close place es inner comma) h w = member_words ds f es h w
  meant_words ds f (tree.list es rest comma) h w =
      subst AreWords (sym (words_followed (meant_elements ds f es) (meant_rest ds f rest)))
      (both_words (words_of_cores (meant_elements ds f es)) (words_of_elements (meant_rest ds f rest)) (element_words ds f es h w.0) (rest_words ds f rest h w.1))
  meant_words ds f (tree.conjunction es) h w = element_words ds f es h w
  meant_words ds f (tree.disjunction bs) h w = branch_words ds f bs h w

  element_words : (ds : List Definition) (f : ℕ → Core) (es : Elements) → ((i : ℕ) → WritesWords (f i)) → HaveWords es → AreWords (words_of_cores (meant_elements ds f es))
  element_words ds f no_elements h w = tt
  element_words ds f (element e es) h w =
      both_words (words (meant ds f e)) (words_of_cores (meant_elements ds f es)) (meant_words ds f e h w.0) (element_words ds f es h w.1)

  rest_words : (ds : List Definition) (f : ℕ → Core) (rest : tree.Rest) → ((i : ℕ) → WritesWords (f i)) → HasWordsRest rest → AreWords (words_of_elements (meant_rest ds f rest))
  rest_words ds f tree.no_rest h w = tt
  rest_words ds f tree.any_rest h w = tt
  rest_words ds f (tree.each_rest e) h w = meant_words ds f e h w

  branch_words : (ds : List Definition) (f : ℕ → Core) (bs : Branches) → ((i : ℕ) → WritesWords (f i)) → HaveWordsBranches bs → AreWords (words_of_choices (meant_branches ds f bs))
  branch_words ds f no_branches h w = tt
  branch_words ds f (next_branch (branch marked place e) bs) h w =
      both_words (words (meant ds f e)) (words_of_choices (meant_branches ds f bs)) (meant_words ds f e h w.0) (branch_words ds f bs h w.1)

  member_words : (ds : List Definition) (f : ℕ → Core) (es : Entries) → ((i : ℕ) → WritesWords (f i)) → HaveWordsEntries es → AreWords (words_of_members (meant_members ds f es))
  member_words ds f no_entries h w = tt
  member_words ds f (entry ellipsis es) h w = member_words ds f es h w.1
  member_words ds f (entry (field l chain e) es) h w = (
    name_word l.name l.mark w.0.0,
    both_words (words (nest_in_labels chain (meant ds f e))) (words_of_members (meant_members ds f es))
        (nested_words chain (meant ds f e) w.0.1 (meant_words ds f e h w.0.2)) (member_words ds f es h w.1),
  )
  member_words ds f (entry (definition t place chain e) es) h w = member_words ds f es h w.1

-- the labels and strings of a definition are words
abbrev IsWordDefinition : Definition → Type 0
IsWordDefinition d = AllByRecursion HasWordLabel d.chain × HasWords d.value

definition_words : (es : Entries) → HaveWordsEntries es → AllByRecursion IsWordDefinition (definitions es)
definition_words no_entries w = tt
definition_words (entry ellipsis es) w = definition_words es w.1
definition_words (entry (field l chain e) es) w = definition_words es w.1
definition_words (entry (definition t place chain e) es) w = ((w.0.1, w.0.2), definition_words es w.1)

use_words : (ds : List Definition) (f : ℕ → Core) (xs : List Definition) (i : ℕ) → ((j : ℕ) → WritesWords (f j)) → AllByRecursion IsWordDefinition xs → WritesWords (meant_use ds f (slice_get xs i))
use_words ds f [] i h w = tt
use_words ds f (d ∷ xs) zero h w = nested_words d.chain (meant ds f d.value) w.0.0 (meant_words ds f d.value h w.0.1)
use_words ds f (d ∷ xs) (suc i) h w = use_words ds f xs i h w.1

words_within : (steps : ℕ) (ds : List Definition) (i : ℕ) → AllByRecursion IsWordDefinition ds → WritesWords (meaning_within steps ds i)
unfolding meaning_within
words_within zero ds i w = tt
words_within (suc steps) ds i w = use_words ds (meaning_within steps ds) ds i (λ j. words_within steps ds j w) w

field_words : (ds : List Definition) (f : ℕ → Core) (es : Entries) → ((i : ℕ) → WritesWords (f i)) → HaveWordsEntries es → AreWords (words_of_members (meant_fields ds f es))
field_words ds f no_entries h w = tt
field_words ds f (entry (field l chain e) es) h w = (
  name_word l.name l.mark w.0.0,
  both_words (words (nest_in_labels chain (meant ds f e))) (words_of_members (meant_fields ds f es))
      (nested_words chain (meant ds f e) w.0.1 (meant_words ds f e h w.0.2)) (field_words ds f es h w.1),
)
field_words ds f (entry ellipsis es) h w = field_words ds f es h w.1
field_words ds f (entry (definition t place chain e) es) h w = field_words ds f es h w.1

pub texts_write_words : TextsWriteWords
texts_write_words es w = field_words (definitions es) (meaning_of_number (definitions es)) es (λ i. words_within (length (definitions es)) (definitions es) i (definition_words es w)) w
