-- What is spelled by tokens that have words has words.
use Rattle.std.proofs.Common.{ℕ, Bool, List, [], ◌∷◌, ◌++◌, flat_map, subst}
use Rattle.std.specs.List.{AllByRecursion}
use Rattle.cue_lex.specs.declared.token.Token.{Token}
use Rattle.cue_lex.specs.declared.token.TokenKind.{TokenKind}
use Rattle.cue_lex.specs.declared.token.TokenKind.TheVariants as kinds
use Rattle.cue_lex.specs.declared.punctuation.Punctuation.TheVariants as points
use Rattle.cue_lex.specs.Kinds.{HasWord}
use Rattle.cue_lex.specs.Inner.Kinds.{EachHasWord}
use Rattle.cue_syntax.specs.declared.tree.Label.{Label}
use Rattle.cue_syntax.specs.Spelling.{SpelledPiece, Follows, one, place_first, comma_if, star_if, spell, spell_label, spell_dots, spell_rest, spell_elements, spell_more_elements, spell_branch, spell_branches, spell_more_branches, spell_entry, spell_entries, spell_more_entries}
use Rattle.cue_syntax.specs.Syntax.{Expression, name, integer, text, bottom, bound, other_integer, other_text, parenthesis, struct, close, list, conjunction, disjunction, Elements, no_elements, element, Rest, no_rest, any_rest, each_rest, Branch, branch, Branches, no_branches, next_branch, Entry, ellipsis, field, definition, Entries, no_entries, entry}
use Rattle.cue_syntax.specs.Words.{HasWordLabel, HasWords, HaveWords, HasWordsRest, HasWordsBranch, HaveWordsBranches, HasWordsEntry, HaveWordsEntries}
use Rattle.cue_syntax.specs.Grammar.{AreEntries}

-- what a piece names or quotes, if it does, is a word
abbrev EachPieceHasWord : List SpelledPiece → Type 0
EachPieceHasWord = AllByRecursion (λ piece. HasWord piece.kind)

spelled_words : (tokens : List Token) (pieces : List SpelledPiece) (rest : List Token) → Follows tokens pieces rest → EachHasWord tokens → EachPieceHasWord pieces
spelled_words tokens [] rest follows words = tt
spelled_words [] (piece ∷ pieces) rest follows words = absurd follows
spelled_words (token ∷ tokens) (piece ∷ pieces) rest follows words =
    (subst HasWord follows.0 words.0, spelled_words tokens pieces rest follows.2 words.1)

front : (xs ys : List SpelledPiece) → EachPieceHasWord (xs ++ ys) → EachPieceHasWord xs
front [] ys words = tt
front (x ∷ xs) ys words = (words.0, front xs ys words.1)

back : (xs ys : List SpelledPiece) → EachPieceHasWord (xs ++ ys) → EachPieceHasWord ys
back [] ys words = words
back (x ∷ xs) ys words = back xs ys words.1

-- what stands in front of two lists
first : (xs ys zs : List SpelledPiece) → EachPieceHasWord (xs ++ ys ++ zs) → EachPieceHasWord xs
first xs ys zs words = front xs ys (front (xs ++ ys) zs words)

-- the places that a piece keeps say nothing of its word
unplaced : (from : ℕ) (xs : List SpelledPiece) → EachPieceHasWord (place_first from xs) → EachPieceHasWord xs
unplaced from [] words = tt
unplaced from (x ∷ xs) words = words

chain_words : (chain : List Label) → EachPieceHasWord (flat_map spell_label chain) → AllByRecursion HasWordLabel chain
chain_words [] words = tt
chain_words (label ∷ chain) words =
    ((front (spell_label label) (flat_map spell_label chain) words).0, chain_words chain (back (spell_label label) (flat_map spell_label chain) words))

mutual
  expression_words : (e : Expression) → EachPieceHasWord (spell e) → HasWords e
  expression_words (name n from) words = words.0
  expression_words (integer n) words = tt
  expression_words (text t) words = words.0
  expression_words bottom words = tt
  expression_words (bound c n) words = tt
  expression_words (other_integer n) words = tt
  expression_words (other_text t) words = words.1.0
  expression_words (parenthesis e comma) words = expression_words e (first (spell e) _ _ words.1)
  expression_words (struct es comma) words = entries_words es (first (spell_entries es) _ _ words.1)
  expression_words (close from es inner comma) words =
      entries_words es (first (spell_entries es) _ _ (first (spell_entries es ++ comma_if inner ++ one (kinds.Mark points.CloseBrace)) _ _ words.1.1.1))
  expression_words (list es tail comma) words =
      let inner = first (spell_elements _ es ++ spell_rest es tail) _ _ words.1 in
      (elements_words _ es (front (spell_elements _ es) _ inner), rest_words es tail (back (spell_elements _ es) _ inner))
  expression_words (conjunction es) words = elements_words _ es words
  expression_words (disjunction bs) words = branches_words bs words

  elements_words : (sign : TokenKind) (es : Elements) → EachPieceHasWord (spell_elements sign es) → HaveWords es
  elements_words sign no_elements words = tt
  elements_words sign (element e es) words = (expression_words e (front (spell e) _ words), more_elements_words sign es (back (spell e) _ words))

  more_elements_words : (sign : TokenKind) (es : Elements) → EachPieceHasWord (spell_more_elements sign es) → HaveWords es
  more_elements_words sign no_elements words = tt
  more_elements_words sign (element e es) words = (expression_words e (front (spell e) _ words.1), more_elements_words sign es (back (spell e) _ words.1))

  rest_words : (es : Elements) (tail : Rest) → EachPieceHasWord (spell_rest es tail) → HasWordsRest tail
  rest_words es no_rest words = tt
  rest_words es any_rest words = tt
  rest_words es (each_rest e) words = expression_words e (back (spell_dots es) (spell e) words)

  branch_words : (b : Branch) → EachPieceHasWord (spell_branch b) → HasWordsBranch b
  branch_words (branch marked from e) words = expression_words e (unplaced from (spell e) (back (star_if marked) _ words))

  branches_words : (bs : Branches) → EachPieceHasWord (spell_branches bs) → HaveWordsBranches bs
  branches_words no_branches words = tt
  branches_words (next_branch b bs) words = (branch_words b (front (spell_branch b) _ words), more_branches_words bs (back (spell_branch b) _ words))

  more_branches_words : (bs : Branches) → EachPieceHasWord (spell_more_branches bs) → HaveWordsBranches bs
  more_branches_words no_branches words = tt
  more_branches_words (next_branch b bs) words = (branch_words b (front (spell_branch b) _ words.1), more_branches_words bs (back (spell_branch b) _ words.1))

  entry_words : (e : Entry) → EachPieceHasWord (spell_entry e) → HasWordsEntry e
  entry_words ellipsis words = tt
  entry_words (field label chain e) words =
      let labels = spell_label label ++ flat_map spell_label chain in
      (words.0, chain_words chain (back (spell_label label) (flat_map spell_label chain) (front labels (spell e) words)), expression_words e (back labels (spell e) words))
  entry_words (definition t from chain e) words =
      (words.0, chain_words chain (front (flat_map spell_label chain) _ words.1.1), expression_words e (back (flat_map spell_label chain) _ words.1.1))

  entries_words : (es : Entries) → EachPieceHasWord (spell_entries es) → HaveWordsEntries es
  entries_words no_entries words = tt
  entries_words (entry e es) words = (entry_words e (front (spell_entry e) _ words), more_entries_words es (back (spell_entry e) _ words))

  more_entries_words : (es : Entries) → EachPieceHasWord (spell_more_entries es) → HaveWordsEntries es
  more_entries_words no_entries words = tt
  more_entries_words (entry e es) words = (entry_words e (front (spell_entry e) _ words.1), more_entries_words es (back (spell_entry e) _ words.1))

-- the declarations that tokens spell which have words have words
pub read_words : {room : ℕ} {tokens rest : List Token} {es : Entries} {comma : Bool} → EachHasWord tokens → AreEntries room tokens es comma rest → HaveWordsEntries es
read_words {tokens = tokens} {rest = rest} {es = es} words read =
    entries_words es (front (spell_entries es) _ (spelled_words tokens _ rest read.reads.follows words))
