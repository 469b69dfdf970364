-- The names, labels and strings of a tree are words: in UTF-8 and not too long.
use Rattle.std.specs.Prelude.{⊤}
use Rattle.std.specs.List.{AllByRecursion}
use Rattle.cue_lattice.specs.Word.{IsWord}
use Rattle.cue_lex.specs.Kinds.{HasWord}
use Rattle.cue_syntax.specs.declared.tree.Label.{Label}
use Rattle.cue_syntax.specs.Spelling.{identifier_kind, label_kind}
use Rattle.cue_syntax.specs.Syntax.{Expression, name, integer, text, bottom, bound, other_integer}
use Rattle.cue_syntax.specs.Syntax.{other_text, parenthesis, struct, close, list, conjunction}
use Rattle.cue_syntax.specs.Syntax.{disjunction, Elements, no_elements, element, Rest, no_rest}
use Rattle.cue_syntax.specs.Syntax.{any_rest, each_rest, Branch, branch, Branches, no_branches}
use Rattle.cue_syntax.specs.Syntax.{next_branch, Entry, ellipsis, field, definition, Entries}
use Rattle.cue_syntax.specs.Syntax.{no_entries, entry}

-- the name or the text of a label
abbrev pub HasWordLabel : Label → Type 0
HasWordLabel label = HasWord (label_kind label.name)

abbrev mutual
  pub HasWords : Expression → Type 0
  HasWords (name n from) = HasWord (identifier_kind n)
  HasWords (integer n) = ⊤
  HasWords (text t) = IsWord t
  HasWords bottom = ⊤
  HasWords (bound c n) = ⊤
  HasWords (other_integer n) = ⊤
  HasWords (other_text t) = IsWord t
  HasWords (parenthesis e comma) = HasWords e
  HasWords (struct es comma) = HaveWordsEntries es
  HasWords (close from es inner comma) = HaveWordsEntries es
  HasWords (list es rest comma) = HaveWords es × HasWordsRest rest
  HasWords (conjunction es) = HaveWords es
  HasWords (disjunction bs) = HaveWordsBranches bs

  pub HaveWords : Elements → Type 0
  HaveWords no_elements = ⊤
  HaveWords (element e es) = HasWords e × HaveWords es

  pub HasWordsRest : Rest → Type 0
  HasWordsRest no_rest = ⊤
  HasWordsRest any_rest = ⊤
  HasWordsRest (each_rest e) = HasWords e

  pub HasWordsBranch : Branch → Type 0
  HasWordsBranch (branch marked from e) = HasWords e

  pub HaveWordsBranches : Branches → Type 0
  HaveWordsBranches no_branches = ⊤
  HaveWordsBranches (next_branch b bs) = HasWordsBranch b × HaveWordsBranches bs

  pub HasWordsEntry : Entry → Type 0
  HasWordsEntry ellipsis = ⊤
  HasWordsEntry (field label chain e) =
      HasWordLabel label × AllByRecursion HasWordLabel chain × HasWords e
  HasWordsEntry (definition t from chain e) =
      IsWord t × AllByRecursion HasWordLabel chain × HasWords e

  pub HaveWordsEntries : Entries → Type 0
  HaveWordsEntries no_entries = ⊤
  HaveWordsEntries (entry e es) = HasWordsEntry e × HaveWordsEntries es
