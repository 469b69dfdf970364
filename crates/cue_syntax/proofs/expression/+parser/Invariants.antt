-- The room falls at each level that opens. Within one level the functions call each other in a fixed order.
use Rattle.std.proofs.Common.{◌≡◌, ◌⊎◌, ℕ, ◌+◌, ◌*◌, ◌≤◌, false, [], ◌∷◌, length}
use Rattle.cue_syntax.specs.Grammar.{AreEntries, AreNested}
use Rattle.cue_syntax.specs.Inner.Grammar.{AreElementTokens}
use Rattle.cue_syntax.specs.Syntax.{elements_of_list, entries}
use Rattle.cue_syntax.specs.Begun.{MayBeginEntry}
use Rattle.cue_syntax.specs.Recogniser as goals
use Rattle.cue_syntax.specs.Recogniser.{MovesStack, FollowsMark, IsOperandHere, levels_of, expression, term, more_terms, unary, more_parts}
use Rattle.cue_syntax.proofs.PartsMakeTrees.{AreTerms, AreParts, Between}
use Rattle.cue_syntax.proofs.expression.+parser.Given as goal

abbrev rank : ℕ → ℕ → ℕ
rank room place = 16 * room + place

abbrev pub decreases-braces : goal.decreases-braces
decreases-braces l = rank l.room 13

abbrev pub decreases-declarations : goal.decreases-declarations
decreases-declarations l = rank l.room 12

abbrev pub decreases-declaration : goal.decreases-declaration
decreases-declaration l = rank l.room 11

abbrev pub decreases-list : goal.decreases-list
decreases-list l = rank l.room 0

abbrev pub decreases-list_rest : goal.decreases-list_rest
decreases-list_rest l = rank l.room 10

abbrev pub decreases-elements : goal.decreases-elements
decreases-elements l = rank l.room 10

abbrev pub decreases-definition : goal.decreases-definition
decreases-definition l = rank l.room 10

abbrev pub decreases-field : goal.decreases-field
decreases-field l = rank l.room 10

abbrev pub decreases-parenthesis : goal.decreases-parenthesis
decreases-parenthesis l = rank l.room 0

abbrev pub decreases-expression : goal.decreases-expression
decreases-expression l = rank l.room 9

abbrev pub decreases-compound : goal.decreases-compound
decreases-compound l = rank l.room 8

abbrev pub decreases-after_operand : goal.decreases-after_operand
decreases-after_operand l = rank l.room 7

abbrev pub decreases-disjunction : goal.decreases-disjunction
decreases-disjunction l = rank l.room 6

abbrev pub decreases-term : goal.decreases-term
decreases-term l = rank l.room 5

abbrev pub decreases-conjunction : goal.decreases-conjunction
decreases-conjunction l = rank l.room 4

abbrev pub decreases-parts : goal.decreases-parts
decreases-parts l = rank l.room 3

abbrev pub decreases-unary : goal.decreases-unary
decreases-unary l = rank l.room 2

abbrev pub decreases-close : goal.decreases-close
decreases-close l = rank l.room 1

abbrev pub invariant-disjunction-terms : goal.invariant-disjunction-terms
invariant-disjunction-terms l = record {
  shorter : length l.after.rest.now ≤ length l.cursor.rest.now;
  terms : AreTerms l.room l.cursor.rest.now l.terms.items l.after.rest.now;
  end : l.after.end ≡ l.cursor.end;
  moves : MovesStack l.room (expression ∷ []) l.cursor.rest.now (term ∷ more_terms ∷ []) l.after.rest.now;
  follows : FollowsMark l.cursor.rest.now l.after.rest.now;
}

abbrev pub decreases-disjunction-terms : goal.decreases-disjunction-terms
decreases-disjunction-terms l = length l.after.rest.now

abbrev pub invariant-parts-parts : goal.invariant-parts-parts
invariant-parts-parts l = record {
  shorter : length l.after.rest.now ≤ length l.cursor.rest.now;
  parts : AreParts l.room l.cursor.rest.now l.parts.items l.after.rest.now;
  end : l.after.end ≡ l.cursor.end;
  moves : MovesStack l.room (unary ∷ more_parts ∷ []) l.cursor.rest.now (unary ∷ more_parts ∷ []) l.after.rest.now;
  follows : FollowsMark l.cursor.rest.now l.after.rest.now;
}

abbrev pub decreases-parts-parts : goal.decreases-parts-parts
decreases-parts-parts l = length l.after.rest.now

abbrev pub invariant-elements-elements : goal.invariant-elements-elements
invariant-elements-elements l = record {
  shorter : length l.rest.rest.now ≤ length l.cursor.rest.now;
  row : AreElementTokens l.room l.cursor.rest.now (elements_of_list l.items.items) l.comma l.rest.rest.now;
  between : Between l.comma l.items.items;
  end : l.rest.end ≡ l.cursor.end;
  moves : MovesStack (1 + l.room) (goals.elements ∷ []) l.cursor.rest.now (goals.elements ∷ []) l.rest.rest.now;
  leads : IsOperandHere (goals.elements ∷ []) l.cursor.rest.now l.rest.rest.now;
}

abbrev pub decreases-elements-elements : goal.decreases-elements-elements
decreases-elements-elements l = length l.rest.rest.now

abbrev pub invariant-declarations-declarations : goal.invariant-declarations-declarations
invariant-declarations-declarations l = record {
  shorter : length l.rest.rest.now ≤ length l.cursor.rest.now;
  row : AreEntries l.room l.cursor.rest.now (entries l.items.items) l.comma l.rest.rest.now;
  between : Between l.comma l.items.items;
  nested : l.top ≡ false → AreNested (entries l.items.items);
  end : l.rest.end ≡ l.cursor.end;
  moves : MovesStack (levels_of (goals.entries l.top) + l.room) (goals.entries l.top ∷ []) l.cursor.rest.now (goals.entries l.top ∷ []) l.rest.rest.now;
  begins : (l.rest.rest.now ≡ l.cursor.rest.now) ⊎ MayBeginEntry l.cursor.rest.now;
}

abbrev pub decreases-declarations-declarations : goal.decreases-declarations-declarations
decreases-declarations-declarations l = length l.rest.rest.now

abbrev pub decreases-structure : goal.decreases-structure
decreases-structure l = rank l.room 1
