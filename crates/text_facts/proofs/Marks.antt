-- Punctuation: the longest mark at the front of a text, and how many bytes it has.
use Rattle.std.proofs.Common.{◌≡◌, [], ◌∷◌, None, Some, Ok, refl}
use Rattle.std.specs.Prelude.{codes}
use Rattle.cue_lattice.specs.declared.refusal.Kind.TheVariants.{BadCharacter}
use Rattle.cue_lex.specs.declared.token.TokenKind.TheVariants.{Bottom}
use Rattle.cue_lex.specs.declared.punctuation.Punctuation.TheVariants.{OpenBrace, CloseBrace, OpenBracket, CloseBracket, OpenParenthesis, CloseParenthesis, Colon, Comma, Question, Exclamation, Bar, Ampersand, Star, Minus, Plus, Less, AtMost, Greater, AtLeast, NotEqual, Ellipsis}
use Rattle.cue_lex.specs.Marks.{mark_in_front}
use Rattle.cue_lex.specs.Tokens.{tokens}
use Rattle.text_facts.proofs.OnLiterals.{lexed}
use Rattle.text_facts.proofs.Spelt.{at, mark_at, digit_at, fault}

brackets : (mark_in_front (codes "{") ≡ Some (OpenBrace, 1)) × (mark_in_front (codes "}") ≡ Some (CloseBrace, 1)) × (mark_in_front (codes "[") ≡ Some (OpenBracket, 1)) × (mark_in_front (codes "]") ≡ Some (CloseBracket, 1)) × (mark_in_front (codes "(") ≡ Some (OpenParenthesis, 1)) × (mark_in_front (codes ")") ≡ Some (CloseParenthesis, 1))
unfolding lexed
brackets = (refl, refl, refl, refl, refl, refl)

marks_of_one_byte : (mark_in_front (codes ":") ≡ Some (Colon, 1)) × (mark_in_front (codes ",") ≡ Some (Comma, 1)) × (mark_in_front (codes "?") ≡ Some (Question, 1)) × (mark_in_front (codes "!") ≡ Some (Exclamation, 1)) × (mark_in_front (codes "|") ≡ Some (Bar, 1)) × (mark_in_front (codes "&") ≡ Some (Ampersand, 1)) × (mark_in_front (codes "*") ≡ Some (Star, 1)) × (mark_in_front (codes "-") ≡ Some (Minus, 1)) × (mark_in_front (codes "+") ≡ Some (Plus, 1)) × (mark_in_front (codes "<") ≡ Some (Less, 1)) × (mark_in_front (codes ">") ≡ Some (Greater, 1))
unfolding lexed
marks_of_one_byte = (refl, refl, refl, refl, refl, refl, refl, refl, refl, refl, refl)

longer_marks : (mark_in_front (codes "<=") ≡ Some (AtMost, 2)) × (mark_in_front (codes ">=1") ≡ Some (AtLeast, 2)) × (mark_in_front (codes "!=") ≡ Some (NotEqual, 2)) × (mark_in_front (codes "...") ≡ Some (Ellipsis, 3)) × (mark_in_front (codes "....") ≡ Some (Ellipsis, 3))
unfolding lexed
longer_marks = (refl, refl, refl, refl, refl)

-- white space is between, or another mark
no_longer_mark : (mark_in_front (codes "< =") ≡ Some (Less, 1)) × (mark_in_front (codes "!!=") ≡ Some (Exclamation, 1)) × (mark_in_front (codes "||") ≡ Some (Bar, 1)) × (mark_in_front (codes "<-") ≡ Some (Less, 1))
unfolding lexed
no_longer_mark = (refl, refl, refl, refl)

no_marks : (mark_in_front (codes ".") ≡ None) × (mark_in_front (codes "..") ≡ None) × (mark_in_front (codes "=") ≡ None) × (mark_in_front (codes "/") ≡ None) × (mark_in_front (codes ";") ≡ None) × (mark_in_front (codes "@") ≡ None) × (mark_in_front (codes "'") ≡ None) × (mark_in_front (codes "a") ≡ None) × (mark_in_front [] ≡ None)
unfolding lexed
no_marks = (refl, refl, refl, refl, refl, refl, refl, refl, refl)

bottom_is_the_longest_token : tokens (codes "1|_|_") ≡ Ok (digit_at 0 1 ∷ mark_at 1 Bar ∷ at 2 5 Bottom ∷ [])
unfolding lexed
bottom_is_the_longest_token = refl

-- no token is . or ==
no_token_begins_so : (tokens (codes "a.b") ≡ fault BadCharacter 1) × (tokens (codes "a: 1 == 1") ≡ fault BadCharacter 5) × (tokens (codes "a: 1 / 2") ≡ fault BadCharacter 5) × (tokens (codes "a: 'x'") ≡ fault BadCharacter 3) × (tokens (codes "a: 1 @b") ≡ fault BadCharacter 5)
unfolding lexed
no_token_begins_so = (refl, refl, refl, refl, refl)
