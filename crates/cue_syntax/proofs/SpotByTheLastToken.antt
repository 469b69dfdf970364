-- What tokens open, and the spot after them, by the last of them.
use Rattle.std.proofs.Common.{◌≡◌, ◌∙◌, ◌<◌, ◌+◌, ℕ, List, [], ◌∷◌, ◌++◌, Option, Some, None, refl, sym, subst, ap, ◌↔◌, length, take, get_or}
use Rattle.std.proofs.lemmas.List.{take_more}
use Rattle.cue_lex.specs.declared.token.Token.{Token}
use Rattle.cue_lex.specs.declared.token.TokenKind.{TokenKind}
use Rattle.cue_lex.specs.declared.token.TokenKind.TheVariants as kinds
use Rattle.cue_lex.specs.declared.punctuation.Punctuation.TheVariants as points
use Rattle.cue_syntax.specs.declared.spot.Inside.{Inside}
use Rattle.cue_syntax.specs.declared.spot.Inside.TheVariants as insides
use Rattle.cue_syntax.specs.declared.spot.Back.{Back}
use Rattle.cue_syntax.specs.declared.spot.Position.{Position}
use Rattle.cue_syntax.specs.declared.spot.Position.TheVariants as spots
use Rattle.cue_syntax.specs.Spots.{innermost_open, open_after, spot_after, spot_from, spot_of, after_comma, after_dots, after_parenthesis}
use Rattle.cue_syntax.specs.Inner.Backwards.{open_from, open_at_symbol, IsCloseName}

-- What tokens open, by the last of them.
pub open_last : (opened : List Inside) (ts : List Token) (t : Token) → open_from opened (ts ++ t ∷ []) ≡ open_after (open_from opened ts) t.kind
open_last opened [] t = refl
open_last opened (u ∷ ts) t = open_last (open_after opened u.kind) ts t

-- The spot after tokens, by the last of them.
pub spot_last : (opened : List Inside) (spot : Position) (ts : List Token) (t : Token)
    → spot_from opened spot (ts ++ t ∷ []) ≡ spot_after (innermost_open (open_from opened ts)) (spot_from opened spot ts) t.kind
spot_last opened spot [] t = refl
spot_last opened spot (u ∷ ts) t = spot_last (open_after opened u.kind) (spot_after (innermost_open opened) spot u.kind) ts t

comma_closes_none : (inside : Option Inside) → ¬ IsCloseName (after_comma inside)
comma_closes_none None is = is
comma_closes_none (Some insides.Struct) is = is
comma_closes_none (Some insides.List) is = is
comma_closes_none (Some insides.Rest) is = is
comma_closes_none (Some insides.Parenthesis) is = is

dots_close_none : (inside : Option Inside) → ¬ IsCloseName (after_dots inside)
dots_close_none None is = is
dots_close_none (Some insides.Struct) is = is
dots_close_none (Some insides.List) is = is
dots_close_none (Some insides.Rest) is = is
dots_close_none (Some insides.Parenthesis) is = is

parenthesis_closes_none : (spot : Position) → ¬ IsCloseName (after_parenthesis spot)
parenthesis_closes_none spots.CloseName is = is
parenthesis_closes_none _ is = is

-- Only a token tells whether the name of a `close` ends there.
pub close_name_by_token : (a b : Option Inside) (s r : Position) (kind : TokenKind) → IsCloseName (spot_after a s kind) → IsCloseName (spot_after b r kind)
close_name_by_token a b s r (kinds.Mark points.Comma) is = absurd (comma_closes_none a is)
close_name_by_token a b s r (kinds.Mark points.Ellipsis) is = absurd (dots_close_none a is)
close_name_by_token a b s r (kinds.Mark points.OpenParenthesis) is = absurd (parenthesis_closes_none s is)
close_name_by_token a b s r _ is = is

-- A spot counts after a parenthesis alone, and there only by whether it is the name of a `close`.
parenthesis_same : (s r : Position) → (IsCloseName s → IsCloseName r) → (IsCloseName r → IsCloseName s) → after_parenthesis s ≡ after_parenthesis r
parenthesis_same spots.CloseName spots.CloseName there back = refl
parenthesis_same spots.CloseName _ there back = absurd (there tt)
parenthesis_same _ spots.CloseName there back = absurd (back tt)
parenthesis_same _ _ there back = refl

-- spots that agree on being the name of a `close` lead to the same spot after a token
pub spot_same : (inside : Option Inside) (s r : Position) (kind : TokenKind) → (IsCloseName s → IsCloseName r) → (IsCloseName r → IsCloseName s) → spot_after inside s kind ≡ spot_after inside r kind
spot_same inside s r (kinds.Mark points.OpenParenthesis) there back = parenthesis_same s r there back
spot_same inside s r _ there back = refl

-- What is seen after m tokens, by the last of them.
pub seen_last : (back : Back) (ts : List Token) (n m : ℕ) (d : Token) → m ≡ n + 1 → n < length ts
    → open_at_symbol back (open_from [] (take m ts)) ≡ open_at_symbol back (open_after (open_from [] (take n ts)) (get_or ts n d).kind)
seen_last back ts n m d next within =
    ap (open_at_symbol back) (ap (λ k. open_from [] (take k ts)) next ∙ ap (open_from []) (take_more ts n d within) ∙ open_last [] (take n ts) (get_or ts n d))

-- The spot after tokens, by the last of them and by what is told of those before it.
pub spot_by_last : (ts earlier : List Token) (last : Token) (own : Position) → ts ≡ earlier ++ last ∷ [] → (IsCloseName own ↔ IsCloseName (spot_of earlier))
    → spot_after (innermost_open (open_from [] earlier)) own last.kind ≡ spot_of ts
spot_by_last ts earlier last own is same =
    spot_same (innermost_open (open_from [] earlier)) own (spot_of earlier) last.kind same.0 same.1 ∙ sym (ap spot_of is ∙ spot_last [] spots.Top earlier last)

-- Whether the name of a `close` is the last of tokens.
pub close_name_last : (ts earlier : List Token) (last : Token) (inside : Option Inside) (spot : Position) → ts ≡ earlier ++ last ∷ []
    → IsCloseName (spot_after inside spot last.kind) ↔ IsCloseName (spot_of ts)
close_name_last ts earlier last inside spot is =
    let e : spot_of ts ≡ spot_after (innermost_open (open_from [] earlier)) (spot_of earlier) last.kind = ap spot_of is ∙ spot_last [] spots.Top earlier last in (
      (λ here. subst IsCloseName (sym e) (close_name_by_token inside _ spot _ last.kind here)),
      (λ there. close_name_by_token _ inside _ spot last.kind (subst IsCloseName e there)),
    )
