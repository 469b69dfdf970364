-- Marks, white space and `_|_` at the front of a text.
use Rattle.std.proofs.Common.{◌≡◌, ℕ, ◌<◌, Bool, true, false, List, [], ◌∷◌, ◌++◌, length, nat_lt, nat_eq, append_assoc, subst, Some, refl, sym, subst₂, arith, lit<, codes, IsUtf8}
use Rattle.std.specs.List.{list_all}
use Rattle.std.proofs.lemmas.Bool.{and_parts, ltb-true}
use Rattle.std.proofs.lemmas.Str.{IsUtf8-nil, IsUtf8-append}
use Rattle.cue_lex.specs.declared.punctuation.Punctuation.{Punctuation}
use Rattle.cue_lex.specs.declared.punctuation.Punctuation.TheVariants as points
use Rattle.cue_lex.specs.declared.token.TokenKind.{TokenKind}
use Rattle.cue_lex.specs.declared.token.TokenKind.TheVariants as kinds
use Rattle.cue_lex.specs.Kinds.{is_minus, ends_line}
use Rattle.cue_lex.specs.Marks.{mark_in_front, single_mark}
use Rattle.cue_lex.specs.Characters.{is_ascii_part}
use Rattle.cue_lex.specs.Integers.{is_literal_byte}
use Rattle.cue_lex.proofs.FirstBytes.{lexeme_mark}
use Rattle.cue_lex.proofs.Bottom.{takes_bottom_before_names}
use Rattle.print_laws.specs.Kinds.{HasKinds, IsStopByte, IsKindRead}
use Rattle.print_laws.specs.Inner.Joining.{Leads}
use Rattle.print_laws.proofs.Fronts.{one_kind, after_space, ascii_byte}
use Rattle.print_laws.proofs.Joins.{read_then}

-- bytes of ASCII are text
pub ascii_text : (text : List ℕ) → list_all (λ b. nat_lt b 128) text ≡ true → IsUtf8 text
ascii_text [] all = IsUtf8-nil
ascii_text (b ∷ text) all =
    let parts = and_parts (nat_lt b 128) (list_all (λ b. nat_lt b 128) text) all in
    IsUtf8-append (b ∷ []) text (ascii_byte b (ltb-true b 128 parts.0)) (ascii_text text parts.1)

-- A mark is one token in front of any rest with which it is the longest one.
pub one_mark : {minus ended : Bool} {text rest : List ℕ} {kind : Punctuation} {more : List TokenKind} → 0 < length text → IsUtf8 text → mark_in_front (text ++ rest) ≡ Some (kind, length text)
    → HasKinds (is_minus (kinds.Mark kind)) (ends_line (kinds.Mark kind)) rest more → HasKinds minus ended (text ++ rest) (kinds.Mark kind ∷ more)
one_mark {minus} {ended} {text} {rest} {kind} {more} some utf8 is after =
    one_kind some utf8 (λ place. lexeme_mark minus place (text ++ rest) kind (length text) (IsUtf8-append text rest utf8 after.utf8) is) after

-- `_|_` is one token in front of any rest
pub bottom_read : IsKindRead (codes "_|_") (kinds.Bottom ∷ [])
bottom_read = record { reads = λ ended rest more stops after. one_kind (omega arith) (ascii_text (codes "_|_") refl) (λ place. (takes_bottom_before_names rest).taken false place) after }

-- a mark that ends no line leads
mark_leads : (text : List ℕ) (kind : Punctuation) → 0 < length text → list_all (λ b. nat_lt b 128) text ≡ true → is_minus (kinds.Mark kind) ≡ false → ends_line (kinds.Mark kind) ≡ false
    → ((rest : List ℕ) → mark_in_front (text ++ rest) ≡ Some (kind, length text)) → Leads text (kinds.Mark kind ∷ [])
mark_leads text kind some ascii no_minus no_end is = record {
  leads = λ ended rest more after.
      one_mark some (ascii_text text ascii) (is rest) (subst₂ (λ m e. HasKinds m e rest more) (sym no_minus) (sym no_end) after);
}

-- a mark that ends a line is read
mark_read : (text : List ℕ) (kind : Punctuation) → 0 < length text → list_all (λ b. nat_lt b 128) text ≡ true → is_minus (kinds.Mark kind) ≡ false → ends_line (kinds.Mark kind) ≡ true
    → ((rest : List ℕ) → mark_in_front (text ++ rest) ≡ Some (kind, length text)) → IsKindRead text (kinds.Mark kind ∷ [])
mark_read text kind some ascii no_minus end is = record {
  reads = λ ended rest more stops after.
      one_mark some (ascii_text text ascii) (is rest) (subst₂ (λ m e. HasKinds m e rest more) (sym no_minus) (sym end) after);
}

-- white space in front of what leads
spaced : {text : List ℕ} {k : List TokenKind} → Leads text k → Leads (32 ∷ text) k
spaced leads = record { leads = λ ended rest more after. after_space (leads.leads ended rest more after) }

-- white space behind a mark that leads
mark_space : (text : List ℕ) (kind : Punctuation) → 0 < length text → list_all (λ b. nat_lt b 128) text ≡ true → is_minus (kinds.Mark kind) ≡ false → ends_line (kinds.Mark kind) ≡ false
    → ((rest : List ℕ) → mark_in_front (text ++ (32 ∷ rest)) ≡ Some (kind, length text)) → Leads (text ++ codes " ") (kinds.Mark kind ∷ [])
mark_space text kind some ascii no_minus no_end is = record {
  leads = λ ended rest more after.
      subst (λ t. HasKinds false ended t (kinds.Mark kind ∷ more)) (sym (append_assoc text (codes " ") rest))
      (one_mark some (ascii_text text ascii) (is rest) (subst₂ (λ m e. HasKinds m e (32 ∷ rest) more) (sym no_minus) (sym no_end) (after_space after)));
}

-- the marks that lead
pub at_most_leads : Leads (codes "<=") (kinds.Mark points.AtMost ∷ [])
unfolding mark_in_front
at_most_leads = mark_leads (codes "<=") points.AtMost (omega arith) refl refl refl (λ rest. refl)

pub at_least_leads : Leads (codes ">=") (kinds.Mark points.AtLeast ∷ [])
unfolding mark_in_front
at_least_leads = mark_leads (codes ">=") points.AtLeast (omega arith) refl refl refl (λ rest. refl)

pub not_equal_leads : Leads (codes "!=") (kinds.Mark points.NotEqual ∷ [])
unfolding mark_in_front
not_equal_leads = mark_leads (codes "!=") points.NotEqual (omega arith) refl refl refl (λ rest. refl)

pub star_leads : Leads (codes "*") (kinds.Mark points.Star ∷ [])
unfolding mark_in_front single_mark
star_leads = mark_leads (codes "*") points.Star (omega arith) refl refl refl (λ rest. refl)

pub parenthesis_leads : Leads (codes "(") (kinds.Mark points.OpenParenthesis ∷ [])
unfolding mark_in_front single_mark
parenthesis_leads = mark_leads (codes "(") points.OpenParenthesis (omega arith) refl refl refl (λ rest. refl)

pub brace_leads : Leads (codes "{") (kinds.Mark points.OpenBrace ∷ [])
unfolding mark_in_front single_mark
brace_leads = mark_leads (codes "{") points.OpenBrace (omega arith) refl refl refl (λ rest. refl)

pub bracket_leads : Leads (codes "[") (kinds.Mark points.OpenBracket ∷ [])
unfolding mark_in_front single_mark
bracket_leads = mark_leads (codes "[") points.OpenBracket (omega arith) refl refl refl (λ rest. refl)

pub comma_leads : Leads (codes ", ") (kinds.Mark points.Comma ∷ [])
unfolding mark_in_front single_mark
comma_leads = mark_space (codes ",") points.Comma (omega arith) refl refl refl (λ rest. refl)

pub and_leads : Leads (codes " & ") (kinds.Mark points.Ampersand ∷ [])
unfolding mark_in_front single_mark
and_leads = spaced (mark_space (codes "&") points.Ampersand (omega arith) refl refl refl (λ rest. refl))

pub bar_leads : Leads (codes " | ") (kinds.Mark points.Bar ∷ [])
unfolding mark_in_front single_mark
bar_leads = spaced (mark_space (codes "|") points.Bar (omega arith) refl refl refl (λ rest. refl))

pub colon_leads : Leads (codes ": ") (kinds.Mark points.Colon ∷ [])
unfolding mark_in_front single_mark
colon_leads = mark_space (codes ":") points.Colon (omega arith) refl refl refl (λ rest. refl)

-- the marks that end a line
question_read : IsKindRead (codes "?") (kinds.Mark points.Question ∷ [])
unfolding mark_in_front single_mark
question_read = mark_read (codes "?") points.Question (omega arith) refl refl refl (λ rest. refl)

pub ellipsis_read : IsKindRead (codes "...") (kinds.Mark points.Ellipsis ∷ [])
unfolding mark_in_front
ellipsis_read = mark_read (codes "...") points.Ellipsis (omega arith) refl refl refl (λ rest. refl)

-- and in front of a text that goes on
pub ellipsis_read_on : {text : List ℕ} {k : List TokenKind} → IsKindRead text k → IsKindRead (codes "..." ++ text) (kinds.Mark points.Ellipsis ∷ k)
unfolding mark_in_front
ellipsis_read_on {text} {k} is = record {
  reads = λ ended rest more stops after. one_mark {text = codes "..."} {rest = text ++ rest} (omega arith) (ascii_text (codes "...") refl) refl (is.reads true rest more stops after);
}

pub close_parenthesis_read : IsKindRead (codes ")") (kinds.Mark points.CloseParenthesis ∷ [])
unfolding mark_in_front single_mark
close_parenthesis_read = mark_read (codes ")") points.CloseParenthesis (omega arith) refl refl refl (λ rest. refl)

pub close_brace_read : IsKindRead (codes "}") (kinds.Mark points.CloseBrace ∷ [])
unfolding mark_in_front single_mark
close_brace_read = mark_read (codes "}") points.CloseBrace (omega arith) refl refl refl (λ rest. refl)

pub close_bracket_read : IsKindRead (codes "]") (kinds.Mark points.CloseBracket ∷ [])
unfolding mark_in_front single_mark
close_bracket_read = mark_read (codes "]") points.CloseBracket (omega arith) refl refl refl (λ rest. refl)

-- what no token goes on with
stop_at : (b : ℕ) → b < 128 → is_ascii_part b ≡ false → is_literal_byte b ≡ false → nat_eq 34 b ≡ false → nat_eq 124 b ≡ false → nat_eq 35 b ≡ false → IsStopByte b
stop_at b ascii part literal quote bar number_sign = record { ascii = ascii; part = part; literal = literal; quote = quote; bar = bar; number_sign = number_sign }

pub stop_space : IsStopByte 32
stop_space = stop_at 32 (lit< tt) refl refl refl refl refl

pub stop_break : IsStopByte 10
stop_break = stop_at 10 (lit< tt) refl refl refl refl refl

pub stop_comma : IsStopByte 44
stop_comma = stop_at 44 (lit< tt) refl refl refl refl refl

pub stop_open : IsStopByte 40
stop_open = stop_at 40 (lit< tt) refl refl refl refl refl

pub stop_parenthesis : IsStopByte 41
stop_parenthesis = stop_at 41 (lit< tt) refl refl refl refl refl

pub stop_brace : IsStopByte 125
stop_brace = stop_at 125 (lit< tt) refl refl refl refl refl

pub stop_bracket : IsStopByte 93
stop_bracket = stop_at 93 (lit< tt) refl refl refl refl refl

pub stop_colon : IsStopByte 58
stop_colon = stop_at 58 (lit< tt) refl refl refl refl refl

pub stop_question : IsStopByte 63
stop_question = stop_at 63 (lit< tt) refl refl refl refl refl

pub stop_exclamation : IsStopByte 33
stop_exclamation = stop_at 33 (lit< tt) refl refl refl refl refl

-- the marks of labels, and the colon behind them
pub optional_leads : Leads (codes "?: ") (kinds.Mark points.Question ∷ kinds.Mark points.Colon ∷ [])
optional_leads = read_then (λ rest. stop_colon) question_read colon_leads

pub required_leads : Leads (codes "!: ") (kinds.Mark points.Exclamation ∷ kinds.Mark points.Colon ∷ [])
unfolding mark_in_front single_mark
required_leads = record { leads = λ ended rest more after. one_mark {text = codes "!"} {rest = codes ": " ++ rest} (omega arith) (ascii_text (codes "!") refl) refl (colon_leads.leads true rest more after) }
