-- What stands at a place of a text.
use Rattle.std.specs.Prelude.{ℕ, Bool, List, Option, Some, None, Result, Ok, Err, ◌-◌, ◌==◌, ◌<◌}
use Rattle.std.specs.Prelude.{◌≤◌, ◌≢◌, ◌≡◌, ◌&&◌, ◌||◌, not, codes, drop, take, length, nat_eq}
use Rattle.std.specs.Prelude.{nat_lt, nat_le, slice_index, if◌then◌else◌}
use Rattle.std.specs.List.{starts_with, prefix_len}
use Rattle.cue_lattice.specs.declared.refusal.Kind.{Kind}
use Rattle.cue_lattice.specs.declared.refusal.Kind.TheVariants as refusals
use Rattle.cue_lattice.specs.declared.refusal.Refusal.{Refusal}
use Rattle.cue_lattice.specs.Limits.{word_limit}
use Rattle.cue_lattice.specs.Refusal.{memory, refusal_at}
use Rattle.cue_lex.specs.declared.punctuation.Punctuation.{Punctuation}
use Rattle.cue_lex.specs.declared.token.TokenKind.{TokenKind}
use Rattle.cue_lex.specs.declared.token.TokenKind.TheVariants as kinds
use Rattle.cue_lex.specs.declared.lexeme.Lexeme.{Lexeme}
use Rattle.cue_lex.specs.declared.lexeme.Lexeme.TheVariants.{Blank, LineBreak, Word}
use Rattle.cue_lex.specs.Integers.{is_literal_byte, literal_number}
use Rattle.cue_lex.specs.Marks.{mark_in_front}
use Rattle.cue_lex.specs.Names.{identifier_len}
use Rattle.cue_lex.specs.Strings.{string_text}

abbrev pub lex_refusal : {A : Type 0} → Kind → ℕ → Result A Refusal
lex_refusal kind place = Err (refusal_at kind place)

-- a number may be a token: the one above the greatest of 64 bits only after a minus
abbrev pub is_in_range : Bool → ℕ → Bool
is_in_range after_minus n =
    nat_le n 9223372036854775807 || (after_minus && (n == 9223372036854775808))

-- a number that so many bytes spell, if they spell one
abbrev pub number : Bool → ℕ → ℕ → Option ℕ → Result Lexeme Refusal
number after_minus place len None = lex_refusal refusals.BadNumber place
number after_minus place len (Some n) =
    if is_in_range after_minus n then Ok (Word (kinds.Integer n) len)
    else lex_refusal refusals.IntRange place

-- how many ASCII letters, ASCII digits, _ and . stand at the front
abbrev pub literal_len : List ℕ → ℕ
literal_len bytes = prefix_len is_literal_byte bytes

-- an integer, which a digit begins
unfoldable pub integer : Bool → ℕ → List ℕ → Result Lexeme Refusal
integer after_minus place bytes =
    number after_minus place (literal_len bytes) (literal_number (take (literal_len bytes) bytes))

-- the text of a string with its end, unless it is too long
abbrev pub within_text_limit : ℕ → Result (List ℕ × ℕ) Refusal → Result Lexeme Refusal
within_text_limit place (Err refusal) = Err refusal
within_text_limit place (Ok (text, end)) =
    if nat_le (length text) word_limit then Ok (Word (kinds.Text text) (end - place))
    else lex_refusal refusals.TextTooLong place

-- a string, which a quote begins
unfoldable pub string : ℕ → List ℕ → Result Lexeme Refusal
string place bytes = within_text_limit place (string_text place (drop 1 bytes))

-- the kind of an identifier, by its first byte: # or _
unfoldable pub name_kind : List ℕ → TokenKind
name_kind lex_name =
    if slice_index lex_name 0 == 35 then kinds.Definition lex_name
    else (if slice_index lex_name 0 == 95 then kinds.Hidden lex_name
    else kinds.Name lex_name)

-- an identifier of so many bytes
unfoldable pub lex_name : ℕ → ℕ → List ℕ → Result Lexeme Refusal
lex_name place len bytes =
    if nat_le len word_limit then Ok (Word (name_kind (take len bytes)) len)
    else lex_refusal refusals.TextTooLong place

-- punctuation, if there is some
abbrev pub punctuation : ℕ → Option (Punctuation × ℕ) → Result Lexeme Refusal
punctuation place None = lex_refusal refusals.BadCharacter place
punctuation place (Some (mark_in_front, len)) = Ok (Word (kinds.Mark mark_in_front) len)

-- white space on a line
abbrev pub is_space : ℕ → Bool
is_space b = ((b == 32) || (b == 9)) || (b == 13)

-- What stands at the front of a text that isn't empty: white space, a comment, or the longest
-- token, or the fault there.
unfoldable pub lexeme : Bool → ℕ → List ℕ → Result Lexeme Refusal
lexeme after_minus place bytes =
    if is_space (slice_index bytes 0) then Ok (Blank 1)
    else (if slice_index bytes 0 == 10 then Ok LineBreak
    else (if slice_index bytes 0 == 34 then string place bytes
    else (if nat_le 48 (slice_index bytes 0) && nat_le (slice_index bytes 0) 57
    then integer after_minus place bytes
    else (if starts_with nat_eq bytes (codes "//")
    then Ok (Blank (prefix_len (λ b. not (b == 10)) bytes))
    else (if starts_with nat_eq bytes (codes "_|_") then Ok (Word kinds.Bottom 3)
    else (if nat_lt 0 (identifier_len bytes) then lex_name place (identifier_len bytes) bytes
    else punctuation place (mark_in_front bytes)))))))

-- A result is what the definition gives, unless memory ran out.
abbrev pub LexesTo : {A : Type 0} → Result A Refusal → Result A Refusal → Type 0
LexesTo (Ok found) defined = defined ≡ Ok found
LexesTo (Err refusal) defined = refusal ≢ memory → defined ≡ Err refusal

-- how many bytes it has
abbrev pub len_of : Lexeme → ℕ
len_of (Blank len) = len
len_of LineBreak = 1
len_of (Word kind len) = len

-- there are so many bytes, at least one, and the last of them is ASCII
pub record EndsAscii (bytes : List ℕ) (len : ℕ) : Type 0 where
  pub some : 0 < len
  pub within : len ≤ length bytes
  pub ascii : slice_index bytes (len - 1) < 128
