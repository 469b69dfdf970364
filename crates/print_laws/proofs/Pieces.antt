-- Pieces of a spelling, and tokens that have their kinds.
use Rattle.std.proofs.Common.{◌≡◌, ℕ, Bool, true, false, List, [], ◌∷◌, ◌++◌, Option, None, Some, refl, ap, ◌∙◌, append_assoc, flat_map, codes}
use Rattle.std.specs.List.{AllByRecursion}
use Rattle.std.proofs.lemmas.List.{map-append}
use Rattle.cue_lex.specs.declared.token.Token.{Token}
use Rattle.cue_lex.specs.declared.token.TokenKind.{TokenKind}
use Rattle.cue_lex.specs.declared.token.TokenKind.TheVariants as kinds
use Rattle.cue_lex.specs.declared.punctuation.Punctuation.TheVariants as points
use Rattle.cue_syntax.specs.declared.tree.Label.{Label}
use Rattle.cue_syntax.specs.declared.tree.Mark.{Mark}
use Rattle.cue_syntax.specs.declared.tree.Mark.TheVariants as marks
use Rattle.cue_syntax.specs.declared.tree.Sign.{Sign}
use Rattle.cue_syntax.specs.declared.tree.Sign.TheVariants as signs
use Rattle.cue_syntax.specs.declared.tree.Signed.{Signed}
use Rattle.cue_syntax.specs.declared.tree.Package.{Package}
use Rattle.cue_syntax.specs.Syntax.{Expression, Elements, no_elements, element, Rest, no_rest, any_rest, each_rest}
use Rattle.cue_syntax.specs.Spelling.{SpelledPiece, SpellsTree, BeginsAtEach, IsTokenPlace, one, one_at, place_first, comma_if, star_if, identifier_kind, spell_sign, spell_signed, label_kind, spell_mark, spell_label, spell_dots, spell_rest, spell, spell_package}
use Rattle.cue_syntax.specs.Unplaced.{unplaced, unplaced_elements}
use Rattle.cue_syntax.proofs.ReadingsJoin.{reads_none, reads_one_at}
use Rattle.print_laws.specs.Kinds.{kinds_of_bytes}
use Rattle.print_laws.specs.Spelled.{spelled_kinds}

-- ---- pieces that keep no place
abbrev pub AreFree : List SpelledPiece → Type 0
AreFree = AllByRecursion (λ piece. piece.places ≡ [])

pub free_then : (p q : List SpelledPiece) → AreFree p → AreFree q → AreFree (p ++ q)
free_then [] q first second = second
free_then (x ∷ p) q first second = (first.0, free_then p q first.1 second)

pub free_comma : (comma : Bool) → AreFree (comma_if comma)
free_comma true = (refl, tt)
free_comma false = tt

pub free_star : (star : Bool) → AreFree (star_if star)
free_star true = (refl, tt)
free_star false = tt

pub free_sign : (sign : Sign) → AreFree (spell_sign sign)
free_sign signs.Absent = tt
free_sign signs.Minus = (refl, tt)
free_sign signs.Plus = (refl, tt)

pub free_signed : (n : Signed) → AreFree (spell_signed n)
free_signed n = free_then (spell_sign n.sign) (one (kinds.Integer n.magnitude)) (free_sign n.sign) (refl, tt)

pub free_mark : (mark : Mark) → AreFree (spell_mark mark)
free_mark marks.Regular = tt
free_mark marks.Optional = (refl, tt)
free_mark marks.Required = (refl, tt)

pub free_label : (label : Label) → AreFree (spell_label label)
free_label label =
    free_then (one (label_kind label.name) ++ spell_mark label.mark) (one (kinds.Mark points.Colon)) (free_then (one (label_kind label.name)) (spell_mark label.mark) (refl, tt) (free_mark label.mark)) (refl, tt)

pub free_chain : (chain : List Label) → AreFree (flat_map spell_label chain)
free_chain [] = tt
free_chain (label ∷ chain) = free_then (spell_label label) (flat_map spell_label chain) (free_label label) (free_chain chain)

pub free_package : (clause : Option Package) → AreFree (spell_package clause)
free_package None = tt
free_package (Some clause) = free_then (one (kinds.Name (codes "package")) ++ one (identifier_kind clause.name)) (comma_if clause.comma) (refl, (refl, tt)) (free_comma clause.comma)

pub free_dots : (es : Elements) → AreFree (spell_dots es)
free_dots no_elements = (refl, tt)
free_dots (element e es) = (refl, (refl, tt))

-- ---- tokens that have the kinds of some pieces, and then further ones
-- pieces in two parts
pub split : (p q : List SpelledPiece) (tokens : List Token) (more : List TokenKind) → kinds_of_bytes tokens ≡ spelled_kinds (p ++ q) ++ more → kinds_of_bytes tokens ≡ spelled_kinds p ++ (spelled_kinds q ++ more)
split p q tokens more are = are ∙ ap (λ ks. ks ++ more) (map-append (λ (piece : SpelledPiece). piece.kind) p q) ∙ append_assoc (spelled_kinds p) (spelled_kinds q) more

pub record IsTaken (pieces : List SpelledPiece) (tokens : List Token) (more : List TokenKind) : Type 0 where
  pub left : List Token
  pub reads : SpellsTree tokens pieces left
  pub kinds : kinds_of_bytes left ≡ more

pub stands : (token : Token) (places : List ℕ) → places ≡ [] → BeginsAtEach token places
stands token [] none = tt
stands token (place ∷ places) none = cc

-- pieces that keep no place are taken
pub taken : (pieces : List SpelledPiece) → AreFree pieces → (tokens : List Token) (more : List TokenKind) → kinds_of_bytes tokens ≡ spelled_kinds pieces ++ more → IsTaken pieces tokens more
taken [] free tokens more are = record { left = tokens; reads = reads_none; kinds = are }
taken (piece ∷ pieces) free [] more are = cc
taken (piece ∷ pieces) free (token ∷ tokens) more are =
    let kind : token.kind ≡ piece.kind = cc in
    let behind : kinds_of_bytes tokens ≡ spelled_kinds pieces ++ more = cc in
    let others = taken pieces free.1 tokens more behind in
    record { left = others.left; reads = record { follows = (kind, stands token piece.places free.0, others.reads.follows) }; kinds = others.kinds }

-- a tree with other places, whose spelling is taken
pub record IsPlaced {T : Type 0} (spelled : T → List SpelledPiece) (bare : T → T) (tree : T) (tokens : List Token) (more : List TokenKind) : Type 0 where
  pub there : T
  pub same : bare there ≡ bare tree
  pub left : List Token
  pub reads : SpellsTree tokens (spelled there) left
  pub kinds : kinds_of_bytes left ≡ more

-- a tree without places
pub fixed : (e : Expression) → AreFree (spell e) → (tokens : List Token) (more : List TokenKind) → kinds_of_bytes tokens ≡ spelled_kinds (spell e) ++ more → IsPlaced spell unplaced e tokens more
fixed e free tokens more are =
    let all = taken (spell e) free tokens more are in
    record { there = e; same = refl; left = all.left; reads = all.reads; kinds = all.kinds }

-- one token with its place
pub record IsFirst (kind : TokenKind) (tokens : List Token) (more : List TokenKind) : Type 0 where
  pub place : ℕ
  pub left : List Token
  pub reads : SpellsTree tokens (one_at place kind) left
  pub kinds : kinds_of_bytes left ≡ more

pub first_taken : (kind : TokenKind) (tokens : List Token) (more : List TokenKind) → kinds_of_bytes tokens ≡ kind ∷ more → IsFirst kind tokens more
first_taken kind [] more are = cc
first_taken kind (token ∷ tokens) more are =
    let is : token.kind ≡ kind = cc in
    let behind : kinds_of_bytes tokens ≡ more = cc in
    record { place = token.from; left = tokens; reads = reads_one_at token refl is; kinds = behind }

-- the place of the first token
pub place_of : (tokens : List Token) → (place : ℕ) × IsTokenPlace tokens place
place_of [] = (0, tt)
place_of (token ∷ tokens) = (token.from, refl)

-- the first place changes no kind
pub placed_kinds : (from : ℕ) (p : List SpelledPiece) → spelled_kinds (place_first from p) ≡ spelled_kinds p
placed_kinds from [] = refl
placed_kinds from (x ∷ p) = refl

-- `...` stands behind the same elements
pub same_dots : (es ds : Elements) → unplaced_elements es ≡ unplaced_elements ds → spell_dots es ≡ spell_dots ds
same_dots no_elements no_elements same = refl
same_dots no_elements (element d ds) same = cc
same_dots (element e es) no_elements same = cc
same_dots (element e es) (element d ds) same = refl

pub same_rest : (es ds : Elements) (tail : Rest) → unplaced_elements es ≡ unplaced_elements ds → spell_rest es tail ≡ spell_rest ds tail
same_rest es ds no_rest same = refl
same_rest es ds any_rest same = same_dots es ds same
same_rest es ds (each_rest e) same = ap (λ dots. dots ++ spell e) (same_dots es ds same)
