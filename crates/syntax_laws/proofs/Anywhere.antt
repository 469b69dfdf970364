-- Tokens of the kinds that a tree is spelled with spell that tree with other places.
use Rattle.std.proofs.Common.{◌≡◌, ◌∙◌, ◌↔◌, ap, subst, sym, refl, ℕ, Bool, true, false, List, [], ◌∷◌, ◌++◌, flat_map, codes, Option, Some, None}
use Rattle.std.specs.Prelude.{⊤}
use Rattle.cue_lex.specs.declared.token.Token.{Token}
use Rattle.cue_lex.specs.declared.token.TokenKind.{TokenKind}
use Rattle.cue_lex.specs.declared.token.TokenKind.TheVariants as kinds
use Rattle.cue_lex.specs.declared.punctuation.Punctuation.{Punctuation}
use Rattle.cue_lex.specs.declared.punctuation.Punctuation.TheVariants as points
use Rattle.cue_syntax.specs.declared.tree.Label.{Label}
use Rattle.cue_syntax.specs.declared.tree.Mark.{Mark}
use Rattle.cue_syntax.specs.declared.tree.Mark.TheVariants as marks
use Rattle.cue_syntax.specs.declared.tree.Package.{Package}
use Rattle.cue_syntax.specs.declared.tree.Sign.{Sign}
use Rattle.cue_syntax.specs.declared.tree.Sign.TheVariants as signs
use Rattle.cue_syntax.specs.declared.tree.Signed.{Signed}
use Rattle.cue_syntax.specs.Syntax.{Expression, name, integer, text, bottom, bound, other_integer, other_text, parenthesis, struct, close, list, conjunction, disjunction, Elements, no_elements, element, Branch, branch, Branches, no_branches, next_branch, Entry, ellipsis, field, definition, Entries, no_entries, entry, Rest, no_rest, any_rest, each_rest}
use Rattle.cue_syntax.specs.Spelling.{SpelledPiece, SpellsTree, Follows, BeginsAtEach, IsTokenPlace, one, one_at, place_first, comma_if, star_if, identifier_kind, spell_sign, spell_signed, spell_mark, spell_label, spell_dots, spell_rest, spell, spell_elements, spell_more_elements, spell_branch, spell_branches, spell_more_branches, spell_entry, spell_entries, spell_more_entries, spell_package, spell_file}
use Rattle.cue_syntax.specs.Grammar.{Limit, Within, IsRightPackage, AreRightEntries, EndsEntries, levels_of_entries}
use Rattle.cue_syntax.specs.Unplaced.{unplaced, unplaced_elements, unplaced_rest, unplaced_branch, unplaced_branches, unplaced_entry, unplaced_entries}
use Rattle.cue_syntax.proofs.ReadingsJoin.{reads_then, reads_placed}
use Rattle.syntax_laws.specs.Places.{kinds_of, IsSpelledAnywhere}
use Rattle.syntax_laws.proofs.Unplaced.{right_entries_same, levels_entries_same, package_same, comma_same}

-- the tokens are of the kinds of these pieces, and then comes the rest
abbrev Like : List Token → List SpelledPiece → List Token → Type 0
Like tokens [] rest = tokens ≡ rest
Like [] (piece ∷ pieces) rest = ⊥
Like (token ∷ tokens) (piece ∷ pieces) rest = (token.kind ≡ piece.kind) × Like tokens pieces rest

record ReadsLike (a : List Token) (p : List SpelledPiece) (b : List Token) : Type 0 where
  pub like : Like a p b

-- a reading of two rows of pieces, cut between them
record Cut (a : List Token) (p q : List SpelledPiece) (b : List Token) : Type 0 where
  pub middle : List Token
  pub left : ReadsLike a p middle
  pub right : ReadsLike middle q b

cut : {a b : List Token} (p q : List SpelledPiece) → ReadsLike a (p ++ q) b → Cut a p q b
cut {a = a} [] q l = record { middle = a; left = record { like = refl }; right = l }
cut {a = []} (x ∷ p) q l = absurd l.like
cut {a = t ∷ a} (x ∷ p) q l =
    let rest = cut p q (record { like = l.like.1 }) in
    record { middle = rest.middle; left = record { like = (l.like.0, rest.left.like) }; right = rest.right }

-- pieces that keep no places
abbrev Plain : List SpelledPiece → Type 0
Plain [] = ⊤
Plain (piece ∷ pieces) = (piece.places ≡ []) × Plain pieces

plain_then : (p q : List SpelledPiece) → Plain p → Plain q → Plain (p ++ q)
plain_then [] q first second = second
plain_then (x ∷ p) q first second = (first.0, plain_then p q first.1 second)

plain_follows : (a : List Token) (p : List SpelledPiece) (b : List Token) → Plain p → Like a p b → Follows a p b
plain_follows a [] b known l = l
plain_follows [] (x ∷ p) b known l = absurd l
plain_follows (t ∷ a) (x ∷ p) b known l = (l.0, subst (BeginsAtEach t) (sym known.0) tt, plain_follows a p b known.1 l.1)

plain_reads : {a b : List Token} (p : List SpelledPiece) → Plain p → ReadsLike a p b → SpellsTree a p b
plain_reads {a = a} {b = b} p known l = record { follows = plain_follows a p b known l.like }

plain_comma : (comma : Bool) → Plain (comma_if comma)
plain_comma true = (refl, tt)
plain_comma false = tt

plain_star : (star : Bool) → Plain (star_if star)
plain_star true = (refl, tt)
plain_star false = tt

plain_sign : (s : Sign) → Plain (spell_sign s)
plain_sign signs.Absent = tt
plain_sign signs.Minus = (refl, tt)
plain_sign signs.Plus = (refl, tt)

plain_signed : (n : Signed) → Plain (spell_signed n)
plain_signed n = plain_then (spell_sign n.sign) (one (kinds.Integer n.magnitude)) (plain_sign n.sign) (refl, tt)

plain_mark : (m : Mark) → Plain (spell_mark m)
plain_mark marks.Regular = tt
plain_mark marks.Optional = (refl, tt)
plain_mark marks.Required = (refl, tt)

plain_label : (l : Label) → Plain (spell_label l)
plain_label l = (refl, plain_then (spell_mark l.mark) (one (kinds.Mark points.Colon)) (plain_mark l.mark) (refl, tt))

plain_labels : (ls : List Label) → Plain (flat_map spell_label ls)
plain_labels [] = tt
plain_labels (l ∷ ls) = plain_then (spell_label l) (flat_map spell_label ls) (plain_label l) (plain_labels ls)

-- declarations in braces
abbrev spell_braces : Bool → Entries → List SpelledPiece
spell_braces comma es = one (kinds.Mark points.OpenBrace) ++ spell_entries es ++ comma_if comma ++ one (kinds.Mark points.CloseBrace)

-- which tokens the `...` of a list is spelled with does not depend on the places in its elements
dots_reads : {a b : List Token} (es fs : Elements) → unplaced_elements fs ≡ unplaced_elements es → ReadsLike a (spell_dots es) b → SpellsTree a (spell_dots fs) b
dots_reads no_elements no_elements alike l = plain_reads (spell_dots no_elements) (refl, tt) l
dots_reads no_elements (element f fs) alike l = absurd (let h : element (unplaced f) (unplaced_elements fs) ≡ no_elements = alike in cc)
dots_reads (element e es) no_elements alike l = absurd (let h : no_elements ≡ element (unplaced e) (unplaced_elements es) = alike in cc)
dots_reads (element e es) (element f fs) alike l = plain_reads (spell_dots (element e es)) (refl, (refl, tt)) l

-- a part that is spelled so, and is another one but for places
record Other (A : Type 0) (spelled : A → List SpelledPiece) (bare : A → A) (whole : A) (a b : List Token) : Type 0 where
  pub part : A
  pub reads : SpellsTree a (spelled part) b
  pub same : bare part ≡ bare whole

abbrev place_at : List Token → ℕ
place_at [] = 0
place_at (t ∷ ts) = t.from

is_place : (a : List Token) → IsTokenPlace a (place_at a)
is_place [] = tt
is_place (t ∷ ts) = refl

unplaced_like : (a b : List Token) (p : List SpelledPiece) (from : ℕ) → Like a (place_first from p) b → Like a p b
unplaced_like a b [] from l = l
unplaced_like [] b (x ∷ p) from l = l
unplaced_like (t ∷ a) b (x ∷ p) from l = l

-- a token that keeps its place
record Named (k : TokenKind) (a b : List Token) : Type 0 where
  pub from : ℕ
  pub reads : SpellsTree a (one_at from k) b

named_at : (k : TokenKind) (from : ℕ) (a b : List Token) → Like a (one_at from k) b → Named k a b
named_at k from [] b l = absurd l
named_at k from (t ∷ a) b l = record { from = t.from; reads = record { follows = (l.0, (refl, tt), l.1) } }

abbrev mark : Punctuation → List SpelledPiece
mark m = one (kinds.Mark m)

mark_reads : {a b : List Token} (m : Punctuation) → ReadsLike a (mark m) b → SpellsTree a (mark m) b
mark_reads m l = plain_reads (mark m) (refl, tt) l

comma_reads : {a b : List Token} (comma : Bool) → ReadsLike a (comma_if comma) b → SpellsTree a (comma_if comma) b
comma_reads comma l = plain_reads (comma_if comma) (plain_comma comma) l

mutual
  place : (e : Expression) {a b : List Token} → ReadsLike a (spell e) b → Other Expression spell unplaced e a b
  place (name n from) {a = a} {b = b} l = let read = named_at (identifier_kind n) from a b l.like in record { part = name n read.from; reads = read.reads; same = refl }
  place (integer n) l = record { part = integer n; reads = plain_reads (spell_signed n) (plain_signed n) l; same = refl }
  place (text t) l = record { part = text t; reads = plain_reads (spell (text t)) (refl, tt) l; same = refl }
  place bottom l = record { part = bottom; reads = plain_reads (spell bottom) (refl, tt) l; same = refl }
  place (bound c n) l = record { part = bound c n; reads = plain_reads (spell (bound c n)) (refl, plain_signed n) l; same = refl }
  place (other_integer n) l = record { part = other_integer n; reads = plain_reads (spell (other_integer n)) (refl, plain_signed n) l; same = refl }
  place (other_text t) l = record { part = other_text t; reads = plain_reads (spell (other_text t)) (refl, (refl, tt)) l; same = refl }
  place (parenthesis e comma) l =
      let third = cut (mark points.OpenParenthesis ++ spell e ++ comma_if comma) (mark points.CloseParenthesis) l in
      let second = cut (mark points.OpenParenthesis ++ spell e) (comma_if comma) third.left in
      let first = cut (mark points.OpenParenthesis) (spell e) second.left in
      let inner = place e first.right in
      record {
        part = parenthesis inner.part comma;
        reads = reads_then (reads_then (reads_then (mark_reads points.OpenParenthesis first.left) inner.reads) (comma_reads comma second.right)) (mark_reads points.CloseParenthesis third.right);
        same = ap (λ z. parenthesis z comma) inner.same;
      }
  place (struct es comma) l =
      let third = cut (mark points.OpenBrace ++ spell_entries es ++ comma_if comma) (mark points.CloseBrace) l in
      let second = cut (mark points.OpenBrace ++ spell_entries es) (comma_if comma) third.left in
      let first = cut (mark points.OpenBrace) (spell_entries es) second.left in
      let inner = place_entries es first.right in
      record {
        part = struct inner.part comma;
        reads = reads_then (reads_then (reads_then (mark_reads points.OpenBrace first.left) inner.reads) (comma_reads comma second.right)) (mark_reads points.CloseBrace third.right);
        same = ap (λ z. struct z comma) inner.same;
      }
  place (close from es comma outer) l =
      let fourth = cut (one_at from (kinds.Name (codes "close")) ++ mark points.OpenParenthesis ++ spell_braces comma es ++ comma_if outer) (mark points.CloseParenthesis) l in
      let third = cut (one_at from (kinds.Name (codes "close")) ++ mark points.OpenParenthesis ++ spell_braces comma es) (comma_if outer) fourth.left in
      let second = cut (one_at from (kinds.Name (codes "close")) ++ mark points.OpenParenthesis) (spell_braces comma es) third.left in
      let first = cut (one_at from (kinds.Name (codes "close"))) (mark points.OpenParenthesis) second.left in
      let called = named_at (kinds.Name (codes "close")) from _ _ first.left.like in
      let last = cut (mark points.OpenBrace ++ spell_entries es ++ comma_if comma) (mark points.CloseBrace) second.right in
      let middle = cut (mark points.OpenBrace ++ spell_entries es) (comma_if comma) last.left in
      let head = cut (mark points.OpenBrace) (spell_entries es) middle.left in
      let inner = place_entries es head.right in
      let braces : SpellsTree second.middle (spell_braces comma inner.part) third.middle =
      reads_then (reads_then (reads_then (mark_reads points.OpenBrace head.left) inner.reads) (comma_reads comma middle.right)) (mark_reads points.CloseBrace last.right) in
      record {
        part = close called.from inner.part comma outer;
        reads = reads_then (reads_then (reads_then (reads_then called.reads (mark_reads points.OpenParenthesis first.right)) braces) (comma_reads outer third.right)) (mark_reads points.CloseParenthesis fourth.right);
        same = ap (λ z. close 0 z comma outer) inner.same;
      }
  place (list es tail comma) l =
      let fourth = cut (mark points.OpenBracket ++ spell_elements (kinds.Mark points.Comma) es ++ spell_rest es tail ++ comma_if comma) (mark points.CloseBracket) l in
      let third = cut (mark points.OpenBracket ++ spell_elements (kinds.Mark points.Comma) es ++ spell_rest es tail) (comma_if comma) fourth.left in
      let second = cut (mark points.OpenBracket ++ spell_elements (kinds.Mark points.Comma) es) (spell_rest es tail) third.left in
      let first = cut (mark points.OpenBracket) (spell_elements (kinds.Mark points.Comma) es) second.left in
      let inner = place_elements (kinds.Mark points.Comma) es first.right in
      let rest = place_rest es inner.part inner.same tail second.right in
      record {
        part = list inner.part rest.part comma;
        reads = reads_then (reads_then (reads_then (reads_then (mark_reads points.OpenBracket first.left) inner.reads) rest.reads) (comma_reads comma third.right)) (mark_reads points.CloseBracket fourth.right);
        same = ap (λ z. list z (unplaced_rest rest.part) comma) inner.same ∙ ap (λ z. list (unplaced_elements es) z comma) rest.same;
      }
  place (conjunction es) l =
      let inner = place_elements (kinds.Mark points.Ampersand) es l in
      record { part = conjunction inner.part; reads = inner.reads; same = ap conjunction inner.same }
  place (disjunction bs) l =
      let inner = place_branches bs l in
      record { part = disjunction inner.part; reads = inner.reads; same = ap disjunction inner.same }

  place_elements : (sign : TokenKind) (es : Elements) {a b : List Token} → ReadsLike a (spell_elements sign es) b → Other Elements (spell_elements sign) unplaced_elements es a b
  place_elements sign no_elements l = record { part = no_elements; reads = plain_reads [] tt l; same = refl }
  place_elements sign (element e es) l =
      let first = cut (spell e) (spell_more_elements sign es) l in
      let head = place e first.left in
      let tail = place_more_elements sign es first.right in
      record {
        part = element head.part tail.part;
        reads = reads_then head.reads tail.reads;
        same = ap (λ z. element z (unplaced_elements tail.part)) head.same ∙ ap (element (unplaced e)) tail.same;
      }

  place_more_elements : (sign : TokenKind) (es : Elements) {a b : List Token} → ReadsLike a (spell_more_elements sign es) b → Other Elements (spell_more_elements sign) unplaced_elements es a b
  place_more_elements sign no_elements l = record { part = no_elements; reads = plain_reads [] tt l; same = refl }
  place_more_elements sign (element e es) l =
      let second = cut (one sign ++ spell e) (spell_more_elements sign es) l in
      let first = cut (one sign) (spell e) second.left in
      let head = place e first.right in
      let tail = place_more_elements sign es second.right in
      record {
        part = element head.part tail.part;
        reads = reads_then (reads_then (plain_reads (one sign) (refl, tt) first.left) head.reads) tail.reads;
        same = ap (λ z. element z (unplaced_elements tail.part)) head.same ∙ ap (element (unplaced e)) tail.same;
      }

  -- the rest of a list, behind elements that differ by places alone
  place_rest : (es fs : Elements) → unplaced_elements fs ≡ unplaced_elements es → (tail : Rest) {a b : List Token} → ReadsLike a (spell_rest es tail) b → Other Rest (spell_rest fs) unplaced_rest tail a b
  place_rest es fs alike no_rest l = record { part = no_rest; reads = plain_reads [] tt l; same = refl }
  place_rest es fs alike any_rest l = record { part = any_rest; reads = dots_reads es fs alike l; same = refl }
  place_rest es fs alike (each_rest e) l =
      let first = cut (spell_dots es) (spell e) l in
      let inner = place e first.right in
      record { part = each_rest inner.part; reads = reads_then (dots_reads es fs alike first.left) inner.reads; same = ap each_rest inner.same }

  place_branch : (b : Branch) {a c : List Token} → ReadsLike a (spell_branch b) c → Other Branch spell_branch unplaced_branch b a c
  place_branch (branch marked from e) {c = c} l =
      let first = cut (star_if marked) (place_first from (spell e)) l in
      let inner = place e (record { like = unplaced_like first.middle c (spell e) from first.right.like }) in
      record {
        part = branch marked (place_at first.middle) inner.part;
        reads = reads_then (plain_reads (star_if marked) (plain_star marked) first.left) (reads_placed (place_at first.middle) (is_place first.middle) inner.reads);
        same = ap (branch marked 0) inner.same;
      }

  place_branches : (bs : Branches) {a b : List Token} → ReadsLike a (spell_branches bs) b → Other Branches spell_branches unplaced_branches bs a b
  place_branches no_branches l = record { part = no_branches; reads = plain_reads [] tt l; same = refl }
  place_branches (next_branch b bs) l =
      let first = cut (spell_branch b) (spell_more_branches bs) l in
      let head = place_branch b first.left in
      let tail = place_more_branches bs first.right in
      record {
        part = next_branch head.part tail.part;
        reads = reads_then head.reads tail.reads;
        same = ap (λ z. next_branch z (unplaced_branches tail.part)) head.same ∙ ap (next_branch (unplaced_branch b)) tail.same;
      }

  place_more_branches : (bs : Branches) {a b : List Token} → ReadsLike a (spell_more_branches bs) b → Other Branches spell_more_branches unplaced_branches bs a b
  place_more_branches no_branches l = record { part = no_branches; reads = plain_reads [] tt l; same = refl }
  place_more_branches (next_branch b bs) l =
      let second = cut (mark points.Bar ++ spell_branch b) (spell_more_branches bs) l in
      let first = cut (mark points.Bar) (spell_branch b) second.left in
      let head = place_branch b first.right in
      let tail = place_more_branches bs second.right in
      record {
        part = next_branch head.part tail.part;
        reads = reads_then (reads_then (mark_reads points.Bar first.left) head.reads) tail.reads;
        same = ap (λ z. next_branch z (unplaced_branches tail.part)) head.same ∙ ap (next_branch (unplaced_branch b)) tail.same;
      }

  place_entry : (e : Entry) {a b : List Token} → ReadsLike a (spell_entry e) b → Other Entry spell_entry unplaced_entry e a b
  place_entry ellipsis l = record { part = ellipsis; reads = plain_reads (spell_entry ellipsis) (refl, tt) l; same = refl }
  place_entry (field label chain e) l =
      let second = cut (spell_label label ++ flat_map spell_label chain) (spell e) l in
      let first = cut (spell_label label) (flat_map spell_label chain) second.left in
      let inner = place e second.right in
      record {
        part = field label chain inner.part;
        reads = reads_then (reads_then (plain_reads (spell_label label) (plain_label label) first.left) (plain_reads (flat_map spell_label chain) (plain_labels chain) first.right)) inner.reads;
        same = ap (field label chain) inner.same;
      }
  place_entry (definition n from chain e) l =
      let third = cut (one_at from (kinds.Definition n) ++ mark points.Colon ++ flat_map spell_label chain) (spell e) l in
      let second = cut (one_at from (kinds.Definition n) ++ mark points.Colon) (flat_map spell_label chain) third.left in
      let first = cut (one_at from (kinds.Definition n)) (mark points.Colon) second.left in
      let called = named_at (kinds.Definition n) from _ _ first.left.like in
      let inner = place e third.right in
      record {
        part = definition n called.from chain inner.part;
        reads = reads_then (reads_then (reads_then called.reads (mark_reads points.Colon first.right)) (plain_reads (flat_map spell_label chain) (plain_labels chain) second.right)) inner.reads;
        same = ap (definition n 0 chain) inner.same;
      }

  place_entries : (es : Entries) {a b : List Token} → ReadsLike a (spell_entries es) b → Other Entries spell_entries unplaced_entries es a b
  place_entries no_entries l = record { part = no_entries; reads = plain_reads [] tt l; same = refl }
  place_entries (entry e es) l =
      let first = cut (spell_entry e) (spell_more_entries es) l in
      let head = place_entry e first.left in
      let tail = place_more_entries es first.right in
      record {
        part = entry head.part tail.part;
        reads = reads_then head.reads tail.reads;
        same = ap (λ z. entry z (unplaced_entries tail.part)) head.same ∙ ap (entry (unplaced_entry e)) tail.same;
      }

  place_more_entries : (es : Entries) {a b : List Token} → ReadsLike a (spell_more_entries es) b → Other Entries spell_more_entries unplaced_entries es a b
  place_more_entries no_entries l = record { part = no_entries; reads = plain_reads [] tt l; same = refl }
  place_more_entries (entry e es) l =
      let second = cut (mark points.Comma ++ spell_entry e) (spell_more_entries es) l in
      let first = cut (mark points.Comma) (spell_entry e) second.left in
      let head = place_entry e first.right in
      let tail = place_more_entries es second.right in
      record {
        part = entry head.part tail.part;
        reads = reads_then (reads_then (mark_reads points.Comma first.left) head.reads) tail.reads;
        same = ap (λ z. entry z (unplaced_entries tail.part)) head.same ∙ ap (entry (unplaced_entry e)) tail.same;
      }

-- the clause of a package keeps no places
plain_package : (clause : Option Package) → Plain (spell_package clause)
plain_package None = tt
plain_package (Some clause) = (refl, (refl, plain_comma clause.comma))

-- tokens of the same kinds as others that are read
like_others : (a c d : List Token) (p : List SpelledPiece) → kinds_of a ≡ kinds_of c → Follows c p d → d ≡ [] → Like a p []
like_others [] [] d [] kinds follows none = refl
like_others (t ∷ a) [] d p alike follows none = absurd (let e : t.kind ∷ kinds_of a ≡ [] = alike in cc)
like_others [] (u ∷ c) d p alike follows none = absurd (let e : [] ≡ u.kind ∷ kinds_of c = alike in cc)
like_others (t ∷ a) (u ∷ c) d [] kinds follows none = absurd (let e : u ∷ c ≡ [] = follows ∙ none in cc)
like_others [] [] d (x ∷ p) kinds follows none = absurd follows
like_others (t ∷ a) (u ∷ c) d (x ∷ p) alike follows none =
    let e : t.kind ∷ kinds_of a ≡ u.kind ∷ kinds_of c = alike in
    let first : t.kind ≡ u.kind = cc in
    let others : kinds_of a ≡ kinds_of c = cc in
    (first ∙ follows.0, like_others a c d p others follows.2 none)

within_same : (limit : Limit) {m n : ℕ} → m ≡ n → Within limit n → Within limit m
within_same limit is within = subst (Within limit) (sym is) within

-- what is so of declarations is so of those that are the same without their places
as_others : (P : Entries → Type 0) → ((es : Entries) → P es ↔ P (unplaced_entries es)) → (es fs : Entries) → unplaced_entries fs ≡ unplaced_entries es → P es → P fs
as_others P same es fs is p = (same fs).1 (subst P (sym is) ((same es).0 p))

pub anywhere : IsSpelledAnywhere
anywhere limit tokens others file is same_kinds =
    let all : ReadsLike tokens (spell_file file) [] = record { like = like_others tokens others [] (spell_file file) same_kinds is.reads.follows refl } in
    let second = cut (spell_package file.package_clause ++ spell_entries file.declarations) (comma_if file.comma) all in
    let first = cut (spell_package file.package_clause) (spell_entries file.declarations) second.left in
    let inner = place_entries file.declarations first.right in
    let es = file.declarations in
    record {
      tree = record { package_clause = file.package_clause; declarations = inner.part; comma = file.comma };
      is = record {
        reads = reads_then (reads_then (plain_reads (spell_package file.package_clause) (plain_package file.package_clause) first.left) inner.reads) (comma_reads file.comma second.right);
        clause = as_others (IsRightPackage file.package_clause) (package_same file.package_clause) es inner.part inner.same is.clause;
        right = as_others AreRightEntries right_entries_same es inner.part inner.same is.right;
        ends = as_others (EndsEntries file.comma) (comma_same file.comma) es inner.part inner.same is.ends;
        levels = within_same limit (sym (levels_entries_same inner.part) ∙ ap levels_of_entries inner.same ∙ levels_entries_same es) is.levels;
      };
      same = ap (λ (z : Entries). record { package_clause = file.package_clause; declarations = z; comma = file.comma }) inner.same;
    }
