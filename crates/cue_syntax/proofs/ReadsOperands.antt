-- How operands and bounds are read.
use Rattle.std.proofs.Common.{◌≡◌, ◌∙◌, ap, sym, subst, refl, ℕ, suc, ◌+◌, ◌≤◌, Bool, true, false, List, [], ◌++◌, codes, arith}
use Rattle.cue_lex.specs.declared.token.Token.{Token}
use Rattle.cue_lex.specs.declared.token.TokenKind.{TokenKind}
use Rattle.cue_lex.specs.declared.token.TokenKind.TheVariants as kinds
use Rattle.cue_lex.specs.declared.punctuation.Punctuation.TheVariants as points
use Rattle.cue_syntax.specs.declared.tree.Identifier.{Identifier}
use Rattle.cue_syntax.specs.declared.tree.Identifier.TheVariants as identifiers
use Rattle.cue_syntax.specs.declared.tree.Sign.{Sign}
use Rattle.cue_syntax.specs.declared.tree.Sign.TheVariants as signs
use Rattle.cue_syntax.specs.declared.tree.Signed.{Signed}
use Rattle.cue_syntax.specs.declared.tree.Comparison.{Comparison}
use Rattle.cue_syntax.specs.declared.tree.Comparison.TheVariants as comparisons
use Rattle.cue_syntax.specs.Spelling.{SpellsTree, one, comma_if, comparison_kind, spell, spell_sign, spell_signed, spell_elements, spell_entries, spell_rest, spell_dots}
use Rattle.cue_syntax.specs.Syntax.{Expression, name, integer, text, bottom, bound, other_integer, other_text, parenthesis, struct, close, list, Elements, no_elements, element, Entries, Rest, no_rest, any_rest, each_rest}
use Rattle.cue_syntax.proofs.PartsByTheirTokens.{is_open, is_mark, is_comma, is_entry, is_text, is_ellipsis, first, behind, place, look, look_at, look_marked, plain, begins, behind_comma, magnitude, magnitude_at, signed, signed_at, text_of, text_at}
use Rattle.cue_syntax.proofs.ReaderOfTrees.{Reader, reader, read_unary, unary_at, read_name, read_integer, read_bound, read_other, read_parenthesis, read_struct, read_close, read_close_end, read_list, read_list_end, read_rest, read_each, size, size_of_rest, size_of_entries}
use Rattle.cue_syntax.proofs.ReadingsCut.{cut, Head, headed, lone, place_is, unplaced, head_first, head_behind, head_look, EndsUnary, EndsExpression, EndsElementsRow, IsEnd, ends, comma_seen, comma_behind, behind_a_comma, behind_no_comma, comma_ends, elements_row, entries_row}
use Rattle.cue_syntax.proofs.ReadsRows.{found, Knows, AreKnown, IsKnownRest, AreKnownEntries, elements_known, entries_known}

-- it is read where something may follow that ends an operand
abbrev pub Answers : Expression → Type 0
Answers e = (n : ℕ) (a b : List Token) → SpellsTree a (spell e) b → EndsUnary b → size e ≤ suc n → ((reader (suc n)).unary a ≡ (e, b)) × (look a ≡ plain)

unary_step : {a c : List Token} {kind : TokenKind} (n : ℕ) → Head a kind c → (reader (suc n)).unary a ≡ unary_at (reader n) kind (place a) c
unary_step {a = a} {c = c} {kind = kind} n h =
    ap (read_unary (reader n)) h.is
    ∙ ap (λ (k : TokenKind). unary_at (reader n) k h.token.from c) h.kind_is
    ∙ ap (λ (z : List Token). unary_at (reader n) kind (place z) c) (sym h.is)

-- the reader finds each identifier
pub name_answers : (i : Identifier) (from : ℕ) → Answers (name i from)
name_answers (identifiers.Plain t) from n a b h k s =
    let head : Head a (kinds.Name t) b = lone (kinds.Name t) (unplaced from (kinds.Name t) [] h) in (
      unary_step n head ∙ ap (λ (z : Bool). read_name (reader n) z t (place a) b) k.no_open
          ∙ ap (λ (p : ℕ). found (name (identifiers.Plain t) p) b) (place_is from (kinds.Name t) [] h),
      head_look head ∙ ap look_marked k.no_mark,
    )
name_answers (identifiers.Definition t) from n a b h k s =
    let head : Head a (kinds.Definition t) b = lone (kinds.Definition t) (unplaced from (kinds.Definition t) [] h) in
    (unary_step n head ∙ ap (λ (p : ℕ). found (name (identifiers.Definition t) p) b) (place_is from (kinds.Definition t) [] h), head_look head)
name_answers (identifiers.Hidden t) from n a b h k s =
    let head : Head a (kinds.Hidden t) b = lone (kinds.Hidden t) (unplaced from (kinds.Hidden t) [] h) in
    (unary_step n head ∙ ap (λ (p : ℕ). found (name (identifiers.Hidden t) p) b) (place_is from (kinds.Hidden t) [] h), head_look head)

-- the reader finds each string
pub text_answers : (t : List ℕ) → Answers (text t)
text_answers t n a b h k s = let head = lone (kinds.Text t) h in (unary_step n head, head_look head ∙ ap look_marked k.no_mark)

-- the reader finds `_|_`
pub bottom_answers : Answers bottom
bottom_answers n a b h k s = let head = lone kinds.Bottom h in (unary_step n head, head_look head)

-- integers

signed_step : {a c : List Token} {kind : TokenKind} → Head a kind c → signed a ≡ signed_at kind c
signed_step {c = c} h = ap signed h.is ∙ ap (λ (k : TokenKind). signed_at k c) h.kind_is

magnitude_is : {a c : List Token} (m : ℕ) → Head a (kinds.Integer m) c → magnitude a ≡ m
magnitude_is m h = ap magnitude h.is ∙ ap magnitude_at h.kind_is

abbrev of_parts : Sign → ℕ → Signed
of_parts s m = record { sign = s; magnitude = m }

signed_is : (s : Sign) (m : ℕ) (a b : List Token) → SpellsTree a (spell_sign s ++ one (kinds.Integer m)) b → signed a ≡ (of_parts s m, b)
signed_is signs.Absent m a b h = signed_step (lone (kinds.Integer m) h)
signed_is signs.Minus m a b h =
    let t = headed (kinds.Mark points.Minus) (one (kinds.Integer m)) h in
    let u = lone (kinds.Integer m) t.right in
    signed_step t.head ∙ ap (λ (z : ℕ). found (of_parts signs.Minus z) (behind t.middle)) (magnitude_is m u)
    ∙ ap (found (of_parts signs.Minus m)) (head_behind u)
signed_is signs.Plus m a b h =
    let t = headed (kinds.Mark points.Plus) (one (kinds.Integer m)) h in
    let u = lone (kinds.Integer m) t.right in
    signed_step t.head ∙ ap (λ (z : ℕ). found (of_parts signs.Plus z) (behind t.middle)) (magnitude_is m u)
    ∙ ap (found (of_parts signs.Plus m)) (head_behind u)

signed_no_text : (s : Sign) (m : ℕ) (a b : List Token) → SpellsTree a (spell_sign s ++ one (kinds.Integer m)) b → first is_text a ≡ false
signed_no_text signs.Absent m a b h = head_first is_text (lone (kinds.Integer m) h)
signed_no_text signs.Minus m a b h = head_first is_text (headed (kinds.Mark points.Minus) (one (kinds.Integer m)) h).head
signed_no_text signs.Plus m a b h = head_first is_text (headed (kinds.Mark points.Plus) (one (kinds.Integer m)) h).head

integer_step : (s : Sign) (m n : ℕ) (a b : List Token) → SpellsTree a (spell_sign s ++ one (kinds.Integer m)) b
    → ((reader (suc n)).unary a ≡ read_integer (signed a)) × (look a ≡ plain)
integer_step signs.Absent m n a b h =
    let head = lone (kinds.Integer m) h in (unary_step n head ∙ ap read_integer (sym (signed_step head)), head_look head)
integer_step signs.Minus m n a b h =
    let head = (headed (kinds.Mark points.Minus) (one (kinds.Integer m)) h).head in (unary_step n head ∙ ap read_integer (sym (signed_step head)), head_look head)
integer_step signs.Plus m n a b h =
    let head = (headed (kinds.Mark points.Plus) (one (kinds.Integer m)) h).head in (unary_step n head ∙ ap read_integer (sym (signed_step head)), head_look head)

-- the reader finds each integer
pub integer_answers : (i : Signed) → Answers (integer i)
integer_answers i n a b h k s =
    let step = integer_step i.sign i.magnitude n a b h in (step.0 ∙ ap read_integer (signed_is i.sign i.magnitude a b h), step.1)

bound_step : (c : Comparison) (r : Reader) (from : ℕ) (ts : List Token) → unary_at r (comparison_kind c) from ts ≡ read_bound c (signed ts)
bound_step comparisons.Less r from ts = refl
bound_step comparisons.AtMost r from ts = refl
bound_step comparisons.Greater r from ts = refl
bound_step comparisons.AtLeast r from ts = refl

bound_look : (c : Comparison) (marked : Bool) → look_at (comparison_kind c) marked ≡ plain
bound_look comparisons.Less marked = refl
bound_look comparisons.AtMost marked = refl
bound_look comparisons.Greater marked = refl
bound_look comparisons.AtLeast marked = refl

-- the reader finds each bound of a comparison
pub bound_answers : (c : Comparison) (i : Signed) → Answers (bound c i)
bound_answers c i n a b h k s =
    let t = headed (comparison_kind c) (spell_signed i) h in (
      unary_step n t.head ∙ bound_step c (reader n) (place a) t.middle ∙ ap (read_bound c) (signed_is i.sign i.magnitude t.middle b t.right),
      head_look t.head ∙ bound_look c (first is_mark t.middle),
    )

-- the reader finds each `!=` with an integer
pub other_integer_answers : (i : Signed) → Answers (other_integer i)
other_integer_answers i n a b h k s =
    let t = headed (kinds.Mark points.NotEqual) (spell_signed i) h in (
      unary_step n t.head ∙ ap (λ (z : Bool). read_other z t.middle) (signed_no_text i.sign i.magnitude t.middle b t.right)
          ∙ ap (λ (p : Signed × List Token). found (other_integer p.0) p.1) (signed_is i.sign i.magnitude t.middle b t.right),
      head_look t.head,
    )

-- the reader finds each `!=` with a string
pub other_text_answers : (x : List ℕ) → Answers (other_text x)
other_text_answers x n a b h k s =
    let t = headed (kinds.Mark points.NotEqual) (one (kinds.Text x)) h in
    let u : Head t.middle (kinds.Text x) b = lone (kinds.Text x) t.right in (
      unary_step n t.head ∙ ap (λ (z : Bool). read_other z t.middle) (head_first is_text u)
          ∙ ap (λ (z : List ℕ). found (other_text z) (behind t.middle)) (ap text_of u.is ∙ ap text_at u.kind_is)
          ∙ ap (found (other_text x)) (head_behind u),
      head_look t.head,
    )

-- what stands in signs

parenthesis_end : IsEnd (kinds.Mark points.CloseParenthesis)
parenthesis_end = record { no_open = refl; no_mark = refl; no_and = refl; no_or = refl }

brace_end : IsEnd (kinds.Mark points.CloseBrace)
brace_end = record { no_open = refl; no_mark = refl; no_and = refl; no_or = refl }

bracket_end : IsEnd (kinds.Mark points.CloseBracket)
bracket_end = record { no_open = refl; no_mark = refl; no_and = refl; no_or = refl }

ellipsis_end : IsEnd (kinds.Mark points.Ellipsis)
ellipsis_end = record { no_open = refl; no_mark = refl; no_and = refl; no_or = refl }

-- a comma, or none, and then a closing sign
pub record Closes (a : List Token) (comma : Bool) (b : List Token) : Type 0 where
  pub seen : first is_comma a ≡ comma
  pub behind_it : behind (behind_comma a) ≡ b
  pub ends : EndsExpression a

closes : {a b c : List Token} {kind : TokenKind} (comma : Bool) → SpellsTree a (comma_if comma) b → Head b kind c → is_comma kind ≡ false → IsEnd kind
    → Closes a comma c
closes comma h last no_comma k =
    let none = head_first is_comma last ∙ no_comma in
    record { seen = comma_seen comma h none; behind_it = ap behind (comma_behind comma h none) ∙ head_behind last; ends = comma_ends comma h (ends last k) }

-- where the reader finds an expression, it finds it in parentheses
pub parenthesis_answers : (e : Expression) (comma : Bool) → Knows e → Answers (parenthesis e comma)
parenthesis_answers e comma known n a b h k s =
    let t = headed (kinds.Mark points.OpenParenthesis) (spell e ++ comma_if comma ++ one (kinds.Mark points.CloseParenthesis)) h in
    let u = cut (spell e ++ comma_if comma) (one (kinds.Mark points.CloseParenthesis)) t.right in
    let v = cut (spell e) (comma_if comma) u.left in
    let end = closes comma v.right (lone (kinds.Mark points.CloseParenthesis) u.right) refl parenthesis_end in (
      unary_step n t.head
          ∙ ap read_parenthesis (known.whole n t.middle v.middle v.left end.ends (omega (arith, s)))
          ∙ ap (λ (z : Bool). found (parenthesis e z) (behind (behind_comma v.middle))) end.seen
          ∙ ap (found (parenthesis e comma)) end.behind_it,
      head_look t.head,
    )

-- the reader finds the declarations, and sees the comma and the closing brace after them
pub record Braces (es : Entries) (comma : Bool) (n : ℕ) (a b : List Token) : Type 0 where
  pub middle : List Token
  pub reads : (reader n).entries a ≡ (es, middle)
  pub closes : Closes middle comma b

-- declarations up to a closing brace
braces : {a b : List Token} (es : Entries) (comma : Bool) (n : ℕ) → AreKnownEntries es
    → SpellsTree a (spell_entries es ++ comma_if comma ++ one (kinds.Mark points.CloseBrace)) b → size_of_entries es ≤ n → Braces es comma n a b
braces {a = a} {b = b} es comma n known h s =
    let u = cut (spell_entries es ++ comma_if comma) (one (kinds.Mark points.CloseBrace)) h in
    let v = cut (spell_entries es) (comma_if comma) u.left in
    let last : Head u.middle (kinds.Mark points.CloseBrace) b = lone (kinds.Mark points.CloseBrace) u.right in
    let row = entries_row comma v.right (head_first is_entry last) (head_first is_comma last) (ends last brace_end) in
    record { middle = v.middle; reads = entries_known es known n a v.middle v.left row s; closes = closes comma v.right last refl brace_end }

-- where the reader finds each of some declarations, it finds them in braces
pub struct_answers : (es : Entries) (comma : Bool) → AreKnownEntries es → Answers (struct es comma)
struct_answers es comma known n a b h k s =
    let t = headed (kinds.Mark points.OpenBrace) (spell_entries es ++ comma_if comma ++ one (kinds.Mark points.CloseBrace)) h in
    let u = braces es comma n known t.right (omega (arith, s)) in (
      unary_step n t.head ∙ ap read_struct u.reads
          ∙ ap (λ (z : Bool). found (struct es z) (behind (behind_comma u.middle))) u.closes.seen
          ∙ ap (found (struct es comma)) u.closes.behind_it,
      head_look t.head,
    )

-- where the reader finds each of some declarations, it finds them in `close({..})`
pub close_answers : (from : ℕ) (es : Entries) (inner comma : Bool) → AreKnownEntries es → Answers (close from es inner comma)
close_answers from es inner comma known n a b h k s =
    let word = kinds.Name (codes "close") in
    let body = spell_entries es ++ comma_if inner ++ one (kinds.Mark points.CloseBrace) in
    let pieces = one (kinds.Mark points.OpenParenthesis) ++ (one (kinds.Mark points.OpenBrace) ++ body) ++ comma_if comma ++ one (kinds.Mark points.CloseParenthesis) in
    let t = headed word pieces (unplaced from word pieces h) in
    let t2 = headed (kinds.Mark points.OpenParenthesis) ((one (kinds.Mark points.OpenBrace) ++ body) ++ comma_if comma ++ one (kinds.Mark points.CloseParenthesis)) t.right in
    let t3 = headed (kinds.Mark points.OpenBrace) (body ++ comma_if comma ++ one (kinds.Mark points.CloseParenthesis)) t2.right in
    let u = cut (body ++ comma_if comma) (one (kinds.Mark points.CloseParenthesis)) t3.right in
    let v = cut body (comma_if comma) u.left in
    let block = braces es inner n known v.left (omega (arith, s)) in
    let end = closes comma v.right (lone (kinds.Mark points.CloseParenthesis) u.right) refl parenthesis_end in
    let inside : behind (behind t.middle) ≡ t3.middle = ap behind (head_behind t2.head) ∙ head_behind t3.head in (
      unary_step n t.head
          ∙ ap (λ (z : Bool). read_name (reader n) z (codes "close") (place a) t.middle) (head_first is_open t2.head)
          ∙ ap (λ (z : List Token). read_close (place a) ((reader n).entries z)) inside
          ∙ ap (read_close (place a)) block.reads
          ∙ ap (λ (p : ℕ). read_close p (es, block.middle)) (place_is from word pieces h)
          ∙ ap (λ (z : Bool). read_close_end from es z (behind (behind_comma block.middle))) block.closes.seen
          ∙ ap (read_close_end from es inner) block.closes.behind_it
          ∙ ap (λ (z : Bool). found (close from es inner z) (behind (behind_comma v.middle))) end.seen
          ∙ ap (found (close from es inner comma)) end.behind_it,
      head_look t.head ∙ ap look_marked (head_first is_mark t2.head),
    )

-- the end of a list

comma_reads : {a c : List Token} → Head a (kinds.Mark points.Comma) c → SpellsTree a (comma_if true) c
comma_reads {c = c} h = subst (λ (z : List Token). SpellsTree z (comma_if true) c) (sym h.is) (record { follows = (h.kind_is, tt, refl) })

-- elements end here, and what stands here up to the bracket is read as the end of their list
pub record ListEnds (n : ℕ) (es : Elements) (tail : Rest) (comma : Bool) (a b : List Token) : Type 0 where
  pub row : EndsElementsRow a
  pub reads : read_list (reader n) (es, a) ≡ (list es tail comma, b)

-- behind the `...` of a list, up to the bracket, its rest is read
abbrev RestEnds : ℕ → Elements → Rest → Bool → List Token → List Token → Type 0
RestEnds n es tail comma b d = read_rest (reader n) (begins (look b)) es b ≡ (list es tail comma, d)

nothing_begins : {b c d : List Token} (comma : Bool) → SpellsTree b (comma_if comma) c → Head c (kinds.Mark points.CloseBracket) d → begins (look b) ≡ false
nothing_begins true then last = ap begins (head_look (lone (kinds.Mark points.Comma) then))
nothing_begins false then last = ap (λ (z : List Token). begins (look z)) then.follows ∙ ap begins (head_look last)

rest_any : (n : ℕ) (es : Elements) (comma : Bool) (b c d : List Token) → SpellsTree b (comma_if comma) c → Head c (kinds.Mark points.CloseBracket) d
    → RestEnds n es any_rest comma b d
rest_any n es comma b c d then last =
    let end = closes comma then last refl bracket_end in
    ap (λ (z : Bool). read_rest (reader n) z es b) (nothing_begins comma then last)
    ∙ ap (λ (z : Bool). found (list es any_rest z) (behind (behind_comma b))) end.seen
    ∙ ap (found (list es any_rest comma)) end.behind_it

rest_each : (n : ℕ) (es : Elements) (e : Expression) (comma : Bool) (b m c d : List Token) → Knows e → SpellsTree b (spell e) m → SpellsTree m (comma_if comma) c
    → Head c (kinds.Mark points.CloseBracket) d → 3 + size e ≤ n → RestEnds n es (each_rest e) comma b d
rest_each n es e comma b m c d known h then last s =
    let end = closes comma then last refl bracket_end in
    ap (λ (z : Bool). read_rest (reader n) z es b) (known.begins b m h end.ends.conjunct.unary)
    ∙ ap (read_each es) (known.whole n b m h end.ends s)
    ∙ ap (λ (z : Bool). found (list es (each_rest e) z) (behind (behind_comma m))) end.seen
    ∙ ap (found (list es (each_rest e) comma)) end.behind_it

-- `...` stands here
list_goes_on : (n : ℕ) (es : Elements) (tail : Rest) (comma seen : Bool) (a b d : List Token) → Head a (kinds.Mark points.Ellipsis) b → RestEnds n es tail comma b d
    → read_list_end (reader n) (first is_ellipsis a) seen es a ≡ (list es tail comma, d)
list_goes_on n es tail comma seen a b d h inner =
    ap (λ (z : Bool). read_list_end (reader n) z seen es a) (head_first is_ellipsis h)
    ∙ ap (λ (z : List Token). read_rest (reader n) (begins (look z)) es z) (head_behind h)
    ∙ inner

-- `...` stands here, after a comma where elements stand before it
dots_end : (n : ℕ) (es : Elements) (tail : Rest) (comma : Bool) (a b d : List Token) → SpellsTree a (spell_dots es) b → RestEnds n es tail comma b d
    → ListEnds n es tail comma a d
dots_end n no_elements tail comma a b d h inner =
    let dots : Head a (kinds.Mark points.Ellipsis) b = lone (kinds.Mark points.Ellipsis) h in
    let no_comma : first is_comma a ≡ false = head_first is_comma dots in
    let here : SpellsTree a (comma_if false) a = record { follows = refl } in
    record {
      row = elements_row false here (ap begins (head_look dots)) no_comma (ends dots ellipsis_end);
      reads = ap (λ (z : List Token). read_list_end (reader n) (first is_ellipsis z) (first is_comma a) no_elements z) (behind_no_comma no_comma)
          ∙ list_goes_on n no_elements tail comma (first is_comma a) a b d dots inner;
    }
dots_end n (element e es) tail comma a b d h inner =
    let t = headed (kinds.Mark points.Comma) (one (kinds.Mark points.Ellipsis)) h in
    let dots : Head t.middle (kinds.Mark points.Ellipsis) b = lone (kinds.Mark points.Ellipsis) t.right in
    record {
      row = elements_row true (comma_reads t.head) (ap begins (head_look dots)) (head_first is_comma dots) (ends dots ellipsis_end);
      reads = ap (λ (z : List Token). read_list_end (reader n) (first is_ellipsis z) (first is_comma a) (element e es) z) (behind_a_comma t.head)
          ∙ list_goes_on n (element e es) tail comma (first is_comma a) t.middle b d dots inner;
    }

list_ends : (n : ℕ) (es : Elements) (tail : Rest) (comma : Bool) (a b c d : List Token) → IsKnownRest tail → 3 + size_of_rest tail ≤ n → SpellsTree a (spell_rest es tail) b
    → SpellsTree b (comma_if comma) c → Head c (kinds.Mark points.CloseBracket) d → ListEnds n es tail comma a d
list_ends n es no_rest comma a b c d known s h then last =
    let no_comma : first is_comma c ≡ false = head_first is_comma last in
    let past = comma_behind comma then no_comma in
    let behind_it : ListEnds n es no_rest comma b d = record {
      row = elements_row comma then (ap begins (head_look last)) no_comma (ends last bracket_end);
      reads = ap (λ (z : List Token). read_list_end (reader n) (first is_ellipsis z) (first is_comma b) es z) past
          ∙ ap (λ (z : Bool). read_list_end (reader n) z (first is_comma b) es c) (head_first is_ellipsis last)
          ∙ ap (λ (z : Bool). found (list es no_rest z) (behind c)) (comma_seen comma then no_comma)
          ∙ ap (found (list es no_rest comma)) (head_behind last);
    } in
    subst (λ (z : List Token). ListEnds n es no_rest comma z d) (sym h.follows) behind_it
list_ends n es any_rest comma a b c d known s h then last = dots_end n es any_rest comma a b d h (rest_any n es comma b c d then last)
list_ends n es (each_rest e) comma a b c d known s h then last =
    let t = cut (spell_dots es) (spell e) h in
    dots_end n es (each_rest e) comma a t.middle d t.left (rest_each n es e comma t.middle b c d known t.right then last s)

-- where the reader finds each of some elements, and their rest, it finds them in brackets
pub list_answers : (es : Elements) (tail : Rest) (comma : Bool) → AreKnown es → IsKnownRest tail → Answers (list es tail comma)
list_answers es tail comma known rest n a b h k s =
    let t = headed (kinds.Mark points.OpenBracket) (spell_elements (kinds.Mark points.Comma) es ++ spell_rest es tail ++ comma_if comma ++ one (kinds.Mark points.CloseBracket)) h in
    let u = cut (spell_elements (kinds.Mark points.Comma) es ++ spell_rest es tail ++ comma_if comma) (one (kinds.Mark points.CloseBracket)) t.right in
    let v = cut (spell_elements (kinds.Mark points.Comma) es ++ spell_rest es tail) (comma_if comma) u.left in
    let w = cut (spell_elements (kinds.Mark points.Comma) es) (spell_rest es tail) v.left in
    let end = list_ends n es tail comma w.middle v.middle u.middle b rest (omega (arith, s)) w.right v.right (lone (kinds.Mark points.CloseBracket) u.right) in (
      unary_step n t.head
          ∙ ap (read_list (reader n)) (elements_known es known n t.middle w.middle w.left end.row (omega (arith, s)))
          ∙ end.reads,
      head_look t.head,
    )
