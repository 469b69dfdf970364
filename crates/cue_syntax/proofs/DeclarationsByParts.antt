-- What is read in parts is read as declarations, a list or a text.
use Rattle.std.proofs.Common.{◌≡◌, refl, sym, ap, subst, ◌∙◌, ℕ, ◌+◌, max, Bool, true, false, List, [], ◌∷◌, ◌++◌, flat_map, append_assoc, append-nil, codes, arith}
use Rattle.std.specs.Prelude.{None, Some}
use Rattle.cue_lex.specs.declared.token.Token.{Token}
use Rattle.cue_lex.specs.declared.token.TokenKind.TheVariants as kinds
use Rattle.cue_lex.specs.declared.punctuation.Punctuation.TheVariants as points
use Rattle.cue_syntax.specs.declared.tree.Identifier.{Identifier}
use Rattle.cue_syntax.specs.declared.tree.Label.{Label}
use Rattle.cue_syntax.specs.declared.tree.LabelName.{LabelName}
use Rattle.cue_syntax.specs.declared.tree.Mark.{Mark}
use Rattle.cue_syntax.specs.Syntax.{Expression, Elements, no_elements, element, Entry, ellipsis, field, definition, Entries, no_entries, entry, Rest, no_rest, any_rest, each_rest}
use Rattle.cue_syntax.specs.Spelling.{SpellsTree, one, comma_if, identifier_kind, label_kind, spell, spell_mark, spell_label, spell_elements, spell_more_elements, spell_rest, spell_entry, spell_entries, spell_more_entries}
use Rattle.cue_syntax.specs.Grammar.{AreRight, IsRightRest, AreRightEntries, IsNested, EndsEntries, EndsElements, IsPackageName, IsRightPackage, levels_of_elements, levels_of_rest, levels_of_entries, Limit}
use Rattle.cue_syntax.proofs.ReadingsJoin.{reads_then, reads_none}
use Rattle.cue_syntax.proofs.RowsGrow.{reads_same}
use Rattle.cue_syntax.proofs.StillToRead.{Keeps, AnExpression, Valued, IsAllowed, AnEntry, closing, NestedIn, Declared, MoreDeclared, Listed, rest_behind, MoreListed, spell_further, HasDots, Dotted, Closed, Whole, Packaged, Shuts, Marked}
use Rattle.cue_syntax.proofs.EachStackEnds.{keeps_from, keeps_both, reads_kind}
use Rattle.cue_syntax.proofs.ExpressionsByParts.{three}

-- labels
-- a mark and then its colon are the mark of a label
pub mark_then : {a b : List Token} (t : Token) (m : Mark) → SpellsTree (t ∷ a) (spell_mark m) a → SpellsTree a (one (kinds.Mark points.Colon)) b → Marked (t ∷ a) b
mark_then t m first colon = record { part = m; reads = reads_then first colon }

-- an expression is a value with no label before it
pub expression_value : {limit : Limit} {n : ℕ} {a b : List Token} → AnExpression limit n a b → Valued limit n a b
expression_value first = record { chain = []; tree = first.part; reads = first.reads; right = first.good; within = keeps_from first.within (omega arith) }

label_reads : {a b c : List Token} (t : Token) (label : LabelName) (m : Mark) (chain : List Label) (e : Expression) → t.kind ≡ label_kind label
    → SpellsTree a (spell_mark m ++ one (kinds.Mark points.Colon)) b → SpellsTree b (flat_map spell_label chain ++ spell e) c
    → SpellsTree (t ∷ a) (spell_label (record { name = label; mark = m }) ++ flat_map spell_label chain ++ spell e) c
label_reads t label m chain e kind first second =
    reads_kind t kind (reads_same (three (spell_mark m ++ one (kinds.Mark points.Colon)) (flat_map spell_label chain) (spell e)) (reads_then first second))

-- a label and then a value are a value, which opens one level more
pub chained_value : {limit : Limit} {n : ℕ} {a b c : List Token} (t : Token) (label : LabelName) → t.kind ≡ label_kind label → Marked a b → Valued limit (1 + n) b c
    → Valued limit n (t ∷ a) c
chained_value t label kind mark value = record {
  chain = record { name = label; mark = mark.part } ∷ value.chain;
  tree = value.tree;
  reads = label_reads t label mark.part value.chain value.tree kind mark.reads value.reads;
  right = value.right;
  within = keeps_from value.within (omega arith);
}

-- declarations
allowed : (top : Bool) (e : Entry) → IsNested e → IsAllowed top e
allowed true e nested = tt
allowed false e nested = nested

-- a label and then a value are a field
pub field_entry : (top : Bool) {limit : Limit} {n : ℕ} {a b c : List Token} (t : Token) (label : LabelName) → t.kind ≡ label_kind label → Marked a b → Valued limit n b c
    → AnEntry top limit n (t ∷ a) c
field_entry top t label kind mark value = record {
  part = field (record { name = label; mark = mark.part }) value.chain value.tree;
  reads = label_reads t label mark.part value.chain value.tree kind mark.reads value.reads;
  good = (value.right, allowed top (field (record { name = label; mark = mark.part }) value.chain value.tree) tt);
  within = keeps_from value.within (omega arith);
}

-- the name of a definition, a colon and a value are a declaration of the top
pub definition_entry : {limit : Limit} {n : ℕ} {a b c : List Token} (t : Token) (word : List ℕ) → t.kind ≡ kinds.Definition word → SpellsTree a (one (kinds.Mark points.Colon)) b → Valued limit n b c
    → AnEntry true limit n (t ∷ a) c
definition_entry {a = a} {c = c} t word kind colon value = record {
  part = definition word t.from value.chain value.tree;
  reads = record { follows = (kind, (refl, tt), behind.follows) };
  good = (value.right, tt);
  within = keeps_from value.within (omega arith);
}
  where
    behind : SpellsTree a (one (kinds.Mark points.Colon) ++ flat_map spell_label value.chain ++ spell value.tree) c
    behind = reads_same (three (one (kinds.Mark points.Colon)) (flat_map spell_label value.chain) (spell value.tree)) (reads_then colon value.reads)

-- `...` is a declaration
pub ellipsis_entry : (top : Bool) {limit : Limit} {n : ℕ} {a : List Token} (t : Token) → t.kind ≡ (kinds.Mark points.Ellipsis) → Keeps limit n → AnEntry top limit n (t ∷ a) a
ellipsis_entry top t kind keeps = record { part = ellipsis; reads = reads_kind t kind reads_none; good = (tt, allowed top ellipsis tt); within = keeps_from keeps (omega arith) }

nested_next : (top : Bool) (e : Entry) (es : Entries) → IsAllowed top e → NestedIn top es → NestedIn top (entry e es)
nested_next true e es first more = tt
nested_next false e es first more = (first, more)

ends_next : (comma : Bool) (e : Entry) (es : Entries) → EndsEntries comma (entry e es)
ends_next true e es = tt
ends_next false e es = tt

-- a declaration, and what may come after one, are declarations up to their end
pub entry_entries : {top : Bool} {limit : Limit} {n : ℕ} {a b c : List Token} → AnEntry top limit n a b → MoreDeclared top limit n b c → Declared top limit n a c
entry_entries {top = top} first more = record {
  tree = entry first.part more.tree;
  comma = more.comma;
  reads = reads_same (three (spell_entry first.part) (spell_more_entries more.tree) (comma_if more.comma ++ closing top)) (reads_then first.reads more.reads);
  right = (first.good.0, more.right);
  nested = nested_next top first.part more.tree first.good.1 more.nested;
  ends = ends_next more.comma first.part more.tree;
  within = keeps_both first.within more.within (omega arith);
}

-- a comma and then declarations may come after a declaration
pub comma_entries : {top : Bool} {limit : Limit} {n : ℕ} {a b : List Token} (t : Token) → t.kind ≡ (kinds.Mark points.Comma) → Declared top limit n a b → MoreDeclared top limit n (t ∷ a) b
comma_entries {top} {limit} {n} {a} {b} t kind more = by_entries more.tree more.comma more.reads more.right more.nested more.ends more.within
  where
    by_entries : (es : Entries) (comma : Bool) → SpellsTree a (spell_entries es ++ (comma_if comma ++ closing top)) b → AreRightEntries es → NestedIn top es → EndsEntries comma es
        → Keeps limit (levels_of_entries es + n) → MoreDeclared top limit n (t ∷ a) b
    by_entries no_entries true reads right nested ends within = absurd ends
    by_entries no_entries false reads right nested ends within = record { tree = no_entries; comma = true; reads = reads_kind t kind reads; right = tt; nested = nested; within = within }
    by_entries (entry e es) comma reads right nested ends within = record { tree = entry e es; comma = comma; reads = reads_kind t kind reads; right = right; nested = nested; within = within }

-- a closing brace alone ends a struct that has no declarations
pub brace_entries : {limit : Limit} {n : ℕ} {a : List Token} (t : Token) → t.kind ≡ (kinds.Mark points.CloseBrace) → Keeps limit n → Declared false limit n (t ∷ a) a
brace_entries t kind keeps = record { tree = no_entries; comma = false; reads = reads_kind t kind reads_none; right = tt; nested = tt; ends = tt; within = keeps_from keeps (omega arith) }

-- a closing brace may come right after a declaration
pub brace_more : {limit : Limit} {n : ℕ} {a : List Token} (t : Token) → t.kind ≡ (kinds.Mark points.CloseBrace) → Keeps limit n → MoreDeclared false limit n (t ∷ a) a
brace_more t kind keeps = record { tree = no_entries; comma = false; reads = reads_kind t kind reads_none; right = tt; nested = tt; within = keeps_from keeps (omega arith) }

-- an opening brace, declarations up to theirs, and a closing parenthesis complete what `close(` begins
pub brace_closed : (n : ℕ) {limit : Limit} {a b c : List Token} (t : Token) → t.kind ≡ (kinds.Mark points.OpenBrace) → Declared false limit (1 + (1 + n)) a b → Shuts (kinds.Mark points.CloseParenthesis) b c
    → Closed limit (2 + n) (t ∷ a) c
brace_closed n t kind first shuts = record {
  tree = first.tree;
  inner = first.comma;
  comma = shuts.part;
  reads = reads_kind t kind (reads_same (sym (outer first.tree first.comma shuts.part)) (reads_then first.reads shuts.reads));
  right = first.right;
  nested = first.nested;
  ends = first.ends;
  within = keeps_from first.within (omega arith);
}
  where
    outer : (es : Entries) (inner comma : Bool) → spell_entries es ++ (comma_if inner ++ (one (kinds.Mark points.CloseBrace) ++ (comma_if comma ++ one (kinds.Mark points.CloseParenthesis))))
        ≡ (spell_entries es ++ (comma_if inner ++ one (kinds.Mark points.CloseBrace))) ++ (comma_if comma ++ one (kinds.Mark points.CloseParenthesis))
    outer es inner comma =
        sym (append_assoc (spell_entries es) (comma_if inner ++ one (kinds.Mark points.CloseBrace)) (comma_if comma ++ one (kinds.Mark points.CloseParenthesis))
        ∙ ap (λ z. spell_entries es ++ z) (append_assoc (comma_if inner) (one (kinds.Mark points.CloseBrace)) (comma_if comma ++ one (kinds.Mark points.CloseParenthesis))))

-- lists
ends_elements : (comma : Bool) (tail : Rest) (e : Expression) (es : Elements) → EndsElements comma tail (element e es)
ends_elements true any_rest e es = tt
ends_elements true (each_rest f) e es = tt
ends_elements true no_rest e es = tt
ends_elements false any_rest e es = tt
ends_elements false (each_rest f) e es = tt
ends_elements false no_rest e es = tt

rest_is : (tail : Rest) (e : Expression) (es : Elements) → rest_behind tail ≡ spell_rest (element e es) tail
rest_is any_rest e es = refl
rest_is (each_rest f) e es = refl
rest_is no_rest e es = refl

-- an expression, and what may come after an element, are elements up to the bracket
pub element_elements : {limit : Limit} {n : ℕ} {a b c : List Token} → AnExpression limit n a b → MoreListed limit n b c → Listed limit n a c
element_elements {a = a} {c = c} first more = record {
  tree = element first.part more.tree;
  tail = more.tail;
  comma = more.comma;
  reads = subst (λ z. SpellsTree a (spell first.part ++ spell_more_elements (kinds.Mark points.Comma) more.tree ++ (z ++ (comma_if more.comma ++ one (kinds.Mark points.CloseBracket)))) c)
      (rest_is more.tail first.part more.tree)
      (reads_same (three (spell first.part) (spell_more_elements (kinds.Mark points.Comma) more.tree) (rest_behind more.tail ++ (comma_if more.comma ++ one (kinds.Mark points.CloseBracket))))
      (reads_then first.reads more.reads));
  right = (first.good, more.right);
  rest_right = more.rest_right;
  ends = ends_elements more.comma more.tail first.part more.tree;
  within = keeps_both first.within more.within (omega arith);
}

-- a comma or none and then the bracket may come after `...`
pub shut_dots : {limit : Limit} {n : ℕ} {a b : List Token} → Shuts (kinds.Mark points.CloseBracket) a b → Keeps limit n → Dotted limit n a b
shut_dots shuts keeps = record {
  tail = any_rest;
  comma = shuts.part;
  reads = shuts.reads;
  dots = tt;
  right = tt;
  within = keeps_from keeps (omega arith);
}

-- an expression, and then a comma or none and the bracket, may come after `...`
pub expression_dots : {limit : Limit} {n : ℕ} {a b c : List Token} → AnExpression limit n a b → Shuts (kinds.Mark points.CloseBracket) b c → Dotted limit n a c
expression_dots first shuts = record {
  tail = each_rest first.part;
  comma = shuts.part;
  reads = reads_then first.reads shuts.reads;
  dots = tt;
  right = first.good;
  within = first.within;
}

-- `...` and what may come after it are a list that has no elements
pub ellipsis_elements : {limit : Limit} {n : ℕ} {a b : List Token} (t : Token) → t.kind ≡ (kinds.Mark points.Ellipsis) → Dotted limit n a b → Listed limit n (t ∷ a) b
ellipsis_elements {limit} {n} {a} {b} t kind more = by_rest more.tail more.comma more.reads more.dots more.right more.within
  where
    open_ends : (tail : Rest) (comma : Bool) → HasDots tail → EndsElements comma tail no_elements
    open_ends no_rest comma dots = absurd dots
    open_ends any_rest true dots = tt
    open_ends any_rest false dots = tt
    open_ends (each_rest e) true dots = tt
    open_ends (each_rest e) false dots = tt

    by_rest : (tail : Rest) (comma : Bool) → SpellsTree a (spell_further tail ++ (comma_if comma ++ one (kinds.Mark points.CloseBracket))) b → HasDots tail → IsRightRest tail
        → Keeps limit (levels_of_rest tail + n) → Listed limit n (t ∷ a) b
    by_rest no_rest comma reads dots right within = absurd dots
    by_rest any_rest comma reads dots right within = record { tree = no_elements; tail = any_rest; comma = comma; reads = reads_kind t kind reads; right = tt; rest_right = tt; ends = open_ends any_rest comma tt; within = keeps_from within (omega arith) }
    by_rest (each_rest e) comma reads dots right within = record {
      tree = no_elements;
      tail = each_rest e;
      comma = comma;
      reads = reads_kind t kind reads;
      right = tt;
      rest_right = right;
      ends = open_ends (each_rest e) comma tt;
      within = keeps_from within (omega arith);
    }

-- a closing bracket alone ends a list that has no elements
pub bracket_elements : {limit : Limit} {n : ℕ} {a : List Token} (t : Token) → t.kind ≡ (kinds.Mark points.CloseBracket) → Keeps limit n → Listed limit n (t ∷ a) a
bracket_elements t kind keeps = record { tree = no_elements; tail = no_rest; comma = false; reads = reads_kind t kind reads_none; right = tt; rest_right = tt; ends = tt; within = keeps_from keeps (omega arith) }

-- a closing bracket may come right after an element
pub bracket_more : {limit : Limit} {n : ℕ} {a : List Token} (t : Token) → t.kind ≡ (kinds.Mark points.CloseBracket) → Keeps limit n → MoreListed limit n (t ∷ a) a
bracket_more t kind keeps = record { tree = no_elements; tail = no_rest; comma = false; reads = reads_kind t kind reads_none; right = tt; rest_right = tt; within = keeps_from keeps (omega arith) }

-- a comma and then elements up to the bracket may come after an element
pub comma_elements : {limit : Limit} {n : ℕ} {a b : List Token} (t : Token) → t.kind ≡ (kinds.Mark points.Comma) → Listed limit n a b → MoreListed limit n (t ∷ a) b
comma_elements {limit} {n} {a} {b} t kind more = by_elements more.tree more.tail more.comma more.reads more.right more.rest_right more.ends more.within
  where
    by_elements : (es : Elements) (tail : Rest) (comma : Bool) → SpellsTree a (spell_elements (kinds.Mark points.Comma) es ++ (spell_rest es tail ++ (comma_if comma ++ one (kinds.Mark points.CloseBracket)))) b → AreRight es
        → IsRightRest tail → EndsElements comma tail es → Keeps limit (max (levels_of_elements es) (levels_of_rest tail) + n) → MoreListed limit n (t ∷ a) b
    by_elements no_elements no_rest true reads right each ends within = absurd ends
    by_elements no_elements no_rest false reads right each ends within = record { tree = no_elements; tail = no_rest; comma = true; reads = reads_kind t kind reads; right = tt; rest_right = tt; within = within }
    by_elements no_elements any_rest comma reads right each ends within = record { tree = no_elements; tail = any_rest; comma = comma; reads = reads_kind t kind reads; right = tt; rest_right = tt; within = within }
    by_elements no_elements (each_rest e) comma reads right each ends within = record { tree = no_elements; tail = each_rest e; comma = comma; reads = reads_kind t kind reads; right = tt; rest_right = each; within = within }
    by_elements (element e es) tail comma reads right each ends within = record {
      tree = element e es;
      tail = tail;
      comma = comma;
      reads = reads_kind t kind (subst (λ z. SpellsTree a (spell e ++ spell_more_elements (kinds.Mark points.Comma) es ++ (z ++ (comma_if comma ++ one (kinds.Mark points.CloseBracket)))) b) (sym (rest_is tail e es)) reads);
      right = right;
      rest_right = each;
      within = within;
    }

-- texts
-- declarations of the top are a whole text
pub entries_whole : {limit : Limit} {n : ℕ} {a b : List Token} → Declared true limit n a b → Whole limit n a b
entries_whole first = record {
  tree = record { package_clause = None; declarations = first.tree; comma = first.comma };
  reads = reads_same (ap (λ z. spell_entries first.tree ++ z) (append-nil (comma_if first.comma))) first.reads;
  clause = tt;
  right = first.right;
  ends = first.ends;
  within = first.within;
}

-- a comma and then the declarations of the top may come after the name of a package
pub comma_package : {limit : Limit} {n : ℕ} {a b : List Token} (t : Token) → t.kind ≡ (kinds.Mark points.Comma) → Declared true limit n a b → Packaged limit n (t ∷ a) b
comma_package t kind first = record {
  comma = true;
  tree = first.tree;
  last = first.comma;
  reads = reads_kind t kind (reads_same (ap (λ z. spell_entries first.tree ++ z) (append-nil (comma_if first.comma))) first.reads);
  parted = λ e. absurd (let f : true ≡ false = e in cc);
  right = first.right;
  ends = first.ends;
  within = first.within;
}

-- a clause whose name is one of a package, and declarations after its comma alone
packaged_right : (called : Identifier) (comma : Bool) (es : Entries) → IsPackageName called → (comma ≡ false → es ≡ no_entries) → IsRightPackage (Some (record { name = called; comma = comma })) es
packaged_right called comma no_entries named parted = named
packaged_right called true (entry e es) named parted = (named, refl)
packaged_right called false (entry e es) named parted = absurd (let h : entry e es ≡ no_entries = parted refl in cc)

-- `package`, the name of a package, and what may come after it are a whole text
pub package_whole : {limit : Limit} {n : ℕ} {a b : List Token} (first t : Token) (called : Identifier) → first.kind ≡ kinds.Name (codes "package") → t.kind ≡ identifier_kind called
    → IsPackageName called → Packaged limit n a b → Whole limit n (first ∷ t ∷ a) b
package_whole first t called word kind right packaged = record {
  tree = record { package_clause = Some (record { name = called; comma = packaged.comma }); declarations = packaged.tree; comma = packaged.last };
  reads = reads_kind first word (reads_kind t kind (reads_same (three (comma_if packaged.comma) (spell_entries packaged.tree) (comma_if packaged.last)) packaged.reads));
  clause = packaged_right called packaged.comma packaged.tree right packaged.parted;
  right = packaged.right;
  ends = packaged.ends;
  within = packaged.within;
}
