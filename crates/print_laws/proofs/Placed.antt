-- A tree is given the places of tokens that have its kinds.
use Rattle.std.proofs.Common.{◌≡◌, ℕ, Bool, List, [], ◌∷◌, ◌++◌, refl, sym, ap, ap₂, subst, ◌∙◌, append-nil, flat_map, codes}
use Rattle.cue_lex.specs.declared.token.Token.{Token}
use Rattle.cue_lex.specs.declared.token.TokenKind.{TokenKind}
use Rattle.cue_lex.specs.declared.token.TokenKind.TheVariants as kinds
use Rattle.cue_lex.specs.declared.punctuation.Punctuation.TheVariants as points
use Rattle.cue_syntax.specs.declared.tree.Identifier.{Identifier}
use Rattle.cue_syntax.specs.declared.tree.Label.{Label}
use Rattle.cue_syntax.specs.Syntax.{FileTree, Expression, name, integer, text, bottom, bound, other_integer, other_text, parenthesis, struct, close, list, conjunction, disjunction, Elements, no_elements, element, Branch, branch, Branches, no_branches, next_branch, Entry, ellipsis, field, definition, Entries, no_entries, entry, Rest, no_rest, any_rest, each_rest}
use Rattle.cue_syntax.specs.Spelling.{SpelledPiece, SpellsTree, one, one_at, place_first, comma_if, star_if, identifier_kind, comparison_kind, spell_signed, spell_label, spell_dots, spell_rest, spell, spell_elements, spell_more_elements, spell_branch, spell_branches, spell_more_branches, spell_entry, spell_entries, spell_more_entries, spell_package, spell_file}
use Rattle.cue_syntax.specs.Unplaced.{unplaced, unplaced_elements, unplaced_rest, unplaced_branch, unplaced_branches, unplaced_entry, unplaced_entries, unplaced_file}
use Rattle.cue_syntax.proofs.ReadingsJoin.{reads_then, reads_none, reads_placed}
use Rattle.print_laws.specs.Kinds.{kinds_of_bytes}
use Rattle.print_laws.specs.Spelled.{spelled_kinds}
use Rattle.print_laws.proofs.Pieces.{free_then, free_comma, free_star, free_signed, free_label, free_chain, free_package, free_dots, split, taken, IsPlaced, fixed, first_taken, place_of, placed_kinds, same_rest}

abbrev PlacesExpression : Expression → Type 0
PlacesExpression e = (tokens : List Token) (more : List TokenKind) → kinds_of_bytes tokens ≡ spelled_kinds (spell e) ++ more → IsPlaced spell unplaced e tokens more

abbrev PlacesElements : (Elements → List SpelledPiece) → Elements → Type 0
PlacesElements spelled es = (tokens : List Token) (more : List TokenKind) → kinds_of_bytes tokens ≡ spelled_kinds (spelled es) ++ more → IsPlaced spelled unplaced_elements es tokens more

abbrev PlacesRest : Elements → Rest → Type 0
PlacesRest es tail = (tokens : List Token) (more : List TokenKind) → kinds_of_bytes tokens ≡ spelled_kinds (spell_rest es tail) ++ more → IsPlaced (spell_rest es) unplaced_rest tail tokens more

abbrev PlacesBranch : Branch → Type 0
PlacesBranch b = (tokens : List Token) (more : List TokenKind) → kinds_of_bytes tokens ≡ spelled_kinds (spell_branch b) ++ more → IsPlaced spell_branch unplaced_branch b tokens more

abbrev PlacesBranches : (Branches → List SpelledPiece) → Branches → Type 0
PlacesBranches spelled bs = (tokens : List Token) (more : List TokenKind) → kinds_of_bytes tokens ≡ spelled_kinds (spelled bs) ++ more → IsPlaced spelled unplaced_branches bs tokens more

abbrev PlacesEntry : Entry → Type 0
PlacesEntry e = (tokens : List Token) (more : List TokenKind) → kinds_of_bytes tokens ≡ spelled_kinds (spell_entry e) ++ more → IsPlaced spell_entry unplaced_entry e tokens more

abbrev PlacesEntries : (Entries → List SpelledPiece) → Entries → Type 0
PlacesEntries spelled es = (tokens : List Token) (more : List TokenKind) → kinds_of_bytes tokens ≡ spelled_kinds (spelled es) ++ more → IsPlaced spelled unplaced_entries es tokens more

-- ---- one level, where what stands inside is placed
place_name : (n : Identifier) (from : ℕ) → PlacesExpression (name n from)
place_name n from tokens more are =
    let first = first_taken (identifier_kind n) tokens more are in
    record { there = name n first.place; same = refl; left = first.left; reads = first.reads; kinds = first.kinds }

place_parenthesis : (e : Expression) (comma : Bool) → PlacesExpression e → PlacesExpression (parenthesis e comma)
place_parenthesis e comma inner tokens more are =
    let p1 = one (kinds.Mark points.OpenParenthesis) in
    let p4 = one (kinds.Mark points.CloseParenthesis) in
    let k4 = spelled_kinds p4 ++ more in
    let k3 = spelled_kinds (comma_if comma) ++ k4 in
    let a = split (p1 ++ spell e ++ comma_if comma) p4 tokens more are in
    let b = split (p1 ++ spell e) (comma_if comma) tokens k4 a in
    let c = split p1 (spell e) tokens k3 b in
    let opens = taken p1 (refl, tt) tokens (spelled_kinds (spell e) ++ k3) c in
    let inside = inner opens.left k3 opens.kinds in
    let commas = taken (comma_if comma) (free_comma comma) inside.left k4 inside.kinds in
    let closes = taken p4 (refl, tt) commas.left more commas.kinds in
    record {
      there = parenthesis inside.there comma;
      same = ap (λ x. parenthesis x comma) inside.same;
      left = closes.left;
      reads = reads_then (reads_then (reads_then opens.reads inside.reads) commas.reads) closes.reads;
      kinds = closes.kinds;
    }

-- declarations in braces
abbrev braced : Bool → Entries → List SpelledPiece
braced comma es = one (kinds.Mark points.OpenBrace) ++ spell_entries es ++ comma_if comma ++ one (kinds.Mark points.CloseBrace)

place_braced : (es : Entries) (comma : Bool) → PlacesEntries spell_entries es → PlacesEntries (braced comma) es
place_braced es comma inner tokens more are =
    let p1 = one (kinds.Mark points.OpenBrace) in
    let p4 = one (kinds.Mark points.CloseBrace) in
    let k4 = spelled_kinds p4 ++ more in
    let k3 = spelled_kinds (comma_if comma) ++ k4 in
    let a = split (p1 ++ spell_entries es ++ comma_if comma) p4 tokens more are in
    let b = split (p1 ++ spell_entries es) (comma_if comma) tokens k4 a in
    let c = split p1 (spell_entries es) tokens k3 b in
    let opens = taken p1 (refl, tt) tokens (spelled_kinds (spell_entries es) ++ k3) c in
    let inside = inner opens.left k3 opens.kinds in
    let commas = taken (comma_if comma) (free_comma comma) inside.left k4 inside.kinds in
    let closes = taken p4 (refl, tt) commas.left more commas.kinds in
    record {
      there = inside.there;
      same = inside.same;
      left = closes.left;
      reads = reads_then (reads_then (reads_then opens.reads inside.reads) commas.reads) closes.reads;
      kinds = closes.kinds;
    }

place_struct : (es : Entries) (comma : Bool) → PlacesEntries spell_entries es → PlacesExpression (struct es comma)
place_struct es comma inner tokens more are =
    let inside = place_braced es comma inner tokens more are in
    record { there = struct inside.there comma; same = ap (λ x. struct x comma) inside.same; left = inside.left; reads = inside.reads; kinds = inside.kinds }

-- what ends a list
no_rest_there : (es : Elements) → PlacesRest es no_rest
no_rest_there es tokens more are = record { there = no_rest; same = refl; left = tokens; reads = reads_none; kinds = are }

any_rest_there : (es : Elements) → PlacesRest es any_rest
any_rest_there es tokens more are =
    let all = taken (spell_dots es) (free_dots es) tokens more are in
    record { there = any_rest; same = refl; left = all.left; reads = all.reads; kinds = all.kinds }

place_each : (es : Elements) (e : Expression) → PlacesExpression e → PlacesRest es (each_rest e)
place_each es e inner tokens more are =
    let a = split (spell_dots es) (spell e) tokens more are in
    let dots = taken (spell_dots es) (free_dots es) tokens (spelled_kinds (spell e) ++ more) a in
    let inside = inner dots.left more dots.kinds in
    record { there = each_rest inside.there; same = ap each_rest inside.same; left = inside.left; reads = reads_then dots.reads inside.reads; kinds = inside.kinds }

place_list : (es : Elements) (tail : Rest) (comma : Bool) → PlacesElements (spell_elements (kinds.Mark points.Comma)) es → PlacesRest es tail → PlacesExpression (list es tail comma)
place_list es tail comma inner last tokens more are =
    let p1 = one (kinds.Mark points.OpenBracket) in
    let p2 = spell_elements (kinds.Mark points.Comma) es in
    let p3 = spell_rest es tail in
    let p5 = one (kinds.Mark points.CloseBracket) in
    let k5 = spelled_kinds p5 ++ more in
    let k4 = spelled_kinds (comma_if comma) ++ k5 in
    let k3 = spelled_kinds p3 ++ k4 in
    let a = split (p1 ++ p2 ++ p3 ++ comma_if comma) p5 tokens more are in
    let b = split (p1 ++ p2 ++ p3) (comma_if comma) tokens k5 a in
    let c = split (p1 ++ p2) p3 tokens k4 b in
    let d = split p1 p2 tokens k3 c in
    let opens = taken p1 (refl, tt) tokens (spelled_kinds p2 ++ k3) d in
    let inside = inner opens.left k3 opens.kinds in
    let rests = last inside.left k4 inside.kinds in
    let commas = taken (comma_if comma) (free_comma comma) rests.left k5 rests.kinds in
    let closes = taken p5 (refl, tt) commas.left more commas.kinds in
    let rest_reads = subst (λ p. SpellsTree inside.left p rests.left) (sym (same_rest inside.there es rests.there inside.same)) rests.reads in
    record {
      there = list inside.there rests.there comma;
      same = ap₂ (λ x rest. list x rest comma) inside.same rests.same;
      left = closes.left;
      reads = reads_then (reads_then (reads_then (reads_then opens.reads inside.reads) rest_reads) commas.reads) closes.reads;
      kinds = closes.kinds;
    }

place_close : (from : ℕ) (es : Entries) (inner_comma comma : Bool) → PlacesEntries spell_entries es → PlacesExpression (close from es inner_comma comma)
place_close from es inner_comma comma inner tokens more are =
    let word = kinds.Name (codes "close") in
    let p2 = one (kinds.Mark points.OpenParenthesis) in
    let p3 = braced inner_comma es in
    let p5 = one (kinds.Mark points.CloseParenthesis) in
    let k5 = spelled_kinds p5 ++ more in
    let k4 = spelled_kinds (comma_if comma) ++ k5 in
    let k3 = spelled_kinds p3 ++ k4 in
    let a = split (one_at from word ++ p2 ++ p3 ++ comma_if comma) p5 tokens more are in
    let b = split (one_at from word ++ p2 ++ p3) (comma_if comma) tokens k5 a in
    let c = split (one_at from word ++ p2) p3 tokens k4 b in
    let d = split (one_at from word) p2 tokens k3 c in
    let first = first_taken word tokens (spelled_kinds p2 ++ k3) d in
    let opens = taken p2 (refl, tt) first.left k3 first.kinds in
    let inside = place_braced es inner_comma inner opens.left k4 opens.kinds in
    let commas = taken (comma_if comma) (free_comma comma) inside.left k5 inside.kinds in
    let closes = taken p5 (refl, tt) commas.left more commas.kinds in
    record {
      there = close first.place inside.there inner_comma comma;
      same = ap (λ x. close 0 x inner_comma comma) inside.same;
      left = closes.left;
      reads = reads_then (reads_then (reads_then (reads_then first.reads opens.reads) inside.reads) commas.reads) closes.reads;
      kinds = closes.kinds;
    }

place_field : (label : Label) (chain : List Label) (e : Expression) → PlacesExpression e → PlacesEntry (field label chain e)
place_field label chain e inner tokens more are =
    let labels = spell_label label ++ flat_map spell_label chain in
    let a = split labels (spell e) tokens more are in
    let front = taken labels (free_then (spell_label label) (flat_map spell_label chain) (free_label label) (free_chain chain)) tokens (spelled_kinds (spell e) ++ more) a in
    let inside = inner front.left more front.kinds in
    record { there = field label chain inside.there; same = ap (λ x. field label chain x) inside.same; left = inside.left; reads = reads_then front.reads inside.reads; kinds = inside.kinds }

place_definition : (t : List ℕ) (from : ℕ) (chain : List Label) (e : Expression) → PlacesExpression e → PlacesEntry (definition t from chain e)
place_definition t from chain e inner tokens more are =
    let colon = one (kinds.Mark points.Colon) in
    let labels = flat_map spell_label chain in
    let k3 = spelled_kinds labels ++ (spelled_kinds (spell e) ++ more) in
    let a = split (one_at from (kinds.Definition t) ++ colon ++ labels) (spell e) tokens more are in
    let b = split (one_at from (kinds.Definition t) ++ colon) labels tokens (spelled_kinds (spell e) ++ more) a in
    let c = split (one_at from (kinds.Definition t)) colon tokens k3 b in
    let first = first_taken (kinds.Definition t) tokens (spelled_kinds colon ++ k3) c in
    let colons = taken colon (refl, tt) first.left k3 first.kinds in
    let front = taken labels (free_chain chain) colons.left (spelled_kinds (spell e) ++ more) colons.kinds in
    let inside = inner front.left more front.kinds in
    record {
      there = definition t first.place chain inside.there;
      same = ap (λ x. definition t 0 chain x) inside.same;
      left = inside.left;
      reads = reads_then (reads_then (reads_then first.reads colons.reads) front.reads) inside.reads;
      kinds = inside.kinds;
    }

place_branch_of : (marked : Bool) (from : ℕ) (e : Expression) → PlacesExpression e → PlacesBranch (branch marked from e)
place_branch_of marked from e inner tokens more are =
    let a = split (star_if marked) (place_first from (spell e)) tokens more are in
    let stars = taken (star_if marked) (free_star marked) tokens (spelled_kinds (place_first from (spell e)) ++ more) a in
    let inside = inner stars.left more (stars.kinds ∙ ap (λ ks. ks ++ more) (placed_kinds from (spell e))) in
    let place = place_of stars.left in
    record {
      there = branch marked place.0 inside.there;
      same = ap (λ x. branch marked 0 x) inside.same;
      left = inside.left;
      reads = reads_then stars.reads (reads_placed place.0 place.1 inside.reads);
      kinds = inside.kinds;
    }

-- a first one and the others
place_element : (sign : TokenKind) (e : Expression) (es : Elements) → PlacesExpression e → PlacesElements (spell_more_elements sign) es → PlacesElements (spell_elements sign) (element e es)
place_element sign e es here others tokens more are =
    let a = split (spell e) (spell_more_elements sign es) tokens more are in
    let first = here tokens (spelled_kinds (spell_more_elements sign es) ++ more) a in
    let rest = others first.left more first.kinds in
    record { there = element first.there rest.there; same = ap₂ element first.same rest.same; left = rest.left; reads = reads_then first.reads rest.reads; kinds = rest.kinds }

place_more_element : (sign : TokenKind) (e : Expression) (es : Elements) → PlacesExpression e → PlacesElements (spell_more_elements sign) es → PlacesElements (spell_more_elements sign) (element e es)
place_more_element sign e es here others tokens more are =
    let a = split (one sign ++ spell e) (spell_more_elements sign es) tokens more are in
    let b = split (one sign) (spell e) tokens (spelled_kinds (spell_more_elements sign es) ++ more) a in
    let signed = taken (one sign) (refl, tt) tokens (spelled_kinds (spell e) ++ (spelled_kinds (spell_more_elements sign es) ++ more)) b in
    let first = here signed.left (spelled_kinds (spell_more_elements sign es) ++ more) signed.kinds in
    let rest = others first.left more first.kinds in
    record { there = element first.there rest.there; same = ap₂ element first.same rest.same; left = rest.left; reads = reads_then (reads_then signed.reads first.reads) rest.reads; kinds = rest.kinds }

place_next : (b : Branch) (bs : Branches) → PlacesBranch b → PlacesBranches spell_more_branches bs → PlacesBranches spell_branches (next_branch b bs)
place_next b bs here others tokens more are =
    let a = split (spell_branch b) (spell_more_branches bs) tokens more are in
    let first = here tokens (spelled_kinds (spell_more_branches bs) ++ more) a in
    let rest = others first.left more first.kinds in
    record { there = next_branch first.there rest.there; same = ap₂ next_branch first.same rest.same; left = rest.left; reads = reads_then first.reads rest.reads; kinds = rest.kinds }

place_more_next : (b : Branch) (bs : Branches) → PlacesBranch b → PlacesBranches spell_more_branches bs → PlacesBranches spell_more_branches (next_branch b bs)
place_more_next b bs here others tokens more are =
    let bar = one (kinds.Mark points.Bar) in
    let a = split (bar ++ spell_branch b) (spell_more_branches bs) tokens more are in
    let c = split bar (spell_branch b) tokens (spelled_kinds (spell_more_branches bs) ++ more) a in
    let bars = taken bar (refl, tt) tokens (spelled_kinds (spell_branch b) ++ (spelled_kinds (spell_more_branches bs) ++ more)) c in
    let first = here bars.left (spelled_kinds (spell_more_branches bs) ++ more) bars.kinds in
    let rest = others first.left more first.kinds in
    record { there = next_branch first.there rest.there; same = ap₂ next_branch first.same rest.same; left = rest.left; reads = reads_then (reads_then bars.reads first.reads) rest.reads; kinds = rest.kinds }

place_entry_first : (e : Entry) (es : Entries) → PlacesEntry e → PlacesEntries spell_more_entries es → PlacesEntries spell_entries (entry e es)
place_entry_first e es here others tokens more are =
    let a = split (spell_entry e) (spell_more_entries es) tokens more are in
    let first = here tokens (spelled_kinds (spell_more_entries es) ++ more) a in
    let rest = others first.left more first.kinds in
    record { there = entry first.there rest.there; same = ap₂ entry first.same rest.same; left = rest.left; reads = reads_then first.reads rest.reads; kinds = rest.kinds }

place_more_entry : (e : Entry) (es : Entries) → PlacesEntry e → PlacesEntries spell_more_entries es → PlacesEntries spell_more_entries (entry e es)
place_more_entry e es here others tokens more are =
    let comma = one (kinds.Mark points.Comma) in
    let a = split (comma ++ spell_entry e) (spell_more_entries es) tokens more are in
    let b = split comma (spell_entry e) tokens (spelled_kinds (spell_more_entries es) ++ more) a in
    let commas = taken comma (refl, tt) tokens (spelled_kinds (spell_entry e) ++ (spelled_kinds (spell_more_entries es) ++ more)) b in
    let first = here commas.left (spelled_kinds (spell_more_entries es) ++ more) commas.kinds in
    let rest = others first.left more first.kinds in
    record { there = entry first.there rest.there; same = ap₂ entry first.same rest.same; left = rest.left; reads = reads_then (reads_then commas.reads first.reads) rest.reads; kinds = rest.kinds }

-- ---- trees
place_conjunction : (es : Elements) → PlacesElements (spell_elements (kinds.Mark points.Ampersand)) es → PlacesExpression (conjunction es)
place_conjunction es inner tokens more are =
    let inside = inner tokens more are in
    record { there = conjunction inside.there; same = ap conjunction inside.same; left = inside.left; reads = inside.reads; kinds = inside.kinds }

place_disjunction : (bs : Branches) → PlacesBranches spell_branches bs → PlacesExpression (disjunction bs)
place_disjunction bs inner tokens more are =
    let inside = inner tokens more are in
    record { there = disjunction inside.there; same = ap disjunction inside.same; left = inside.left; reads = inside.reads; kinds = inside.kinds }

no_elements_there : (sign : TokenKind) → PlacesElements (spell_elements sign) no_elements
no_elements_there sign tokens more are = record { there = no_elements; same = refl; left = tokens; reads = reads_none; kinds = are }

no_more_elements_there : (sign : TokenKind) → PlacesElements (spell_more_elements sign) no_elements
no_more_elements_there sign tokens more are = record { there = no_elements; same = refl; left = tokens; reads = reads_none; kinds = are }

no_branches_there : PlacesBranches spell_branches no_branches
no_branches_there tokens more are = record { there = no_branches; same = refl; left = tokens; reads = reads_none; kinds = are }

no_more_branches_there : PlacesBranches spell_more_branches no_branches
no_more_branches_there tokens more are = record { there = no_branches; same = refl; left = tokens; reads = reads_none; kinds = are }

no_entries_there : PlacesEntries spell_entries no_entries
no_entries_there tokens more are = record { there = no_entries; same = refl; left = tokens; reads = reads_none; kinds = are }

no_more_entries_there : PlacesEntries spell_more_entries no_entries
no_more_entries_there tokens more are = record { there = no_entries; same = refl; left = tokens; reads = reads_none; kinds = are }

ellipsis_there : PlacesEntry ellipsis
ellipsis_there tokens more are =
    let all = taken (one (kinds.Mark points.Ellipsis)) (refl, tt) tokens more are in
    record { there = ellipsis; same = refl; left = all.left; reads = all.reads; kinds = all.kinds }

mutual
  place : (e : Expression) → PlacesExpression e
  place (name n from) = place_name n from
  place (integer n) = fixed (integer n) (free_signed n)
  place (text t) = fixed (text t) (refl, tt)
  place bottom = fixed bottom (refl, tt)
  place (bound c n) = fixed (bound c n) (free_then (one (comparison_kind c)) (spell_signed n) (refl, tt) (free_signed n))
  place (other_integer n) = fixed (other_integer n) (free_then (one (kinds.Mark points.NotEqual)) (spell_signed n) (refl, tt) (free_signed n))
  place (other_text t) = fixed (other_text t) (refl, (refl, tt))
  place (parenthesis e comma) = place_parenthesis e comma (place e)
  place (struct es comma) = place_struct es comma (place_entries es)
  place (close from es inner comma) = place_close from es inner comma (place_entries es)
  place (list es tail comma) = place_list es tail comma (place_elements es (kinds.Mark points.Comma)) (place_rest tail es)
  place (conjunction es) = place_conjunction es (place_elements es (kinds.Mark points.Ampersand))
  place (disjunction bs) = place_disjunction bs (place_branches bs)

  place_elements : (es : Elements) (sign : TokenKind) → PlacesElements (spell_elements sign) es
  place_elements no_elements sign = no_elements_there sign
  place_elements (element e es) sign = place_element sign e es (place e) (place_more_elements es sign)

  place_more_elements : (es : Elements) (sign : TokenKind) → PlacesElements (spell_more_elements sign) es
  place_more_elements no_elements sign = no_more_elements_there sign
  place_more_elements (element e es) sign = place_more_element sign e es (place e) (place_more_elements es sign)

  place_rest : (tail : Rest) (es : Elements) → PlacesRest es tail
  place_rest no_rest es = no_rest_there es
  place_rest any_rest es = any_rest_there es
  place_rest (each_rest e) es = place_each es e (place e)

  place_branch : (b : Branch) → PlacesBranch b
  place_branch (branch marked from e) = place_branch_of marked from e (place e)

  place_branches : (bs : Branches) → PlacesBranches spell_branches bs
  place_branches no_branches = no_branches_there
  place_branches (next_branch b bs) = place_next b bs (place_branch b) (place_more_branches bs)

  place_more_branches : (bs : Branches) → PlacesBranches spell_more_branches bs
  place_more_branches no_branches = no_more_branches_there
  place_more_branches (next_branch b bs) = place_more_next b bs (place_branch b) (place_more_branches bs)

  place_entry : (e : Entry) → PlacesEntry e
  place_entry ellipsis = ellipsis_there
  place_entry (field label chain e) = place_field label chain e (place e)
  place_entry (definition t from chain e) = place_definition t from chain e (place e)

  place_entries : (es : Entries) → PlacesEntries spell_entries es
  place_entries no_entries = no_entries_there
  place_entries (entry e es) = place_entry_first e es (place_entry e) (place_more_entries es)

  place_more_entries : (es : Entries) → PlacesEntries spell_more_entries es
  place_more_entries no_entries = no_more_entries_there
  place_more_entries (entry e es) = place_more_entry e es (place_entry e) (place_more_entries es)

-- a file with places that tokens spell
pub record IsPlacedFile (file : FileTree) (tokens : List Token) : Type 0 where
  pub there : FileTree
  pub same : unplaced_file there ≡ unplaced_file file
  pub reads : SpellsTree tokens (spell_file there) []

all_taken : {a : List Token} {p : List SpelledPiece} (b : List Token) → kinds_of_bytes b ≡ [] → SpellsTree a p b → SpellsTree a p []
all_taken [] none reads = reads
all_taken (token ∷ b) none reads = cc

-- Tokens that have the kinds of a file's spelling spell the file with their places.
pub place_file : (file : FileTree) (tokens : List Token) → kinds_of_bytes tokens ≡ spelled_kinds (spell_file file) → IsPlacedFile file tokens
place_file file tokens are =
    let p1 = spell_package file.package_clause in
    let p2 = spell_entries file.declarations in
    let p3 = comma_if file.comma in
    let a = split (p1 ++ p2) p3 tokens [] (are ∙ sym (append-nil (spelled_kinds (spell_file file)))) in
    let b = split p1 p2 tokens (spelled_kinds p3 ++ []) a in
    let clause = taken p1 (free_package file.package_clause) tokens (spelled_kinds p2 ++ (spelled_kinds p3 ++ [])) b in
    let inside = place_entries file.declarations clause.left (spelled_kinds p3 ++ []) clause.kinds in
    let commas = taken p3 (free_comma file.comma) inside.left [] inside.kinds in
    record {
      there = record { package_clause = file.package_clause; declarations = inside.there; comma = file.comma };
      same = ap (λ es. record { package_clause = file.package_clause; declarations = es; comma = file.comma }) inside.same;
      reads = all_taken commas.left commas.kinds (reads_then (reads_then clause.reads inside.reads) commas.reads);
    }
