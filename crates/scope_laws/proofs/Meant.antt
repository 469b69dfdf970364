-- Trees and the same trees without their places mean the same, and have the same terms that are not
-- scalar.
use Rattle.std.proofs.Common.{◌≡◌, ◌∙◌, ap, sym, refl, ℕ, zero, suc, Bool, true, false, cond, Option, None, Some, List, [], ◌∷◌, ◌++◌, map, length}
use Rattle.std.proofs.lemmas.List.{map-append}
use Rattle.std.proofs.lemmas.Option.{slice_get-map}
use Rattle.std.specs.Prelude.{slice_get}
use Rattle.std.specs.Option.{option_map, option_map_or}
use Rattle.cue_syntax.specs.declared.tree.Identifier.{Identifier}
use Rattle.cue_syntax.specs.declared.tree.Identifier.TheVariants as identifiers
use Rattle.cue_syntax.specs.Syntax as tree
use Rattle.cue_syntax.specs.Syntax.{Expression, Elements, no_elements, element, branch, Branches, no_branches, next_branch, ellipsis, field, definition, Entries, no_entries, entry}
use Rattle.cue_syntax.specs.Unplaced.{unplaced, unplaced_elements, unplaced_rest, unplaced_branches, unplaced_entries}
use Rattle.cue_scope.specs.Core.{Core, bottom, closed, conjunction, disjunction, struct, close, list, each, core, followed_by, choice, member, dots, is_scalar}
use Rattle.cue_scope.specs.Definitions.{Definition, definitions, number_of_name}
use Rattle.cue_scope.specs.Limits.{size, depth}
use Rattle.cue_scope.specs.Meaning.{meant, meant_elements, meant_branches, meant_members, meant_name, meant_use, meaning_within, meaning_of_number, meant_fields, meant_text, nest_in_labels, meant_rest, text_of}
use Rattle.cue_scope.specs.Terms.{terms, terms_of_elements, terms_of_rest, terms_of_branches, terms_of_entries, bad_terms}
use Rattle.scope_laws.specs.Places.{KeepsMeaning}
use Rattle.scope_laws.proofs.Bare.{bare, bare_definitions, SameNumbers, bare_numbers, bare_length, zeros}

-- uses of definitions mean the same
abbrev pub SameUses : (ℕ → Core) → (ℕ → Core) → Type 0
SameUses f g = (i : ℕ) → f i ≡ g i

option_same : (f g : ℕ → Core) → SameUses f g → (o : Option ℕ) → option_map_or f o bottom ≡ option_map_or g o bottom
option_same f g uses None = refl
option_same f g uses (Some i) = uses i

name_same : (cs ds : List Definition) (f g : ℕ → Core) → SameNumbers cs ds → SameUses f g → (n : Identifier) → meant_name cs f n ≡ meant_name ds g n
name_same cs ds f g same uses (identifiers.Plain t) = refl
name_same cs ds f g same uses (identifiers.Hidden t) = refl
name_same cs ds f g same uses (identifiers.Definition t) = ap (λ z. option_map_or f z bottom) (same t) ∙ option_same f g uses (number_of_name t ds)

mutual
  meant_same : (cs ds : List Definition) (f g : ℕ → Core) → SameNumbers cs ds → SameUses f g → (e : Expression) → meant cs f (unplaced e) ≡ meant ds g e
  meant_same cs ds f g same uses (tree.name n place) = name_same cs ds f g same uses n
  meant_same cs ds f g same uses (tree.integer n) = refl
  meant_same cs ds f g same uses (tree.text t) = refl
  meant_same cs ds f g same uses tree.bottom = refl
  meant_same cs ds f g same uses (tree.bound c n) = refl
  meant_same cs ds f g same uses (tree.other_integer n) = refl
  meant_same cs ds f g same uses (tree.other_text t) = refl
  meant_same cs ds f g same uses (tree.parenthesis e comma) = meant_same cs ds f g same uses e
  meant_same cs ds f g same uses (tree.struct es comma) = ap struct (members_same cs ds f g same uses es)
  meant_same cs ds f g same uses (tree.close place es inner comma) = ap close (members_same cs ds f g same uses es)
  meant_same cs ds f g same uses (tree.list es rest comma) =
      ap (λ z. list (followed_by z (meant_rest cs f (unplaced_rest rest)))) (elements_same cs ds f g same uses es)
      ∙ ap (λ z. list (followed_by (meant_elements ds g es) z)) (rest_same cs ds f g same uses rest)
  meant_same cs ds f g same uses (tree.conjunction es) = ap conjunction (elements_same cs ds f g same uses es)
  meant_same cs ds f g same uses (tree.disjunction bs) = ap disjunction (branches_same cs ds f g same uses bs)

  elements_same : (cs ds : List Definition) (f g : ℕ → Core) → SameNumbers cs ds → SameUses f g → (es : Elements) → meant_elements cs f (unplaced_elements es) ≡ meant_elements ds g es
  elements_same cs ds f g same uses no_elements = refl
  elements_same cs ds f g same uses (element e es) =
      ap (λ z. core z (meant_elements cs f (unplaced_elements es))) (meant_same cs ds f g same uses e)
      ∙ ap (λ z. core (meant ds g e) z) (elements_same cs ds f g same uses es)

  rest_same : (cs ds : List Definition) (f g : ℕ → Core) → SameNumbers cs ds → SameUses f g → (rest : tree.Rest) → meant_rest cs f (unplaced_rest rest) ≡ meant_rest ds g rest
  rest_same cs ds f g same uses tree.no_rest = refl
  rest_same cs ds f g same uses tree.any_rest = refl
  rest_same cs ds f g same uses (tree.each_rest e) = ap each (meant_same cs ds f g same uses e)

  branches_same : (cs ds : List Definition) (f g : ℕ → Core) → SameNumbers cs ds → SameUses f g → (bs : Branches) → meant_branches cs f (unplaced_branches bs) ≡ meant_branches ds g bs
  branches_same cs ds f g same uses no_branches = refl
  branches_same cs ds f g same uses (next_branch (branch marked place e) bs) =
      ap (λ z. choice marked z (meant_branches cs f (unplaced_branches bs))) (meant_same cs ds f g same uses e)
      ∙ ap (λ z. choice marked (meant ds g e) z) (branches_same cs ds f g same uses bs)

  members_same : (cs ds : List Definition) (f g : ℕ → Core) → SameNumbers cs ds → SameUses f g → (es : Entries) → meant_members cs f (unplaced_entries es) ≡ meant_members ds g es
  members_same cs ds f g same uses no_entries = refl
  members_same cs ds f g same uses (entry ellipsis es) = ap dots (members_same cs ds f g same uses es)
  members_same cs ds f g same uses (entry (field l chain e) es) =
      ap (λ z. member (text_of l.name) l.mark (nest_in_labels chain z) (meant_members cs f (unplaced_entries es))) (meant_same cs ds f g same uses e)
      ∙ ap (λ z. member (text_of l.name) l.mark (nest_in_labels chain (meant ds g e)) z) (members_same cs ds f g same uses es)
  members_same cs ds f g same uses (entry (definition t place chain e) es) = members_same cs ds f g same uses es

use_same : (cs ds : List Definition) (f g : ℕ → Core) → SameNumbers cs ds → SameUses f g → (o : Option Definition) → meant_use cs f (option_map bare o) ≡ meant_use ds g o
use_same cs ds f g same uses None = refl
use_same cs ds f g same uses (Some d) = ap (λ z. closed (nest_in_labels d.chain z)) (meant_same cs ds f g same uses d.value)

within_same : (ds : List Definition) (steps : ℕ) → SameUses (meaning_within steps (map bare ds)) (meaning_within steps ds)
unfolding meaning_within
within_same ds zero i = refl
within_same ds (suc steps) i =
    ap (λ z. meant_use (map bare ds) (meaning_within steps (map bare ds)) z) (slice_get-map bare ds i)
    ∙ use_same (map bare ds) ds (meaning_within steps (map bare ds)) (meaning_within steps ds) (bare_numbers ds) (within_same ds steps) (slice_get ds i)

meaning_same : (ds : List Definition) → SameUses (meaning_of_number (map bare ds)) (meaning_of_number ds)
meaning_same ds i = ap (λ n. meaning_within n (map bare ds) i) (bare_length ds) ∙ within_same ds (length ds) i

fields_same : (cs ds : List Definition) (f g : ℕ → Core) → SameNumbers cs ds → SameUses f g → (es : Entries) → meant_fields cs f (unplaced_entries es) ≡ meant_fields ds g es
fields_same cs ds f g same uses no_entries = refl
fields_same cs ds f g same uses (entry ellipsis es) = fields_same cs ds f g same uses es
fields_same cs ds f g same uses (entry (field l chain e) es) =
    ap (λ z. member (text_of l.name) l.mark (nest_in_labels chain z) (meant_fields cs f (unplaced_entries es))) (meant_same cs ds f g same uses e)
    ∙ ap (λ z. member (text_of l.name) l.mark (nest_in_labels chain (meant ds g e)) z) (fields_same cs ds f g same uses es)
fields_same cs ds f g same uses (entry (definition t place chain e) es) = fields_same cs ds f g same uses es

pub text_same : (es : Entries) → meant_text (unplaced_entries es) ≡ meant_text es
text_same es =
    let ds = definitions es in
    ap (λ z. struct (meant_fields z (meaning_of_number z) (unplaced_entries es))) (bare_definitions es)
    ∙ ap struct (fields_same (map bare ds) ds (meaning_of_number (map bare ds)) (meaning_of_number ds) (bare_numbers ds) (meaning_same ds) es)

-- a text means the same without places, and has the same size and depth
pub meant_alike : KeepsMeaning
meant_alike es = record { meaning = text_same es; size = ap size (text_same es); depth = ap depth (text_same es) }

zeros_then : (xs ys : List ℕ) → zeros xs ++ zeros ys ≡ zeros (xs ++ ys)
zeros_then xs ys = sym (map-append (λ n. 0) xs ys)

term_same : (b : Bool) (place : ℕ) → cond b [] (0 ∷ []) ≡ zeros (cond b [] (place ∷ []))
term_same true place = refl
term_same false place = refl

-- the lists of places that two parts give, put together
both : {a b : List ℕ} (xs ys : List ℕ) → a ≡ zeros xs → b ≡ zeros ys → a ++ b ≡ zeros (xs ++ ys)
both {a = a} {b = b} xs ys first second = ap (λ z. z ++ b) first ∙ ap (λ z. zeros xs ++ z) second ∙ zeros_then xs ys

mutual
  terms_same : (cs ds : List Definition) (f g : ℕ → Core) → SameNumbers cs ds → SameUses f g → (e : Expression) → terms cs f (unplaced e) ≡ zeros (terms ds g e)
  terms_same cs ds f g same uses (tree.name n place) = refl
  terms_same cs ds f g same uses (tree.integer n) = refl
  terms_same cs ds f g same uses (tree.text t) = refl
  terms_same cs ds f g same uses tree.bottom = refl
  terms_same cs ds f g same uses (tree.bound c n) = refl
  terms_same cs ds f g same uses (tree.other_integer n) = refl
  terms_same cs ds f g same uses (tree.other_text t) = refl
  terms_same cs ds f g same uses (tree.parenthesis e comma) = terms_same cs ds f g same uses e
  terms_same cs ds f g same uses (tree.struct es comma) = terms_of_entries_same cs ds f g same uses es
  terms_same cs ds f g same uses (tree.close place es inner comma) = terms_of_entries_same cs ds f g same uses es
  terms_same cs ds f g same uses (tree.list es rest comma) =
      both (terms_of_elements ds g es) (terms_of_rest ds g rest) (terms_of_elements_same cs ds f g same uses es) (terms_of_rest_same cs ds f g same uses rest)
  terms_same cs ds f g same uses (tree.conjunction es) = terms_of_elements_same cs ds f g same uses es
  terms_same cs ds f g same uses (tree.disjunction bs) = terms_of_branches_same cs ds f g same uses bs

  terms_of_elements_same : (cs ds : List Definition) (f g : ℕ → Core) → SameNumbers cs ds → SameUses f g → (es : Elements) → terms_of_elements cs f (unplaced_elements es) ≡ zeros (terms_of_elements ds g es)
  terms_of_elements_same cs ds f g same uses no_elements = refl
  terms_of_elements_same cs ds f g same uses (element e es) = both (terms ds g e) (terms_of_elements ds g es) (terms_same cs ds f g same uses e) (terms_of_elements_same cs ds f g same uses es)

  terms_of_rest_same : (cs ds : List Definition) (f g : ℕ → Core) → SameNumbers cs ds → SameUses f g → (rest : tree.Rest) → terms_of_rest cs f (unplaced_rest rest) ≡ zeros (terms_of_rest ds g rest)
  terms_of_rest_same cs ds f g same uses tree.no_rest = refl
  terms_of_rest_same cs ds f g same uses tree.any_rest = refl
  terms_of_rest_same cs ds f g same uses (tree.each_rest e) = terms_same cs ds f g same uses e

  terms_of_branches_same : (cs ds : List Definition) (f g : ℕ → Core) → SameNumbers cs ds → SameUses f g → (bs : Branches) → terms_of_branches cs f (unplaced_branches bs) ≡ zeros (terms_of_branches ds g bs)
  terms_of_branches_same cs ds f g same uses no_branches = refl
  terms_of_branches_same cs ds f g same uses (next_branch (branch marked place e) bs) =
      let first : cond (is_scalar (meant cs f (unplaced e))) [] (0 ∷ []) ≡ zeros (cond (is_scalar (meant ds g e)) [] (place ∷ [])) =
      ap (λ z. cond (is_scalar z) [] (0 ∷ [])) (meant_same cs ds f g same uses e) ∙ term_same (is_scalar (meant ds g e)) place in
      let here = cond (is_scalar (meant ds g e)) [] (place ∷ []) in
      both (here ++ terms ds g e) (terms_of_branches ds g bs) (both here (terms ds g e) first (terms_same cs ds f g same uses e)) (terms_of_branches_same cs ds f g same uses bs)

  terms_of_entries_same : (cs ds : List Definition) (f g : ℕ → Core) → SameNumbers cs ds → SameUses f g → (es : Entries) → terms_of_entries cs f (unplaced_entries es) ≡ zeros (terms_of_entries ds g es)
  terms_of_entries_same cs ds f g same uses no_entries = refl
  terms_of_entries_same cs ds f g same uses (entry ellipsis es) = terms_of_entries_same cs ds f g same uses es
  terms_of_entries_same cs ds f g same uses (entry (field l chain e) es) = both (terms ds g e) (terms_of_entries ds g es) (terms_same cs ds f g same uses e) (terms_of_entries_same cs ds f g same uses es)
  terms_of_entries_same cs ds f g same uses (entry (definition t place chain e) es) = both (terms ds g e) (terms_of_entries ds g es) (terms_same cs ds f g same uses e) (terms_of_entries_same cs ds f g same uses es)

pub bad_terms_same : (es : Entries) → bad_terms (unplaced_entries es) ≡ zeros (bad_terms es)
bad_terms_same es =
    let ds = definitions es in
    ap (λ z. terms_of_entries z (meaning_of_number z) (unplaced_entries es)) (bare_definitions es)
    ∙ terms_of_entries_same (map bare ds) ds (meaning_of_number (map bare ds)) (meaning_of_number ds) (bare_numbers ds) (meaning_same ds) es
