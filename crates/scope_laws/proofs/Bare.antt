-- Definitions without their places have the same names, numbers and uses.
use Rattle.std.proofs.Common.{◌≡◌, ◌∙◌, ap, sym, refl, ℕ, suc, ◌+◌, Bool, true, false, cond, Some, List, [], ◌∷◌, ◌++◌, map, length}
use Rattle.std.proofs.lemmas.List.{map-append}
use Rattle.std.specs.List.{position_from}
use Rattle.std.specs.Option.{option_to_list, is_some}
use Rattle.std.specs.Str.{bytes_eq}
use Rattle.cue_syntax.specs.declared.tree.Identifier.{Identifier}
use Rattle.cue_syntax.specs.declared.tree.Identifier.TheVariants as identifiers
use Rattle.cue_syntax.specs.Syntax as tree
use Rattle.cue_syntax.specs.Syntax.{Expression, Elements, no_elements, element, branch, Branches, no_branches, next_branch, ellipsis, field, definition, Entries, no_entries, entry}
use Rattle.cue_syntax.specs.Unplaced.{unplaced, unplaced_elements, unplaced_rest, unplaced_branches, unplaced_entries}
use Rattle.cue_scope.specs.Definitions.{Definition, definitions, number_of_name, repeats_after, repeated_names}
use Rattle.cue_scope.specs.Uses.{uses, uses_of_name, uses_of_elements, uses_of_rest, uses_of_branches, uses_of_entries, graph}

-- the same definition without places
abbrev pub bare : Definition → Definition
bare d = record { name = d.name; place = 0; chain = d.chain; value = unplaced d.value }

pub bare_definitions : (es : Entries) → definitions (unplaced_entries es) ≡ map bare (definitions es)
bare_definitions no_entries = refl
bare_definitions (entry ellipsis es) = bare_definitions es
bare_definitions (entry (field l chain e) es) = bare_definitions es
bare_definitions (entry (definition t place chain e) es) = ap (λ z. bare (record { name = t; place = place; chain = chain; value = e }) ∷ z) (bare_definitions es)

-- the same names have the same numbers
abbrev pub SameNumbers : List Definition → List Definition → Type 0
SameNumbers cs ds = (t : List ℕ) → number_of_name t cs ≡ number_of_name t ds

position_bare : (t : List ℕ) (i : ℕ) (ds : List Definition) → position_from (λ d. bytes_eq t d.name) i (map bare ds) ≡ position_from (λ d. bytes_eq t d.name) i ds
position_bare t i [] = refl
position_bare t i (d ∷ ds) = ap (λ z. cond (bytes_eq t d.name) (Some i) z) (position_bare t (i + 1) ds)

pub bare_numbers : (ds : List Definition) → SameNumbers (map bare ds) ds
bare_numbers ds t = position_bare t 0 ds

-- every place is 0
abbrev pub zeros : List ℕ → List ℕ
zeros ns = map (λ n. 0) ns

repeat_bare : (b : Bool) (place : ℕ) → cond b (0 ∷ []) [] ≡ zeros (cond b (place ∷ []) [])
repeat_bare true place = refl
repeat_bare false place = refl

repeats_bare : (before ds : List Definition) → repeats_after (map bare before) (map bare ds) ≡ zeros (repeats_after before ds)
repeats_bare before [] = refl
repeats_bare before (d ∷ ds) =
    let one = cond (is_some (number_of_name d.name before)) (d.place ∷ []) [] in
    let first : cond (is_some (number_of_name d.name (map bare before))) (0 ∷ []) [] ≡ zeros one =
    ap (λ z. cond (is_some z) (0 ∷ []) []) (bare_numbers before d.name) ∙ repeat_bare (is_some (number_of_name d.name before)) d.place in
    let later : repeats_after (map bare before ++ bare d ∷ []) (map bare ds) ≡ zeros (repeats_after (before ++ d ∷ []) ds) =
    ap (λ z. repeats_after z (map bare ds)) (sym (map-append bare before (d ∷ []))) ∙ repeats_bare (before ++ d ∷ []) ds in
    ap (λ z. z ++ repeats_after (map bare before ++ bare d ∷ []) (map bare ds)) first
    ∙ ap (λ z. zeros one ++ z) later
    ∙ sym (map-append (λ n. 0) one (repeats_after (before ++ d ∷ []) ds))

pub bare_repeats : (ds : List Definition) → repeated_names (map bare ds) ≡ zeros (repeated_names ds)
bare_repeats ds = repeats_bare [] ds

name_uses : (cs ds : List Definition) → SameNumbers cs ds → (n : Identifier) → uses_of_name cs n ≡ uses_of_name ds n
name_uses cs ds same (identifiers.Definition t) = ap (λ z. option_to_list z) (same t)
name_uses cs ds same (identifiers.Plain t) = refl
name_uses cs ds same (identifiers.Hidden t) = refl

mutual
  uses_same : (cs ds : List Definition) → SameNumbers cs ds → (e : Expression) → uses cs (unplaced e) ≡ uses ds e
  uses_same cs ds same (tree.name n place) = name_uses cs ds same n
  uses_same cs ds same (tree.integer n) = refl
  uses_same cs ds same (tree.text t) = refl
  uses_same cs ds same tree.bottom = refl
  uses_same cs ds same (tree.bound c n) = refl
  uses_same cs ds same (tree.other_integer n) = refl
  uses_same cs ds same (tree.other_text t) = refl
  uses_same cs ds same (tree.parenthesis e comma) = uses_same cs ds same e
  uses_same cs ds same (tree.struct es comma) = uses_of_entries_same cs ds same es
  uses_same cs ds same (tree.close place es inner comma) = uses_of_entries_same cs ds same es
  uses_same cs ds same (tree.list es rest comma) =
      ap (λ z. z ++ uses_of_rest cs (unplaced_rest rest)) (uses_of_elements_same cs ds same es) ∙ ap (λ z. uses_of_elements ds es ++ z) (uses_of_rest_same cs ds same rest)
  uses_same cs ds same (tree.conjunction es) = uses_of_elements_same cs ds same es
  uses_same cs ds same (tree.disjunction bs) = uses_of_branches_same cs ds same bs

  uses_of_elements_same : (cs ds : List Definition) → SameNumbers cs ds → (es : Elements) → uses_of_elements cs (unplaced_elements es) ≡ uses_of_elements ds es
  uses_of_elements_same cs ds same no_elements = refl
  uses_of_elements_same cs ds same (element e es) =
      ap (λ z. z ++ uses_of_elements cs (unplaced_elements es)) (uses_same cs ds same e) ∙ ap (λ z. uses ds e ++ z) (uses_of_elements_same cs ds same es)

  uses_of_rest_same : (cs ds : List Definition) → SameNumbers cs ds → (rest : tree.Rest) → uses_of_rest cs (unplaced_rest rest) ≡ uses_of_rest ds rest
  uses_of_rest_same cs ds same tree.no_rest = refl
  uses_of_rest_same cs ds same tree.any_rest = refl
  uses_of_rest_same cs ds same (tree.each_rest e) = uses_same cs ds same e

  uses_of_branches_same : (cs ds : List Definition) → SameNumbers cs ds → (bs : Branches) → uses_of_branches cs (unplaced_branches bs) ≡ uses_of_branches ds bs
  uses_of_branches_same cs ds same no_branches = refl
  uses_of_branches_same cs ds same (next_branch (branch marked place e) bs) =
      ap (λ z. z ++ uses_of_branches cs (unplaced_branches bs)) (uses_same cs ds same e) ∙ ap (λ z. uses ds e ++ z) (uses_of_branches_same cs ds same bs)

  uses_of_entries_same : (cs ds : List Definition) → SameNumbers cs ds → (es : Entries) → uses_of_entries cs (unplaced_entries es) ≡ uses_of_entries ds es
  uses_of_entries_same cs ds same no_entries = refl
  uses_of_entries_same cs ds same (entry ellipsis es) = uses_of_entries_same cs ds same es
  uses_of_entries_same cs ds same (entry (field l chain e) es) =
      ap (λ z. z ++ uses_of_entries cs (unplaced_entries es)) (uses_same cs ds same e) ∙ ap (λ z. uses ds e ++ z) (uses_of_entries_same cs ds same es)
  uses_of_entries_same cs ds same (entry (definition t place chain e) es) =
      ap (λ z. z ++ uses_of_entries cs (unplaced_entries es)) (uses_same cs ds same e) ∙ ap (λ z. uses ds e ++ z) (uses_of_entries_same cs ds same es)

graph_same : (cs ds : List Definition) → SameNumbers cs ds → (xs : List Definition) → map (λ (d : Definition). uses cs d.value) (map bare xs) ≡ map (λ (d : Definition). uses ds d.value) xs
graph_same cs ds same [] = refl
graph_same cs ds same (x ∷ xs) =
    ap (λ z. z ∷ map (λ (d : Definition). uses cs d.value) (map bare xs)) (uses_same cs ds same x.value)
    ∙ ap (λ z. uses ds x.value ∷ z) (graph_same cs ds same xs)

pub bare_graph : (ds : List Definition) → graph (map bare ds) ≡ graph ds
bare_graph ds = graph_same (map bare ds) ds (bare_numbers ds) ds

pub bare_length : (ds : List Definition) → length (map bare ds) ≡ length ds
bare_length [] = refl
bare_length (d ∷ ds) = ap suc (bare_length ds)
