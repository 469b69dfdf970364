-- What a use of a definition means is its body, closed, where no definition reaches itself.
use Rattle.std.proofs.Common.{◌≡◌, ℕ, zero, suc, ◌<◌, ◌≤◌, inl, inr, ⊎_elim, arith, true, false, Option, None, Some, List, [], ◌∷◌, ◌++◌, length, get_or, map, refl, sym, ap, subst, ◌∙◌}
use Rattle.std.proofs.Math.Dec.{eqb}
use Rattle.std.proofs.lemmas.Bool.Decides.{eqb_tells}
use Rattle.std.proofs.lemmas.Map.Steps.{length-le_from_distinct_below}
use Rattle.std.specs.Prelude.{slice_get}
use Rattle.std.specs.List.{IsDistinct, AllByRecursion, list_any}
use Rattle.std.specs.Option.{option_to_list, option_map_or}
use Rattle.cue_syntax.specs.declared.tree.Identifier.{Identifier}
use Rattle.cue_syntax.specs.declared.tree.Identifier.TheVariants as identifiers
use Rattle.cue_syntax.specs.Syntax as tree
use Rattle.cue_syntax.specs.Syntax.{Expression, Elements, no_elements, element, branch, Branches, no_branches, next_branch, ellipsis, field, definition, Entries, no_entries, entry}
use Rattle.cue_scope.specs.Core.{Core, bottom, closed, conjunction, disjunction, struct, close, list, each, core, followed_by, choice, member, dots}
use Rattle.cue_scope.specs.Definitions.{Definition, number_of_name}
use Rattle.cue_scope.specs.Graph.{IsNodeIn, targets, PointsTo, IsOrder}
use Rattle.cue_scope.specs.Meaning.{meant, meant_elements, meant_branches, meant_members, meant_name, meant_use, meaning_within, meaning_of_number, nest_in_labels, meant_rest, text_of}
use Rattle.cue_scope.specs.Uses.{uses, uses_of_name, uses_of_elements, uses_of_rest, uses_of_branches, uses_of_entries, graph}
use Rattle.cue_scope.proofs.Nodes.{in_append_left, in_append_right, in_index}

-- two ways to look definitions up that agree on these
pub IsAlike : (ℕ → Core) → (ℕ → Core) → List ℕ → Type 0
IsAlike f g is = (i : ℕ) → IsNodeIn i is → f i ≡ g i

alike_left : (f g : ℕ → Core) (us vs : List ℕ) → IsAlike f g (us ++ vs) → IsAlike f g us
unfolding IsAlike
alike_left f g us vs h = λ i there. h i (in_append_left us vs i there)

alike_right : (f g : ℕ → Core) (us vs : List ℕ) → IsAlike f g (us ++ vs) → IsAlike f g vs
unfolding IsAlike
alike_right f g us vs h = λ i there. h i (in_append_right us vs i there)

alike_option : (f g : ℕ → Core) (o : Option ℕ) → IsAlike f g (option_to_list o) → option_map_or f o bottom ≡ option_map_or g o bottom
unfolding IsAlike
alike_option f g None h = refl
alike_option f g (Some i) h = h i (inl refl)

alike_name : (ds : List Definition) (f g : ℕ → Core) (n : Identifier) → IsAlike f g (uses_of_name ds n) → meant_name ds f n ≡ meant_name ds g n
alike_name ds f g (identifiers.Plain t) h = refl
alike_name ds f g (identifiers.Hidden t) h = refl
alike_name ds f g (identifiers.Definition t) h = alike_option f g (number_of_name t ds) h

mutual
  pub alike : (ds : List Definition) (f g : ℕ → Core) (e : Expression) → IsAlike f g (uses ds e) → meant ds f e ≡ meant ds g e
  alike ds f g (tree.name n place) h = alike_name ds f g n h
  alike ds f g (tree.integer n) h = refl
  alike ds f g (tree.text t) h = refl
  alike ds f g tree.bottom h = refl
  alike ds f g (tree.bound c n) h = refl
  alike ds f g (tree.other_integer n) h = refl
  alike ds f g (tree.other_text t) h = refl
  alike ds f g (tree.parenthesis e comma) h = alike ds f g e h
  alike ds f g (tree.struct es comma) h = ap struct (alike_members ds f g es h)
  alike ds f g (tree.close place es inner comma) h = ap close (alike_members ds f g es h)
  alike ds f g (tree.list es rest comma) h =
      ap (λ z. list (followed_by z (meant_rest ds f rest))) (alike_elements ds f g es (alike_left f g (uses_of_elements ds es) (uses_of_rest ds rest) h))
      ∙ ap (λ z. list (followed_by (meant_elements ds g es) z)) (alike_rest ds f g rest (alike_right f g (uses_of_elements ds es) (uses_of_rest ds rest) h))
  alike ds f g (tree.conjunction es) h = ap conjunction (alike_elements ds f g es h)
  alike ds f g (tree.disjunction bs) h = ap disjunction (alike_branches ds f g bs h)

  alike_elements : (ds : List Definition) (f g : ℕ → Core) (es : Elements) → IsAlike f g (uses_of_elements ds es) → meant_elements ds f es ≡ meant_elements ds g es
  alike_elements ds f g no_elements h = refl
  alike_elements ds f g (element e es) h =
      ap (λ z. core z (meant_elements ds f es)) (alike ds f g e (alike_left f g (uses ds e) (uses_of_elements ds es) h))
      ∙ ap (λ z. core (meant ds g e) z) (alike_elements ds f g es (alike_right f g (uses ds e) (uses_of_elements ds es) h))

  alike_rest : (ds : List Definition) (f g : ℕ → Core) (rest : tree.Rest) → IsAlike f g (uses_of_rest ds rest) → meant_rest ds f rest ≡ meant_rest ds g rest
  alike_rest ds f g tree.no_rest h = refl
  alike_rest ds f g tree.any_rest h = refl
  alike_rest ds f g (tree.each_rest e) h = ap each (alike ds f g e h)

  alike_branches : (ds : List Definition) (f g : ℕ → Core) (bs : Branches) → IsAlike f g (uses_of_branches ds bs) → meant_branches ds f bs ≡ meant_branches ds g bs
  alike_branches ds f g no_branches h = refl
  alike_branches ds f g (next_branch (branch marked place e) bs) h =
      ap (λ z. choice marked z (meant_branches ds f bs)) (alike ds f g e (alike_left f g (uses ds e) (uses_of_branches ds bs) h))
      ∙ ap (λ z. choice marked (meant ds g e) z) (alike_branches ds f g bs (alike_right f g (uses ds e) (uses_of_branches ds bs) h))

  alike_members : (ds : List Definition) (f g : ℕ → Core) (es : Entries) → IsAlike f g (uses_of_entries ds es) → meant_members ds f es ≡ meant_members ds g es
  alike_members ds f g no_entries h = refl
  alike_members ds f g (entry ellipsis es) h = ap dots (alike_members ds f g es h)
  alike_members ds f g (entry (field l chain e) es) h =
      ap (λ z. member (text_of l.name) l.mark (nest_in_labels chain z) (meant_members ds f es)) (alike ds f g e (alike_left f g (uses ds e) (uses_of_entries ds es) h))
      ∙ ap (λ z. member (text_of l.name) l.mark (nest_in_labels chain (meant ds g e)) z) (alike_members ds f g es (alike_right f g (uses ds e) (uses_of_entries ds es) h))
  alike_members ds f g (entry (definition t place chain e) es) h = alike_members ds f g es (alike_right f g (uses ds e) (uses_of_entries ds es) h)

-- what the i-th definition uses are the nodes that the node i points to
pub uses_at : (ds xs : List Definition) (i : ℕ) (d : Definition) → slice_get xs i ≡ Some d → targets (map (λ x. uses ds x.value) xs) i ≡ uses ds d.value
uses_at ds [] i d is = absurd (cc)
uses_at ds (x ∷ xs) zero d is = let e : x ≡ d = cc in ap (λ (z : Definition). uses ds z.value) e
uses_at ds (x ∷ xs) (suc i) d is = uses_at ds xs i d is

alike_use : (ds : List Definition) (f g : ℕ → Core) (o : Option Definition) → ((d : Definition) → o ≡ Some d → IsAlike f g (uses ds d.value)) → meant_use ds f o ≡ meant_use ds g o
alike_use ds f g None h = refl
alike_use ds f g (Some d) h = ap (λ z. closed (nest_in_labels d.chain z)) (alike ds f g d.value (h d refl))

-- a definition at the place k of an order means the same, however many steps more than k are taken
alike_steps : (ds : List Definition) (order : List ℕ) → IsOrder (graph ds) order → (n k s t : ℕ) → k < n → k < length order → k < s → k < t
    → meaning_within s ds (get_or order k 0) ≡ meaning_within t ds (get_or order k 0)
unfolding IsAlike meaning_within
alike_steps ds order o zero k s t h l a b = absurd (omega arith)
alike_steps ds order o (suc n) k zero t h l a b = absurd (omega arith)
alike_steps ds order o (suc n) k (suc s) zero h l a b = absurd (omega arith)
alike_steps ds order o (suc n) k (suc s) (suc t) h l a b =
    alike_use ds (meaning_within s ds) (meaning_within t ds) (slice_get ds (get_or order k 0))
    (λ d is j there.
    let points : PointsTo (graph ds) (get_or order k 0) j = subst (λ z. IsNodeIn j z) (sym (uses_at ds ds (get_or order k 0) d is)) there in
    let before = o.after k j l points in
    let m = before.0 in
    let less : m < k = before.1 in
    let same : get_or order m 0 ≡ j = before.2 in
    subst (λ z. meaning_within s ds z ≡ meaning_within t ds z) same (alike_steps ds order o n m s t (omega arith) (omega arith) (omega arith) (omega arith)))

-- an order has no more places than there are nodes
all_apart : (x : ℕ) (ys : List ℕ) → ((m : ℕ) → m < length ys → get_or ys m 0 ≡ x → ⊥) → AllByRecursion (λ y. eqb x y ≡ false) ys
all_apart x [] h = tt
all_apart x (y ∷ ys) h = (⊎_elim (λ t. absurd (h 0 (omega arith) (sym t.1))) (λ f. f.0) (eqb_tells x y), all_apart x ys (λ m l e. h (suc m) (omega arith) e))

distinct : (xs : List ℕ) → ((k m : ℕ) → k < length xs → m < length xs → get_or xs k 0 ≡ get_or xs m 0 → k ≡ m) → IsDistinct eqb xs
unfolding IsDistinct
distinct [] once = tt
distinct (x ∷ xs) once = (all_apart x xs (λ m l e. let same = once (suc m) 0 (omega arith) (omega arith) e in omega (arith, same)), distinct xs (λ k m a b e. let same = once (suc k) (suc m) (omega arith) (omega arith) e in omega (arith, same)))

found_below : (xs : List ℕ) (n : ℕ) → ((i : ℕ) → IsNodeIn i xs → i < n) → (q : ℕ) → list_any (eqb q) xs ≡ true → q < n
found_below [] n h q e = absurd (cc)
found_below (x ∷ xs) n h q e =
    ⊎_elim (λ t. let less = h x (inl refl) in let same = t.1 in omega (arith, same, less))
    (λ f. found_below xs n (λ i there. h i (inr there)) q (rw f.0 at e)) (eqb_tells q x)

pub length_graph : (ds xs : List Definition) → length (map (λ x. uses ds x.value) xs) ≡ length xs
length_graph ds [] = refl
length_graph ds (x ∷ xs) = ap suc (length_graph ds xs)

pub order_short : (ds : List Definition) (order : List ℕ) → IsOrder (graph ds) order → length order ≤ length ds
order_short ds order o =
    let within = length-le_from_distinct_below order (length (graph ds)) (distinct order o.once) (found_below order (length (graph ds)) o.nodes) in
    let same = length_graph ds ds in
    omega (arith, within, same)

-- a use of a definition means its body, closed
pub meaning_is : (ds : List Definition) (order : List ℕ) → IsOrder (graph ds) order → (i : ℕ) → i < length ds → meaning_of_number ds i ≡ meant_use ds (meaning_of_number ds) (slice_get ds i)
unfolding meaning_within
meaning_is ds order o i h =
    let same = length_graph ds ds in
    let inside : i < length (graph ds) = omega (arith, same) in
    let found = in_index order i (o.all i inside) in
    let short = order_short ds order o in
    subst (λ z. meaning_within (length ds) ds z ≡ meaning_within (suc (length ds)) ds z) found.2
    (alike_steps ds order o (suc found.0) found.0 (length ds) (suc (length ds)) (omega arith) found.1 (let a = found.1 in omega arith) (let a = found.1 in omega arith))
