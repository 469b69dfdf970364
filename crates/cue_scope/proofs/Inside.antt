-- What a text uses are definitions that it has.
use Rattle.std.proofs.Common.{◌≡◌, ℕ, zero, suc, ◌+◌, ◌<◌, arith, ⊎_elim, Bool, true, false, cond, Option, None, Some, List, [], ◌∷◌, ◌++◌, length, map, refl}
use Rattle.std.specs.Option.{option_to_list}
use Rattle.std.specs.List.{position_from}
use Rattle.std.specs.Str.{bytes_eq}
use Rattle.cue_syntax.specs.declared.tree.Identifier.{Identifier}
use Rattle.cue_syntax.specs.declared.tree.Identifier.TheVariants as identifiers
use Rattle.cue_syntax.specs.Syntax as tree
use Rattle.cue_syntax.specs.Syntax.{Expression, Elements, no_elements, element, branch, Branches, no_branches, next_branch, ellipsis, field, definition, Entries, no_entries, entry}
use Rattle.cue_scope.specs.Definitions.{Definition, number_of_name}
use Rattle.cue_scope.specs.Graph.{IsNodeIn, targets, IsClosed}
use Rattle.cue_scope.specs.Uses.{uses, uses_of_name, uses_of_elements, uses_of_rest, uses_of_branches, uses_of_entries, uses_of_fields, graph}
use Rattle.cue_scope.proofs.Nodes.{in_append}
use Rattle.cue_scope.proofs.Meanings.{length_graph}

-- each is below the bound
pub AreBelow : ℕ → List ℕ → Type 0
AreBelow n is = (i : ℕ) → IsNodeIn i is → i < n

pub below_is : (n : ℕ) (is : List ℕ) → AreBelow n is → (i : ℕ) → IsNodeIn i is → i < n
unfolding AreBelow
below_is n is h = h

below_none : (n : ℕ) → AreBelow n []
unfolding AreBelow
below_none n = λ i h. absurd h

below_append : (n : ℕ) (us vs : List ℕ) → AreBelow n us → AreBelow n vs → AreBelow n (us ++ vs)
unfolding AreBelow
below_append n us vs a b = λ i h. ⊎_elim (λ l. a i l) (λ r. b i r) (in_append us vs i h)

position_here : (b : Bool) (k i n : ℕ) (rest : Option ℕ) → (rest ≡ Some i → i < n) → k < n → cond b (Some k) rest ≡ Some i → i < n
position_here true k i n rest h less e = let same : k ≡ i = cc in omega arith
position_here false k i n rest h less e = h e

position_below : (p : Definition → Bool) (k : ℕ) (ds : List Definition) (i : ℕ) → position_from p k ds ≡ Some i → i < k + length ds
position_below p k [] i e = absurd (cc)
position_below p k (d ∷ ds) i e = position_here (p d) k i (k + length (d ∷ ds)) (position_from p (k + 1) ds) (λ f. let less = position_below p (k + 1) ds i f in omega arith) (omega arith) e

below_option : (ds : List Definition) (o : Option ℕ) → ((i : ℕ) → o ≡ Some i → i < length ds) → AreBelow (length ds) (option_to_list o)
unfolding AreBelow
below_option ds None h = λ i there. absurd there
below_option ds (Some j) h = λ i there. ⊎_elim (λ e. let less = h j refl in omega arith) (λ r. absurd r) there

below_name : (ds : List Definition) (n : Identifier) → AreBelow (length ds) (uses_of_name ds n)
below_name ds (identifiers.Plain t) = below_none (length ds)
below_name ds (identifiers.Hidden t) = below_none (length ds)
below_name ds (identifiers.Definition t) = below_option ds (number_of_name t ds) (λ i e. let less = position_below (λ d. bytes_eq t d.name) 0 ds i e in omega arith)

mutual
  pub uses_below : (ds : List Definition) (e : Expression) → AreBelow (length ds) (uses ds e)
  uses_below ds (tree.name n place) = below_name ds n
  uses_below ds (tree.integer n) = below_none (length ds)
  uses_below ds (tree.text t) = below_none (length ds)
  uses_below ds tree.bottom = below_none (length ds)
  uses_below ds (tree.bound c n) = below_none (length ds)
  uses_below ds (tree.other_integer n) = below_none (length ds)
  uses_below ds (tree.other_text t) = below_none (length ds)
  uses_below ds (tree.parenthesis e comma) = uses_below ds e
  uses_below ds (tree.struct es comma) = entries_below ds es
  uses_below ds (tree.close place es inner comma) = entries_below ds es
  uses_below ds (tree.list es rest comma) = below_append (length ds) (uses_of_elements ds es) (uses_of_rest ds rest) (elements_below ds es) (rest_below ds rest)
  uses_below ds (tree.conjunction es) = elements_below ds es
  uses_below ds (tree.disjunction bs) = branches_below ds bs

  elements_below : (ds : List Definition) (es : Elements) → AreBelow (length ds) (uses_of_elements ds es)
  elements_below ds no_elements = below_none (length ds)
  elements_below ds (element e es) = below_append (length ds) (uses ds e) (uses_of_elements ds es) (uses_below ds e) (elements_below ds es)

  rest_below : (ds : List Definition) (rest : tree.Rest) → AreBelow (length ds) (uses_of_rest ds rest)
  rest_below ds tree.no_rest = below_none (length ds)
  rest_below ds tree.any_rest = below_none (length ds)
  rest_below ds (tree.each_rest e) = uses_below ds e

  branches_below : (ds : List Definition) (bs : Branches) → AreBelow (length ds) (uses_of_branches ds bs)
  branches_below ds no_branches = below_none (length ds)
  branches_below ds (next_branch (branch marked place e) bs) = below_append (length ds) (uses ds e) (uses_of_branches ds bs) (uses_below ds e) (branches_below ds bs)

  pub entries_below : (ds : List Definition) (es : Entries) → AreBelow (length ds) (uses_of_entries ds es)
  entries_below ds no_entries = below_none (length ds)
  entries_below ds (entry ellipsis es) = entries_below ds es
  entries_below ds (entry (field l chain e) es) = below_append (length ds) (uses ds e) (uses_of_entries ds es) (uses_below ds e) (entries_below ds es)
  entries_below ds (entry (definition t place chain e) es) = below_append (length ds) (uses ds e) (uses_of_entries ds es) (uses_below ds e) (entries_below ds es)

pub fields_below : (ds : List Definition) (es : Entries) → AreBelow (length ds) (uses_of_fields ds es)
fields_below ds no_entries = below_none (length ds)
fields_below ds (entry ellipsis es) = fields_below ds es
fields_below ds (entry (field l chain e) es) = below_append (length ds) (uses ds e) (uses_of_fields ds es) (uses_below ds e) (fields_below ds es)
fields_below ds (entry (definition t place chain e) es) = fields_below ds es

targets_below : (ds xs : List Definition) (i : ℕ) → AreBelow (length ds) (targets (map (λ x. uses ds x.value) xs) i)
targets_below ds [] i = below_none (length ds)
targets_below ds (x ∷ xs) zero = uses_below ds x.value
targets_below ds (x ∷ xs) (suc i) = targets_below ds xs i

pub closed_graph : (ds : List Definition) → IsClosed (graph ds)
closed_graph ds = λ i j h. let less = below_is (length ds) (targets (graph ds) i) (targets_below ds ds i) j h in let same = length_graph ds ds in omega arith
