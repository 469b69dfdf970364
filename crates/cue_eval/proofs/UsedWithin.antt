-- A definition that an expression uses is no larger and no deeper than the expression.
use Rattle.std.proofs.Common.{◌≤◌, ℕ, inl, inr, ⊎_elim, Option, None, Some, List, subst, arith}
use Rattle.std.specs.Option.{option_to_list, option_map_or}
use Rattle.cue_syntax.specs.declared.tree.Identifier.TheVariants as identifiers
use Rattle.cue_syntax.specs.Syntax as tree
use Rattle.cue_syntax.specs.Syntax.{Expression, Elements, no_elements, element, branch, Branches, no_branches, next_branch, Entries, no_entries, entry, ellipsis, field, definition}
use Rattle.cue_syntax.specs.Grammar.{IsRight, AreRight, IsRightRest, AreRightBranches, AreRightEntries, AreNested}
use Rattle.cue_scope.specs.Core as core
use Rattle.cue_scope.specs.Core.{Core, bottom, followed_by}
use Rattle.cue_scope.specs.Definitions.{Definition, number_of_name}
use Rattle.cue_scope.specs.Graph.{IsNodeIn}
use Rattle.cue_scope.specs.Limits.{size, size_of_cores, size_of_elements, size_of_choices, size_of_members, depth, depth_of_cores, depth_of_elements, depth_of_choices, depth_of_members}
use Rattle.cue_scope.specs.Meaning.{meant, meant_elements, meant_rest, meant_branches, meant_members, meant_fields}
use Rattle.cue_scope.specs.Uses.{uses, uses_of_elements, uses_of_rest, uses_of_branches, uses_of_entries, uses_of_fields}
use Rattle.cue_scope.proofs.Followed.{size_followed, depth_followed}
use Rattle.cue_scope.proofs.Nodes.{in_append}
use Rattle.cue_eval.proofs.TellingDepth.{nested_depth, nested_size}

-- neither larger nor deeper
pub record IsNoMore (c : Core) (size_at_most depth_at_most : ℕ) : Type 0 where
  pub size : size c ≤ size_at_most
  pub depth : depth c ≤ depth_at_most

named_within : (m : ℕ → Core) (number : Option ℕ) (i : ℕ) → IsNodeIn i (option_to_list number) → IsNoMore (m i) (size (option_map_or m number bottom)) (depth (option_map_or m number bottom))
named_within m None i h = absurd h
named_within m (Some n) i (inl e) = subst (λ (k : ℕ). IsNoMore (m i) (size (m k)) (depth (m k))) e (record { size = omega arith; depth = omega arith })
named_within m (Some n) i (inr h) = absurd h

mutual
  pub used_within : (ds : List Definition) (m : ℕ → Core) (e : Expression) (i : ℕ) → IsRight e → IsNodeIn i (uses ds e) → IsNoMore (m i) (size (meant ds m e)) (depth (meant ds m e))
  used_within ds m (tree.name (identifiers.Definition t) place) i r h = named_within m (number_of_name t ds) i h
  used_within ds m (tree.name (identifiers.Plain t) place) i r h = absurd h
  used_within ds m (tree.name (identifiers.Hidden t) place) i r h = absurd h
  used_within ds m (tree.integer n) i r h = absurd h
  used_within ds m (tree.text t) i r h = absurd h
  used_within ds m tree.bottom i r h = absurd h
  used_within ds m (tree.bound c n) i r h = absurd h
  used_within ds m (tree.other_integer n) i r h = absurd h
  used_within ds m (tree.other_text t) i r h = absurd h
  used_within ds m (tree.parenthesis e comma) i r h = used_within ds m e i r h
  used_within ds m (tree.struct es comma) i r h =
      let w = entries_within ds m es i r.0 r.1 h in
      let s = w.size in let d = w.depth in record { size = omega arith; depth = omega arith }
  used_within ds m (tree.close place es inner comma) i r h =
      let w = entries_within ds m es i r.0 r.1 h in
      let s = w.size in let d = w.depth in record { size = omega arith; depth = omega arith }
  used_within ds m (tree.list es rest comma) i r h =
      ⊎_elim
      (λ g. let w = elements_within ds m es (meant_rest ds m rest) i r.0 g in let s = w.size in let d = w.depth in record { size = omega arith; depth = omega arith })
      (λ g.
      let w = rest_within ds m rest i r.1 g in
      let s = w.size in
      let d = w.depth in
      let larger = size_followed (meant_elements ds m es) (meant_rest ds m rest) in
      let deeper = depth_followed (meant_elements ds m es) (meant_rest ds m rest) in
      record { size = omega arith; depth = omega arith })
      (in_append (uses_of_elements ds es) (uses_of_rest ds rest) i h)
  used_within ds m (tree.conjunction es) i r h =
      let w = parts_within ds m es i r.0 h in
      let s = w.size in let d = w.depth in record { size = omega arith; depth = omega arith }
  used_within ds m (tree.disjunction bs) i r h =
      let w = branches_within ds m bs i r.0 h in
      let s = w.size in let d = w.depth in record { size = omega arith; depth = omega arith }

  parts_within : (ds : List Definition) (m : ℕ → Core) (es : Elements) (i : ℕ) → AreRight es → IsNodeIn i (uses_of_elements ds es) → IsNoMore (m i) (size_of_cores (meant_elements ds m es)) (depth_of_cores (meant_elements ds m es))
  parts_within ds m no_elements i r h = absurd h
  parts_within ds m (element e es) i r h =
      ⊎_elim
      (λ g. let w = used_within ds m e i r.0 g in let s = w.size in let d = w.depth in record { size = omega arith; depth = omega arith })
      (λ g. let w = parts_within ds m es i r.1 g in let s = w.size in let d = w.depth in record { size = omega arith; depth = omega arith })
      (in_append (uses ds e) (uses_of_elements ds es) i h)

  elements_within : (ds : List Definition) (m : ℕ → Core) (es : Elements) (rest : core.Elements) (i : ℕ) → AreRight es → IsNodeIn i (uses_of_elements ds es)
      → IsNoMore (m i) (size_of_elements (followed_by (meant_elements ds m es) rest)) (depth_of_elements (followed_by (meant_elements ds m es) rest))
  elements_within ds m no_elements rest i r h = absurd h
  elements_within ds m (element e es) rest i r h =
      ⊎_elim
      (λ g. let w = used_within ds m e i r.0 g in let s = w.size in let d = w.depth in record { size = omega arith; depth = omega arith })
      (λ g. let w = elements_within ds m es rest i r.1 g in let s = w.size in let d = w.depth in record { size = omega arith; depth = omega arith })
      (in_append (uses ds e) (uses_of_elements ds es) i h)

  rest_within : (ds : List Definition) (m : ℕ → Core) (rest : tree.Rest) (i : ℕ) → IsRightRest rest → IsNodeIn i (uses_of_rest ds rest) → IsNoMore (m i) (size_of_elements (meant_rest ds m rest)) (depth_of_elements (meant_rest ds m rest))
  rest_within ds m tree.no_rest i r h = absurd h
  rest_within ds m tree.any_rest i r h = absurd h
  rest_within ds m (tree.each_rest e) i r h = let w = used_within ds m e i r h in let s = w.size in let d = w.depth in record { size = omega arith; depth = omega arith }

  branches_within : (ds : List Definition) (m : ℕ → Core) (bs : Branches) (i : ℕ) → AreRightBranches bs → IsNodeIn i (uses_of_branches ds bs) → IsNoMore (m i) (size_of_choices (meant_branches ds m bs)) (depth_of_choices (meant_branches ds m bs))
  branches_within ds m no_branches i r h = absurd h
  branches_within ds m (next_branch (branch marked place e) bs) i r h =
      ⊎_elim
      (λ g. let w = used_within ds m e i r.0.0 g in let s = w.size in let d = w.depth in record { size = omega arith; depth = omega arith })
      (λ g. let w = branches_within ds m bs i r.1 g in let s = w.size in let d = w.depth in record { size = omega arith; depth = omega arith })
      (in_append (uses ds e) (uses_of_branches ds bs) i h)

  entries_within : (ds : List Definition) (m : ℕ → Core) (es : Entries) (i : ℕ) → AreRightEntries es → AreNested es → IsNodeIn i (uses_of_entries ds es) → IsNoMore (m i) (size_of_members (meant_members ds m es)) (depth_of_members (meant_members ds m es))
  entries_within ds m no_entries i r n h = absurd h
  entries_within ds m (entry ellipsis es) i r n h = let w = entries_within ds m es i r.1 n.1 h in let s = w.size in let d = w.depth in record { size = omega arith; depth = omega arith }
  entries_within ds m (entry (field l chain e) es) i r n h =
      let more = nested_size chain (meant ds m e) in
      let deeper = nested_depth chain (meant ds m e) in
      ⊎_elim
      (λ g. let w = used_within ds m e i r.0 g in let s = w.size in let d = w.depth in record { size = omega arith; depth = omega arith })
      (λ g. let w = entries_within ds m es i r.1 n.1 g in let s = w.size in let d = w.depth in record { size = omega arith; depth = omega arith })
      (in_append (uses ds e) (uses_of_entries ds es) i h)
  entries_within ds m (entry (definition t place chain e) es) i r n h = absurd n.0

-- the same of the regular declarations of a text
pub fields_within : (ds : List Definition) (m : ℕ → Core) (es : Entries) (i : ℕ) → AreRightEntries es → IsNodeIn i (uses_of_fields ds es)
    → IsNoMore (m i) (size_of_members (meant_fields ds m es)) (depth_of_members (meant_fields ds m es))
fields_within ds m no_entries i r h = absurd h
fields_within ds m (entry ellipsis es) i r h = fields_within ds m es i r.1 h
fields_within ds m (entry (field l chain e) es) i r h =
    let more = nested_size chain (meant ds m e) in
    let deeper = nested_depth chain (meant ds m e) in
    ⊎_elim
    (λ g. let w = used_within ds m e i r.0 g in let s = w.size in let d = w.depth in record { size = omega arith; depth = omega arith })
    (λ g. let w = fields_within ds m es i r.1 g in let s = w.size in let d = w.depth in record { size = omega arith; depth = omega arith })
    (in_append (uses ds e) (uses_of_fields ds es) i h)
fields_within ds m (entry (definition t place chain e) es) i r h = fields_within ds m es i r.1 h
