-- Branches that are kept as one, in walks.
use Rattle.std.proofs.Common.{◌≡◌, ◌↔◌, ◌+◌, ◌≤◌, ℕ, zero, suc, List, [], ◌∷◌, max, Some, None, refl, sym, ap, subst, ◌∙◌, arith}
use Rattle.cue_lattice.specs.Path.{index}
use Rattle.cue_row.specs.declared.parts.RowParts.{RowParts as Row}
use Rattle.cue_row.specs.Steps.{step_of}
use Rattle.cue_row.specs.declared.step.Step.{Step}
use Rattle.cue_row.specs.declared.step.Step.TheVariants.{Label, Index}
use Rattle.cue_table.specs.Inner.Child.{Child}
use Rattle.cue_table.specs.Depth.{tree_depth, children_depth}
use Rattle.cue_table.specs.Inner.ValidWalk.{HasChild, IsSound, AreSound}
use Rattle.cue_table.specs.Inner.View.{branches, spans_in, span_at}
use Rattle.cue_table.specs.Size.{tree_size, children_size}
use Rattle.cue_table.specs.Spans.{Span, field, elements, first_of_span, alike_elements, branches_of_span, branches_of_spans}
use Rattle.cue_table.specs.Tree.{Tree, node, Children, child, row_of}

module _ {R : Type 0} where
  alike_depth : (i more : ℕ) (tree : Tree R) (others : Children R) → children_depth (alike_elements i more tree others) ≡ max (tree_depth tree + 1) (children_depth others)
  alike_depth i zero tree others = refl
  alike_depth i (suc more) tree others = omega (arith, alike_depth (suc i) more tree others)

  alike_size : (i more : ℕ) (tree : Tree R) (others : Children R) → tree_size tree + children_size others ≤ children_size (alike_elements i more tree others)
  alike_size i zero tree others = omega arith
  alike_size i (suc more) tree others = omega (arith, alike_size (suc i) more tree others)

  spanned_depth : (span : Span) (tree : Tree R) (others : Children R) → children_depth (branches_of_span span tree others) ≡ max (tree_depth tree + 1) (children_depth others)
  spanned_depth (field text) tree others = refl
  spanned_depth (elements i more) tree others = alike_depth i more tree others

  spanned_size : (span : Span) (tree : Tree R) (others : Children R) → tree_size tree + children_size others ≤ children_size (branches_of_span span tree others)
  spanned_size (field text) tree others = omega arith
  spanned_size (elements i more) tree others = alike_size i more tree others

  -- the first span and those behind it are as deep as all, and no larger
  pub left_depth : (span : Span) (tree : Tree R) (rest left : List (Span × Tree R)) → rest ≡ (span, tree) ∷ left → max (tree_depth tree + 1) (children_depth (branches_of_spans left)) ≡ children_depth (branches_of_spans rest)
  left_depth span tree rest left e = sym (ap (λ spans. children_depth (branches_of_spans spans)) e ∙ spanned_depth span tree (branches_of_spans left))

  pub left_size : (span : Span) (tree : Tree R) (rest left : List (Span × Tree R)) → rest ≡ (span, tree) ∷ left → tree_size tree + children_size (branches_of_spans left) ≤ children_size (branches_of_spans rest)
  left_size span tree rest left e = let small = spanned_size span tree (branches_of_spans left) in let is = ap (λ spans. children_size (branches_of_spans spans)) e in omega (arith, small, is)

  -- where no span is left, there is nothing below
  pub none_left : (rest : List (Span × Tree R)) → rest ≡ [] → children_depth (branches_of_spans rest) ≡ 0
  none_left rest e = ap (λ spans. children_depth (branches_of_spans spans)) e

  -- a list of branches as spans, each of one
  pub spread_in : (cs : List (Child R)) → branches_of_spans (spans_in cs) ≡ branches cs
  spread_in [] = refl
  spread_in (c ∷ cs) = one c.step c.node (branches_of_spans (spans_in cs)) ∙ ap (child (step_of c.step) c.node) (spread_in cs)
    where
      one : (step : Step) (tree : Tree R) (others : Children R) → branches_of_span (span_at step) tree others ≡ child (step_of step) tree others
      one (Label text) tree others = refl
      one (Index number) tree others = refl

-- ---- the walk that tells valid tables
next_child : (parent : Row) (i : ℕ) (tree : Tree Row) → HasChild parent (index i) (row_of tree) → HasChild parent (index (suc i)) (row_of tree)
next_child parent i (node None children rest) h = h
next_child parent i (node (Some row) children rest) h = record { word = tt; holds = h.holds; level = h.level }

alike_sound : (parent : Row) (i more : ℕ) (tree : Tree Row) (others : Children Row) → AreSound parent (alike_elements i more tree others) ↔ (HasChild parent (index i) (row_of tree) × IsSound tree × AreSound parent others)
alike_sound parent i zero tree others = (λ h. h, λ h. h)
alike_sound parent i (suc more) tree others =
    let behind = alike_sound parent (suc i) more tree others in (
      λ h. (h.0, h.1, (behind.0 h.2).2),
      λ h. (h.0, h.1, behind.1 (next_child parent i tree h.0, h.1, h.2)),
    )

spanned_sound : (parent : Row) (span : Span) (tree : Tree Row) (others : Children Row)
    → AreSound parent (branches_of_span span tree others) ↔ (HasChild parent (first_of_span span) (row_of tree) × IsSound tree × AreSound parent others)
spanned_sound parent (field text) tree others = (λ h. h, λ h. h)
spanned_sound parent (elements i more) tree others = alike_sound parent i more tree others

-- A walk over spans that went one further: what is left decides the others.
pub sound_more :
    (parent : Row) (all : Children Row) (rest left : List (Span × Tree Row)) (span : Span) (tree : Tree Row) → rest ≡ (span, tree) ∷ left
    → (AreSound parent all ↔ AreSound parent (branches_of_spans rest)) → HasChild parent (first_of_span span) (row_of tree) → IsSound tree
    → AreSound parent all ↔ AreSound parent (branches_of_spans left)
sound_more parent all rest left span tree e same child_is tree_is =
    let parts = spanned_sound parent span tree (branches_of_spans left) in (
      λ h. let now = parts.0 (subst (λ spans. AreSound parent (branches_of_spans spans)) e (same.0 h)) in now.2,
      λ h. same.1 (subst (λ spans. AreSound parent (branches_of_spans spans)) (sym e) (parts.1 (child_is, tree_is, h))),
    )

-- the span at hand is right where all are
pub sound_first :
    (parent : Row) (all : Children Row) (rest left : List (Span × Tree Row)) (span : Span) (tree : Tree Row) → rest ≡ (span, tree) ∷ left
    → (AreSound parent all ↔ AreSound parent (branches_of_spans rest)) → AreSound parent all → HasChild parent (first_of_span span) (row_of tree) × IsSound tree
sound_first parent all rest left span tree e same h =
    let now = (spanned_sound parent span tree (branches_of_spans left)).0 (subst (λ spans. AreSound parent (branches_of_spans spans)) e (same.0 h)) in (now.0, now.1)

-- where nothing is left, all are right
pub sound_all : (parent : Row) (all : Children Row) (rest : List (Span × Tree Row)) → rest ≡ [] → (AreSound parent all ↔ AreSound parent (branches_of_spans rest)) → AreSound parent all
sound_all parent all rest e same = same.1 (subst (λ spans. AreSound parent (branches_of_spans spans)) (sym e) tt)
