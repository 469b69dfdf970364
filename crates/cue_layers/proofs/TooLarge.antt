-- Which views are too large.
use Rattle.std.proofs.Common.{◌≡◌, ◌↔◌, inl, inr, ⊎_elim, ◌≤◌, ℕ, List, [], ◌∷◌, arith}
use Rattle.std.specs.List.{AllByRecursion}
use Rattle.cue_lattice.specs.OneOf.{OneOf}
use Rattle.cue_lattice.specs.Path.{Path}
use Rattle.cue_lattice.specs.Question.{Question}
use Rattle.cue_policies.specs.Laws.{IsUnifiedOf}
use Rattle.cue_policies.specs.Rows.{row_count, HasMoreRows}
use Rattle.cue_policies.specs.Tables.{ViewOfTwo}
use Rattle.cue_policies.specs.WellFormed.{HasPattern, IsPlain}
use Rattle.cue_policies.specs.declared.kind.LayerKind.TheVariants as kinds
use Rattle.cue_policies.proofs.ViewLaws.{two}
use Rattle.cue_replica.specs.Language.{Table, language}
use Rattle.cue_layers.specs.declared.layer.Layer.{Layer}
use Rattle.cue_layers.specs.View.{parts_of_layers, LayersHaveNoPattern, IsTooLarge, IsViewOf}
use Rattle.cue_layers.specs.Inner.Viewing.{LayerRefuses}
use Rattle.cue_layers.proofs.Viewing.{one_map}

plain_in : (layers : List Layer) (path : Path) (question : Question) → AllByRecursion LayersHaveNoPattern layers → OneOf (LayerRefuses kinds.Policy path question) layers → ¬ HasPattern path
plain_in [] path question all h = absurd h
plain_in (layer ∷ layers) path question all h = ⊎_elim (λ r. all.0 r.0 path question r.1) (λ more. plain_in layers path question all.1 more) h

plain_of : (layers : List Layer) → ((path : Path) (question : Question) → OneOf (LayerRefuses kinds.Policy path question) layers → ¬ HasPattern path) → AllByRecursion LayersHaveNoPattern layers
plain_of [] f = tt
plain_of (layer ∷ layers) f = (λ kind path question r. f path question (inl (kind, r)), plain_of layers (λ path question h. f path question (inr h)))

module _ (layers : List Layer) (policies : Table) (is : IsUnifiedOf kinds.Policy (parts_of_layers layers) policies) where
  refused : (path : Path) (question : Question) → language.table_refuses policies path question ↔ OneOf (LayerRefuses kinds.Policy path question) layers
  refused path question =
      let a = is path question in
      let m = one_map (λ part. (part.0 ≡ kinds.Policy) × language.table_refuses part.1 path question) (λ (layer : Layer). (layer.kind, layer.content)) layers in
      (λ h. m.0 (a.0 h), λ h. a.1 (m.1 h))

  -- the unification of the policies has no pattern exactly where none of them has
  pub all_plain : AllByRecursion LayersHaveNoPattern layers → IsPlain (language.table_refuses policies)
  all_plain all path question r = plain_in layers path question all ((refused path question).0 r)

  pub plain_all : IsPlain (language.table_refuses policies) → AllByRecursion LayersHaveNoPattern layers
  plain_all plain = plain_of layers (λ path question h. plain path question ((refused path question).1 h))

  module _ (proper : Table) (gathered : IsUnifiedOf kinds.Layer (parts_of_layers layers) proper) (limit : ℕ) where
    pub too_large : (¬ IsPlain (language.table_refuses policies)) × HasMoreRows limit (ViewOfTwo proper policies) → IsTooLarge limit layers
    too_large h = record {
      patterns = λ all. h.0 (all_plain all);
      rows = λ view is_view. h.1 view is_view.valid.form (λ path question.
          let v = is_view.refuses path question in
          let t = two (parts_of_layers layers) proper policies gathered is path question in
          (λ r. t.1 (v.0 r), λ r. v.1 (t.0 r)));
    }

    pub not_too_large : (view : Table) → IsViewOf layers view → ((¬ IsPlain (language.table_refuses policies)) → row_count view ≤ limit) → ¬ IsTooLarge limit layers
    not_too_large view is_view few large =
        let many = large.rows view is_view in
        let less = few (λ plain. large.patterns (plain_all plain)) in
        omega (arith, many, less)
