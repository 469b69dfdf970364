-- The view of a map.
use Rattle.std.proofs.Common.{◌≡◌, ◌<◌, ◌↔◌, ℕ, zero, suc, arith, get_or, length, List, [], ◌∷◌, map, inl, inr, ⊎_elim, subst, sym, ◌∙◌}
use Rattle.std.specs.List.{AllByRecursion}
use Rattle.cue_lattice.specs.OneOf.{OneOf}
use Rattle.cue_lattice.specs.Path.{Path}
use Rattle.cue_lattice.specs.Question.{Question, SameAnswers}
use Rattle.cue_policies.specs.Laws.{IsUnifiedOf}
use Rattle.cue_policies.specs.Tables.{ViewOfTwo}
use Rattle.cue_policies.specs.WellFormed.{IsWellFormed}
use Rattle.cue_policies.specs.declared.kind.LayerKind.{LayerKind}
use Rattle.cue_policies.specs.declared.kind.LayerKind.TheVariants as kinds
use Rattle.cue_policies.proofs.Unions.{both_formed}
use Rattle.cue_policies.proofs.ViewLaws.{two}
use Rattle.cue_replica.specs.Language.{Table, language}
use Rattle.cue_layers.specs.declared.layer.Layer.{Layer}
use Rattle.cue_layers.specs.Layers.{IsLayer}
use Rattle.cue_layers.specs.View.{parts_of_layers, IsViewOf}
use Rattle.cue_layers.specs.Inner.Viewing.{LayerRefuses, AddsLayer}

pub one_map : {X Y : Type 0} (P : Y → Type 0) (f : X → Y) (xs : List X) → OneOf P (map f xs) ↔ OneOf (λ x. P (f x)) xs
one_map P f [] = (λ h. h, λ h. h)
one_map P f (x ∷ xs) =
    let more = one_map P f xs in
    (λ h. ⊎_elim (λ a. inl a) (λ b. inr (more.0 b)) h, λ h. ⊎_elim (λ a. inl a) (λ b. inr (more.1 b)) h)

-- a table that gathered all layers of a kind is their unification
pub gathered : (kind : LayerKind) (layers : List Layer) (site : Table)
    → ((path : Path) (question : Question) → language.table_refuses site path question ↔ OneOf (LayerRefuses kind path question) layers)
    → IsUnifiedOf kind (parts_of_layers layers) site
gathered kind layers site all path question =
    let a = all path question in
    let m = one_map (λ part. (part.0 ≡ kind) × language.table_refuses part.1 path question) (λ (layer : Layer). (layer.kind, layer.content)) layers in
    (λ h. m.1 (a.0 h), λ h. a.1 (m.0 h))

-- what holds of each holds of the one at an index
pub each_at : {X : Type 0} (P : X → Type 0) (xs : List X) (i : ℕ) (x : X) → AllByRecursion P xs → i < length xs → x ≡ get_or xs i x → P x
each_at P [] i x all less e = absurd (omega arith)
each_at P (y ∷ ys) zero x all less e = subst P (sym e) all.0
each_at P (y ∷ ys) (suc i) x all less e = each_at P ys i x all.1 (omega arith) e

-- one more layer keeps what gathers policies well formed
pub more_formed : (kind : LayerKind) (layer : Layer) (old new : Table) → IsLayer layer → AddsLayer kind layer old new → (kind ≡ kinds.Policy → IsWellFormed (language.table_refuses old)) → kind ≡ kinds.Policy → IsWellFormed (language.table_refuses new)
more_formed kind layer old new is adds formed e =
    both_formed (language.table_refuses old) (λ path question. LayerRefuses kind path question layer) (language.table_refuses new) adds (formed e)
    (record {
      lists = λ path question h. (is.well_formed (h.0 ∙ e)).lists path question h.1;
      sets = λ path l pattern h p. (h.0, (is.well_formed (h.0 ∙ e)).sets path l pattern h.1 p);
    })

-- the view of the two unifications is that of the layers
pub whole : (all : List Layer) (layers policies view : Table) → IsUnifiedOf kinds.Layer (parts_of_layers all) layers → IsUnifiedOf kinds.Policy (parts_of_layers all) policies → language.IsValid view
    → SameAnswers (language.table_refuses view) (ViewOfTwo layers policies) → IsViewOf all view
whole all layers policies view h k valid same = record {
  valid = valid;
  refuses = λ path question.
      let s = same path question in
      let t = two (parts_of_layers all) layers policies h k path question in
      (λ r. t.0 (s.0 r), λ r. s.1 (t.1 r));
}
