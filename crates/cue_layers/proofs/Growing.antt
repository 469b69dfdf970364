-- A map whose commons grows.
use Rattle.std.proofs.Common.{◌≡◌, inl, List, [], ◌∷◌, get_or, set, refl, sym, ap, ◌∙◌, subst}
use Rattle.cue_lattice.specs.Question.{Refusals}
use Rattle.cue_policies.specs.declared.kind.LayerKind.TheVariants as kinds
use Rattle.cue_replica.specs.Language.{Table, language}
use Rattle.cue_replica.specs.Replica.{AddsRefusals}
use Rattle.cue_layers.specs.declared.layer.Layer.{Layer}
use Rattle.cue_layers.specs.Join.{CommonsGrows}
use Rattle.cue_layers.specs.Layers.{IsMap}

-- the first layer with another table
abbrev pub with_content : Layer → Table → Layer
with_content l content = record l { content = content }

pub grows : (old : List Layer) (l : Layer) (content : Table) (added : Refusals) → IsMap old → l ≡ get_or old 0 l → AddsRefusals l.content added content → CommonsGrows old added (set old 0 (with_content l content))
grows [] l content added map is adds = absurd map.commons
grows (x ∷ ls) l content added map is adds =
    let P : Layer → Type 0 = λ z. AddsRefusals z.content added content in
    (ap (λ (z : Layer). with_content z content) is, subst P is adds, refl)

pub grown_map : (old : List Layer) (l : Layer) (content : Table) → IsMap old → l ≡ get_or old 0 l → language.IsValid content → IsMap (set old 0 (with_content l content))
grown_map [] l content map is valid = absurd map.commons
grown_map (x ∷ ls) l content map is valid =
    let P : Layer → Type 0 = λ z. IsMap (with_content z content ∷ ls) in
    subst P (sym is) (record {
      in_order = map.in_order;
      commons = record { kind = map.commons.kind; name = map.commons.name; revision = map.commons.revision };
      each = (
        record {
          is = inl (record { kind = map.commons.kind; name = map.commons.name; revision = map.commons.revision });
          valid = valid;
          well_formed = λ policy. let e : kinds.Layer ≡ kinds.Policy = sym map.commons.kind ∙ policy in absurd cc;
        },
        map.each.1,
      );
    })
