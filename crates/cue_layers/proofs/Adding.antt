-- Sets of puts that gain one put.
use Rattle.std.proofs.Common.{◌≡◌, ◌⊎◌, inl, inr, ⊎_elim, ℕ, ◌<◌, ◌≤◌, List, [], ◌∷◌, ◌++◌, refl, sym, ap, ◌∙◌, subst, arith}
use Rattle.cue_lattice.specs.Path.{Path}
use Rattle.cue_lattice.specs.Question.{Question}
use Rattle.cue_lattice.specs.World.{Piece, pieces_refuse}
use Rattle.cue_policies.specs.declared.kind.LayerKind.{LayerKind}
use Rattle.cue_policies.specs.declared.kind.LayerKind.TheVariants as kinds
use Rattle.cue_replica.specs.Language.{language}
use Rattle.cue_layers.specs.declared.layer.Layer.{Layer}
use Rattle.cue_layers.specs.Join.{IsOnePut, CommonsGrows, AddsPuts}
use Rattle.cue_layers.specs.Layers.{key, key_of, IsMap, IsCommons}
use Rattle.cue_layers.specs.Maps.{IsMapOfPuts, commons_put}
use Rattle.cue_layers.specs.Puts.{Put, HasElement, of_layers, of_puts}
use Rattle.cue_layers.specs.Inner.Covers.{IsCovered, Covers, SpeakAlike}
use Rattle.cue_layers.proofs.Covers.{alike_on, alike_both, current_alike, alike_current, covered_on, covered_by_more, covers_itself}
use Rattle.cue_layers.proofs.Lists.{has-append, has_left, has_right}

module _ (old new : List Layer) (ps : List Put) (kind : LayerKind) (name : List ℕ) (pieces : List Piece) (revision : ℕ) (of : IsMapOfPuts ps old) (is : IsOnePut old kind name pieces new revision) where
  layer_covered : Covers of_layers of_puts (record { kind = kind; name = name; revision = revision; content = is.content } ∷ []) (record { kind = kind; name = name; revision = revision; pieces = pieces } ∷ [])
  layer_covered y h = ⊎_elim (λ e. subst (λ (l : Layer). IsCovered of_layers of_puts l (record { kind = kind; name = name; revision = revision; pieces = pieces } ∷ [])) e (record {
    above = (record { kind = kind; name = name; revision = revision; pieces = pieces }, inl refl, refl, omega arith);
    refused = λ path question r. (record { kind = kind; name = name; revision = revision; pieces = pieces }, inl refl, refl, inr (refl, (is.refuses path question).0 r));
  })) (λ no. absurd no) h

  put_covered : Covers of_puts of_layers (record { kind = kind; name = name; revision = revision; pieces = pieces } ∷ []) (record { kind = kind; name = name; revision = revision; content = is.content } ∷ [])
  put_covered y h = ⊎_elim (λ e. subst (λ (p : Put). IsCovered of_puts of_layers p (record { kind = kind; name = name; revision = revision; content = is.content } ∷ [])) e (record {
    above = (record { kind = kind; name = name; revision = revision; content = is.content }, inl refl, refl, omega arith);
    refused = λ path question r. (record { kind = kind; name = name; revision = revision; content = is.content }, inl refl, refl, inr (refl, (is.refuses path question).1 r));
  })) (λ no. absurd no) h

  put_added : IsMapOfPuts (ps ++ record { kind = kind; name = name; revision = revision; pieces = pieces } ∷ []) new
  put_added =
      let c = commons_put [] in
      let l : List Layer = record { kind = kind; name = name; revision = revision; content = is.content } ∷ [] in
      let p : List Put = record { kind = kind; name = name; revision = revision; pieces = pieces } ∷ [] in
      record {
        is_map = is.joined.is_map;
        current = alike_current of_puts (c ∷ (ps ++ p)) new is.joined.is_map.in_order
            (alike_on of_layers of_layers of_puts new (old ++ l) ((c ∷ ps) ++ p) (current_alike of_layers (old ++ l) new is.joined.current)
            (alike_both of_layers of_puts old l (c ∷ ps) p (current_alike of_puts (c ∷ ps) old of.current) (layer_covered, put_covered)));
      }

-- the commons of a map, and of the map that it grows to
module _ (l m : Layer) (ls : List Layer) (xs : List Put) (piece : Piece) (commons : IsCommons l) (same : m ≡ record l { content = m.content }) (adds : (path : Path) (question : Question) → language.table_refuses m.content path question → language.table_refuses l.content path question ⊎ pieces_refuse language (piece ∷ []) path question)
    (keeps : (path : Path) (question : Question) → language.table_refuses l.content path question ⊎ pieces_refuse language (piece ∷ []) path question → language.table_refuses m.content path question)
    (alike : SpeakAlike of_layers of_puts (l ∷ ls) xs) where
  same_key : key_of m ≡ key_of l
  same_key = ap key_of same

  same_revision : m.revision ≡ l.revision
  same_revision = ap (λ (z : Layer). z.revision) same

  commons_key : key kinds.Layer [] ≡ key_of m
  commons_key = sym (λ i. key (commons.kind i) (commons.name i)) ∙ sym same_key

  zero_revision : m.revision ≡ 0
  zero_revision = same_revision ∙ commons.revision

  old_covered : Covers of_layers of_layers (l ∷ ls) (m ∷ ls)
  old_covered y (inr h) = covers_itself of_layers (m ∷ ls) y (inr h)
  old_covered y (inl e) = subst (λ (z : Layer). IsCovered of_layers of_layers z (m ∷ ls)) e (record {
    above = (m, inl refl, same_key, omega (arith, same_revision));
    refused = λ path question r. (m, inl refl, same_key, inr (sym same_revision, keeps path question (inl r)));
  })

  put_in : HasElement (xs ++ commons_put (piece ∷ []) ∷ []) (commons_put (piece ∷ []))
  put_in = has_right xs (commons_put (piece ∷ []) ∷ []) (commons_put (piece ∷ [])) (inl refl)

  new_covered : Covers of_layers of_puts (m ∷ ls) (xs ++ commons_put (piece ∷ []) ∷ [])
  new_covered y (inr h) = covered_by_more of_layers of_puts y xs (xs ++ commons_put (piece ∷ []) ∷ []) (has_left xs (commons_put (piece ∷ []) ∷ [])) (alike.0 y (inr h))
  new_covered y (inl e) =
      let c = alike.0 l (inl refl) in
      let more : (p : Put) → HasElement xs p → HasElement (xs ++ commons_put (piece ∷ []) ∷ []) p = has_left xs (commons_put (piece ∷ []) ∷ []) in
      subst (λ (z : Layer). IsCovered of_layers of_puts z (xs ++ commons_put (piece ∷ []) ∷ [])) e (record {
        above = (c.above.0, more c.above.0 c.above.1, c.above.2 ∙ sym same_key, let le : l.revision ≤ c.above.0.revision = c.above.3 in omega (arith, same_revision));
        refused = λ path question r. ⊎_elim
            (λ h. let g = c.refused path question h in
            (g.0, more g.0 g.1, g.2 ∙ sym same_key, ⊎_elim (λ lt. let less : l.revision < g.0.revision = lt in inl (omega (arith, same_revision))) (λ s. inr (same_revision ∙ s.0, s.1)) g.3))
            (λ h. (commons_put (piece ∷ []), put_in, commons_key, inr (zero_revision, h)))
            (adds path question r);
      })

  puts_covered : Covers of_puts of_layers (xs ++ commons_put (piece ∷ []) ∷ []) (m ∷ ls)
  puts_covered p h = ⊎_elim
      (λ g. covered_on of_puts of_layers of_layers p (l ∷ ls) (m ∷ ls) (alike.1 p g) old_covered)
      (λ g. ⊎_elim (λ e. subst (λ (q : Put). IsCovered of_puts of_layers q (m ∷ ls)) e (record {
        above = (m, inl refl, sym commons_key, omega (arith, zero_revision));
        refused = λ path question r. (m, inl refl, sym commons_key, inr (sym zero_revision, keeps path question (inr r)));
      })) (λ no. absurd no) g)
      (has-append xs (commons_put (piece ∷ []) ∷ []) p h)

commons_added : (old new : List Layer) (ps : List Put) (piece : Piece) → IsMapOfPuts ps old → IsMap new → CommonsGrows old (pieces_refuse language (piece ∷ [])) new → IsMapOfPuts (ps ++ commons_put (piece ∷ []) ∷ []) new
commons_added [] new ps piece of map grows = absurd grows
commons_added (l ∷ ls) [] ps piece of map grows = absurd grows
commons_added (l ∷ ls) (m ∷ ms) ps piece of map grows =
    let c = commons_put [] in
    let xs : List Put = c ∷ ps in
    let alike = current_alike of_puts xs (l ∷ ls) of.current in
    let to = new_covered l m ls xs piece of.is_map.commons grows.0 (λ path question. (grows.1 path question).0) (λ path question. (grows.1 path question).1) alike in
    let back = puts_covered l m ls xs piece of.is_map.commons grows.0 (λ path question. (grows.1 path question).0) (λ path question. (grows.1 path question).1) alike in
    let P : List Layer → Type 0 = λ ys. SpeakAlike of_layers of_puts (m ∷ ys) (xs ++ commons_put (piece ∷ []) ∷ []) in
    record { is_map = map; current = alike_current of_puts (xs ++ commons_put (piece ∷ []) ∷ []) (m ∷ ms) map.in_order (subst P (sym grows.2) (to, back)) }

pub adds_puts : AddsPuts
adds_puts = record { put = put_added; commons = commons_added }
