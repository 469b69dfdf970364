-- The map of a new site, and puts into a map.
use Rattle.std.proofs.Common.{◌≡◌, ◌⊎◌, inl, inr, ⊎_elim, ℕ, List, [], ◌∷◌, refl, sym, ◌∙◌, subst, arith}
use Rattle.std.specs.List.{AllByRecursion}
use Rattle.cue_lattice.specs.Question.{Refusals, SameAnswers}
use Rattle.cue_lattice.specs.World.{Piece, IsUnified, pieces_refuse}
use Rattle.cue_policies.specs.declared.kind.LayerKind.{LayerKind}
use Rattle.cue_policies.specs.declared.kind.LayerKind.TheVariants as kinds
use Rattle.cue_policies.specs.WellFormed.{IsWellFormed}
use Rattle.cue_replica.specs.Accepted.{IsAcceptable}
use Rattle.cue_replica.specs.Language.{Table, language, empty_site}
use Rattle.cue_replica.proofs.Accepted.{new_site}
use Rattle.cue_layers.specs.declared.layer.Layer.{Layer}
use Rattle.cue_layers.specs.declared.refusal.LayersRefusal.{LayersRefusal}
use Rattle.cue_layers.specs.declared.refusal.LayersRefusal.TheVariants.{RevisionsUsed}
use Rattle.cue_layers.specs.Join.{IsOnePut}
use Rattle.cue_layers.specs.Layers.{key, key_of, IsLayer}
use Rattle.cue_layers.specs.Maps.{IsMapOfPuts, commons_put}
use Rattle.cue_layers.specs.Names.{IsLayerName}
use Rattle.cue_layers.specs.Puts.{Put, of_layers, of_puts, IsUsedUp}
use Rattle.cue_layers.specs.Refusals.{MayBe, IsPutRefusal, out_of_memory}
use Rattle.cue_layers.specs.Inner.Covers.{IsCovered, Covers}
use Rattle.cue_layers.specs.Inner.Putting.{Replaces}
use Rattle.cue_layers.proofs.Covers.{alike_current}

module _ (x : Layer) (kind : x.kind ≡ kinds.Layer) (name : x.name ≡ []) (revision : x.revision ≡ 0) (content : x.content ≡ empty_site) where
  says_nothing : IsUnified language x.content []
  says_nothing = let P : Table → Type 0 = λ t. IsUnified language t [] in subst P (sym content) new_site

  same_key : key kinds.Layer [] ≡ key_of x
  same_key = sym (λ i. key (kind i) (name i))

  is_layer : IsLayer x
  is_layer = record {
    is = inl (record { kind = kind; name = name; revision = revision });
    valid = says_nothing.0;
    well_formed = λ policy. let e : kinds.Layer ≡ kinds.Policy = sym kind ∙ policy in absurd cc;
  }

  covered : Covers of_layers of_puts (x ∷ []) (commons_put [] ∷ [])
  covered y h = ⊎_elim (λ e. subst (λ (l : Layer). IsCovered of_layers of_puts l (commons_put [] ∷ [])) e (record {
    above = (commons_put [], inl refl, same_key, omega (arith, revision));
    refused = λ path question r. absurd ((says_nothing.1 path question).0 r);
  })) (λ no. absurd no) h

  covers : Covers of_puts of_layers (commons_put [] ∷ []) (x ∷ [])
  covers p h = ⊎_elim (λ e. subst (λ (q : Put). IsCovered of_puts of_layers q (x ∷ [])) e (record {
    above = (x, inl refl, sym same_key, omega (arith, revision));
    refused = λ path question r. absurd r;
  })) (λ no. absurd no) h

  opening_map_of : IsMapOfPuts [] (x ∷ [])
  opening_map_of = record {
    is_map = record { in_order = (tt, tt); commons = record { kind = kind; name = name; revision = revision }; each = (is_layer, tt) };
    current = alike_current of_puts (commons_put [] ∷ []) (x ∷ []) (tt, tt) (covered, covers);
  }

pub opening_map : (ls : List Layer) (x : Layer) → ls ≡ x ∷ [] → x.kind ≡ kinds.Layer → x.name ≡ [] → x.revision ≡ 0 → x.content ≡ empty_site → IsMapOfPuts [] ls
opening_map ls x is kind name revision content = subst (IsMapOfPuts []) (sym is) (opening_map_of x kind name revision content)

-- ---- puts

well_same : (a b : Refusals) → SameAnswers a b → IsWellFormed a → IsWellFormed b
well_same a b same w = record {
  lists = λ path question r. w.lists path question ((same path question).1 r);
  sets = λ path l pattern r is. (same path _).0 (w.sets path l pattern ((same path _).1 r) is);
}

pub may_be : (kind : LayerKind) (content : Table) (pieces : List Piece) → IsUnified language content pieces → (kind ≡ kinds.Policy → IsWellFormed (language.table_refuses content)) → MayBe kind pieces
may_be kinds.Layer content pieces unified may = tt
may_be kinds.Policy content pieces unified may = well_same (language.table_refuses content) (pieces_refuse language pieces) unified.1 (may refl)

pub may_not_be : (kind : LayerKind) (content : Table) (pieces : List Piece) → IsUnified language content pieces → ¬ (kind ≡ kinds.Policy → IsWellFormed (language.table_refuses content)) → ¬ MayBe kind pieces
may_not_be kinds.Layer content pieces unified never may = never (λ e. absurd cc)
may_not_be kinds.Policy content pieces unified never may =
    never (λ e. well_same (pieces_refuse language pieces) (language.table_refuses content) (λ path question. ((unified.1 path question).1, (unified.1 path question).0)) may)

pub put_done :
    (old : List Layer) (kind : LayerKind) (name : List ℕ) (pieces : List Piece) (content : Table) (new : List Layer) (revision : ℕ) → IsLayerName name → AllByRecursion IsAcceptable pieces → IsUnified language content pieces
    → (kind ≡ kinds.Policy → IsWellFormed (language.table_refuses content)) → Replaces old kind name content new revision → IsOnePut old kind name pieces new revision
put_done old kind name pieces content new revision named acceptable unified may done = record {
  is_name = named;
  acceptable = acceptable;
  may_be = may_be kind content pieces unified may;
  is_next = done.is_next;
  small = done.small;
  content = content;
  refuses = unified.1;
  joined = done.joined;
}

pub put_refused :
    (old : List Layer) (kind : LayerKind) (name : List ℕ) (pieces : List Piece) (content : Table) (why : LayersRefusal) → IsLayerName name → AllByRecursion IsAcceptable pieces → IsUnified language content pieces
    → (kind ≡ kinds.Policy → IsWellFormed (language.table_refuses content)) → ((why ≡ RevisionsUsed) × IsUsedUp of_layers old (key kind name)) ⊎ (why ≡ out_of_memory)
    → IsPutRefusal old kind name pieces why
put_refused old kind name pieces content why named acceptable unified may (inl h) =
    subst (IsPutRefusal old kind name pieces) (sym h.0) (inl (named, acceptable, may_be kind content pieces unified may, h.1))
put_refused old kind name pieces content why named acceptable unified may (inr h) = inr (h, named)
