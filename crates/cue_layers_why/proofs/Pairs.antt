-- What is left of sources is what is left of their layers.
use Rattle.std.proofs.Common.{◌≡◌, ◌↔◌, inl, inr, ⊎_elim, ◌<◌, ◌≤◌, ◌+◌, ℕ, zero, suc, Bool, true, false, List, [], ◌∷◌, ◌++◌, length, map, take, get_or, Option, Some, None, refl, sym, ap, subst, ◌∙◌, append-nil, append_assoc, arith}
use Rattle.std.specs.Prelude.{IsTrue, IfOk, Result, Ok, Err}
use Rattle.std.specs.Option.{option_and_then}
use Rattle.std.proofs.lemmas.List.{take_more, take_all}
use Rattle.cue_lattice.specs.Limits.{step_limit}
use Rattle.cue_lattice.specs.OneOf.{OneOf}
use Rattle.cue_lattice.specs.Path.{label, Path}
use Rattle.cue_lattice.specs.Question.{Refusals}
use Rattle.cue_layers.specs.View.{parts_of_layers}
use Rattle.cue_layers.specs.declared.layer.Layer.{Layer}
use Rattle.cue_policies.specs.Tables.{TablesRefuse}
use Rattle.cue_policies.specs.declared.kind.LayerKind.{LayerKind}
use Rattle.cue_report.specs.Answers.{IsNotAllowed}
use Rattle.cue_row.specs.declared.parts.RowParts.{RowParts as Row}
use Rattle.cue_table.specs.Depth.{tree_depth}
use Rattle.cue_table.specs.Tree.{Tree, branch_at, step_into}
use Rattle.cue_places.proofs.Roots.{found_limit}
use Rattle.cue_why.specs.Finding.{Makes}
use Rattle.cue_why.specs.Least.{IsLeft, IsLeastList}
use Rattle.cue_why.specs.Reported.{IsReported, IsLabelReported}
use Rattle.cue_why.specs.Inner.Saying.{pair_of}
use Rattle.cue_why.specs.Shown.{AreShown}
use Rattle.cue_why.specs.Sources.{tables_of, SourcesRefuse, SourcesMake}
use Rattle.cue_why.specs.declared.part.WrittenPart.{WrittenPart}
use Rattle.cue_why.specs.declared.source.LayerSource.{LayerSource}
use Rattle.cue_layers_why.specs.Why.{LayersRefuse, LayersMake, IsShownPath, part_pair, IsNamed, AreNamed, IsWhy}
use Rattle.cue_layers_why.specs.Inner.Pairs.{IsSource, AreSources, IsNamedSource, AreNamedSources, IsFront}
use Rattle.cue_layers_why.specs.declared.naming.LayerPart.{LayerPart}
use Rattle.cue_layers_why.specs.declared.naming.NamedLayer.{NamedLayer}

-- ---- sources have the tables of their layers
abbrev source_pair : LayerSource → LayerKind × Tree Row
source_pair source = (source.kind, source.table.now)

abbrev layer_pair : Layer → LayerKind × Tree Row
layer_pair layer = (layer.kind, layer.content)

same_part : (layer : Layer) (source : LayerSource) → IsSource layer source → source_pair source ≡ layer_pair layer
same_part layer source is = λ i. (is.kind i, is.table i)

same_tables : (layers : List Layer) (sources : List LayerSource) → AreSources layers sources → tables_of sources ≡ parts_of_layers layers
same_tables [] sources h = ap tables_of h
same_tables (layer ∷ layers) [] h = absurd h
same_tables (layer ∷ layers) (source ∷ sources) h =
    ap (λ p. p ∷ tables_of sources) (same_part layer source h.0) ∙ ap (λ ps. layer_pair layer ∷ ps) (same_tables layers sources h.1)

pub same_view : (layers : List Layer) (sources : List LayerSource) → AreSources layers sources → SourcesRefuse sources ≡ LayersRefuse layers
same_view layers sources h = ap TablesRefuse (same_tables layers sources h)

same_make : (all : List Layer) (all_sources : List LayerSource) (path : Path) → AreSources all all_sources → (some : List Layer) (sources : List LayerSource) → AreSources some sources
    → SourcesMake all_sources path sources ↔ LayersMake all path some
same_make all all_sources path h some sources k =
    let P : Refusals → Type 0 = λ own. SourcesMake all_sources path sources ↔ Makes (LayersRefuse all) own path in
    let Q : Refusals → Type 0 = λ view. SourcesMake all_sources path sources ↔ Makes view (SourcesRefuse sources) path in
    subst P (same_view some sources k) (subst Q (same_view all all_sources h) (λ m. m, λ m. m))

-- ---- lists side by side
both_end : (xs : List Layer) (ys : List LayerSource) (x : Layer) (y : LayerSource) → AreSources xs ys → IsSource x y → AreSources (xs ++ x ∷ []) (ys ++ y ∷ [])
both_end [] [] x y h is = (is, refl)
both_end [] (s ∷ ys) x y h is = cc
both_end (l ∷ xs) [] x y h is = absurd h
both_end (l ∷ xs) (s ∷ ys) x y h is = (h.0, both_end xs ys x y h.1 is)

both_append : (xs xs2 : List Layer) (ys ys2 : List LayerSource) → AreSources xs ys → AreSources xs2 ys2 → AreSources (xs ++ xs2) (ys ++ ys2)
both_append [] xs2 [] ys2 h k = k
both_append [] xs2 (s ∷ ys) ys2 h k = cc
both_append (l ∷ xs) xs2 [] ys2 h k = absurd h
both_append (l ∷ xs) xs2 (s ∷ ys) ys2 h k = (h.0, both_append xs xs2 ys ys2 h.1 k)

-- where the layers are cut, so are the sources
record IsCut (before : List Layer) (x : Layer) (after : List Layer) (ys : List LayerSource) : Type 0 where
  front : List LayerSource
  y : LayerSource
  back : List LayerSource
  whole : ys ≡ front ++ y ∷ back
  front_are : AreSources before front
  back_are : AreSources after back

both_cut : (before : List Layer) (x : Layer) (after : List Layer) (ys : List LayerSource) → AreSources (before ++ x ∷ after) ys → IsCut before x after ys
both_cut [] x after [] h = absurd h
both_cut [] x after (y ∷ ys) h = record { front = []; y = y; back = ys; whole = refl; front_are = refl; back_are = h.1 }
both_cut (l ∷ before) x after [] h = absurd h
both_cut (l ∷ before) x after (s ∷ ys) h =
    let more = both_cut before x after ys h.1 in
    record { front = s ∷ more.front; y = more.y; back = more.back; whole = ap (λ zs. s ∷ zs) more.whole; front_are = (h.0, more.front_are); back_are = more.back_are }

-- ---- what is left
module _ (S : List LayerSource → Type 0) (L : List Layer → Type 0) (same : (layers : List Layer) (sources : List LayerSource) → AreSources layers sources → S sources ↔ L layers) where
  pub left_layers : (kept ahead : List Layer) (kept_sources ahead_sources left : List LayerSource) → AreSources kept kept_sources → AreSources ahead ahead_sources → IsLeft S kept_sources ahead_sources left
      → (layers : List Layer) × IsLeft L kept ahead layers × AreSources layers left
  left_layers kept [] kept_sources [] left h k is = (kept, refl, subst (AreSources kept) (sym is) h)
  left_layers kept [] kept_sources (s ∷ ahead_sources) left h k is = cc
  left_layers kept (l ∷ ahead) kept_sources [] left h k is = absurd k
  left_layers kept (l ∷ ahead) kept_sources (s ∷ ahead_sources) left h k is =
      let here = same (kept ++ ahead) (kept_sources ++ ahead_sources) (both_append kept ahead kept_sources ahead_sources h k.1) in
      ⊎_elim
      (λ out. let more = left_layers kept ahead kept_sources ahead_sources left h k.1 out.1 in (more.0, inl (here.0 out.0, more.1), more.2))
      (λ stay.
      let more = left_layers (kept ++ l ∷ []) ahead (kept_sources ++ s ∷ []) ahead_sources left (both_end kept kept_sources l s h k.0) k.1 stay.1 in
      (more.0, inr ((λ x. stay.0 (here.1 x)), more.1), more.2))
      is

  pub least_layers : (layers : List Layer) (left : List LayerSource) → AreSources layers left → IsLeastList S left → IsLeastList L layers
  least_layers layers left h is = record { suffices = (same layers left h).0 is.suffices; least = least }
    where
      least : (before after : List Layer) (x : Layer) → layers ≡ before ++ x ∷ after → ¬ L (before ++ after)
      least before after x e all =
          let cut = both_cut before x after left (subst (λ ls. AreSources ls left) e h) in
          is.least cut.front cut.back cut.y cut.whole ((same (before ++ after) (cut.front ++ cut.back) (both_append before after cut.front cut.back cut.front_are cut.back_are)).1 all)

-- ---- those that are named
named_as : (path : Path) (layer : Layer) (source : LayerSource) (named : NamedLayer) → IsSource layer source → IsNamedSource path source named → IsNamed path layer named
named_as path layer source named is h = record {
  kind = h.kind ∙ is.kind;
  name = h.name ∙ is.name;
  parts =
      let P : LayerKind → Tree Row → Type 0 = λ kind table. AreShown kind table path (map part_pair named.parts.items) in
      subst (λ kind. P kind layer.content) is.kind (subst (λ table. P source.kind table) is.table h.parts);
}

all_named : (path : Path) (layers : List Layer) (sources : List LayerSource) (named : List NamedLayer) → AreSources layers sources → AreNamedSources path sources named → AreNamed path layers named
all_named path [] [] named h k = k
all_named path [] (s ∷ sources) named h k = cc
all_named path (l ∷ layers) [] named h k = absurd h
all_named path (l ∷ layers) (s ∷ sources) [] h k = absurd k
all_named path (l ∷ layers) (s ∷ sources) (one ∷ named) h k = (named_as path l s one h.0 k.0, all_named path layers sources named h.1 k.1)

pub none_named : (path : Path) (sources : List LayerSource) (named : List NamedLayer) → sources ≡ [] → AreNamedSources path sources named → named ≡ []
none_named path sources named e h = subst (λ xs. AreNamedSources path xs named) e h

-- the path for which parts are shown
no_label : (view : Refusals) → ¬ IsNotAllowed view []
no_label view h = by h.0 h.2
  where
    by : (above : Path) → [] ≡ above ++ label h.1 ∷ [] → ⊥
    by [] e = cc
    by (x ∷ above) e = cc

shown_path : (view : Refusals) (path shown : Path) (of_label : Bool) → IsTrue of_label ↔ IsLabelReported view path → IsFront path of_label shown → IsShownPath view path shown
shown_path view path shown false is front = inr ((λ h. let both : false ≡ true = is.1 h in cc), front)
shown_path view [] shown true is front = absurd (no_label view (is.0 refl).1)
shown_path view (step ∷ path) shown true is front = inl (is.0 refl, front)

-- ---- as the code has it
pub why_is :
    (layers : List Layer) (sources kept : List LayerSource) (path shown : Path) (of_label : Bool) (named : List NamedLayer) → AreSources layers sources
    → IsLeft (SourcesMake sources path) [] sources kept → IsLeastList (SourcesMake sources path) kept → IsTrue of_label ↔ IsLabelReported (SourcesRefuse sources) path → IsFront path of_label shown → AreNamedSources shown kept named
    → IsWhy layers path named
why_is layers sources kept path shown of_label named are left least is front named_are =
    let same = same_make layers sources path are in
    let out = left_layers (SourcesMake sources path) (LayersMake layers path) same [] layers [] sources kept refl are left in
    record {
      makers = out.0;
      left = out.1;
      least = least_layers (SourcesMake sources path) (LayersMake layers path) same out.0 kept out.2 least;
      shown = shown;
      shown_is = subst (λ view. IsShownPath view path shown) (same_view layers sources are) (shown_path (SourcesRefuse sources) path shown of_label is front);
      named_are = all_named shown out.0 kept named out.2 named_are;
    }

pub reported_as : (layers : List Layer) (sources : List LayerSource) (path : Path) → AreSources layers sources → IsReported (LayersRefuse layers) path ↔ IsReported (SourcesRefuse sources) path
reported_as layers sources path are =
    let P : Refusals → Type 0 = λ view. IsReported view path ↔ IsReported (SourcesRefuse sources) path in
    subst P (same_view layers sources are) (λ h. h, λ h. h)

-- ---- loops
pub sources_more : (layers : List Layer) (i : ℕ) (layer : Layer) (sources new : List LayerSource) (source : LayerSource) → i < length layers → layer ≡ get_or layers i layer → AreSources (take i layers) sources → IsSource layer source
    → new ≡ sources ++ source ∷ [] → AreSources (take (i + 1) layers) new
sources_more layers i layer sources new source less e are is items =
    let cut : take (i + 1) layers ≡ take i layers ++ layer ∷ [] = take_more layers i layer less ∙ ap (λ x. take i layers ++ x ∷ []) (sym e) in
    subst (λ ls. AreSources ls new) (sym cut) (subst (AreSources (take i layers ++ layer ∷ [])) (sym items) (both_end (take i layers) sources layer source are is))

pub sources_all : (layers : List Layer) (i : ℕ) (sources : List LayerSource) → length layers ≤ i → AreSources (take i layers) sources → AreSources layers sources
sources_all layers i sources done are = subst (λ ls. AreSources ls sources) (take_all i layers done) are

named_end : (path : Path) (sources : List LayerSource) (named : List NamedLayer) (source : LayerSource) (one : NamedLayer) → AreNamedSources path sources named → IsNamedSource path source one → AreNamedSources path (sources ++ source ∷ []) (named ++ one ∷ [])
named_end path [] [] source one h is = (is, refl)
named_end path [] (x ∷ named) source one h is = cc
named_end path (s ∷ sources) [] source one h is = absurd h
named_end path (s ∷ sources) (x ∷ named) source one h is = (h.0, named_end path sources named source one h.1 is)

-- the sources so far are named, and the others are left
pub record AreNamedSoFar (path : Path) (all rest : List LayerSource) (named : List NamedLayer) : Type 0 where
  pub done : List LayerSource
  pub whole : done ++ rest ≡ all
  pub named_are : AreNamedSources path done named

pub named_start : (path : Path) (all rest : List LayerSource) (named : List NamedLayer) → rest ≡ all → named ≡ [] → AreNamedSoFar path all rest named
named_start path all rest named e none = record { done = []; whole = e; named_are = none }

pub named_more : (path : Path) (all rest next : List LayerSource) (named new : List NamedLayer) (source : LayerSource) (one : NamedLayer) → rest ≡ source ∷ next → IsNamedSource path source one → new ≡ named ++ one ∷ [] → AreNamedSoFar path all rest named
    → AreNamedSoFar path all next new
named_more path all rest next named new source one cut is items are = record {
  done = are.done ++ source ∷ [];
  whole = append_assoc are.done (source ∷ []) next ∙ ap (λ xs. are.done ++ xs) (sym cut) ∙ are.whole;
  named_are = subst (AreNamedSources path (are.done ++ source ∷ [])) (sym items) (named_end path are.done named source one are.named_are is);
}

pub named_done : (path : Path) (all rest : List LayerSource) (named : List NamedLayer) → rest ≡ [] → AreNamedSoFar path all rest named → AreNamedSources path all named
named_done path all rest named none are =
    let whole : are.done ≡ all = sym (append-nil are.done) ∙ ap (λ xs. are.done ++ xs) (sym none) ∙ are.whole in
    subst (λ xs. AreNamedSources path xs named) whole are.named_are

pub no_items : {X : Type 0} (xs : List X) → length xs ≡ 0 → xs ≡ []
no_items [] e = refl
no_items (x ∷ xs) e = absurd (omega (arith, e))

pub if_ok_as : {A E : Type 0} (r : Result A E) (P Q : A → Type 0) → ((x : A) → P x → Q x) → IfOk r P → IfOk r Q
if_ok_as (Ok x) P Q f h = f x h
if_ok_as (Err e) P Q f h = h

-- ---- how deep parts are
branch_limit : (path : Path) (tree branch : Tree Row) → tree_depth tree ≤ step_limit → branch_at tree path ≡ Some branch → tree_depth branch ≤ step_limit
branch_limit [] tree branch h e = let same : tree ≡ branch = cc in subst (λ t. tree_depth t ≤ step_limit) same h
branch_limit (step ∷ path) tree branch h e = by (step_into tree step) refl e (λ next low f. branch_limit path next branch low f)
  where
    by : (found : Option (Tree Row)) → found ≡ step_into tree step → option_and_then (λ next. branch_at next path) found ≡ Some branch
        → ((next : Tree Row) → tree_depth next ≤ step_limit → branch_at next path ≡ Some branch → tree_depth branch ≤ step_limit) → tree_depth branch ≤ step_limit
    by None f e rec = cc
    by (Some next) f e rec = rec next (found_limit tree step (Some next) h f) e

in_map : (one : WrittenPart) (parts : List WrittenPart) → OneOf (λ y. y ≡ one) parts → OneOf (λ y. y ≡ pair_of one) (map pair_of parts)
in_map one [] h = absurd h
in_map one (p ∷ parts) h = ⊎_elim (λ e. inl (ap pair_of e)) (λ r. inr (in_map one parts r)) h

parts_deep : (table : Tree Row) (parts : List WrittenPart) → tree_depth table ≤ step_limit → ((one : WrittenPart) → OneOf (λ y. y ≡ one) parts → branch_at table one.written ≡ Some one.branch)
    → (k : ℕ) (d : WrittenPart) → k < length parts → tree_depth (get_or parts k d).branch ≤ step_limit
parts_deep table [] h at k d less = absurd (omega arith)
parts_deep table (p ∷ parts) h at zero d less = branch_limit p.written table p.branch h (at p (inl refl))
parts_deep table (p ∷ parts) h at (suc k) d less = parts_deep table parts h (λ one i. at one (inr i)) k d (omega arith)

pub shown_deep : (kind : LayerKind) (table : Tree Row) (path : Path) (parts : List WrittenPart) → tree_depth table ≤ step_limit → AreShown kind table path (map pair_of parts)
    → (k : ℕ) (d : WrittenPart) → k < length parts → tree_depth (get_or parts k d).branch ≤ step_limit
shown_deep kind table path parts h are = parts_deep table parts h (λ one i. are.branches (pair_of one) (in_map one parts i))

map_snoc : {X Y : Type 0} (f : X → Y) (xs : List X) (x : X) → map f (xs ++ x ∷ []) ≡ map f xs ++ f x ∷ []
map_snoc f [] x = refl
map_snoc f (y ∷ xs) x = ap (λ ys. f y ∷ ys) (map_snoc f xs x)

pub parts_more : (own new : List LayerPart) (one : LayerPart) (rest next : List WrittenPart) (part : WrittenPart) (all : List (Path × Tree Row)) → rest ≡ part ∷ next → part_pair one ≡ pair_of part → new ≡ own ++ one ∷ []
    → map part_pair own ++ map pair_of rest ≡ all → map part_pair new ++ map pair_of next ≡ all
parts_more own new one rest next part all cut same items is =
    ap (λ n. map part_pair n ++ map pair_of next) items
    ∙ ap (λ m. m ++ map pair_of next) (map_snoc part_pair own one)
    ∙ append_assoc (map part_pair own) (part_pair one ∷ []) (map pair_of next)
    ∙ ap (λ p. map part_pair own ++ p ∷ map pair_of next) same
    ∙ ap (λ r. map part_pair own ++ map pair_of r) (sym cut)
    ∙ is
