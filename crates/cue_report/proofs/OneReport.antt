-- Equal answers have one report.
use Rattle.std.proofs.Common.{◌≡◌, inl, inr, ℕ, suc, ◌<◌, List, [], ◌∷◌, refl, sym, ap, subst, ◌∙◌, arith}
use Rattle.cue_lattice.specs.Path.{label, index}
use Rattle.cue_lattice.specs.Question.{Refusals, SameAnswers, struct, list}
use Rattle.serde_json.specs.Data.{Data, null, boolean, number, string, array, object, Items, no_items, item, Members, no_members, member}
use Rattle.serde_json.specs.Written.{compact_text}
use Rattle.cue_report.specs.Answers.{IsStepDemanded}
use Rattle.cue_report.specs.Export.{refused_below, data_of, keys, count_elements, AreKeys, IsLeastLength, IsAtom, IsShape, AreElements, AreMembers, IsExport}
use Rattle.cue_report.specs.Gaps.{IsChosenScalar, IsFreeRow, AreGaps, IsReportGap}
use Rattle.cue_report.specs.Listing.{AreConflicts, IsConflict}
use Rattle.cue_report.specs.OneReport.{IsSameExport, HaveOneReport}
use Rattle.cue_report.specs.declared.conflict.Conflict.{Conflict}
use Rattle.cue_report.specs.declared.gap.Gap.{Gap}
use Rattle.cue_report.specs.declared.outcome.Export.{Export}
use Rattle.cue_report.specs.declared.outcome.Export.TheVariants.{Json, Conflicts, Incomplete}
use Rattle.cue_report.proofs.Documents.{same_chosen}
use Rattle.cue_report.proofs.OneList.{one_list}
use Rattle.cue_report.proofs.Same.{swapped, same_beyond, step_there, chosen_there, free_there, conflict_there, gap_there}

pub one_conflicts : (a b : Refusals) (xs ys : List Conflict) → SameAnswers a b → AreConflicts a xs → AreConflicts b ys → xs ≡ ys
one_conflicts a b xs ys same =
    one_list (λ conflict. conflict.path) (IsConflict a) (IsConflict b) xs ys (λ x. conflict_there a b x same) (λ x. conflict_there b a x (swapped a b same))

pub one_gaps : (a b : Refusals) (xs ys : List Gap) → SameAnswers a b → AreGaps a xs → AreGaps b ys → xs ≡ ys
one_gaps a b xs ys same =
    one_list (λ gap. gap.path) (IsReportGap a) (IsReportGap b) xs ys (λ x. gap_there a b x same) (λ x. gap_there b a x (swapped a b same))

-- ---- one document
one_scalar : (a b : Refusals) (j k : Data) → SameAnswers a b → IsAtom IsChosenScalar a j → IsAtom IsChosenScalar b k → j ≡ k
one_scalar a b j k same (inl h) (inl g) = h.1 ∙ sym g.1
one_scalar a b j k same (inl h) (inr g) = absurd (h.0.1 ((same [] struct).1 g.no_struct))
one_scalar a b j k same (inr h) (inl g) = absurd (g.0.1 ((same [] struct).0 h.no_struct))
one_scalar a b j k same (inr h) (inr g) =
    let e : h.picked.0 ≡ g.picked.0 = same_chosen b [] h.picked.0 g.picked.0 (chosen_there a b [] h.picked.0 same h.picked.1) g.picked.1 in
    h.picked.2 ∙ ap data_of e ∙ sym g.picked.2

one_keys : (a b : Refusals) (xs ys : List (List ℕ)) → SameAnswers a b → AreKeys a xs → AreKeys b ys → xs ≡ ys
one_keys a b xs ys same =
    one_list (λ key. label key ∷ []) (λ key. IsStepDemanded a [] (label key)) (λ key. IsStepDemanded b [] (label key)) xs ys
    (λ key. step_there a b [] (label key) same) (λ key. step_there b a [] (label key) (swapped a b same))

not_less : (a b : Refusals) (m n : ℕ) → SameAnswers a b → IsLeastLength a m → IsLeastLength b n → m < n → ⊥
not_less a b m n same h g l =
    let low : m < m = (h m).0 (step_there b a [] (index m) (swapped a b same) ((g m).1 l)) in
    omega arith

one_least : (a b : Refusals) (m n : ℕ) → SameAnswers a b → IsLeastLength a m → IsLeastLength b n → m ≡ n
one_least a b m n same h g = neither m n (not_less a b m n same h g) (not_less b a n m (swapped a b same) g h) where
  neither : (m n : ℕ) → (m < n → ⊥) → (n < m → ⊥) → m ≡ n
  neither m n f k = omega arith

-- a scalar here is a scalar there
no_array : (a b : Refusals) → SameAnswers a b → (j : Data) → IsAtom IsChosenScalar a j → b [] struct → (¬ b [] list) → ⊥
no_array a b same j (inl h) s l = h.0.1 ((same [] struct).1 s)
no_array a b same j (inr h) s l = l ((same [] list).0 h.no_list)

no_object : (a b : Refusals) → SameAnswers a b → (j : Data) → IsAtom IsChosenScalar a j → (¬ b [] struct) → (¬ IsFreeRow b []) → ⊥
no_object a b same j (inl h) s f = f (free_there a b [] same h.0)
no_object a b same j (inr h) s f = s ((same [] struct).0 h.no_struct)

scalar_first : (a b : Refusals) (j k : Data) → SameAnswers a b → IsAtom IsChosenScalar a j → IsShape IsChosenScalar b k → j ≡ k
scalar_first a b j null same h g = one_scalar a b j null same h g
scalar_first a b j (boolean t) same h g = one_scalar a b j (boolean t) same h g
scalar_first a b j (number n) same h g = one_scalar a b j (number n) same h g
scalar_first a b j (string s) same h g = one_scalar a b j (string s) same h g
scalar_first a b j (array xs) same h g = absurd (no_array a b same j h g.0 g.1)
scalar_first a b j (object ms) same h g = absurd (no_object a b same j h g.0 g.1)

scalar_last : (a b : Refusals) (j k : Data) → SameAnswers a b → IsShape IsChosenScalar a j → IsAtom IsChosenScalar b k → j ≡ k
scalar_last a b j k same h g = sym (scalar_first b a k j (swapped a b same) g h)

mutual
  pub one_document : (a b : Refusals) (j k : Data) → SameAnswers a b → IsShape IsChosenScalar a j → IsShape IsChosenScalar b k → j ≡ k
  one_document a b null k same h g = scalar_first a b null k same h g
  one_document a b (boolean t) k same h g = scalar_first a b (boolean t) k same h g
  one_document a b (number n) k same h g = scalar_first a b (number n) k same h g
  one_document a b (string s) k same h g = scalar_first a b (string s) k same h g
  one_document a b (array xs) null same h g = scalar_last a b (array xs) null same h g
  one_document a b (array xs) (boolean t) same h g = scalar_last a b (array xs) (boolean t) same h g
  one_document a b (array xs) (number n) same h g = scalar_last a b (array xs) (number n) same h g
  one_document a b (array xs) (string s) same h g = scalar_last a b (array xs) (string s) same h g
  one_document a b (array xs) (array ys) same h g = ap array (one_elements a b 0 xs ys same (one_least a b (count_elements xs) (count_elements ys) same h.2 g.2) h.3 g.3)
  one_document a b (array xs) (object ms) same h g = absurd (g.0 ((same [] struct).0 h.0))
  one_document a b (object ms) null same h g = scalar_last a b (object ms) null same h g
  one_document a b (object ms) (boolean t) same h g = scalar_last a b (object ms) (boolean t) same h g
  one_document a b (object ms) (number n) same h g = scalar_last a b (object ms) (number n) same h g
  one_document a b (object ms) (string s) same h g = scalar_last a b (object ms) (string s) same h g
  one_document a b (object ms) (array ys) same h g = absurd (h.0 ((same [] struct).1 g.0))
  one_document a b (object ms) (object ns) same h g = ap object (one_members a b ms ns same (one_keys a b (keys ms) (keys ns) same h.2 g.2) h.3 g.3)

  one_elements : (a b : Refusals) (first : ℕ) (xs ys : Items) → SameAnswers a b → count_elements xs ≡ count_elements ys → AreElements IsChosenScalar a first xs → AreElements IsChosenScalar b first ys → xs ≡ ys
  one_elements a b first no_items no_items same c h g = refl
  one_elements a b first no_items (item k ys) same c h g = cc
  one_elements a b first (item j xs) no_items same c h g = cc
  one_elements a b first (item j xs) (item k ys) same c h g =
      let here : j ≡ k = one_document (refused_below a (index first)) (refused_below b (index first)) j k (same_beyond a b (index first) same) h.0 g.0 in
      let rest : xs ≡ ys = one_elements a b (suc first) xs ys same (let e : count_elements xs ≡ count_elements ys = omega (arith, c) in e) h.1 g.1 in
      λ i. item (here i) (rest i)

  one_members : (a b : Refusals) (ms ns : Members) → SameAnswers a b → keys ms ≡ keys ns → AreMembers IsChosenScalar a ms → AreMembers IsChosenScalar b ns → ms ≡ ns
  one_members a b no_members no_members same e h g = refl
  one_members a b no_members (member l k ns) same e h g = cc
  one_members a b (member l j ms) no_members same e h g = cc
  one_members a b (member l j ms) (member m k ns) same e h g =
      let first : l ≡ m = cc in
      let more : keys ms ≡ keys ns = cc in
      let there : IsShape IsChosenScalar (refused_below b (label l)) k = subst (λ n. IsShape IsChosenScalar (refused_below b (label n)) k) (sym first) g.0 in
      let here : j ≡ k = one_document (refused_below a (label l)) (refused_below b (label l)) j k (same_beyond a b (label l) same) h.0 there in
      let rest : ms ≡ ns = one_members a b ms ns same more h.1 g.1 in
      λ i. member (first i) (here i) (rest i)

-- ---- one export
one_export : (a b : Refusals) (x y : Export) → SameAnswers a b → IsExport a x → IsExport b y → IsSameExport x y
one_export a b (Conflicts f) (Conflicts g) same h k = one_conflicts a b f.items g.items same h.1 k.1
one_export a b (Conflicts f) (Incomplete g) same h k = absurd (h.0 (one_conflicts a b f.items [] same h.1 k.0))
one_export a b (Conflicts f) (Json t) same h k = absurd (h.0 (one_conflicts a b f.items [] same h.1 k.0))
one_export a b (Incomplete f) (Conflicts g) same h k = absurd (k.0 (sym (one_conflicts a b [] g.items same h.0 k.1)))
one_export a b (Incomplete f) (Incomplete g) same h k = one_gaps a b f.items g.items same h.2 k.2
one_export a b (Incomplete f) (Json t) same h k = absurd (h.1 (one_gaps a b f.items [] same h.2 k.1))
one_export a b (Json s) (Conflicts g) same h k = absurd (k.0 (sym (one_conflicts a b [] g.items same h.0 k.1)))
one_export a b (Json s) (Incomplete g) same h k = absurd (k.1 (sym (one_gaps a b [] g.items same h.1 k.2)))
one_export a b (Json s) (Json t) same (c, n, (j, d, e)) (c', n', (j', d', e')) = e ∙ ap compact_text (one_document a b j j' same d d') ∙ sym e'

pub one_report : (a b : Refusals) → SameAnswers a b → HaveOneReport a b
one_report a b same = record {
  conflicts = λ xs ys. one_conflicts a b xs ys same;
  gaps = λ xs ys. one_gaps a b xs ys same;
  exports = λ x y. one_export a b x y same;
}
