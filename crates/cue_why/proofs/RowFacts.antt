-- What a row refuses at its place, by what the code asks of it.
use Rattle.std.proofs.Common.{◌≡◌, ◌↔◌, ◌⊎◌, inl, inr, ⊎_elim, ℕ, suc, ◌<◌, ◌≤◌, true, false, List, [], ◌∷◌, ◌++◌, length, Option, None, Some, refl, sym, ap, ◌∙◌, subst, arith}
use Rattle.std.specs.Prelude.{IsTrue}
use Rattle.std.proofs.lemmas.Bool.{false≢true}
use Rattle.std.proofs.lemmas.Bool.Decides.{nat_tests}
use Rattle.cue_lattice.specs.Path.{Path}
use Rattle.cue_lattice.specs.Question.{Question, Refusals, may_be, usual, struct, list, level_at_most, length_at_most, length_at_least}
use Rattle.cue_row.specs.Kinds.{IsEmptySet}
use Rattle.cue_row.specs.Lengths.{RefusesLength}
use Rattle.cue_row.specs.Row.{IsRow, RowRefusesQuestion}
use Rattle.cue_row.specs.declared.parts.RowParts.{RowParts as Row}
use Rattle.cue_report.specs.Answers.{IsDemanded, IsNotAllowed}
use Rattle.cue_report.specs.Inner.Search.{is_above, is_empty_set}
use Rattle.cue_report.proofs.Empty.{refused_empty, empty_refused, empty_members, refused}
use Rattle.cue_why.specs.Finding.{RefusesValues, HasNoDefault}
use Rattle.cue_why.specs.Inner.Findings.{IsMetAt, Meets, at_row}
use Rattle.cue_why.specs.Inner.Trails.{TrailRefuses}
use Rattle.cue_why.specs.declared.finding.Finding.{Finding}
use Rattle.cue_why.proofs.Demands.{end_is}

-- what is refused at one path is refused by another set at another
pub values_as : (a b : Refusals) (p q : Path) → ((question : Question) → b q question → a p question) → RefusesValues b q → RefusesValues a p
values_as a b p q more h = ⊎_elim
    (λ all. inl ((λ scalar is. more (may_be scalar) (all.0 scalar is)), more struct all.1, more list all.2))
    (λ none. inr (λ n. ⊎_elim (λ x. inl (more (length_at_most n) x)) (λ y. inr (more (length_at_least n) y)) (none n)))
    h

no_length : (least : ℕ) (most : Option ℕ) → is_above least most ≡ true → (n : ℕ) → (n < least) ⊎ RefusesLength most n
no_length least None e n = absurd (false≢true e)
no_length least (Some most) e n = grind (arith, nat_tests)

above_from : (least : ℕ) (most : Option ℕ) → ((n : ℕ) → (n < least) ⊎ RefusesLength most n) → is_above least most ≡ true
above_from least None h = absurd (⊎_elim (λ l. let low : least < least = l in let no : ⊥ = omega arith in no) (λ (f : ⊥). f) (h least))
above_from least (Some most) h =
    let above : most < least = ⊎_elim (λ l. l) (λ f. let high : most < most = f in let no : most < least = omega arith in no) (h most) in
    grind (arith, nat_tests)

-- each length is refused where the least one is above the greatest
pub values_above : (row : Row) → is_above row.least row.most ≡ true → RefusesValues (at_row row) []
values_above row e = inr (no_length row.least row.most e)

-- and otherwise values are refused where each scalar, struct and list is
pub values_within : (row : Row) → IsRow row → (is_above row.least row.most ≡ true → ⊥) → RefusesValues (at_row row) [] → (row.list_ok ≡ false) × (row.struct_ok ≡ false) × IsEmptySet row.value
values_within row form not h = ⊎_elim
    (λ all. (all.2, all.1, empty_members row.value (refused_empty row.value form.value all.0)))
    (λ none. absurd (not (above_from row.least row.most none)))
    h

pub values_all : (row : Row) → row.list_ok ≡ false → row.struct_ok ≡ false → IsEmptySet row.value → RefusesValues (at_row row) []
values_all row l s empty = inl (refused row.value empty, s, l)

-- no scalar is a default where the set of defaults is empty
pub default_is : (row : Row) → IsRow row → (is_empty_set row.usual ≡ true) ↔ HasNoDefault (at_row row) []
default_is row form = (λ e. empty_refused row.usual e, λ h. refused_empty row.usual form.usual h)

-- what has to be refused at the end of a path, by the row there
pub met_at : (finding : Finding) (own : Refusals) (path : Path) (row : Row) → ((question : Question) → own path question ↔ RowRefusesQuestion row question) → IsDemanded own path
    → (IsTrue finding.not_allowed → IsNotAllowed own path) → IsMetAt finding row ↔ Meets finding own path
met_at finding own path row same demanded allowed = (
  λ h. record {
    demanded = demanded;
    no_value = λ t. values_as own (at_row row) path [] (λ question r. (same question).1 r) (h.no_value t);
    not_allowed = allowed;
    levels = λ k less. (same (level_at_most k)).1 (h.levels k less);
    no_default = λ t scalar is. (same (usual scalar)).1 (h.no_default t scalar is);
  },
  λ h. record {
    no_value = λ t. values_as (at_row row) own [] path (λ question r. (same question).0 r) (h.no_value t);
    levels = λ k less. (same (level_at_most k)).0 (h.levels k less);
    no_default = λ t scalar is. (same (usual scalar)).0 (h.no_default t scalar is);
  },
)

-- the lesser levels are refused where the level is not above
pub levels_low : (f r : ℕ) → f ≤ r → (k : ℕ) → k < f → k < r
levels_low f r h k less = omega arith

pub levels_high : (f r : ℕ) → ((k : ℕ) → k < f → k < r) → (r < f → ⊥)
levels_high f r h less = let k : r < r = h r less in omega arith

-- the last of rows along a path, by what the code cuts off
pub end_row : (path : Path) (rows front : List Row) (row : Row) → rows ≡ front ++ row ∷ [] → length rows ≡ suc (length path)
    → (question : Question) → TrailRefuses RowRefusesQuestion path rows path question ↔ RowRefusesQuestion row question
end_row path rows front row e long question =
    let P : List Row → Type 0 = λ rs. TrailRefuses RowRefusesQuestion path rs path question ↔ RowRefusesQuestion row question in
    subst P (sym e) (end_is RowRefusesQuestion path front row question (snoc_long front long_front))
  where
    long_front : length (front ++ row ∷ []) ≡ suc (length path)
    long_front = ap length (sym e) ∙ long

    snoc_long : (xs : List Row) → length (xs ++ row ∷ []) ≡ suc (length path) → length xs ≡ length path
    snoc_long xs h = let one : length (xs ++ row ∷ []) ≡ suc (length xs) = snoc_length xs in omega arith
      where
        snoc_length : (ys : List Row) → length (ys ++ row ∷ []) ≡ suc (length ys)
        snoc_length [] = refl
        snoc_length (y ∷ ys) = ap suc (snoc_length ys)
