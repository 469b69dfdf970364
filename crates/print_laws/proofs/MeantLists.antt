-- What the list part of a printed row means.
use Rattle.std.proofs.Common.{◌≡◌, ◌↔◌, ◌⊎◌, inl, inr, ⊎_elim, ℕ, zero, suc, ◌+◌, ◌<◌, ◌≤◌, ◌==◌, ◌&&◌, Bool, true, false, not, is_some, List, [], ◌∷◌, Option, None, Some, refl, sym, subst, ◌∙◌, if◌then◌else◌, arith}
use Rattle.std.proofs.lemmas.Bool.{and_parts, cases_lt, eqb-true}
use Rattle.cue_lattice.specs.Path.{Path, label, index}
use Rattle.cue_lattice.specs.Question.{Question, may_be, usual, struct, list, allows, level_at_most, length_at_most, length_at_least}
use Rattle.cue_row.specs.ValidRow.{AreLengths}
use Rattle.cue_scope.specs.Core as core
use Rattle.cue_scope.specs.Core.{Core, followed_by}
use Rattle.cue_scope.specs.Definitions.{Definition}
use Rattle.cue_scope.specs.Meaning.{meant_elements, meant_rest}
use Rattle.cue_eval.specs.Places.{ListRefuses}
use Rattle.cue_eval.specs.Refuses.{ElementsRefuse, count_of_elements, is_open_list, ElementRefuses}
use Rattle.cue_eval.proofs.Rests.{open_followed}
use Rattle.cue_print.specs.Expressions as printed
use Rattle.cue_print.specs.Expressions.{Value, top, Parts, Ending, ends, goes_on, goes_on_as}
use Rattle.cue_print.specs.Printed.{elements_from, elements, dots, list_part}
use Rattle.print_laws.specs.PrintedTree.{value_tree, element_trees, ending_tree}
use Rattle.print_laws.specs.Inner.Meanings.{ValueRefuses, OnePartRefuses, AreFurther, LengthsRefuse, AsList}
use Rattle.print_laws.proofs.MeantFields.{top_silent}

-- ---- lengths
without_most : (least : ℕ) (question : Question) → ListRefuses least true question ↔ LengthsRefuse least None question
without_most least (may_be scalar) = (λ h. h, λ h. h)
without_most least (usual scalar) = (λ h. h, λ h. h)
without_most least struct = (λ h. h, λ h. h)
without_most least list = (λ h. h, λ h. h)
without_most least (allows l) = (λ h. h, λ h. h)
without_most least (level_at_most k) = (λ h. h, λ h. h)
without_most least (length_at_most n) = (λ h. h, λ h. h)
without_most least (length_at_least n) = (λ h. h, λ h. h)

one_length : (least : ℕ) (question : Question) → ListRefuses least false question ↔ LengthsRefuse least (Some least) question
one_length least (may_be scalar) = (λ h. h, λ h. h)
one_length least (usual scalar) = (λ h. h, λ h. h)
one_length least struct = (λ h. h, λ h. h)
one_length least list = (λ h. h, λ h. h)
one_length least (allows l) = (λ h. h, λ h. h)
one_length least (level_at_most k) = (λ h. h, λ h. h)
one_length least (length_at_most n) = (λ h. h, λ h. h)
one_length least (length_at_least n) = (λ h. h, λ h. h)

-- a greatest length that isn't above the least one, as a list of its own
two_lengths : (least most : ℕ) (question : Question) → most ≤ least → (ListRefuses least true question ⊎ ListRefuses most false question) ↔ LengthsRefuse least (Some most) question
two_lengths least most (may_be scalar) h = (λ g. ⊎_elim (λ f. f) (λ f. f) g, inl)
two_lengths least most (usual scalar) h = (λ g. ⊎_elim (λ f. f) (λ f. f) g, inl)
two_lengths least most struct h = (λ g. tt, inl)
two_lengths least most list h = (λ g. ⊎_elim (λ f. f) (λ f. f) g, inl)
two_lengths least most (allows l) h = (λ g. ⊎_elim (λ f. f) (λ f. f) g, inl)
two_lengths least most (level_at_most k) h = (λ g. ⊎_elim (λ f. f) (λ f. f) g, inl)
two_lengths least most (length_at_most n) h = (λ g. ⊎_elim (λ f. f) (λ f. omega (arith, f, h)) g, inl)
two_lengths least most (length_at_least n) h = (λ g. ⊎_elim (λ f. absurd f) (λ f. f) g, inr)

greatest_below : (least most : ℕ) → AreLengths least (Some most) → most ≤ least
greatest_below least most h = h.1

-- ---- what ends a list
goes_further : Ending → Bool
goes_further ends = false
goes_further goes_on = true
goes_further (goes_on_as value) = true

-- what each further element is, where something is said of it or not
ending_value : Ending → Value
ending_value ends = top
ending_value goes_on = top
ending_value (goes_on_as value) = value

-- from a number of elements on each is so
AreEnded : ℕ → (ℕ → Value) → Ending → Type 0
AreEnded n value_at ending = (i : ℕ) → n ≤ i → value_at i ≡ ending_value ending

dots_end : (least : ℕ) (value_at : ℕ → Value) (further : Option Value) → AreFurther least value_at further → AreEnded least value_at (dots further)
unfolding ending_value AreEnded
dots_end least value_at None alike = alike
dots_end least value_at (Some value) alike = alike

dots_go : (further : Option Value) → goes_further (dots further) ≡ true
unfolding goes_further
dots_go None = refl
dots_go (Some value) = refl

none_end : (least : ℕ) (value_at : ℕ → Value) (further : Option Value) → not (is_some further) ≡ true → AreFurther least value_at further → AreEnded least value_at ends
unfolding ending_value AreEnded
none_end least value_at None e alike = alike
none_end least value_at (Some value) e alike = cc

tops_end : (n : ℕ) → AreEnded n (λ k. top) ends
unfolding ending_value AreEnded
tops_end n i h = refl

module _ (ds : List Definition) (meaning : ℕ → Core) where
  -- ---- elements
  abbrev meant_list : Ending → ℕ → ℕ → (ℕ → Value) → core.Elements
  meant_list ending first n value_at = followed_by (meant_elements ds meaning (element_trees (elements_from first n value_at))) (meant_rest ds meaning (ending_tree ending))

  none_counted : (ending : Ending) → count_of_elements (meant_rest ds meaning (ending_tree ending)) ≡ 0
  unfolding value_tree
  none_counted ends = refl
  none_counted goes_on = refl
  none_counted (goes_on_as value) = refl

  open_ending : (ending : Ending) → is_open_list (meant_rest ds meaning (ending_tree ending)) ≡ goes_further ending
  unfolding value_tree goes_further
  open_ending ends = refl
  open_ending goes_on = refl
  open_ending (goes_on_as value) = refl

  so_many : (ending : Ending) (first n : ℕ) (value_at : ℕ → Value) → count_of_elements (meant_list ending first n value_at) ≡ n
  unfolding value_tree
  so_many ending first zero value_at = none_counted ending
  so_many ending first (suc n) value_at = let more = so_many ending (first + 1) n value_at in omega arith

  so_open : (ending : Ending) (n : ℕ) (value_at : ℕ → Value) → is_open_list (meant_list ending 0 n value_at) ≡ goes_further ending
  so_open ending n value_at = open_followed (meant_elements ds meaning (element_trees (elements_from 0 n value_at))) (meant_rest ds meaning (ending_tree ending)) ∙ open_ending ending

  -- what each further element refuses
  ending_refuses : (ending : Ending) (i : ℕ) (path : Path) (question : Question) → ElementRefuses (meant_rest ds meaning (ending_tree ending)) i path question ↔ ValueRefuses ds meaning (ending_value ending) path question
  unfolding value_tree ending_value
  ending_refuses ends i path question = (λ h. absurd h, λ h. absurd (top_silent ds meaning path question h))
  ending_refuses goes_on i path question = (λ h. absurd h, λ h. absurd (top_silent ds meaning path question h))
  ending_refuses (goes_on_as value) i path question = (λ h. h, λ h. h)

  abbrev AtNumber : Ending → ℕ → ℕ → ℕ → (ℕ → Value) → Path → Question → Type 0
  AtNumber ending first n i value_at path question =
      ((i < n) × ValueRefuses ds meaning (value_at (first + i)) path question) ⊎ ((n ≤ i) × ValueRefuses ds meaning (ending_value ending) path question)

  each_element : (ending : Ending) (first n i : ℕ) (value_at : ℕ → Value) (path : Path) (question : Question) →
      ElementRefuses (meant_list ending first n value_at) i path question ↔ AtNumber ending first n i value_at path question
  unfolding value_tree
  each_element ending first zero i value_at path question =
      let end = ending_refuses ending i path question in (
        λ h. inr (omega arith, end.0 h),
        λ h. ⊎_elim (λ g. absurd (omega (arith, g.0))) (λ g. end.1 g.1) h,
      )
  each_element ending first (suc n) zero value_at path question =
      let here : first + 0 ≡ first = omega arith in (
        λ h. inl (omega arith, subst (λ k. ValueRefuses ds meaning (value_at k) path question) (sym here) h),
        λ h. ⊎_elim (λ g. subst (λ k. ValueRefuses ds meaning (value_at k) path question) here g.1) (λ g. absurd (omega (arith, g.0))) h,
      )
  each_element ending first (suc n) (suc i) value_at path question =
      let more = each_element ending (first + 1) n i value_at path question in
      let here : first + 1 + i ≡ first + suc i = omega arith in (
        λ h. ⊎_elim (λ g. inl (omega (arith, g.0), subst (λ k. ValueRefuses ds meaning (value_at k) path question) here g.1)) (λ g. inr (omega (arith, g.0), g.1)) (more.0 h),
        λ h. more.1 (⊎_elim (λ g. inl (omega (arith, g.0), subst (λ k. ValueRefuses ds meaning (value_at k) path question) (sym here) g.1)) (λ g. inr (omega (arith, g.0), g.1)) h),
      )

  -- where the further elements are so, each element refuses what stands at its number
  any_element : (ending : Ending) (n i : ℕ) (value_at : ℕ → Value) → AreEnded n value_at ending → (path : Path) (question : Question) →
      ElementRefuses (meant_list ending 0 n value_at) i path question ↔ ValueRefuses ds meaning (value_at i) path question
  unfolding AreEnded
  any_element ending n i value_at alike path question =
      let each = each_element ending 0 n i value_at path question in
      let here : 0 + i ≡ i = omega arith in
      let back : ValueRefuses ds meaning (value_at i) path question → (i < n) ⊎ (n ≤ i) → AtNumber ending 0 n i value_at path question =
      λ h side. ⊎_elim (λ low. inl (low, subst (λ k. ValueRefuses ds meaning (value_at k) path question) (sym here) h)) (λ high. inr (high, subst (λ v. ValueRefuses ds meaning v path question) (alike i high) h)) side in (
        λ h. ⊎_elim (λ g. subst (λ k. ValueRefuses ds meaning (value_at k) path question) here g.1) (λ g. subst (λ v. ValueRefuses ds meaning v path question) (sym (alike i g.0)) g.1) (each.0 h),
        λ h. each.1 (back h (cases_lt i n)),
      )

  -- ---- one list in front of other parts
  abbrev Elements : (ℕ → Value) → ℕ → Path → Question → Type 0
  Elements value_at i = ValueRefuses ds meaning (value_at i)

  abbrev OneList : ℕ → Bool → (ℕ → Value) → Path → Question → Type 0
  OneList n going value_at = ElementsRefuse (ListRefuses n going) (Elements value_at)

  first_list : (n : ℕ) (ending : Ending) (going : Bool) (value_at : ℕ → Value) (parts : Parts) → goes_further ending ≡ going → AreEnded n value_at ending → (path : Path) (question : Question) →
      OnePartRefuses ds meaning (printed.list (elements n value_at) ending parts) path question ↔ (OneList n going value_at path question ⊎ OnePartRefuses ds meaning parts path question)
  unfolding value_tree
  first_list n ending going value_at parts e alike [] question =
      let all = so_many ending 0 n value_at in
      let opened = so_open ending n value_at ∙ e in
      let so = meant_list ending 0 n value_at in (
        λ h. ⊎_elim (λ g. inl (subst (λ k. ListRefuses k going question) all (subst (λ b. ListRefuses (count_of_elements so) b question) opened g))) inr h,
        λ h. ⊎_elim (λ g. inl (subst (λ b. ListRefuses (count_of_elements so) b question) (sym opened) (subst (λ k. ListRefuses k going question) (sym all) g))) inr h,
      )
  first_list n ending going value_at parts e alike (label l ∷ path) question = (λ h. h, λ h. h)
  first_list n ending going value_at parts e alike (index i ∷ path) question =
      let each = any_element ending n i value_at alike path question in (
        λ h. ⊎_elim (λ g. inl (each.0 g)) inr h,
        λ h. ⊎_elim (λ g. inl (each.1 g)) inr h,
      )

  -- ---- the list part
  module _ (least : ℕ) (value_at : ℕ → Value) (further : Option Value) (parts : Parts) (alike : AreFurther least value_at further) where
    abbrev Rest : Path → Question → Type 0
    Rest = OnePartRefuses ds meaning parts

    open_means : (path : Path) (question : Question) → OnePartRefuses ds meaning (printed.list (elements least value_at) (dots further) parts) path question ↔ (AsList least None (Elements value_at) path question ⊎ Rest path question)
    open_means path question = by path where
      one : (path : Path) → OnePartRefuses ds meaning (printed.list (elements least value_at) (dots further) parts) path question ↔ (OneList least true value_at path question ⊎ Rest path question)
      one path = first_list least (dots further) true value_at parts (dots_go further) (dots_end least value_at further alike) path question

      by : (path : Path) → OnePartRefuses ds meaning (printed.list (elements least value_at) (dots further) parts) path question ↔ (AsList least None (Elements value_at) path question ⊎ Rest path question)
      by [] = let same = without_most least question in (λ h. ⊎_elim (λ g. inl (same.0 g)) inr ((one []).0 h), λ h. (one []).1 (⊎_elim (λ g. inl (same.1 g)) inr h))
      by (label l ∷ path) = one (label l ∷ path)
      by (index i ∷ path) = one (index i ∷ path)

    exact_means : AreEnded least value_at ends → (path : Path) (question : Question) → OnePartRefuses ds meaning (printed.list (elements least value_at) ends parts) path question ↔ (AsList least (Some least) (Elements value_at) path question ⊎ Rest path question)
    unfolding goes_further
    exact_means ended [] question =
        let one = first_list least ends false value_at parts refl ended [] question in
        let same = one_length least question in
        (λ h. ⊎_elim (λ g. inl (same.0 g)) inr (one.0 h), λ h. one.1 (⊎_elim (λ g. inl (same.1 g)) inr h))
    exact_means ended (label l ∷ path) question = first_list least ends false value_at parts refl ended (label l ∷ path) question
    exact_means ended (index i ∷ path) question = first_list least ends false value_at parts refl ended (index i ∷ path) question

    -- the list of the greatest length: its elements refuse nothing
    both_mean : (most : ℕ) → most ≤ least → (path : Path) (question : Question) →
        OnePartRefuses ds meaning (printed.list (elements least value_at) (dots further) (printed.list (elements most (λ n. top)) ends parts)) path question
        ↔ (AsList least (Some most) (Elements value_at) path question ⊎ Rest path question)
    unfolding goes_further
    both_mean most low path question = by path where
      one : (path : Path) → OnePartRefuses ds meaning (printed.list (elements least value_at) (dots further) (printed.list (elements most (λ n. top)) ends parts)) path question
          ↔ (OneList least true value_at path question ⊎ OnePartRefuses ds meaning (printed.list (elements most (λ n. top)) ends parts) path question)
      one path = first_list least (dots further) true value_at (printed.list (elements most (λ n. top)) ends parts) (dots_go further) (dots_end least value_at further alike) path question

      two : (path : Path) → OnePartRefuses ds meaning (printed.list (elements most (λ n. top)) ends parts) path question ↔ (OneList most false (λ n. top) path question ⊎ Rest path question)
      two path = first_list most ends false (λ n. top) parts refl (tops_end most) path question

      by : (path : Path) → OnePartRefuses ds meaning (printed.list (elements least value_at) (dots further) (printed.list (elements most (λ n. top)) ends parts)) path question
          ↔ (AsList least (Some most) (Elements value_at) path question ⊎ Rest path question)
      by [] =
          let same = two_lengths least most question low in (
            λ h. ⊎_elim (λ g. inl (same.0 (inl g))) (λ g. ⊎_elim (λ f. inl (same.0 (inr f))) inr ((two []).0 g)) ((one []).0 h),
            λ h. (one []).1 (⊎_elim (λ g. ⊎_elim inl (λ f. inr ((two []).1 (inl f))) (same.1 g)) (λ g. inr ((two []).1 (inr g))) h),
          )
      by (label l ∷ path) = (
        λ h. ⊎_elim inl (two (label l ∷ path)).0 ((one (label l ∷ path)).0 h),
        λ h. (one (label l ∷ path)).1 (⊎_elim inl (λ g. inr ((two (label l ∷ path)).1 (inr g))) h),
      )
      by (index i ∷ path) = (
        λ h. ⊎_elim inl (λ g. ⊎_elim (λ f. absurd (top_silent ds meaning path question f)) inr ((two (index i ∷ path)).0 g)) ((one (index i ∷ path)).0 h),
        λ h. (one (index i ∷ path)).1 (⊎_elim inl (λ g. inr ((two (index i ∷ path)).1 (inr g))) h),
      )

    bounded_by : (b : Bool) (most : ℕ) → (least == most && not (is_some further)) ≡ b → most ≤ least → (path : Path) (question : Question) →
        OnePartRefuses ds meaning (if b then printed.list (elements least value_at) ends parts else printed.list (elements least value_at) (dots further) (printed.list (elements most (λ n. top)) ends parts)) path question
        ↔ (AsList least (Some most) (Elements value_at) path question ⊎ Rest path question)
    bounded_by true most e low path question =
        let both = and_parts (least == most) (not (is_some further)) e in
        let is : least ≡ most = eqb-true least most both.0 in
        subst (λ k. OnePartRefuses ds meaning (printed.list (elements least value_at) ends parts) path question ↔ (AsList least (Some k) (Elements value_at) path question ⊎ Rest path question)) is
        (exact_means (none_end least value_at further both.1 alike) path question)
    bounded_by false most e low path question = both_mean most low path question

  pub list_means : (least : ℕ) (most : Option ℕ) (value_at : ℕ → Value) (further : Option Value) (parts : Parts) → AreLengths least most → AreFurther least value_at further → (path : Path) (question : Question) →
      OnePartRefuses ds meaning (list_part least most value_at further parts) path question ↔ (AsList least most (Elements value_at) path question ⊎ OnePartRefuses ds meaning parts path question)
  list_means least None value_at further parts lengths alike path question = open_means least value_at further parts alike path question
  list_means least (Some most) value_at further parts lengths alike path question =
      bounded_by least value_at further parts alike (least == most && not (is_some further)) most refl (greatest_below least most lengths) path question
