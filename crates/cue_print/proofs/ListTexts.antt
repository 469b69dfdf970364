-- Elements of lists, one after the other.
use Rattle.std.proofs.Common.{◌≡◌, ℕ, zero, suc, ◌+◌, ◌-◌, ◌<◌, Bool, false, List, [], ◌∷◌, nat_eq, refl, sym, ap, ◌∙◌, arith}
use Rattle.std.specs.Prelude.{codes}
use Rattle.cue_lattice.specs.Bools.{is_nil}
use Rattle.cue_print.specs.Expressions.{Value, top}
use Rattle.cue_print.specs.Printed.{elements_from, elements}
use Rattle.cue_print.specs.Spelled.{value_text, element_texts}

pub none_before : (count : ℕ) (value_at : ℕ → Value) → is_nil (element_texts (elements count value_at)) ≡ nat_eq count 0
unfolding element_texts
none_before zero value_at = refl
none_before (suc count) value_at = later count where
  later : (n : ℕ) → false ≡ nat_eq (suc n) 0
  later n = grind arith

-- the texts of the elements from a number on
abbrev pub elements_left : ℕ → ℕ → (ℕ → Value) → List (List ℕ)
elements_left number count value_at = element_texts (elements_from number (count - number) value_at)

pub all_elements : (count : ℕ) (value_at : ℕ → Value) → elements_left 0 count value_at ≡ element_texts (elements count value_at)
all_elements count value_at = ap (λ n. element_texts (elements_from 0 n value_at)) (whole count) where
  whole : (n : ℕ) → n - 0 ≡ n
  whole n = omega arith

-- the text of the next element, in front of those of the others
pub first_element : (number count : ℕ) (value_at : ℕ → Value) → number < count → elements_left number count value_at ≡ value_text (value_at number) ∷ elements_left (number + 1) count value_at
unfolding element_texts
first_element number count value_at h = ap (λ n. element_texts (elements_from number n value_at)) (fewer number count h) where
  fewer : (m n : ℕ) → m < n → n - m ≡ suc (n - (m + 1))
  fewer m n h = omega arith

pub no_element_left : (number count : ℕ) (value_at : ℕ → Value) → number ≡ count → elements_left number count value_at ≡ []
unfolding element_texts
no_element_left number count value_at e = ap (λ n. element_texts (elements_from number n value_at)) (none number count e) where
  none : (m n : ℕ) → m ≡ n → n - m ≡ 0
  none m n e = omega arith

pub top_text : codes "_" ≡ value_text top
unfolding value_text
top_text = refl

-- an element of which nothing is said
pub first_free : (number count : ℕ) → number < count → elements_left number count (λ n. top) ≡ codes "_" ∷ elements_left (number + 1) count (λ n. top)
first_free number count h = first_element number count (λ n. top) h ∙ ap (λ t. t ∷ elements_left (number + 1) count (λ n. top)) (sym top_text)
