-- Pages that grow by a part.
use Rattle.std.proofs.Common.{◌≡◌, ◌++◌, ◌∷◌, [], ℕ, List, map, refl, sym, ap, ◌∙◌, subst, inl, inr, append_assoc, append-nil, Result, Ok, Err, OnOk}
use Rattle.std.specs.List.{AllByRecursion}
use Rattle.cue_service.specs.Escapes.{escaped}
use Rattle.cue_service.specs.Pages.{IsPart, IsPage, IsMarkup, joined}

one_more : (parts : List (List ℕ)) (part : List ℕ) → joined (parts ++ part ∷ []) ≡ joined parts ++ part
one_more [] part = append-nil part
one_more (p ∷ parts) part = ap (λ (l : List ℕ). p ++ l) (one_more parts part) ∙ sym (append_assoc p (joined parts) part)

all_more : (parts : List (List ℕ)) (part : List ℕ) → AllByRecursion IsPart parts → IsPart part → AllByRecursion IsPart (parts ++ part ∷ [])
all_more [] part all is = (is, tt)
all_more (p ∷ parts) part all is = (all.0, all_more parts part all.1 is)

pub grown : (page part : List ℕ) → IsPart part → IsPage page → IsPage (page ++ part)
grown page part is (parts, all, e) = (parts ++ part ∷ [], all_more parts part all is, ap (λ (l : List ℕ). l ++ part) e ∙ sym (one_more parts part))

pub grown_by_markup : (before after part : List ℕ) → IsMarkup part → after ≡ before ++ part → IsPage before → IsPage after
grown_by_markup before after part is e page = subst IsPage (sym e) (grown before part (inl is) page)

pub grown_by_text : (before after text : List ℕ) → after ≡ before ++ escaped text → IsPage before → IsPage after
grown_by_text before after text e page = subst IsPage (sym e) (grown before (escaped text) (inr (text, refl)) page)

pub grown_if : {X E : Type 0} (r : Result X E) (before after text : List ℕ) → OnOk r (after ≡ before ++ escaped text) → OnOk r (IsPage before → IsPage after)
grown_if (Ok x) before after text e = grown_by_text before after text e
grown_if (Err e) before after text is = tt

pub map_same : (xs : List ℕ) → map (λ c. c) xs ≡ xs
map_same [] = refl
map_same (x ∷ xs) = ap (λ (l : List ℕ). x ∷ l) (map_same xs)
