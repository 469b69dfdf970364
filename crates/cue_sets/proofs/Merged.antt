-- What a merge of two ascending lists of texts lists.
use Rattle.std.proofs.Common.{◌≡◌, ℕ, Bool, true, false, List, [], ◌∷◌, refl, sym, ap, ◌∙◌, subst}
use Rattle.std.specs.Str.{bytes_eq}
use Rattle.std.specs.declared.cmp.Ordering.{Ordering}
use Rattle.std.specs.declared.cmp.Ordering.TheVariants.{Less, Equal, Greater}
use Rattle.std.proofs.lemmas.Slice.Eq.{bytes_eq-Decides}
use Rattle.cue_sets.specs.Inner.Combination.{combination_keeps}
use Rattle.cue_sets.specs.Texts.{is_listed, is_member_if, is_text_member, text_cmp, IsTextBelowAll, IsAscending}
use Rattle.cue_sets.specs.TextLaws.{reverse_cmp, same_from_equal, bytes_eq-itself, is_listed-below, IsTextBelowAll-lower, is_listed-before_first}
use Rattle.cue_sets.specs.Inner.Merge.{prepended_if, right_merged, merged_at, merged_from, merge_texts, combination_lists}
use Rattle.cue_sets.specs.declared.combination.Combination.{Combination}

-- ---- the texts of a merge ascend
IsTextBelowAll-prepended : (b : Bool) (p x : List ℕ) (xs : List (List ℕ)) → text_cmp p x ≡ Less → IsTextBelowAll p xs → IsTextBelowAll p (prepended_if b x xs)
IsTextBelowAll-prepended true p x xs h k = (h, k)
IsTextBelowAll-prepended false p x xs h k = k

IsTextBelowAll-right : (kept : Bool → Bool → Bool) (p : List ℕ) (ys : List (List ℕ)) → IsTextBelowAll p ys → IsTextBelowAll p (right_merged kept ys)
IsTextBelowAll-right kept p [] b = tt
IsTextBelowAll-right kept p (y ∷ ys) b = IsTextBelowAll-prepended (kept false true) p y _ b.0 (IsTextBelowAll-right kept p ys b.1)

IsTextBelowAll-merged : (kept : Bool → Bool → Bool) (p : List ℕ) (xs ys : List (List ℕ)) → IsTextBelowAll p xs → IsTextBelowAll p ys → IsTextBelowAll p (merge_texts kept xs ys)
IsTextBelowAll-merged kept p [] ys a b = IsTextBelowAll-right kept p ys b
IsTextBelowAll-merged kept p (x ∷ xs) ys a b = from (λ zs d. IsTextBelowAll-merged kept p xs zs a.1 d) ys b where
  at : ((zs : List (List ℕ)) → IsTextBelowAll p zs → IsTextBelowAll p (merge_texts kept xs zs)) → (o : Ordering) (y : List ℕ) (ys later : List (List ℕ)) → IsTextBelowAll p (y ∷ ys) → IsTextBelowAll p later → IsTextBelowAll p (merged_at kept x (merge_texts kept xs) o y ys later)
  at ih Less y ys later b l = IsTextBelowAll-prepended (kept true false) p x _ a.0 (ih (y ∷ ys) b)
  at ih Equal y ys later b l = IsTextBelowAll-prepended (kept true true) p x _ a.0 (ih ys b.1)
  at ih Greater y ys later b l = IsTextBelowAll-prepended (kept false true) p y _ b.0 l

  from : ((zs : List (List ℕ)) → IsTextBelowAll p zs → IsTextBelowAll p (merge_texts kept xs zs)) → (ys : List (List ℕ)) → IsTextBelowAll p ys → IsTextBelowAll p (merged_from kept x (merge_texts kept xs) ys)
  from ih [] b = IsTextBelowAll-prepended (kept true false) p x _ a.0 (ih [] tt)
  from ih (y ∷ ys) b = at ih (text_cmp x y) y ys _ b (from ih ys b.1)

IsAscending-prepended : (b : Bool) (x : List ℕ) (xs : List (List ℕ)) → IsTextBelowAll x xs → IsAscending xs → IsAscending (prepended_if b x xs)
IsAscending-prepended true x xs h k = (h, k)
IsAscending-prepended false x xs h k = k

IsAscending-right : (kept : Bool → Bool → Bool) (ys : List (List ℕ)) → IsAscending ys → IsAscending (right_merged kept ys)
IsAscending-right kept [] b = tt
IsAscending-right kept (y ∷ ys) b = IsAscending-prepended (kept false true) y _ (IsTextBelowAll-right kept y ys b.0) (IsAscending-right kept ys b.1)

-- a merge of two ascending lists ascends
pub IsAscending-merged : (kept : Bool → Bool → Bool) (xs ys : List (List ℕ)) → IsAscending xs → IsAscending ys → IsAscending (merge_texts kept xs ys)
IsAscending-merged kept [] ys a b = IsAscending-right kept ys b
IsAscending-merged kept (x ∷ xs) ys a b = from (λ zs d. IsAscending-merged kept xs zs a.1 d) ys b where
  at : ((zs : List (List ℕ)) → IsAscending zs → IsAscending (merge_texts kept xs zs)) → (o : Ordering) (y : List ℕ) (ys : List (List ℕ)) → text_cmp x y ≡ o → IsAscending (y ∷ ys) → IsAscending (merged_from kept x (merge_texts kept xs) ys) → IsAscending (merged_at kept x (merge_texts kept xs) o y ys (merged_from kept x (merge_texts kept xs) ys))
  at ih Less y ys h b l = IsAscending-prepended (kept true false) x _ (IsTextBelowAll-merged kept x xs (y ∷ ys) a.0 (h, IsTextBelowAll-lower x y ys h b.0)) (ih (y ∷ ys) b)
  at ih Equal y ys h b l = IsAscending-prepended (kept true true) x _ (IsTextBelowAll-merged kept x xs ys a.0 (subst (λ z. IsTextBelowAll z ys) (sym (same_from_equal x y h)) b.0)) (ih ys b.1)
  at ih Greater y ys h b l =
      let less = reverse_cmp x y Greater h in
      IsAscending-prepended (kept false true) y _ (IsTextBelowAll-merged kept y (x ∷ xs) ys (less, IsTextBelowAll-lower y x xs less a.0) b.0) l

  from : ((zs : List (List ℕ)) → IsAscending zs → IsAscending (merge_texts kept xs zs)) → (ys : List (List ℕ)) → IsAscending ys → IsAscending (merged_from kept x (merge_texts kept xs) ys)
  from ih [] b = IsAscending-prepended (kept true false) x _ (IsTextBelowAll-merged kept x xs [] a.0 tt) (ih [] tt)
  from ih (y ∷ ys) b = at ih (text_cmp x y) y ys refl b (from ih ys b.1)

-- ---- which texts a merge lists
is_listed-prepended : (b : Bool) (x t : List ℕ) (xs : List (List ℕ)) (wanted : Bool) → (x ≡ t → (wanted ≡ b) × (is_listed xs t ≡ false)) → (bytes_eq x t ≡ false → is_listed xs t ≡ wanted) → is_listed (prepended_if b x xs) t ≡ wanted
is_listed-prepended b x t xs wanted same other = cases b (bytes_eq x t) refl same where
  cases : (b r : Bool) → bytes_eq x t ≡ r → (x ≡ t → (wanted ≡ b) × (is_listed xs t ≡ false)) → is_listed (prepended_if b x xs) t ≡ wanted
  cases true true h s = rw h (sym (s ((bytes_eq-Decides x t).0 h)).0)
  cases false true h s = let p = s ((bytes_eq-Decides x t).0 h) in p.1 ∙ sym p.0
  cases true false h s = rw h (other h)
  cases false false h s = other h

right_listed : (kept : Bool → Bool → Bool) (ys : List (List ℕ)) (t : List ℕ) → kept false false ≡ false → IsAscending ys → is_listed (right_merged kept ys) t ≡ kept false (is_listed ys t)
right_listed kept [] t none b = sym none
right_listed kept (y ∷ ys) t none b =
    is_listed-prepended (kept false true) y t (right_merged kept ys) (kept false (is_listed (y ∷ ys) t))
    (λ e. subst (λ s. (kept false (is_listed (y ∷ ys) s) ≡ kept false true) × (is_listed (right_merged kept ys) s ≡ false)) e
    (rw (bytes_eq-itself y) refl, right_listed kept ys y none b.1 ∙ ap (kept false) (is_listed-below y ys b.0) ∙ none))
    (λ h. right_listed kept ys t none b.1 ∙ rw h refl)

-- whether a merge lists a text is told by whether each of the two lists does
pub is_listed-merged : (kept : Bool → Bool → Bool) (xs ys : List (List ℕ)) (t : List ℕ) → kept false false ≡ false → IsAscending xs → IsAscending ys → is_listed (merge_texts kept xs ys) t ≡ kept (is_listed xs t) (is_listed ys t)
is_listed-merged kept [] ys t none a b = right_listed kept ys t none b
is_listed-merged kept (x ∷ xs) ys t none a b = from (λ zs s d. is_listed-merged kept xs zs s none a.1 d) ys b t where
  at_x : (later ys : List (List ℕ)) (t : List ℕ) → is_listed later t ≡ kept (is_listed xs t) (is_listed ys t) → is_listed ys x ≡ false → (is_listed later x ≡ kept (is_listed xs x) (is_listed ys x)) → is_listed (prepended_if (kept true false) x later) t ≡ kept (is_listed (x ∷ xs) t) (is_listed ys t)
  at_x later ys t e out f =
      is_listed-prepended (kept true false) x t later (kept (is_listed (x ∷ xs) t) (is_listed ys t))
      (λ same. subst (λ s. (kept (is_listed (x ∷ xs) s) (is_listed ys s) ≡ kept true false) × (is_listed later s ≡ false)) same
      (rw (bytes_eq-itself x, out) refl, f ∙ rw (is_listed-below x xs a.0, out) none))
      (λ h. e ∙ rw h refl)

  at : ((zs : List (List ℕ)) (t : List ℕ) → IsAscending zs → is_listed (merge_texts kept xs zs) t ≡ kept (is_listed xs t) (is_listed zs t)) → (o : Ordering) (y : List ℕ) (ys : List (List ℕ)) → text_cmp x y ≡ o → IsAscending (y ∷ ys) → ((t : List ℕ) → is_listed (merged_from kept x (merge_texts kept xs) ys) t ≡ kept (is_listed (x ∷ xs) t) (is_listed ys t)) → (t : List ℕ) → is_listed (merged_at kept x (merge_texts kept xs) o y ys (merged_from kept x (merge_texts kept xs) ys)) t ≡ kept (is_listed (x ∷ xs) t) (is_listed (y ∷ ys) t)
  at ih Less y ys h b l t = at_x (merge_texts kept xs (y ∷ ys)) (y ∷ ys) t (ih (y ∷ ys) t b) (is_listed-before_first x y ys h b.0) (ih (y ∷ ys) x b)
  at ih Equal y ys h b l t =
      let same = same_from_equal x y h in
      let below : IsTextBelowAll x ys = subst (λ z. IsTextBelowAll z ys) (sym same) b.0 in
      is_listed-prepended (kept true true) x t (merge_texts kept xs ys) (kept (is_listed (x ∷ xs) t) (is_listed (y ∷ ys) t))
      (λ e. subst (λ s. (kept (is_listed (x ∷ xs) s) (is_listed (y ∷ ys) s) ≡ kept true true) × (is_listed (merge_texts kept xs ys) s ≡ false)) e
      (rw (bytes_eq-itself x, ← same, bytes_eq-itself x) refl, ih ys x b.1 ∙ rw (is_listed-below x xs a.0, is_listed-below x ys below) none))
      (λ n. ih ys t b.1 ∙ rw (← same, n) refl)
  at ih Greater y ys h b l t =
      let less = reverse_cmp x y Greater h in
      let out : is_listed (x ∷ xs) y ≡ false = is_listed-before_first y x xs less a.0 in
      is_listed-prepended (kept false true) y t (merged_from kept x (merge_texts kept xs) ys) (kept (is_listed (x ∷ xs) t) (is_listed (y ∷ ys) t))
      (λ e. subst (λ s. (kept (is_listed (x ∷ xs) s) (is_listed (y ∷ ys) s) ≡ kept false true) × (is_listed (merged_from kept x (merge_texts kept xs) ys) s ≡ false)) e
      (rw (out, bytes_eq-itself y) refl, l y ∙ rw (out, is_listed-below y ys b.0) none))
      (λ n. l t ∙ rw n refl)

  from : ((zs : List (List ℕ)) (t : List ℕ) → IsAscending zs → is_listed (merge_texts kept xs zs) t ≡ kept (is_listed xs t) (is_listed zs t)) → (ys : List (List ℕ)) → IsAscending ys → (t : List ℕ) → is_listed (merged_from kept x (merge_texts kept xs) ys) t ≡ kept (is_listed (x ∷ xs) t) (is_listed ys t)
  from ih [] b t = at_x (merge_texts kept xs []) [] t (ih [] t tt) refl (ih [] x tt)
  from ih (y ∷ ys) b t = at ih (text_cmp x y) y ys refl b (from ih ys b.1) t

flipped_itself : (b : Bool) → is_member_if b b ≡ false
flipped_itself true = refl
flipped_itself false = refl

flipped_twice : (b c : Bool) → is_member_if b (is_member_if b c) ≡ c
flipped_twice true true = refl
flipped_twice true false = refl
flipped_twice false c = refl

-- a text that neither set lists is not listed
pub combination_lists-none : (how : Combination) (left right : Bool) → combination_lists how left right false false ≡ false
combination_lists-none how false false = flipped_itself (combination_keeps how false false)
combination_lists-none how false true = flipped_itself (combination_keeps how false true)
combination_lists-none how true false = flipped_itself (combination_keeps how true false)
combination_lists-none how true true = flipped_itself (combination_keeps how true true)

-- the members of a combination
pub is_member_if-lists : (how : Combination) (left right in_left in_right : Bool) → is_member_if (combination_keeps how left right) (combination_lists how left right in_left in_right) ≡ combination_keeps how (is_member_if left in_left) (is_member_if right in_right)
is_member_if-lists how left right in_left in_right = flipped_twice (combination_keeps how left right) (combination_keeps how (is_member_if left in_left) (is_member_if right in_right))

-- the members of the set that lists the merge
pub is_text_member-merged : (how : Combination) (left right : Bool × List (List ℕ)) (t : List ℕ) → IsAscending left.1 → IsAscending right.1 → is_text_member (combination_keeps how left.0 right.0, merge_texts (combination_lists how left.0 right.0) left.1 right.1) t ≡ combination_keeps how (is_text_member left t) (is_text_member right t)
is_text_member-merged how left right t a b =
    ap (is_member_if (combination_keeps how left.0 right.0)) (is_listed-merged (combination_lists how left.0 right.0) left.1 right.1 t (combination_lists-none how left.0 right.0) a b)
    ∙ is_member_if-lists how left.0 right.0 (is_listed left.1 t) (is_listed right.1 t)
