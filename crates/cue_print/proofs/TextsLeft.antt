-- Sets of texts without others: which texts are left, and that they are in the one form.
use Rattle.std.proofs.Common.{◌≡◌, ℕ, Bool, true, false, not, ◌&&◌, ◌||◌, List, [], ◌∷◌, filter, refl, sym, ap, ◌∙◌}
use Rattle.std.specs.Str.{bytes_eq}
use Rattle.std.specs.declared.cmp.Ordering.{Ordering}
use Rattle.std.specs.declared.cmp.Ordering.TheVariants.{Less, Equal, Greater}
use Rattle.std.proofs.lemmas.Slice.Eq.{bytes_eq-Decides}
use Rattle.cue_sets.specs.Texts.{text_cmp, is_listed, is_text_member, IsTextBelowAll, IsAscending}
use Rattle.cue_sets.specs.TextLaws.{reverse_cmp, same_from_equal, IsTextBelowAll-lower}
use Rattle.cue_print.specs.Difference.{inserted_at, insert_text, all_inserted, texts_without}

-- ---- texts that are kept
kept_below : (keep : List ℕ → Bool) (p : List ℕ) (xs : List (List ℕ)) → IsTextBelowAll p xs → IsTextBelowAll p (filter keep xs)
kept_below keep p [] b = tt
kept_below keep p (x ∷ xs) b = by (kept_below keep p xs b.1) (keep x) refl where
  by : IsTextBelowAll p (filter keep xs) → (k : Bool) → keep x ≡ k → IsTextBelowAll p (filter keep (x ∷ xs))
  by later true e = rw e (b.0, later)
  by later false e = rw e later

kept_ascends : (keep : List ℕ → Bool) (xs : List (List ℕ)) → IsAscending xs → IsAscending (filter keep xs)
kept_ascends keep [] a = tt
kept_ascends keep (x ∷ xs) a = by (kept_ascends keep xs a.1) (keep x) refl where
  by : IsAscending (filter keep xs) → (k : Bool) → keep x ≡ k → IsAscending (filter keep (x ∷ xs))
  by later true e = rw e (kept_below keep x xs a.0, later)
  by later false e = rw e later

none : (b : Bool) → (b && false) ≡ false
none true = refl
none false = refl

kept_listed : (keep : List ℕ → Bool) (xs : List (List ℕ)) (t : List ℕ) → is_listed (filter keep xs) t ≡ (is_listed xs t && keep t)
kept_listed keep [] t = refl
kept_listed keep (x ∷ xs) t = by (kept_listed keep xs t) (keep x) (bytes_eq x t) refl refl where
  by : is_listed (filter keep xs) t ≡ (is_listed xs t && keep t) → (k b : Bool) → keep x ≡ k → bytes_eq x t ≡ b → is_listed (filter keep (x ∷ xs)) t ≡ (is_listed (x ∷ xs) t && keep t)
  by h true true e f = rw (e, f) (sym (ap keep (sym ((bytes_eq-Decides x t).0 f)) ∙ e))
  by h true false e f = rw (e, f) h
  by h false true e f =
      let out : keep t ≡ false = ap keep (sym ((bytes_eq-Decides x t).0 f)) ∙ e in
      rw (e, f) (h ∙ ap (λ k. is_listed xs t && k) out ∙ none (is_listed xs t) ∙ sym out)
  by h false false e f = rw (e, f) h

-- ---- texts that are inserted
inserted_below : (p t : List ℕ) (xs : List (List ℕ)) → text_cmp p t ≡ Less → IsTextBelowAll p xs → IsTextBelowAll p (insert_text t xs)
inserted_below p t [] h b = (h, tt)
inserted_below p t (x ∷ xs) h b = at (text_cmp t x) (inserted_below p t xs h b.1) where
  at : (o : Ordering) → IsTextBelowAll p (insert_text t xs) → IsTextBelowAll p (inserted_at o t x xs (insert_text t xs))
  at Less later = (h, b)
  at Equal later = b
  at Greater later = (b.0, later)

inserted_ascends : (t : List ℕ) (xs : List (List ℕ)) → IsAscending xs → IsAscending (insert_text t xs)
inserted_ascends t [] a = (tt, tt)
inserted_ascends t (x ∷ xs) a = at (text_cmp t x) refl (inserted_ascends t xs a.1) where
  at : (o : Ordering) → text_cmp t x ≡ o → IsAscending (insert_text t xs) → IsAscending (inserted_at o t x xs (insert_text t xs))
  at Less e later = ((e, IsTextBelowAll-lower t x xs e a.0), a)
  at Equal e later = a
  at Greater e later = (inserted_below x t xs (reverse_cmp t x Greater e) a.0, later)

swapped : (a b c : Bool) → (a || (b || c)) ≡ (b || (a || c))
swapped true true c = refl
swapped true false c = refl
swapped false b c = refl

once : (a c : Bool) → (a || c) ≡ (a || (a || c))
once true c = refl
once false c = refl

inserted_listed : (t : List ℕ) (xs : List (List ℕ)) (s : List ℕ) → is_listed (insert_text t xs) s ≡ (bytes_eq t s || is_listed xs s)
inserted_listed t [] s = refl
inserted_listed t (x ∷ xs) s = at (text_cmp t x) refl (inserted_listed t xs s) where
  at : (o : Ordering) → text_cmp t x ≡ o → is_listed (insert_text t xs) s ≡ (bytes_eq t s || is_listed xs s) → is_listed (inserted_at o t x xs (insert_text t xs)) s ≡ (bytes_eq t s || is_listed (x ∷ xs) s)
  at Less e later = refl
  at Equal e later = once (bytes_eq x s) (is_listed xs s) ∙ ap (λ z. bytes_eq z s || is_listed (x ∷ xs) s) (sym (same_from_equal t x e))
  at Greater e later = ap (λ b. bytes_eq x s || b) later ∙ swapped (bytes_eq x s) (bytes_eq t s) (is_listed xs s)

all_ascend : (ts xs : List (List ℕ)) → IsAscending xs → IsAscending (all_inserted ts xs)
all_ascend [] xs a = a
all_ascend (t ∷ ts) xs a = inserted_ascends t (all_inserted ts xs) (all_ascend ts xs a)

regrouped : (a b c : Bool) → (a || (b || c)) ≡ ((a || b) || c)
regrouped true b c = refl
regrouped false b c = refl

all_listed : (ts xs : List (List ℕ)) (s : List ℕ) → is_listed (all_inserted ts xs) s ≡ (is_listed ts s || is_listed xs s)
all_listed [] xs s = refl
all_listed (t ∷ ts) xs s =
    inserted_listed t (all_inserted ts xs) s ∙ ap (λ b. bytes_eq t s || b) (all_listed ts xs s) ∙ regrouped (bytes_eq t s) (is_listed ts s) (is_listed xs s)

-- ---- sets
others_left : (a b : Bool) → (b && not a) ≡ (not a && not (not b))
others_left true true = refl
others_left true false = refl
others_left false true = refl
others_left false false = refl

neither : (a b : Bool) → not (b || a) ≡ (not a && not b)
neither true true = refl
neither true false = refl
neither false true = refl
neither false false = refl

pub left_text : (a b : Bool × List (List ℕ)) (t : List ℕ) → is_text_member (texts_without a b) t ≡ (is_text_member a t && not (is_text_member b t))
left_text (false, xs) b t = kept_listed (λ s. not (is_text_member b s)) xs t
left_text (true, xs) (true, ys) t = kept_listed (λ s. not (is_listed xs s)) ys t ∙ others_left (is_listed xs t) (is_listed ys t)
left_text (true, xs) (false, ys) t = ap not (all_listed ys xs t) ∙ neither (is_listed xs t) (is_listed ys t)

pub left_ascends : (a b : Bool × List (List ℕ)) → IsAscending a.1 → IsAscending b.1 → IsAscending (texts_without a b).1
left_ascends (false, xs) b p q = kept_ascends (λ s. not (is_text_member b s)) xs p
left_ascends (true, xs) (true, ys) p q = kept_ascends (λ s. not (is_listed xs s)) ys q
left_ascends (true, xs) (false, ys) p q = all_ascend ys xs p
