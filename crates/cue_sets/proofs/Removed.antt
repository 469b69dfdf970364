-- Texts that leave an ascending list.
use Rattle.std.proofs.Common.{◌≡◌, ℕ, zero, suc, ◌<◌, Bool, true, false, not, ◌&&◌, ◌||◌, cond, List, [], ◌∷◌, ◌++◌, length, take, get_or, refl, sym, ap, ◌∙◌, subst, arith}
use Rattle.std.specs.List.{filter, remove}
use Rattle.std.specs.Str.{bytes_eq}
use Rattle.std.specs.declared.cmp.Ordering.TheVariants.{Less, Equal}
use Rattle.std.proofs.Math.Seq.{take-suc}
use Rattle.std.proofs.lemmas.Slice.Eq.{bytes_eq-Decides}
use Rattle.cue_sets.specs.Texts.{is_listed, text_cmp, IsTextBelowAll, IsAscending}
use Rattle.cue_sets.specs.TextLaws.{is_listed-below, bytes_eq-greater, same_from_equal}
use Rattle.cue_sets.proofs.TextSearch.{at_or_below}

-- ---- one text is removed
IsTextBelowAll-remove : (x : List ℕ) (texts : List (List ℕ)) (i : ℕ) → IsTextBelowAll x texts → IsTextBelowAll x (remove texts i)
IsTextBelowAll-remove x [] zero b = b
IsTextBelowAll-remove x [] (suc i) b = b
IsTextBelowAll-remove x (y ∷ texts) zero b = b.1
IsTextBelowAll-remove x (y ∷ texts) (suc i) b = (b.0, IsTextBelowAll-remove x texts i b.1)

pub IsAscending-remove : (texts : List (List ℕ)) (i : ℕ) → IsAscending texts → IsAscending (remove texts i)
IsAscending-remove [] zero a = a
IsAscending-remove [] (suc i) a = a
IsAscending-remove (x ∷ texts) zero a = a.1
IsAscending-remove (x ∷ texts) (suc i) a = (IsTextBelowAll-remove x texts i a.0, IsAscending-remove texts i a.1)

and_true : (a : Bool) → (a && true) ≡ a
and_true true = refl
and_true false = refl

and_false : (a : Bool) → (a && false) ≡ false
and_false true = refl
and_false false = refl

-- a text that is not listed leaves nothing
pub none_leaves : (texts : List (List ℕ)) (text t : List ℕ) → is_listed texts text ≡ false → is_listed texts t ≡ (is_listed texts t && not (bytes_eq text t))
none_leaves texts text t out = cases (bytes_eq text t) refl where
  cases : (r : Bool) → bytes_eq text t ≡ r → is_listed texts t ≡ (is_listed texts t && not r)
  cases true e = subst (λ s. is_listed texts s ≡ false) ((bytes_eq-Decides text t).0 e) out ∙ sym (and_false (is_listed texts t))
  cases false e = sym (and_true (is_listed texts t))

-- one more text is listed
is_listed-last : (texts : List (List ℕ)) (text t : List ℕ) → is_listed (texts ++ (text ∷ [])) t ≡ (is_listed texts t || bytes_eq text t)
is_listed-last [] text t = or_false (bytes_eq text t) where
  or_false : (a : Bool) → (a || false) ≡ a
  or_false true = refl
  or_false false = refl
is_listed-last (x ∷ texts) text t = ap (λ b. bytes_eq x t || b) (is_listed-last texts text t) ∙ assoc (bytes_eq x t) where
  assoc : (a : Bool) → (a || (is_listed texts t || bytes_eq text t)) ≡ ((a || is_listed texts t) || bytes_eq text t)
  assoc true = refl
  assoc false = refl

-- a text that is removed is listed no more, and all others are as before
pub is_listed-remove :
    (texts : List (List ℕ)) (i : ℕ) (text t : List ℕ) → IsAscending texts → i < length texts → get_or texts i [] ≡ text
    → is_listed (remove texts i) t ≡ (is_listed texts t && not (bytes_eq text t))
is_listed-remove [] i text t a l e = absurd (omega arith)
is_listed-remove (x ∷ texts) zero text t a l e =
    rw e (cases (bytes_eq text t) refl) where
      cases : (r : Bool) → bytes_eq text t ≡ r → is_listed texts t ≡ ((r || is_listed texts t) && not r)
      cases true h = subst (λ s. is_listed texts s ≡ false) (e ∙ (bytes_eq-Decides text t).0 h) (is_listed-below x texts a.0)
      cases false h = sym (and_true (is_listed texts t))
is_listed-remove (x ∷ texts) (suc i) text t a l e =
    cases (is_listed-remove texts i text t a.1 (omega arith) e) (subst (λ s. text_cmp x s ≡ Less) e (at_or_below x texts i [] a.0 (omega arith))) (bytes_eq x t) refl where
      cases :
          is_listed (remove texts i) t ≡ (is_listed texts t && not (bytes_eq text t)) → text_cmp x text ≡ Less → (r : Bool) → bytes_eq x t ≡ r
          → (r || is_listed (remove texts i) t) ≡ ((r || is_listed texts t) && not (bytes_eq text t))
      cases later less true h =
          let same = (bytes_eq-Decides x t).0 h in
          sym (ap not (bytes_eq-greater text t (subst (λ s. text_cmp s text ≡ Less) same less)))
      cases later less false h = later

-- a text that a search found is removed
pub found_leaves :
    (searched texts left : List (List ℕ)) (i : ℕ) (text : List ℕ) → searched ≡ texts → IsAscending texts → i < length searched
    → text_cmp (get_or searched i []) text ≡ Equal → left ≡ remove texts i
    → (t : List ℕ) → is_listed left t ≡ (is_listed texts t && not (bytes_eq text t))
found_leaves searched texts left i text e a l same is t =
    let bound : i < length texts = subst (λ xs. i < length xs) e l in
    let at : get_or texts i [] ≡ text = ap (λ xs. get_or xs i []) (sym e) ∙ same_from_equal (get_or searched i []) text same in
    ap (λ xs. is_listed xs t) is ∙ is_listed-remove texts i text t a bound at

-- no listed text is one of these and one more
pub one_more_leaves :
    (before here after gone : List (List ℕ)) (i next : ℕ) (text : List ℕ) → next ≡ suc i → i < length gone → text ≡ get_or gone i text
    → ((t : List ℕ) → is_listed here t ≡ (is_listed before t && not (is_listed (take i gone) t)))
    → ((t : List ℕ) → is_listed after t ≡ (is_listed here t && not (bytes_eq text t)))
    → (t : List ℕ) → is_listed after t ≡ (is_listed before t && not (is_listed (take next gone) t))
one_more_leaves before here after gone i next text up l is so_far now t =
    let last = is_listed-last (take i gone) text t in
    let taken : is_listed (take next gone) t ≡ (is_listed (take i gone) t || bytes_eq text t) =
    ap (λ xs. is_listed xs t) (ap (λ n. take n gone) up ∙ take-suc gone i text l ∙ ap (λ s. take i gone ++ (s ∷ [])) (sym is)) ∙ last in
    now t ∙ ap (λ b. b && not (bytes_eq text t)) (so_far t) ∙ both (is_listed before t) (is_listed (take i gone) t) (bytes_eq text t) ∙ ap (λ b. is_listed before t && not b) (sym taken)
  where
    both : (a b c : Bool) → ((a && not b) && not c) ≡ (a && not (b || c))
    both true true c = refl
    both true false c = refl
    both false b c = refl

-- ---- some texts are kept
IsTextBelowAll-kept : (r : Bool) (x y : List ℕ) (texts : List (List ℕ)) → text_cmp x y ≡ Less → IsTextBelowAll x texts → IsTextBelowAll x (cond r (y ∷ texts) texts)
IsTextBelowAll-kept true x y texts h b = (h, b)
IsTextBelowAll-kept false x y texts h b = b

IsTextBelowAll-filter : (p : List ℕ → Bool) (x : List ℕ) (texts : List (List ℕ)) → IsTextBelowAll x texts → IsTextBelowAll x (filter p texts)
IsTextBelowAll-filter p x [] b = b
IsTextBelowAll-filter p x (y ∷ texts) b = IsTextBelowAll-kept (p y) x y (filter p texts) b.0 (IsTextBelowAll-filter p x texts b.1)

IsAscending-kept : (r : Bool) (x : List ℕ) (texts : List (List ℕ)) → IsTextBelowAll x texts → IsAscending texts → IsAscending (cond r (x ∷ texts) texts)
IsAscending-kept true x texts b a = (b, a)
IsAscending-kept false x texts b a = a

pub IsAscending-filter : (p : List ℕ → Bool) (texts : List (List ℕ)) → IsAscending texts → IsAscending (filter p texts)
IsAscending-filter p [] a = a
IsAscending-filter p (x ∷ texts) a = IsAscending-kept (p x) x (filter p texts) (IsTextBelowAll-filter p x texts a.0) (IsAscending-filter p texts a.1)

pub is_listed-filter : (p : List ℕ → Bool) (texts : List (List ℕ)) (t : List ℕ) → is_listed (filter p texts) t ≡ (is_listed texts t && p t)
is_listed-filter p [] t = refl
is_listed-filter p (x ∷ texts) t = cases (is_listed-filter p texts t) (p x) (bytes_eq x t) refl refl where
  cases :
      is_listed (filter p texts) t ≡ (is_listed texts t && p t) → (r s : Bool) → p x ≡ r → bytes_eq x t ≡ s
      → is_listed (cond r (x ∷ filter p texts) (filter p texts)) t ≡ ((s || is_listed texts t) && p t)
  cases later true true kept same = rw same (sym (ap p (sym ((bytes_eq-Decides x t).0 same)) ∙ kept))
  cases later true false kept same = rw same later
  cases later false true kept same =
      let out : p t ≡ false = ap p (sym ((bytes_eq-Decides x t).0 same)) ∙ kept in
      later ∙ rw out (and_false _)
  cases later false false kept same = later
