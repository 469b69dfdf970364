-- Texts that join an ascending list.
use Rattle.std.proofs.Common.{◌≡◌, ℕ, zero, suc, ◌+◌, ◌<◌, ◌≤◌, Bool, true, false, ◌||◌, List, [], ◌∷◌, length, get_or, Err, refl, sym, ap, ◌∙◌, subst, arith}
use Rattle.std.specs.List.{insert}
use Rattle.std.specs.List.Sorted.{IsBinarySearchResult}
use Rattle.std.specs.Str.{bytes_eq}
use Rattle.std.specs.declared.cmp.Ordering.TheVariants.{Less, Greater}
use Rattle.std.proofs.lemmas.Slice.Eq.{bytes_eq-Decides}
use Rattle.cue_sets.specs.Texts.{is_listed, text_cmp, IsTextBelowAll, IsAscending}
use Rattle.cue_sets.specs.TextLaws.{reverse_cmp, IsTextBelowAll-lower}
use Rattle.cue_sets.proofs.TextSearch.{places_ascend}

-- ---- one text joins
IsTextBelowAll-insert : (x : List ℕ) (texts : List (List ℕ)) (i : ℕ) (text : List ℕ) → text_cmp x text ≡ Less → IsTextBelowAll x texts → IsTextBelowAll x (insert texts i text)
IsTextBelowAll-insert x [] zero text h b = (h, b)
IsTextBelowAll-insert x [] (suc i) text h b = (h, b)
IsTextBelowAll-insert x (y ∷ texts) zero text h b = (h, b)
IsTextBelowAll-insert x (y ∷ texts) (suc i) text h b = (b.0, IsTextBelowAll-insert x texts i text h b.1)

-- a list ascends with a text in its place
pub IsAscending-insert :
    (texts : List (List ℕ)) (i : ℕ) (text : List ℕ) → IsAscending texts
    → ((k : ℕ) → k < i → k < length texts → text_cmp (get_or texts k []) text ≡ Less)
    → ((k : ℕ) → i ≤ k → k < length texts → text_cmp (get_or texts k []) text ≡ Greater)
    → IsAscending (insert texts i text)
IsAscending-insert [] zero text a below above = (tt, tt)
IsAscending-insert [] (suc i) text a below above = (tt, tt)
IsAscending-insert (x ∷ texts) zero text a below above =
    let less = reverse_cmp x text Greater (above 0 (omega arith) (omega arith)) in
    ((less, IsTextBelowAll-lower text x texts less a.0), a)
IsAscending-insert (x ∷ texts) (suc i) text a below above = (
  IsTextBelowAll-insert x texts i text (below 0 (omega arith) (omega arith)) a.0,
  IsAscending-insert texts i text a.1 (λ k h l. below (suc k) (omega arith) (omega arith)) (λ k h l. above (suc k) (omega arith) (omega arith)),
)

or_false : (a : Bool) → a ≡ (a || false)
or_false true = refl
or_false false = refl

or_true : (a : Bool) → true ≡ (a || true)
or_true true = refl
or_true false = refl

-- a text that joins is listed, and all others are as before
pub is_listed-insert : (texts : List (List ℕ)) (i : ℕ) (text t : List ℕ) → is_listed (insert texts i text) t ≡ (is_listed texts t || bytes_eq text t)
is_listed-insert [] zero text t = sym (or_false (bytes_eq text t))
is_listed-insert [] (suc i) text t = sym (or_false (bytes_eq text t))
is_listed-insert (x ∷ texts) zero text t = swapped (bytes_eq text t) (is_listed (x ∷ texts) t) where
  swapped : (a b : Bool) → (a || b) ≡ (b || a)
  swapped true b = or_true b
  swapped false b = or_false b
is_listed-insert (x ∷ texts) (suc i) text t = ap (λ b. bytes_eq x t || b) (is_listed-insert texts i text t) ∙ assoc (bytes_eq x t) where
  assoc : (a : Bool) → (a || (is_listed texts t || bytes_eq text t)) ≡ ((a || is_listed texts t) || bytes_eq text t)
  assoc true = refl
  assoc false = refl

-- a text is put where a search ended that did not find it
pub IsAscending-placed :
    (searched texts joined : List (List ℕ)) (i : ℕ) (text : List ℕ) → searched ≡ texts → IsAscending texts
    → IsBinarySearchResult (λ listed. text_cmp listed text) searched (Err i) → joined ≡ insert texts i text → IsAscending joined
IsAscending-placed searched texts joined i text e a found is =
    let point = subst (λ xs. IsBinarySearchResult (λ listed. text_cmp listed text) xs (Err i)) e found (places_ascend texts text a) in
    subst IsAscending (sym is) (IsAscending-insert texts i text a (λ k h l. point.0 k [] (omega arith) h) (λ k h l. point.1 k [] h l))

pub is_listed-placed : (texts joined : List (List ℕ)) (i : ℕ) (text : List ℕ) → joined ≡ insert texts i text → (t : List ℕ) → is_listed joined t ≡ (is_listed texts t || bytes_eq text t)
is_listed-placed texts joined i text is t = ap (λ xs. is_listed xs t) is ∙ is_listed-insert texts i text t

-- a text that is listed adds nothing
pub listed_adds_none : (texts : List (List ℕ)) (text t : List ℕ) → is_listed texts text ≡ true → is_listed texts t ≡ (is_listed texts t || bytes_eq text t)
listed_adds_none texts text t in_it = cases (bytes_eq text t) refl where
  cases : (r : Bool) → bytes_eq text t ≡ r → is_listed texts t ≡ (is_listed texts t || r)
  cases true e = subst (λ s. is_listed texts s ≡ true) ((bytes_eq-Decides text t).0 e) in_it ∙ or_true (is_listed texts t)
  cases false e = or_false (is_listed texts t)

-- ---- several texts join
-- so many texts have joined a list that it lists what both do once those that are left have joined too
pub record Joins (before more now left : List (List ℕ)) (len cap : ℕ) : Type 0 where
  pub ascending : IsAscending now
  pub listed : (t : List ℕ) → (is_listed now t || is_listed left t) ≡ (is_listed before t || is_listed more t)
  pub room : len + length left ≤ cap

pub one_more_joins :
    (before more now left after rest : List (List ℕ)) (text : List ℕ) (len cap len' cap' : ℕ) → Joins before more now left len cap → left ≡ text ∷ rest
    → IsAscending after → ((t : List ℕ) → is_listed after t ≡ (is_listed now t || bytes_eq text t)) → len' ≤ len + 1 → cap ≤ cap'
    → Joins before more after rest len' cap'
one_more_joins before more now left after rest text len cap len' cap' j e a joined l c =
    let lens = ap length e in
    let room = j.room in
    record {
      ascending = a;
      listed = λ t. ap (λ b. b || is_listed rest t) (joined t) ∙ assoc (is_listed now t) (bytes_eq text t) (is_listed rest t) ∙ ap (λ xs. is_listed now t || is_listed xs t) (sym e) ∙ j.listed t;
      room = omega (arith, lens, room, l, c);
    }
  where
    assoc : (a b c : Bool) → ((a || b) || c) ≡ (a || (b || c))
    assoc true b c = refl
    assoc false b c = refl
