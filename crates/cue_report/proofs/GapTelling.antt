-- What is told of gaps, one after the other.
use Rattle.std.proofs.Common.{◌≡◌, ℕ, zero, suc, ◌+◌, ◌-◌, ◌≤◌, ◌<◌, List, [], ◌∷◌, ◌++◌, map, refl, sym, ap, subst, ◌∙◌, arith, append_assoc}
use Rattle.std.specs.List.{flat_map}
use Rattle.std.proofs.lemmas.List.{append-nil, map-append}
use Rattle.std.proofs.lemmas.List.Concat.{flat_map-append}
use Rattle.cue_lattice.specs.Path as paths
use Rattle.cue_lattice.specs.Path.{index, Path}
use Rattle.cue_report.specs.Inner.GapSearch.{gap_above, gaps_above, free_at, free_elements}
use Rattle.cue_report.specs.Telling.{Tally}
use Rattle.cue_report.specs.Inner.Telling.{WritesPieces, WritesPiecesPrefix}
use Rattle.cue_report.specs.declared.gap.Gap.{Gap}
use Rattle.cue_report.proofs.Telling.{grows_then, starts_now, starts_later}

-- what is seen from a place is seen from the place above
pub above_further : (path : Path) (step : paths.Step) (xs : List Gap) → map (gap_above (path ++ step ∷ [])) xs ≡ map (gap_above path) (map (gap_above (step ∷ [])) xs)
above_further path step [] = refl
above_further path step (x ∷ xs) =
    let e : (path ++ step ∷ []) ++ x.path ≡ path ++ step ∷ x.path = append_assoc path (step ∷ []) x.path in
    let first : gap_above (path ++ step ∷ []) x ≡ gap_above path (gap_above (step ∷ []) x) = ap (λ (p : Path). record x { path = p }) e in
    ap (λ y. y ∷ map (gap_above (path ++ step ∷ [])) xs) first ∙ ap (λ ys. gap_above path (gap_above (step ∷ []) x) ∷ ys) (above_further path step xs)

-- what is told of some and of others
pub told_append : {X : Type 0} (piece : Gap → List X) (path : Path) (xs ys : List Gap) → gaps_above piece path (xs ++ ys) ≡ gaps_above piece path xs ++ gaps_above piece path ys
told_append piece path xs ys = ap (flat_map piece) (map-append (gap_above path) xs ys) ∙ flat_map-append piece (map (gap_above path) xs) (map (gap_above path) ys)

-- more is told
pub found_more : {X : Type 0} (piece : Gap → List X) (path : Path) (u v w : Tally X) (xs ys : List Gap) → WritesPieces u v (gaps_above piece path xs) → WritesPieces v w (gaps_above piece path ys)
    → WritesPieces u w (gaps_above piece path (xs ++ ys))
found_more piece path u v w xs ys g h = subst (WritesPieces u w) (sym (told_append piece path xs ys)) (grows_then u v w (gaps_above piece path xs) (gaps_above piece path ys) g h)

pub found_later : {X : Type 0} (piece : Gap → List X) (path : Path) (u v w : Tally X) (xs ys : List Gap) → WritesPieces u v (gaps_above piece path xs) → WritesPiecesPrefix v w (gaps_above piece path ys)
    → WritesPiecesPrefix u w (gaps_above piece path (xs ++ ys))
found_later piece path u v w xs ys g h = subst (WritesPiecesPrefix u w) (sym (told_append piece path xs ys)) (starts_later u v w (gaps_above piece path xs) (gaps_above piece path ys) g h)

pub found_now : {X : Type 0} (piece : Gap → List X) (path : Path) (u v : Tally X) (xs ys : List Gap) → WritesPiecesPrefix u v (gaps_above piece path xs) → WritesPiecesPrefix u v (gaps_above piece path (xs ++ ys))
found_now piece path u v xs ys h = subst (WritesPiecesPrefix u v) (sym (told_append piece path xs ys)) (starts_now u v (gaps_above piece path xs) (gaps_above piece path ys) h)

-- what is told one step further is told of these
pub pushed_is : {X : Type 0} (piece : Gap → List X) (path pushed : Path) (step : paths.Step) (found : List Gap) → pushed ≡ path ++ step ∷ []
    → gaps_above piece pushed found ≡ gaps_above piece path (map (gap_above (step ∷ [])) found)
pushed_is piece path pushed step found p = ap (λ q. gaps_above piece q found) p ∙ ap (flat_map piece) (above_further path step found)

-- one more free element
free_next : (first number : ℕ) → first ≤ number → free_elements first (number + 1 - first) ≡ free_elements first (number - first) ++ free_at (index number ∷ []) ∷ []
free_next first number l =
    let count : number + 1 - first ≡ suc (number - first) = omega arith in
    let last : first + (number - first) ≡ number = omega arith in
    ap (free_elements first) count ∙ ap (λ k. free_elements first (number - first) ++ free_at (index k ∷ []) ∷ []) last

one_told : {X : Type 0} (piece : Gap → List X) (path : Path) (gap : Gap) → gaps_above piece path (gap ∷ []) ≡ piece (gap_above path gap)
one_told piece path gap = append-nil (piece (gap_above path gap))

pub one_more_free :
    {X : Type 0} (piece : Gap → List X) (first number : ℕ) (start now after : Tally X) (path : Path) → first ≤ number
    → WritesPieces start now (gaps_above piece path (free_elements first (number - first))) → WritesPieces now after (piece (gap_above path (free_at (index number ∷ []))))
    → WritesPieces start after (gaps_above piece path (free_elements first (number + 1 - first)))
one_more_free piece first number start now after path l n a =
    subst (λ xs. WritesPieces start after (gaps_above piece path xs)) (sym (free_next first number l))
    (found_more piece path start now after (free_elements first (number - first)) (free_at (index number ∷ []) ∷ []) n
    (subst (WritesPieces now after) (sym (one_told piece path (free_at (index number ∷ [])))) a))

-- and those behind some
free_split : (first n m : ℕ) → (more : List Gap) × (free_elements first (n + m) ≡ free_elements first n ++ more)
free_split first n zero =
    let none : n + 0 ≡ n = omega arith in
    ([], ap (free_elements first) none ∙ sym (append-nil (free_elements first n)))
free_split first n (suc m) =
    let before = free_split first n m in
    let last : List Gap = free_at (index (first + (n + m)) ∷ []) ∷ [] in
    let count : n + suc m ≡ suc (n + m) = omega arith in
    (before.0 ++ last, ap (free_elements first) count ∙ ap (λ xs. xs ++ last) before.1 ∙ append_assoc (free_elements first n) before.0 last)

pub free_begun :
    {X : Type 0} (piece : Gap → List X) (first some all : ℕ) (start after : Tally X) (path : Path) → some ≤ all → WritesPiecesPrefix start after (gaps_above piece path (free_elements first some))
    → WritesPiecesPrefix start after (gaps_above piece path (free_elements first all))
free_begun piece first some all start after path l h =
    let split = free_split first some (all - some) in
    let count : some + (all - some) ≡ all = omega arith in
    subst (λ xs. WritesPiecesPrefix start after (gaps_above piece path xs)) (sym split.1 ∙ ap (free_elements first) count)
    (found_now piece path start after (free_elements first some) split.0 h)

pub one_begun_free :
    {X : Type 0} (piece : Gap → List X) (first number end : ℕ) (start now after : Tally X) (path : Path) → first ≤ number → number < end
    → WritesPieces start now (gaps_above piece path (free_elements first (number - first))) → WritesPiecesPrefix now after (piece (gap_above path (free_at (index number ∷ []))))
    → WritesPiecesPrefix start after (gaps_above piece path (free_elements first (end - first)))
one_begun_free piece first number end start now after path l m n a =
    free_begun piece first (number + 1 - first) (end - first) start after path (omega arith)
    (subst (λ xs. WritesPiecesPrefix start after (gaps_above piece path xs)) (sym (free_next first number l))
    (found_later piece path start now after (free_elements first (number - first)) (free_at (index number ∷ []) ∷ []) n
    (subst (WritesPiecesPrefix now after) (sym (one_told piece path (free_at (index number ∷ [])))) a)))
