-- Lines of a token file, one after the other.
use Rattle.std.proofs.Common.{◌≡◌, ◌≢◌, ◌++◌, ◌∷◌, [], ◌<◌, ◌≤◌, ◌+◌, ◌↔◌, IsTrue, ℕ, List, Bor, Vec, Global, vec_len, ◌==◌, arith, Option, Some, None, IfSome, IfNone, Bool, true, false, cond, map, take, length, get_or, All, Any, sym, ap, subst, ◌∙◌, refl}
use Rattle.std.proofs.lemmas.List.{take_all, take_more, map-append, get_or_default, get_or_append_left, get_or-map, length-map, length-append}
use Rattle.std.proofs.lemmas.List.Elements.{All-push, All-contains, All-map, All-more, Contains-push, filter-append}
use Rattle.std.proofs.lemmas.Bool.Decides.{nat_tests}
use Rattle.std.proofs.lemmas.List.Quantifiers.{all_pairs_push}
use Rattle.std.proofs.lemmas.Bool.{false≢true}
use Rattle.std.proofs.Math.Seq.{get_or-append_seam}
use Rattle.std.specs.Prelude.{filter}
use Rattle.cue_owners.specs.declared.grant.Grant.{Grant}
use Rattle.cue_owners.specs.Grants.{row_of, token_of}
use Rattle.cue_owners.specs.Files.{AreRows, IsRow, is_full, rows_of, token_in, words_of}

pub rows_append : (a b : List (List ℕ)) → rows_of (a ++ b) ≡ rows_of a ++ rows_of b
rows_append a b =
    ap (filter is_full) (map-append words_of a b) ∙ filter-append is_full (map words_of a) (map words_of b)

-- the rows of one line more
pub rows_more : (lines : List (List ℕ)) (i : ℕ) (d : List ℕ) → i < length lines → rows_of (take (i + 1) lines) ≡ rows_of (take i lines) ++ rows_of (get_or lines i d ∷ [])
rows_more lines i d l = ap rows_of (take_more lines i d l) ∙ rows_append (take i lines) (get_or lines i d ∷ [])

pub none_of_any : {X : Type 0} (P : X → Type 0) (xs : List X) → ¬ Any P xs → All (λ x. ¬ P x) xs
none_of_any P xs n k d l p = n (k, get_or xs k d, l, get_or_default xs k (get_or xs k d) d l, p)

abbrev OtherToken : List (List ℕ) → List (List ℕ) → Type 0
OtherToken a b = token_in a ≢ token_in b

pub push_row : (rows : List (List (List ℕ))) (row : List (List ℕ)) → IsRow row → All (λ other. token_in other ≢ token_in row) rows → AreRows rows → AreRows (rows ++ row ∷ [])
push_row rows row is others rights = (All-push IsRow rows row rights.0 is, all_pairs_push OtherToken rows row rights.1 others)

pub not_row : (rows : List (List (List ℕ))) (row : List (List ℕ)) → ¬ IsRow row → ¬ AreRows (rows ++ row ∷ [])
not_row rows row n rights = n (All-contains IsRow (rows ++ row ∷ []) row rights.0 (Contains-push rows row))

-- ---- tokens of grants
pub same_token : (grants : List Grant) (row : List (List ℕ)) (token : List ℕ) → Any (λ g. token_of g ≡ token) grants → token_in row ≡ token → ¬ AreRows (map row_of grants ++ row ∷ [])
same_token grants row token (k, g, l, e, t) is rights =
    let rows : List (List (List ℕ)) = map row_of grants in
    let within : k < length rows = omega (arith, length-map grants row_of) in
    let old : get_or (rows ++ row ∷ []) k row ≡ row_of g = get_or_append_left rows (row ∷ []) row k within ∙ get_or-map row_of grants k g row l ∙ ap row_of e in
    let last : get_or (rows ++ row ∷ []) (length rows) row ≡ row = get_or-append_seam rows row [] row in
    let behind : length rows < length (rows ++ row ∷ []) = omega (arith, length-append rows (row ∷ [])) in
    rights.1 k (length rows) row within behind (ap token_in old ∙ t ∙ sym is ∙ ap token_in (sym last))

pub other_tokens : (grants : List Grant) (row : List (List ℕ)) (token : List ℕ) → ¬ Any (λ g. token_of g ≡ token) grants → token_in row ≡ token → All (λ other. token_in other ≢ token_in row) (map row_of grants)
other_tokens grants row token n is =
    let P : Grant → Type 0 = λ g. token_of g ≡ token in
    All-map (λ (other : List (List ℕ)). token_in other ≢ token_in row) row_of grants
    (λ k d l e. none_of_any P grants n k d l (e ∙ is))

-- ---- the row of one line
pub full_row : (line : List ℕ) (words : List (Bor (List ℕ))) → map (λ w. w.now) words ≡ words_of line → 0 < length words → map (λ w. w.now) words ∷ [] ≡ rows_of (line ∷ [])
full_row line [] e l = absurd (omega arith)
full_row line (w ∷ ws) e l = ap (λ (x : List (List ℕ)). cond (is_full x) (x ∷ []) []) e

pub blank_row : (line : List ℕ) (words : List (Bor (List ℕ))) → map (λ w. w.now) words ≡ words_of line → length words ≡ 0 → [] ≡ rows_of (line ∷ [])
blank_row line [] e l = ap (λ (x : List (List ℕ)). cond (is_full x) (x ∷ []) []) e
blank_row line (w ∷ ws) e l = absurd (omega arith)

-- ---- a search in a list
pub found : {X : Type 0} (P : X → Type 0) (xs : List X) (i : ℕ) (x : X) → i < length xs → x ≡ get_or xs i x → P x → IsTrue true ↔ Any P xs
found P xs i x l is p = (λ _. (i, x, l, sym is, p), λ _. refl)

pub none_found : {X : Type 0} (P : X → Type 0) (xs : List X) (i : ℕ) → length xs ≤ i → All (λ x. ¬ P x) (take i xs) → ¬ Any P xs
none_found P xs i l h a =
    let all : All (λ x. ¬ P x) xs = subst (All (λ x. ¬ P x)) (take_all i xs l) h in all a.0 a.1 a.2 (subst P (sym a.3) a.4)

pub not_found : {X : Type 0} (P : X → Type 0) (xs : List X) (i : ℕ) → length xs ≤ i → All (λ x. ¬ P x) (take i xs) → IsTrue false ↔ Any P xs
not_found P xs i l h = (λ t. absurd (false≢true t), λ a. absurd (none_found P xs i l h a))

pub one_more : {X : Type 0} (P : X → Type 0) (xs : List X) (i : ℕ) (x : X) → i < length xs → All (λ y. ¬ P y) (take i xs) → x ≡ get_or xs i x → ¬ P x → All (λ y. ¬ P y) (take (i + 1) xs)
one_more P xs i x l h is n = All-more (λ y. ¬ P y) xs i x l h (subst (λ y. ¬ P y) is n)

-- ---- what is found
pub some_is : {X : Type 0} (o : Option X) (x : X) (P : X → Type 0) → o ≡ Some x → IfSome o P → P x
some_is o x P e h = subst (λ v. IfSome v P) e h

pub none_is : {X : Type 0} (o : Option X) (P : Type 0) → o ≡ None → IfNone o P → P
none_is o P e h = subst (λ v. IfNone v P) e h

-- ---- whether a list is empty
pub is_blank : {X : Type 0} (words : Vec X Global) (b : Bool) → b ≡ (vec_len words == 0) → b ≡ true → length words.items ≡ 0
is_blank words b e t = let l : vec_len words ≡ length words.items = words.ok.0 in grind (arith, nat_tests)

pub is_not_blank : {X : Type 0} (words : Vec X Global) (b : Bool) → b ≡ (vec_len words == 0) → b ≡ false → 0 < length words.items
is_not_blank words b e t = let l : vec_len words ≡ length words.items = words.ok.0 in grind (arith, nat_tests)
