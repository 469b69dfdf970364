-- Words that are names, and lists of words.
use Rattle.std.proofs.Common.{◌≡◌, ◌↔◌, ⊎_elim, ◌++◌, ◌∷◌, [], ◌<◌, ◌≤◌, ◌+◌, ◌==◌, ℕ, List, Bool, true, false, IsTrue, Bor, codes, map, take, length, get_or, All, refl, sym, ap, subst, ◌∙◌, lit<, arith}
use Rattle.std.proofs.lemmas.Bool.{false≢true}
use Rattle.std.proofs.lemmas.Bool.Decides.{nat_tests}
use Rattle.std.proofs.lemmas.List.{take_all, take_more, map-append, get_or-map, length-map}
use Rattle.std.proofs.lemmas.List.Elements.{All-push, All-contains, All-cons, All-nil, All-weaker}
use Rattle.std.proofs.lemmas.Str.{IsUtf8-from_ascii}
use Rattle.std.proofs.lemmas.Str.Ascii.{IsAscii-from_all}
use Rattle.std.specs.Str.{IsUtf8}
use Rattle.std.specs.Char.{is_ascii_alphanumeric}
use Rattle.cue_owners.specs.Files.{IsRow}
use Rattle.cue_owners.specs.Patterns.{IsName, IsNameByte}

alphanumeric : (c : ℕ) → IsTrue (is_ascii_alphanumeric c) → c < 128
alphanumeric c t = grind (arith, nat_tests)

others : All (λ c. c < 128) (codes "._-/")
others =
    let P : ℕ → Type 0 = λ c. c < 128 in
    All-cons P 46 (95 ∷ 45 ∷ 47 ∷ []) (lit< tt) (All-cons P 95 (45 ∷ 47 ∷ []) (lit< tt) (All-cons P 45 (47 ∷ []) (lit< tt) (All-cons P 47 [] (lit< tt) (All-nil P))))

low : (c : ℕ) → IsNameByte c → c < 128
low c h = ⊎_elim (alphanumeric c) (All-contains (λ b. b < 128) (codes "._-/") c others) h

pub name_utf8 : (name : List ℕ) → IsName name → IsUtf8 name
name_utf8 name h = IsUtf8-from_ascii name (IsAscii-from_all name (All-weaker IsNameByte (λ c. c < 128) low name h.1))

module _ (P : List ℕ → Type 0) (words : List (Bor (List ℕ))) (i : ℕ) where
  pub all_words : length words ≤ i → All P (map (λ w. w.now) (take i words)) → IsTrue true ↔ All P (map (λ w. w.now) words)
  all_words l h = (λ _. subst (λ (ws : List (Bor (List ℕ))). All P (map (λ w. w.now) ws)) (take_all i words l) h, λ _. refl)

  pub not_all : (d : Bor (List ℕ)) → i < length words → ¬ P (get_or words i d).now → IsTrue false ↔ All P (map (λ w. w.now) words)
  not_all d l n = (
    λ t. absurd (false≢true t),
    λ all. absurd (n (subst P (get_or-map (λ v. v.now) words i d d.now l) (all i d.now (omega (arith, length-map words (λ (v : Bor (List ℕ)). v.now)))))),
  )

  pub one_word_more : (d : Bor (List ℕ)) → i < length words → All P (map (λ v. v.now) (take i words)) → P (get_or words i d).now → All P (map (λ v. v.now) (take (i + 1) words))
  one_word_more d l h p =
      let e : map (λ (v : Bor (List ℕ)). v.now) (take (i + 1) words) ≡ map (λ v. v.now) (take i words) ++ (get_or words i d).now ∷ [] = ap (map (λ v. v.now)) (take_more words i d l) ∙ map-append (λ v. v.now) (take i words) (get_or words i d ∷ []) in
      subst (All P) (sym e) (All-push P (map (λ v. v.now) (take i words)) (get_or words i d).now h p)

-- ---- the words of a line
pub no_words : (words : List (Bor (List ℕ))) → length words ≡ 0 → ¬ IsRow (map (λ w. w.now) words)
no_words [] e r = r
no_words (w ∷ ws) e r = absurd (omega arith)

pub one_word : (words : List (Bor (List ℕ))) (w : Bor (List ℕ)) (rest : List (Bor (List ℕ))) → words ≡ w ∷ rest → length rest ≡ 0 → ¬ IsRow (map (λ v. v.now) words)
one_word words w [] e l r = let h : IsRow (map (λ v. v.now) (w ∷ [])) = subst (λ (ws : List (Bor (List ℕ))). IsRow (map (λ v. v.now) ws)) e r in h
one_word words w (x ∷ xs) e l r = absurd (omega arith)

pub row_of_words : (words : List (Bor (List ℕ))) (owner token : Bor (List ℕ)) (rest patterns : List (Bor (List ℕ))) → words ≡ owner ∷ rest → rest ≡ token ∷ patterns → map (λ v. v.now) words ≡ owner.now ∷ token.now ∷ map (λ v. v.now) patterns
row_of_words words owner token rest patterns e f = ap (map (λ v. v.now)) (e ∙ ap (λ (r : List (Bor (List ℕ))). owner ∷ r) f)

pub some_words : (words : List (Bor (List ℕ))) (b : Bool) → b ≡ (length words == 0) → b ≡ false → 0 < length (map (λ v. v.now) words)
some_words [] b e f = absurd (false≢true (sym f ∙ e))
some_words (w ∷ ws) b e f = omega arith

pub no_patterns : (words : List (Bor (List ℕ))) (b : Bool) → b ≡ (length words == 0) → b ≡ true → 0 < length (map (λ v. v.now) words) → ⊥
no_patterns [] b e t l = omega arith
no_patterns (w ∷ ws) b e t l = grind (arith, nat_tests)
