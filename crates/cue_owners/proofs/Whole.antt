-- A whole token file.
use Rattle.std.proofs.Common.{◌≡◌, ◌++◌, ◌∷◌, ◌<◌, ◌≤◌, ◌+◌, ◌==◌, [], ℕ, List, Bor, Bool, true, false, length, map, take, get_or, arith, subst, sym, ap, refl, ◌∙◌}
use Rattle.std.proofs.lemmas.List.{get_or-map, length-map, take_all}
use Rattle.std.proofs.lemmas.Bool.Decides.{nat_tests}
use Rattle.cue_owners.specs.declared.read.TokenFileError.{TokenFileError}
use Rattle.cue_owners.specs.declared.read.TokenFileError.TheVariants.{Empty, Line, OutOfMemory}
use Rattle.cue_owners.specs.Files.{AreRefused, AreRows, IsLone, IsRefusedFile, IsToken, IsWrongLine, lines_of, rows_of, words_of}
use Rattle.cue_owners.proofs.Rows.{rows_more}

-- a text of other words than one token
pub lone_by : (text : List ℕ) (words : List (Bor (List ℕ))) → map (λ w. w.now) words ≡ words_of text → (token : List ℕ) → IsLone token text → map (λ w. w.now) words ≡ token ∷ []
lone_by text words e token lone = e ∙ lone.0

pub no_token : (text : List ℕ) (words : List (Bor (List ℕ))) → map (λ w. w.now) words ≡ words_of text → length words ≡ 0 → (token : List ℕ) → ¬ IsLone token text
no_token text words e l token lone = omega (arith, length-map words (λ (w : Bor (List ℕ)). w.now), ap length (lone_by text words e token lone))

pub more_words : (text : List ℕ) (words rest : List (Bor (List ℕ))) (w : Bor (List ℕ)) → map (λ v. v.now) words ≡ words_of text → words ≡ w ∷ rest → 0 < length rest → (token : List ℕ) → ¬ IsLone token text
more_words text words rest w e f l token lone =
    omega (arith, length-map words (λ (v : Bor (List ℕ)). v.now), ap length (lone_by text words e token lone), ap length f)

pub the_word : (text : List ℕ) (words rest : List (Bor (List ℕ))) (w : Bor (List ℕ)) → map (λ v. v.now) words ≡ words_of text → words ≡ w ∷ rest → length rest ≡ 0 → words_of text ≡ w.now ∷ []
the_word text words [] w e f l = sym e ∙ ap (map (λ (v : Bor (List ℕ)). v.now)) f
the_word text words (x ∷ rest) w e f l = absurd (omega arith)

head_or : List (List ℕ) → List ℕ
head_or [] = []
head_or (x ∷ xs) = x

pub other_word : (text word : List ℕ) → words_of text ≡ word ∷ [] → ¬ IsToken word → (token : List ℕ) → ¬ IsLone token text
unfolding head_or
other_word text word e n token lone = n (subst IsToken (ap head_or (sym lone.0 ∙ e)) lone.1)

-- ---- the lines so far
pub rows_to : (lines : List (Bor (List ℕ))) (i : ℕ) (d : Bor (List ℕ)) → i < length lines
    → rows_of (take (i + 1) (map (λ l. l.now) lines)) ≡ rows_of (take i (map (λ l. l.now) lines)) ++ rows_of ((get_or lines i d).now ∷ [])
rows_to lines i d l =
    let texts : List (List ℕ) = map (λ l. l.now) lines in
    rows_more texts i d.now (omega (arith, length-map lines (λ (v : Bor (List ℕ)). v.now)))
    ∙ ap (λ (x : List ℕ). rows_of (take i texts) ++ rows_of (x ∷ [])) (get_or-map (λ v. v.now) lines i d d.now l)

pub all_rows : (lines : List (Bor (List ℕ))) (i : ℕ) → length lines ≤ i → rows_of (take i (map (λ l. l.now) lines)) ≡ rows_of (map (λ l. l.now) lines)
all_rows lines i l =
    ap rows_of (take_all i (map (λ (v : Bor (List ℕ)). v.now) lines) (omega (arith, length-map lines (λ (v : Bor (List ℕ)). v.now))))

pub wrong_line : (lines : List (Bor (List ℕ))) (i : ℕ) (d : Bor (List ℕ)) (rows : List (List (List ℕ))) → i < length lines → rows ≡ rows_of (take i (map (λ l. l.now) lines)) → AreRows rows
    → ¬ AreRows (rows ++ rows_of ((get_or lines i d).now ∷ [])) → IsWrongLine (map (λ l. l.now) lines) (i + 1)
wrong_line lines i d rows l e rights n = record {
  place = i;
  counted = refl;
  within = omega (arith, length-map lines (λ (v : Bor (List ℕ)). v.now));
  before = subst AreRows e rights;
  wrong = λ r. n (subst AreRows (rows_to lines i d l ∙ ap (λ (rs : List (List (List ℕ))). rs ++ rows_of ((get_or lines i d).now ∷ [])) (sym e)) r);
}

pub refused_file : (text : List ℕ) (why : TokenFileError) → ((token : List ℕ) → ¬ IsLone token text) → AreRefused (lines_of text) why → IsRefusedFile text why
refused_file text Empty n h = (n, h)
refused_file text (Line number) n h = (n, h)
refused_file text OutOfMemory n h = tt

pub is_none : (n : ℕ) (b : Bool) → b ≡ (n == 0) → b ≡ true → n ≡ 0
is_none n b e t = grind (arith, nat_tests)

pub is_some : (n : ℕ) (b : Bool) → b ≡ (n == 0) → b ≡ false → 0 < n
is_some n b e t = grind (arith, nat_tests)

pub next_rows : (lines : List (Bor (List ℕ))) (i : ℕ) (d : Bor (List ℕ)) (old new : List (List (List ℕ))) → i < length lines → old ≡ rows_of (take i (map (λ l. l.now) lines))
    → new ≡ old ++ rows_of ((get_or lines i d).now ∷ []) → new ≡ rows_of (take (i + 1) (map (λ l. l.now) lines))
next_rows lines i d old new l e f =
    f ∙ ap (λ (rs : List (List (List ℕ))). rs ++ rows_of ((get_or lines i d).now ∷ [])) e ∙ sym (rows_to lines i d l)
