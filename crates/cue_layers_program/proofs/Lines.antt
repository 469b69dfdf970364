-- Lines, one after the other.
use Rattle.std.proofs.Common.{◌≡◌, ℕ, zero, suc, ◌+◌, ◌<◌, Bool, true, false, ◌||◌, cond, List, [], ◌∷◌, ◌++◌, length, map, take, get_or, Bor, arith, refl, sym, ap, ◌∙◌, subst}
use Rattle.std.specs.List.{concat, list_any}
use Rattle.std.specs.Prelude.{if◌then◌else◌}
use Rattle.std.specs.Str.{bytes_eq}
use Rattle.std.specs.BTreeSet.{BTreeSet, contains, Updates}
use Rattle.std.specs.Cmp.Lexicographic.{slice_cmp}
use Rattle.std.specs.Ordering.{nat_cmp}
use Rattle.std.proofs.lemmas.List.{append_assoc, append-nil, map_push, take_more}
use Rattle.std.proofs.lemmas.Map.Text.{is_eq-slice_cmp}
use Rattle.std.proofs.lemmas.List.Folds.{concat-append, list_any-append}
use Rattle.cue_replica.specs.declared.Status.TheVariants as statuses
use Rattle.cue_layers.specs.declared.Layer.{Layer}
use Rattle.cue_program.specs.Files.{texts_of_files}
use Rattle.cue_layers_program.specs.Answers.{AreLines, IsLayerLine}
use Rattle.cue_layers_program.specs.Inner.Lines.{HasLines}
use Rattle.cue_layers_program.specs.Tries.{is_among, is_conflict, status_of_lines}

-- with one layer more
pub lines_more : (layers : List Layer) (layer : Layer) (text line : List ℕ) → AreLines layers text → IsLayerLine layer line → AreLines (layers ++ layer ∷ []) (text ++ line)
lines_more [] layer text line none is = (line, [], ap (λ (t : List ℕ). t ++ line) none ∙ sym (append-nil line), is, refl)
lines_more (first ∷ layers) layer text line h is =
    (h.0, h.1 ++ line, ap (λ (t : List ℕ). t ++ line) h.2 ∙ append_assoc h.0 h.1 line, h.3, lines_more layers layer h.1 line h.4 is)

pub list_more :
    (layers : List Layer) (i : ℕ) (layer : Layer) (old new : List ℕ) → i < length layers → layer ≡ get_or layers i layer → AreLines (take i layers) old
    → ((line : List ℕ) × IsLayerLine layer line × (new ≡ old ++ line)) → AreLines (take (i + 1) layers) new
list_more layers i layer old new less at h more =
    subst (λ (text : List ℕ). AreLines (take (i + 1) layers) text) (sym more.2)
    (subst (λ (ls : List Layer). AreLines ls (old ++ more.0)) (sym (take_more layers i layer less ∙ ap (λ (l : Layer). take i layers ++ l ∷ []) (sym at)))
    (lines_more (take i layers) layer old more.0 h more.1))

-- the texts so far with one more
pub texts_more : (lines : List (Bor (List ℕ))) (i : ℕ) (d : Bor (List ℕ)) → i < length lines → texts_of_files (take (i + 1) lines) ≡ texts_of_files (take i lines) ++ (get_or lines i d).now ∷ []
texts_more lines i d less =
    ap (λ (ls : List (Bor (List ℕ))). texts_of_files ls) (take_more lines i d less) ∙ map_push (λ (line : Bor (List ℕ)). line.now) (take i lines) (get_or lines i d)

pub concat_more : (lines : List (Bor (List ℕ))) (i : ℕ) (d : Bor (List ℕ)) → i < length lines → concat (texts_of_files (take (i + 1) lines)) ≡ concat (texts_of_files (take i lines)) ++ (get_or lines i d).now
concat_more lines i d less =
    ap concat (texts_more lines i d less)
    ∙ (concat-append (texts_of_files (take i lines)) ((get_or lines i d).now ∷ [])
    ∙ ap (λ (t : List ℕ). concat (texts_of_files (take i lines)) ++ t) (append-nil (get_or lines i d).now))

-- the status of lines
pub with_conflict : (lines : List (List ℕ)) → list_any is_conflict lines ≡ true → statuses.Conflicts ≡ status_of_lines lines
with_conflict [] e = absurd cc
with_conflict (line ∷ lines) e = sym (ap (λ (b : Bool). if b then statuses.Conflicts else statuses.Incomplete) e)

pub with_gaps : (lines : List (List ℕ)) → 0 < length lines → list_any is_conflict lines ≡ false → statuses.Incomplete ≡ status_of_lines lines
with_gaps [] some e = absurd (omega arith)
with_gaps (line ∷ lines) some e = sym (ap (λ (b : Bool). if b then statuses.Conflicts else statuses.Incomplete) e)

either : (b x : Bool) → cond b true x ≡ (x || (b || false))
either true true = refl
either true false = refl
either false true = refl
either false false = refl

-- a line is among lines with one more
pub among_more : (lines : List (List ℕ)) (line other : List ℕ) → is_among (lines ++ line ∷ []) other ≡ cond (bytes_eq line other) true (is_among lines other)
among_more lines line other = list_any-append (λ (l : List ℕ). bytes_eq l other) lines (line ∷ []) ∙ sym (either (bytes_eq line other) (is_among lines other))

pub whole_more : (lines : List (Bor (List ℕ))) (i : ℕ) (d : Bor (List ℕ)) (old new : List ℕ) → i < length lines → new ≡ old ++ (get_or lines i d).now → old ≡ concat (texts_of_files (take i lines))
    → new ≡ concat (texts_of_files (take (i + 1) lines))
whole_more lines i d old new less adds is = adds ∙ (ap (λ (t : List ℕ). t ++ (get_or lines i d).now) is ∙ sym (concat_more lines i d less))

-- a set with one line more
pub has_more :
    (lines : List (Bor (List ℕ))) (line : Bor (List ℕ)) (old new : BTreeSet (Bor (List ℕ))) → Updates (λ (a b : Bor (List ℕ)). slice_cmp nat_cmp a.now b.now) old new line true
    → HasLines (texts_of_files lines) old → HasLines (texts_of_files (lines ++ line ∷ [])) new
has_more lines line old new up has q =
    up.0 q
    ∙ (ap (λ (b : Bool). cond b true (contains (λ (a b : Bor (List ℕ)). slice_cmp nat_cmp a.now b.now) old q)) (is_eq-slice_cmp line.now q.now)
    ∙ (ap (λ (b : Bool). cond (bytes_eq line.now q.now) true b) (has q)
    ∙ (sym (among_more (texts_of_files lines) line.now q.now)
    ∙ ap (λ (ls : List (List ℕ)). is_among ls q.now) (sym (map_push (λ (l : Bor (List ℕ)). l.now) lines line)))))

second : (b x : Bool) → x ≡ true → (b || x) ≡ true
second true x e = refl
second false x e = e

-- one of them passes
pub any_at : (p : List ℕ → Bool) (lines : List (Bor (List ℕ))) (i : ℕ) (d : Bor (List ℕ)) → i < length lines → p (get_or lines i d).now ≡ true → list_any p (texts_of_files lines) ≡ true
any_at p [] i d less e = absurd (omega arith)
any_at p (line ∷ lines) zero d less e = ap (λ (b : Bool). b || list_any p (texts_of_files lines)) e
any_at p (line ∷ lines) (suc i) d less e = second (p line.now) (list_any p (texts_of_files lines)) (any_at p lines i d (omega arith) e)
