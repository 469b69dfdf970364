-- Texts that are written by a loop, and texts that are told in other words.
use Rattle.std.proofs.Common.{◌≡◌, ◌++◌, ◌∙◌, ℕ, List, Option, [], ap, sym, subst, append_assoc}
use Rattle.std.specs.Prelude.{OnOk, OnErr}
use Rattle.std.specs.Io.KnownBytes.{Appends}
use Rattle.std.specs.declared.result.Result.{Result}
use Rattle.std.specs.declared.result.Result.TheVariants.{Ok, Err}
use Rattle.std.proofs.lemmas.List.{append-nil}
use Rattle.cue_device.specs.Texts.{WritesPrefix}
use Rattle.cue_device.proofs.Texts.{appends_none, appends_then, begins_none, begins_now, begins_later}

-- What a loop wrote so far, with what is left, is the whole.
pub record IsTelling (old now : Option (List ℕ)) (left whole : List ℕ) : Type 0 where
  pub done : List ℕ
  pub added : Appends old now done
  pub text : done ++ left ≡ whole

pub tells_first : (old : Option (List ℕ)) (left whole : List ℕ) → left ≡ whole → IsTelling old old left whole
tells_first old left whole e = record { done = []; added = appends_none old; text = e }

-- a piece is written
pub tells_next :
    (old now next : Option (List ℕ)) (piece others left whole : List ℕ) → left ≡ piece ++ others
    → IsTelling old now left whole → Appends now next piece → IsTelling old next others whole
tells_next old now next piece others left whole e t a = record {
  done = t.done ++ piece;
  added = appends_then old now next t.done piece t.added a;
  text = append_assoc t.done piece others ∙ ap (λ x. t.done ++ x) (sym e) ∙ t.text;
}

-- nothing is left
pub tells_all : (old now : Option (List ℕ)) (left whole : List ℕ) → left ≡ [] → IsTelling old now left whole → Appends old now whole
tells_all old now left whole e t = subst (Appends old now) (sym (append-nil t.done) ∙ ap (λ x. t.done ++ x) (sym e) ∙ t.text) t.added

-- a piece is not written whole
pub tells_part :
    (old now next : Option (List ℕ)) (piece others left whole : List ℕ) → left ≡ piece ++ others
    → IsTelling old now left whole → WritesPrefix now next piece → WritesPrefix old next whole
tells_part old now next piece others left whole e t b =
    subst (WritesPrefix old next) (ap (λ x. t.done ++ x) (sym e) ∙ t.text)
    (begins_later old now next t.done (piece ++ others) t.added (begins_now now next piece others b))

-- nothing more is written
pub tells_no_more : (old now : Option (List ℕ)) (left whole : List ℕ) → IsTelling old now left whole → WritesPrefix old now whole
tells_no_more old now left whole t = subst (WritesPrefix old now) t.text (begins_later old now now t.done left t.added (begins_none now left))

-- ---- the same text in other words
pub appends_as : (old new : Option (List ℕ)) (text shown : List ℕ) → text ≡ shown → Appends old new text → Appends old new shown
appends_as old new text shown e = subst (Appends old new) e

pub begins_as : (old new : Option (List ℕ)) (text shown : List ℕ) → text ≡ shown → WritesPrefix old new text → WritesPrefix old new shown
begins_as old new text shown e = subst (WritesPrefix old new) e

-- ---- results
pub on_err : {T E A : Type 0} (r : Result T E) → A → OnErr r A
on_err (Ok x) a = tt
on_err (Err e) a = a

pub told_as : {T E : Type 0} (r : Result T E) (old new : Option (List ℕ)) (text shown : List ℕ) → text ≡ shown → OnOk r (Appends old new text) → OnOk r (Appends old new shown)
told_as r old new text shown e = subst (λ (t : List ℕ). OnOk r (Appends old new t)) e

pub begun_as : {T E : Type 0} (r : Result T E) (old new : Option (List ℕ)) (text shown : List ℕ) → text ≡ shown → OnErr r (WritesPrefix old new text) → OnErr r (WritesPrefix old new shown)
begun_as r old new text shown e = subst (λ (t : List ℕ). OnErr r (WritesPrefix old new t)) e
