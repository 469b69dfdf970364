-- The inputs that were submitted to a site so far.
use Rattle.std.proofs.Common.{◌≡◌, ℕ, suc, ◌+◌, ◌-◌, ◌^◌, ◌<◌, ◌≤◌, min, List, [], ◌∷◌, ◌++◌, Result, Ok, Err, OnOk, OnErr, IfErr, Option, map, take, drop, length, arith, Bor, refl, sym, ap, ◌∙◌, subst}
use Rattle.std.specs.List.{AllByRecursion}
use Rattle.std.proofs.lemmas.List.{append_assoc, length-take, map-append, map_push, take_more, take-append-drop, drop_more}
use Rattle.cue_lattice.specs.World.{Piece, text, piece_refuses, AllAlong}
use Rattle.cue_replica.specs.Language.{Table, language}
use Rattle.cue_replica.specs.Replica.{AddsRefusals}
use Rattle.cue_replica.specs.Accepted.{IsAcceptable}
use Rattle.cue_replica.specs.declared.Refusal.{Refusal}
use Rattle.cue_replica.proofs.Along.{along_push, length-along}
use Rattle.cue_program.specs.declared.batch.SiteBatch.{SiteBatch}
use Rattle.cue_program.specs.declared.stop.RunError.{RunError}
use Rattle.cue_program.specs.inner.Gathered.{IsGathered}
use Rattle.cue_program.proofs.Batches.{all_acceptable}
use Rattle.std.specs.Prelude.{get_or}
use Rattle.cue_program.specs.Files.{AreAll, texts_of_files}
use Rattle.cue_program.specs.Inputs.{InputGives, IsFilePiece, IsFirstRefused, IsFirstUnread, IsInputRefused, IsPieceRefusal, files}
use Rattle.cue_program.specs.Stops.{IsRefusedAs, IsUnreadable}

-- the site has accepted the piece of these bytes
abbrev pub Accepts : List ℕ → Table → Table → Type 0
Accepts bytes old new =
    (piece : Piece) × IsFilePiece bytes piece × IsAcceptable piece × AddsRefusals old (piece_refuses language piece) new

-- a further fact of what is answered without an error, or with one
pub ok_more : {T E P Q : Type 0} (r : Result T E) → OnOk r P → (P → Q) → OnOk r Q
ok_more (Ok x) h f = f h
ok_more (Err e) h f = tt

pub err_more : {T E P Q : Type 0} (r : Result T E) → OnErr r P → (P → Q) → OnErr r Q
err_more (Ok x) h f = tt
err_more (Err e) h f = f h

pub err_both : {T E Q : Type 0} {P R : E → Type 0} (r : Result T E) → IfErr r P → OnErr r Q → ((e : E) → P e → Q → R e) → IfErr r R
err_both (Ok x) h k f = tt
err_both (Err e) h k f = f e h k

-- some name
pub some_name : (names : List (Bor (List ℕ))) → 0 < length names → Bor (List ℕ)
some_name [] some = absurd (omega arith)
some_name (name ∷ names) some = name

-- two facts of what is answered without an error
pub both_ok : {T E P Q R : Type 0} (r : Result T E) → OnOk r P → OnOk r Q → (P → Q → R) → OnOk r R
both_ok (Ok x) h k f = f h k
both_ok (Err e) h k f = tt

-- the pieces of these files were taken
pub record HasTakenFiles (gathered : SiteBatch) (known : List (Option (List ℕ))) : Type 0 where
  pub pieces : List Piece
  pub given : AllAlong InputGives known pieces
  pub gathers : IsGathered gathered pieces

-- where nothing was gathered, no files were taken
pub files_none : (gathered : SiteBatch) → IsGathered gathered [] → HasTakenFiles gathered []
files_none gathered none = record { pieces = []; given = tt; gathers = none }

-- with the piece of a further file one file more was taken
pub files_more :
    (known : List (Option (List ℕ))) (next : Option (List ℕ)) (old new : SiteBatch) (bytes : List ℕ) (h : HasTakenFiles old known) → AreAll next bytes
    → ((piece : Piece) × IsFilePiece bytes piece × IsGathered new (h.pieces ++ piece ∷ [])) → HasTakenFiles new (known ++ next ∷ [])
files_more known next old new bytes h all more = record {
  pieces = h.pieces ++ more.0 ∷ [];
  given = along_push InputGives known h.pieces next more.0 h.given (bytes, all, more.1);
  gathers = more.2;
}

-- all pieces of these files are acceptable
pub files_fine : (gathered : SiteBatch) (known : List (Option (List ℕ))) (h : HasTakenFiles gathered known) → AllByRecursion IsAcceptable h.pieces
files_fine gathered known h = all_acceptable gathered.site gathered.batch h.pieces h.gathers

small : (n number : ℕ) → number ≡ n + 1 → n + 1 ≤ 2 ^ 64 - 1 → number ≡ min (n + 1) (2 ^ 64 - 1)
small n number is less = omega (arith, is, less)

-- the first file that is refused after those that are fine
pub files_first_refused :
    (IsFine : Piece → Type 0) (IsReason : Piece → Refusal → Type 0) (front back : List (Option (List ℕ))) (next : Option (List ℕ)) (pieces : List Piece)
    (number : ℕ) (bytes : List ℕ) (stop : RunError) → AllAlong InputGives front pieces → AllByRecursion IsFine pieces → AreAll next bytes
    → number ≡ min (length pieces + 1) (2 ^ 64 - 1)
    → ((piece : Piece) × (why : Refusal) × IsFilePiece bytes piece × IsReason piece why × IsRefusedAs why number stop)
    → IsFirstRefused IsFine IsReason (files (front ++ next ∷ back)) stop
files_first_refused IsFine IsReason front back next pieces number bytes stop give fine all counted fault = record {
  before = pieces;
  piece = fault.0;
  why = fault.1;
  begin = (front ++ next ∷ [], back, sym (append_assoc front (next ∷ []) back), along_push InputGives front pieces next fault.0 give (bytes, all, fault.2));
  accepted = fine;
  refusal = fault.3;
  told = subst (λ (n : ℕ). IsRefusedAs fault.1 n stop) counted fault.4;
}

-- the first file that is refused after those that were taken
pub files_refused :
    (front back : List (Option (List ℕ))) (next : Option (List ℕ)) (number : ℕ) (old : SiteBatch) (bytes : List ℕ) (stop : RunError)
    → HasTakenFiles old front → AreAll next bytes → number ≡ length front + 1 → number ≤ 2 ^ 64 - 1
    → ((piece : Piece) × (why : Refusal) × IsFilePiece bytes piece × IsPieceRefusal piece why × IsRefusedAs why number stop)
    → IsInputRefused (files (front ++ next ∷ back)) stop
files_refused front back next number old bytes stop h all counted most fault =
    let long = length-along InputGives front h.pieces h.given in
    files_first_refused IsAcceptable IsPieceRefusal front back next h.pieces number bytes stop h.given (files_fine old front h) all
    (small (length h.pieces) number (counted ∙ ap (λ n. n + 1) long) (omega (arith, counted, long, most))) fault

-- the first file that can't be read after those that are fine
pub files_unread :
    (IsFine : Piece → Type 0) (front back : List (Option (List ℕ))) (next : Option (List ℕ)) (pieces : List Piece) (stop : RunError)
    → AllAlong InputGives front pieces → AllByRecursion IsFine pieces → IsUnreadable next stop → IsFirstUnread IsFine (files (front ++ next ∷ back)) stop
files_unread IsFine front back next pieces stop give fine fault = (front, back, next, pieces, refl, give, fine, fault)

-- the names so far with one more
pub take_known :
    (K : List ℕ → Option (List ℕ)) (names : List (Bor (List ℕ))) (i : ℕ) (d : Bor (List ℕ)) → i < length names
    → map K (texts_of_files (take (i + 1) names)) ≡ map K (texts_of_files (take i names)) ++ K (get_or names i d).now ∷ []
take_known K names i d less =
    ap (λ (ns : List (Bor (List ℕ))). map K (texts_of_files ns)) (take_more names i d less)
    ∙ (ap (λ (ns : List (List ℕ)). map K ns) (map_push (λ (n : Bor (List ℕ)). n.now) (take i names) (get_or names i d))
    ∙ map_push K (texts_of_files (take i names)) (get_or names i d).now)

-- the names so far, the next, and the others
pub split_known :
    (K : List ℕ → Option (List ℕ)) (names : List (Bor (List ℕ))) (i : ℕ) (d : Bor (List ℕ)) → i < length names
    → map K (texts_of_files names) ≡ map K (texts_of_files (take i names)) ++ K (get_or names i d).now ∷ map K (texts_of_files (drop (i + 1) names))
split_known K names i d less =
    ap (λ (ns : List (Bor (List ℕ))). map K (texts_of_files ns)) (sym (take-append-drop i names) ∙ ap (λ (ns : List (Bor (List ℕ))). take i names ++ ns) (drop_more names i d less))
    ∙ (ap (λ (ns : List (List ℕ)). map K ns) (map-append (λ (n : Bor (List ℕ)). n.now) (take i names) (get_or names i d ∷ drop (i + 1) names))
    ∙ map-append K (texts_of_files (take i names)) ((get_or names i d).now ∷ texts_of_files (drop (i + 1) names)))

length_mapped : {X Y : Type 0} (f : X → Y) (xs : List X) → length (map f xs) ≡ length xs
length_mapped f [] = refl
length_mapped f (x ∷ xs) = ap suc (length_mapped f xs)

pub length_known : (K : List ℕ → Option (List ℕ)) (names : List (Bor (List ℕ))) (i : ℕ) → i < length names → length (map K (texts_of_files (take i names))) ≡ i
length_known K names i less =
    length_mapped K (texts_of_files (take i names)) ∙ (length_mapped (λ (n : Bor (List ℕ)). n.now) (take i names) ∙ omega (arith, length-take i names, less))

-- what holds of each part holds of each as a text
pub all_texts : (P : Piece → Type 0) (parts : List (List ℕ)) → AllByRecursion (λ part. P (text part)) parts → AllByRecursion P (map text parts)
all_texts P [] h = tt
all_texts P (part ∷ parts) h = (h.0, all_texts P parts h.1)

pub length_texts : (parts : List (List ℕ)) → length (map text parts) ≡ length parts
length_texts [] = refl
length_texts (part ∷ parts) = ap suc (length_texts parts)

pub map_texts : (front back : List (List ℕ)) → map text (front ++ back) ≡ map text front ++ map text back
map_texts [] back = refl
map_texts (part ∷ front) back = ap (λ ps. text part ∷ ps) (map_texts front back)
