-- A site that accepts piece after piece.
use Rattle.std.proofs.Common.{◌≡◌, ◌≢◌, ◌⊎◌, inl, inr, ⊎_elim, ℕ, zero, suc, ◌+◌, ◌<◌, ◌≤◌, List, [], ◌∷◌, ◌++◌, length, take, map, get_or, Some, refl, sym, ap, ◌∙◌, subst, arith}
use Rattle.std.specs.Prelude.{slice_get}
use Rattle.std.specs.List.{AllByRecursion}
use Rattle.std.proofs.lemmas.List.{take_more, take_all}
use Rattle.cue_lattice.specs.Refusal.{memory}
use Rattle.cue_lattice.specs.World.{Piece, text, state, IsUnified, piece_refuses, pieces_refuse}
use Rattle.cue_lattice.specs.declared.refusal.Refusal.{Refusal}
use Rattle.cue_replica.specs.Accepted.{IsAcceptable}
use Rattle.cue_replica.specs.Language.{Table, language, empty_site}
use Rattle.cue_replica.specs.Replica.{AddsRefusals}
use Rattle.cue_replica.proofs.Accepted.{new_site}
use Rattle.cue_replica.proofs.Sound.{sound}
use Rattle.cue_replica.proofs.Adding.{unified_more}
use Rattle.cue_layers.specs.Refusals.{piece_of_refusal, IsPieceFault, IsPiecesRefusal, out_of_memory}
use Rattle.cue_layers.specs.declared.piece.Piece.{Piece as OwnedPiece}
use Rattle.cue_layers.specs.declared.refusal.LayersRefusal.{LayersRefusal}
use Rattle.cue_layers.specs.declared.refusal.LayersRefusal.TheVariants.{InPiece}
use Rattle.cue_layers.proofs.Lists.{all_both}

-- the site has accepted just these pieces
pub record HasAccepted (content : Table) (pieces : List OwnedPiece) : Type 0 where
  pub acceptable : AllByRecursion IsAcceptable (map piece_of_refusal pieces)
  pub unified : IsUnified language content (map piece_of_refusal pieces)

pub none_accepted : (content : Table) → content ≡ empty_site → HasAccepted content []
none_accepted content is = record { acceptable = tt; unified = subst (λ (t : Table). IsUnified language t []) (sym is) new_site }

map_push : (ps : List OwnedPiece) (p : OwnedPiece) → map piece_of_refusal (ps ++ p ∷ []) ≡ map piece_of_refusal ps ++ piece_of_refusal p ∷ []
map_push [] p = refl
map_push (q ∷ ps) p = ap (λ (xs : List Piece). piece_of_refusal q ∷ xs) (map_push ps p)

pub more_accepted :
    (old new : Table) (pieces : List OwnedPiece) (i : ℕ) (p : OwnedPiece) → i < length pieces → p ≡ get_or pieces i p → HasAccepted old (take i pieces)
    → IsAcceptable (piece_of_refusal p) → AddsRefusals old (pieces_refuse language (piece_of_refusal p ∷ [])) new → language.IsValid new → HasAccepted new (take (i + 1) pieces)
more_accepted old new pieces i p lt is has acceptable adds valid =
    let front = take i pieces in
    let same : take (i + 1) pieces ≡ front ++ p ∷ [] = take_more pieces i p lt ∙ ap (λ (x : OwnedPiece). front ++ x ∷ []) (sym is) in
    let P : List Piece → Type 0 = λ ps. AllByRecursion IsAcceptable ps in
    let Q : List Piece → Type 0 = λ ps. IsUnified language new ps in
    subst (HasAccepted new) (sym same) (record {
      acceptable = subst P (sym (map_push front p)) (all_both IsAcceptable (map piece_of_refusal front) (piece_of_refusal p ∷ []) has.acceptable (acceptable, tt));
      unified = subst Q (sym (map_push front p)) (unified_more old new (pieces_refuse language (piece_of_refusal p ∷ [])) (map piece_of_refusal front) (piece_of_refusal p ∷ []) has.unified adds valid (λ path question. (λ h. h, λ h. h)));
    })

pub all_accepted : (content : Table) (pieces : List OwnedPiece) (i : ℕ) → length pieces ≤ i → HasAccepted content (take i pieces) → HasAccepted content pieces
all_accepted content pieces i le has = subst (HasAccepted content) (take_all i pieces le) has

take_map : (n : ℕ) (ps : List OwnedPiece) → take n (map piece_of_refusal ps) ≡ map piece_of_refusal (take n ps)
take_map zero ps = refl
take_map (suc n) [] = refl
take_map (suc n) (p ∷ ps) = ap (λ (xs : List Piece). piece_of_refusal p ∷ xs) (take_map n ps)

get_map : (ps : List OwnedPiece) (i : ℕ) (p : OwnedPiece) → i < length ps → p ≡ get_or ps i p → slice_get (map piece_of_refusal ps) i ≡ Some (piece_of_refusal p)
get_map [] i p lt is = absurd (omega arith)
get_map (q ∷ ps) zero p lt is = ap (λ (x : OwnedPiece). Some (piece_of_refusal x)) (sym is)
get_map (q ∷ ps) (suc i) p lt is = get_map ps i p (omega arith) is

-- where a piece is refused
pub first_fault :
    (content : Table) (pieces : List OwnedPiece) (i : ℕ) (p : OwnedPiece) (why : Refusal) (refusal : LayersRefusal) → i < length pieces → p ≡ get_or pieces i p → HasAccepted content (take i pieces)
    → IsPieceFault (piece_of_refusal p) why ⊎ (why ≡ memory) → (why ≡ memory → refusal ≡ out_of_memory) → (why ≢ memory → refusal ≡ InPiece i why) → (IsPieceFault (piece_of_refusal p) memory → ⊥)
    → IsPiecesRefusal (map piece_of_refusal pieces) refusal
first_fault content pieces i p why refusal lt is has (inr m) out in_piece apart = subst (IsPiecesRefusal (map piece_of_refusal pieces)) (sym (out m)) refl
first_fault content pieces i p why refusal lt is has (inl fault) out in_piece apart =
    let other : why ≢ memory = λ e. apart (subst (IsPieceFault (piece_of_refusal p)) e fault) in
    subst (IsPiecesRefusal (map piece_of_refusal pieces)) (sym (in_piece other))
    (subst (AllByRecursion IsAcceptable) (sym (take_map i pieces)) has.acceptable, (piece_of_refusal p, get_map pieces i p lt is, fault))

-- out of memory is no fault of a piece
pub memory_apart : (p : Piece) → IsPieceFault p memory → ⊥
memory_apart (text t) fault = sound.memory_apart t (inl fault)
memory_apart (state bytes) fault = sound.memory_apart bytes (inr fault)

-- what one piece refuses, a set of it does
pub adds_one : (old new : Table) (p : Piece) → AddsRefusals old (piece_refuses language p) new → AddsRefusals old (pieces_refuse language (p ∷ [])) new
adds_one old new p adds path question = (
  λ h. ⊎_elim (λ g. inl g) (λ g. inr (inl g)) ((adds path question).0 h),
  λ h. (adds path question).1 (⊎_elim (λ g. inl g) (λ g. inr (⊎_elim (λ k. k) (λ none. absurd none) g)) h),
)
