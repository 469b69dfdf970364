-- What a pull that went well brings.
use Rattle.std.proofs.Common.{Bool, true, false, not, ◌≡◌, ◌⊎◌, ◌<◌, ℕ, zero, suc, Result, Ok, Err, IfErr, IsErrAnd, List, [], ◌∷◌, ◌++◌, length, map, drop, slice_index_or, refl, sym, ap, ◌∙◌, subst, arith, inl, inr, ⊎_elim}
use Rattle.std.specs.List.{Contains}
use Rattle.std.proofs.lemmas.Result.{IfErr-weaker}
use Rattle.cue_lattice.specs.OneOf.{OneOf}
use Rattle.cue_lattice.specs.Refusal.{memory}
use Rattle.cue_lattice.specs.World.{Piece, IsInSet, IsUnified, piece_refuses, text, state}
use Rattle.cue_lattice.specs.declared.refusal.Refusal.{Refusal}
use Rattle.cue_lattice.proofs.OneOf.{one_of-push}
use Rattle.cue_replica.specs.Accepted.{IsAcceptable}
use Rattle.cue_replica.specs.Language.{Table, language}
use Rattle.cue_replica.specs.Replica.{AddsRefusals}
use Rattle.cue_replica.proofs.Adding.{one_piece, unified_more}
use Rattle.cue_replica.proofs.Sound.{sound}
use Rattle.cue_service.specs.declared.desk.SiteCore.{SiteCore}
use Rattle.cue_service.specs.Answering.{GathersPiece, GathersPieces}
use Rattle.cue_service.specs.Entries.{entry_of, piece_of_entry}
use Rattle.cue_service.specs.Listing.{AreListed}
use Rattle.cue_service.specs.Pulls.{CoversPiece, CoversAll, IsOfListed}
use Rattle.cue_service.specs.Refusals.{IsRefusalOf}
use Rattle.cue_service.proofs.Alike.{read_back}

-- a table that adds something refuses what it refused, and what was added
pub covers_still : (old new : Table) (added piece : Piece) → AddsRefusals old (piece_refuses language added) new → CoversPiece old piece → CoversPiece new piece
covers_still old new added piece adds covers path question refuses = (adds path question).1 (inl (covers path question refuses))

pub covers_added : (old new : Table) (piece : Piece) → AddsRefusals old (piece_refuses language piece) new → CoversPiece new piece
covers_added old new piece adds path question refuses = (adds path question).1 (inr refuses)

one_of_has : (P : Piece → Type 0) (pieces : List Piece) (piece : Piece) → IsInSet pieces piece → P piece → OneOf P pieces
one_of_has P [] piece has holds = absurd has
one_of_has P (x ∷ pieces) piece (inl is) holds = inl (subst P (sym is) holds)
one_of_has P (x ∷ pieces) piece (inr has) holds = inr (one_of_has P pieces piece has holds)

-- the unification of pieces refuses what each of them does
pub covers_each : (table : Table) (pieces : List Piece) (piece : Piece) → IsUnified language table pieces → IsInSet pieces piece → CoversPiece table piece
covers_each table pieces piece unified has path question refuses =
    (unified.1 path question).1 (one_of_has (λ member. piece_refuses language member path question) pieces piece has refuses)

-- an entry that is listed is that of a piece that was accepted
pub entry_has :
    (n : ℕ) (accepted : List Piece) (k : ℕ) (entry : List ℕ) → k < length (drop n (map entry_of accepted)) → slice_index_or (drop n (map entry_of accepted)) k entry ≡ entry
    → (piece : Piece) × IsInSet accepted piece × (entry_of piece ≡ entry)
entry_has zero [] k entry less is = absurd (omega (arith, less))
entry_has (suc n) [] k entry less is = absurd (omega (arith, less))
entry_has zero (piece ∷ accepted) zero entry less is = (piece, inl refl, is)
entry_has zero (piece ∷ accepted) (suc k) entry less is =
    let found = entry_has zero accepted k entry (omega (arith, less)) is in
    (found.0, inr found.1, found.2)
entry_has (suc n) (piece ∷ accepted) k entry less is =
    let found = entry_has n accepted k entry less is in
    (found.0, inr found.1, found.2)

-- so the table refuses what a piece does that is known
pub covers_known : (desk : SiteCore) (entry : List ℕ) → IsOfListed desk → Contains desk.pieces.kept entry → CoversPiece desk.board (piece_of_entry entry)
covers_known desk entry of known =
    let kept = subst (λ (l : List (List ℕ)). Contains l entry) of.listed.kept known in
    let found = entry_has desk.pieces.given_up of.accepted kept.0 entry kept.1 kept.2 in
    subst (CoversPiece desk.board) (sym (read_back found.0) ∙ ap piece_of_entry found.2)
    (covers_each desk.board of.pieces found.0 of.held (of.among found.0 found.1))

pushed : (xs : List Piece) (x piece : Piece) → IsInSet (xs ++ x ∷ []) piece → IsInSet xs piece ⊎ (x ≡ piece)
pushed xs x piece has = (one_of-push (λ member. member ≡ piece) xs x).0 has

-- what is taken of a piece that comes
pub listed_after : (old new : SiteCore) (piece : Piece) → GathersPiece piece old new → IsOfListed old → IsOfListed new
listed_after old new piece (inl taken) of = record {
  pieces = of.pieces ++ piece ∷ [];
  accepted = of.accepted ++ piece ∷ [];
  held = unified_more old.board new.board _ of.pieces (piece ∷ []) of.held taken.adds taken.valid (one_piece piece);
  among = λ other has. ⊎_elim
      (λ before. (one_of-push (λ member. member ≡ other) of.pieces piece).1 (inl (of.among other before)))
      (λ is. (one_of-push (λ member. member ≡ other) of.pieces piece).1 (inr is))
      (pushed of.accepted piece other has);
  listed = taken.listed of.accepted of.listed;
}
listed_after old new piece (inr same) of = record {
  pieces = of.pieces;
  accepted = of.accepted;
  held = subst (λ (t : Table). IsUnified language t of.pieces) (sym same.table) of.held;
  among = of.among;
  listed = subst (AreListed of.accepted) (sym same.pieces) of.listed;
}

pub covers_after : (old new : SiteCore) (piece other : Piece) → GathersPiece piece old new → CoversPiece old.board other → CoversPiece new.board other
covers_after old new piece other (inl taken) covers = covers_still old.board new.board piece other taken.adds covers
covers_after old new piece other (inr same) covers = subst (λ (t : Table). CoversPiece t other) (sym same.table) covers

pub listed_after_all : (pieces : List Piece) (old new : SiteCore) → GathersPieces pieces old new → IsOfListed old → IsOfListed new
listed_after_all [] old new same of = listed_after old new (text []) (inr same) of
listed_after_all (piece ∷ pieces) old new gathers of = listed_after_all pieces gathers.0 new gathers.2 (listed_after old gathers.0 piece gathers.1 of)

-- one piece more is covered
pub covers_one_more :
    (old new : Table) (pieces : List Piece) (piece : Piece) → ((other : Piece) → CoversPiece old other → CoversPiece new other) → CoversAll old pieces
    → (IsAcceptable piece → CoversPiece new piece) → CoversAll new (pieces ++ piece ∷ [])
covers_one_more old new pieces piece keeps all one other has acceptable =
    ⊎_elim (λ before. keeps other (all other before acceptable)) (λ is. subst (λ (p : Piece). CoversPiece new p) is (one (subst IsAcceptable (sym is) acceptable)))
    (pushed pieces piece other has)

pub covers_none : (table : Table) → CoversAll table []
covers_none table piece has acceptable = absurd has

-- why a site refuses state bytes, or a text
pub state_why :
    (bytes : List ℕ) (why : Refusal) → ((why ≡ memory) × (language.IsStateRefusedAtOnce bytes → ⊥)) ⊎ language.IsStateFault bytes why
    → IsRefusalOf (state bytes) why
state_why bytes why (inl starved) = inl (ap (λ (w : Refusal). w.kind) starved.0)
state_why bytes why (inr fault) = inr (λ is. sound.no_state_fault bytes why is fault, fault)

pub text_why :
    (bytes : List ℕ) (why : Refusal) → ((why ≡ memory) × (language.IsTextRefusedAtOnce bytes → ⊥)) ⊎ language.IsTextFault bytes why
    → IsRefusalOf (text bytes) why
text_why bytes why (inl starved) = inl (ap (λ (w : Refusal). w.kind) starved.0)
text_why bytes why (inr fault) = inr (λ is. sound.no_text_fault bytes why is fault, inl fault)

pub state_refusal :
    {T : Type 0} (result : Result T Refusal) (bytes : List ℕ)
    → IfErr result (λ why. ((why ≡ memory) × (language.IsStateRefusedAtOnce bytes → ⊥)) ⊎ language.IsStateFault bytes why) → IfErr result (IsRefusalOf (state bytes))
state_refusal result bytes h =
    IfErr-weaker result (λ why. ((why ≡ memory) × (language.IsStateRefusedAtOnce bytes → ⊥)) ⊎ language.IsStateFault bytes why) (IsRefusalOf (state bytes)) (state_why bytes) h

pub text_refusal :
    {T : Type 0} (result : Result T Refusal) (bytes : List ℕ)
    → IfErr result (λ why. ((why ≡ memory) × (language.IsTextRefusedAtOnce bytes → ⊥)) ⊎ language.IsTextFault bytes why) → IfErr result (IsRefusalOf (text bytes))
text_refusal result bytes h =
    IfErr-weaker result (λ why. ((why ≡ memory) × (language.IsTextRefusedAtOnce bytes → ⊥)) ⊎ language.IsTextFault bytes why) (IsRefusalOf (text bytes)) (text_why bytes) h

-- what holds of the fault that is handed on
pub err_on : {T E : Type 0} (r : Result T E) (fault : E) (P : E → Type 0) → IsErrAnd r (λ e. e ≡ fault) → P fault → IfErr r P
err_on (Ok x) fault P is p = absurd is
err_on (Err e) fault P is p = subst P (sym is) p

pub was_true : (b : Bool) → not b ≡ false → b ≡ true
was_true true is = refl
was_true false is = cc
