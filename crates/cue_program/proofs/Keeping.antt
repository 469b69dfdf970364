-- What is kept of an input whose end is looked for, and what it tells of the whole input.
use Rattle.std.proofs.Common.{◌≡◌, ◌≢◌, ◌⊎◌, inl, inr, ℕ, zero, suc, ◌+◌, ◌<◌, min, Bool, true, false, Option, Some, List, [], ◌∷◌, ◌++◌, length, take, nat_le, arith, refl, sym, ap, ◌∙◌, subst}
use Rattle.std.specs.Prelude.{slice_get}
use Rattle.std.proofs.lemmas.Bool.{leb-true, leb-false}
use Rattle.std.proofs.lemmas.List.{length-take, take_all}
use Rattle.cue_lattice.specs.World.{Piece, text}
use Rattle.cue_replica.specs.Accepted.{text_limit}
use Rattle.cue_replica.specs.Language.{Table, language}
use Rattle.cue_replica.specs.Replica.{AddsRefusals}
use Rattle.cue_replica.specs.declared.Refusal.{Refusal}
use Rattle.cue_replica.proofs.Texts.{lexed_short}
use Rattle.cue_program.specs.Files.{AreAll}
use Rattle.cue_program.specs.Inputs.{IsByteFault, IsEnoughOf, IsFilePiece, IsPieceRefusal, IsTextInput, IsTextInputRefusal}
use Rattle.cue_program.proofs.SubmittedInputs.{Accepts}
use Rattle.cue_program.specs.Stops.{IsRefusedAs}
use Rattle.cue_program.specs.declared.stop.RunError.{RunError}
use Rattle.cue_program.specs.inner.Reading.{IsAllRead}

-- what is put behind a front changes no front that is as long
take_front : (n : ℕ) (xs ys : List ℕ) → take n (take n xs ++ ys) ≡ take n (xs ++ ys)
take_front zero xs ys = refl
take_front (suc n) [] ys = refl
take_front (suc n) (x ∷ xs) ys = ap (λ (t : List ℕ). x ∷ t) (take_front n xs ys)

-- a front with something in it begins as the whole
first_kept : (n : ℕ) (xs ys : List ℕ) → slice_get (take (suc n) xs ++ ys) 0 ≡ slice_get (xs ++ ys) 0
first_kept n [] ys = refl
first_kept n (x ∷ xs) ys = refl

-- of what is kept with more behind it as much is enough as of the whole with more behind it
pub enough_more : (all kept bytes next : List ℕ) → IsEnoughOf all kept → IsEnoughOf (kept ++ bytes) next → IsEnoughOf (all ++ bytes) next
enough_more all kept bytes next (inl h) k = subst (λ (b : List ℕ). IsEnoughOf (b ++ bytes) next) h.1 k
enough_more [] kept bytes next (inr h) k = subst (λ (b : List ℕ). IsEnoughOf (b ++ bytes) next) h.1 k
enough_more (x ∷ all) kept bytes next (inr h) (inl k) =
    absurd (h.0 (sym (first_kept text_limit (x ∷ all) bytes) ∙ subst (λ (b : List ℕ). slice_get (b ++ bytes) 0 ≡ Some 254) h.1 k.0))
enough_more (x ∷ all) kept bytes next (inr h) (inr k) =
    inr (h.0, k.1 ∙ (ap (λ (b : List ℕ). take (text_limit + 1) (b ++ bytes)) h.1 ∙ take_front (text_limit + 1) (x ∷ all) bytes))

-- What is kept is all; or the input is no state, and too long for a text, and so is what is kept.
whole_or_long : (all kept : List ℕ) → IsEnoughOf all kept
    → (kept ≡ all) ⊎ ((slice_get all 0 ≢ Some 254) × (slice_get kept 0 ≢ Some 254) × (text_limit < length kept) × (text_limit < length all))
whole_or_long all kept (inl h) = inl h.1
whole_or_long all kept (inr h) = go (nat_le (length all) text_limit) refl
  where
    begins_as : (xs : List ℕ) → slice_get (take (text_limit + 1) xs) 0 ≡ slice_get xs 0
    begins_as [] = refl
    begins_as (x ∷ xs) = refl

    long : length kept ≡ min (text_limit + 1) (length all)
    long = ap (λ (b : List ℕ). length b) h.1 ∙ length-take (text_limit + 1) all

    go : (t : Bool) → nat_le (length all) text_limit ≡ t
        → (kept ≡ all) ⊎ ((slice_get all 0 ≢ Some 254) × (slice_get kept 0 ≢ Some 254) × (text_limit < length kept) × (text_limit < length all))
    go true is = inl (h.1 ∙ take_all (text_limit + 1) all (omega (arith, leb-true (length all) text_limit is)))
    go false is = inr (
      h.0,
      (λ e. h.0 (sym (begins_as all) ∙ subst (λ (b : List ℕ). slice_get b 0 ≡ Some 254) h.1 e)),
      omega (arith, long, leb-false (length all) text_limit is),
      omega (arith, leb-false (length all) text_limit is),
    )

-- where what is kept of a file is a piece that is fine, and no text that is too long is, it is all of the file
pub fine_is_all :
    (IsFine : Piece → Type 0) (known : Option (List ℕ)) (kept : List ℕ) → ((long : List ℕ) → text_limit < length long → IsFine (text long) → ⊥)
    → IsAllRead (λ all. IsEnoughOf all kept) known → (piece : Piece) → IsFilePiece kept piece → IsFine piece → AreAll known kept
fine_is_all IsFine known kept none h piece is fine = go (whole_or_long h.0 kept h.2) is
  where
    go : (kept ≡ h.0) ⊎ ((slice_get h.0 0 ≢ Some 254) × (slice_get kept 0 ≢ Some 254) × (text_limit < length kept) × (text_limit < length h.0))
        → IsFilePiece kept piece → AreAll known kept
    go (inl same) is = subst (AreAll known) (sym same) h.1
    go (inr long) (inl is) = absurd (long.1 is.0)
    go (inr long) (inr is) = absurd (none kept long.2 (subst IsFine is.1 fine))

-- where what is kept of a file is refused, so is the file, where all texts that are too long are for the same reason
pub refused_is_all :
    (IsReason : Piece → Refusal → Type 0) (known : Option (List ℕ)) (kept : List ℕ) (number : ℕ) (stop : RunError)
    → ((long other : List ℕ) (why : Refusal) → text_limit < length long → text_limit < length other → IsReason (text long) why → IsReason (text other) why)
    → IsAllRead (λ all. IsEnoughOf all kept) known
    → ((piece : Piece) × (why : Refusal) × IsFilePiece kept piece × IsReason piece why × IsRefusedAs why number stop)
    → (all : List ℕ) × AreAll known all × ((piece : Piece) × (why : Refusal) × IsFilePiece all piece × IsReason piece why × IsRefusedAs why number stop)
refused_is_all IsReason known kept number stop alike h fault = go (whole_or_long h.0 kept h.2) fault.2
  where
    Refused : List ℕ → Type 0
    Refused b = (piece : Piece) × (why : Refusal) × IsFilePiece b piece × IsReason piece why × IsRefusedAs why number stop

    go : (kept ≡ h.0) ⊎ ((slice_get h.0 0 ≢ Some 254) × (slice_get kept 0 ≢ Some 254) × (text_limit < length kept) × (text_limit < length h.0))
        → IsFilePiece kept fault.0 → (all : List ℕ) × AreAll known all × Refused all
    go (inl same) is = (h.0, h.1, subst Refused same fault)
    go (inr long) (inl is) = absurd (long.1 is.0)
    go (inr long) (inr is) =
        (h.0, h.1, (text h.0, fault.1, inr (long.0, refl), alike kept h.0 fault.1 long.2 long.3 (subst (λ (p : Piece). IsReason p fault.1) is.1 fault.3), fault.4))

-- a text that is too long is refused as such, whatever it says
pub long_fault : (long other : List ℕ) (why : Refusal) → text_limit < length long → text_limit < length other → IsByteFault long why → IsByteFault other why
long_fault long other why a b (inl h) = inl (b, h.1)
long_fault long other why a b (inr h) = absurd (omega (arith, a, h.0))

pub long_refusal : (long other : List ℕ) (why : Refusal) → text_limit < length long → text_limit < length other → IsTextInputRefusal long why → IsTextInputRefusal other why
long_refusal long other why a b (inl h) = inl (long_fault long other why a b h)
long_refusal long other why a b (inr h) = absurd (omega (arith, a, h.0.0))

-- no text that is too long is legal, or can be sent
pub long_is_illegal : (long : List ℕ) → text_limit < length long → language.IsLegal long → ⊥
long_is_illegal long a h = absurd (omega (arith, a, lexed_short long h.1.words h.1.lexed))

pub long_is_unsent : (long : List ℕ) → text_limit < length long → IsTextInput long → ⊥
long_is_unsent long a h = absurd (omega (arith, a, h.0))

-- a text that is accepted and enough of a file is all of it
pub text_accepted :
    (bytes kept : List ℕ) (old new : Table) → slice_get bytes 0 ≢ Some 254 → IsEnoughOf bytes kept → language.IsLegal kept
    → AddsRefusals old (language.text_refuses kept) new → Accepts bytes old new
text_accepted bytes kept old new first enough legal adds = go (whole_or_long bytes kept enough)
  where
    go : (kept ≡ bytes) ⊎ ((slice_get bytes 0 ≢ Some 254) × (slice_get kept 0 ≢ Some 254) × (text_limit < length kept) × (text_limit < length bytes)) → Accepts bytes old new
    go (inl same) = (
      text bytes,
      inr (first, refl),
      subst language.IsLegal same legal,
      subst (λ (t : List ℕ). AddsRefusals old (language.text_refuses t) new) same adds,
    )
    go (inr long) = absurd (long_is_illegal kept long.2 legal)

-- what enough of a file is refused for as a text the file is
pub text_refused :
    (bytes kept : List ℕ) (number : ℕ) (stop : RunError) → slice_get bytes 0 ≢ Some 254 → IsEnoughOf bytes kept
    → ((why : Refusal) × IsRefusedAs why number stop × IsTextInputRefusal kept why)
    → (piece : Piece) × (why : Refusal) × IsFilePiece bytes piece × IsPieceRefusal piece why × IsRefusedAs why number stop
text_refused bytes kept number stop first enough fault = go (whole_or_long bytes kept enough)
  where
    go : (kept ≡ bytes) ⊎ ((slice_get bytes 0 ≢ Some 254) × (slice_get kept 0 ≢ Some 254) × (text_limit < length kept) × (text_limit < length bytes))
        → (piece : Piece) × (why : Refusal) × IsFilePiece bytes piece × IsPieceRefusal piece why × IsRefusedAs why number stop
    go (inl same) = (text bytes, fault.0, inr (first, refl), subst (λ (t : List ℕ). IsTextInputRefusal t fault.0) same fault.2, fault.1)
    go (inr long) = (text bytes, fault.0, inr (first, refl), long_refusal kept bytes fault.0 long.2 long.3 fault.2, fault.1)
