-- Pieces, and entries that stand for them.
use Rattle.std.proofs.Common.{◌≡◌, ◌⊎◌, ℕ, List, [], ◌∷◌, ◌++◌, refl, sym, ap, ◌∙◌, subst, inl, inr, ⊎_elim}
use Rattle.std.specs.List.{AllByRecursion}
use Rattle.cue_lattice.specs.Question.{Refusals, SameAnswers}
use Rattle.cue_lattice.specs.World.{Piece, text, state, piece_refuses, pieces_refuse}
use Rattle.cue_lattice.proofs.OneOf.{one_of-append}
use Rattle.cue_replica.specs.Accepted.{IsAcceptable}
use Rattle.cue_replica.specs.Language.{language}
use Rattle.cue_service.specs.Entries.{piece_of_entry, entry_of, pieces_of, AreEntriesAlike, StandFor}

pub same_trans : (a b c : Refusals) → SameAnswers a b → SameAnswers b c → SameAnswers a c
same_trans a b c first second path question =
    let f = first path question in
    let s = second path question in
    (λ h. s.0 (f.0 h), λ h. f.1 (s.1 h))

pub same_refl : (a : Refusals) → SameAnswers a a
same_refl a path question = (λ h. h, λ h. h)

-- what two lists say together
pub append_refuses : (xs ys : List Piece) → SameAnswers (pieces_refuse language (xs ++ ys)) (λ path question. pieces_refuse language xs path question ⊎ pieces_refuse language ys path question)
append_refuses xs ys path question = one_of-append (λ (piece : Piece). piece_refuses language piece path question) xs ys

pub alike_append : (a b c d : List Piece) → AreEntriesAlike a b → AreEntriesAlike c d → AreEntriesAlike (a ++ c) (b ++ d)
alike_append a b c d first second path question =
    let f = first path question in
    let s = second path question in
    let there = append_refuses a c path question in
    let here = append_refuses b d path question in (
      λ h. here.1 (⊎_elim (λ p. inl (f.0 p)) (λ p. inr (s.0 p)) (there.0 h)),
      λ h. there.1 (⊎_elim (λ p. inl (f.1 p)) (λ p. inr (s.1 p)) (here.0 h)),
    )

pub all_append : {X : Type 0} (P : X → Type 0) (xs ys : List X) → AllByRecursion P xs → AllByRecursion P ys → AllByRecursion P (xs ++ ys)
all_append P [] ys first second = second
all_append P (x ∷ xs) ys first second = (first.0, all_append P xs ys first.1 second)

pub all_front : {X : Type 0} (P : X → Type 0) (xs ys : List X) → AllByRecursion P (xs ++ ys) → AllByRecursion P xs
all_front P [] ys all = tt
all_front P (x ∷ xs) ys all = (all.0, all_front P xs ys all.1)

pub all_back : {X : Type 0} (P : X → Type 0) (xs ys : List X) → AllByRecursion P (xs ++ ys) → AllByRecursion P ys
all_back P [] ys all = all
all_back P (x ∷ xs) ys all = all_back P xs ys all.1

pub pieces_append : (xs ys : List (List ℕ)) → pieces_of (xs ++ ys) ≡ pieces_of xs ++ pieces_of ys
pieces_append [] ys = refl
pieces_append (x ∷ xs) ys = ap (λ (l : List Piece). piece_of_entry x ∷ l) (pieces_append xs ys)

pub read_back : (piece : Piece) → piece_of_entry (entry_of piece) ≡ piece
read_back (text bytes) = refl
read_back (state bytes) = refl

-- one more entry
pub stand_more : (entries : List (List ℕ)) (pieces : List Piece) (piece : Piece) → StandFor entries pieces → IsAcceptable piece → StandFor (entries ++ entry_of piece ∷ []) (pieces ++ piece ∷ [])
stand_more entries pieces piece stand acceptable =
    let is : pieces_of (entries ++ entry_of piece ∷ []) ≡ pieces_of entries ++ piece ∷ [] = pieces_append entries (entry_of piece ∷ []) ∙ ap (λ (p : Piece). pieces_of entries ++ p ∷ []) (read_back piece) in
    record {
      acceptable = subst (AllByRecursion IsAcceptable) (sym is) (all_append IsAcceptable (pieces_of entries) (piece ∷ []) stand.acceptable (acceptable, tt));
      alike = subst (λ (l : List Piece). AreEntriesAlike l (pieces ++ piece ∷ [])) (sym is) (alike_append (pieces_of entries) pieces (piece ∷ []) (piece ∷ []) stand.alike (same_refl (pieces_refuse language (piece ∷ []))));
    }

-- entries that say no more than others that are alike
within : (some more pieces : List Piece) → AreEntriesAlike some pieces → ((path : _) (question : _) → pieces_refuse language more path question → pieces_refuse language pieces path question) → AreEntriesAlike (more ++ some) pieces
within some more pieces alike less path question =
    let a = alike path question in
    let both = append_refuses more some path question in (
      λ h. ⊎_elim (less path question) a.0 (both.0 h),
      λ h. both.1 (inr (a.1 h)),
    )

module _ (spare growing : List (List ℕ)) (pieces : List Piece) (bytes : List ℕ) (all : StandFor (spare ++ growing) pieces)
    (is_state : language.IsState bytes) (alike : AreEntriesAlike (state bytes ∷ []) pieces) where
  fronts : pieces_of (spare ++ growing) ≡ pieces_of spare ++ pieces_of growing
  fronts = pieces_append spare growing

  parts : AllByRecursion IsAcceptable (pieces_of spare ++ pieces_of growing)
  parts = subst (AllByRecursion IsAcceptable) fronts all.acceptable

  together : AreEntriesAlike (pieces_of spare ++ pieces_of growing) pieces
  together = subst (λ (l : List Piece). AreEntriesAlike l pieces) fronts all.alike

  -- a snapshot of all, behind what the spare journal has
  pub snapshot_stands : StandFor (spare ++ (1 ∷ bytes) ∷ []) pieces
  snapshot_stands =
      let is = pieces_append spare ((1 ∷ bytes) ∷ []) in
      record {
        acceptable = subst (AllByRecursion IsAcceptable) (sym is) (all_append IsAcceptable (pieces_of spare) (state bytes ∷ []) (all_front IsAcceptable (pieces_of spare) (pieces_of growing) parts) (is_state, tt));
        alike = subst (λ (l : List Piece). AreEntriesAlike l pieces) (sym is)
            (within (state bytes ∷ []) (pieces_of spare) pieces alike (λ path question h. (together path question).0 ((append_refuses (pieces_of spare) (pieces_of growing) path question).1 (inl h))));
      }

  -- and the same with what the other journal has
  pub both_stand : StandFor ((spare ++ (1 ∷ bytes) ∷ []) ++ growing) pieces
  both_stand =
      let is = pieces_append (spare ++ (1 ∷ bytes) ∷ []) growing in
      record {
        acceptable = subst (AllByRecursion IsAcceptable) (sym is)
            (all_append IsAcceptable (pieces_of (spare ++ (1 ∷ bytes) ∷ [])) (pieces_of growing) snapshot_stands.acceptable (all_back IsAcceptable (pieces_of spare) (pieces_of growing) parts));
        alike = subst (λ (l : List Piece). AreEntriesAlike l pieces) (sym is) said;
      }
    where
      said : AreEntriesAlike (pieces_of (spare ++ (1 ∷ bytes) ∷ []) ++ pieces_of growing) pieces
      said path question =
          let s = snapshot_stands.alike path question in
          let t = together path question in
          let split = append_refuses (pieces_of spare) (pieces_of growing) path question in
          let both = append_refuses (pieces_of (spare ++ (1 ∷ bytes) ∷ [])) (pieces_of growing) path question in (
            λ h. ⊎_elim s.0 (λ g. t.0 (split.1 (inr g))) (both.0 h),
            λ h. both.1 (inl (s.1 h)),
          )
