-- The parts of an input that were handed to a site so far.
use Rattle.std.proofs.Common.{◌≡◌, ◌⊎◌, ⊎_elim, inl, inr, ℕ, ◌+◌, ◌-◌, ◌^◌, min, Bool, true, false, Some, None, Option, List, [], ◌∷◌, ◌++◌, length, arith, refl, sym, ap, subst, ◌∙◌}
use Rattle.std.specs.Prelude.{codes}
use Rattle.std.specs.List.{AllByRecursion}
use Rattle.std.specs.Str.{bytes_eq}
use Rattle.std.proofs.lemmas.Slice.Eq.{bytes_eq-Decides}
use Rattle.std.proofs.lemmas.Bool.{both_ways}
use Rattle.std.proofs.lemmas.List.{append_assoc, length-append}
use Rattle.cue_replica.specs.Language.{Table, language}
use Rattle.cue_replica.specs.Replica.{AddsRefusals}
use Rattle.cue_replica.proofs.Accepted.{of_one_text_more}
use Rattle.cue_program.specs.Parts.{lines_of, ArePartsOfText, IsSeparator, IsFirstPart}
use Rattle.cue_program.specs.Inputs.{IsTextInputRefusal}
use Rattle.cue_program.specs.Stops.{IsRefusedAs}
use Rattle.cue_program.specs.inner.Texts.{AreFirstParts, AreTexts, HasTakenParts, IsPartRefused, IsTextRefused}
use Rattle.cue_program.specs.declared.stop.RunError.{RunError}
use Rattle.cue_replica.specs.declared.Refusal.{Refusal}
use Rattle.cue_program.proofs.Lines.{joined}

pub next_part : (bytes part : List ℕ) (after : Option (List ℕ)) → IsFirstPart bytes part after → AreFirstParts bytes (part ∷ []) after
next_part bytes part None h = (h.1, joined bytes ∙ sym h.0)
next_part bytes part (Some rest) h = λ parts are. go parts are
  where
    go : (parts : List (List ℕ)) → ArePartsOfText (lines_of rest) parts → ArePartsOfText (lines_of bytes) (part ∷ parts)
    go [] are = absurd are
    go (next ∷ parts) are = (h.0, lines_of rest, h.1, h.6, h.2, h.3, h.4, are)

pub so_far_more : (bytes rest part : List ℕ) (done : List (List ℕ)) (after : Option (List ℕ)) → AreFirstParts bytes done (Some rest)
    → AreFirstParts rest (part ∷ []) after → AreFirstParts bytes (done ++ part ∷ []) after
so_far_more bytes rest part done None far next = far (part ∷ []) next
so_far_more bytes rest part done (Some after) far next = λ parts are.
    subst (λ (all : List (List ℕ)). ArePartsOfText (lines_of bytes) all) (sym (append_assoc done (part ∷ []) parts)) (far (part ∷ parts) (next parts are))

-- each list of lines has parts
separates : (line : List ℕ) → IsSeparator line ⊎ (IsSeparator line → ⊥)
separates line = go (bytes_eq line (codes "---\n")) (bytes_eq line (codes "---")) refl refl
  where
    go : (t u : Bool) → bytes_eq line (codes "---\n") ≡ t → bytes_eq line (codes "---") ≡ u → IsSeparator line ⊎ (IsSeparator line → ⊥)
    go true u a b = inl (inl ((bytes_eq-Decides line (codes "---\n")).0 a))
    go false true a b = inl (inr ((bytes_eq-Decides line (codes "---")).0 b))
    go false false a b = inr (⊎_elim
        (λ is. both_ways (bytes_eq line (codes "---\n")) a ((bytes_eq-Decides line (codes "---\n")).1 is))
        (λ is. both_ways (bytes_eq line (codes "---")) b ((bytes_eq-Decides line (codes "---")).1 is)))

first_longer : (line : List ℕ) (lines parts : List (List ℕ)) → (IsSeparator line → ⊥) → ArePartsOfText lines parts → (more : List (List ℕ)) × ArePartsOfText (line ∷ lines) more
first_longer line lines [] other are = absurd are
first_longer line lines (part ∷ []) other are = ((line ++ part) ∷ [], ((other, are.0), ap (λ p. line ++ p) are.1))
first_longer line lines (part ∷ next ∷ parts) other are = (
  (line ++ part) ∷ next ∷ parts,
  (line ∷ are.0, are.1, are.2, ap (λ ls. line ∷ ls) are.3, (other, are.4), ap (λ p. line ++ p) are.5, are.6, are.7),
)

first_empty : (line : List ℕ) (lines parts : List (List ℕ)) → IsSeparator line → ArePartsOfText lines parts → ArePartsOfText (line ∷ lines) ([] ∷ parts)
first_empty line lines [] is are = absurd are
first_empty line lines (part ∷ parts) is are = ([], lines, line, refl, tt, refl, is, are)

pub some_parts : (lines : List (List ℕ)) → (parts : List (List ℕ)) × ArePartsOfText lines parts
some_parts [] = ([] ∷ [], (tt, refl))
some_parts (line ∷ lines) =
    let rest = some_parts lines in
    ⊎_elim (λ is. ([] ∷ rest.0, first_empty line lines rest.0 is rest.1)) (λ other. first_longer line lines rest.0 other rest.1) (separates line)

-- the parts from this one on
pub parts_from : (bytes rest part : List ℕ) (done : List (List ℕ)) (after : Option (List ℕ)) → AreFirstParts bytes done (Some rest) → IsFirstPart rest part after
    → (others : List (List ℕ)) × ArePartsOfText (lines_of bytes) (done ++ part ∷ others)
parts_from bytes rest part done None far first = ([], far (part ∷ []) (next_part rest part None first))
parts_from bytes rest part done (Some after) far first =
    let others = some_parts (lines_of after) in
    (others.0, far (part ∷ others.0) (next_part rest part (Some after) first others.0 others.1))

pub counted : (done : List (List ℕ)) (part : List ℕ) (old new : ℕ) → old ≡ min (length done) (2 ^ 64 - 1) → new ≡ min (old + 1) (2 ^ 64 - 1)
    → new ≡ min (length done + 1) (2 ^ 64 - 1)
counted done part old new is next = omega (arith, is, next)

-- a site that adds what the next part refuses has submitted one part more
pub submitted_more :
    (bytes rest part : List ℕ) (old new : Table) (count number : ℕ) (after : Option (List ℕ)) → HasTakenParts bytes old count (Some rest)
    → IsFirstPart rest part after → number ≡ min (count + 1) (2 ^ 64 - 1) → language.IsLegal part → AddsRefusals old (language.text_refuses part) new
    → language.IsValid new → HasTakenParts bytes new number after
submitted_more bytes rest part old new count number after s first next legal adds valid = (
  s.0 ++ part ∷ [],
  of_one_text_more old new s.0 part s.1 legal adds valid,
  so_far_more bytes rest part s.0 after s.2 (next_part rest part after first),
  counted s.0 part count number s.3 next ∙ ap (λ n. min n (2 ^ 64 - 1)) (sym (length-append s.0 (part ∷ []))),
)

-- a site that has submitted each part holds the unification of the parts
pub submitted_all : (bytes : List ℕ) (table : Table) (number : ℕ) → HasTakenParts bytes table number None → AreTexts bytes table
submitted_all bytes table number s = (s.0, s.2, s.1)

-- where the next part is refused, it is the first of the bytes that is
pub part_refused :
    (IsFine : List ℕ → Type 0) (IsReason : List ℕ → Refusal → Type 0) (bytes rest part : List ℕ) (done : List (List ℕ)) (number : ℕ) (after : Option (List ℕ)) (stop : RunError)
    → AllByRecursion IsFine done → AreFirstParts bytes done (Some rest) → IsFirstPart rest part after → number ≡ min (length done + 1) (2 ^ 64 - 1)
    → ((why : Refusal) × IsRefusedAs why number stop × IsReason part why) → IsPartRefused IsFine IsReason bytes stop
part_refused IsFine IsReason bytes rest part done number after stop fine far first at fault =
    let from = parts_from bytes rest part done after far first in
    (done, part, from.0, from.1, fine, (fault.0, subst (λ (n : ℕ). IsRefusedAs fault.0 n stop) at fault.1, fault.2))

-- where the next part is refused, the first refused part of the bytes stops the run
pub submitted_not :
    (bytes rest part : List ℕ) (old : Table) (count number : ℕ) (after : Option (List ℕ)) (stop : RunError) → HasTakenParts bytes old count (Some rest)
    → IsFirstPart rest part after → number ≡ min (count + 1) (2 ^ 64 - 1)
    → ((why : Refusal) × IsRefusedAs why number stop × IsTextInputRefusal part why) → IsTextRefused bytes stop
submitted_not bytes rest part old count number after stop s first next fault =
    part_refused language.IsLegal IsTextInputRefusal bytes rest part s.0 number after stop s.1.0 s.2 first (counted s.0 part count number s.3 next) fault
