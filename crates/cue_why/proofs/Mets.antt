-- Rows that are met one by one, and rows that refuse nothing.
use Rattle.std.proofs.Common.{◌≡◌, ◌↔◌, ◌⊎◌, inl, inr, ⊎_elim, ◌<◌, ◌≤◌, ◌+◌, ℕ, suc, List, [], ◌∷◌, ◌++◌, length, drop, get_or, refl, sym, ap, subst, ◌∙◌, append_assoc, append-nil, arith}
use Rattle.std.specs.List.{AllByRecursion}
use Rattle.std.proofs.lemmas.List.{drop_more, drop_all}
use Rattle.cue_lattice.specs.Path.{Path}
use Rattle.cue_lattice.specs.Question.{Question}
use Rattle.cue_row.specs.Row.{RowRefusesQuestion, RefusesAsked, IsMetRow}
use Rattle.cue_row.specs.Questions.{asked_by_question}
use Rattle.cue_row.specs.declared.parts.RowParts.{RowParts as Row}
use Rattle.cue_row.specs.declared.question.Question as program
use Rattle.cue_policies.proofs.Asking.{asks}
use Rattle.cue_why.specs.Inner.Trails.{TrailRefuses, AreMet, AreFree, IsTrail}

-- ---- whatever is asked
pub free_asked : (row : Row) → ((question : program.Question) → ¬ RefusesAsked row question) → (question : Question) → ¬ RowRefusesQuestion row question
free_asked row free question h = free (asked_by_question question) (subst (RowRefusesQuestion row) (sym (asks question)) h)

pub met_asked : (a b met : Row) → IsMetRow a b met → (question : Question) → RowRefusesQuestion met question ↔ (RowRefusesQuestion a question ⊎ RowRefusesQuestion b question)
met_asked a b met is question =
    let here = is (asked_by_question question) in
    let e = asks question in (
      λ h. ⊎_elim (λ p. inl (subst (RowRefusesQuestion a) e p)) (λ p. inr (subst (RowRefusesQuestion b) e p)) (here.0 (subst (RowRefusesQuestion met) (sym e) h)),
      λ h. subst (RowRefusesQuestion met) e (here.1 (⊎_elim (λ p. inl (subst (RowRefusesQuestion a) (sym e) p)) (λ p. inr (subst (RowRefusesQuestion b) (sym e) p)) h)),
    )

-- ---- two lists, met from the front on
-- the rows so far, and what is met of those that are left, are all
pub record IsMetTo (one other rows : List Row) (i : ℕ) : Type 0 where
  pub then : (tail : List Row) → AreMet RowRefusesQuestion (drop i one) (drop i other) tail → AreMet RowRefusesQuestion one other (rows ++ tail)

pub met_none : (one other rows : List Row) → rows ≡ [] → IsMetTo one other rows 0
met_none one other rows e = record { then = λ tail h. subst (λ rs. AreMet RowRefusesQuestion one other (rs ++ tail)) (sym e) h }

pub met_more : (one other rows new : List Row) (i : ℕ) (a b r : Row) → i < length one → a ≡ get_or one i a → i < length other → b ≡ get_or other i b → IsMetRow a b r → new ≡ rows ++ r ∷ []
    → IsMetTo one other rows i → IsMetTo one other new (i + 1)
met_more one other rows new i a b r p e q f is items so_far = record {
  then = λ tail h.
      let here : AreMet RowRefusesQuestion (a ∷ drop (i + 1) one) (b ∷ drop (i + 1) other) (r ∷ tail) = (r, tail, refl, met_asked a b r is, h) in
      let cut_one : a ∷ drop (i + 1) one ≡ drop i one = ap (λ z. z ∷ drop (i + 1) one) e ∙ sym (drop_more one i a p) in
      let cut_other : b ∷ drop (i + 1) other ≡ drop i other = ap (λ z. z ∷ drop (i + 1) other) f ∙ sym (drop_more other i b q) in
      let there : AreMet RowRefusesQuestion (drop i one) (drop i other) (r ∷ tail) =
      subst (λ xs. AreMet RowRefusesQuestion xs (drop i other) (r ∷ tail)) cut_one (subst (λ ys. AreMet RowRefusesQuestion (a ∷ drop (i + 1) one) ys (r ∷ tail)) cut_other here) in
      let whole : rows ++ (r ∷ tail) ≡ new ++ tail = sym (append_assoc rows (r ∷ []) tail) ∙ ap (λ xs. xs ++ tail) (sym items) in
      subst (AreMet RowRefusesQuestion one other) whole (so_far.then (r ∷ tail) there);
}

pub met_all : (one other rows : List Row) (i : ℕ) → length one ≤ i → IsMetTo one other rows i → AreMet RowRefusesQuestion one other rows
met_all one other rows i done so_far =
    let none : AreMet RowRefusesQuestion (drop i one) (drop i other) [] = subst (λ xs. AreMet RowRefusesQuestion xs (drop i other) []) (sym (drop_all i one done)) refl in
    subst (AreMet RowRefusesQuestion one other) (append-nil rows) (so_far.then [] none)

-- ---- rows that refuse nothing
abbrev pub AllFree : List Row → Type 0
AllFree = AllByRecursion (λ row. (question : Question) → ¬ RowRefusesQuestion row question)

pub free_push : (rows new : List Row) (row : Row) → new ≡ rows ++ row ∷ [] → ((question : program.Question) → ¬ RefusesAsked row question) → AllFree rows → AllFree new
free_push rows new row e free all = subst AllFree (sym e) (push rows all)
  where
    push : (xs : List Row) → AllFree xs → AllFree (xs ++ row ∷ [])
    push [] h = (free_asked row free, tt)
    push (x ∷ xs) h = (h.0, push xs h.1)

pub free_trail : {X : Type 0} (steps : List X) (path : Path) (rows : List Row) → length steps ≡ length path → AreFree RowRefusesQuestion steps rows → IsTrail RowRefusesQuestion (λ place question. ⊥) path rows
free_trail steps path rows e free = record { long = free.long ∙ ap suc e; same = λ place after is question. (λ h. none path place rows question free.free h, λ h. absurd h) }
  where
    none : (path place : Path) (rows : List Row) (question : Question) → AllFree rows → TrailRefuses RowRefusesQuestion path rows place question → ⊥
    none path place [] question all h = h
    none path [] (row ∷ rows) question all h = all.0 question h
    none [] (s ∷ place) (row ∷ rows) question all h = h
    none (first ∷ path) (s ∷ place) (row ∷ rows) question all h = none path place rows question all.1 h.1

pub free_one : (rows new : List Row) (row : Row) → rows ≡ [] → new ≡ rows ++ row ∷ [] → ((question : program.Question) → ¬ RefusesAsked row question) → (length new ≡ 1) × AllFree new
free_one rows new row e items free =
    let one : new ≡ row ∷ [] = items ∙ ap (λ xs. xs ++ row ∷ []) e in
    (ap length one, subst AllFree (sym one) (free_asked row free, tt))

pub free_more : (rows new : List Row) (row : Row) (n : ℕ) → new ≡ rows ++ row ∷ [] → ((question : program.Question) → ¬ RefusesAsked row question) → length rows ≡ n → AllFree rows → (length new ≡ n + 1) × AllFree new
free_more rows new row n items free long all = (ap length items ∙ (let e = snoc_length rows in omega arith), free_push rows new row items free all)
  where
    snoc_length : (xs : List Row) → length (xs ++ row ∷ []) ≡ suc (length xs)
    snoc_length [] = refl
    snoc_length (x ∷ xs) = ap suc (snoc_length xs)
