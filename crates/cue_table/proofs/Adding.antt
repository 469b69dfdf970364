-- One row alone at its path, and what it adds to a table.
use Rattle.std.specs.Prelude.{OnOk}
use Rattle.std.proofs.Common.{◌≡◌, ◌↔◌, [], ◌∷◌, Some, None, Result, Ok, Err, refl, sym, ap, subst, ◌∙◌, inl, inr, ⊎_elim}
use Rattle.std.specs.declared.cmp.Ordering.{Ordering}
use Rattle.std.specs.declared.cmp.Ordering.TheVariants.{Less, Equal, Greater}
use Rattle.cue_lattice.specs.Path.{Step, step_cmp, Path}
use Rattle.cue_table.specs.Tree.{Tree, none, child, find}
use Rattle.cue_table.specs.Refuses.{TableRefuses}
use Rattle.cue_table.specs.Form.{IsTreeTaken, IsTree}
use Rattle.cue_table.specs.Meet.{IsMet, IsAdded}
use Rattle.cue_table.specs.Inner.Meet.{chain}
use Rattle.cue_table.proofs.Order.{equal_steps}
use Rattle.cue_table.proofs.Finding.{same_step}
use Rattle.cue_table.proofs.Branches.{find_first, find_before, find_past, found_refuses}

module _ {R : Type 0} where
  chain_taken : (path : Path) (row : R) → IsTreeTaken (chain path row)
  chain_taken [] row = tt
  chain_taken (step ∷ path) row = tt

  -- one row alone is in form
  pub chain_form : (P : R → Type 0) (path : Path) (row : R) → P row → IsTree P (chain path row)
  chain_form P [] row h = (h, tt, tt)
  chain_form P (step ∷ path) row h = (tt, (tt, chain_taken path row, chain_form P path row h, tt), tt)

module _ {R Q : Type 0} (refuses : R → Q → Type 0) where
  -- what one row alone refuses at a path that begins with a step
  chain_step :
      (step : Step) (path : Path) (row : R) (next : Step) (at : Path) (question : Q)
      → (TableRefuses refuses (chain path row) at question ↔ ((at ≡ path) × refuses row question)) → (o : Ordering) → step_cmp next step ≡ o
      → TableRefuses refuses (chain (step ∷ path) row) (next ∷ at) question ↔ ((next ∷ at ≡ step ∷ path) × refuses row question)
  chain_step step path row next at question rest Less e = (
    λ k. absurd (found_refuses refuses (find next (child step (chain path row) none)) None (find_before next step (chain path row) none e) at question k),
    λ k. let same : next ≡ step = let h = k.0 in cc in let no : step_cmp step step ≡ Less = subst (λ s. step_cmp s step ≡ Less) same e in let yes = same_step step in cc,
  )
  chain_step step path row next at question rest Greater e = (
    λ k. absurd (found_refuses refuses (find next (child step (chain path row) none)) None (find_past next step (chain path row) none e) at question k),
    λ k. let same : next ≡ step = let h = k.0 in cc in let no : step_cmp step step ≡ Greater = subst (λ s. step_cmp s step ≡ Greater) same e in let yes = same_step step in cc,
  )
  chain_step step path row next at question rest Equal e =
      let same : next ≡ step = equal_steps next step e in
      let found : find next (child step (chain path row) none) ≡ Some (chain path row) = ap (λ s. find s (child step (chain path row) none)) same ∙ find_first step (chain path row) none in (
        λ k. let here = rest.0 (found_refuses refuses (find next (child step (chain path row) none)) (Some (chain path row)) found at question k) in ((λ i. same i ∷ here.0 i), here.1),
        λ k. let tail : at ≡ path = let h = k.0 in cc in found_refuses refuses (Some (chain path row)) (find next (child step (chain path row) none)) (sym found) at question (rest.1 (tail, k.1)),
      )

  -- one row alone refuses at its path what the row refuses
  pub chain_refuses : (path : Path) (row : R) (at : Path) (question : Q) → TableRefuses refuses (chain path row) at question ↔ ((at ≡ path) × refuses row question)
  chain_refuses [] row [] question = (λ k. (refl, k), λ k. k.1)
  chain_refuses [] row (next ∷ at) question = (λ k. absurd k, λ k. let h = k.0 in cc)
  chain_refuses (step ∷ path) row [] question = (λ k. absurd k, λ k. let h = k.0 in cc)
  chain_refuses (step ∷ path) row (next ∷ at) question =
      chain_step step path row next at question (chain_refuses path row at question) (step_cmp next step) refl

  -- a table met with one row alone has the row added
  pub met_added : (old new one : Tree R) (path : Path) (row : R) → one ≡ chain path row → IsMet refuses old one new → IsAdded refuses old path row new
  met_added old new one path row e met at question =
      let all = subst (λ x. IsMet refuses old x new) e met at question in
      let alone = chain_refuses path row at question in
      (λ k. ⊎_elim (λ x. inl x) (λ x. inr (alone.0 x)) (all.0 k), λ k. all.1 (⊎_elim (λ x. inl x) (λ x. inr (alone.1 x)) k))

  -- a free row adds nothing
  pub free_added : (old : Tree R) (path : Path) (row : R) → ((question : Q) → ¬ refuses row question) → IsAdded refuses old path row old
  free_added old path row free at question = (λ k. inl k, ⊎_elim (λ k. k) (λ k. absurd (free question k.1)))

-- the same, where the call succeeds
pub added_ok :
    {R Q A E : Type 0} (refuses : R → Q → Type 0) (r : Result A E) (old new one : Tree R) (path : Path) (row : R) → one ≡ chain path row
    → OnOk r (IsMet refuses old one new) → OnOk r (IsAdded refuses old path row new)
added_ok refuses (Ok x) old new one path row e h = met_added refuses old new one path row e h
added_ok refuses (Err x) old new one path row e h = tt
