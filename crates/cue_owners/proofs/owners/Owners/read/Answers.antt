use Rattle.std.proofs.Common.{◌≡◌, ◌∷◌, [], inl, inr, List, ℕ, Bor, Vec, Global, map, subst, ap, ◌∙◌}
use Rattle.cue_owners.specs.declared.grant.Grant.{Grant}
use Rattle.cue_owners.specs.Files.{AreRows, IsLone, lines_of, lone_row, rows_of}
use Rattle.cue_owners.specs.Grants.{row_of}
use Rattle.cue_owners.proofs.Rows.{some_is, none_is}
use Rattle.cue_owners.proofs.owners.Owners.read.Goals as goal

pub returns-in-Some-clause-ok : goal.returns-in-Some-clause-ok
returns-in-Some-clause-ok c =
    let P : Vec Grant Global → Type 0 = λ grants. (token : List ℕ) × IsLone token c.args.text.now × (map row_of grants.items ≡ lone_row token ∷ []) in
    inl (some_is c.in_ok-grants.field-0 c.in-Some.grants P c.in-Some.is c.in_ok-grants.ensures.some)

pub returns-clause-ok : goal.returns-clause-ok
returns-clause-ok c =
    let P : Type 0 = (token : List ℕ) → ¬ IsLone token c.args.text.now in
    let several = none_is c.in_ok-grants.field-0 P c.in_default.is c.in_ok-grants.ensures.none in
    let lines : map (λ (l : Bor (List ℕ)). l.now) c.deref.result.now ≡ lines_of c.args.text.now = ap (map (λ (l : Bor (List ℕ)). l.now)) c.deref.ensures.value ∙ c.in_ok-lines.ensures in
    inr (several, subst (λ (ls : List (List ℕ)). AreRows (rows_of ls)) lines c.in_ok-grants-2.ensures.right, c.in_ok-grants-2.ensures.rows ∙ ap rows_of lines, c.in_ok-grants-2.ensures.some)
