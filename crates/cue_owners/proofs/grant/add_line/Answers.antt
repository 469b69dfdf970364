use Rattle.std.proofs.Common.{◌≡◌, ◌++◌, ◌∷◌, [], List, ℕ, Bor, map, IsTrue, IfOk, ap, subst, sym, ◌∙◌}
use Rattle.std.proofs.lemmas.List.{append-nil}
use Rattle.cue_owners.specs.Files.{AreRows, rows_of}
use Rattle.cue_owners.specs.Grants.{row_of}
use Rattle.cue_owners.proofs.Rows.{blank_row, full_row, is_blank, is_not_blank}
use Rattle.cue_owners.proofs.grant.add_line.Goals as goal

pub returns-then-is_empty-clause-added : goal.returns-then-is_empty-clause-added
returns-then-is_empty-clause-added c =
    let rows = map row_of c.args.grants.now.items in
    let blank = blank_row c.args.line.now c.in_ok-words.words.items c.in_ok-words.ensures (is_blank c.in_ok-words.words c.is_empty.result c.is_empty.ensures c.if-is_empty.true) in
    λ _. sym (append-nil rows) ∙ ap (λ (r : List (List (List ℕ))). rows ++ r) blank

pub returns-then-is_empty-clause-right : goal.returns-then-is_empty-clause-right
returns-then-is_empty-clause-right c =
    let rows = map row_of c.args.grants.now.items in
    let blank = blank_row c.args.line.now c.in_ok-words.words.items c.in_ok-words.ensures (is_blank c.in_ok-words.words c.is_empty.result c.is_empty.ensures c.if-is_empty.true) in
    λ _ rights. subst AreRows (sym (append-nil rows) ∙ ap (λ (r : List (List (List ℕ))). rows ++ r) blank) rights

pub returns-clause-added : goal.returns-clause-added
returns-clause-added c =
    let rows = map row_of c.args.grants.now.items in
    let full = full_row c.args.line.now c.in_ok-words.words.items c.in_ok-words.ensures (is_not_blank c.in_ok-words.words c.is_empty.result c.is_empty.ensures c.if-is_empty.false) in
    let row : map (λ (w : Bor (List ℕ)). w.now) c.deref.result.now ∷ [] ≡ rows_of (c.args.line.now ∷ []) = ap (λ (ws : List (Bor (List ℕ))). map (λ w. w.now) ws ∷ []) c.deref.ensures.value ∙ full in
    subst (λ (r : List (List (List ℕ))). IfOk c.add_row.result (λ right. IsTrue right → map row_of c.add_row.new.grants.items ≡ rows ++ r)) row c.add_row.ensures.added

pub returns-clause-right : goal.returns-clause-right
returns-clause-right c =
    let rows = map row_of c.args.grants.now.items in
    let full = full_row c.args.line.now c.in_ok-words.words.items c.in_ok-words.ensures (is_not_blank c.in_ok-words.words c.is_empty.result c.is_empty.ensures c.if-is_empty.false) in
    let row : map (λ (w : Bor (List ℕ)). w.now) c.deref.result.now ∷ [] ≡ rows_of (c.args.line.now ∷ []) = ap (λ (ws : List (Bor (List ℕ))). map (λ w. w.now) ws ∷ []) c.deref.ensures.value ∙ full in
    subst (λ (r : List (List (List ℕ))). IfOk c.add_row.result (λ right. IsTrue right → AreRows rows → AreRows (rows ++ r))) row c.add_row.ensures.right

pub returns-clause-wrong : goal.returns-clause-wrong
returns-clause-wrong c =
    let rows = map row_of c.args.grants.now.items in
    let full = full_row c.args.line.now c.in_ok-words.words.items c.in_ok-words.ensures (is_not_blank c.in_ok-words.words c.is_empty.result c.is_empty.ensures c.if-is_empty.false) in
    let row : map (λ (w : Bor (List ℕ)). w.now) c.deref.result.now ∷ [] ≡ rows_of (c.args.line.now ∷ []) = ap (λ (ws : List (Bor (List ℕ))). map (λ w. w.now) ws ∷ []) c.deref.ensures.value ∙ full in
    subst (λ (r : List (List (List ℕ))). IfOk c.add_row.result (λ right. ¬ IsTrue right → ¬ AreRows (rows ++ r))) row c.add_row.ensures.wrong
