-- Texts that are put together piece by piece.
use Rattle.std.proofs.Common.{◌≡◌, ℕ, ◌+◌, ◌-◌, ◌<◌, ◌≤◌, arith, List, [], ◌∷◌, ◌++◌, length, get_or, take, refl, sym, ap, ◌∙◌}
use Rattle.std.specs.List.{flat_map}
use Rattle.std.proofs.lemmas.List.{append_assoc, append-nil, flat_map_more, take_all, take_more, map_push, map_more}
use Rattle.cue_lattice.specs.Path as paths
use Rattle.cue_lattice.specs.Path.{Path}
use Rattle.cue_row.specs.PathText.{path_dot, step_text, path_text}
use Rattle.cue_table.specs.StepsOfCode.{step_at}
use Rattle.cue_table.specs.declared.step_ref.StepRef.{StepRef}
use Rattle.cue_report.specs.Lines.{report_line_end}
use Rattle.cue_report.specs.Inner.Trail.{dotted_behind, shown_steps}

-- what is written for each element, with that of the next one
pub next_piece : {X : Type 0} (f : X → List ℕ) (xs : List X) (i : ℕ) (x : X) (start before after : List ℕ) → i < length xs → x ≡ get_or xs i x → before ≡ start ++ flat_map f (take i xs) → after ≡ before ++ f x → after ≡ start ++ flat_map f (take (i + 1) xs)
next_piece f xs i x start before after h is so_far now =
    let more : take (i + 1) xs ≡ take i xs ++ x ∷ [] = take_more xs i x h ∙ ap (λ y. take i xs ++ y ∷ []) (sym is) in
    now ∙ ap (λ t. t ++ f x) so_far ∙ flat_map_more f start (take i xs) x ∙ ap (λ ys. start ++ flat_map f ys) (sym more)

-- each for itself
pub listed : {X : Type 0} (xs : List X) → flat_map (λ x. x ∷ []) xs ≡ xs
listed [] = refl
listed (x ∷ xs) = ap (λ ys. x ∷ ys) (listed xs)

-- the path one step further, by the steps above with a dot behind each
pub path_behind : (path : Path) (step : paths.Step) → path_text (path ++ step ∷ []) ≡ flat_map dotted_behind path ++ step_text step
path_behind [] step = refl
path_behind (first ∷ []) step =
    sym (ap (λ t. t ++ step_text step) (append-nil (dotted_behind first)) ∙ append_assoc (step_text first) (path_dot ∷ []) (step_text step))
path_behind (first ∷ next ∷ path) step =
    let rest : List ℕ = flat_map dotted_behind (next ∷ path) in
    ap (λ t. step_text first ++ (path_dot ∷ t)) (path_behind (next ∷ path) step)
    ∙ sym (ap (λ t. t ++ step_text step) (append_assoc (step_text first) (path_dot ∷ []) rest) ∙ append_assoc (step_text first) (path_dot ∷ rest) (step_text step))

-- the end of the line of an element, behind the path of its list
pub element_line : (path : Path) (step : paths.Step) (list why : List ℕ) → list ≡ flat_map dotted_behind path
    → list ++ (step_text step ++ report_line_end why) ≡ path_text (path ++ step ∷ []) ++ report_line_end why
element_line path step list why is =
    ap (λ t. t ++ (step_text step ++ report_line_end why)) is ∙ sym (append_assoc (flat_map dotted_behind path) (step_text step) (report_line_end why))
    ∙ ap (λ t. t ++ report_line_end why) (sym (path_behind path step))

-- the steps above, and the one at the end
pub path_written :
    (steps above : List StepRef) (last : StepRef) (out before after : List ℕ) → steps ≡ above ++ last ∷ [] → before ≡ out ++ flat_map dotted_behind (shown_steps above)
    → after ≡ before ++ step_text (step_at last) → after ≡ out ++ path_text (shown_steps steps)
path_written steps above last out before after is b a =
    let step : paths.Step = step_at last in
    a ∙ ap (λ t. t ++ step_text step) b ∙ append_assoc out (flat_map dotted_behind (shown_steps above)) (step_text step)
    ∙ ap (λ t. out ++ t) (sym (path_behind (shown_steps above) step))
    ∙ ap (λ p. out ++ path_text p) (sym (ap shown_steps is ∙ map_push step_at above last))

-- one step more, with a dot behind it
pub next_above :
    (steps : List StepRef) (i : ℕ) (step : StepRef) (out before middle after : List ℕ) → i < length steps → step ≡ get_or steps i step
    → before ≡ out ++ flat_map dotted_behind (shown_steps (take i steps)) → middle ≡ before ++ step_text (step_at step) → after ≡ middle ++ path_dot ∷ []
    → after ≡ out ++ flat_map dotted_behind (shown_steps (take (i + 1) steps))
next_above steps i step out before middle after h is b m a =
    let text : List ℕ = step_text (step_at step) in
    let last : step_at (get_or steps i step) ≡ step_at step = ap step_at (sym is) in
    a ∙ ap (λ t. t ++ path_dot ∷ []) m ∙ append_assoc before text (path_dot ∷ []) ∙ ap (λ t. t ++ dotted_behind (step_at step)) b
    ∙ flat_map_more dotted_behind out (shown_steps (take i steps)) (step_at step)
    ∙ ap (λ p. out ++ flat_map dotted_behind p) (ap (λ s. shown_steps (take i steps) ++ s ∷ []) (sym last) ∙ sym (map_more step_at steps i step h))

-- pieces written one behind the other
pub three_pieces : (out a b c first second third : List ℕ) → first ≡ out ++ a → second ≡ first ++ b → third ≡ second ++ c → third ≡ out ++ (a ++ (b ++ c))
three_pieces out a b c first second third e f g =
    g ∙ ap (λ t. t ++ c) (f ∙ ap (λ t. t ++ b) e) ∙ append_assoc (out ++ a) b c ∙ append_assoc out a (b ++ c)

pub four_pieces :
    (out a b c d first second third fourth : List ℕ) → first ≡ out ++ a → second ≡ first ++ b → third ≡ second ++ c → fourth ≡ third ++ d
    → fourth ≡ out ++ (a ++ (b ++ (c ++ d)))
four_pieces out a b c d first second third fourth e f g h =
    three_pieces out a b (c ++ d) first second fourth e f (h ∙ ap (λ t. t ++ d) g ∙ append_assoc second c d)

-- all but the last, and the last
pub ends : {X : Type 0} (xs : List X) (last : X) → 0 < length xs → last ≡ get_or xs (length xs - 1) last → xs ≡ take (length xs - 1) xs ++ last ∷ []
ends xs last some is =
    let before : length xs - 1 < length xs = omega arith in
    let all : length xs ≤ length xs - 1 + 1 = omega arith in
    sym (take_all (length xs - 1 + 1) xs all) ∙ take_more xs (length xs - 1) last before ∙ ap (λ y. take (length xs - 1) xs ++ y ∷ []) (sym is)
