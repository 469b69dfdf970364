-- Texts that are put together piece by piece.
use Rattle.std.proofs.Common.{◌≡◌, not, ◌&&◌, ℕ, ◌+◌, ◌<◌, Bool, false, List, [], ◌∷◌, ◌++◌, length, get_or, take, drop, map, sym, ap, ◌∙◌, arith}
use Rattle.std.specs.Char.{is_ascii_digit}
use Rattle.std.specs.List.{flat_map, list_all, join_with_byte}
use Rattle.std.proofs.lemmas.List.{append_assoc, append-nil, flat_map_more, take_more}
use Rattle.cue_lattice.specs.Path.{Path}
use Rattle.cue_row.specs.declared.step.Step.{Step}
use Rattle.cue_row.specs.Steps.{step_of}
use Rattle.cue_row.specs.PathText.{path_dot, is_word_byte, is_bare, step_text, path_text}
use Rattle.cue_row.specs.Inner.PathText.{dot_and_step}

-- what is written for each element, with that of the next one
pub next_piece : {X : Type 0} (f : X → List ℕ) (xs : List X) (i : ℕ) (x : X) (start before after : List ℕ) → i < length xs → x ≡ get_or xs i x → before ≡ start ++ flat_map f (take i xs) → after ≡ before ++ f x → after ≡ start ++ flat_map f (take (i + 1) xs)
next_piece f xs i x start before after h is so_far now =
    let more : take (i + 1) xs ≡ take i xs ++ x ∷ [] = take_more xs i x h ∙ ap (λ y. take i xs ++ y ∷ []) (sym is) in
    now ∙ ap (λ t. t ++ f x) so_far ∙ flat_map_more f start (take i xs) x ∙ ap (λ ys. start ++ flat_map f ys) (sym more)

-- a label that doesn't begin with a digit is bare where each byte may be in one
pub bare_by_bytes : (bytes : List ℕ) (r : Bool) → 0 < length bytes → is_ascii_digit (get_or bytes 0 0) ≡ false → r ≡ list_all is_word_byte bytes → r ≡ is_bare bytes
bare_by_bytes [] r h other e = absurd (omega arith)
bare_by_bytes (b ∷ bs) r h other e = e ∙ ap (λ digit. not digit && list_all is_word_byte (b ∷ bs)) (sym other)

joined : (first : Step) (rest : List Step) → join_with_byte path_dot (step_text (step_of first) ∷ map step_text (map step_of rest)) ≡ step_text (step_of first) ++ flat_map dot_and_step rest
joined first [] = sym (append-nil (step_text (step_of first)))
joined first (next ∷ rest) = ap (λ t. step_text (step_of first) ++ (path_dot ∷ t)) (joined next rest)

-- the first step, and the others with a dot before each
pub path_by_steps : (steps : List Step) (first : Step) (path : Path) (out before after : List ℕ) → map step_of steps ≡ path → 0 < length steps → first ≡ get_or steps 0 first → before ≡ out ++ step_text (step_of first) → after ≡ before ++ flat_map dot_and_step (drop 1 steps) → after ≡ out ++ path_text path
path_by_steps [] first path out before after is h at_first a b = absurd (omega arith)
path_by_steps (step ∷ steps) first path out before after is h at_first a b =
    let start : before ≡ out ++ step_text (step_of step) = a ∙ ap (λ s. out ++ step_text (step_of s)) at_first in
    b ∙ ap (λ t. t ++ flat_map dot_and_step steps) start ∙ append_assoc out (step_text (step_of step)) (flat_map dot_and_step steps)
    ∙ ap (λ t. out ++ t) (sym (joined step steps) ∙ ap path_text is)
