-- Elements of a list with what follows them, and what follows them alone.
use Rattle.std.proofs.Common.{◌≡◌, ◌↔◌, ◌⊎◌, inl, inr, ⊎_elim, ℕ, zero, suc, ◌+◌, ◌++◌, refl, sym, ap, ◌∙◌, subst, arith}
use Rattle.std.proofs.lemmas.List.{append_assoc}
use Rattle.cue_lattice.specs.Path.{Path}
use Rattle.cue_lattice.specs.Question.{Question}
use Rattle.cue_scope.specs.Core.{Core, Cores, no_cores, core, Members, Elements, ends, followed_by}
use Rattle.cue_eval.specs.Closing.{OneOfElements}
use Rattle.cue_eval.specs.Refuses.{ElementRefuses, count_of_elements, is_open_list}
use Rattle.cue_eval.specs.Words.{words, words_of_cores, words_of_elements}

-- these elements, and nothing behind them
abbrev pub alone : Cores → Elements
alone cs = followed_by cs ends

pub open_followed : (cs : Cores) (rest : Elements) → is_open_list (followed_by cs rest) ≡ is_open_list rest
open_followed no_cores rest = refl
open_followed (core c cs) rest = open_followed cs rest

pub count_followed : (cs : Cores) (rest : Elements) → count_of_elements (followed_by cs rest) ≡ count_of_elements (alone cs) + count_of_elements rest
count_followed no_cores rest = omega arith
count_followed (core c cs) rest = let more = count_followed cs rest in omega (arith, more)

pub words_followed : (cs : Cores) (rest : Elements) → words_of_elements (followed_by cs rest) ≡ words_of_cores cs ++ words_of_elements rest
words_followed no_cores rest = refl
words_followed (core c cs) rest = ap (λ z. words c ++ z) (words_followed cs rest) ∙ sym (append_assoc (words c) (words_of_cores cs) (words_of_elements rest))

-- what holds of an element, counted from the first one behind these
abbrev pub Behind : Cores → (ℕ → Type 0) → ℕ → Type 0
Behind cs P i = (k : ℕ) × (count_of_elements (alone cs) + k ≡ i) × P k

none_behind : (c : Core) (cs : Cores) (P : ℕ → Type 0) → ¬ Behind (core c cs) P zero
none_behind c cs P (k, e, p) = absurd (omega (arith, e))

behind_next : (c : Core) (cs : Cores) (P : ℕ → Type 0) (i : ℕ) → Behind cs P i ↔ Behind (core c cs) P (suc i)
behind_next c cs P i = (λ h. let e = h.1 in (h.0, omega (arith, e), h.2), λ h. let e = h.1 in (h.0, omega (arith, e), h.2))

behind_none : (P : ℕ → Type 0) (i : ℕ) → P i ↔ (⊥ ⊎ Behind no_cores P i)
behind_none P i = (λ h. inr (i, omega arith, h), λ h. ⊎_elim (λ n. absurd n) (λ g. let same : g.0 ≡ i = let e = g.1 in omega (arith, e) in subst P same g.2) h)

-- what is refused below an index is refused by the element there or by what follows
pub refuses_followed : (cs : Cores) (rest : Elements) (i : ℕ) (path : Path) (question : Question)
    → ElementRefuses (followed_by cs rest) i path question ↔ (ElementRefuses (alone cs) i path question ⊎ Behind cs (λ k. ElementRefuses rest k path question) i)
refuses_followed no_cores rest i path question = behind_none (λ k. ElementRefuses rest k path question) i
refuses_followed (core c cs) rest zero path question =
    (λ h. inl h, λ h. ⊎_elim (λ g. g) (λ g. absurd (none_behind c cs (λ k. ElementRefuses rest k path question) g)) h)
refuses_followed (core c cs) rest (suc i) path question =
    let r = refuses_followed cs rest i path question in
    let b = behind_next c cs (λ k. ElementRefuses rest k path question) i in
    (λ h. ⊎_elim (λ g. inl g) (λ g. inr (b.0 g)) (r.0 h), λ h. r.1 (⊎_elim (λ g. inl g) (λ g. inr (b.1 g)) h))

-- and so with the struct literals
pub does_followed : (own : Members → Type 0) (used : Core → Path → Type 0) (cs : Cores) (rest : Elements) (i : ℕ) (path : Path)
    → OneOfElements own used (followed_by cs rest) i path ↔ (OneOfElements own used (alone cs) i path ⊎ Behind cs (λ k. OneOfElements own used rest k path) i)
does_followed own used no_cores rest i path = behind_none (λ k. OneOfElements own used rest k path) i
does_followed own used (core c cs) rest zero path =
    (λ h. inl h, λ h. ⊎_elim (λ g. g) (λ g. absurd (none_behind c cs (λ k. OneOfElements own used rest k path) g)) h)
does_followed own used (core c cs) rest (suc i) path =
    let r = does_followed own used cs rest i path in
    let b = behind_next c cs (λ k. OneOfElements own used rest k path) i in
    (λ h. ⊎_elim (λ g. inl g) (λ g. inr (b.0 g)) (r.0 h), λ h. r.1 (⊎_elim (λ g. inl g) (λ g. inr (b.1 g)) h))
