-- The labels and texts that a row lists are words, where it says what an expression that writes words refuses.
use Rattle.std.proofs.Common.{◌≡◌, ◌↔◌, ◌⊎◌, inl, inr, ⊎_elim, ℕ, ◌+◌, Bool, true, false, not, List, Option, Some, None, refl, sym, ap, ◌∙◌, arith}
use Rattle.std.proofs.lemmas.Bool.{false≢true}
use Rattle.cue_lattice.specs.Path.{Path}
use Rattle.cue_lattice.specs.Question.{allows}
use Rattle.cue_sets.specs.Texts.{is_listed, RefusesText}
use Rattle.cue_sets.specs.TextLaws.{greatest_length, zeros, is_listed-zeros}
use Rattle.cue_row.specs.LabelSets.{RefusesLabel}
use Rattle.cue_row.specs.ValidRow.{AreWords, AreLabelWords}
use Rattle.cue_row.proofs.MetSets.{word_of, words_of}
use Rattle.cue_scope.specs.Core.{Core}
use Rattle.cue_eval.specs.Refuses.{Refuses}
use Rattle.cue_eval.specs.Words.{words, WritesWords}
use Rattle.cue_eval.proofs.Unwritten.{unwritten_labels}

clash : (b : Bool) → b ≡ true → b ≡ false → ⊥
clash b p q = false≢true (sym q ∙ p)

listed_or_not : (b : Bool) → (b ≡ true) ⊎ (b ≡ false)
listed_or_not true = inl refl
listed_or_not false = inr refl

pub label_words : (c : Core) (path : Path) → WritesWords c → (labels : Option (List (List ℕ))) → ((l : List ℕ) → RefusesLabel labels l ↔ Refuses c path (allows l)) → AreLabelWords labels
label_words c path w None says = tt
label_words c path w (Some ls) says =
    let far : ℕ = greatest_length ls + 1 in
    words_of ls (λ l listed.
    ⊎_elim (λ written. word_of (words c) l w written)
    (λ unwritten. absurd (clash (is_listed ls l) listed ((says l).1 (unwritten_labels c path (zeros far) l unwritten ((says (zeros far)).0 (is_listed-zeros ls far (omega arith)))))))
    (listed_or_not (is_listed (words c) l)))

pub text_words : (ws : List (List ℕ)) → AreWords ws → (set : Bool × List (List ℕ))
    → ((t u : List ℕ) → is_listed ws t ≡ false → is_listed ws u ≡ false → RefusesText set t → RefusesText set u) → AreWords set.1
text_words ws w (false, ts) alike =
    let far : ℕ = greatest_length ts + greatest_length ws + 1 in
    words_of ts (λ t listed.
    ⊎_elim (λ written. word_of ws t w written)
    (λ unwritten. absurd (clash (is_listed ts t) listed (alike (zeros far) t (is_listed-zeros ws far (omega arith)) unwritten (is_listed-zeros ts far (omega arith)))))
    (listed_or_not (is_listed ws t)))
text_words ws w (true, ts) alike =
    let far : ℕ = greatest_length ts + greatest_length ws + 1 in
    words_of ts (λ t listed.
    ⊎_elim (λ written. word_of ws t w written)
    (λ unwritten. absurd (clash (not (is_listed ts (zeros far))) (ap not (is_listed-zeros ts far (omega arith)))
    (alike t (zeros far) unwritten (is_listed-zeros ws far (omega arith)) (ap not listed))))
    (listed_or_not (is_listed ws t)))
