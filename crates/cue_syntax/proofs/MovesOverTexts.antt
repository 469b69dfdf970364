-- How the recogniser goes through the start of a text.
use Rattle.std.proofs.Common.{◌≡◌, ◌∙◌, ap, sym, subst, refl, ℕ, ◌⊎◌, inl, inr, Bool, true, false, List, [], ◌∷◌, take, codes, arith, Some, None}
use Rattle.std.specs.Prelude.{if◌then◌else◌}
use Rattle.std.specs.Cmp.Lexicographic.{bytes_decides}
use Rattle.cue_lex.specs.declared.token.Token.{Token}
use Rattle.cue_lex.specs.declared.token.TokenKind.{TokenKind}
use Rattle.cue_lex.specs.declared.token.TokenKind.TheVariants as kinds
use Rattle.cue_lex.specs.declared.punctuation.Punctuation.TheVariants as points
use Rattle.cue_syntax.specs.Spelling.{SpellsTree, comma_if}
use Rattle.cue_syntax.specs.Grammar.{HidesDefinition}
use Rattle.cue_syntax.specs.Viability.{IsTokenAt, IsSignAt, IsMark}
use Rattle.cue_syntax.specs.Recogniser.{Stack, step_stack, is_word, hides_definition, MovesStack, text, package_word, package_end, entries, more_entries, mark, value}
use Rattle.cue_syntax.proofs.MovesAndStops.{takes, takes_read, moves_then, moves_meet, alike_moves, alike_at, Alike, Halts, HaltsAt, halts_at}
use Rattle.cue_syntax.proofs.MovesOverLiterals.{word_other}

-- a text of no tokens may be read as declarations of the top
pub text_none : {n : ℕ} {a : List Token} → a ≡ [] → MovesStack n (text ∷ []) a (entries true ∷ []) a
text_none {a = a} is = alike_moves a (subst (λ z. Alike (text ∷ []) (entries true ∷ []) z) (sym is) (λ below. refl))

other_step : (k : TokenKind) → ((w : List ℕ) → k ≡ kinds.Name w → ⊥) → (below : Stack) → step_stack (text ∷ below) k ≡ step_stack (entries true ∷ below) k
other_step (kinds.Name w) other below = absurd (other w refl)
other_step _ other below = refl

-- a text that begins with no plain name may be read as declarations of the top
pub text_other : {n : ℕ} {a b : List Token} (t : Token) → a ≡ t ∷ b → ((w : List ℕ) → t.kind ≡ kinds.Name w → ⊥) → MovesStack n (text ∷ []) a (entries true ∷ []) a
text_other t is other = alike_at t is (λ below. other_step t.kind other below)

name_step : (w : List ℕ) → is_word (codes "package") w ≡ false → (below : Stack) → step_stack (text ∷ below) (kinds.Name w) ≡ step_stack (entries true ∷ below) (kinds.Name w)
name_step w other below = rw other refl

-- a text that begins with a name other than `package` may be read as declarations of the top
pub text_name : {n : ℕ} {a b : List Token} {w : List ℕ} (t : Token) → a ≡ t ∷ b → t.kind ≡ kinds.Name w → (w ≡ codes "package" → ⊥) → MovesStack n (text ∷ []) a (entries true ∷ []) a
text_name {w = w} t is kind other =
    alike_at t is (λ below. ap (step_stack (text ∷ below)) kind ∙ name_step w (word_other (codes "package") w other) below ∙ sym (ap (step_stack (entries true ∷ below)) kind))

-- the goal of a text goes through `package` at its start
pub text_package : {n : ℕ} {a b : List Token} {w : List ℕ} (t : Token) → a ≡ t ∷ b → t.kind ≡ kinds.Name w → w ≡ codes "package" → MovesStack n (text ∷ []) a (package_word ∷ []) b
text_package t is kind word = takes t is (λ below. ap (step_stack (text ∷ below)) (kind ∙ ap kinds.Name word)) (omega arith)

label_step : (k : TokenKind) → IsMark k → (below : Stack) → step_stack (package_word ∷ below) k ≡ step_stack (mark ∷ value ∷ more_entries true ∷ below) k
label_step (kinds.Mark points.Colon) is below = refl
label_step (kinds.Mark points.Question) is below = refl
label_step (kinds.Mark points.Exclamation) is below = refl
label_step _ is below = absurd is

label_at : {n : ℕ} (b : List Token) → IsTokenAt IsMark b → MovesStack n (package_word ∷ []) b (mark ∷ value ∷ more_entries true ∷ []) b
label_at [] stands = absurd stands
label_at (t ∷ ts) stands = alike_moves (t ∷ ts) (λ below. label_step t.kind stands below)

-- a text that begins with `package` as a label may be read as declarations of the top
pub text_label : {n : ℕ} {a b : List Token} {w : List ℕ} (t : Token) → a ≡ t ∷ b → t.kind ≡ kinds.Name w → w ≡ codes "package" → IsTokenAt IsMark b → MovesStack n (text ∷ []) a (entries true ∷ []) a
text_label {b = b} t is kind word stands = moves_meet (mark ∷ value ∷ more_entries true ∷ [])
    (moves_then (text_package t is kind word) (label_at b stands)) (takes t is (λ below. ap (step_stack (entries true ∷ below)) kind) (omega arith))

-- the name of a package
-- the goal after `package` goes through a plain name
pub package_name_moves : {n : ℕ} {a b : List Token} {w : List ℕ} (t : Token) → a ≡ t ∷ b → t.kind ≡ kinds.Name w → MovesStack n (package_word ∷ []) a (package_end ∷ []) b
package_name_moves t is kind = takes t is (λ below. ap (step_stack (package_word ∷ below)) kind) (omega arith)

-- a name that begins with `_#` passes the test for such names
pub hides_is : (w : List ℕ) → HidesDefinition w → hides_definition w ≡ true
hides_is [] hides = absurd (let h : 0 ≡ 0x5f = hides.0 in omega arith)
hides_is (x ∷ []) hides = absurd (let h : 0 ≡ 0x23 = hides.1 in omega arith)
hides_is (x ∷ y ∷ w) hides = let a : x ≡ 0x5f = hides.0 in let b : y ≡ 0x23 = hides.1 in rw (a, b) refl

hides_no : (w : List ℕ) (hides : Bool) → hides_definition w ≡ hides → ¬ HidesDefinition w → hides ≡ false
hides_no w false is other = refl
hides_no w true is other = absurd (other (hidden w is))
  where
    hidden : (w : List ℕ) → hides_definition w ≡ true → HidesDefinition w
    hidden [] is = absurd (let e : false ≡ true = is in cc)
    hidden (x ∷ []) is = absurd (let e : 0x5f ∷ 0x23 ∷ [] ≡ x ∷ [] = (bytes_decides (codes "_#") (x ∷ [])).0 is in cc)
    hidden (x ∷ y ∷ w) is =
        let e : 0x5f ∷ 0x23 ∷ [] ≡ x ∷ y ∷ take 0 w = (bytes_decides (codes "_#") (x ∷ y ∷ take 0 w)).0 is in
        let first : x ≡ 0x5f = cc in
        let second : y ≡ 0x23 = cc in
        (first, second)

-- the goal after `package` goes through a hidden name that doesn't begin with `_#`
pub package_hidden_moves : {n : ℕ} {a b : List Token} {w : List ℕ} (t : Token) → a ≡ t ∷ b → t.kind ≡ kinds.Hidden w → ¬ HidesDefinition w → MovesStack n (package_word ∷ []) a (package_end ∷ []) b
package_hidden_moves {w = w} t is kind other =
    takes t is (λ below. ap (step_stack (package_word ∷ below)) kind ∙ ap (λ z. if z then None else Some (package_end ∷ below)) (hides_no w (hides_definition w) refl other)) (omega arith)

-- the goal after `package` halts at a name that begins with `_#`
pub package_hidden_halts : {a b : List Token} {w : List ℕ} (t : Token) → a ≡ t ∷ b → t.kind ≡ kinds.Hidden w → HidesDefinition w → Halts (package_word ∷ []) a
package_hidden_halts {w = w} t is kind hides =
    halts_at t is (λ below closes. ap (step_stack (package_word ∷ below)) kind ∙ ap (λ z. if z then None else Some (package_end ∷ below)) (hides_is w hides))

package_none : (k : TokenKind) → ((w : List ℕ) → k ≡ kinds.Name w → ⊥) → ((w : List ℕ) → k ≡ kinds.Hidden w → ⊥) → ¬ IsMark k → (below : Stack) → step_stack (package_word ∷ below) k ≡ None
package_none (kinds.Name w) name hidden other below = absurd (name w refl)
package_none (kinds.Hidden w) name hidden other below = absurd (hidden w refl)
package_none (kinds.Mark points.Colon) name hidden other below = absurd (other tt)
package_none (kinds.Mark points.Question) name hidden other below = absurd (other tt)
package_none (kinds.Mark points.Exclamation) name hidden other below = absurd (other tt)
package_none _ name hidden other below = refl

-- the goal after `package` halts where neither a name nor the mark of a label stands
pub package_halts : {a b : List Token} (t : Token) → a ≡ t ∷ b → ((w : List ℕ) → t.kind ≡ kinds.Name w → ⊥) → ((w : List ℕ) → t.kind ≡ kinds.Hidden w → ⊥) → ¬ IsTokenAt IsMark a → Halts (package_word ∷ []) a
package_halts t is name hidden other = halts_at t is (λ below closes. package_none t.kind name hidden (subst (λ z. ¬ IsTokenAt IsMark z) is other) below)

-- after the name of a package
pub package_comma : {n : ℕ} {a b : List Token} (comma : Bool) → (comma ≡ true) ⊎ (b ≡ []) → SpellsTree a (comma_if comma) b → MovesStack n (package_end ∷ []) a (entries true ∷ []) b
package_comma true which reads = takes_read reads (λ below. refl) (omega arith)
package_comma {n = n} {a = a} {b = b} false which reads = subst (λ z. MovesStack n (package_end ∷ []) z (entries true ∷ []) b) (sym reads.follows)
    (alike_moves b (subst (λ z. Alike (package_end ∷ []) (entries true ∷ []) z) (sym (none which)) (λ below. refl)))
  where
    none : {b : List Token} → (false ≡ true) ⊎ (b ≡ []) → b ≡ []
    none (inl e) = absurd (let f : false ≡ true = e in cc)
    none (inr e) = e

end_none : (k : TokenKind) → (k ≡ (kinds.Mark points.Comma) → ⊥) → (below : Stack) → step_stack (package_end ∷ below) k ≡ None
end_none (kinds.Mark points.Comma) other below = absurd (other refl)
end_none _ other below = refl

end_at : (a : List Token) → (a ≡ [] → ⊥) → ¬ IsSignAt (kinds.Mark points.Comma) a → HaltsAt (package_end ∷ []) a
end_at [] some lacks = absurd (some refl)
end_at (t ∷ ts) some lacks = λ below closes. end_none t.kind lacks below

-- after the name of a package the goal halts where no comma stands and the text goes on
pub package_end_halts : {a b : List Token} (comma : Bool) → comma ≡ false → SpellsTree a (comma_if comma) b → (comma ≡ false → ¬ IsSignAt (kinds.Mark points.Comma) a) → (b ≡ [] → ⊥) → MovesStack 0 (package_end ∷ []) a (package_end ∷ []) b × Halts (package_end ∷ []) b
package_end_halts true is reads lacks some = absurd (let e : true ≡ false = is in cc)
package_end_halts {a = a} {b = b} false is reads lacks some = (
  subst (λ z. MovesStack 0 (package_end ∷ []) a (package_end ∷ []) z) reads.follows (alike_moves a (same a)),
  record { at = end_at b some (subst (λ z. ¬ IsSignAt (kinds.Mark points.Comma) z) reads.follows (lacks refl)) },
)
  where
    same : (a : List Token) → Alike (package_end ∷ []) (package_end ∷ []) a
    same [] = λ below. refl
    same (t ∷ ts) = λ below. refl
