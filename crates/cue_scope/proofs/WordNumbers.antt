-- Words that have a meaning, and their numbers.
use Rattle.std.proofs.Common.{◌≡◌, ℕ, ⊎_elim, Bool, true, false, ◌||◌, cond, Option, None, Some, List, [], ◌∷◌, codes, length, ◌<◌, ◌≤◌, ◌+◌, drop, Vec, Global, set, refl, sym, ap, subst, ◌∙◌, get_or, get_or-set_same, get_or-set_other}
use Rattle.std.specs.Str.{bytes_eq}
use Rattle.std.specs.Option.{option_map}
use Rattle.cue_scope.specs.Named.{named_of}
use Rattle.cue_scope.specs.Words.{close_number, number_of_named, word_number}
use Rattle.cue_scope.specs.declared.named.Named.{Named}
use Rattle.cue_scope.specs.declared.named.Named.TheVariants as variants
use Rattle.cue_syntax.specs.Syntax.{Entry, definition, ellipsis, entries, entry, entry_tree, expression, field}
use Rattle.cue_syntax.specs.declared.tree.Declaration.{Declaration}
use Rattle.cue_syntax.specs.declared.tree.Declaration.TheVariants as declarations
use Rattle.cue_syntax.specs.declared.tree.Expr.{Expr}
use Rattle.cue_syntax.specs.declared.tree.Label.{Label}
use Rattle.cue_syntax.proofs.Views.{view-Definition, view-Ellipsis, view-Field}
use Rattle.cue_scope.proofs.Walking.{at_hand}
use Rattle.std.proofs.lemmas.List.{drop_all}
use Rattle.cue_scope.specs.Names.{has_label, is_unquoted}
use Rattle.cue_scope.proofs.Numbers.{told}

-- the word of a number
word_of : ℕ → List ℕ
word_of number =
    get_or
    (codes "int" ∷ codes "string" ∷ codes "bool" ∷ codes "int8" ∷ codes "uint8" ∷ codes "int16" ∷ codes "uint16" ∷ codes "int32" ∷ codes "uint32" ∷ codes "int64"
    ∷ codes "uint" ∷ codes "close" ∷ [])
    number []

module _ (t : List ℕ) (at : ℕ) where
  is_word : (number : ℕ) → t ≡ word_of number → Some number ≡ Some at → t ≡ word_of at
  is_word number is same = let e : number ≡ at = cc in is ∙ ap word_of e

  named : (x : Named) (rest : Option Named) → option_map number_of_named (cond (bytes_eq t (word_of (number_of_named x))) (Some x) rest) ≡ Some at
      → (option_map number_of_named rest ≡ Some at → t ≡ word_of at) → t ≡ word_of at
  named x rest h more =
      ⊎_elim
      (λ yes. is_word (number_of_named x) yes.1 (subst (λ b. option_map number_of_named (cond b (Some x) rest) ≡ Some at) yes.0 h))
      (λ no. more (subst (λ b. option_map number_of_named (cond b (Some x) rest) ≡ Some at) no.0 h))
      (told t (word_of (number_of_named x)))

  word_is : word_number t ≡ Some at → t ≡ word_of at
  unfolding word_of
  word_is h =
      ⊎_elim
      (λ yes. is_word close_number yes.1 (subst (λ b. cond b (Some close_number) (option_map number_of_named (named_of t)) ≡ Some at) yes.0 h))
      (λ no. named variants.Int _ (subst (λ b. cond b (Some close_number) (option_map number_of_named (named_of t)) ≡ Some at) no.0 h)
      (λ h. named variants.Text _ h (λ h. named variants.Bool _ h (λ h. named variants.Int8 _ h (λ h. named variants.Uint8 _ h (λ h. named variants.Int16 _ h
      (λ h. named variants.Uint16 _ h (λ h. named variants.Int32 _ h (λ h. named variants.Uint32 _ h (λ h. named variants.Int64 _ h (λ h. named variants.Uint _ h
      (λ h. absurd (cc)))))))))))))
      (told t (codes "close"))

-- words of one number are one word
pub same_word : (t u : List ℕ) (number : ℕ) → word_number t ≡ Some number → word_number u ≡ Some number → t ≡ u
same_word t u number h k = word_is t number h ∙ sym (word_is u number k)

-- a word that is noted is hidden, and of the others those that were
pub hides :
    (word : List ℕ) (hidden : List Bool) (number : ℕ) → word_number word ≡ Some number → number < length hidden
    → (t : List ℕ) (at : ℕ) → word_number t ≡ Some at → get_or (set hidden number true) at false ≡ (bytes_eq t word || get_or hidden at false)
hides word hidden number is inside t at here =
    ⊎_elim
    (λ yes. let e : at ≡ number = let both = sym here ∙ ap word_number yes.1 ∙ is in cc in
    ap (λ n. get_or (set hidden number true) n false) e ∙ get_or-set_same hidden number true false inside ∙ sym (ap (λ b. b || get_or hidden at false) yes.0))
    (λ no. get_or-set_other hidden number at true false (λ e. no.1 (same_word t word number (here ∙ ap Some e) is)) ∙ sym (ap (λ b. b || get_or hidden at false) no.0))
    (told t word)

-- a word without a meaning is none that has one
pub hides_none : (word t : List ℕ) (at : ℕ) (b : Bool) → word_number word ≡ None → word_number t ≡ Some at → b ≡ (bytes_eq t word || b)
hides_none word t at b is here =
    ⊎_elim (λ yes. absurd (let both : Some at ≡ None = sym here ∙ ap word_number yes.1 ∙ is in cc)) (λ no. sym (ap (λ x. x || b) no.0)) (told t word)

-- a label more is told beside those before it
or_moves : (a b c : Bool) → ((a || b) || c) ≡ (b || (a || c))
or_moves true true c = refl
or_moves true false c = refl
or_moves false b c = refl

or_none : (b : Bool) → (b || false) ≡ b
or_none true = refl
or_none false = refl

module _ (t : List ℕ) (ds : List Declaration) (i : ℕ) (d : Declaration) (inside : i < length ds) (is : d ≡ get_or ds i d) where
  -- the declaration at hand is the first of those that are left
  stands : (e : Entry) → entry_tree d ≡ e → has_label t (entries (drop i ds)) ≡ has_label t (entry e (entries (drop (i + 1) ds)))
  stands e same =
      ap (λ xs. has_label t (entries xs)) (at_hand ds i d inside is) ∙ ap (λ x. has_label t (entry x (entries (drop (i + 1) ds)))) same

  pub field_labels : (l : Label) (chain : Vec Label Global) (e : Expr) → d ≡ declarations.Field l chain e
      → has_label t (entries (drop i ds)) ≡ (is_unquoted t l.name || has_label t (entries (drop (i + 1) ds)))
  field_labels l chain e same = stands (field l chain.items (expression e)) (ap entry_tree same ∙ view-Field l chain e)

  pub ellipsis_labels : d ≡ declarations.Ellipsis → has_label t (entries (drop i ds)) ≡ has_label t (entries (drop (i + 1) ds))
  ellipsis_labels same = stands ellipsis (ap entry_tree same ∙ view-Ellipsis)

  pub definition_labels : (n : List ℕ) (from : ℕ) (chain : Vec Label Global) (e : Expr) → d ≡ declarations.Definition n from chain e
      → has_label t (entries (drop i ds)) ≡ has_label t (entries (drop (i + 1) ds))
  definition_labels n from chain e same = stands (definition n from chain.items (expression e)) (ap entry_tree same ∙ view-Definition n from chain e)

-- the flag of a word after the labels before, and the labels that are left, tell whether it is hidden
pub hidden_more : (old new own left rest all : Bool) → (old || left) ≡ all → new ≡ (own || old) → left ≡ (own || rest) → (new || rest) ≡ all
hidden_more old new own left rest all h n l = ap (λ x. x || rest) n ∙ or_moves own old rest ∙ ap (λ x. old || x) (sym l) ∙ h

pub hidden_passed : (old left rest all : Bool) → (old || left) ≡ all → left ≡ rest → (old || rest) ≡ all
hidden_passed old left rest all h l = ap (λ x. old || x) (sym l) ∙ h

pub hidden_all : (t : List ℕ) (ds : List Declaration) (i : ℕ) (b : Bool) → (b || has_label t (entries (drop i ds))) ≡ has_label t (entries ds) → length ds ≤ i → b ≡ has_label t (entries ds)
hidden_all t ds i b h end = sym (or_none b) ∙ ap (λ xs. b || has_label t (entries xs)) (sym (drop_all i ds end)) ∙ h
