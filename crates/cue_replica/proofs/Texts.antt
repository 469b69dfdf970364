-- Texts have one tree, and legal ones no fault.
use Rattle.std.proofs.Common.{◌≡◌, ◌≢◌, ◌⊎◌, ⊎_elim, ap, sym, ◌∙◌, ◌<◌, inl, inr, ◌≤◌, ℕ, zero, suc, Bool, true, false, List, Ok, Err, refl, subst, length, nat_le, arith}
use Rattle.std.specs.Prelude.{None, if◌then◌else◌}
use Rattle.std.proofs.lemmas.Bool.{leb-true, false≢true}
use Rattle.cue_lattice.specs.Limits.{text_limit, level_limit}
use Rattle.cue_lattice.specs.Question.{Refusals, SameAnswers}
use Rattle.cue_lattice.specs.Refusal.{memory, refusal_at}
use Rattle.cue_lattice.specs.declared.refusal.Kind.{Kind}
use Rattle.cue_lattice.specs.declared.refusal.Kind.TheVariants as kinds
use Rattle.cue_lattice.specs.declared.refusal.Refusal.{Refusal}
use Rattle.cue_lex.specs.declared.token.Token.{Token}
use Rattle.cue_lex.specs.First.{begins_some}
use Rattle.cue_lex.specs.Tokens.{tokens, commas, pieces, text_too_long}
use Rattle.cue_syntax.specs.Grammar.{at_most, IsFileTree}
use Rattle.cue_syntax.specs.Refusals.{FitsRefusal}
use Rattle.cue_syntax.specs.Syntax.{FileTree, Entries}
use Rattle.cue_syntax.proofs.OneTree.{one_tree}
use Rattle.cue_scope.specs.Refusing as checks
use Rattle.cue_eval.specs.Texts as meaning
use Rattle.cue_replica.specs.Texts.{IsTreeOf, IsLegalText, text_refuses, IsTextFault, IsTextRefusedAtOnce}

-- a text has one list of tokens
one_lexing : (text : List ℕ) (a b : List Token) → tokens text ≡ Ok a → tokens text ≡ Ok b → a ≡ b
one_lexing text a b h k = cc

-- a text that has tokens is not too long
pub lexed_short : (text : List ℕ) (words : List Token) → tokens text ≡ Ok words → length text ≤ text_limit
unfolding tokens
lexed_short text words e = go (nat_le (length text) text_limit) refl e
  where
    go : (t : Bool) → nat_le (length text) text_limit ≡ t → (if t then commas None (pieces false 0 0 text) else Err text_too_long) ≡ Ok words → length text ≤ text_limit
    go true is e = leb-true (length text) text_limit is
    go false is e = cc

-- a text that is too long is refused as such
pub long_text : (text : List ℕ) → text_limit < length text → tokens text ≡ Err text_too_long
unfolding tokens
long_text text long = go (nat_le (length text) text_limit) refl
  where
    go : (t : Bool) → nat_le (length text) text_limit ≡ t → (if t then commas None (pieces false 0 0 text) else Err text_too_long) ≡ Err text_too_long
    go true is = absurd (omega (arith, long, leb-true (length text) text_limit is))
    go false is = refl

-- and one tree
pub one_reading : (text : List ℕ) (a b : FileTree) → IsTreeOf text a → IsTreeOf text b → a ≡ b
one_reading text a b h k =
    let words = one_lexing text h.words k.words h.lexed k.lexed in
    one_tree (at_most level_limit) (at_most level_limit) k.words a b (subst (λ (ts : List Token). IsFileTree (at_most level_limit) ts a) words h.spelled) k.spelled

-- a text that passes each check is refused by none
passed : (es : Entries) (kind : Kind) (place : ℕ) → checks.IsLegalTree es → checks.RefusesAs es kind place → ⊥
passed es kinds.Repeated place h r = let e = h.small.scalar.ordered.named.unrepeated in let f = r.is in cc
passed es kinds.UnknownName place h r = let e = h.small.scalar.ordered.named.names in let f = r.1.is in cc
passed es kinds.FieldReference place h r = let e = h.small.scalar.ordered.named.names in let f = r.1.is in cc
passed es kinds.Cycle place h r = h.small.scalar.ordered.acyclic r.1.number r.1.first.reaches
passed es kinds.NotScalar place h r = let e = h.small.scalar.terms in let f = r.1.is in cc
passed es kinds.TooLarge place h r = omega (arith, h.small.size, r.1)
passed es kinds.TooDeep place h r = omega (arith, h.depth, r.1)
passed es kind place h r = r

-- a legal text has no fault
pub no_text_fault : (text : List ℕ) (why : Refusal) → IsLegalText text → IsTextFault text why → ⊥
no_text_fault text why legal (inl fault) = let e = legal.1.lexed in let f = fault.1 in cc
no_text_fault text why legal (inr (inl fault)) =
    let words = one_lexing text legal.1.words fault.0 legal.1.lexed fault.1 in
    fault.2.none legal.0 (subst (λ (ts : List Token). IsFileTree (at_most level_limit) ts legal.0) words legal.1.spelled)
no_text_fault text why legal (inr (inr fault)) =
    let same = one_reading text fault.0 legal.0 fault.1 legal.1 in
    passed legal.0.declarations why.kind why.place legal.2 (subst (λ (t : FileTree). checks.TextRefuses t.declarations why) same fault.2)

-- want of memory fits no tokens
pub memory_unfit : (levels end : ℕ) (words : List Token) → FitsRefusal levels end words memory → ⊥
memory_unfit levels end words fit = fit.fits.told

-- want of memory is no fault of a text
pub memory_no_text_fault : (text : List ℕ) → IsTextFault text memory → ⊥
memory_no_text_fault text (inl fault) = fault.0 refl
memory_no_text_fault text (inr (inl fault)) = memory_unfit _ _ fault.0 fault.2.fits
memory_no_text_fault text (inr (inr fault)) = fault.2

-- what the one tree of a text means is what the text refuses
pub tree_answers :
    (text : List ℕ) (tree : FileTree) (refuses : Refusals) → IsTreeOf text tree
    → SameAnswers refuses (meaning.meaning_refuses tree.declarations) → SameAnswers refuses (text_refuses text)
tree_answers text tree refuses is same path question = (
  λ h. (tree, is, (same path question).0 h),
  λ h.
      let one = one_reading text h.0 tree h.1 is in
      (same path question).1 (subst (λ (t : FileTree). meaning.meaning_refuses t.declarations path question) one h.2),
)

long_not_memory : text_too_long ≢ memory
long_not_memory e = let k = ap (λ (r : Refusal). r.kind) e in cc

-- what is refused at once has a fault
pub text_at_once : (text : List ℕ) → IsTextRefusedAtOnce text → (why : Refusal) × IsTextFault text why
text_at_once text (inl long) = (text_too_long, inl (long_not_memory, long_text text long))
text_at_once text (inr first) = (first.1.0, inl first.1.1)

is_memory : (why : Refusal) → (why ≡ memory) ⊎ (why ≢ memory)
is_memory why = go why.kind why.place where
  go : (kind : Kind) (place : ℕ) → (refusal_at kind place ≡ memory) ⊎ (refusal_at kind place ≢ memory)
  go kinds.Memory zero = inl refl
  go kinds.Memory (suc place) = inr (λ e. let p = ap (λ (r : Refusal). r.place) e in cc)
  go kind place = inr (λ e. let k = ap (λ (r : Refusal). r.kind) e in cc)

-- what the lexer refuses, and where it may want memory
pub lexer_refuses :
    (text : List ℕ) (why : Refusal) → (why ≢ memory → tokens text ≡ Err why) → (text_limit < length text → why ≡ text_too_long)
    → (why ≡ memory → begins_some text ≡ true) → ((why ≡ memory) × ¬ IsTextRefusedAtOnce text) ⊎ IsTextFault text why
lexer_refuses text why found long begins =
    ⊎_elim (λ e. inl (e, ⊎_elim (λ more. long_not_memory (sym (long more) ∙ e)) (λ first. false≢true (sym first.0 ∙ begins e))))
    (λ other. inr (inl (other, found other))) (is_memory why)

-- a text that has tokens is not refused at once
pub lexed_not_at_once : (text : List ℕ) (words : List Token) → tokens text ≡ Ok words → IsTextRefusedAtOnce text → ⊥
lexed_not_at_once text words e (inl long) = omega (arith, long, lexed_short text words e)
lexed_not_at_once text words e (inr first) = let f = first.1.1.1 in cc

-- what the parser refuses, and where it may want memory
pub parser_refuses :
    (text : List ℕ) (words seen : List Token) (end : ℕ) (why : Refusal) → tokens text ≡ Ok words → seen ≡ words → end ≡ length text
    → (why ≡ memory) ⊎ FitsRefusal level_limit end seen why → ((tree : FileTree) → IsFileTree (at_most level_limit) seen tree → why ≡ memory)
    → ((why ≡ memory) × ¬ IsTextRefusedAtOnce text) ⊎ IsTextFault text why
parser_refuses text words seen end why lexed same len (inl m) accepted = inl (m, lexed_not_at_once text words lexed)
parser_refuses text words seen end why lexed same len (inr fits) accepted =
    let unfit : (tree : FileTree) → IsFileTree (at_most level_limit) seen tree → ⊥ =
    λ tree is. memory_unfit level_limit end seen (subst (FitsRefusal level_limit end seen) (accepted tree is) fits) in
    let none : (tree : FileTree) → IsFileTree (at_most level_limit) words tree → ⊥ =
    λ tree is. unfit tree (subst (λ (ts : List Token). IsFileTree (at_most level_limit) ts tree) (sym same) is) in
    let there : FitsRefusal level_limit (length text) words why =
    subst (λ (ts : List Token). FitsRefusal level_limit (length text) ts why) same (subst (λ n. FitsRefusal level_limit n seen why) len fits) in
    inr (inr (inl (words, lexed, record { none = none; fits = there })))

-- what the checks refuse, and where they may want memory
pub checks_refuse :
    (text : List ℕ) (tree : FileTree) (why : Refusal) → IsTreeOf text tree → (why ≡ memory) ⊎ checks.TextRefuses tree.declarations why
    → ((why ≡ memory) × ¬ IsTextRefusedAtOnce text) ⊎ IsTextFault text why
checks_refuse text tree why is (inl m) = inl (m, lexed_not_at_once text is.words is.lexed)
checks_refuse text tree why is (inr fault) = inr (inr (inr (tree, is, fault)))

-- nor is a legal text
pub legal_not_at_once : (text : List ℕ) → IsLegalText text → IsTextRefusedAtOnce text → ⊥
legal_not_at_once text legal first = let fault = text_at_once text first in no_text_fault text fault.0 legal fault.1
