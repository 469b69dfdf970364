-- Texts that are read are put together.
use Rattle.std.proofs.Common.{◌≡◌, ℕ, Bool, true, false, List, [], ◌∷◌, ◌++◌, sym, ◌∙◌, subst, subst₂, append_assoc, flat_map}
use Rattle.cue_lex.specs.declared.token.TokenKind.{TokenKind}
use Rattle.print_laws.specs.Kinds.{HasKinds, IsTokenEnd, IsKindRead}
use Rattle.print_laws.specs.Inner.Joining.{Leads, HasTokenEnd, AreRead}

-- two texts in a row, by the whole and by its parts
regrouped : (minus ended : Bool) (a b rest : List ℕ) (x y more : List TokenKind) → HasKinds minus ended (a ++ (b ++ rest)) (x ++ (y ++ more)) → HasKinds minus ended ((a ++ b) ++ rest) ((x ++ y) ++ more)
regrouped minus ended a b rest x y more both = subst₂ (λ t k. HasKinds minus ended t k) (sym (append_assoc a b rest)) (sym (append_assoc x y more)) both

-- a text that leads, and one that leads behind it
pub leads_on : {a b : List ℕ} {x y : List TokenKind} → Leads a x → Leads b y → Leads (a ++ b) (x ++ y)
leads_on {a} {b} {x} {y} first second = record { leads = λ ended rest more after. regrouped false ended a b rest x y more (first.leads ended (b ++ rest) (y ++ more) (second.leads false rest more after)) }

-- a text that leads, and one behind it
pub led : {a b : List ℕ} {x y : List TokenKind} → Leads a x → IsKindRead b y → IsKindRead (a ++ b) (x ++ y)
led {a} {b} {x} {y} first second = record { reads = λ ended rest more stops after. regrouped false ended a b rest x y more (first.leads ended (b ++ rest) (y ++ more) (second.reads false rest more stops after)) }

-- a text, and one behind it that leads on
pub read_then : {a b : List ℕ} {x y : List TokenKind} → HasTokenEnd b → IsKindRead a x → Leads b y → Leads (a ++ b) (x ++ y)
read_then {a} {b} {x} {y} stop first second = record { leads = λ ended rest more after. regrouped false ended a b rest x y more (first.reads ended (b ++ rest) (y ++ more) (stop rest) (second.leads true rest more after)) }

-- a text, and another one behind it
pub read_on : {a b : List ℕ} {x y : List TokenKind} → HasTokenEnd b → IsKindRead a x → IsKindRead b y → IsKindRead (a ++ b) (x ++ y)
read_on {a} {b} {x} {y} stop first second = record { reads = λ ended rest more stops after. regrouped false ended a b rest x y more (first.reads ended (b ++ rest) (y ++ more) (stop rest) (second.reads true rest more stops after)) }

-- Texts with a separator before each of them, in front of a rest that cannot go on.
record IsBehind (text rest : List ℕ) (kinds more : List TokenKind) : Type 0 where
  pub stops : IsTokenEnd (text ++ rest)
  pub has : HasKinds false true (text ++ rest) (kinds ++ more)

behind : {separator : List ℕ} {sign : List TokenKind} → HasTokenEnd separator → Leads separator sign → (texts : List (List ℕ)) (kinds : List (List TokenKind)) → AreRead texts kinds → (rest : List ℕ) (more : List TokenKind) → IsTokenEnd rest → HasKinds false true rest more
    → IsBehind (flat_map (λ text. separator ++ text) texts) rest (flat_map (λ k. sign ++ k) kinds) more
behind stop separates [] [] are rest more stops after = record { stops = stops; has = after }
behind stop separates [] (k ∷ ks) are rest more stops after = absurd are
behind stop separates (t ∷ ts) [] are rest more stops after = absurd are
behind {separator} {sign} stop separates (t ∷ ts) (k ∷ ks) are rest more stops after =
    let others = behind stop separates ts ks are.1 rest more stops after in
    let whole = led separates are.0 in
    let texts = flat_map (λ text. separator ++ text) ts in
    let kinds = flat_map (λ k. sign ++ k) ks in
    record {
      stops = subst IsTokenEnd (sym (append_assoc (separator ++ t) texts rest ∙ append_assoc separator t (texts ++ rest))) (stop (t ++ (texts ++ rest)));
      has = regrouped false true (separator ++ t) texts rest (sign ++ k) kinds more (whole.reads true (texts ++ rest) (kinds ++ more) others.stops others.has);
    }

-- Texts with a separator between each two: a first one, and the others.
pub joined_read : {separator first : List ℕ} {sign k : List TokenKind} (others : List (List ℕ)) (ks : List (List TokenKind)) → HasTokenEnd separator → Leads separator sign → IsKindRead first k → AreRead others ks
    → IsKindRead (first ++ flat_map (λ text. separator ++ text) others) (k ++ flat_map (λ k. sign ++ k) ks)
joined_read {separator} {first} {sign} {k} others ks stop separates reads are = record {
  reads = λ ended rest more stops after.
      let left = behind stop separates others ks are rest more stops after in
      regrouped false ended first (flat_map (λ text. separator ++ text) others) rest k (flat_map (λ k. sign ++ k) ks) more
      (reads.reads ended (flat_map (λ text. separator ++ text) others ++ rest) (flat_map (λ k. sign ++ k) ks ++ more) left.stops left.has);
}

-- the kinds may be told another way
pub read_as : {text : List ℕ} {x y : List TokenKind} → x ≡ y → IsKindRead text x → IsKindRead text y
read_as {text} same is = subst (IsKindRead text) same is

pub leads_as : {text : List ℕ} {x y : List TokenKind} → x ≡ y → Leads text x → Leads text y
leads_as {text} same is = subst (Leads text) same is
