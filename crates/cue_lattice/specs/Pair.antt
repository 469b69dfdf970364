-- Two values side by side.
use Rattle.std.specs.Prelude.{◌≡◌, ◌↔◌}
use Rattle.cue_lattice.specs.declared.pair.Pair.{Pair}
use Rattle.cue_lattice.specs.declared.pair.Side.{Side}
use Rattle.cue_lattice.specs.declared.pair.Side.TheVariants.{Left, Right}

-- what a pair refuses, by what its sides refuse: a question goes to one side
abbrev pub pair_refuses : {A B P Q : Type 0} → (A → P → Type 0) → (B → Q → Type 0) → Pair A B
    → Side P Q → Type 0
pair_refuses left right pair (Left question) = left pair.left question
pair_refuses left right pair (Right question) = right pair.right question

-- equal answers are equal values
abbrev pub IsExact : {A Q : Type 0} → (A → Q → Type 0) → (A → Type 0) → Type 0
IsExact {A} {Q} refuses is_value =
    (a b : A) → is_value a → is_value b
    → ((question : Q) → refuses a question ↔ refuses b question) → a ≡ b

-- equal answers are equal pairs, where they are equal values at each side
pub pair_exact :
    {A B P Q : Type 0} (left : A → P → Type 0) (right : B → Q → Type 0) (is_left : A → Type 0)
    (is_right : B → Type 0)
    → IsExact left is_left → IsExact right is_right
    → IsExact (pair_refuses left right)
    (λ (pair : Pair A B). is_left pair.left × is_right pair.right)
pair_exact left right is_left is_right exact_left exact_right a b va vb same =
    let lefts : a.left ≡ b.left = exact_left a.left b.left va.0 vb.0 (λ q. same (Left q)) in
    let rights : a.right ≡ b.right = exact_right a.right b.right va.1 vb.1 (λ q. same (Right q)) in
    λ i. record { left = lefts i; right = rights i }
