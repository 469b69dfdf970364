-- Beside `specs/Pair.antt`: what private clauses and proofs alone cite.
use Rattle.cue_lattice.specs.declared.pair.Pair.{Pair}
use Rattle.cue_lattice.specs.declared.pair.Side.{Side}
use Rattle.cue_lattice.specs.declared.pair.Side.TheVariants.{Left, Right}
use Rattle.cue_lattice.specs.Pair.{pair_refuses}

-- a pair is free where its sides are
pub sides_free :
    {A B P Q : Type 0} (left : A → P → Type 0) (right : B → Q → Type 0) (pair : Pair A B)
    → ((question : P) → ¬ left pair.left question) → ((question : Q) → ¬ right pair.right question)
    → (question : Side P Q) → ¬ pair_refuses left right pair question
sides_free left right pair l r (Left question) = l question
sides_free left right pair l r (Right question) = r question
