-- What is kept of a table, seen behind a reference.
use Rattle.std.proofs.Common.{◌≡◌, Option, Some, None, Result, Ok, Err, IfOk, Bor, sym, subst}
use Rattle.std.specs.Prelude.{IfSome}
use Rattle.std.specs.Option.{option_copied}

as_copied : {T : Type 0} (P : T → Type 0) (seen : Option (Bor T)) → IfSome (option_copied seen) P → IfSome seen (λ r. P r.now)
as_copied P None holds = tt
as_copied P (Some r) holds = holds

pub behind : {T : Type 0} (P : T → Type 0) (seen : Option (Bor T)) (kept : Option T) → option_copied seen ≡ kept → IfSome kept P → IfSome seen (λ r. P r.now)
behind P seen kept is holds = as_copied P seen (subst (λ o. IfSome o P) (sym is) holds)

-- what is the same once more
pub shared : {T E : Type 0} (P : T → Type 0) (r : Result T E) (x : T) → IfOk r (λ y. y ≡ x) → P x → IfOk r P
shared P (Ok y) x same holds = subst P (sym same) holds
shared P (Err e) x same holds = tt
