-- What the exits of a `?` return.
use Rattle.std.proofs.Common.{◌≡◌, Result, Ok, Err, IfErr, OnOk, Bool, true, false, refl, sym, subst}
use Rattle.std.specs.Prelude.{◌↔◌, IsTrue}
use Rattle.std.specs.Result.{IsErrAnd}

pub err_on : {T E : Type 0} (r : Result T E) (fault : E) (P : E → Type 0) → IsErrAnd r (λ e. e ≡ fault) → P fault → IfErr r P
err_on (Ok x) fault P is p = tt
err_on (Err e) fault P is p = subst P (sym is) p

pub err_as : {T E : Type 0} (r : Result T E) (P Q : E → Type 0) → IsErrAnd r P → ((e : E) → P e → Q e) → IfErr r Q
err_as (Ok x) P Q is f = tt
err_as (Err e) P Q is f = f e is

-- a test that fails
pub fails : {P : Type 0} (r : Bool) → IsTrue r ↔ P → r ≡ false → P → ⊥
fails true h e p = absurd cc
fails false h e p = let t : false ≡ true = h.1 p in absurd cc

-- and one that passes
pub passes : {P : Type 0} (r : Bool) → IsTrue r ↔ P → r ≡ true → P
passes true h e = h.0 refl
passes false h e = absurd cc

pub ok_as : {T E P Q : Type 0} (r : Result T E) → OnOk r P → (P → Q) → OnOk r Q
ok_as (Ok x) h f = f h
ok_as (Err e) h f = tt
