-- What a call ensures, in other terms.
use Rattle.std.proofs.Common.{◌≡◌, Option, Some, None, subst}
use Rattle.std.specs.Prelude.{Result, Ok, Err, OnOk, IfOk, IfSome, IfNone}

pub on_ok : {A E : Type 0} (r : Result A E) (P Q : Type 0) → (P → Q) → OnOk r P → OnOk r Q
on_ok (Ok x) P Q f h = f h
on_ok (Err e) P Q f h = h

-- ---- what may be found
pub found_as : {F E : Type 0} (r : Result (Option F) E) (P Q : F → Type 0) → ((x : F) → P x → Q x) → IfOk r (λ found. IfSome found P) → IfOk r (λ found. IfSome found Q)
found_as (Ok (Some x)) P Q f h = f x h
found_as (Ok None) P Q f h = h
found_as (Err e) P Q f h = h

pub nothing_as : {F E : Type 0} (r : Result (Option F) E) (P Q : Type 0) → (P → Q) → IfOk r (λ found. IfNone found P) → IfOk r (λ found. IfNone found Q)
nothing_as (Ok (Some x)) P Q f h = h
nothing_as (Ok None) P Q f h = f h
nothing_as (Err e) P Q f h = h

pub at_some : {F : Type 0} (found : Option F) (x : F) (P : F → Type 0) → found ≡ Some x → IfSome found P → P x
at_some {F} found x P e h = let Q : Option F → Type 0 = λ o. IfSome o P in subst Q e h

pub at_none : {F : Type 0} (found : Option F) (P : Type 0) → found ≡ None → IfNone found P → P
at_none {F} found P e h = let Q : Option F → Type 0 = λ o. IfNone o P in subst Q e h
