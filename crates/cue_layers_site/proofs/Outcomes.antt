-- What a call ensures that failed, or did not.
use Rattle.std.proofs.Common.{◌≡◌, Result, Ok, Err, OnOk, OnErr, is_ok, is_err, true, false}

pub not_failed : {X E P : Type 0} (r : Result X E) → is_err r ≡ false → OnOk r P → P
not_failed (Ok x) fine p = p
not_failed (Err e) failed p = absurd cc

pub has_failed : {X E P : Type 0} (r : Result X E) → is_err r ≡ true → OnErr r P → P
has_failed (Ok x) fine p = absurd cc
has_failed (Err e) failed p = p

pub took : {X E P : Type 0} (r : Result X E) → is_ok r ≡ true → OnOk r P → P
took (Ok x) fine p = p
took (Err e) failed p = absurd cc

pub refused : {X E P : Type 0} (r : Result X E) → is_ok r ≡ false → OnErr r P → P
refused (Ok x) fine p = absurd cc
refused (Err e) failed p = p

-- what follows of that
pub on_ok : {X E A B : Type 0} (r : Result X E) → (A → B) → OnOk r A → OnOk r B
on_ok (Ok x) f a = f a
on_ok (Err e) f a = tt
