-- What holds of an answer of either kind.
use Rattle.std.proofs.Common.{Result, Ok, Err, OnOk, OnErr}

module _ {T E : Type 0} where
  pub on_ok : (r : Result T E) (P Q : Type 0) → (P → Q) → OnOk r P → OnOk r Q
  on_ok (Ok x) P Q f h = f h
  on_ok (Err e) P Q f h = tt

  pub on_err : (r : Result T E) (P Q : Type 0) → (P → Q) → OnErr r P → OnErr r Q
  on_err (Ok x) P Q f h = tt
  on_err (Err e) P Q f h = f h

  pub either_way : (r : Result T E) (P : Type 0) → OnOk r P → OnErr r P → P
  either_way (Ok x) P ok err = ok
  either_way (Err e) P ok err = err

  pub at_err : (r : Result T E) (P : Type 0) → P → OnErr r P
  at_err (Ok x) P h = tt
  at_err (Err e) P h = h
