-- What follows from one word on results to another.
use Rattle.std.proofs.Common.{Result, Ok, Err, OnOk}

pub on-ok-then : {A E : Type 0} (r : Result A E) (P Q : Type 0) → OnOk r P → (P → Q) → OnOk r Q
on-ok-then (Ok a) P Q p f = f p
on-ok-then (Err e) P Q p f = tt
