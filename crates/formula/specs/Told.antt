-- An answer, together with what is held after it.
use Rattle.std.specs.Prelude.{Ok, Err, Result}

abbrev pub told : {X M R : Type 0} → Result X R → M → Result M R
told (Ok x) m = Ok m
told (Err r) m = Err r
