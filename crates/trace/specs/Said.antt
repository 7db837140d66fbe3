-- What a record of the code says.
use Rattle.std.specs.Prelude.{ℕ, List, Ok, Err, Result}
use Rattle.std.specs.Borrow.{Bor}
use Rattle.refusal.specs.declared.Reason.{Reason}
use Rattle.trace.specs.declared.record.Record.{Record}
use Rattle.trace.specs.declared.record.Record.TheVariants.{Leaf, Resolve, Reduce, End}
use Rattle.trace.specs.Format.{Saying, leaf, resolve, reduce, ending, literals}

abbrev pub said : Record → Saying
said (Leaf bytes) = leaf (literals bytes.now)
said (Resolve p i j) = resolve p i j
said (Reduce i) = reduce i
said End = ending

abbrev pub cut_told : Result (Record × Bor (List ℕ)) Reason → Result (Saying × List ℕ) Reason
cut_told (Ok w) = Ok (said w.0, w.1.now)
cut_told (Err e) = Err e
