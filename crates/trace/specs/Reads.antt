-- What a step of the reader gives.
use Rattle.std.specs.Prelude.{◌≡◌, ◌+◌, ◌≤◌, length, Ok, Err, Result, MatchResult}
use Rattle.refusal.specs.declared.Reason.{Reason}
use Rattle.trace.specs.declared.record.Record.{Record}
use Rattle.trace.specs.declared.reader.Records.{Records}
use Rattle.trace.specs.Format.{record_of}
use Rattle.trace.specs.Said.{said}

pub record Reads (old : Records) (r : Result Record Reason) (new : Records) : Type 0 where
  -- the record at the front of what was left, and the rest is left, at least a header less; or why there is none, and all is left
  pub cases :
      MatchResult r
      (λ it. (record_of old.rest.now ≡ Ok (said it, new.rest.now)) × (length new.rest.now + 4 ≤ length old.rest.now))
      (λ e. (record_of old.rest.now ≡ Err e) × (new.rest.now ≡ old.rest.now))
  -- the trace is as long as before
  pub same : new.len ≡ old.len
