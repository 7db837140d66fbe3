use Rattle.std.proofs.Common.{◌≡◌, ◌^◌, ◌<◌, drop}
use Rattle.words.specs.Number.{read_on}
use Rattle.words.proofs.number.decimal.Given as goal

-- the bytes that are left give the answer, after the value so far
abbrev pub invariant-loop-byte : goal.invariant-loop-byte
invariant-loop-byte l = (read_on l.value (drop l.byte-index l.digits) ≡ read_on 0 l.digits) × (l.value < 10 ^ l.byte-index)
