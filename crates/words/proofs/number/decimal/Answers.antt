use Rattle.std.proofs.Common.{◌+◌, arith}
use Rattle.words.proofs.Digits.{tenfold, few_tens}
use Rattle.words.proofs.number.decimal.Goals as goal

pub overflow_mul-value : goal.overflow_mul-value
overflow_mul-value c = omega (arith, tenfold _ _ 0 c.loop-byte.invariant.1 (omega arith), few_tens (c.loop-byte.byte-index + 1) 9 (omega arith))

pub overflow_add-value : goal.overflow_add-value
overflow_add-value c = omega (arith, c.in_ok-value.ensures.value.1, tenfold _ _ _ c.loop-byte.invariant.1 c.in_ok-value.ensures.value.0, few_tens (c.loop-byte.byte-index + 1) 9 (omega arith))
