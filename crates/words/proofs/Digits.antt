-- A number of i digits stays below ten to the i, and so does one of i + 1 digits. Assumes nothing.
use Rattle.std.proofs.Common.{ℕ, ◌+◌, ◌*◌, ◌^◌, ◌<◌, ◌≤◌, pow-suc, add-one, arith}
use native.Mathlib.Nat.{pow-le-pow_right}

pub tenfold : (i v d : ℕ) → v < 10 ^ i → d < 10 → 10 * v + d < 10 ^ (i + 1)
tenfold i v d low small = rw (add-one, pow-suc) (omega arith)

pub few_tens : (i k : ℕ) → i ≤ k → 10 ^ i ≤ 10 ^ k
few_tens i k h = pow-le-pow_right (omega arith) h
