-- The lowest number that passes a test.
use Rattle.std.proofs.Common.{◌≡◌, ℕ, zero, suc, ◌≤◌, Bool, false, cond, ◌⊎◌, refl, inl, inr, arith}
use Rattle.std.proofs.lemmas.Bool.{cases_Bool, cases_eq, cases_order}
use Rattle.game.specs.Plays.{lowest, or_else, Lowest, NonePasses}

-- two tests that agree on 1 to n have the same lowest number
pub lowest_same : (f g : ℕ → Bool) (n : ℕ) → ((k : ℕ) → 1 ≤ k → k ≤ n → f k ≡ g k) → lowest f n ≡ lowest g n
unfolding lowest
lowest_same f g zero h = refl
lowest_same f g (suc n) h =
    rw (h (suc n) (omega arith) (omega arith), lowest_same f g n (λ k lo hi. h k lo (omega arith)))

-- it is one of 1 to n, or 0
pub lowest_le : (f : ℕ → Bool) (n : ℕ) → lowest f n ≤ n
unfolding lowest
lowest_le f zero = omega arith
lowest_le f (suc n) = let h : lowest f n ≤ n = lowest_le f n in grind arith

or_first : (a b : ℕ) → 1 ≤ a → or_else a b ≡ a
or_first zero b h = absurd (omega arith)
or_first (suc a) b h = refl

pub lowest_cases : (f : ℕ → Bool) (n : ℕ) → ((lowest f n ≡ 0) × NonePasses f n) ⊎ Lowest f n (lowest f n)
unfolding lowest
lowest_cases f zero = inl (refl, λ k lo hi. absurd (omega arith))
lowest_cases f (suc n) = elim (lowest_cases f n) [
  | inl z ↦ elim (cases_Bool (f (suc n))) [
    | inl t ↦ inr (rw (z.0, t) (record {
      low = omega arith;
      high = omega arith;
      passes = t;
      none_below = λ k lo hi. z.1 k lo (omega arith);
    }))
    | inr t ↦ inl (rw (z.0, t) refl, λ k lo hi. elim (cases_eq k (suc n)) [ inl q ↦ rw q t | inr d ↦ z.1 k lo (omega arith) ])
  ]
  | inr s ↦ inr (rw (or_first (lowest f n) (cond (f (suc n)) (suc n) 0) s.low) (record {
    low = s.low;
    high = omega arith;
    passes = s.passes;
    none_below = s.none_below;
  }))
]

-- there is only one
pub lowest_is : (f : ℕ → Bool) (n s : ℕ) → Lowest f n s → lowest f n ≡ s
lowest_is f n s h = elim (lowest_cases f n) [
  | inl z ↦ let t : f s ≡ false = z.1 s h.low h.high in let p = h.passes in cc
  | inr l ↦ elim (cases_order (lowest f n) s) [
    | inl e ↦ e
    | inr o ↦ elim o [
      | inl b ↦ let t : f (lowest f n) ≡ false = h.none_below _ l.low b in let p = l.passes in cc
      | inr b ↦ let t : f s ≡ false = l.none_below _ h.low b in let p = h.passes in cc
    ]
  ]
]
