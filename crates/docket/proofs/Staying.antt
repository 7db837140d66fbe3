-- What stays of a record, its ceiling, and whether anything goes, in the words of lists.
use Rattle.std.proofs.Common.{◌≡◌, ℕ, suc, ◌+◌, ◌%◌, ◌^◌, ◌<◌, ◌≤◌, max, Bool, not, cond, ltb, [], ◌∷◌, length, filter, fold, refl, ap, ◌∙◌, inl, inr, arith}
use Rattle.std.proofs.Math.Nat.{mod-eq_of_lt}
use Rattle.std.proofs.lemmas.Bool.{cases_Bool, lt-ltb}
use Rattle.std.proofs.lemmas.Bool.Decides.{nat_tests}
use Rattle.game.specs.declared.record.Entry.{Entry}
use Rattle.game.specs.Records.{Side, Record, some_var, ceiling}
use Rattle.game.specs.Functions.{kept}

pub kept_filter : (f : ℕ → Bool) (r : Record) → kept f r ≡ filter (λ (e : Entry). f e.variable) r
unfolding kept
kept_filter f [] = refl
kept_filter f (e ∷ r) = ap (λ l. cond (f e.variable) (e ∷ l) l) (kept_filter f r)

-- what folding the levels of the opponent's variables into a ceiling comes to
higher_fold : (S : Side) (a : ℕ) (r : Record) → fold (λ n (e : Entry). cond (S.mine e.variable) n (max n (S.level e.variable))) a r ≡ max a (ceiling S r)
unfolding ceiling
higher_fold S a [] = omega arith
higher_fold S a (e ∷ r) = elim (cases_Bool (S.mine e.variable)) [
  | inl t ↦ rw t (higher_fold S a r)
  | inr t ↦ rw t (omega (arith, higher_fold S (max a (S.level e.variable)) r))
]

pub ceiling_fold : (S : Side) (r : Record) → fold (λ n (e : Entry). cond (S.mine e.variable) n (max n (S.level e.variable))) 0 r ≡ ceiling S r
ceiling_fold S r = omega (arith, higher_fold S 0 r)

-- what counting what stays into a number comes to, where the sum can't wrap
more_fold : (f : ℕ → Bool) (a : ℕ) (r : Record) → a + length r < 2 ^ 64 → fold (λ n (e : Entry). (n + cond (f e.variable) 1 0) % 2 ^ 64) a r ≡ a + length (kept f r)
unfolding kept
more_fold f a [] fits = omega arith
more_fold f a (e ∷ r) fits = elim (cases_Bool (f e.variable)) [
  | inl t ↦ rw t (rw (mod-eq_of_lt {n = a + 1} {m = 2 ^ 64} (omega (arith, fits))) (omega (arith, more_fold f (a + 1) r (omega (arith, fits)))))
  | inr t ↦ rw t (rw (mod-eq_of_lt {n = a + 0} {m = 2 ^ 64} (omega (arith, fits))) (omega (arith, more_fold f (a + 0) r (omega (arith, fits)))))
]

pub kept_fold : (f : ℕ → Bool) (r : Record) → length r < 2 ^ 64 → fold (λ n (e : Entry). (n + cond (f e.variable) 1 0) % 2 ^ 64) 0 r ≡ length (kept f r)
kept_fold f r fits = omega (arith, more_fold f 0 r (omega (arith, fits)))

-- a record gets shorter exactly where a variable goes
kept_short : (f : ℕ → Bool) (r : Record) → length (kept f r) ≤ length r
unfolding kept
kept_short f [] = omega arith
kept_short f (e ∷ r) = let rest = kept_short f r in elim (cases_Bool (f e.variable)) [ inl t ↦ rw t (omega arith) | inr t ↦ rw t (omega arith) ]

one_more : (a b : ℕ) → ltb (suc a) (suc b) ≡ ltb a b
one_more a b = grind (arith, nat_tests)

pub some_goes : (f : ℕ → Bool) (r : Record) → ltb (length (kept (λ x. not (f x)) r)) (length r) ≡ some_var f r
unfolding kept some_var
some_goes f [] = refl
some_goes f (e ∷ r) = elim (cases_Bool (f e.variable)) [
  | inl t ↦ rw t (lt-ltb _ _ (omega (arith, kept_short (λ x. not (f x)) r)))
  | inr t ↦ rw t (one_more (length (kept (λ x. not (f x)) r)) (length r) ∙ some_goes f r)
]
