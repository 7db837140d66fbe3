-- What comes of a call that goes through tests.
use Rattle.std.proofs.Common.{◌≡◌, ℕ, ◌↔◌, List, [], ◌∷◌, Ok, Err, refl, ap, subst, inl, inr, arith}
use Rattle.std.proofs.lemmas.Bool.{cases_Bool}
use Rattle.refusal.specs.declared.Refusal.{Refusal}
use Rattle.calls.specs.Tests.{Told, Test, tested, AllHold, FirstFailing, fails, passes}
use Rattle.calls.specs.Exact.{RefusesExactly}

-- what holds of the state, and of the state that an accepted call leads to, holds after the call
pub after : {A State : Type 0} (P : State → Type 0) (ts : List Test) (s : State) (done : Told A State)
    → P s → (AllHold ts → P done.1) → P (tested ts s done).1
after P [] s done here more = more tt
after P (t ∷ ts) s done here more = elim (cases_Bool t.holds) [
  | inl h ↦ rw h (after P ts s done here (λ p. more (h, p)))
  | inr h ↦ rw h here
]

-- a call that is answered passed every test
pub passed : {A State : Type 0} (ts : List Test) (s : State) (done : Told A State) (a : A) → (tested ts s done).0 ≡ Ok a → AllHold ts
passed [] s done a h = tt
passed (t ∷ ts) s done a h = elim (cases_Bool t.holds) [
  | inl e ↦ (e, passed ts s done a (rw e at h))
  | inr e ↦ let z : ◌≡◌ {A = ℕ} 0 1 = cc in absurd (omega arith)
]

-- a call that passes every test is done
pub accepted : {A State : Type 0} (ts : List Test) (s : State) (done : Told A State) → AllHold ts → tested ts s done ≡ done
accepted [] s done p = refl
accepted (t ∷ ts) s done p = rw p.0 (accepted ts s done p.1)

-- the first test that fails refuses the call
pub refused : {A State : Type 0} {ts : List Test} {e : Refusal} (s : State) (done : Told A State) → FirstFailing ts e → tested ts s done ≡ (Err e, s)
refused s done (fails h) = rw h
refused s done (passes h f) = rw h (refused s done f)

-- and only so is it refused, where it is answered when done
pub only_refused : {A State : Type 0} (ts : List Test) (s : State) (a : A) (next : State) (e : Refusal)
    → (tested ts s (Ok a, next)).0 ≡ Err e → FirstFailing ts e
only_refused [] s a next e h = let z : ◌≡◌ {A = ℕ} 0 1 = cc in absurd (omega arith)
only_refused (t ∷ ts) s a next e h = elim (cases_Bool t.holds) [
  | inl c ↦ passes c (only_refused ts s a next e (rw c at h))
  | inr c ↦ let q : t.refusal ≡ e = cc in subst (FirstFailing (t ∷ ts)) q (fails c)
]

pub refuses_exactly : {A State : Type 0} (ts : List Test) (s : State) (a : A) (next : State) → RefusesExactly ts s (tested ts s (Ok a, next))
refuses_exactly ts s a next = record { refused = λ e f. refused s (Ok a, next) f; only_so = λ e h. only_refused ts s a next e h }

-- a call that is answered when done is done exactly where every test holds
pub done_exactly : {A State : Type 0} (ts : List Test) (s : State) (a : A) (next : State)
    → (tested ts s (Ok a, next) ≡ (Ok a, next)) ↔ AllHold ts
done_exactly ts s a next = (λ e. passed ts s (Ok a, next) a (ap (λ (t : Told _ _). t.0) e), accepted ts s (Ok a, next))
