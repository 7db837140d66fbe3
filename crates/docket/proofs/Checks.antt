-- What comes of a call whose first tests hold, by what a check of its other tests answers.
use Rattle.std.proofs.Common.{◌≡◌, ℕ, List, [], ◌∷◌, ◌++◌, Ok, Err, Result, refl, ◌∙◌, inl, inr, arith}
use Rattle.std.proofs.lemmas.Bool.{cases_Bool}
use Rattle.refusal.specs.declared.Refusal.{Refusal}
use Rattle.calls.specs.Tests.{Told, Test, tested, AllHold}
use Rattle.docket.specs.Checks.{checked}

-- checks one after another
pub checked_on : (us vs : List Test) {u : Unit {0}} → checked us ≡ Ok u → checked (us ++ vs) ≡ checked vs
checked_on [] vs is = refl
checked_on (t ∷ us) vs is = elim (cases_Bool t.holds) [
  | inl h ↦ rw h (checked_on us vs (rw h at is))
  | inr h ↦ let z : ◌≡◌ {A = ℕ} 0 1 = cc in absurd (omega arith)
]

pub checked_out : (us vs : List Test) {e : Refusal} → checked us ≡ Err e → checked (us ++ vs) ≡ Err e
checked_out [] vs is = let z : ◌≡◌ {A = ℕ} 0 1 = cc in absurd (omega arith)
checked_out (t ∷ us) vs is = elim (cases_Bool t.holds) [
  | inl h ↦ rw h (checked_out us vs (rw h at is))
  | inr h ↦ rw h (rw h at is)
]

module _ {A State : Type 0} (s : State) (done : Told A State) where
  -- where it refuses, so does the call
  refuses : (us : List Test) (e : Refusal) → checked us ≡ Err e → (Err e, s) ≡ tested us s done
  refuses [] e is = let z : ◌≡◌ {A = ℕ} 0 1 = cc in absurd (omega arith)
  refuses (t ∷ us) e is = elim (cases_Bool t.holds) [
    | inl h ↦ rw h (refuses us e (rw h at is))
    | inr h ↦ let same : ◌≡◌ {A = Result (Unit {0}) Refusal} (Err t.refusal) (Err e) = rw h at is in rw h cc
  ]

  pub refused : (ts us : List Test) {e : Refusal} {r : Result A Refusal} → AllHold ts → checked us ≡ Err e → r ≡ Err e → (r, s) ≡ tested (ts ++ us) s done
  refused [] us {e} hold is answer = rw answer (refuses us e is)
  refused (t ∷ ts) us hold is answer = rw hold.0 (refused ts us hold.1 is answer)

  -- and where it does not, the call is done
  passes : (us : List Test) {u : Unit {0}} → checked us ≡ Ok u → done ≡ tested us s done
  passes [] is = refl
  passes (t ∷ us) is = elim (cases_Bool t.holds) [
    | inl h ↦ rw h (passes us (rw h at is))
    | inr h ↦ let z : ◌≡◌ {A = ℕ} 0 1 = cc in absurd (omega arith)
  ]

  pub passed : (ts us : List Test) {u : Unit {0}} {answer : Told A State} → AllHold ts → checked us ≡ Ok u → answer ≡ done → answer ≡ tested (ts ++ us) s done
  passed [] us hold is same = same ∙ passes us is
  passed (t ∷ ts) us hold is same = rw hold.0 (passed ts us hold.1 is same)
