-- How a call is told: the tests that it goes through, each with the refusal that it gives, and what it does where all pass.
use Rattle.std.specs.Prelude.{◌≡◌, Bool, true, false, cond, List, [], ◌∷◌, Err, Result}
use Rattle.refusal.specs.declared.Reason.{Reason}
use Rattle.refusal.specs.declared.Layer.{Layer}
use Rattle.refusal.specs.declared.Refusal.{Refusal}

-- the answer of a call, or its refusal, and the state after it
abbrev pub Told : Type 0 → Type 0 → Type 0
Told A State = Result A Refusal × State

-- the refusal of a single call: it has the place 0
abbrev pub refused_by : Layer → Reason → Refusal
refused_by layer reason = record { reason = reason; layer = layer; place = 0 }

-- a condition of a call, and the refusal that is given where it fails
pub record Test : Type 0 where
  pub holds : Bool
  pub refusal : Refusal

abbrev pub test : Bool → Layer → Reason → Test
test holds layer reason = record { holds = holds; refusal = refused_by layer reason }

-- A call: the first test that fails refuses it, and a refused call leaves the state as it was; where all tests pass it is done.
abbrev pub tested : {A State : Type 0} → List Test → State → Told A State → Told A State
tested [] state done = done
tested (t ∷ ts) state done = cond t.holds (tested ts state done) (Err t.refusal, state)

-- every test holds
abbrev pub AllHold : List Test → Type 0
AllHold [] = Unit {0}
AllHold (t ∷ ts) = (t.holds ≡ true) × AllHold ts

-- e is the refusal of the first test that fails
pub data FirstFailing : List Test → Refusal → Type 0 where
  fails : {t : Test} {ts : List Test} → t.holds ≡ false → FirstFailing (t ∷ ts) t.refusal
  passes : {t : Test} {ts : List Test} {e : Refusal} → t.holds ≡ true → FirstFailing ts e → FirstFailing (t ∷ ts) e
