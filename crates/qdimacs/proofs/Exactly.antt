-- What an answer says of its text. Assumes nothing.
use Rattle.std.proofs.Common.{◌≡◌, ℕ, true, List, is_ok, None, Ok, Err, Result, sym, refl, ap, ◌∙◌, subst}
use Rattle.std.specs.Result.{result_err}
use Rattle.std.proofs.lemmas.Bool.{false≢true}
use Rattle.refusal.specs.declared.Refusal.{Refusal}
use Rattle.formula.specs.Formula.{Formula, well_formed}
use Rattle.formula.proofs.WellFormed.{passes}
use Rattle.qdimacs.specs.Reading.{State, reading, left_formula}
use Rattle.qdimacs.specs.Grammar.{Exact, Writes}
use Rattle.qdimacs.proofs.Accepts.{accepts}
use Rattle.qdimacs.proofs.Leads.{accepted}
use Rattle.qdimacs.proofs.Lists.{no_some}

-- an answer that is no refusal
none_refused : {X : Type 0} (r : Result X Refusal) → is_ok r ≡ true → result_err r ≡ None
none_refused (Ok x) fine = refl
none_refused (Err e) fine = absurd (false≢true fine)

-- what an accepted text leaves is well-formed
pub well_left : {X : Type 0} (text : List ℕ) (r : Result X Refusal) (left : State) → left ≡ (reading text).left → result_err r ≡ (reading text).refusal
    → is_ok r ≡ true → well_formed (left_formula left) ≡ true
well_left text r left is why fine =
    ap (λ (s : State). well_formed (left_formula s)) is ∙ passes _ (accepted text (sym why ∙ none_refused r fine)).formula

-- a text is accepted exactly when it writes a formula, and that formula is then what is left
pub exact : {X : Type 0} (text : List ℕ) (r : Result X Refusal) (left : Formula) → left ≡ left_formula (reading text).left → result_err r ≡ (reading text).refusal → Exact text r left
exact text r left is why = record {
  accepts = λ F w. let both = accepts text F w in (not_refused r (why ∙ both.0), is ∙ both.1);
  accepted = λ fine. subst (Writes text) (sym is) (accepted text (sym why ∙ none_refused r fine));
}
  where
    not_refused : {Y : Type 0} (k : Result Y Refusal) → result_err k ≡ None → is_ok k ≡ true
    not_refused (Ok x) e = refl
    not_refused (Err f) e = absurd (no_some e)
