-- What close answers is right of every docket that calls lead to.
use Rattle.std.proofs.Common.{◌≡◌, ℕ, true, Result, sym, ap, ◌∙◌, subst}
use Rattle.refusal.specs.declared.Refusal.{Refusal}
use Rattle.formula.specs.Formula.{Formula, well_formed}
use Rattle.formula.proofs.WellFormed.{tested}
use Rattle.game.specs.Grounds.{Ground, KeepsLaw}
use Rattle.calls.specs.Tests.{Told}
use Rattle.calls.specs.Dockets.{Docket, close}
use Rattle.calls.specs.Runs.{Reached}
use Rattle.calls.specs.Assured.{VerdictRight}
use Rattle.calls.proofs.Assured.{verdict_right}

pub closed_right : (F : Formula) (G : Ground) (D : Docket) (r : Result ℕ Refusal) → (r, D) ≡ close F G D
    → well_formed G.formula ≡ true → KeepsLaw G → F ≡ G.formula → Reached G D → VerdictRight G D r
closed_right F G D r is whole law same reached =
    let answer : r ≡ (close G.formula G D).0 = ap (λ (t : Told ℕ Docket). t.0) (is ∙ ap (λ (H : Formula). close H G D) same) in
    subst (VerdictRight G D) (sym answer) (verdict_right G D reached (tested G.formula whole) law)
