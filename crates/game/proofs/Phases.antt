-- Phases: the law that they follow, and that they look back.
use Rattle.std.proofs.Common.{◌≡◌, ℕ, zero, suc, ◌<◌, ◌≤◌, Bool, true, List, length, refl, inl, inr, arith}
use Rattle.std.proofs.lemmas.Bool.{cases_eq}
use Rattle.game.specs.Records.{Side, Plus, Minus, Star, Found, absent, has, Record, found}
use Rattle.game.specs.Rules.{Origin, Leaf, Resolve, Reduce, Step, origin_of, marks_of, Merged, neither, first, second, both_plus, both_minus, clash, Calculus, Allowed, Derivation}
use Rattle.game.specs.Plays.{phase, phase_by, phase_within, of_parents, meets, Agree}
use Rattle.game.specs.Theorems.{PhasesLookBack}

module _ (S : Side) (C : Calculus) (D : List Step) where
  -- where two plays agree below y's level, and the phases in the parents agree, so do those of the result
  pub merged_same : (y p : ℕ) (v w : ℕ → ℕ) → Agree S (S.level y) v w
      → {a b c : Found} (f f' g g' : Bool) → f ≡ f' → g ≡ g'
      → Merged (S.mine y) (S.level p < S.level y) a b c → c ≡ has Star
      → of_parents a b (meets S v p true) f g ≡ of_parents a b (meets S w p true) f' g'
  merged_same y p v w same f f' g g' ef eg neither e = refl
  merged_same y p v w same f f' g g' ef eg first e = ef
  merged_same y p v w same f f' g g' ef eg second e = eg
  merged_same y p v w same f f' g g' ef eg both_plus e = cc
  merged_same y p v w same f f' g g' ef eg both_minus e = cc
  merged_same y p v w same f f' g g' ef eg (clash d o h) e = let q : v p ≡ w p = same p h in cc

  -- the same, of a step however it came, where the phases in the earlier steps agree
  by_same : (y : ℕ) (v w : ℕ → ℕ) → Agree S (S.level y) v w
      → (k : ℕ) (h : Origin) (r : Record) → Allowed S C D k h r
      → (f g : ℕ → Bool) → ((j : ℕ) → 1 ≤ j → j < k → f j ≡ g j)
      → (m : Found) → found r y ≡ m
      → phase_by S D v y m h f ≡ phase_by S D w y m h g
  by_same y v w same k h r ok f g eq absent e = refl
  by_same y v w same k h r ok f g eq (has Plus) e = refl
  by_same y v w same k h r ok f g eq (has Minus) e = refl
  by_same y v w same k Leaf r ok f g eq (has Star) e = refl
  by_same y v w same k (Reduce j) r ok f g eq (has Star) e = eq j ok.there ok.before
  by_same y v w same k (Resolve p i j) r ok f g eq (has Star) e =
      let fi : f i ≡ g i = eq i ok.first_there ok.first_before in
      let fj : f j ≡ g j = eq j ok.second_there ok.second_before in
      elim (cases_eq y p) [
        | inl q ↦ let o : found r p ≡ absent = ok.joins.pivot_gone in let z : found r p ≡ has Star = (rw q at e) in cc
        | inr n ↦ merged_same y p v w same (f i) (g i) (f j) (g j) fi fj (ok.joins.others y n) e
      ]

  module _ (ok : Derivation S C D) where
    within_same : (y : ℕ) (v w : ℕ → ℕ) → Agree S (S.level y) v w
        → (n k : ℕ) → 1 ≤ k → k ≤ length D → phase_within S D v y n k ≡ phase_within S D w y n k
    unfolding phase_within
    within_same y v w same zero k lo hi = refl
    within_same y v w same (suc n) k lo hi =
        by_same y v w same k (origin_of D k) (marks_of D k) (ok k lo hi) (phase_within S D v y n) (phase_within S D w y n)
        (λ j lj hj. within_same y v w same n j lj (omega arith)) (found (marks_of D k) y) refl

    -- enough steps looked into give the same phase
    enough : (y : ℕ) (v : ℕ → ℕ) (n m k : ℕ) → 1 ≤ k → k ≤ length D → k ≤ n → k ≤ m → phase_within S D v y n k ≡ phase_within S D v y m k
    unfolding phase_within
    enough y v zero m k lo hi a b = absurd (omega arith)
    enough y v (suc n) zero k lo hi a b = absurd (omega arith)
    enough y v (suc n) (suc m) k lo hi a b =
        by_same y v v (λ z l. refl) k (origin_of D k) (marks_of D k) (ok k lo hi) (phase_within S D v y n) (phase_within S D v y m)
        (λ j lj hj. enough y v n m j lj (omega arith) (omega arith) (omega arith)) (found (marks_of D k) y) refl

    -- the law of phases: a step's, from those of the earlier ones
    pub phase_law : (y : ℕ) (v : ℕ → ℕ) (k : ℕ) → 1 ≤ k → k ≤ length D
        → phase S D v y k ≡ phase_by S D v y (found (marks_of D k) y) (origin_of D k) (phase S D v y)
    unfolding phase phase_within
    phase_law y v zero lo hi = absurd (omega arith)
    phase_law y v (suc k) lo hi =
        by_same y v v (λ z l. refl) (suc k) (origin_of D (suc k)) (marks_of D (suc k)) (ok (suc k) lo hi) (phase_within S D v y k) (phase S D v y)
        (λ j lj hj. enough y v k j j lj (omega arith) (omega arith) (omega arith)) (found (marks_of D (suc k)) y) refl

pub phases_look_back : PhasesLookBack
unfolding phase
phases_look_back S C D ok y v w same k lo hi = within_same S C D ok y v w same k k lo hi
