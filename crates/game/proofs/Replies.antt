-- Replies look back.
use Rattle.std.proofs.Common.{◌≡◌, ℕ, zero, suc, ◌<◌, ◌≤◌, Bool, true, ◌&&◌, ◌||◌, List, length, refl, ap, inl, inr, arith}
use Rattle.std.proofs.lemmas.Bool.{cases_Bool, and_parts}
use Rattle.game.specs.Records.{Side, Record, named, over, in_tail}
use Rattle.game.specs.Rules.{Origin, Leaf, Resolve, Reduce, Step, origin_of, marks_of, Calculus, Allowed, Derivation}
use Rattle.game.specs.Plays.{phase, phase_within, met, base_met, parent, ready_by, decides, lowest, reply_from, Agree}
use Rattle.game.specs.Theorems.{RepliesLookBack}
use Rattle.game.proofs.Records.{each_same, tail_over_base}
use Rattle.game.proofs.Lowest.{lowest_same, lowest_le}
use Rattle.game.proofs.Phases.{phases_look_back}

module _ (S : Side) (C : Calculus) (D : List Step) (ok : Derivation S C D) where
  -- below the level of a tail variable the base is met alike
  base_same : (j : ℕ) → 1 ≤ j → j ≤ length D → (x : ℕ) → over S (marks_of D j) x ≡ true
      → (v w : ℕ → ℕ) → Agree S (S.level x) v w → base_met S D v j ≡ base_met S D w j
  base_same j lo hi x t v w same = each_same _ _ (marks_of D j) at
    where
      at : (y : ℕ) → named (marks_of D j) y ≡ true → (over S (marks_of D j) y || met S D v j y) ≡ (over S (marks_of D j) y || met S D w j y)
      at y n = elim (cases_Bool (over S (marks_of D j) y)) [
        | inl o ↦ rw o
        | inr o ↦
            let below : S.level y < S.level x = tail_over_base S (marks_of D j) x y t n o in
            let value : v y ≡ w y = same y below in
            let ph : phase S D v y j ≡ phase S D w y j = phases_look_back S C D ok y v w (λ z l. same z (omega arith)) j lo hi in
            cc
      ]

  module _ (among : ℕ → Bool) (x : ℕ) (v w : ℕ → ℕ) (same : Agree S (S.level x) v w) where
    by_same : (k : ℕ) (h : Origin) (r : Record) → k ≤ length D → Allowed S C D k h r
        → (in_tail S (marks_of D (parent h)) x && (among k && ready_by S D v h)) ≡ (in_tail S (marks_of D (parent h)) x && (among k && ready_by S D w h))
    by_same k Leaf r hi a = refl
    by_same k (Resolve p i j) r hi a = refl
    by_same k (Reduce j) r hi a = elim (cases_Bool (in_tail S (marks_of D j) x)) [
      | inl t ↦ let e : base_met S D v j ≡ base_met S D w j = base_same j a.there (omega arith) x (and_parts (named (marks_of D j) x) (over S (marks_of D j) x) t).1 v w same in cc
      | inr t ↦ rw t
    ]

    phase_same : (k : ℕ) (h : Origin) (r : Record) → k ≤ length D → Allowed S C D k h r → phase S D v x (parent h) ≡ phase S D w x (parent h)
    unfolding phase phase_within
    phase_same k Leaf r hi a = refl
    phase_same k (Resolve p i j) r hi a = refl
    phase_same k (Reduce j) r hi a = phases_look_back S C D ok x v w same j a.there (omega arith)

    from_same : (s : ℕ) → s ≤ length D → reply_from S D v x s ≡ reply_from S D w x s
    from_same zero hi = refl
    from_same (suc s) hi = ap (λ b. (S.meeting b, suc s)) (phase_same (suc s) (origin_of D (suc s)) (marks_of D (suc s)) hi (ok (suc s) (omega arith) hi))

pub replies_look_back : RepliesLookBack
replies_look_back S C D ok among u in_List x v w same =
    let e : lowest (decides S D among v x) u ≡ lowest (decides S D among w x) u
    = lowest_same _ _ u (λ k lo hi. by_same S C D ok among x v w same k (origin_of D k) (marks_of D k) (omega arith) (ok k lo (omega arith))) in
    rw (← e) (from_same S C D ok among x v w same (lowest (decides S D among v x) u) (omega (arith, lowest_le (decides S D among v x) u)))
