-- A full play that follows the replies meets a leaf.
use Rattle.std.proofs.Common.{◌≡◌, ℕ, zero, suc, ◌<◌, ◌≤◌, Bool, true, false, ◌||◌, List, length, refl, ◌∙◌, subst, inl, inr, arith}
use Rattle.std.proofs.lemmas.Bool.{cases_Bool, and_parts, and_from, and_right, eq-eqb}
use Rattle.game.specs.Records.{Side, found, named, each_var, over, in_tail}
use Rattle.game.specs.Rules.{Origin, Leaf, Resolve, Reduce, Step, origin_of, marks_of, Reduces, Calculus, Allowed, Derivation}
use Rattle.game.specs.Plays.{phase, met, wholly, base_met, ready_by, ready, decides, Lowest, NonePasses, lowest, meets_leaf, reply, Fair, Full, Follows, ParentsIn, Verdict, LeafMet}
use Rattle.game.specs.Theorems.{DownToALeaf, WitnessInWords}
use Rattle.game.proofs.Records.{each_at, each_from}
use Rattle.game.proofs.Lowest.{lowest_cases, lowest_is}
use Rattle.game.proofs.Down.{plain, phase_plain, phase_reduce, allowed, resolve_goes_down}

module _ (S : Side) (C : Calculus) (D : List Step) (ok : Derivation S C D) (v : ℕ → ℕ) where
  reduces : (k : ℕ) → 1 ≤ k → k ≤ length D → (j : ℕ) → origin_of D k ≡ Reduce j → Reduces S D k j (marks_of D k)
  reduces k lo hi j e = subst (λ h. Allowed S C D k h (marks_of D k)) e (ok k lo hi)

  -- a reduce whose record is met has its parent's base met
  base_below : (k : ℕ) → 1 ≤ k → k ≤ length D → (j : ℕ) → origin_of D k ≡ Reduce j → wholly S D v k ≡ true → base_met S D v j ≡ true
  base_below k lo hi j e all = each_from _ (marks_of D j) at
    where
      red : Reduces S D k j (marks_of D k)
      red = reduces k lo hi j e

      at : (y : ℕ) → named (marks_of D j) y ≡ true → (over S (marks_of D j) y || met S D v j y) ≡ true
      at y n = elim (cases_Bool (over S (marks_of D j) y)) [
        | inl o ↦ rw o
        | inr o ↦
            let kept : found (marks_of D k) y ≡ found (marks_of D j) y = red.reduct.rest y ∙ rw o in
            let here : met S D v k y ≡ true = each_at (met S D v k) (marks_of D k) all y (rw kept n) in
            let pk : phase S D v y k ≡ plain (found (marks_of D k) y) (phase S D v y j) = phase_reduce S C D ok v k lo hi y j e in
            let pj : phase S D v y j ≡ plain (found (marks_of D j) y) (phase S D v y j) = phase_plain S C D ok v y j red.there (omega (arith, red)) in
            let it : met S D v j y ≡ true = cc in
            rw (o, it)
      ]

  module _ (fair : Fair S) (among : ℕ → Bool) (u : ℕ) (end : Verdict D among u) (full : Full S v) where
    reach : (k : ℕ) → k ≤ u → k ≤ length D
    reach k hi = let h = end.in_list in omega arith

    -- one step down, given how to go on from any lower one
    step_down : (k : ℕ) → 1 ≤ k → k ≤ u → among k ≡ true → NonePasses (ready S D among v) k → wholly S D v k ≡ true
        → (h : Origin) → origin_of D k ≡ h
        → ((j : ℕ) → 1 ≤ j → j < k → among j ≡ true → wholly S D v j ≡ true → LeafMet S D among u v)
        → LeafMet S D among u v
    step_down k lo hi in' none all Leaf e on =
        record { number = k; low = lo; high = hi; there = in'; a_leaf = e; all_met = all }
    step_down k lo hi in' none all (Resolve p i j) e on =
        let a = allowed S C D ok v k lo (reach k hi) p i j e all in
        let c : ParentsIn among (Resolve p i j) = (rw e at (end.closed k lo hi in')) in
        elim (resolve_goes_down S fair C D ok v full k lo (reach k hi) p i j e all) [
          | inl m ↦ on i a.first_there a.first_before c.0 m.1
          | inr m ↦ on j a.second_there a.second_before c.1 m.1
        ]
    step_down k lo hi in' none all (Reduce j) e on =
        let b : base_met S D v j ≡ true = base_below k lo (reach k hi) j e all in
        let no' : ready S D among v k ≡ false = none k lo (omega arith) in
        let z : ◌≡◌ {A = ℕ} 0 1 = cc in
        absurd (omega arith)

    descend : (b k : ℕ) → k ≤ b → 1 ≤ k → k ≤ u → among k ≡ true → NonePasses (ready S D among v) k → wholly S D v k ≡ true → LeafMet S D among u v
    descend zero k le lo hi in' none all = absurd (omega arith)
    descend (suc b) k le lo hi in' none all =
        step_down k lo hi in' none all (origin_of D k) refl
        (λ j lj hj in'' all'. descend b j (omega arith) lj (omega arith) in'' (λ m lm hm. none m lm (omega arith)) all')

    module _ (follows : Follows S D among u v) where
      -- the lowest ready reduce decides the reply to every variable of its parent's tail
      tail_met : (s : ℕ) → Lowest (ready S D among v) u (suc s) → (j : ℕ) → origin_of D (suc s) ≡ Reduce j
          → (x : ℕ) → in_tail S (marks_of D j) x ≡ true → met S D v j x ≡ true
      tail_met s l j e x t =
          let first : lowest (decides S D among v x) u ≡ suc s = lowest_is _ _ _ (record {
            low = l.low;
            high = l.high;
            passes = and_from _ _ (rw e t) l.passes;
            none_below = λ k lo hi. and_right _ _ (l.none_below k lo hi);
          }) in
          let own : S.mine x ≡ true = (and_parts _ _ (and_parts (named (marks_of D j) x) (over S (marks_of D j) x) t).1).0 in
          let value : v x ≡ (reply S D among u v x).0 = follows x own in
          eq-eqb _ _ (value ∙ rw (first, e))

      -- so that parent is wholly met
      parent_met : (s : ℕ) → Lowest (ready S D among v) u (suc s) → (j : ℕ) → origin_of D (suc s) ≡ Reduce j
          → base_met S D v j ≡ true → wholly S D v j ≡ true
      parent_met s l j e base = each_from _ (marks_of D j) (λ y n. elim (cases_Bool (over S (marks_of D j) y)) [
        | inl o ↦ tail_met s l j e y (and_from _ _ n o)
        | inr o ↦ rw o at (each_at _ (marks_of D j) base y n)
      ])

      -- and from there it goes down to a leaf
      from_reduce : (s : ℕ) → Lowest (ready S D among v) u (suc s)
          → (h : Origin) → origin_of D (suc s) ≡ h → ready_by S D v h ≡ true → LeafMet S D among u v
      from_reduce s l Leaf e r = let z : ◌≡◌ {A = ℕ} 0 1 = cc in absurd (omega arith)
      from_reduce s l (Resolve p i j) e r = let z : ◌≡◌ {A = ℕ} 0 1 = cc in absurd (omega arith)
      from_reduce s l (Reduce j) e r =
          let red : Reduces S D (suc s) j (marks_of D (suc s)) = reduces (suc s) l.low (reach (suc s) l.high) j e in
          let in' : among (suc s) ≡ true = (and_parts (among (suc s)) (ready_by S D v (origin_of D (suc s))) l.passes).0 in
          descend j j (omega arith) red.there (let h = l.high in omega arith) (rw e at (end.closed (suc s) l.low l.high in'))
          (λ m lo hi. l.none_below m lo (omega arith)) (parent_met s l j e r)

      from_lowest : (s : ℕ) → Lowest (ready S D among v) u s → LeafMet S D among u v
      from_lowest zero l = absurd (omega arith)
      from_lowest (suc s) l = from_reduce s l (origin_of D (suc s)) refl (and_parts (among (suc s)) (ready_by S D v (origin_of D (suc s))) l.passes).1

      found_leaf : LeafMet S D among u v
      unfolding each_var
      found_leaf = elim (lowest_cases (ready S D among v) u) [
        | inl z ↦ descend u u (omega arith) end.some_step (omega arith) end.there z.1 (rw end.empty)
        | inr l ↦ from_lowest _ l
      ]

pub down_to_a_leaf : DownToALeaf
down_to_a_leaf S fair C D ok among u end v full follows = found_leaf S C D ok v fair among u end full follows

-- the lowest leaf that is met, given that one is
pub witness_in_words : WitnessInWords
witness_in_words S D among u v l = elim (lowest_cases (meets_leaf S D among v) u) [
  | inl z ↦
      let t : meets_leaf S D among v l.number ≡ false = z.1 l.number l.low l.high in
      let p : meets_leaf S D among v l.number ≡ true = rw (l.a_leaf, l.there, l.all_met) in
      let o : ◌≡◌ {A = ℕ} 0 1 = cc in
      absurd (omega arith)
  | inr s ↦ s
]
