-- What holds of a derivation holds on when steps come behind it.
use Rattle.std.proofs.Common.{◌≡◌, ℕ, zero, suc, pred, ◌+◌, ◌<◌, ◌≤◌, Bool, true, false, ◌&&◌, ◌||◌, List, [], ◌∷◌, ◌++◌, length, take, sym, refl, ap, ◌∙◌, subst, inl, inr, arith}
use Rattle.std.proofs.lemmas.Bool.{cases_eq}
use Rattle.std.proofs.lemmas.List.{get_or_append_left, get_or-take, length_push, get_or_push, length-append, length-take-le}
use Rattle.game.specs.Records.{Side, Plus, Minus, Star, Found, absent, has, Record, found, over, in_tail}
use Rattle.game.specs.Rules.{Origin, Leaf, Resolve, Reduce, Step, no_step, step, origin_of, marks_of, Calculus, Allowed, Derivation}
use Rattle.game.specs.Plays.{meets, phase_by, phase_within, phase, met, wholly, base_met, parent, ready_by, decides, is_empty, lowest, lowest_empty, meets_leaf, reply_from, reply, witness}
use Rattle.game.specs.Game.{value, put, Run, begun, chosen, answered}
use Rattle.game.specs.Theorems.{Growth}
use Rattle.game.proofs.Records.{each_same}
use Rattle.game.proofs.Game.{dependence}
use Rattle.game.proofs.Lowest.{lowest_same, lowest_le, lowest_is, lowest_cases}

module _ (S : Side) (C : Calculus) where
  -- whether a step is allowed depends only on the records of the earlier ones
  moved : (D E : List Step) (k : ℕ) → ((i : ℕ) → 1 ≤ i → i < k → marks_of D i ≡ marks_of E i)
      → (h : Origin) (r : Record) → Allowed S C D k h r → Allowed S C E k h r
  moved D E k same Leaf r a = a
  moved D E k same (Resolve p i j) r a =
      let ei : marks_of D i ≡ marks_of E i = same i a.first_there a.first_before in
      let ej : marks_of D j ≡ marks_of E j = same j a.second_there a.second_before in
      record {
        first_there = a.first_there;
        first_before = a.first_before;
        second_there = a.second_there;
        second_before = a.second_before;
        may = a.may;
        joins = (rw (ei, ej) at a.joins);
      }
  moved D E k same (Reduce j) r a =
      let ej : marks_of D j ≡ marks_of E j = same j a.there a.before in
      record { there = a.there; before = a.before; reduct = (rw ej at a.reduct) }

  grown : (D : List Step) → Derivation S C D → (s : Step) → Allowed S C D (length D + 1) s.origin s.marks
      → Derivation S C (D ++ (s ∷ []))
  grown D ok s new k lo hi = elim (cases_eq k (length D + 1)) [
    | inl q ↦
        let last : step (D ++ (s ∷ [])) k ≡ s = get_or_push D s no_step (pred k) (omega arith) in
        let a : Allowed S C (D ++ (s ∷ [])) k s.origin s.marks = moved D (D ++ (s ∷ [])) k (λ i li hi'. ap (λ t. t.marks) (sym (old i li (omega arith)))) s.origin s.marks (rw (← q) at new) in
        subst (λ t. Allowed S C (D ++ (s ∷ [])) k t.origin t.marks) (sym last) a
    | inr d ↦
        let le : k ≤ length D = omega (arith, length_push D s) in
        let a : Allowed S C (D ++ (s ∷ [])) k (origin_of D k) (marks_of D k) = moved D (D ++ (s ∷ [])) k (λ i li hi'. ap (λ t. t.marks) (sym (old i li (omega arith)))) (origin_of D k) (marks_of D k) (ok k lo le) in
        subst (λ t. Allowed S C (D ++ (s ∷ [])) k t.origin t.marks) (sym (old k lo le)) a
  ]
    where
      old : (i : ℕ) → 1 ≤ i → i ≤ length D → step (D ++ (s ∷ [])) i ≡ step D i
      old i lo hi = get_or_append_left D (s ∷ []) no_step (pred i) (omega arith)

  front : (D : List Step) → Derivation S C D → (n : ℕ) → n ≤ length D → Derivation S C (take n D)
  front D ok n le k lo hi =
      let in' : k ≤ n = omega (arith, length-take-le n D le) in
      let a : Allowed S C (take n D) k (origin_of D k) (marks_of D k) = moved D (take n D) k (λ i li hi'. ap (λ t. t.marks) (sym (old i li (omega arith)))) (origin_of D k) (marks_of D k) (ok k lo (omega arith)) in
      subst (λ t. Allowed S C (take n D) k t.origin t.marks) (sym (old k lo in')) a
    where
      old : (i : ℕ) → 1 ≤ i → i ≤ n → step (take n D) i ≡ step D i
      old i lo hi = get_or-take n D (pred i) no_step (omega arith)

-- ---- a step reads the same with further steps behind

-- a step that is no reduce decides nothing
none_decided : (a t s : Bool) → (t && (a && false)) ≡ (s && (a && false))
none_decided true true true = refl
none_decided true true false = refl
none_decided true false true = refl
none_decided true false false = refl
none_decided false true true = refl
none_decided false true false = refl
none_decided false false true = refl
none_decided false false false = refl

pub same_step : (D E : List Step) (k : ℕ) → 1 ≤ k → k ≤ length D → step (D ++ E) k ≡ step D k
same_step D E k lo hi = get_or_append_left D E no_step (pred k) (omega arith)

module _ (S : Side) (C : Calculus) (D E : List Step) (ok : Derivation S C D) (v : ℕ → ℕ) where
  same_marks : (k : ℕ) → 1 ≤ k → k ≤ length D → marks_of (D ++ E) k ≡ marks_of D k
  same_marks k lo hi = ap (λ t. t.marks) (same_step D E k lo hi)

  same_origin : (k : ℕ) → 1 ≤ k → k ≤ length D → origin_of (D ++ E) k ≡ origin_of D k
  same_origin k lo hi = ap (λ t. t.origin) (same_step D E k lo hi)

  by_grown : (y k : ℕ) (h : Origin) (r : Record) → k ≤ length D → Allowed S C D k h r
      → (f g : ℕ → Bool) → ((j : ℕ) → 1 ≤ j → j < k → f j ≡ g j)
      → (m : Found) → phase_by S (D ++ E) v y m h f ≡ phase_by S D v y m h g
  by_grown y k h r hi a f g eq absent = refl
  by_grown y k h r hi a f g eq (has Plus) = refl
  by_grown y k h r hi a f g eq (has Minus) = refl
  by_grown y k Leaf r hi a f g eq (has Star) = refl
  by_grown y k (Reduce j) r hi a f g eq (has Star) = eq j a.there a.before
  by_grown y k (Resolve p i j) r hi a f g eq (has Star) =
      let fi : f i ≡ g i = eq i a.first_there a.first_before in
      let fj : f j ≡ g j = eq j a.second_there a.second_before in
      let mi : marks_of (D ++ E) i ≡ marks_of D i = same_marks i a.first_there (let b = a.first_before in omega arith) in
      let mj : marks_of (D ++ E) j ≡ marks_of D j = same_marks j a.second_there (let b = a.second_before in omega arith) in
      rw (mi, mj, fi, fj)

  within_grown : (y n k : ℕ) → 1 ≤ k → k ≤ length D → phase_within S (D ++ E) v y n k ≡ phase_within S D v y n k
  unfolding phase_within
  within_grown y zero k lo hi = refl
  within_grown y (suc n) k lo hi =
      ap (λ (t : Step). phase_by S (D ++ E) v y (found t.marks y) t.origin (phase_within S (D ++ E) v y n)) (same_step D E k lo hi)
      ∙ by_grown y k (origin_of D k) (marks_of D k) hi (ok k lo hi) (phase_within S (D ++ E) v y n) (phase_within S D v y n)
      (λ j lj hj. within_grown y n j lj (omega arith)) (found (marks_of D k) y)

  same_phase : (y k : ℕ) → 1 ≤ k → k ≤ length D → phase S (D ++ E) v y k ≡ phase S D v y k
  unfolding phase
  same_phase y k lo hi = within_grown y k k lo hi

  same_met : (k y : ℕ) → 1 ≤ k → k ≤ length D → met S (D ++ E) v k y ≡ met S D v k y
  same_met k y lo hi = ap (meets S v y) (same_phase y k lo hi)

  same_wholly : (k : ℕ) → 1 ≤ k → k ≤ length D → wholly S (D ++ E) v k ≡ wholly S D v k
  same_wholly k lo hi = rw (same_marks k lo hi) (each_same _ _ (marks_of D k) (λ y n. same_met k y lo hi))

  same_base : (k : ℕ) → 1 ≤ k → k ≤ length D → base_met S (D ++ E) v k ≡ base_met S D v k
  same_base k lo hi =
      rw (same_marks k lo hi) (each_same _ _ (marks_of D k) (λ y n. ap (λ b. over S (marks_of D k) y || b) (same_met k y lo hi)))

  -- a step decides a reply, and gives it, as before
  decides_by : (among : ℕ → Bool) (x k : ℕ) (h : Origin) (r : Record) → k ≤ length D → Allowed S C D k h r
      → (in_tail S (marks_of (D ++ E) (parent h)) x && (among k && ready_by S (D ++ E) v h)) ≡ (in_tail S (marks_of D (parent h)) x && (among k && ready_by S D v h))
  decides_by among x k Leaf r hi a = none_decided (among k) (in_tail S (marks_of (D ++ E) 0) x) (in_tail S (marks_of D 0) x)
  decides_by among x k (Resolve p i j) r hi a = none_decided (among k) (in_tail S (marks_of (D ++ E) 0) x) (in_tail S (marks_of D 0) x)
  decides_by among x k (Reduce j) r hi a =
      let b : j ≤ length D = let l = a.before in omega arith in
      let base : base_met S (D ++ E) v j ≡ base_met S D v j = same_base j a.there b in
      ap (λ (t : Bool). in_tail S (marks_of (D ++ E) j) x && (among k && t)) base
      ∙ ap (λ (r' : Record). in_tail S r' x && (among k && base_met S D v j)) (same_marks j a.there b)

  same_decides : (among : ℕ → Bool) (x k : ℕ) → 1 ≤ k → k ≤ length D → decides S (D ++ E) among v x k ≡ decides S D among v x k
  same_decides among x k lo hi =
      ap (λ (t : Step). in_tail S (marks_of (D ++ E) (parent t.origin)) x && (among k && ready_by S (D ++ E) v t.origin)) (same_step D E k lo hi)
      ∙ decides_by among x k (origin_of D k) (marks_of D k) hi (ok k lo hi)

  from_by : (x k : ℕ) (h : Origin) (r : Record) → k ≤ length D → Allowed S C D k h r → phase S (D ++ E) v x (parent h) ≡ phase S D v x (parent h)
  unfolding phase phase_within
  from_by x k Leaf r hi a = refl
  from_by x k (Resolve p i j) r hi a = refl
  from_by x k (Reduce j) r hi a = same_phase x j a.there (let l = a.before in omega arith)

  same_from : (x s : ℕ) → s ≤ length D → reply_from S (D ++ E) v x s ≡ reply_from S D v x s
  same_from x zero hi = refl
  same_from x (suc s) hi =
      let h : phase S (D ++ E) v x (parent (origin_of (D ++ E) (suc s))) ≡ phase S D v x (parent (origin_of D (suc s)))
      = ap (λ (t : Step). phase S (D ++ E) v x (parent t.origin)) (same_step D E (suc s) (omega arith) hi)
      ∙ from_by x (suc s) (origin_of D (suc s)) (marks_of D (suc s)) hi (ok (suc s) (omega arith) hi) in
      ap (λ b. (S.meeting b, suc s)) h

  module _ (among : ℕ → Bool) (u : ℕ) (in_List : u ≤ length D) where
    same_reply : (x : ℕ) → reply S (D ++ E) among u v x ≡ reply S D among u v x
    same_reply x =
        let e : lowest (decides S (D ++ E) among v x) u ≡ lowest (decides S D among v x) u
        = lowest_same _ _ u (λ k lo hi. same_decides among x k lo (omega arith)) in
        rw e (same_from x (lowest (decides S D among v x) u) (omega (arith, lowest_le (decides S D among v x) u)))

    same_witness : witness S (D ++ E) among u v ≡ witness S D among u v
    same_witness = lowest_same _ _ u (λ k lo hi. at k lo (omega arith))
      where
        at : (k : ℕ) → 1 ≤ k → k ≤ length D → meets_leaf S (D ++ E) among v k ≡ meets_leaf S D among v k
        at k lo hi = rw (same_origin k lo hi, same_wholly k lo hi)

-- the lowest empty record stays the lowest
same_verdict : (D E : List Step) → 1 ≤ lowest_empty D → lowest_empty (D ++ E) ≡ lowest_empty D
same_verdict D E some = elim (lowest_cases (λ k. is_empty (marks_of D k)) (length D)) [
  | inl z ↦ let o : lowest_empty D ≡ 0 = z.0 in absurd (omega arith)
  | inr l ↦ lowest_is _ _ _ (record {
    low = some;
    high = omega (arith, l.high, length-append D E);
    passes = at (lowest_empty D) some l.high ∙ l.passes;
    none_below = λ k lo hi. at k lo (omega (arith, l.high)) ∙ l.none_below k lo hi;
  })
]
  where
    at : (k : ℕ) → 1 ≤ k → k ≤ length D → is_empty (marks_of (D ++ E) k) ≡ is_empty (marks_of D k)
    at k lo hi = ap (λ t. is_empty t.marks) (same_step D E k lo hi)

module _ (S : Side) (C : Calculus) (D E : List Step) (ok : Derivation S C D) (among : ℕ → Bool) (u : ℕ) (in_List : u ≤ length D) (n : ℕ) (order : List ℕ) where
  same_run : {todo p : List ℕ} → Run S D among u n order todo p → Run S (D ++ E) among u n order todo p
  same_run begun = begun
  same_run (chosen b small theirs r) = chosen b small theirs (same_run r)
  same_run (answered {x = x} {xs = xs} {p = p} own r) =
      subst (λ (a : ℕ × ℕ). Run S (D ++ E) among u n order xs (put p x a.0)) (same_reply S C D E ok (value p) among u in_List x) (answered own (same_run r))

pub growth : Growth
growth = record {
  one_more = grown;
  front = front;
  phases = λ S C D E ok v y k lo hi. same_phase S C D E ok v y k lo hi;
  replies = λ S C D E ok among u hi v x. same_reply S C D E ok v among u hi x;
  witnesses = λ S C D E ok among u hi v. same_witness S C D E ok v among u hi;
  verdicts = same_verdict;
  runs = λ S C D E ok among u hi n order todo p r. same_run S C D E ok among u hi n order r;
  dependence = λ S fair C D E ok more among u hi n order ord x xs ys p q rp rq same.
      sym (same_reply S C D E ok (value p) among u hi x)
      ∙ dependence S fair C (D ++ E) more among u (omega (arith, length-append D E)) n order ord x xs ys p q (same_run S C D E ok among u hi n order rp) rq same;
}
