-- Own side wins, and its replies depend only on earlier choices.
use Rattle.std.proofs.Common.{◌≡◌, ℕ, zero, suc, ◌<◌, ◌≤◌, Bool, true, false, ◌≢◌, List, [], ◌∷◌, length, replicate, MatchBool, sym, refl, ap, ◌∙◌, subst, inl, inr, arith}
use Rattle.std.proofs.lemmas.Bool.{cases_Bool, cases_eq}
use Rattle.std.proofs.lemmas.List.{get_or-set_same, get_or-set_other, length-set, length-replicate}
use Rattle.game.specs.Records.{Side, Plus, Minus, Star, Found, absent, has, found}
use Rattle.game.specs.Rules.{Origin, Leaf, Resolve, Reduce, Step, origin_of, marks_of, Calculus, Allowed, Derivation}
use Rattle.game.specs.Plays.{meets, phase_by, phase, wholly, all_steps, reply_from, reply, Agree, Fair, Full, ParentsIn, Verdict, LeafMet}
use Rattle.game.specs.Game.{value, put, Wins, In, Laid, Order, no_values, sign, leaf_met, LawOnRecords, Run, begun, chosen, answered}
use Rattle.game.specs.Theorems.{OwnSideWins, PlayedOut, Dependence}
use Rattle.game.proofs.Records.{each_same}
use Rattle.game.proofs.Phases.{phase_law}
use Rattle.game.proofs.Replies.{replies_look_back}
use Rattle.game.proofs.Leaf.{down_to_a_leaf}

-- what a put leaves
pub put_same : (p : List ℕ) (x b : ℕ) → 1 ≤ x → x ≤ length p → value (put p x b) x ≡ b
put_same p zero b lo hi = absurd (omega arith)
put_same p (suc k) b lo hi = get_or-set_same p k b 2 (omega arith)

pub put_other : (p : List ℕ) (x b y : ℕ) → (y ≡ x → ⊥) → value (put p x b) y ≡ value p y
put_other p zero b y d = refl
put_other p (suc k) b zero d = refl
put_other p (suc k) b (suc y) d = let ne : y ≢ k = λ e. d (ap suc e) in get_or-set_other p k y b 2 ne

pub put_length : (p : List ℕ) (x b : ℕ) → length (put p x b) ≡ length p
put_length p zero b = refl
put_length p (suc k) b = length-set p k b

pub unset : (n y : ℕ) → value (replicate n 2) y ≡ 2
unset n zero = refl
unset zero (suc k) = refl
unset (suc n) (suc zero) = refl
unset (suc n) (suc (suc k)) = unset n (suc k)

when_from : (b : Bool) (P Q : Type 0) → (b ≡ true → P) → (b ≡ false → Q) → MatchBool b P Q
when_from true P Q f g = f refl
when_from false P Q f g = g refl

-- a reply is a value
pub reply_small : (S : Side) → Fair S → (D : List Step) (v : ℕ → ℕ) (x s : ℕ) → (reply_from S D v x s).0 < 2
reply_small S fair D v x zero = omega arith
reply_small S fair D v x (suc s) = fair.small _

module _ (S : Side) (fair : Fair S) (C : Calculus) (D : List Step) (ok : Derivation S C D) (among : ℕ → Bool)
    (u : ℕ) (in_list : u ≤ length D) (n : ℕ) (order : List ℕ) (ord : Order S n order) where
  -- what holds of a play on the way: what is not still to come has its value, own side's by the reply,
  -- and stands below all that is to come; what is unbound has none
  pub record Played (todo p : List ℕ) : Type 0 where
    pub laid : Laid S n todo
    pub long : length p ≡ n
    pub valued : (y : ℕ) → 1 ≤ S.level y → (In y todo → ⊥) → value p y < 2
    pub replied : (y : ℕ) → S.mine y ≡ true → (In y todo → ⊥) → value p y ≡ (reply S D among u (value p) y).0
    pub before : (y : ℕ) → 1 ≤ S.level y → (In y todo → ⊥) → (z : ℕ) → In z todo → S.level y ≤ S.level z
    pub bound_only : (y : ℕ) → In y todo → 1 ≤ S.level y
    pub outside : (y : ℕ) → S.level y ≡ 0 → value p y ≡ 2

  -- a put at x alters no reply at x's level and below
  agree_put : (p : List ℕ) (x b l : ℕ) → l ≤ S.level x → Agree S l (value p) (value (put p x b))
  agree_put p x b l le z lt = sym (put_other p x b z (λ e. let h : S.level z ≡ S.level x = ap S.level e in omega arith))

  reply_put : (p : List ℕ) (x b y : ℕ) → S.level y ≤ S.level x → reply S D among u (value p) y ≡ reply S D among u (value (put p x b)) y
  reply_put p x b y le = replies_look_back S C D ok among u in_list y (value p) (value (put p x b)) (agree_put p x b (S.level y) le)

  next : (x : ℕ) (xs p : List ℕ) (b : ℕ) → b < 2 → (S.mine x ≡ true → b ≡ (reply S D among u (value p) x).0)
      → Played (x ∷ xs) p → Played xs (put p x b)
  next x xs p b small by h =
      record {
        laid = h.laid.4;
        long = put_length p x b ∙ h.long;
        valued = λ y bd out. elim (cases_eq y x) [ inl q ↦ rw (q, here) small | inr d ↦ rw (put_other p x b y d) (h.valued y bd (still y d out)) ];
        replied = λ y own out. elim (cases_eq y x) [
          | inl q ↦ rw q (here ∙ by (rw q at own) ∙ ap (λ r. r.0) (reply_put p x b x (omega arith)))
          | inr d ↦
              let low : S.level y ≤ S.level x = h.before y (ord.mine_bound y own) (still y d out) x (inl refl) in
              put_other p x b y d ∙ h.replied y own (still y d out) ∙ ap (λ r. r.0) (reply_put p x b y low)
        ];
        before = λ y bd out z i. elim (cases_eq y x) [ inl q ↦ rw q (h.laid.3 z i) | inr d ↦ h.before y bd (still y d out) z (inr i) ];
        bound_only = λ y i. h.bound_only y (inr i);
        outside = λ y z. elim (cases_eq y x) [ inl q ↦ let bd : 1 ≤ S.level x = h.bound_only x (inl refl) in let l : S.level y ≡ S.level x = ap S.level q in absurd (omega arith) | inr d ↦ put_other p x b y d ∙ h.outside y z ];
      }
    where
      here : value (put p x b) x ≡ b
      here = put_same p x b h.laid.0 (let l = h.laid.1 in let m = h.long in omega arith)

      still : (y : ℕ) → (y ≡ x → ⊥) → (In y xs → ⊥) → In y (x ∷ xs) → ⊥
      still y d out (inl e) = d e
      still y d out (inr i) = out i

  pub run_played : {todo p : List ℕ} → Run S D among u n order todo p → Played todo p
  run_played begun =
      record {
        laid = ord.laid;
        long = length-replicate n 2;
        valued = λ y bd out. absurd (out (ord.all_there y bd));
        replied = λ y own out. absurd (out (ord.all_there y (ord.mine_bound y own)));
        before = λ y bd out z i. absurd (out (ord.all_there y bd));
        bound_only = ord.bound_there;
        outside = λ y z. unset n y;
      }
  run_played (chosen {x = x} {xs = xs} {p = p} b small theirs r) = next x xs p b small (λ own. cc) (run_played r)
  run_played (answered {x = x} {xs = xs} {p = p} own r) =
      next x xs p (reply S D among u (value p) x).0 (reply_small S fair D (value p) x _) (λ _. refl) (run_played r)

  -- at a leaf step a phase is the sign of the mark
  by_leaf : (v : ℕ → ℕ) (y : ℕ) (m : Found) (f : ℕ → Bool) → phase_by S D v y m Leaf f ≡ sign m
  by_leaf v y absent f = refl
  by_leaf v y (has Plus) f = refl
  by_leaf v y (has Minus) f = refl
  by_leaf v y (has Star) f = refl

  pub leaf_from : (v : ℕ → ℕ) (k : ℕ) → 1 ≤ k → k ≤ length D → origin_of D k ≡ Leaf → wholly S D v k ≡ leaf_met S v (marks_of D k)
  leaf_from v k lo hi e = each_same _ _ (marks_of D k)
      (λ y n. ap (meets S v y) (phase_law S C D ok y v k lo hi ∙ rw e (by_leaf v y (found (marks_of D k) y) (phase S D v y))))

  module _ (end : Verdict D among u) (won : List ℕ → Bool) (law : LawOnRecords S n C.leaves won) where
    reach : (k : ℕ) → k ≤ u → k ≤ length D
    reach k hi = omega arith

    out : (p : List ℕ) → Run S D among u n order [] p → LeafMet S D among u (value p) × (won p ≡ true)
    out p r =
        let h : Played [] p = run_played r in
        let full : Full S (value p) = λ x bd. h.valued x bd (λ i. i) in
        let l : LeafMet S D among u (value p) = down_to_a_leaf S fair C D ok among u end (value p) full (λ x own. h.replied x own (λ i. i)) in
        let k : ℕ = l.number in
        let adm : C.leaves (marks_of D k) ≡ true = subst (λ a. Allowed S C D k a (marks_of D k)) l.a_leaf (ok k l.low (reach k l.high)) in
        (l, law (marks_of D k) p adm h.long full (sym (leaf_from (value p) k l.low (reach k l.high) l.a_leaf) ∙ l.all_met))

    wins_from : (todo p : List ℕ) → Run S D among u n order todo p → Wins S won todo p
    unfolding Wins
    wins_from [] p r = (out p r).1
    wins_from (x ∷ xs) p r = when_from (S.mine x) _ _
        (λ own. let a : Run S D among u n order xs (put p x (reply S D among u (value p) x).0) = answered own r in
        elim (cases_eq (reply S D among u (value p) x).0 0) [
          | inl z ↦ inl (wins_from xs (put p x 0) (rw z at a))
          | inr d ↦
              let one : (reply S D among u (value p) x).0 ≡ 1 = let small : (reply S D among u (value p) x).0 < 2 = reply_small S fair D (value p) x _ in omega arith in
              inr (wins_from xs (put p x 1) (rw one at a))
        ])
        (λ theirs. (wins_from xs (put p x 0) (chosen 0 (omega arith) theirs r), wins_from xs (put p x 1) (chosen 1 (omega arith) theirs r)))

-- all steps up to the verdict: with each its parents
all_parents : (h : Origin) → ParentsIn all_steps h
all_parents Leaf = tt
all_parents (Resolve p i j) = (refl, refl)
all_parents (Reduce j) = refl

pub all_looked_at : (D : List Step) (u : ℕ) → 1 ≤ u → u ≤ length D → marks_of D u ≡ [] → Verdict D all_steps u
all_looked_at D u lo hi e =
    record { some_step = lo; in_list = hi; empty = e; there = refl; closed = λ k low high t. all_parents (origin_of D k) }

pub own_side_wins : OwnSideWins
own_side_wins S fair C D ok u lo hi e n order ord won law =
    wins_from S fair C D ok all_steps u hi n order ord (all_looked_at D u lo hi e) won law order (no_values n) begun

pub played_out : PlayedOut
played_out S fair C D ok among u end n order ord won law p r = out S fair C D ok among u end.in_list n order ord end won law p r

module _ (S : Side) (fair : Fair S) (C : Calculus) (D : List Step) (ok : Derivation S C D) (among : ℕ → Bool)
    (u : ℕ) (in_list : u ≤ length D) (n : ℕ) (order : List ℕ) (ord : Order S n order)
    (x : ℕ) (xs ys p q : List ℕ) (hp : Played S fair C D ok among u in_list n order ord (x ∷ xs) p) (hq : Played S fair C D ok among u in_list n order ord (x ∷ ys) q)
    (same : (z : ℕ) → S.mine z ≡ false → 1 ≤ S.level z → S.level z < S.level x → value p z ≡ value q z) where
  -- what is below x's level is not still to come
  past : (zs : List ℕ) → Laid S n (x ∷ zs) → (z : ℕ) → S.level z < S.level x → In z (x ∷ zs) → ⊥
  past zs h z lt (inl e) = let l : S.level z ≡ S.level x = ap S.level e in omega arith
  past zs h z lt (inr i) = let l : S.level x ≤ S.level z = h.3 z i in omega arith

  -- level by level, the two plays agree
  agree_to : (l : ℕ) → l ≤ S.level x → Agree S l (value p) (value q)
  agree_to zero le z lt = absurd (omega arith)
  agree_to (suc l) le z lt = elim (cases_Bool (S.mine z)) [
    | inl own ↦
        let r : reply S D among u (value p) z ≡ reply S D among u (value q) z =
        replies_look_back S C D ok among u in_list z (value p) (value q) (λ y h. agree_to l (omega arith) y (omega arith)) in
        hp.replied z own (past xs hp.laid z (omega arith)) ∙ ap (λ a. a.0) r ∙ sym (hq.replied z own (past ys hq.laid z (omega arith)))
    | inr theirs ↦ elim (cases_eq (S.level z) 0) [
      | inl o ↦ hp.outside z o ∙ sym (hq.outside z o)
      | inr d ↦ same z theirs (omega arith) (omega arith)
    ]
  ]

  same_reply : reply S D among u (value p) x ≡ reply S D among u (value q) x
  same_reply = replies_look_back S C D ok among u in_list x (value p) (value q) (agree_to (S.level x) (omega arith))

pub dependence : Dependence
dependence S fair C D ok among u in_list n order ord x xs ys p q rp rq same =
    same_reply S fair C D ok among u in_list n order ord x xs ys p q
    (run_played S fair C D ok among u in_list n order ord rp) (run_played S fair C D ok among u in_list n order ord rq) same
