-- The theorems about derivations and their replies.
use Rattle.std.specs.Prelude.{◌≡◌, ℕ, ◌+◌, ◌<◌, ◌≤◌, Bool, true, false, ◌⊎◌, ◌↔◌, List, [], ◌∷◌, ◌++◌, length, take, slice_index_or}
use Rattle.game.specs.Records.{Side, has, Record, found, named, over, Above, Entry}
use Rattle.game.specs.Rules.{Resolve, Step, origin_of, marks_of, Calculus, Allowed, Derivation}
use Rattle.game.specs.Plays.{phase, meets, wholly, lowest_empty, reply, Agree, Fair, Full, Follows, Verdict, LeafMet, Lowest, meets_leaf, witness}
use Rattle.game.specs.Game.{value, no_values, Wins, Order, LawOnRecords, Run}

-- ---- looking back

-- the phase of a variable depends only on the values of variables at lower levels
abbrev pub PhasesLookBack : Type 0
PhasesLookBack =
    (S : Side) (C : Calculus) (D : List Step) → Derivation S C D
    → (y : ℕ) (v w : ℕ → ℕ) → Agree S (S.level y) v w
    → (k : ℕ) → 1 ≤ k → k ≤ length D → phase S D v y k ≡ phase S D w y k

-- the reply to a variable, value and step, depends only on the values of variables at lower levels
abbrev pub RepliesLookBack : Type 0
RepliesLookBack =
    (S : Side) (C : Calculus) (D : List Step) → Derivation S C D
    → (among : ℕ → Bool) (u : ℕ) → u ≤ length D
    → (x : ℕ) (v w : ℕ → ℕ) → Agree S (S.level x) v w
    → reply S D among u v x ≡ reply S D among u w x

-- ---- going down

-- a resolve whose record is met by a full play has a parent whose record is met: the one whose pivot literal is
abbrev pub ResolveGoesDown : Type 0
ResolveGoesDown =
    (S : Side) → Fair S → (C : Calculus) (D : List Step) → Derivation S C D
    → (v : ℕ → ℕ) → Full S v
    → (k : ℕ) → 1 ≤ k → k ≤ length D → (p i j : ℕ) → origin_of D k ≡ Resolve p i j → wholly S D v k ≡ true
    → ((meets S v p true ≡ true) × (wholly S D v i ≡ true)) ⊎ ((meets S v p false ≡ true) × (wholly S D v j ≡ true))

-- A full play that follows the replies under a verdict meets a leaf step up to it. The steps that are looked at may be any set that
-- has the verdict, and with each step its parents.
abbrev pub DownToALeaf : Type 0
DownToALeaf =
    (S : Side) → Fair S → (C : Calculus) (D : List Step) → Derivation S C D
    → (among : ℕ → Bool) (u : ℕ) → Verdict D among u
    → (v : ℕ → ℕ) → Full S v → Follows S D among u v → LeafMet S D among u v

-- the witness in words: where a leaf step is met, it is the lowest such
abbrev pub WitnessInWords : Type 0
WitnessInWords =
    (S : Side) (D : List Step) (among : ℕ → Bool) (u : ℕ) (v : ℕ → ℕ) → LeafMet S D among u v
    → Lowest (meets_leaf S D among v) u (witness S D among u v)

-- with a law: a finished play in which own side gave the replies meets a leaf step and is won
abbrev pub PlayedOut : Type 0
PlayedOut =
    (S : Side) → Fair S → (C : Calculus) (D : List Step) → Derivation S C D
    → (among : ℕ → Bool) (u : ℕ) → Verdict D among u
    → (n : ℕ) (order : List ℕ) → Order S n order
    → (won : List ℕ → Bool) → LawOnRecords S n C.leaves won
    → (p : List ℕ) → Run S D among u n order [] p
    → LeafMet S D among u (value p) × (won p ≡ true)

-- ---- winning

-- with a law: where a step of a derivation has an empty record, own side wins
abbrev pub OwnSideWins : Type 0
OwnSideWins =
    (S : Side) → Fair S → (C : Calculus) (D : List Step) → Derivation S C D
    → (u : ℕ) → 1 ≤ u → u ≤ length D → marks_of D u ≡ []
    → (n : ℕ) (order : List ℕ) → Order S n order
    → (won : List ℕ → Bool) → LawOnRecords S n C.leaves won
    → Wins S won order (no_values n)

-- Two plays in which own side gave the replies, where x is next in both, and which agree in the opponent's choices at all lower
-- levels: the reply to x is the same, value and step.
abbrev pub Dependence : Type 0
Dependence =
    (S : Side) → Fair S → (C : Calculus) (D : List Step) → Derivation S C D
    → (among : ℕ → Bool) (u : ℕ) → u ≤ length D → (n : ℕ) (order : List ℕ) → Order S n order
    → (x : ℕ) (xs ys p q : List ℕ) → Run S D among u n order (x ∷ xs) p → Run S D among u n order (x ∷ ys) q
    → ((z : ℕ) → S.mine z ≡ false → 1 ≤ S.level z → S.level z < S.level x → value p z ≡ value q z)
    → reply S D among u (value p) x ≡ reply S D among u (value q) x

-- ---- growing

-- What holds of a derivation holds on when steps come behind it.
pub record Growth : Type 0 where
  -- with one more step that is allowed it is a derivation; and so are its first n steps
  pub one_more : (S : Side) (C : Calculus) (D : List Step) → Derivation S C D
      → (s : Step) → Allowed S C D (length D + 1) s.origin s.marks → Derivation S C (D ++ (s ∷ []))
  pub front : (S : Side) (C : Calculus) (D : List Step) → Derivation S C D → (n : ℕ) → n ≤ length D → Derivation S C (take n D)
  -- phases in its steps, and replies and witnesses under its verdicts, stay the same
  pub phases : (S : Side) (C : Calculus) (D E : List Step) → Derivation S C D
      → (v : ℕ → ℕ) (y k : ℕ) → 1 ≤ k → k ≤ length D → phase S (D ++ E) v y k ≡ phase S D v y k
  pub replies : (S : Side) (C : Calculus) (D E : List Step) → Derivation S C D
      → (among : ℕ → Bool) (u : ℕ) → u ≤ length D → (v : ℕ → ℕ) (x : ℕ) → reply S (D ++ E) among u v x ≡ reply S D among u v x
  pub witnesses : (S : Side) (C : Calculus) (D E : List Step) → Derivation S C D
      → (among : ℕ → Bool) (u : ℕ) → u ≤ length D → (v : ℕ → ℕ) → witness S (D ++ E) among u v ≡ witness S D among u v
  -- so does its lowest step with an empty record, once there is one
  pub verdicts : (D E : List Step) → 1 ≤ lowest_empty D → lowest_empty (D ++ E) ≡ lowest_empty D
  -- and a play in which own side gave the replies remains one
  pub runs : (S : Side) (C : Calculus) (D E : List Step) → Derivation S C D
      → (among : ℕ → Bool) (u : ℕ) → u ≤ length D → (n : ℕ) (order todo p : List ℕ)
      → Run S D among u n order todo p → Run S (D ++ E) among u n order todo p
  -- so the dependence holds between a play from before and one from after
  pub dependence : (S : Side) → Fair S → (C : Calculus) (D E : List Step) → Derivation S C D → Derivation S C (D ++ E)
      → (among : ℕ → Bool) (u : ℕ) → u ≤ length D → (n : ℕ) (order : List ℕ) → Order S n order
      → (x : ℕ) (xs ys p q : List ℕ) → Run S D among u n order (x ∷ xs) p → Run S (D ++ E) among u n order (x ∷ ys) q
      → ((z : ℕ) → S.mine z ≡ false → 1 ≤ S.level z → S.level z < S.level x → value p z ≡ value q z)
      → reply S D among u (value p) x ≡ reply S (D ++ E) among u (value q) x

-- ---- the tail

-- The tail in words: an own variable is in the tail of a record that names it exactly if its level is above that of every opponent's
-- variable in the record; and what is in the tail is above the whole base.
pub record TailInWords : Type 0 where
  pub exactly : (S : Side) (r : Record) (x : ℕ) → S.mine x ≡ true → 1 ≤ S.level x
      → (over S r x ≡ true) ↔ ((z : ℕ) → named r z ≡ true → S.mine z ≡ false → S.level z < S.level x)
  pub above_base : (S : Side) (r : Record) (x y : ℕ) → over S r x ≡ true → named r y ≡ true → over S r y ≡ false → S.level y < S.level x

-- in a rising record each entry's mark is the one that is found
abbrev pub EntriesFound : Type 0
EntriesFound = (r : Record) → Above 0 r → (i : ℕ) → i < length r → (d : Entry) → found r (slice_index_or r i d).variable ≡ has (slice_index_or r i d).mark
