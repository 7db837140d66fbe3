-- Steps, and which step the rules allow, told variable by variable.
use Rattle.std.specs.Prelude.{◌≡◌, ℕ, pred, ◌<◌, ◌≤◌, Bool, true, false, cond, List, [], length, ◌≢◌, slice_index_or}
pub use Rattle.game.specs.declared.record.Origin.{Origin}
pub use Rattle.game.specs.declared.record.Origin.TheVariants.{Leaf, Resolve, Reduce}
use Rattle.game.specs.Records.{Side, Mark, Plus, Minus, Star, Found, absent, has, Record, found, named, over}

-- a step: how it came, and its record
pub record Step : Type 0 where
  pub origin : Origin
  pub marks : Record

-- steps are numbered from 1; a step that is not there reads as an empty leaf
abbrev pub no_step : Step
no_step = record { origin = Leaf; marks = [] }

abbrev pub step : List Step → ℕ → Step
step D k = slice_index_or D (pred k) no_step

abbrev pub origin_of : List Step → ℕ → Origin
origin_of D k = (step D k).origin

abbrev pub marks_of : List Step → ℕ → Record
marks_of D k = (step D k).marks

-- both marks are plus, or both are minus
abbrev pub same_plain : Mark → Mark → Bool
same_plain Plus Plus = true
same_plain Plus Minus = false
same_plain Plus Star = false
same_plain Minus Plus = false
same_plain Minus Minus = true
same_plain Minus Star = false
same_plain Star n = false

-- What a resolve makes of a variable that is not the pivot, from its marks in the first and the second parent. `mine`: the
-- variable is own; `above`: its level is above the pivot's. Named by one parent, or with the same plain mark in both, it keeps its
-- mark. In any other case it becomes star, and must be own and above the pivot.
pub data Merged (mine : Bool) (above : Type 0) : Found → Found → Found → Type 0 where
  neither : Merged mine above absent absent absent
  first : {m : Mark} → Merged mine above (has m) absent (has m)
  second : {m : Mark} → Merged mine above absent (has m) (has m)
  both_plus : Merged mine above (has Plus) (has Plus) (has Plus)
  both_minus : Merged mine above (has Minus) (has Minus) (has Minus)
  clash : {m n : Mark} → same_plain m n ≡ false → mine ≡ true → above → Merged mine above (has m) (has n) (has Star)

-- `out` joins r and s on the pivot p, whoever owns p: p is bound, plus in r and minus in s, and gone from `out`.
pub record Joins (S : Side) (p : ℕ) (r s out : Record) : Type 0 where
  pub bound : 1 ≤ S.level p
  pub plus_first : found r p ≡ has Plus
  pub minus_second : found s p ≡ has Minus
  pub pivot_gone : found out p ≡ absent
  pub others : (x : ℕ) → (x ≢ p) → Merged (S.mine x) (S.level p < S.level x) (found r x) (found s x) (found out x)

-- The rule of a resolve on p: p is the opponent's, and `out` joins the two records on it.
pub record Resolvent (S : Side) (p : ℕ) (r s out : Record) : Type 0 where
  pub theirs : S.mine p ≡ false
  pub joins : Joins S p r s out

-- The rule of a reduce: the tail of r, which is not empty, is taken off.
pub record Reduct (S : Side) (r out : Record) : Type 0 where
  pub some_tail : (x : ℕ) × (named r x ≡ true) × (over S r x ≡ true)
  pub rest : (x : ℕ) → found out x ≡ cond (over S r x) absent (found r x)

-- A calculus: which variables may be pivots, and which records may be leaves. No theorem about derivations asks whose the pivots
-- are; the long-distance rule takes the opponent's.
pub record Calculus : Type 0 where
  pub pivots : ℕ → Bool
  pub leaves : Record → Bool

-- Step k resolves on p the steps i and j, which come before it, to the record out.
pub record Resolves (S : Side) (C : Calculus) (D : List Step) (k p i j : ℕ) (out : Record) : Type 0 where
  pub first_there : 1 ≤ i
  pub first_before : i < k
  pub second_there : 1 ≤ j
  pub second_before : j < k
  pub may : C.pivots p ≡ true
  pub joins : Joins S p (marks_of D i) (marks_of D j) out

-- Step k reduces step j, which comes before it, to the record out.
pub record Reduces (S : Side) (D : List Step) (k j : ℕ) (out : Record) : Type 0 where
  pub there : 1 ≤ j
  pub before : j < k
  pub reduct : Reduct S (marks_of D j) out

-- step k, that came so, with the record r, is allowed after the steps before it
abbrev pub Allowed : Side → Calculus → List Step → ℕ → Origin → Record → Type 0
Allowed S C D k Leaf r = C.leaves r ≡ true
Allowed S C D k (Resolve p i j) r = Resolves S C D k p i j r
Allowed S C D k (Reduce j) r = Reduces S D k j r

-- a derivation: a list of steps, each of them allowed after those before it
abbrev pub Derivation : Side → Calculus → List Step → Type 0
Derivation S C D = (k : ℕ) → 1 ≤ k → k ≤ length D → Allowed S C D k (origin_of D k) (marks_of D k)
