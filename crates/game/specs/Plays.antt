-- Phases, replies and witnesses under a play. A play is given here by the value that each variable has: 0, 1, or 2 for none.
use Rattle.std.specs.Prelude.{◌≡◌, ℕ, zero, suc, ◌<◌, ◌≤◌, Bool, true, false, cond, ◌&&◌, ◌||◌, ◌⊎◌, List, [], ◌∷◌, length, ◌==◌}
use Rattle.game.specs.Records.{Side, Plus, Minus, Star, Found, absent, has, Record, found, each_var, over, in_tail}
use Rattle.game.specs.Rules.{Origin, Leaf, Resolve, Reduce, Step, origin_of, marks_of}

-- the literal of x with that sign is met: x has the value that meets it
abbrev pub meets : Side → (ℕ → ℕ) → ℕ → Bool → Bool
meets S v x sign = v x == S.meeting sign

-- ---- phases

-- which phase a star has after a resolve: that of the only parent that names the variable, or, where both do, that of the parent
-- whose pivot literal is met. `met`: the first parent's is, which is the pivot with sign plus. `a` and `b`: the phases in the two parents.
abbrev pub of_parents : Found → Found → Bool → Bool → Bool → Bool
of_parents absent absent met a b = true
of_parents absent (has m) met a b = b
of_parents (has m) absent met a b = a
of_parents (has m) (has n) met a b = cond met a b

-- the phase of y, from its mark, from how the step came, and from y's phase in the earlier steps
abbrev pub phase_by : Side → List Step → (ℕ → ℕ) → ℕ → Found → Origin → (ℕ → Bool) → Bool
phase_by S D v y absent h before = true
phase_by S D v y (has Plus) h before = true
phase_by S D v y (has Minus) h before = false
phase_by S D v y (has Star) Leaf before = true
phase_by S D v y (has Star) (Reduce j) before = before j
phase_by S D v y (has Star) (Resolve p i j) before =
    of_parents (found (marks_of D i) y) (found (marks_of D j) y) (meets S v p true) (before i) (before j)

-- the phase, where at most n steps are looked into
unfoldable pub phase_within : Side → List Step → (ℕ → ℕ) → ℕ → ℕ → ℕ → Bool
phase_within S D v y zero k = true
phase_within S D v y (suc n) k = phase_by S D v y (found (marks_of D k) y) (origin_of D k) (phase_within S D v y n)

-- The phase of y in step k: the sign with which the step's record counts y under this play. Parents come before their step, so k
-- steps are enough to look into.
unfoldable pub phase : Side → List Step → (ℕ → ℕ) → ℕ → ℕ → Bool
phase S D v y k = phase_within S D v y k k

-- the variable y of step k is met: its literal with its phase as sign is
abbrev pub met : Side → List Step → (ℕ → ℕ) → ℕ → ℕ → Bool
met S D v k y = meets S v y (phase S D v y k)

-- every variable of step k's record is met
abbrev pub wholly : Side → List Step → (ℕ → ℕ) → ℕ → Bool
wholly S D v k = each_var (met S D v k) (marks_of D k)

-- every variable of its base is
abbrev pub base_met : Side → List Step → (ℕ → ℕ) → ℕ → Bool
base_met S D v k = each_var (λ y. over S (marks_of D k) y || met S D v k y) (marks_of D k)

-- ---- the lowest number that passes a test

abbrev pub or_else : ℕ → ℕ → ℕ
or_else zero b = b
or_else (suc a) b = suc a

-- the lowest of the numbers 1 to n that passes the test; 0 if none does
unfoldable pub lowest : (ℕ → Bool) → ℕ → ℕ
lowest f zero = 0
lowest f (suc n) = or_else (lowest f n) (cond (f (suc n)) (suc n) 0)

-- the same in words: s is the lowest number of 1 to n that passes f
pub record Lowest (f : ℕ → Bool) (n s : ℕ) : Type 0 where
  pub low : 1 ≤ s
  pub high : s ≤ n
  pub passes : f s ≡ true
  pub none_below : (k : ℕ) → 1 ≤ k → k < s → f k ≡ false

-- no number of 1 to n passes f
abbrev pub NonePasses : (ℕ → Bool) → ℕ → Type 0
NonePasses f n = (k : ℕ) → 1 ≤ k → k ≤ n → f k ≡ false

-- ---- verdicts

abbrev pub is_empty : Record → Bool
is_empty [] = true
is_empty (e ∷ r) = false

-- the verdict of a derivation: its lowest step with an empty record; 0 if there is none
abbrev pub lowest_empty : List Step → ℕ
lowest_empty D = lowest (λ k. is_empty (marks_of D k)) (length D)

-- ---- replies

-- the parent of a reduce; 0 for any other step
abbrev pub parent : Origin → ℕ
parent Leaf = 0
parent (Resolve p i j) = 0
parent (Reduce j) = j

-- a reduce whose parent's base is met
abbrev pub ready_by : Side → List Step → (ℕ → ℕ) → Origin → Bool
ready_by S D v Leaf = false
ready_by S D v (Resolve p i j) = false
ready_by S D v (Reduce j) = base_met S D v j

-- the steps that are looked at: `among` tells which; mostly all
abbrev pub all_steps : ℕ → Bool
all_steps k = true

abbrev pub ready : Side → List Step → (ℕ → Bool) → (ℕ → ℕ) → ℕ → Bool
ready S D among v k = among k && ready_by S D v (origin_of D k)

-- step k decides the reply to x: it is a reduce, x is in its parent's tail, and its parent's base is met
abbrev pub decides : Side → List Step → (ℕ → Bool) → (ℕ → ℕ) → ℕ → ℕ → Bool
decides S D among v x k = in_tail S (marks_of D (parent (origin_of D k))) x && ready S D among v k

-- the reply to x that step s gives: the value that meets x in its parent, and s
abbrev pub reply_from : Side → List Step → (ℕ → ℕ) → ℕ → ℕ → ℕ × ℕ
reply_from S D v x zero = (0, 0)
reply_from S D v x (suc s) = (S.meeting (phase S D v x (parent (origin_of D (suc s)))), suc s)

-- The reply to own variable x under the verdict u: of the reduce steps up to u, the lowest that decides gives it. Without such a
-- step it is value 0 and step 0.
abbrev pub reply : Side → List Step → (ℕ → Bool) → ℕ → (ℕ → ℕ) → ℕ → ℕ × ℕ
reply S D among u v x = reply_from S D v x (lowest (decides S D among v x) u)

-- ---- witnesses

abbrev pub is_leaf : Origin → Bool
is_leaf Leaf = true
is_leaf (Resolve p i j) = false
is_leaf (Reduce j) = false

-- step k is a leaf, and its record is met
abbrev pub meets_leaf : Side → List Step → (ℕ → Bool) → (ℕ → ℕ) → ℕ → Bool
meets_leaf S D among v k = is_leaf (origin_of D k) && (among k && wholly S D v k)

-- The witness of a finished play under the verdict u: the lowest leaf step up to u that the play meets; 0 if there is none.
abbrev pub witness : Side → List Step → (ℕ → Bool) → ℕ → (ℕ → ℕ) → ℕ
witness S D among u v = lowest (meets_leaf S D among v) u

-- some leaf step up to u, of those that are looked at, is met
pub record LeafMet (S : Side) (D : List Step) (among : ℕ → Bool) (u : ℕ) (v : ℕ → ℕ) : Type 0 where
  pub number : ℕ
  pub low : 1 ≤ number
  pub high : number ≤ u
  pub there : among number ≡ true
  pub a_leaf : origin_of D number ≡ Leaf
  pub all_met : wholly S D v number ≡ true

-- ---- what the theorems ask of plays, sides and verdicts

-- the values agree at every variable of a level below l
abbrev pub Agree : Side → ℕ → (ℕ → ℕ) → (ℕ → ℕ) → Type 0
Agree S l v w = (z : ℕ) → S.level z < l → v z ≡ w z

-- each of the values 0 and 1 meets a literal of one sign
pub record Fair (S : Side) : Type 0 where
  pub small : (b : Bool) → S.meeting b < 2
  pub covers : (n : ℕ) → n < 2 → (n ≡ S.meeting true) ⊎ (n ≡ S.meeting false)

-- every bound variable has a value
abbrev pub Full : Side → (ℕ → ℕ) → Type 0
Full S v = (x : ℕ) → 1 ≤ S.level x → v x < 2

-- every own variable has the value of its reply
abbrev pub Follows : Side → List Step → (ℕ → Bool) → ℕ → (ℕ → ℕ) → Type 0
Follows S D among u v = (x : ℕ) → S.mine x ≡ true → v x ≡ (reply S D among u v x).0

-- the parents of a step are among those that are looked at
abbrev pub ParentsIn : (ℕ → Bool) → Origin → Type 0
ParentsIn among Leaf = Unit {0}
ParentsIn among (Resolve p i j) = (among i ≡ true) × (among j ≡ true)
ParentsIn among (Reduce j) = among j ≡ true

-- u is a verdict: a step with an empty record. It is looked at, and so are the parents of every step that is.
pub record Verdict (D : List Step) (among : ℕ → Bool) (u : ℕ) : Type 0 where
  pub some_step : 1 ≤ u
  pub in_list : u ≤ length D
  pub empty : marks_of D u ≡ []
  pub there : among u ≡ true
  pub closed : (k : ℕ) → 1 ≤ k → k ≤ u → among k ≡ true → ParentsIn among (origin_of D k)
