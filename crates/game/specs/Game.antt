-- The game along the prefix order: plays, who wins, and the plays that the replies lead to.
use Rattle.std.specs.Prelude.{◌≡◌, ℕ, zero, suc, ◌<◌, ◌≤◌, Bool, true, false, ◌⊎◌, List, [], ◌∷◌, length, replicate, MatchBool, slice_index_or, slice_set}
use Rattle.game.specs.Records.{Side, Plus, Minus, Star, Found, absent, has, Record, found, each_var}
use Rattle.game.specs.Rules.{Step}
use Rattle.game.specs.Plays.{meets, reply, Full}

-- A play as it is kept is a list of values, that of variable 1 first: 0, 1, or 2 where the variable has none. The value of x:
abbrev pub value : List ℕ → ℕ → ℕ
value p zero = 2
value p (suc k) = slice_index_or p k 2

-- the play p with the value b for x
abbrev pub put : List ℕ → ℕ → ℕ → List ℕ
put p zero b = p
put p (suc k) b = slice_set p k b

-- the play of n variables without values
abbrev pub no_values : ℕ → List ℕ
no_values n = replicate n 2

-- The value rule. Own side wins from the play p, where the variables of the list are still to come in this order: at the end if the
-- play is won; where the next variable is own, if some value leads to a win; where it is the opponent's, if both values do.
unfoldable pub Wins : Side → (List ℕ → Bool) → List ℕ → List ℕ → Type 0
Wins S won [] p = won p ≡ true
Wins S won (x ∷ xs) p =
    MatchBool (S.mine x) (Wins S won xs (put p x 0) ⊎ Wins S won xs (put p x 1)) (Wins S won xs (put p x 0) × Wins S won xs (put p x 1))

-- y stands in the list
abbrev pub In : ℕ → List ℕ → Type 0
In y [] = ⊥
In y (x ∷ xs) = (y ≡ x) ⊎ In y xs

-- the variables of the list are of 1 to n, no one twice, and their levels do not fall
abbrev pub Laid : Side → ℕ → List ℕ → Type 0
Laid S n [] = Unit {0}
Laid S n (x ∷ xs) = (1 ≤ x) × (x ≤ n) × (In x xs → ⊥) × ((z : ℕ) → In z xs → S.level x ≤ S.level z) × Laid S n xs

-- the list is the prefix order: level by level, all bound variables and no other
pub record Order (S : Side) (n : ℕ) (order : List ℕ) : Type 0 where
  pub laid : Laid S n order
  pub all_there : (x : ℕ) → 1 ≤ S.level x → In x order
  pub bound_there : (x : ℕ) → In x order → 1 ≤ S.level x
  pub mine_bound : (x : ℕ) → S.mine x ≡ true → 1 ≤ S.level x

-- the sign of a plain mark
abbrev pub sign : Found → Bool
sign absent = true
sign (has Plus) = true
sign (has Minus) = false
sign (has Star) = true

-- every literal of the leaf r is met
abbrev pub leaf_met : Side → (ℕ → ℕ) → Record → Bool
leaf_met S v r = each_var (λ x. meets S v x (sign (found r x))) r

-- the law of a ground, on records: a full play that meets an admitted leaf is won
abbrev pub LawOnRecords : Side → ℕ → (Record → Bool) → (List ℕ → Bool) → Type 0
LawOnRecords S n admitted won =
    (r : Record) (p : List ℕ) → admitted r ≡ true → length p ≡ n → Full S (value p) → leaf_met S (value p) r ≡ true → won p ≡ true

-- What a play without values comes to where the opponent chooses and own side gives the replies under the verdict u: the variables
-- that are still to come, and the play.
pub data Run (S : Side) (D : List Step) (among : ℕ → Bool) (u n : ℕ) (order : List ℕ) : List ℕ → List ℕ → Type 0 where
  begun : Run S D among u n order order (no_values n)
  chosen : {x : ℕ} {xs p : List ℕ} (b : ℕ) → b < 2 → S.mine x ≡ false
      → Run S D among u n order (x ∷ xs) p → Run S D among u n order xs (put p x b)
  answered : {x : ℕ} {xs p : List ℕ} → S.mine x ≡ true
      → Run S D among u n order (x ∷ xs) p → Run S D among u n order xs (put p x (reply S D among u (value p) x).0)
