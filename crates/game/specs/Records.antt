-- The two sides, marks, records, tail and base.
use Rattle.std.specs.Prelude.{◌≡◌, ℕ, ◌<◌, max, Bool, true, false, cond, ◌&&◌, ◌||◌, List, [], ◌∷◌, ◌==◌, nat_lt}
pub use Rattle.game.specs.declared.record.Mark.{Mark}
pub use Rattle.game.specs.declared.record.Mark.TheVariants.{Plus, Minus, Star}
pub use Rattle.game.specs.declared.record.Entry.{Entry}

-- The game as one side sees it, which is called own side; the other is the opponent. `mine x`: x is bound in a block of own
-- side. `level x`: the place of x's block, from 1; 0 where x is unbound. `meeting sign`: the value that meets a literal of that
-- sign, that is the one which own side wants it to have.
pub record Side : Type 0 where
  pub mine : ℕ → Bool
  pub level : ℕ → ℕ
  pub meeting : Bool → ℕ

-- a record: variables with one mark each (in rising order: `Above`)
abbrev pub Record : Type 0
Record = List Entry

-- what a record says of a variable: nothing, or its mark
pub data Found : Type 0 where
  absent : Found
  has : Mark → Found

-- the mark of x in r
unfoldable pub found : Record → ℕ → Found
found [] x = absent
found (e ∷ r) x = cond (e.variable == x) (has e.mark) (found r x)

abbrev pub is_there : Found → Bool
is_there absent = false
is_there (has m) = true

-- r gives x a mark
abbrev pub named : Record → ℕ → Bool
named r x = is_there (found r x)

-- every variable of r passes the test
unfoldable pub each_var : (ℕ → Bool) → Record → Bool
each_var f [] = true
each_var f (e ∷ r) = f e.variable && each_var f r

-- some variable of r passes the test
unfoldable pub some_var : (ℕ → Bool) → Record → Bool
some_var f [] = false
some_var f (e ∷ r) = f e.variable || some_var f r

-- the highest level of an opponent's variable in r; 0 where r has none
unfoldable pub ceiling : Side → Record → ℕ
ceiling S [] = 0
ceiling S (e ∷ r) = cond (S.mine e.variable) (ceiling S r) (max (S.level e.variable) (ceiling S r))

-- x is own, and its level is above that of every opponent's variable in r
abbrev pub over : Side → Record → ℕ → Bool
over S r x = S.mine x && nat_lt (ceiling S r) (S.level x)

-- The tail of a record: its own variables whose level is above that of every opponent's variable in it (`TailInWords`). The
-- rest of the record is its base.
abbrev pub in_tail : Side → Record → ℕ → Bool
in_tail S r x = named r x && over S r x

-- the variables of r rise strictly, and all are above a
abbrev pub Above : ℕ → Record → Type 0
Above a [] = Unit {0}
Above a (e ∷ r) = (a < e.variable) × Above e.variable r

-- A record in full: its variables rise strictly from 1 on, and a star is only on an own variable.
pub record IsRecord (S : Side) (r : Record) : Type 0 where
  pub rises : Above 0 r
  pub own_stars : (x : ℕ) → found r x ≡ has Star → S.mine x ≡ true
