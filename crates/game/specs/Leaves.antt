-- Leaves: lists of literals, and the records that they are as marks.
use Rattle.std.specs.Prelude.{ℕ, Bool, true, false, ◌&&◌, List, [], ◌∷◌, nat_lt}
use Rattle.formula.specs.declared.letter.Literal.{Literal}
use Rattle.game.specs.declared.record.Entry.{Entry}
use Rattle.game.specs.Records.{Side, Mark, Plus, Minus, Star, Record}
use Rattle.game.specs.Plays.{meets}

-- the variables rise strictly, and all are above a
unfoldable pub rising : ℕ → List Literal → Bool
rising a [] = true
rising a (l ∷ ls) = nat_lt a l.variable && rising l.variable ls

-- every literal passes the test
unfoldable pub each_literal : (Literal → Bool) → List Literal → Bool
each_literal f [] = true
each_literal f (l ∷ ls) = f l && each_literal f ls

-- a play meets every literal
abbrev pub all_met : Side → (ℕ → ℕ) → List Literal → Bool
all_met S v ls = each_literal (λ l. meets S v l.variable l.positive) ls

-- a sign as a mark, and a plain mark as a sign
abbrev pub mark_from : Bool → Mark
mark_from true = Plus
mark_from false = Minus

abbrev pub sign_from : Mark → Bool
sign_from Plus = true
sign_from Minus = false
sign_from Star = true

-- a literal as a mark
abbrev pub entry_from : Literal → Entry
entry_from l = record { variable = l.variable; mark = mark_from l.positive }

-- literals as marks: the record of a leaf step
unfoldable pub marked : List Literal → Record
marked [] = []
marked (l ∷ ls) = entry_from l ∷ marked ls

-- marks as literals
unfoldable pub literals : Record → List Literal
literals [] = []
literals (e ∷ r) = record { variable = e.variable; positive = sign_from e.mark } ∷ literals r

abbrev pub is_plain : Mark → Bool
is_plain Plus = true
is_plain Minus = true
is_plain Star = false

-- no mark is a star: the record is that of a list of literals
unfoldable pub all_plain : Record → Bool
all_plain [] = true
all_plain (e ∷ r) = is_plain e.mark && all_plain r
