-- The side of a letter in a prefix of blocks.
use Rattle.std.specs.Prelude.{◌≡◌, ℕ, Bool, true, false, List, Some, None, Option}
use Rattle.formula.specs.declared.letter.Letter.{Letter}
use Rattle.formula.specs.declared.letter.Letter.TheVariants.{Universal, Existential}
use Rattle.formula.specs.Prefix.{Block, same_letter, order, level, owner, all_in_range}
use Rattle.formula.specs.Formula.{distinct}
use Rattle.game.specs.Records.{Side}
use Rattle.game.specs.Plays.{Fair}
use Rattle.game.specs.Game.{Order}

-- an owner is that letter
abbrev pub owned_by : Letter → Option Letter → Bool
owned_by own None = false
owned_by own (Some l) = same_letter own l

-- The value that meets a literal of that sign: side `a` meets a literal that is false, side `e` one that is true.
abbrev pub meeting_value : Letter → Bool → ℕ
meeting_value Universal true = 0
meeting_value Universal false = 1
meeting_value Existential true = 1
meeting_value Existential false = 0

-- the game of a prefix as the side of a letter sees it
abbrev pub side : Letter → List Block → Side
side own blocks = record { mine = λ x. owned_by own (owner blocks x); level = level blocks; meeting = meeting_value own }

-- the order of a prefix, whose variables are of 1 to n and none twice, is an order of the side's variables
abbrev pub PrefixOrdered : Type 0
PrefixOrdered =
    (own : Letter) (blocks : List Block) (n : ℕ) → all_in_range n (order blocks) ≡ true → distinct (order blocks) ≡ true
    → Order (side own blocks) n (order blocks) × Fair (side own blocks)
