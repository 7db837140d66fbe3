-- The prefix: blocks of variables, each block with a letter.
use Rattle.std.specs.Prelude.{◌≡◌, ℕ, ◌+◌, ◌<◌, Bool, true, false, cond, ◌&&◌, ◌||◌, List, [], ◌∷◌, ◌++◌, length, map, Some, None, Ok, Err, Option, Result, ◌==◌, nat_le, slice_index}
use Rattle.std.specs.List.{flat_map}
use Rattle.refusal.specs.declared.Reason.{Reason}
use Rattle.refusal.specs.declared.Reason.TheVariants.{VariableOutOfRange, BoundTwice, BadBlock, TooMany, Unbound}
use Rattle.formula.specs.declared.letter.Letter.{Letter}
use Rattle.formula.specs.declared.letter.Letter.TheVariants.{Universal, Existential}
use Rattle.formula.specs.Sections.{Section}

-- a block: its letter, and its variables in the order of binding
pub record Block : Type 0 where
  pub letter : Letter
  pub vars : List ℕ

abbrev pub same_letter : Letter → Letter → Bool
same_letter Universal Universal = true
same_letter Universal Existential = false
same_letter Existential Universal = false
same_letter Existential Existential = true

-- whether x stands in the list
abbrev pub has_var : List ℕ → ℕ → Bool
has_var [] x = false
has_var (z ∷ zs) x = z == x || has_var zs x

-- the prefix order: block by block, in a block as bound
abbrev pub order : List Block → List ℕ
order blocks = flat_map (λ (b : Block). b.vars) blocks

-- the place of x's block, the first having the number l; 0 where x is unbound
abbrev pub level_from : ℕ → List Block → ℕ → ℕ
level_from l [] x = 0
level_from l (b ∷ bs) x = cond (has_var b.vars x) l (level_from (l + 1) bs x)

-- the level of a variable: the place of its block, counted from 1; 0 where it is unbound
abbrev pub level : List Block → ℕ → ℕ
level blocks x = level_from 1 blocks x

-- the owner of a variable: the letter of its block
abbrev pub owner : List Block → ℕ → Option Letter
owner [] x = None
owner (b ∷ bs) x = cond (has_var b.vars x) (Some b.letter) (owner bs x)

-- the letter of the last block is this one
abbrev pub ends_in : Letter → List Block → Bool
ends_in l [] = false
ends_in l (b ∷ []) = same_letter l b.letter
ends_in l (b ∷ c ∷ bs) = ends_in l (c ∷ bs)

-- a variable's number lies in 1..n
abbrev pub in_range : ℕ → ℕ → Bool
in_range n x = nat_le 1 x && nat_le x n

-- ---- a prefix that is being read

-- n, the complete blocks, and the variables of the block that is being read
pub record PrefixModel : Type 0 where
  pub size : ℕ
  pub blocks : List Block
  pub begun : List ℕ

-- a prefix of n variables, of which none is bound
abbrev pub unbound : ℕ → PrefixModel
unbound n = record { size = n; blocks = []; begun = [] }

-- x is bound, in a complete block or in the one that is being read
abbrev pub bound : PrefixModel → ℕ → Bool
bound p x = has_var (order p.blocks ++ p.begun) x

abbrev pub with_var : ℕ → PrefixModel → PrefixModel
with_var x p = record { size = p.size; blocks = p.blocks; begun = p.begun ++ x ∷ [] }

abbrev pub with_block : Letter → PrefixModel → PrefixModel
with_block l p = record { size = p.size; blocks = p.blocks ++ record { letter = l; vars = p.begun } ∷ []; begun = [] }

-- why no block of that letter may follow: its neighbour has it too, or there are 64 blocks
abbrev pub no_block : Letter → PrefixModel → Option Reason
no_block l p = cond (ends_in l p.blocks) (Some BadBlock) (cond (nat_le 64 (length p.blocks)) (Some TooMany) None)

-- why x may not be bound: it is out of 1..n, or bound before
abbrev pub unbindable : ℕ → PrefixModel → Option Reason
unbindable x p = cond (in_range p.size x) (cond (bound p x) (Some BoundTwice) None) (Some VariableOutOfRange)

-- why a row may not name x: it is out of 1..n, or unbound
abbrev pub unnameable : ℕ → PrefixModel → Option Reason
unnameable x p = cond (in_range p.size x) (cond (bound p x) None (Some Unbound)) (Some VariableOutOfRange)

-- one variable more in the block that is being read
abbrev pub bind : ℕ → PrefixModel → Result PrefixModel Reason
bind x p = elim (unbindable x p) [ Some r ↦ Err r | None ↦ Ok (with_var x p) ]

-- the end of the block that is being read
abbrev pub end_block : Letter → PrefixModel → Result PrefixModel Reason
end_block l p = elim (no_block l p) [
  | Some r ↦ Err r
  | None ↦ cond (length p.begun == 0) (Err BadBlock) (Ok (with_block l p))
]

-- ---- how a prefix is kept: the blocks as sections of the variables

abbrev pub as_block : Section Letter ℕ → Block
as_block s = record { letter = s.head; vars = s.items }

abbrev pub blocks_in : List (Section Letter ℕ) → List Block
blocks_in ss = map as_block ss

-- the blocks with the one that is being read behind them, whatever its letter
abbrev pub with_begun : List Block → List ℕ → List Block
with_begun blocks begun = blocks ++ record { letter = Universal; vars = begun } ∷ []

-- the level of a variable so far: the block that is being read counts too
abbrev pub level_so_far : PrefixModel → ℕ → ℕ
level_so_far p x = level (with_begun p.blocks p.begun) x

-- each variable has a mark: its level so far
abbrev pub LevelsTold : List ℕ → List Block → List ℕ → Type 0
LevelsTold levels blocks begun = (x : ℕ) → x < 1025 → slice_index levels x ≡ level (with_begun blocks begun) x

-- all variables lie in 1..n
abbrev pub all_in_range : ℕ → List ℕ → Bool
all_in_range n [] = true
all_in_range n (x ∷ xs) = in_range n x && all_in_range n xs

-- how many marks are not 0
abbrev pub marked : List ℕ → ℕ
marked [] = 0
marked (m ∷ ms) = cond (m == 0) (marked ms) (marked ms + 1)
