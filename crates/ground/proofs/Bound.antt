-- Bound variables: those that a block owns, and low ones. Assumes nothing.
use Rattle.std.proofs.Common.{◌≡◌, ℕ, zero, suc, ◌<◌, true, List, [], ◌∷◌, length, get_or, is_some, refl, arith}
use Rattle.std.proofs.lemmas.Grind.{common_steps}
use Rattle.formula.specs.declared.letter.Literal.{Literal}
use Rattle.formula.specs.Prefix.{Block, has_var, order, owner}
use Rattle.formula.specs.Formula.{Formula, row_bound, well_formed, WellFormed}
use Rattle.formula.proofs.Blocks.{has_append, none_out_of_range}
use Rattle.formula.proofs.WellFormed.{tested}

-- a variable has an owner exactly if it is bound
pub owner_some_is : (bs : List Block) (x : ℕ) → is_some (owner bs x) ≡ has_var (order bs) x
owner_some_is [] x = refl
owner_some_is (b ∷ bs) x = grind (arith, common_steps, owner_some_is bs x, has_append b.vars (order bs) x)

-- a literal of a bound variable has a low variable
pub low_at : (F : Formula) → well_formed F ≡ true → (ls : List Literal) (i : ℕ) (d : Literal) → row_bound (order F.blocks) ls ≡ true → i < length ls → (get_or ls i d).variable < 1025
low_at F whole [] i d bound more = absurd (omega arith)
low_at F whole (l ∷ ls) zero d bound more = grind (arith, common_steps, good.variables, none_out_of_range F.size (order F.blocks) l.variable good.in_size)
  where
    good : WellFormed F
    good = tested F whole
low_at F whole (l ∷ ls) (suc i) d bound more = grind (arith, common_steps, low_at F whole ls i d)
