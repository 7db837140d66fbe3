-- The dockets that calls lead to, refused calls counted. Each call is handed one ground and the formula that it was made for.
use Rattle.std.specs.Prelude.{ℕ, List}
use Rattle.formula.specs.declared.letter.Literal.{Literal}
use Rattle.game.specs.Grounds.{Ground}
use Rattle.calls.specs.Dockets.{Docket, opened, leaf, resolve, reduce, close}

-- one call on the docket D, accepted or refused, and the docket after it
pub data Acts (G : Ground) (D : Docket) : Docket → Type 0 where
  by_leaf : (ls : List Literal) → Acts G D (leaf G.formula G D ls).1
  by_resolve : (p i j : ℕ) → Acts G D (resolve G.formula G D p i j).1
  by_reduce : (j : ℕ) → Acts G D (reduce G.formula G D j).1
  by_close : Acts G D (close G.formula G D).1

-- the docket was new, opened for any n on any memory, and then such calls alone acted upon it, in any order and number
pub data Reached (G : Ground) : Docket → Type 0 where
  new : (n step_places mark_places : ℕ) → Reached G (opened n step_places mark_places)
  acted : {D E : Docket} → Reached G D → Acts G D E → Reached G E

-- the second docket came from the first by such calls
pub data Later (G : Ground) (D : Docket) : Docket → Type 0 where
  same : Later G D D
  later : {E H : Docket} → Later G D E → Acts G E H → Later G D H
