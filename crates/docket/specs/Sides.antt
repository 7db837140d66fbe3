-- The game that a side of the code sees.
use Rattle.std.specs.Prelude.{ℕ, Bool, not, ◌&&◌, nat_lt}
use Rattle.game.specs.Records as game
use Rattle.game.specs.Prefix.{side}
use Rattle.qdimacs.specs.Kept.{sealed_formula}
use Rattle.docket.specs.declared.side.Side.{Side}

abbrev pub seen : Side → game.Side
seen s = side s.own (sealed_formula s.formula).blocks

-- x stays in a record whose highest opponent's level is `ceiling`: it is not in the tail
abbrev pub stays : game.Side → ℕ → ℕ → Bool
stays S ceiling x = not (S.mine x && nat_lt ceiling (S.level x))
