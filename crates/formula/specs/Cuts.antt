-- A list that is cut into parts by where each of them ends: blocks among the variables, rows among the literals.
use Rattle.std.specs.Prelude.{ℕ, ◌-◌, Bool, true, ◌&&◌, List, [], ◌∷◌, take, drop, nat_le}

-- the part of xs from a up to b
abbrev pub part : {X : Type 0} → ℕ → ℕ → List X → List X
part a b xs = take (b - a) (drop a xs)

-- An entry e tells by `end e` where its part ends; the first part begins at `at`, each other where the one before ends.
module _ {E : Type 0} (end : E → ℕ) where
  -- where the last part ends
  abbrev pub last_end : ℕ → List E → ℕ
  last_end at [] = at
  last_end at (e ∷ es) = last_end (end e) es

  -- no part ends before it begins
  abbrev pub climbs : ℕ → List E → Bool
  climbs at [] = true
  climbs at (e ∷ es) = nat_le at (end e) && climbs (end e) es

  -- the parts, each made up with its entry
  abbrev pub cut : {X Y : Type 0} → (E → List X → Y) → ℕ → List E → List X → List Y
  cut make at [] xs = []
  cut make at (e ∷ es) xs = make e (part at (end e) xs) ∷ cut make (end e) es xs
