-- The numbers of the text: `0`, or an optional minus and one to nine digits of which the first is not 0.
use Rattle.std.specs.Prelude.{ℕ, ◌+◌, ◌-◌, ◌*◌, Bool, cond, ◌&&◌, List, [], ◌∷◌, length, ℤ, pos, neg_ℤ, Some, None, Option, ◌==◌, nat_le}
use Rattle.std.specs.Option.{option_map}

-- a byte from `0` (48) to `9` (57)
abbrev pub digit : ℕ → Bool
digit b = nat_le 48 b && nat_le b 57

-- the number that the digits bs write after digits that wrote n; nothing where a byte is no digit
abbrev pub read_on : ℕ → List ℕ → Option ℕ
read_on n [] = Some n
read_on n (b ∷ bs) = cond (digit b) (read_on (10 * n + (b - 48)) bs) None

-- one to nine digits, the first not 0
abbrev pub magnitude : List ℕ → Option ℕ
magnitude [] = None
magnitude (b ∷ bs) = cond (b == 48) None (cond (nat_le (length (b ∷ bs)) 9) (read_on 0 (b ∷ bs)) None)

-- the number with a minus
abbrev pub below_zero : ℕ → ℤ
below_zero n = neg_ℤ (pos n)

-- the number that a word writes, if it is one: a minus (45) and a magnitude, the one digit 0, or a magnitude
abbrev pub number : List ℕ → Option ℤ
number [] = None
number (b ∷ bs) = cond (b == 45) (option_map below_zero (magnitude bs))
    (cond (b == 48 && length bs == 0) (Some (pos 0)) (option_map pos (magnitude (b ∷ bs))))
