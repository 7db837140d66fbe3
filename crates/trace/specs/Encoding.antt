-- How a record is written, and that what is written is read back.
use Rattle.std.specs.Prelude.{◌≡◌, ℕ, ◌+◌, ◌-◌, ◌<◌, ◌≤◌, ◌^◌, true, false, cond, List, [], ◌∷◌, ◌++◌, length, Ok, ◌==◌}
use Rattle.std.specs.Int.{w16, w32, to_le_bytes}
use Rattle.formula.specs.declared.letter.Literal.{Literal}
use Rattle.trace.specs.Format.{Saying, leaf, resolve, reduce, ending, record_of}

-- a literal as a signed number of four bytes: the number below 0 by what is left to 2^32
abbrev pub number_of : Literal → ℕ
number_of l = cond l.positive l.variable (cond (l.variable == 0) 0 (4294967296 - l.variable))

abbrev pub literal_bytes : List Literal → List ℕ
literal_bytes [] = []
literal_bytes (l ∷ ls) = to_le_bytes w32 (number_of l) ++ literal_bytes ls

abbrev pub kind_of : Saying → ℕ
kind_of (leaf ls) = 1
kind_of (resolve p i j) = 2
kind_of (reduce i) = 3
kind_of ending = 9

abbrev pub payload_bytes : Saying → List ℕ
payload_bytes (leaf ls) = literal_bytes ls
payload_bytes (resolve p i j) = to_le_bytes w32 p ++ (to_le_bytes w32 i ++ to_le_bytes w32 j)
payload_bytes (reduce i) = to_le_bytes w32 i
payload_bytes ending = []

-- the total length, the kind, and the payload
abbrev pub encode : Saying → List ℕ
encode r = to_le_bytes w16 (length (payload_bytes r) + 4) ++ (to_le_bytes w16 (kind_of r) ++ payload_bytes r)

-- a literal that a signed number of four bytes can say: one above 0 has a variable from 1 to 2^31 - 1, any other one from 0 to 2^31
abbrev pub FitsSigned : Literal → Type 0
FitsSigned l = elim l.positive [ true ↦ (1 ≤ l.variable) × (l.variable < 2147483648) | false ↦ l.variable ≤ 2147483648 ]

abbrev pub AllFit : List Literal → Type 0
AllFit [] = Unit {0}
AllFit (l ∷ ls) = FitsSigned l × AllFit ls

-- a record that the format can write
abbrev pub Fits : Saying → Type 0
Fits (leaf ls) = (length ls ≤ 16382) × AllFit ls
Fits (resolve p i j) = (p < 2 ^ 32) × (i < 2 ^ 32) × (j < 2 ^ 32)
Fits (reduce i) = i < 2 ^ 32
Fits ending = Unit {0}

-- Every record that the format can write is cut back to itself, whatever stands behind it.
abbrev pub ToldBack : Type 0
ToldBack = (r : Saying) (rest : List ℕ) → Fits r → record_of (encode r ++ rest) ≡ Ok (r, rest)
