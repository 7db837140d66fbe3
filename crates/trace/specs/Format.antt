-- The format of a trace: what the bytes of a record say.
use Rattle.std.specs.Prelude.{ℕ, ◌+◌, ◌-◌, ◌%◌, Bool, false, cond, ◌||◌, List, [], ◌∷◌, length, take, drop, Some, None, Ok, Err, Option, Result, ◌==◌, nat_le, nat_lt}
use Rattle.std.specs.Int.{w16, w32, from_le_bytes}
use Rattle.refusal.specs.declared.Reason.{Reason}
use Rattle.refusal.specs.declared.Reason.TheVariants.{CutShort, UnknownKind, WrongLength}
use Rattle.formula.specs.declared.letter.Literal.{Literal}

-- what a record says: a leaf's literals, a resolve's pivot and parents, a reduce's parent, or the end of the trace
pub data Saying : Type 0 where
  leaf : List Literal → Saying
  resolve : ℕ → ℕ → ℕ → Saying
  reduce : ℕ → Saying
  ending : Saying

-- two bytes, and four, as a number: the lowest comes first
abbrev pub two : ℕ → ℕ → ℕ
two a b = from_le_bytes w16 (a ∷ b ∷ [])

abbrev pub four : ℕ → ℕ → ℕ → ℕ → ℕ
four a b c d = from_le_bytes w32 (a ∷ b ∷ c ∷ d ∷ [])

-- a signed number of four bytes as a literal: the variable is its size, and one above 0 stands there plainly
abbrev pub literal_of : ℕ → Literal
literal_of n = cond (nat_lt n 2147483648) (record { variable = n; positive = nat_le 1 n }) (record { variable = 4294967296 - n; positive = false })

-- four bytes after four bytes
abbrev pub literals : List ℕ → List Literal
literals (a ∷ b ∷ c ∷ d ∷ bs) = literal_of (four a b c d) ∷ literals bs
literals (a ∷ b ∷ c ∷ []) = []
literals (a ∷ b ∷ []) = []
literals (a ∷ []) = []
literals [] = []

abbrev pub in_fours : List ℕ → Bool
in_fours bs = (length bs % 4) == 0

abbrev pub resolve_of : List ℕ → Option Saying
resolve_of (p0 ∷ p1 ∷ p2 ∷ p3 ∷ f0 ∷ f1 ∷ f2 ∷ f3 ∷ s0 ∷ s1 ∷ s2 ∷ s3 ∷ []) = Some (resolve (four p0 p1 p2 p3) (four f0 f1 f2 f3) (four s0 s1 s2 s3))
resolve_of bs = None

abbrev pub reduce_of : List ℕ → Option Saying
reduce_of (p0 ∷ p1 ∷ p2 ∷ p3 ∷ []) = Some (reduce (four p0 p1 p2 p3))
reduce_of bs = None

abbrev pub ending_of : List ℕ → Option Saying
ending_of [] = Some ending
ending_of (b ∷ bs) = None

-- kinds: 1 a leaf, 2 a resolve, 3 a reduce, 9 the end
abbrev pub known : ℕ → Bool
known kind = kind == 1 || (kind == 2 || (kind == 3 || kind == 9))

abbrev pub payload_of : ℕ → List ℕ → Option Saying
payload_of kind bs =
    cond (kind == 1) (cond (in_fours bs) (Some (leaf (literals bs))) None)
    (cond (kind == 2) (resolve_of bs) (cond (kind == 3) (reduce_of bs) (cond (kind == 9) (ending_of bs) None)))

-- The record at the front of the bytes, and what is behind it; or why there is none. Its total length counts the header too.
abbrev pub record_in : ℕ → ℕ → List ℕ → Result (Saying × List ℕ) Reason
record_in total kind bs =
    cond (nat_lt (length bs + 4) total) (Err CutShort)
    (cond (known kind)
    (cond (nat_lt total 4) (Err WrongLength)
    (elim (payload_of kind (take (total - 4) bs)) [ Some r ↦ Ok (r, drop (total - 4) bs) | None ↦ Err WrongLength ]))
    (Err UnknownKind))

abbrev pub record_of : List ℕ → Result (Saying × List ℕ) Reason
record_of (l0 ∷ l1 ∷ k0 ∷ k1 ∷ bs) = record_in (two l0 l1) (two k0 k1) bs
record_of (a ∷ b ∷ c ∷ []) = Err CutShort
record_of (a ∷ b ∷ []) = Err CutShort
record_of (a ∷ []) = Err CutShort
record_of [] = Err CutShort
