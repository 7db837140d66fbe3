-- The rules as functions on rising records: they answer the record of the step, or which condition forbids it.
use Rattle.std.specs.Prelude.{◌≡◌, ℕ, ◌<◌, Bool, true, false, cond, not, ◌&&◌, ◌||◌, ◌↔◌, List, [], ◌∷◌, Ok, Err, Result, ◌==◌, ◌≢◌, nat_le, nat_lt}
use Rattle.refusal.specs.declared.Reason.{Reason}
use Rattle.refusal.specs.declared.Reason.TheVariants.{PivotNotOpponents, PivotMarks, OpponentClash, OwnClash, EmptyTail}
use Rattle.formula.specs.declared.letter.Literal.{Literal}
use Rattle.game.specs.Records.{Side, Mark, Plus, Minus, Star, Found, absent, has, Entry, Record, found, each_var, some_var, over, Above, IsRecord}
use Rattle.game.specs.Rules.{same_plain, Resolvent, Reduct}
use Rattle.game.specs.Leaves.{rising, marked}

-- ---- resolve

-- the mark of a variable that both parents name: the same plain mark, else star
abbrev pub joined_mark : Mark → Mark → Mark
joined_mark Plus Plus = Plus
joined_mark Plus Minus = Star
joined_mark Plus Star = Star
joined_mark Minus Plus = Star
joined_mark Minus Minus = Minus
joined_mark Minus Star = Star
joined_mark Star Plus = Star
joined_mark Star Minus = Star
joined_mark Star Star = Star

abbrev pub joined_entry : Entry → Entry → Entry
joined_entry e d = record { variable = e.variable; mark = joined_mark e.mark d.mark }

-- Two rising records in one. `merge_from e rest s` puts e, and what `rest` makes of the first record's later entries, in among s.
unfoldable pub merge_from : Entry → (Record → Record) → Record → Record
merge_from e rest [] = e ∷ rest []
merge_from e rest (d ∷ s) =
    elim (nat_lt e.variable d.variable) [
      | true ↦ e ∷ rest (d ∷ s)
      | false ↦ elim (nat_lt d.variable e.variable) [
        | true ↦ d ∷ merge_from e rest s
        | false ↦ record { variable = e.variable; mark = joined_mark e.mark d.mark } ∷ rest s
      ]
    ]

unfoldable pub merge : Record → Record → Record
merge [] s = s
merge (e ∷ r) s = merge_from e (merge r) s

-- the entries of r that pass the test
unfoldable pub kept : (ℕ → Bool) → Record → Record
kept f [] = []
kept f (e ∷ r) = cond (f e.variable) (e ∷ kept f r) (kept f r)

-- the merged record without the pivot
abbrev pub resolved : ℕ → Record → Record → Record
resolved p r s = kept (λ x. not (x == p)) (merge r s)

-- x is bound, and the opponent's
abbrev pub opponents : Side → ℕ → Bool
opponents S x = not (S.mine x) && nat_le 1 (S.level x)

abbrev pub is_plus : Found → Bool
is_plus absent = false
is_plus (has Plus) = true
is_plus (has Minus) = false
is_plus (has Star) = false

abbrev pub is_minus : Found → Bool
is_minus absent = false
is_minus (has Plus) = false
is_minus (has Minus) = true
is_minus (has Star) = false

-- the pivot is plus in the first parent and minus in the second
abbrev pub pivot_marks : ℕ → Record → Record → Bool
pivot_marks p r s = is_plus (found r p) && is_minus (found s p)

-- a variable does not clash: one parent at most names it, or both give it the same plain mark
abbrev pub agree : Found → Found → Bool
agree absent b = true
agree (has m) absent = true
agree (has m) (has n) = same_plain m n

-- no opponent's variable clashes, the pivot aside
abbrev pub opponents_agree : Side → ℕ → Record → Record → Bool
opponents_agree S p r s = each_var (λ x. (x == p) || (S.mine x || agree (found r x) (found s x))) r

-- every own variable that clashes has a level above the pivot's
abbrev pub clashes_above : Side → ℕ → Record → Record → Bool
clashes_above S p r s = each_var (λ x. not (S.mine x) || (agree (found r x) (found s x) || nat_lt (S.level p) (S.level x))) r

-- the resolve of r and s on p
abbrev pub resolve_rule : Side → ℕ → Record → Record → Result Record Reason
resolve_rule S p r s =
    cond (opponents S p)
    (cond (pivot_marks p r s)
    (cond (opponents_agree S p r s)
    (cond (clashes_above S p r s)
    (Ok (resolved p r s))
    (Err OwnClash))
    (Err OpponentClash))
    (Err PivotMarks))
    (Err PivotNotOpponents)

-- ---- reduce

-- the record without its tail
abbrev pub reduced : Side → Record → Record
reduced S r = kept (λ x. not (over S r x)) r

-- the reduce of r
abbrev pub reduce_rule : Side → Record → Result Record Reason
reduce_rule S r = cond (some_var (over S r) r) (Ok (reduced S r)) (Err EmptyTail)

-- ---- the functions say what the rules say

pub record RulesAgree : Type 0 where
  -- A function answers a record exactly if the rule, variable by variable, allows it, and it rises.
  pub resolves : (S : Side) (p : ℕ) (r s out : Record) → Above 0 r → Above 0 s
      → (resolve_rule S p r s ≡ Ok out) ↔ (Resolvent S p r s out × Above 0 out)
  pub reduces : (S : Side) (r out : Record) → Above 0 r → (reduce_rule S r ≡ Ok out) ↔ (Reduct S r out × Above 0 out)
  -- The two tests for a clash in words, which look at the variables of the first parent only.
  pub opponents_in_words : (S : Side) (p : ℕ) (r s : Record)
      → (opponents_agree S p r s ≡ true) ↔ ((x : ℕ) → (x ≢ p) → S.mine x ≡ false → agree (found r x) (found s x) ≡ true)
  pub clashes_in_words : (S : Side) (p : ℕ) (r s : Record)
      → (clashes_above S p r s ≡ true) ↔ ((x : ℕ) → S.mine x ≡ true → agree (found r x) (found s x) ≡ false → S.level p < S.level x)
  -- The rules allow one rising record at most.
  pub resolved_only : (S : Side) (p : ℕ) (r s a b : Record) → Above 0 r → Above 0 s
      → Resolvent S p r s a → Above 0 a → Resolvent S p r s b → Above 0 b → a ≡ b
  pub reduced_only : (S : Side) (r a b : Record) → Above 0 r → Reduct S r a → Above 0 a → Reduct S r b → Above 0 b → a ≡ b
  -- What comes of records, and of literals that rise, is a record.
  pub leaf_is : (S : Side) (ls : List Literal) → rising 0 ls ≡ true → IsRecord S (marked ls)
  pub resolved_is : (S : Side) (p : ℕ) (r s out : Record) → IsRecord S r → IsRecord S s → resolve_rule S p r s ≡ Ok out → IsRecord S out
  pub reduced_is : (S : Side) (r out : Record) → IsRecord S r → reduce_rule S r ≡ Ok out → IsRecord S out
