-- The signs of a leaf's literals by variable: found, and made one by one. Assumes nothing.
use Rattle.std.proofs.Common.{◌≡◌, ℕ, ◌+◌, ◌<◌, ◌≤◌, Bool, false, true, cond, eqb, List, [], ◌∷◌, length, get_or, drop, set, replicate, refl, arith}
use Rattle.std.proofs.lemmas.Grind.{common_steps}
use Rattle.std.proofs.lemmas.List.{drop_more}
use Rattle.std.proofs.lemmas.Bool.{cases_eq}
use Rattle.formula.specs.declared.letter.Literal.{Literal}
use Rattle.formula.specs.Matrix.{names}
use Rattle.formula.specs.Formula.{row_distinct}
use Rattle.game.specs.Leaves.{rising}
use Rattle.game.specs.Grounds.{some_literal, has_literal, same_sign}
use Rattle.ground.specs.declared.signs.Sign.{Sign}
use Rattle.ground.specs.declared.signs.Sign.TheVariants.{Absent, Positive, Negative}
use Rattle.ground.specs.Signs.{is_sign, sign_of}

-- ---- rising lists name no variable twice

-- a rising list above a names no lower variable
above_new : (a : ℕ) (ls : List Literal) (x : ℕ) → rising a ls ≡ true → x ≤ a → names ls x ≡ false
unfolding rising
above_new a [] x up low = refl
above_new a (l ∷ ls) x up low = grind (arith, common_steps, above_new l.variable ls x)

pub rising_distinct : (a : ℕ) (ls : List Literal) → rising a ls ≡ true → row_distinct ls ≡ true
unfolding rising
rising_distinct a [] up = refl
rising_distinct a (l ∷ ls) up = grind (arith, common_steps, above_new l.variable ls l.variable, rising_distinct l.variable ls)

-- ---- a literal by its variable's sign

-- one sign over another
abbrev pub over : Sign → Sign → Sign
over Absent s = s
over Positive s = Positive
over Negative s = Negative

-- the sign that the list gives a variable last
unfoldable pub sign_in : List Literal → ℕ → Sign
sign_in [] x = Absent
sign_in (l ∷ ls) x = over (sign_in ls x) (cond (eqb l.variable x) (sign_of l.positive) Absent)

-- what a list does not name has no sign in it, and no literal
unsigned : (ls : List Literal) (x : ℕ) → names ls x ≡ false → sign_in ls x ≡ Absent
unfolding sign_in
unsigned [] x new = refl
unsigned (l ∷ ls) x new = grind (arith, common_steps, unsigned ls x)

unnamed_has : (ls : List Literal) (k : Literal) → names ls k.variable ≡ false → has_literal ls k ≡ false
unfolding some_literal
unnamed_has [] k new = refl
unnamed_has (l ∷ ls) k new = grind (arith, common_steps, unnamed_has ls k)

over_absent : (s : Sign) → over s Absent ≡ s
over_absent Absent = refl
over_absent Positive = refl
over_absent Negative = refl

sign_is : (a b : Bool) → is_sign (sign_of a) b ≡ same_sign b a
sign_is true true = refl
sign_is true false = refl
sign_is false true = refl
sign_is false false = refl

-- in a list that names no variable twice, a literal stands exactly where its variable has its sign
pub has_signed : (ls : List Literal) (k : Literal) → row_distinct ls ≡ true → has_literal ls k ≡ is_sign (sign_in ls k.variable) k.positive
unfolding some_literal sign_in
has_signed [] k once = refl
has_signed (l ∷ ls) k once = grind (arith, common_steps, has_signed ls k, unsigned ls l.variable, unnamed_has ls k, over_absent, sign_is)

-- ---- the signs of a list, made one by one: those of what is left come over those that are made

pub no_signs : (n x : ℕ) (s : Sign) → over s (get_or (replicate n Absent) x Absent) ≡ s
no_signs n x Absent = grind (arith, common_steps)
no_signs n x Positive = refl
no_signs n x Negative = refl

pub one_more : (signs : List Sign) (ls : List Literal) (i : ℕ) (d : Literal) (x : ℕ) → i < length ls → (get_or ls i d).variable < length signs
    → over (sign_in (drop (i + 1) ls) x) (get_or (set signs (get_or ls i d).variable (sign_of (get_or ls i d).positive)) x Absent)
    ≡ over (sign_in (drop i ls) x) (get_or signs x Absent)
unfolding sign_in
one_more signs ls i d x more low = grind (arith, common_steps, drop_more ls i d, cases_eq (get_or ls i d).variable x)

pub all_made : (signs : List Sign) (ls : List Literal) (i : ℕ) (x : ℕ) → length ls ≤ i → over (sign_in (drop i ls) x) (get_or signs x Absent) ≡ get_or signs x Absent
unfolding sign_in
all_made signs ls i x end = grind (arith, common_steps)
