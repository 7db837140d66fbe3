-- The signs of a leaf's literals by variable, so that a literal is found in one look-up.
use Rattle.std.specs.Prelude.{Bool, true, false, not, slice_index_or}
use Rattle.formula.specs.declared.letter.Literal.{Literal}
use Rattle.ground.specs.declared.signs.Sign.{Sign}
use Rattle.ground.specs.declared.signs.Sign.TheVariants.{Absent, Positive, Negative}
use Rattle.ground.specs.declared.signs.Signs.{Signs}

-- the sign of a literal
abbrev pub sign_of : Bool → Sign
sign_of true = Positive
sign_of false = Negative

-- there is a sign, and it is that one
abbrev pub is_sign : Sign → Bool → Bool
is_sign Absent positive = false
is_sign Positive positive = positive
is_sign Negative positive = not positive

-- the literal's variable has the literal's sign
abbrev pub has_sign : Signs → Literal → Bool
has_sign signs l = is_sign (slice_index_or signs.by_variable l.variable Absent) l.positive
