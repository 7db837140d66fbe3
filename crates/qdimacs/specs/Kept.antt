-- The formula that a formula of the code holds.
use Rattle.formula.specs.Formula as model
use Rattle.qdimacs.specs.declared.sealed.Formula.{Formula}
use Rattle.qdimacs.specs.declared.sealed.Sealed.{Sealed}
use Rattle.qdimacs.specs.Reading.{left_formula}
use Rattle.qdimacs.specs.View.{state_of}

abbrev pub formula_of : Formula → model.Formula
formula_of f = left_formula (state_of f.draft)

abbrev pub sealed_formula : Sealed → model.Formula
sealed_formula s = formula_of s.formula.now
