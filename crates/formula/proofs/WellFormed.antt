-- The test for a well-formed formula, and its words. Assumes nothing.
use Rattle.std.proofs.Common.{◌≡◌, true}
use Rattle.std.proofs.lemmas.Bool.{and_parts, and_from, leb-true, le-leb, eqb-true, eq-eqb}
use Rattle.formula.specs.Formula.{Formula, WellFormed, well_formed}

pub tested : (F : Formula) → well_formed F ≡ true → WellFormed F
tested F yes_all =
    let a = and_parts _ _ yes_all in
    let b = and_parts _ _ a.1 in
    let c = and_parts _ _ b.1 in
    let d = and_parts _ _ c.1 in
    let e = and_parts _ _ d.1 in
    let f = and_parts _ _ e.1 in
    let g = and_parts _ _ f.1 in
    let h = and_parts _ _ g.1 in
    let i = and_parts _ _ h.1 in
    record {
      variables = leb-true _ _ a.0;
      few_blocks = leb-true _ _ b.0;
      letters = c.0;
      filled = d.0;
      in_size = e.0;
      once = f.0;
      announced = eqb-true _ _ g.0;
      few_rows = leb-true _ _ h.0;
      few_literals = leb-true _ _ i.0;
      rows_are = i.1;
    }

pub passes : (F : Formula) → WellFormed F → well_formed F ≡ true
passes F w =
    and_from _ _ (le-leb _ _ w.variables)
    (and_from _ _ (le-leb _ _ w.few_blocks)
    (and_from _ _ w.letters
    (and_from _ _ w.filled
    (and_from _ _ w.in_size
    (and_from _ _ w.once
    (and_from _ _ (eq-eqb _ _ w.announced)
    (and_from _ _ (le-leb _ _ w.few_rows)
    (and_from _ _ (le-leb _ _ w.few_literals) w.rows_are))))))))
