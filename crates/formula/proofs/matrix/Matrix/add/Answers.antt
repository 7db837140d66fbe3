use Rattle.std.proofs.Common.{sym, ap, ◌≡◌, ◌∙◌, length, arith}
use Rattle.std.proofs.lemmas.List.{length-map}
use Rattle.formula.specs.View.{matrix_of}
use Rattle.formula.specs.Matrix.{as_row}
use Rattle.formula.proofs.SectionLemmas.{length_with_item}
use Rattle.formula.proofs.Rows.{fitting, literal_marks}
use Rattle.formula.proofs.matrix.Matrix.add.Goals as goal

pub invariant_of-self-clause-few : goal.invariant_of-self-clause-few
invariant_of-self-clause-few c =
    let m = c.args.self.now in
    let more = length_with_item c.args.literal m.rows in
    rw c.push.ensures (m.few.0, m.few.1, omega (arith, more, ap length c.all.ensures.value, c.all.ensures.fits, c.if-all-eq-MOST_LITERALS.false))

pub invariant_of-self-clause-marks : goal.invariant_of-self-clause-marks
invariant_of-self-clause-marks c =
    let m = c.args.self.now in
    let l = c.args.literal in
    let fits = fitting l (matrix_of m) (sym c.in_ok-allows.ensures) in
    let row : c.rows-row.result ≡ length m.rows.complete = c.rows-row.ensures ∙ length-map m.rows.complete as_row in
    rw (c.push.ensures, row) (literal_marks m.seen _ m.rows.begun l m.each_seen fits m.marks)
