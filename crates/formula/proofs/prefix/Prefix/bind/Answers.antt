use Rattle.std.proofs.Common.{sym, arith, length-set}
use Rattle.formula.proofs.Kept.{place_left, range_kept, told_kept, marked_kept}
use Rattle.formula.proofs.SectionLemmas.{length_with_item}
use Rattle.formula.proofs.prefix.Prefix.bind.Goals as goal

pub push-requires : goal.push-requires
push-requires c = (omega arith, place_left c.args.self.now c.args.variable (sym c.in_ok-bindable.ensures))

pub invariant_of-self : goal.invariant_of-self
invariant_of-self c =
    let p = c.args.self.now in
    let x = c.args.variable in
    let fine = sym c.in_ok-bindable.ensures in
    rw c.push.ensures (record {
      each_level = simp length-set p.each_level;
      few = (p.few.0, p.few.1, omega (arith, length_with_item x p.blocks, place_left p x fine));
      range = range_kept p x fine;
      told = told_kept p x fine _ c.blocks-level.ensures;
      count = marked_kept p x fine _ (λ e. omega arith);
    })
