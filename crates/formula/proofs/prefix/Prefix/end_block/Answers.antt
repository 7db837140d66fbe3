use Rattle.std.proofs.Common.{sym, length, sym, ap, ◌∙◌, arith, length-append}
use Rattle.std.proofs.lemmas.List.{length-map, map-append}
use Rattle.formula.specs.Prefix.{all_in_range}
use Rattle.formula.specs.View.{prefix_of}
use Rattle.formula.proofs.SectionLemmas.{all_items-with_section}
use Rattle.formula.proofs.Blocks.{block_levels, blocks_fit}
use Rattle.formula.proofs.prefix.Prefix.end_block.Goals as goal

pub invariant_of-self : goal.invariant_of-self
invariant_of-self c =
    let p = c.args.self.now in
    let few = blocks_fit c.args.letter (prefix_of p) (sym c.in_ok-may_open.ensures) in
    let same = all_items-with_section c.args.letter p.blocks in
    rw c.end.ensures (record {
      each_level = p.each_level;
      few = (p.few.0, simp length-append (omega (arith, simp length-map at few)), omega (arith, ap length same, p.few.2));
      range = ap (all_in_range p.variables) same ∙ p.range;
      told = rw map-append (block_levels p.levels (prefix_of p).blocks p.blocks.begun p.told c.args.letter);
      count = p.count ∙ sym (ap length same);
    })
