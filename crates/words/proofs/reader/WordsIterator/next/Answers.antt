use Rattle.std.proofs.Common.{◌+◌, ◌-◌, length, sym, ap, refl, ◌∙◌, arith}
use Rattle.std.proofs.lemmas.Bool.Decides.{nat_tests}
use Rattle.words.specs.Text.{front}
use Rattle.words.proofs.Cut.{RestFrom, rest_from, no_token, one_token, front_short}
use Rattle.words.proofs.reader.WordsIterator.next.Goals as goal
use Rattle.words.proofs.reader.WordsIterator.next.Goals.{Else-is_empty}

so : (c : Else-is_empty) → RestFrom c.args.self.now.text.now c.args.self.now.at c.from_word-rest.result.now
so c = rest_from _ _ _ c.args.self.now.within c.from_word-rest.ensures

pub returns-then-is_empty-clause-steps : goal.returns-then-is_empty-clause-steps
returns-then-is_empty-clause-steps c =
    let rest = rest_from c.args.self.now.text.now c.args.self.now.at c.from_word-rest.result.now c.args.self.now.within c.from_word-rest.ensures in
    record { same = refl; cases = no_token _ _ _ _ rest c.front-word.ensures (grind (arith, nat_tests)); word = tt; place = refl }

pub overflow_sub-start : goal.overflow_sub-start
overflow_sub-start c = (so c).short

pub invariant_of-self : goal.invariant_of-self
invariant_of-self c = record { within = omega (arith, (so c).short, ap length c.front-word.ensures, front_short c.from_word-rest.result.now) }

pub returns-clause-steps : goal.returns-clause-steps
returns-clause-steps c =
    let rest = so (goal.at.returns-clause-steps c).Else-is_empty in
    let word = c.front-word.ensures ∙ ap front (sym rest.stands) in
    record {
      same = refl;
      cases = cc (one_token _ _ _ _ rest c.front-word.ensures (grind (arith, nat_tests)), c.token_of.ensures.says);
      word = c.token_of.ensures.borrows ∙ word;
      place = ap (λ w. length c.args.self.now.text.now - length c.from_word-rest.result.now + length w) word;
    }

pub returns-clause-goes : goal.returns-clause-goes
returns-clause-goes c =
    let rest = so (goal.at.returns-clause-goes c).Else-is_empty in
    let fewer = one_token _ _ _ _ rest c.front-word.ensures (grind (arith, nat_tests)) in
    record { on = λ _. (tt, tt, omega (arith, ap length fewer)); keeps = tt; rests = λ _. tt }
