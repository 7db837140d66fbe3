use Rattle.std.proofs.Common.{rules, tests}
use Rattle.std.proofs.lemmas.Iterator.{YieldsList-from_slice}
use Rattle.std.proofs.lemmas.Iterator.Consumers.{count_from_yields_List}
use Rattle.std.proofs.lemmas.Iterator.Search.{YieldsList-from_take_while}
use Rattle.words.specs.Text.{separator}
use Rattle.words.proofs.Cut.{from_word_cut}
use Rattle.words.proofs.reader.from_word.Goals as goal

pub returns : goal.returns
returns c =
    let bytes = c.args.bytes.now in
    from_word_cut bytes _ (count_from_yields_List c.take_while.result _ c.count-gap.ensures.ran
    (YieldsList-from_take_while _ separator (YieldsList-from_slice bytes (cc)) c.take_while.ensures.closure c.take_while.ensures.done (λ x b q k. search (rules, tests))))
