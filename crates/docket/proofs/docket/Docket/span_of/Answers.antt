use Rattle.std.proofs.Common.{sym, ◌∙◌, arith}
use Rattle.docket.proofs.Spans.{lies_some}
use Rattle.docket.proofs.docket.Docket.span_of.Goals as goal

pub returns : goal.returns
returns c =
    lies_some c.args.self.now c.args.step c.in_ok-place.place (omega (arith, c.in_ok-place.ensures)) c.in_ok-to.field-0 _ (sym c.get.ensures ∙ c.in_ok-to.was)
    c.start_of-from.ensures
