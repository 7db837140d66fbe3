use Rattle.qdimacs.specs.Kept.{sealed_formula}
use Rattle.docket.specs.Models.{docket_of, numbered}
use Rattle.docket.proofs.Verdicts.{closed_right}
use Rattle.docket.proofs.docket.Docket.close.Goals as goal

pub returns : goal.returns
returns g c =
    let own_ground = c.args.own_ground.now in
    record {
      answer = c.lowest_verdict.ensures;
      verdict =
          closed_right (sealed_formula c.args.formula.now) (g.G.Ground.meaning own_ground) (docket_of c.args.self.now) (numbered c.lowest_verdict.result) c.lowest_verdict.ensures
          (g.met.G.Ground.whole own_ground) (g.met.G.Ground.sound own_ground);
    }
