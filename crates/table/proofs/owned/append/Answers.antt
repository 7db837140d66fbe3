use Rattle.std.proofs.Common.{rules}
use Rattle.table.proofs.Owning.{room, put}
use Rattle.table.proofs.Pushes.{grown_once}
use Rattle.table.proofs.owned.append.Goals as goal

pub returns : goal.returns
returns g c =
    let view = c.resume-table.ensures in
    let grown = grown_once c.push.ensures (room c.args.slots.now c.args.len c.resume-table.result view.memory view.len c.requires) in
    put c.args.slots.now c.args.len c.resume-table.result view.memory view.len c.args.x _ (search (rules, grown.stays, view.stays)) c.requires grown
