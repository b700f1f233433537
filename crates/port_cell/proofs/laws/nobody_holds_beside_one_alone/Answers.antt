use Rattle.port_cell.proofs.Between.{nobody_holds}
use Rattle.port_cell.proofs.laws.nobody_holds_beside_one_alone.Goals as goal

pub returns : goal.returns
returns g c = nobody_holds g.V.Kept.name g.V.Kept.list
