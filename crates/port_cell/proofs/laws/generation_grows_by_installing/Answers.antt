use Rattle.port_cell.proofs.Between.{grows_by_installing}
use Rattle.port_cell.proofs.laws.generation_grows_by_installing.Goals as goal

pub returns : goal.returns
returns g c = grows_by_installing g.V.Kept.name g.V.Kept.list
