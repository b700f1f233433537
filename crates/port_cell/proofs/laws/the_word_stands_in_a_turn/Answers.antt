use Rattle.port_cell.proofs.Between.{stands_in_turn}
use Rattle.port_cell.proofs.laws.the_word_stands_in_a_turn.Goals as goal

pub returns : goal.returns
returns g c = stands_in_turn g.V.Kept.name g.V.Kept.list
