use Rattle.read_back.proofs.Runs.{can_be_printed}
use Rattle.read_back.proofs.laws.a_legal_run_can_be_printed.Goals as goal

pub returns : goal.returns
returns c text session p run spelled legal few = can_be_printed text session p run legal.0 spelled legal.1 few
