use Rattle.tty_one.proofs.ConsolesKeys.{each_goes, keys_kept}
use Rattle.tty_one.proofs.laws.keys_are_received_once.Goals as goal

pub returns : goal.returns
returns c = record { goes = each_goes; received = keys_kept }
