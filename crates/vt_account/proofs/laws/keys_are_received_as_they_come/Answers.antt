use Rattle.vt_account.proofs.Received.{keys_received, keys_arrive, keys_not_lost}
use Rattle.vt_account.proofs.laws.keys_are_received_as_they_come.Goals as goal

pub returns : goal.returns
returns c = record { received = keys_received; arrived = keys_arrive; none_lost = keys_not_lost }
