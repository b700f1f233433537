use Rattle.job_one.proofs.Sending.{all_stand, sent_up, same_desk, all_pass}
use Rattle.job_one.proofs.desk_laws.new_signals_are_sent_on.Goals as goal

pub returns : goal.returns
returns c = record { stands = all_stand; all = sent_up; same = same_desk; passes = all_pass }
