use Rattle.passed_ports.proofs.Joining.{nothing_played, one_more_played}
use Rattle.job_ports.specs.Ports.{IsPortPlayed}
use Rattle.job_ports.proofs.Joining.{all_played, all_within}
use Rattle.job_ports.proofs.laws.ports_played_one_by_one_are_played.Goals as goal

pub returns : goal.returns
returns c = record {
  none = λ session. nothing_played (λ p log run end. IsPortPlayed p session log run end);
  more = λ session. one_more_played (λ p log run end. IsPortPlayed p session log run end);
  all = all_played;
  within = all_within;
}
