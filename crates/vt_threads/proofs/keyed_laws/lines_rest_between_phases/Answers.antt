use Rattle.vt_threads.proofs.KeyedPlay.{can_begin, rests_between}
use Rattle.legal_runs.specs.Legal.{script_of_first}
use Rattle.vt_threads.proofs.keyed_laws.lines_rest_between_phases.Goals as goal

pub returns : goal.returns
returns c x p k v putter line put within =
    can_begin v putter line (script_of_first p x k) (rests_between p x k) put within
