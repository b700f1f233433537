use Rattle.vt_threads.proofs.FullConsoles.{stands_after}
use Rattle.vt_threads.proofs.keyed_laws.a_phase_leads_to_the_next.Goals as goal

pub returns : goal.returns
returns c session p k entries station new left run end within below port putter line before comes steps =
    stands_after session p k entries station new left run end within below port putter line before comes steps
