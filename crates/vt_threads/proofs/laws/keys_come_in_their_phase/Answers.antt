use Rattle.std.proofs.Common.{[]}
use Rattle.vt_threads.proofs.KeyedPhases.{keyed_line}
use Rattle.vt_threads.proofs.laws.keys_come_in_their_phase.Goals as goal

pub returns : goal.returns
returns c session p k phase entries part more went whole lt at goes each before =
    keyed_line session p k phase entries part more went (record { lines = []; ticks = []; callers = [] })
    whole lt at goes each before
