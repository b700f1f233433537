use Rattle.vt_threads.proofs.KeyedPlay.{can_play_keyed}
use Rattle.vt_threads.proofs.keyed_laws.a_phase_is_played_with_its_keys.Goals as goal

pub returns : goal.returns
returns c session p k phase entries part more went callers station work roles within known at below
    goes each before_keys number before ticks count are cast =
    can_play_keyed session within p known k phase at below entries part more went goes each before_keys callers
    station work roles number before ticks count are cast
