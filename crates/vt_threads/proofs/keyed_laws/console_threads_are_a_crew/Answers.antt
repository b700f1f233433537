use Rattle.vt_threads.proofs.CrewsBack.{crew_comes}
use Rattle.vt_threads.proofs.keyed_laws.console_threads_are_a_crew.Goals as goal

pub returns : goal.returns
returns c p dealt work keys s t l m e f flusher callers line clock ticks h flushed called =
    crew_comes p dealt work keys s t l m e f flusher callers line clock ticks h flushed called
