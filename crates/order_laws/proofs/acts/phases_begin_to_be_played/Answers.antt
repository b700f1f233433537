use Rattle.order_laws.proofs.Witnessed.{begins_line, begins_playing}
use Rattle.order_laws.proofs.acts.phases_begin_to_be_played.Goals as goal

pub returns : goal.returns
returns c = record { line = begins_line; playing = begins_playing }
