use Rattle.session_text.proofs.TextAsks.{text_asks}
use Rattle.session_text.proofs.laws.a_text_is_as_long_as_what_it_asks.Goals as goal

pub returns : goal.returns
returns c = text_asks
