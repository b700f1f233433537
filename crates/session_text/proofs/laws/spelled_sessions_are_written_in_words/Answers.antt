use Rattle.session_text.proofs.Writings.{spelled_written}
use Rattle.session_text.proofs.laws.spelled_sessions_are_written_in_words.Goals as goal

pub returns : goal.returns
returns c = spelled_written
