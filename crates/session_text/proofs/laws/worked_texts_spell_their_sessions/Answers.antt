use Rattle.std.proofs.Common.{◌≡◌, Ok, refl}
use Rattle.hex.specs.Hex.{decode_pairs}
use Rattle.tty_modes.specs.Reading.{word_of}
use Rattle.session_text.specs.Reading.{session_in}
use Rattle.session_text.specs.Rows.{three_bytes_text, three_bytes_session, empty_text, empty_session}
use Rattle.session_text.specs.Rows.{items_text, items_session, calls_text, calls_session}
use Rattle.session_text.proofs.Spelled.{read_spells}
use Rattle.session_text.proofs.laws.worked_texts_spell_their_sessions.Goals as goal

three_bytes_read : session_in three_bytes_text ≡ Ok three_bytes_session
unfolding decode_pairs word_of
three_bytes_read = refl

empty_read : session_in empty_text ≡ Ok empty_session
empty_read = refl

items_read : session_in items_text ≡ Ok items_session
unfolding decode_pairs
items_read = refl

calls_read : session_in calls_text ≡ Ok calls_session
unfolding decode_pairs word_of
calls_read = refl

pub returns-clause-three_bytes : goal.returns-clause-three_bytes
returns-clause-three_bytes c = read_spells three_bytes_text three_bytes_session three_bytes_read

pub returns-clause-empty : goal.returns-clause-empty
returns-clause-empty c = read_spells empty_text empty_session empty_read

pub returns-clause-items : goal.returns-clause-items
returns-clause-items c = read_spells items_text items_session items_read

pub returns-clause-calls : goal.returns-clause-calls
returns-clause-calls c = read_spells calls_text calls_session calls_read
