use Rattle.session_text.proofs.Spelled.{given_spells, given_bad, given_refused}
use Rattle.session_text.proofs.reader.parse.Goals as goal

pub returns-clause-ok : goal.returns-clause-ok
returns-clause-ok c = given_spells c.args.text.now c.read_session.result c.read_session.ensures

pub returns-clause-bad : goal.returns-clause-bad
returns-clause-bad c = given_bad c.args.text.now c.read_session.result c.read_session.ensures

pub returns-clause-refused : goal.returns-clause-refused
returns-clause-refused c = given_refused c.args.text.now c.read_session.result c.read_session.ensures
