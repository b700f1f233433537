use Rattle.check_text.proofs.Spelled.{given_spells, given_short, given_bad, given_refused}
use Rattle.check_text.proofs.reader.parse_check.Goals as goal

pub returns-clause-ok : goal.returns-clause-ok
returns-clause-ok c = given_spells c.args.text.now c.read_check.result c.read_check.ensures

pub returns-clause-short : goal.returns-clause-short
returns-clause-short c = given_short c.args.text.now c.read_check.result c.read_check.ensures

pub returns-clause-bad : goal.returns-clause-bad
returns-clause-bad c = given_bad c.args.text.now c.read_check.result c.read_check.ensures

pub returns-clause-refused : goal.returns-clause-refused
returns-clause-refused c = given_refused c.args.text.now c.read_check.result c.read_check.ensures
