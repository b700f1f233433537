use Rattle.tty_one.specs.ModemLines.{modem_lines_refusal}
use Rattle.tty_one.specs.Endings.{IsShort}
use Rattle.tty_one.specs.Works.{SpellsKeptModemLines}
use Rattle.tty_one.proofs.Refused.{text_read, none_read, session_read, short_read, at_err}
use Rattle.tty_one.proofs.modems.read_modem.Goals as goal

pub returns-in-Of-clause-read : goal.returns-in-Of-clause-read
returns-in-Of-clause-read g c =
    let read = text_read modem_lines_refusal _ _ _ _ c.in_ok-text.field-0 c.in-Of.text c.as_slice.result.now c.in-Of.is
    c.as_slice.ensures (c.in_ok-text.ensures.read modem_lines_refusal) in
    session_read SpellsKeptModemLines modem_lines_refusal (g.S.Source.faults c.args.source.now)
    (g.S.Source.faults c.read_text.new.source) (g.S.Source.left c.args.source.now)
    (g.S.Source.left c.read_text.new.source) c.as_slice.result.now c.modem_in.result read.0 read.1
    (short_read c.in_ok-text.field-0 c.in-Of.text c.as_slice.result.now
    c.in-Of.is c.as_slice.ensures c.in_ok-text.ensures.few) c.modem_in.ensures

pub returns-in-Of-clause-short : goal.returns-in-Of-clause-short
returns-in-Of-clause-short g c =
    let read = text_read modem_lines_refusal _ _ _ _ c.in_ok-text.field-0 c.in-Of.text c.as_slice.result.now c.in-Of.is
    c.as_slice.ensures (c.in_ok-text.ensures.read modem_lines_refusal) in
    at_err (IsShort (g.S.Source.left c.args.source.now) (g.S.Source.left c.read_text.new.source))
    c.modem_in.result read.1

pub returns-in-Ended-clause-read : goal.returns-in-Ended-clause-read
returns-in-Ended-clause-read g c =
    none_read modem_lines_refusal _ _ _ _ c.in_ok-text.field-0 c.in-Ended.ending c.in-Ended.is
    (c.in_ok-text.ensures.read modem_lines_refusal)
