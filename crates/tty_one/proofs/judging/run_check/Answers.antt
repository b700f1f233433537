use Rattle.std.proofs.Common.{◌≤◌, length, ap, subst, arith}
use Rattle.tty_base.specs.Sizes.{MOST_TEXT}
use Rattle.check_text.specs.Reading.{refusal}
use Rattle.tty_one.specs.declared.words.Command.TheVariants.{Check}
use Rattle.tty_one.specs.Endings.{IsShort}
use Rattle.tty_one.specs.Works.{IsShortText}
use Rattle.tty_one.proofs.Judged.{judged_works}
use Rattle.tty_one.proofs.Refused.{text_read, none_read, unread_works, ended_works, at_err}
use Rattle.tty_one.proofs.judging.run_check.Goals as goal

pub judged_text-requires : goal.judged_text-requires
judged_text-requires g c =
    let few : length c.in-Of.text.items ≤ MOST_TEXT = subst IsShortText c.in-Of.is c.in_ok-text.ensures.few in
    omega (arith, few, ap length c.as_slice.ensures)

pub returns-in_err-ending-in-Of-clause-short : goal.returns-in_err-ending-in-Of-clause-short
returns-in_err-ending-in-Of-clause-short g c =
    let read = text_read refusal _ _ _ _ c.in_ok-text.field-0 c.in-Of.text c.as_slice.result.now c.in-Of.is
    c.as_slice.ensures (c.in_ok-text.ensures.read refusal) in
    at_err (IsShort (g.S.Source.left c.args.source.now) (g.S.Source.left c.read_text.new.source))
    c.from_residual-in_err-ending-in-Of.result read.1

pub returns-in_ok-ending-in-Of-clause-from : goal.returns-in_ok-ending-in-Of-clause-from
returns-in_ok-ending-in-Of-clause-from g c =
    let read = text_read refusal _ _ _ _ c.in_ok-text.field-0 c.in-Of.text c.as_slice.result.now c.in-Of.is
    c.as_slice.ensures (c.in_ok-text.ensures.read refusal) in
    let done = judged_works (g.S.Source.faults c.args.source.now) (g.S.Source.faults c.read_text.new.source)
    (g.S.Source.left c.args.source.now) (g.S.Source.left c.read_text.new.source) c.as_slice.result.now
    c.in_ok-ending-in-Of.ending read.0 read.1 c.in_ok-ending-in-Of.ensures in
    (ended_works Check _ _ _ _ c.in_ok-ending-in-Of.ending c.ended.result c.ended.ensures done.0 done.1).1

pub returns-in_ok-ending-in-Of-clause-work : goal.returns-in_ok-ending-in-Of-clause-work
returns-in_ok-ending-in-Of-clause-work g c =
    let read = text_read refusal _ _ _ _ c.in_ok-text.field-0 c.in-Of.text c.as_slice.result.now c.in-Of.is
    c.as_slice.ensures (c.in_ok-text.ensures.read refusal) in
    let done = judged_works (g.S.Source.faults c.args.source.now) (g.S.Source.faults c.read_text.new.source)
    (g.S.Source.left c.args.source.now) (g.S.Source.left c.read_text.new.source) c.as_slice.result.now
    c.in_ok-ending-in-Of.ending read.0 read.1 c.in_ok-ending-in-Of.ensures in
    (ended_works Check _ _ _ _ c.in_ok-ending-in-Of.ending c.ended.result c.ended.ensures done.0 done.1).0

pub returns-in-Ended-clause-from : goal.returns-in-Ended-clause-from
returns-in-Ended-clause-from g c =
    let read = none_read refusal _ _ _ _ c.in_ok-text.field-0 c.in-Ended.ending c.in-Ended.is
    (c.in_ok-text.ensures.read refusal) in
    (ended_works Check _ _ _ _ c.in-Ended.ending c.ended-in-Ended.result c.ended-in-Ended.ensures
    (unread_works Check (g.S.Source.left c.args.source.now) c.in-Ended.ending read.0) read.1).1

pub returns-in-Ended-clause-work : goal.returns-in-Ended-clause-work
returns-in-Ended-clause-work g c =
    let read = none_read refusal _ _ _ _ c.in_ok-text.field-0 c.in-Ended.ending c.in-Ended.is
    (c.in_ok-text.ensures.read refusal) in
    (ended_works Check _ _ _ _ c.in-Ended.ending c.ended-in-Ended.result c.ended-in-Ended.ensures
    (unread_works Check (g.S.Source.left c.args.source.now) c.in-Ended.ending read.0) read.1).0
