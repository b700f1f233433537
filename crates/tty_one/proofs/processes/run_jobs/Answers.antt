use Rattle.std.proofs.Common.{◌≤◌, length, ap, subst, arith}
use Rattle.tty_base.specs.Sizes.{MOST_TEXT}
use Rattle.tty_one.specs.declared.words.Command.TheVariants.{Jobs}
use Rattle.tty_one.specs.Processes.{processes_refusal}
use Rattle.tty_one.specs.Endings.{IsShort}
use Rattle.tty_one.specs.Works.{IsShortText}
use Rattle.tty_one.proofs.ProcessesPlayed.{processes_work, processes_source}
use Rattle.tty_one.proofs.Refused.{text_read, none_read, unread_works, ended_works, at_err}
use Rattle.tty_one.proofs.processes.run_jobs.Goals as goal

pub work_on_text-requires : goal.work_on_text-requires
work_on_text-requires g c =
    let few : length c.in-Of.text.items ≤ MOST_TEXT = subst IsShortText c.in-Of.is c.in_ok-text.ensures.few in
    omega (arith, few, ap length c.as_slice.ensures)

pub returns-in-Of-clause-from : goal.returns-in-Of-clause-from
returns-in-Of-clause-from g c =
    let read = text_read processes_refusal _ _ _ _ c.in_ok-text.field-0 c.in-Of.text c.as_slice.result.now c.in-Of.is
    c.as_slice.ensures (c.in_ok-text.ensures.read processes_refusal) in
    processes_source (g.S.Source.faults c.args.source.now) (g.S.Source.faults c.read_text.new.source)
    (g.S.Source.left c.args.source.now) (g.S.Source.left c.read_text.new.source) c.as_slice.result.now
    c.work_on_text.result read.0 read.1 c.work_on_text.ensures.told

pub returns-in-Of-clause-work : goal.returns-in-Of-clause-work
returns-in-Of-clause-work g c =
    let read = text_read processes_refusal _ _ _ _ c.in_ok-text.field-0 c.in-Of.text c.as_slice.result.now c.in-Of.is
    c.as_slice.ensures (c.in_ok-text.ensures.read processes_refusal) in
    processes_work (g.S.Source.faults c.args.source.now) (g.S.Source.faults c.read_text.new.source)
    (g.S.Source.left c.args.source.now) (g.S.Source.left c.read_text.new.source) c.as_slice.result.now
    c.work_on_text.result read.0 read.1 c.work_on_text.ensures.told

pub returns-in-Of-clause-short : goal.returns-in-Of-clause-short
returns-in-Of-clause-short g c =
    let read = text_read processes_refusal _ _ _ _ c.in_ok-text.field-0 c.in-Of.text c.as_slice.result.now c.in-Of.is
    c.as_slice.ensures (c.in_ok-text.ensures.read processes_refusal) in
    at_err (IsShort (g.S.Source.left c.args.source.now) (g.S.Source.left c.read_text.new.source))
    c.work_on_text.result read.1

pub returns-in-Ended-clause-from : goal.returns-in-Ended-clause-from
returns-in-Ended-clause-from g c =
    let read = none_read processes_refusal _ _ _ _ c.in_ok-text.field-0 c.in-Ended.ending c.in-Ended.is
    (c.in_ok-text.ensures.read processes_refusal) in
    (ended_works Jobs _ _ _ _ c.in-Ended.ending c.ended.result c.ended.ensures
    (unread_works Jobs (g.S.Source.left c.args.source.now) c.in-Ended.ending read.0) read.1).1

pub returns-in-Ended-clause-work : goal.returns-in-Ended-clause-work
returns-in-Ended-clause-work g c =
    let read = none_read processes_refusal _ _ _ _ c.in_ok-text.field-0 c.in-Ended.ending c.in-Ended.is
    (c.in_ok-text.ensures.read processes_refusal) in
    (ended_works Jobs _ _ _ _ c.in-Ended.ending c.ended.result c.ended.ensures
    (unread_works Jobs (g.S.Source.left c.args.source.now) c.in-Ended.ending read.0) read.1).0
