use Rattle.std.proofs.Common.{sym, subst}
use Rattle.text_lines.specs.Lines.{words_of}
use Rattle.check_text.specs.Entries.{event_by}
use Rattle.check_text.specs.Results.{ReadsAs}
use Rattle.check_text.specs.Views.{callers_of, event_with}
use Rattle.check_text.specs.declared.kinds.EventKind.{EventKind}
use Rattle.check_text.proofs.entries.event_by.Goals as goal

pub returns-in-Tick : goal.returns-in-Tick
returns-in-Tick c =
    let chars = c.args.characters.now.items in
    subst (λ (kind : EventKind). ReadsAs (event_with chars) c.bare_event.result
    (event_by (callers_of c.args.callers.now) c.args.who c.args.step kind (words_of c.args.words.now)))
    (sym c.in-Tick.is) (c.bare_event.ensures chars)

pub returns-in-ClockEnd : goal.returns-in-ClockEnd
returns-in-ClockEnd c =
    let chars = c.args.characters.now.items in
    subst (λ (kind : EventKind). ReadsAs (event_with chars) c.bare_event-in-ClockEnd.result
    (event_by (callers_of c.args.callers.now) c.args.who c.args.step kind (words_of c.args.words.now)))
    (sym c.in-ClockEnd.is) (c.bare_event-in-ClockEnd.ensures chars)

pub returns-in-CallerEnd : goal.returns-in-CallerEnd
returns-in-CallerEnd c =
    let chars = c.args.characters.now.items in
    subst (λ (kind : EventKind). ReadsAs (event_with chars) c.bare_event-in-CallerEnd.result
    (event_by (callers_of c.args.callers.now) c.args.who c.args.step kind (words_of c.args.words.now)))
    (sym c.in-CallerEnd.is) (c.bare_event-in-CallerEnd.ensures chars)

pub returns-in-PhaseEnd : goal.returns-in-PhaseEnd
returns-in-PhaseEnd c =
    let chars = c.args.characters.now.items in
    subst (λ (kind : EventKind). ReadsAs (event_with chars) c.bare_event-in-PhaseEnd.result
    (event_by (callers_of c.args.callers.now) c.args.who c.args.step kind (words_of c.args.words.now)))
    (sym c.in-PhaseEnd.is) (c.bare_event-in-PhaseEnd.ensures chars)
