use Rattle.std.proofs.Common.{inr, ap, subst, ◌∙◌}
use Rattle.tty_one.specs.declared.works.Ending.{Ending}
use Rattle.tty_one.specs.Endings.{AreOfOne, AreRunOne, AskOneToRead, AskVtOne, texts_of, text_of}
use Rattle.tty_one.specs.declared.works.Ending.TheVariants.{BadWords}
use Rattle.tty_one.specs.Reported.{returned}
use Rattle.tty_one.specs.Outcome.{breaks_words, WasGivenFront}
use Rattle.tty_one.specs.Works.{brought}
use Rattle.tty_one.proofs.AskedWords.{not_one_modem, not_one_vt, one_of_consoles, not_one_jobs, one_reads}
use Rattle.tty_one.proofs.AskedWords.{reads_nothing}
use Rattle.tty_one.proofs.ToldWork.{broken, done_by, refused_by, illegal_by, told_by}
use Rattle.tty_one.proofs.ReadWork.{nothing_read, took_by, long_by}
use Rattle.tty_one.proofs.ReturnedWork.{nothing_told, nothing_by, no_entries, no_log, no_modem_log, no_session}
use Rattle.tty_one.proofs.ReturnedWork.{none_derived, none_judged, work_with}
use Rattle.tty_one.proofs.PlayedTexts.{completes, judged, made, unasked, unjudged, unmade}
use Rattle.tty_one.proofs.ConsolesTexts.{completes_consoles, not_consoles}
use Rattle.tty_one.proofs.ProcessesTexts.{completes_processes, not_processes}
use Rattle.tty_one.proofs.ModemLinesTexts.{completes_modem_lines, not_modem_lines}
use Rattle.tty_one.proofs.top.tty_one.Goals as goal

pub returns-in_default-clause-broken : goal.returns-in_default-clause-broken
returns-in_default-clause-broken g c = λ _.
    breaks_words c.in_default.ensures.other
    (nothing_told c.tell.result c.ended.result BadWords c.tell.ensures.back c.ended.ensures)
    (
    subst (λ (e : Ending). WasGivenFront (g.K.Sink.given c.args.sink.now) (g.K.Sink.given c.tell.new.sink) (text_of e))
    (ap (λ work. work.ending) c.ended.ensures) c.tell.ensures.front
    )

pub returns-in_default-clause-told : goal.returns-in_default-clause-told
returns-in_default-clause-told g c = told_by (g.K.Sink.given c.args.sink.now) (g.K.Sink.given c.tell.new.sink)
    c.ended.result.ending c.tell.result.status c.tell.ensures.status c.tell.ensures.whole c.tell.ensures.front

pub returns-in_default-clause-rest : goal.returns-in_default-clause-rest
returns-in_default-clause-rest g c = nothing_read (g.S.Source.left c.args.source.now)

pub returns-in_default-clause-complete : goal.returns-in_default-clause-complete
returns-in_default-clause-complete g c =
    unasked (texts_of c.args.words.now) (g.S.Source.left c.args.source.now) _ _ _ c.in_default.ensures.other

pub returns-in_default-clause-made : goal.returns-in_default-clause-made
returns-in_default-clause-made g c = unmade (texts_of c.args.words.now) _ c.in_default.ensures.other

pub returns-in_default-clause-judged : goal.returns-in_default-clause-judged
returns-in_default-clause-judged g c =
    unjudged (texts_of c.args.words.now) (g.S.Source.left c.args.source.now) _ _ _ c.in_default.ensures.other

pub returns-in-Ok-clause-too_long : goal.returns-in-Ok-clause-too_long
returns-in-Ok-clause-too_long g c = took_by c.in-Ok.work.ending c.tell-in-Ok.result.status _ _
    (g.S.Source.left c.args.source.now) (g.S.Source.left c.work_on.new.source)
    c.in-Ok.ensures.from c.tell-in-Ok.ensures.status

pub returns-in-Ok-clause-long : goal.returns-in-Ok-clause-long
returns-in-Ok-clause-long g c = long_by c.in-Ok.work.ending c.tell-in-Ok.result.status _ _
    (g.S.Source.left c.args.source.now) (g.S.Source.left c.work_on.new.source)
    c.in-Ok.ensures.from c.tell-in-Ok.ensures.status

pub returns-in-Ok-clause-told : goal.returns-in-Ok-clause-told
returns-in-Ok-clause-told g c = told_by (g.K.Sink.given c.args.sink.now) (g.K.Sink.given c.tell-in-Ok.new.sink)
    c.in-Ok.work.ending c.tell-in-Ok.result.status c.tell-in-Ok.ensures.status
    c.tell-in-Ok.ensures.whole c.tell-in-Ok.ensures.front

pub returns-in-Ok-clause-done : goal.returns-in-Ok-clause-done
returns-in-Ok-clause-done g c =
    let done = work_with c.in-Some.command (g.S.Source.left c.args.source.now) c.in-Ok.work.ending c.tell-in-Ok.result
    c.in-Ok.work c.tell-in-Ok.ensures.back c.in-Ok.ensures.work in
    done_by (texts_of c.args.words.now) c.in-Some.command (g.S.Source.left c.args.source.now)
    (g.K.Sink.given c.args.sink.now) (g.K.Sink.given c.tell-in-Ok.new.sink) (returned c.tell-in-Ok.result)
    c.in-Ok.work.ending c.tell-in-Ok.result.status c.in-Some.ensures.known.1
    done c.tell-in-Ok.ensures.status c.tell-in-Ok.ensures.whole

pub returns-in-Ok-clause-bad_session : goal.returns-in-Ok-clause-bad_session
returns-in-Ok-clause-bad_session g c =
    refused_by (texts_of c.args.words.now) c.in-Some.command (g.S.Source.left c.args.source.now)
    (g.K.Sink.given c.args.sink.now) (g.K.Sink.given c.tell-in-Ok.new.sink) (brought c.in-Ok.work) c.in-Ok.work.ending
    c.tell-in-Ok.result.status c.in-Some.ensures.known.1 c.in-Ok.ensures.work
    c.tell-in-Ok.ensures.status c.tell-in-Ok.ensures.whole

pub returns-in-Ok-clause-not_legal : goal.returns-in-Ok-clause-not_legal
returns-in-Ok-clause-not_legal g c =
    illegal_by (texts_of c.args.words.now) c.in-Some.command (g.S.Source.left c.args.source.now)
    (g.K.Sink.given c.args.sink.now) (g.K.Sink.given c.tell-in-Ok.new.sink) (brought c.in-Ok.work) c.in-Ok.work.ending
    c.tell-in-Ok.result.status c.in-Some.ensures.known.1 c.in-Ok.ensures.work
    c.tell-in-Ok.ensures.status c.tell-in-Ok.ensures.whole

pub returns-in-Ok-clause-broken : goal.returns-in-Ok-clause-broken
returns-in-Ok-clause-broken g c = λ _.
    let done = work_with c.in-Some.command (g.S.Source.left c.args.source.now) c.in-Ok.work.ending c.tell-in-Ok.result
    c.in-Ok.work c.tell-in-Ok.ensures.back c.in-Ok.ensures.work in
    broken (AreOfOne (texts_of c.args.words.now)) (AskOneToRead (texts_of c.args.words.now)) (texts_of c.args.words.now)
    c.in-Some.command _ _ _ _ _ _ (returned c.tell-in-Ok.result) c.in-Ok.work.ending c.in-Some.ensures.known.1
    c.in-Ok.ensures.can (
    one_reads c.in-Some.command (texts_of c.args.words.now) c.in-Some.ensures.known.0 c.in-Some.ensures.known.1
    ) c.in-Ok.ensures.from done c.tell-in-Ok.ensures.front

pub returns-in-Ok-clause-complete : goal.returns-in-Ok-clause-complete
returns-in-Ok-clause-complete g c =
    let done = work_with c.in-Some.command (g.S.Source.left c.args.source.now) c.in-Ok.work.ending c.tell-in-Ok.result
    c.in-Ok.work c.tell-in-Ok.ensures.back c.in-Ok.ensures.work in
    completes (AreRunOne (texts_of c.args.words.now)) (texts_of c.args.words.now) c.in-Some.command
    (g.S.Source.left c.args.source.now)
    (g.S.Source.left c.work_on.new.source) (g.S.Source.faults c.args.source.now)
    (g.S.Source.faults c.work_on.new.source) (returned c.tell-in-Ok.result) c.in-Ok.work.ending
    c.tell-in-Ok.result.status inr c.in-Some.ensures.known.1 c.tell-in-Ok.ensures.status
    c.in-Ok.ensures.from done c.in-Ok.ensures.rest

pub returns-in-Ok-clause-judged : goal.returns-in-Ok-clause-judged
returns-in-Ok-clause-judged g c =
    judged (texts_of c.args.words.now) c.in-Some.command (g.S.Source.left c.args.source.now)
    (g.S.Source.left c.work_on.new.source) (g.S.Source.faults c.args.source.now)
    (g.S.Source.faults c.work_on.new.source) (brought c.in-Ok.work) c.in-Ok.work.ending c.tell-in-Ok.result.status
    c.in-Some.ensures.known.1 c.tell-in-Ok.ensures.status c.in-Ok.ensures.from c.in-Ok.ensures.work c.in-Ok.ensures.rest

pub returns-in-Ok-clause-made : goal.returns-in-Ok-clause-made
returns-in-Ok-clause-made g c = made (texts_of c.args.words.now) c.in-Some.command c.in-Ok.work.ending
    c.tell-in-Ok.result.status c.in-Some.ensures.known.1 c.tell-in-Ok.ensures.status c.in-Ok.ensures.can

pub returns-in-Ok-clause-none_judged : goal.returns-in-Ok-clause-none_judged
returns-in-Ok-clause-none_judged g c =
    let done = work_with c.in-Some.command (g.S.Source.left c.args.source.now) c.in-Ok.work.ending c.tell-in-Ok.result
    c.in-Ok.work c.tell-in-Ok.ensures.back c.in-Ok.ensures.work in
    none_judged (texts_of c.args.words.now) c.in-Some.command (g.S.Source.left c.args.source.now)
    (returned c.tell-in-Ok.result) c.in-Ok.work.ending c.in-Some.ensures.known.1 done

pub returns-in-Ok-clause-unread : goal.returns-in-Ok-clause-unread
returns-in-Ok-clause-unread g c = λ gen.
    c.in-Ok.ensures.unread (reads_nothing c.in-Some.command (texts_of c.args.words.now) c.in-Some.ensures.known.1 gen)

pub returns-in-Err-clause-unread : goal.returns-in-Err-clause-unread
returns-in-Err-clause-unread g c = λ gen.
    c.in-Err.ensures.unread (reads_nothing c.in-Some.command (texts_of c.args.words.now) c.in-Some.ensures.known.1 gen)

pub returns-in_default-clause-consoles : goal.returns-in_default-clause-consoles
returns-in_default-clause-consoles g c = not_consoles (AskVtOne (texts_of c.args.words.now))
    (g.S.Source.left c.args.source.now) _ _ _ (not_one_vt (texts_of c.args.words.now) c.in_default.ensures.other)

pub returns-in-Ok-clause-consoles : goal.returns-in-Ok-clause-consoles
returns-in-Ok-clause-consoles g c =
    let done = work_with c.in-Some.command (g.S.Source.left c.args.source.now) c.in-Ok.work.ending c.tell-in-Ok.result
    c.in-Ok.work c.tell-in-Ok.ensures.back c.in-Ok.ensures.work in
    completes_consoles (AskVtOne (texts_of c.args.words.now)) (texts_of c.args.words.now) c.in-Some.command
    (g.S.Source.left c.args.source.now)
    (g.S.Source.left c.work_on.new.source) (g.S.Source.faults c.args.source.now)
    (g.S.Source.faults c.work_on.new.source) (returned c.tell-in-Ok.result) c.in-Ok.work.ending
    c.tell-in-Ok.result.status inr c.in-Some.ensures.known.1 c.tell-in-Ok.ensures.status
    c.in-Ok.ensures.from done c.in-Ok.ensures.rest

pub returns-in-Ok-clause-no_runs : goal.returns-in-Ok-clause-no_runs
returns-in-Ok-clause-no_runs g c =
    let done = work_with c.in-Some.command (g.S.Source.left c.args.source.now) c.in-Ok.work.ending c.tell-in-Ok.result
    c.in-Ok.work c.tell-in-Ok.ensures.back c.in-Ok.ensures.work in
    nothing_by c.in-Some.command (g.S.Source.left c.args.source.now) (returned c.tell-in-Ok.result) c.in-Ok.work.ending
    c.tell-in-Ok.result.status done c.tell-in-Ok.ensures.status

pub returns-in-Ok-clause-no_entries : goal.returns-in-Ok-clause-no_entries
returns-in-Ok-clause-no_entries g c = λ other.
    ap (λ back. back.entries) c.tell-in-Ok.ensures.back
    ∙ no_entries (texts_of c.args.words.now) c.in-Some.command (brought c.in-Ok.work)
    c.in-Some.ensures.known.1 c.in-Ok.ensures.own
    (λ asks. other (one_of_consoles (texts_of c.args.words.now)
    (c.in-Some.command, c.in-Some.ensures.known.0, c.in-Some.ensures.known.1) asks))

pub returns-in-Ok-clause-no_log : goal.returns-in-Ok-clause-no_log
returns-in-Ok-clause-no_log g c = λ other.
    ap (λ back. back.log) c.tell-in-Ok.ensures.back
    ∙ no_log (texts_of c.args.words.now) c.in-Some.command (brought c.in-Ok.work)
    c.in-Some.ensures.known.1 c.in-Ok.ensures.own other

pub returns-in-Ok-clause-no_modem_log : goal.returns-in-Ok-clause-no_modem_log
returns-in-Ok-clause-no_modem_log g c = λ other.
    ap (λ back. back.modem_log) c.tell-in-Ok.ensures.back
    ∙ no_modem_log (texts_of c.args.words.now) c.in-Some.command (brought c.in-Ok.work)
    c.in-Some.ensures.known.1 c.in-Ok.ensures.own other

pub returns-in-Ok-clause-none_derived : goal.returns-in-Ok-clause-none_derived
returns-in-Ok-clause-none_derived g c = λ other.
    no_session c.tell-in-Ok.result.derived
    (ap (λ back. back.derived) c.tell-in-Ok.ensures.back
    ∙ none_derived (texts_of c.args.words.now) c.in-Some.command (brought c.in-Ok.work)
    c.in-Some.ensures.known.1 c.in-Ok.ensures.own other)

pub returns-in_default-clause-processes : goal.returns-in_default-clause-processes
returns-in_default-clause-processes g c = not_processes (texts_of c.args.words.now) (g.S.Source.left c.args.source.now)
    _ _ _ (not_one_jobs (texts_of c.args.words.now) c.in_default.ensures.other)

pub returns-in-Ok-clause-processes : goal.returns-in-Ok-clause-processes
returns-in-Ok-clause-processes g c =
    let done = work_with c.in-Some.command (g.S.Source.left c.args.source.now) c.in-Ok.work.ending c.tell-in-Ok.result
    c.in-Ok.work c.tell-in-Ok.ensures.back c.in-Ok.ensures.work in
    completes_processes (texts_of c.args.words.now) c.in-Some.command (g.S.Source.left c.args.source.now)
    (g.S.Source.left c.work_on.new.source) (g.S.Source.faults c.args.source.now)
    (g.S.Source.faults c.work_on.new.source) (returned c.tell-in-Ok.result) c.in-Ok.work.ending
    c.tell-in-Ok.result.status c.in-Some.ensures.known.1 c.tell-in-Ok.ensures.status
    c.in-Ok.ensures.from done c.in-Ok.ensures.rest

pub returns-in_default-clause-modem_lines : goal.returns-in_default-clause-modem_lines
returns-in_default-clause-modem_lines g c =
    not_modem_lines (texts_of c.args.words.now) (g.S.Source.left c.args.source.now) _ _ _
    (not_one_modem (texts_of c.args.words.now) c.in_default.ensures.other)

pub returns-in-Ok-clause-modem_lines : goal.returns-in-Ok-clause-modem_lines
returns-in-Ok-clause-modem_lines g c =
    let done = work_with c.in-Some.command (g.S.Source.left c.args.source.now) c.in-Ok.work.ending c.tell-in-Ok.result
    c.in-Ok.work c.tell-in-Ok.ensures.back c.in-Ok.ensures.work in
    completes_modem_lines (texts_of c.args.words.now) c.in-Some.command (g.S.Source.left c.args.source.now)
    (g.S.Source.left c.work_on.new.source) (g.S.Source.faults c.args.source.now)
    (g.S.Source.faults c.work_on.new.source) (returned c.tell-in-Ok.result) c.in-Ok.work.ending
    c.tell-in-Ok.result.status c.in-Some.ensures.known.1 c.tell-in-Ok.ensures.status
    c.in-Ok.ensures.from done c.in-Ok.ensures.rest
