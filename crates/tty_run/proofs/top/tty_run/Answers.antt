use Rattle.std.proofs.Common.{inl, inr, ap, ◌∙◌}
use Rattle.tty_one.specs.Endings.{AreKnown, AreRunOne, AskConsoles, AskToPlay, AskToRead, AskVtOne, texts_of}
use Rattle.tty_one.specs.Reported.{returned}
use Rattle.tty_one.specs.Works.{brought}
use Rattle.tty_one.proofs.AskedWords.{one_if_not_on_threads, reads_nothing, threads_read}
use Rattle.tty_one.proofs.ToldWork.{broken, done_by, illegal_by, refused_by, told_by}
use Rattle.tty_one.proofs.ReadWork.{long_by, took_by}
use Rattle.tty_one.proofs.ReturnedWork.{no_log, no_modem_log, no_session, none_derived, no_entries, none_judged}
use Rattle.tty_one.proofs.ReturnedWork.{nothing_by, work_with}
use Rattle.tty_one.proofs.PlayedTexts.{completes, judged, made}
use Rattle.tty_one.proofs.ConsolesTexts.{completes_consoles}
use Rattle.tty_one.proofs.ProcessesTexts.{not_processes}
use Rattle.tty_one.proofs.ModemLinesTexts.{not_modem_lines}
use Rattle.tty_run.proofs.WordLemmas.{broken_one, consoles_headline, consoles_one, for_fewer, headline, not_run, not_vt}
use Rattle.tty_run.proofs.WordLemmas.{play_one, threads_are_not_jobs, threads_are_not_modem, threads_end}
use Rattle.tty_run.proofs.WordLemmas.{threads_reading, unknown_to_one}
use Rattle.tty_run.proofs.top.tty_run.Goals as goal

-- ---- one thread

pub returns-in_default-clause-headline : goal.returns-in_default-clause-headline
returns-in_default-clause-headline g c = λ run _.
    absurd (not_run (texts_of c.args.words.now) c.in_default.ensures.other run)

pub returns-in_default-clause-consoles_headline : goal.returns-in_default-clause-consoles_headline
returns-in_default-clause-consoles_headline g c = λ vt _.
    absurd (not_vt (texts_of c.args.words.now) c.in_default.ensures.other vt)

pub returns-in_default-clause-other_words : goal.returns-in_default-clause-other_words
returns-in_default-clause-other_words g c = λ unknown.
    c.tty_one.ensures.other_words (unknown_to_one (texts_of c.args.words.now) unknown)

pub returns-in_default-clause-known_words : goal.returns-in_default-clause-known_words
returns-in_default-clause-known_words g c = λ known.
    c.tty_one.ensures.known_words (one_if_not_on_threads (texts_of c.args.words.now) c.in_default.ensures.other known)

pub returns-in_default-clause-broken : goal.returns-in_default-clause-broken
returns-in_default-clause-broken g c = λ four.
    broken_one (texts_of c.args.words.now) c.in_default.ensures.other _ _ _ _ _ _ _ (c.tty_one.ensures.broken four)

pub returns-in_default-clause-complete : goal.returns-in_default-clause-complete
returns-in_default-clause-complete g c =
    for_fewer (AreRunOne (texts_of c.args.words.now)) (AskToPlay (texts_of c.args.words.now)) _
    (g.S.Source.left c.args.source.now) (play_one (texts_of c.args.words.now) c.in_default.ensures.other)
    c.tty_one.ensures.complete

pub returns-in_default-clause-consoles : goal.returns-in_default-clause-consoles
returns-in_default-clause-consoles g c =
    for_fewer (AskVtOne (texts_of c.args.words.now)) (AskConsoles (texts_of c.args.words.now)) _
    (g.S.Source.left c.args.source.now) (consoles_one (texts_of c.args.words.now) c.in_default.ensures.other)
    c.tty_one.ensures.consoles

pub returns-in_default-clause-no_entries : goal.returns-in_default-clause-no_entries
returns-in_default-clause-no_entries g c = λ other. c.tty_one.ensures.no_entries (λ vt. other (inr vt))

-- ---- threads

pub returns-in-Ok-clause-headline : goal.returns-in-Ok-clause-headline
returns-in-Ok-clause-headline g c = λ run zero_is.
    let done = work_with c.in-Some.command (g.S.Source.left c.args.source.now) c.in-Ok.work.ending c.tell.result
    c.in-Ok.work c.tell.ensures.back c.in-Ok.ensures.work in
    headline (texts_of c.args.words.now) (g.S.Source.left c.args.source.now) (g.K.Sink.given c.args.sink.now)
    (g.K.Sink.given c.tell.new.sink) (returned c.tell.result) run (
    done_by (texts_of c.args.words.now) c.in-Some.command (g.S.Source.left c.args.source.now)
    (g.K.Sink.given c.args.sink.now) (g.K.Sink.given c.tell.new.sink) (returned c.tell.result) c.in-Ok.work.ending
    c.tell.result.status c.in-Some.ensures.known.1 done c.tell.ensures.status c.tell.ensures.whole zero_is
    )

pub returns-in-Ok-clause-consoles_headline : goal.returns-in-Ok-clause-consoles_headline
returns-in-Ok-clause-consoles_headline g c = λ vt zero_is.
    let done = work_with c.in-Some.command (g.S.Source.left c.args.source.now) c.in-Ok.work.ending c.tell.result
    c.in-Ok.work c.tell.ensures.back c.in-Ok.ensures.work in
    consoles_headline (texts_of c.args.words.now) (g.S.Source.left c.args.source.now) (g.K.Sink.given c.args.sink.now)
    (g.K.Sink.given c.tell.new.sink) (returned c.tell.result) vt (
    done_by (texts_of c.args.words.now) c.in-Some.command (g.S.Source.left c.args.source.now)
    (g.K.Sink.given c.args.sink.now) (g.K.Sink.given c.tell.new.sink) (returned c.tell.result) c.in-Ok.work.ending
    c.tell.result.status c.in-Some.ensures.known.1 done c.tell.ensures.status c.tell.ensures.whole zero_is
    )

pub returns-in-Ok-clause-too_long : goal.returns-in-Ok-clause-too_long
returns-in-Ok-clause-too_long g c = took_by c.in-Ok.work.ending c.tell.result.status _ _
    (g.S.Source.left c.args.source.now) (g.S.Source.left c.work_on.new.source) c.in-Ok.ensures.from
    c.tell.ensures.status

pub returns-in-Ok-clause-long : goal.returns-in-Ok-clause-long
returns-in-Ok-clause-long g c = long_by c.in-Ok.work.ending c.tell.result.status _ _ (g.S.Source.left c.args.source.now)
    (g.S.Source.left c.work_on.new.source) c.in-Ok.ensures.from c.tell.ensures.status

pub returns-in-Ok-clause-told : goal.returns-in-Ok-clause-told
returns-in-Ok-clause-told g c = told_by (g.K.Sink.given c.args.sink.now) (g.K.Sink.given c.tell.new.sink)
    c.in-Ok.work.ending c.tell.result.status c.tell.ensures.status c.tell.ensures.whole c.tell.ensures.front

pub returns-in-Ok-clause-done : goal.returns-in-Ok-clause-done
returns-in-Ok-clause-done g c =
    let done = work_with c.in-Some.command (g.S.Source.left c.args.source.now) c.in-Ok.work.ending c.tell.result
    c.in-Ok.work c.tell.ensures.back c.in-Ok.ensures.work in
    done_by (texts_of c.args.words.now) c.in-Some.command (g.S.Source.left c.args.source.now)
    (g.K.Sink.given c.args.sink.now) (g.K.Sink.given c.tell.new.sink) (returned c.tell.result) c.in-Ok.work.ending
    c.tell.result.status c.in-Some.ensures.known.1 done c.tell.ensures.status c.tell.ensures.whole

pub returns-in-Ok-clause-bad_session : goal.returns-in-Ok-clause-bad_session
returns-in-Ok-clause-bad_session g c =
    refused_by (texts_of c.args.words.now) c.in-Some.command (g.S.Source.left c.args.source.now)
    (g.K.Sink.given c.args.sink.now) (g.K.Sink.given c.tell.new.sink) (brought c.in-Ok.work) c.in-Ok.work.ending
    c.tell.result.status c.in-Some.ensures.known.1 c.in-Ok.ensures.work c.tell.ensures.status c.tell.ensures.whole

pub returns-in-Ok-clause-not_legal : goal.returns-in-Ok-clause-not_legal
returns-in-Ok-clause-not_legal g c =
    illegal_by (texts_of c.args.words.now) c.in-Some.command (g.S.Source.left c.args.source.now)
    (g.K.Sink.given c.args.sink.now) (g.K.Sink.given c.tell.new.sink) (brought c.in-Ok.work) c.in-Ok.work.ending
    c.tell.result.status c.in-Some.ensures.known.1 c.in-Ok.ensures.work c.tell.ensures.status c.tell.ensures.whole

pub returns-in-Ok-clause-broken : goal.returns-in-Ok-clause-broken
returns-in-Ok-clause-broken g c = λ _.
    let done = work_with c.in-Some.command (g.S.Source.left c.args.source.now) c.in-Ok.work.ending c.tell.result
    c.in-Ok.work c.tell.ensures.back c.in-Ok.ensures.work in
    broken (AreKnown (texts_of c.args.words.now)) (AskToRead (texts_of c.args.words.now)) (texts_of c.args.words.now)
    c.in-Some.command _ _ _ _ _ _ (returned c.tell.result) c.in-Ok.work.ending c.in-Some.ensures.known.1
    (threads_end c.in-Some.command c.in-Ok.work.ending c.in-Some.ensures.known.0)
    (λ _. inl (threads_read c.in-Some.command (texts_of c.args.words.now) c.in-Some.ensures.known.0
    c.in-Some.ensures.known.1)) c.in-Ok.ensures.from done c.tell.ensures.front

pub returns-in-Ok-clause-complete : goal.returns-in-Ok-clause-complete
returns-in-Ok-clause-complete g c =
    let done = work_with c.in-Some.command (g.S.Source.left c.args.source.now) c.in-Ok.work.ending c.tell.result
    c.in-Ok.work c.tell.ensures.back c.in-Ok.ensures.work in
    completes (AskToPlay (texts_of c.args.words.now)) (texts_of c.args.words.now) c.in-Some.command
    (g.S.Source.left c.args.source.now) (g.S.Source.left c.work_on.new.source) (g.S.Source.faults c.args.source.now)
    (g.S.Source.faults c.work_on.new.source) (returned c.tell.result) c.in-Ok.work.ending c.tell.result.status
    (λ asks. asks) c.in-Some.ensures.known.1 c.tell.ensures.status c.in-Ok.ensures.from done c.in-Ok.ensures.rest

pub returns-in-Ok-clause-judged : goal.returns-in-Ok-clause-judged
returns-in-Ok-clause-judged g c =
    judged (texts_of c.args.words.now) c.in-Some.command (g.S.Source.left c.args.source.now)
    (g.S.Source.left c.work_on.new.source) (g.S.Source.faults c.args.source.now)
    (g.S.Source.faults c.work_on.new.source)
    (brought c.in-Ok.work) c.in-Ok.work.ending c.tell.result.status c.in-Some.ensures.known.1 c.tell.ensures.status
    c.in-Ok.ensures.from c.in-Ok.ensures.work c.in-Ok.ensures.rest

pub returns-in-Ok-clause-made : goal.returns-in-Ok-clause-made
returns-in-Ok-clause-made g c = made (texts_of c.args.words.now) c.in-Some.command c.in-Ok.work.ending
    c.tell.result.status c.in-Some.ensures.known.1 c.tell.ensures.status
    (threads_end c.in-Some.command c.in-Ok.work.ending c.in-Some.ensures.known.0)

pub returns-in-Ok-clause-none_judged : goal.returns-in-Ok-clause-none_judged
returns-in-Ok-clause-none_judged g c =
    let done = work_with c.in-Some.command (g.S.Source.left c.args.source.now) c.in-Ok.work.ending c.tell.result
    c.in-Ok.work c.tell.ensures.back c.in-Ok.ensures.work in
    none_judged (texts_of c.args.words.now) c.in-Some.command (g.S.Source.left c.args.source.now)
    (returned c.tell.result) c.in-Ok.work.ending c.in-Some.ensures.known.1 done

pub returns-in-Ok-clause-unread : goal.returns-in-Ok-clause-unread
returns-in-Ok-clause-unread g c = λ gen.
    absurd (threads_reading c.in-Some.command c.in-Some.ensures.known.0
    (reads_nothing c.in-Some.command (texts_of c.args.words.now) c.in-Some.ensures.known.1 gen))

pub returns-in-Err-clause-unread : goal.returns-in-Err-clause-unread
returns-in-Err-clause-unread g c = λ gen.
    absurd (threads_reading c.in-Some.command c.in-Some.ensures.known.0
    (reads_nothing c.in-Some.command (texts_of c.args.words.now) c.in-Some.ensures.known.1 gen))

pub returns-in-Ok-clause-other_words : goal.returns-in-Ok-clause-other_words
returns-in-Ok-clause-other_words g c = λ unknown. absurd (unknown (c.in-Some.command, c.in-Some.ensures.known.1))

pub returns-in-Err-clause-other_words : goal.returns-in-Err-clause-other_words
returns-in-Err-clause-other_words g c = λ unknown. absurd (unknown (c.in-Some.command, c.in-Some.ensures.known.1))

pub returns-in-Ok-clause-no_runs : goal.returns-in-Ok-clause-no_runs
returns-in-Ok-clause-no_runs g c =
    let done = work_with c.in-Some.command (g.S.Source.left c.args.source.now) c.in-Ok.work.ending c.tell.result
    c.in-Ok.work c.tell.ensures.back c.in-Ok.ensures.work in
    nothing_by c.in-Some.command (g.S.Source.left c.args.source.now) (returned c.tell.result) c.in-Ok.work.ending
    c.tell.result.status done c.tell.ensures.status

pub returns-in-Ok-clause-no_entries : goal.returns-in-Ok-clause-no_entries
returns-in-Ok-clause-no_entries g c = λ other.
    ap (λ back. back.entries) c.tell.ensures.back
    ∙ no_entries (texts_of c.args.words.now) c.in-Some.command (brought c.in-Ok.work)
    c.in-Some.ensures.known.1 c.in-Ok.ensures.own other

pub returns-in-Ok-clause-consoles : goal.returns-in-Ok-clause-consoles
returns-in-Ok-clause-consoles g c =
    let done = work_with c.in-Some.command (g.S.Source.left c.args.source.now) c.in-Ok.work.ending c.tell.result
    c.in-Ok.work c.tell.ensures.back c.in-Ok.ensures.work in
    completes_consoles (AskConsoles (texts_of c.args.words.now)) (texts_of c.args.words.now) c.in-Some.command
    (g.S.Source.left c.args.source.now) (g.S.Source.left c.work_on.new.source) (g.S.Source.faults c.args.source.now)
    (g.S.Source.faults c.work_on.new.source) (returned c.tell.result) c.in-Ok.work.ending c.tell.result.status
    (λ asks. asks) c.in-Some.ensures.known.1 c.tell.ensures.status c.in-Ok.ensures.from done c.in-Ok.ensures.rest

pub returns-in-Ok-clause-no_log : goal.returns-in-Ok-clause-no_log
returns-in-Ok-clause-no_log g c = λ other.
    ap (λ back. back.log) c.tell.ensures.back
    ∙ no_log (texts_of c.args.words.now) c.in-Some.command (brought c.in-Ok.work)
    c.in-Some.ensures.known.1 c.in-Ok.ensures.own other

pub returns-in-Ok-clause-no_modem_log : goal.returns-in-Ok-clause-no_modem_log
returns-in-Ok-clause-no_modem_log g c = λ other.
    ap (λ back. back.modem_log) c.tell.ensures.back
    ∙ no_modem_log (texts_of c.args.words.now) c.in-Some.command (brought c.in-Ok.work)
    c.in-Some.ensures.known.1 c.in-Ok.ensures.own other

pub returns-in-Ok-clause-none_derived : goal.returns-in-Ok-clause-none_derived
returns-in-Ok-clause-none_derived g c = λ other.
    no_session c.tell.result.derived
    (ap (λ back. back.derived) c.tell.ensures.back
    ∙ none_derived (texts_of c.args.words.now) c.in-Some.command (brought c.in-Ok.work)
    c.in-Some.ensures.known.1 c.in-Ok.ensures.own other)

pub returns-in-Ok-clause-modem_lines : goal.returns-in-Ok-clause-modem_lines
returns-in-Ok-clause-modem_lines g c =
    not_modem_lines (texts_of c.args.words.now) (g.S.Source.left c.args.source.now) _ _ _
    (λ modem. threads_are_not_modem (texts_of c.args.words.now) c.in-Some.command c.in-Some.ensures.known.0
    c.in-Some.ensures.known.1 modem)

pub returns-in-Err-clause-modem_lines : goal.returns-in-Err-clause-modem_lines
returns-in-Err-clause-modem_lines g c =
    not_modem_lines (texts_of c.args.words.now) (g.S.Source.left c.args.source.now) _ _ _
    (λ modem. threads_are_not_modem (texts_of c.args.words.now) c.in-Some.command c.in-Some.ensures.known.0
    c.in-Some.ensures.known.1 modem)

pub returns-in-Ok-clause-processes : goal.returns-in-Ok-clause-processes
returns-in-Ok-clause-processes g c = not_processes (texts_of c.args.words.now) (g.S.Source.left c.args.source.now) _ _ _
    (λ jobs. threads_are_not_jobs (texts_of c.args.words.now) c.in-Some.command c.in-Some.ensures.known.0
    c.in-Some.ensures.known.1 jobs)

pub returns-in-Err-clause-processes : goal.returns-in-Err-clause-processes
returns-in-Err-clause-processes g c = not_processes (texts_of c.args.words.now) (g.S.Source.left c.args.source.now) _ _
    _ (λ jobs. threads_are_not_jobs (texts_of c.args.words.now) c.in-Some.command c.in-Some.ensures.known.0
    c.in-Some.ensures.known.1 jobs)
