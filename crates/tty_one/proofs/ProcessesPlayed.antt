-- What became of a session of processes that was played, as it is reported.
use Rattle.std.proofs.Common.{◌≡◌, ℕ, List, [], Option, Some, Result, Ok, Err, map, refl, sym, ap, subst, ◌∙◌, arith}
use Rattle.std.specs.Prelude.{IfOk, slice_get}
use Rattle.std.proofs.lemmas.List.{length-map}
use Rattle.tty_base.specs.declared.buffers.NoMemory.{NoMemory}
use Rattle.tty_calls.specs.declared.answers.PortEnd.{PortEnd}
use Rattle.tty_calls.specs.declared.journals.PortRun.{PortRun}
use Rattle.tty_calls.specs.Sessions.{PlainSession, session_of}
use Rattle.session_print.specs.Ends.{PlainEnd, end_of}
use Rattle.play_base.specs.Played.{ArePlayed}
use Rattle.passed_calls.specs.Within.{ArePassedWithin}
use Rattle.passed_calls.specs.Logs.{logged_on}
use Rattle.job_text.specs.declared.sessions.JobsSession.{JobsSession as KeptSession}
use Rattle.job_text.specs.Events.{JobLog, logged_of}
use Rattle.job_text.specs.Reading.{jobs_in}
use Rattle.job_text.specs.Sessions.{JobsSession, bare_session_of, jobs_session_of}
use Rattle.job_steps.specs.Derived.{derived}
use Rattle.job_steps.specs.Order.{AreEventsInTurn}
use Rattle.job_steps.specs.Steps.{first_state}
use Rattle.job_one.specs.Played.{port_in, AreJobsPlayed, IsLoggedWhole}
use Rattle.job_ports.specs.declared.running.JobsRan.{JobsRan}
use Rattle.further_report.specs.Jobs.{jobs_report_text}
use Rattle.tty_one.specs.declared.words.Command.TheVariants.{Jobs}
use Rattle.tty_one.specs.declared.works.Work.{Work}
use Rattle.tty_one.specs.declared.works.Ending.{Ending}
use Rattle.tty_one.specs.declared.works.Ending.TheVariants.{Done, BadSession, BadWords, ReadFault, TooLong, NotLegal}
use Rattle.tty_one.specs.Endings.{IsOfSource, IsShort}
use Rattle.tty_one.specs.Reported.{Returned, IsOrdered, IsWhole, IsToldAs, IsAllOf}
use Rattle.tty_one.specs.Processes.{bare_of, given_to, AreProcessesPlayed}
use Rattle.tty_one.specs.Processes.{IsLoggedOn, IsToldOfProcesses, processes_refusal}
use Rattle.tty_one.specs.Works.{brought, AreProcessesWork, CanProcessesBePlayed, IsNeverFull}
use Rattle.tty_one.specs.Works.{IsProcessesText, IsReportOfProcesses, IsWork}
use Rattle.tty_one.proofs.Bared.{kept_bare}
use Rattle.tty_one.proofs.PortLemmas.{each_whole, there_too}
use Rattle.tty_one.proofs.ProcessesRoom.{spelled_kept}
use Rattle.tty_one.proofs.Refused.{line_from}
use Rattle.order_laws.specs.Sessions.{AreNotFull}

-- ---- a session

-- the log of a port, whatever session this was
record IsLoggedFor (p : ℕ) (session : JobsSession) (played : PlainSession) (log : JobLog) (run : PortRun) : Type 0 where
  whole : IsLoggedWhole (port_in session played p run.journal.items) log
  in_turn : AreEventsInTurn played (port_in session played p run.journal.items)
      (first_state (port_in session played p run.journal.items)) (logged_on p log)

logged_so : (p : ℕ) (session : JobsSession) (log : JobLog) (run : PortRun)
    → IsLoggedFor p session (derived session log) log run
    → IsLoggedOn p session log run
logged_so p session log run h = record { whole = h.whole; in_turn = h.in_turn }

module _ (session : JobsSession) (log : JobLog) (runs : List PortRun) (ends : List PortEnd) (was : PlainSession)
    (can : CanProcessesBePlayed session) (plays : AreJobsPlayed session log runs ends was)
    (within : ArePassedWithin (given_to session log runs)) where
  same_ports : session.ports ≡ was.ports
  same_ports = ap (λ (s : PlainSession). s.ports) (sym plays.is_played)

  never_full : IsNeverFull was
  never_full = subst IsNeverFull (sym plays.is_played) (can.never_full log runs within)

  not_full : AreNotFull runs
  not_full p run is = λ full.
      let end = there_too runs ends p run (plays.runs_of_all ∙ sym plays.ends_of_all) is in
      let on = (plays.each p run end.0 is end.1).played_on in
      let room = never_full p run on.terminal on.short in
      omega (arith, full, room)

  pub is_derived : was ≡ derived session log
  is_derived = plays.is_derived not_full

  ports_played : ArePlayed was runs ends
  ports_played = record {
    runs_of_all = plays.runs_of_all ∙ same_ports;
    ends_of_all = plays.ends_of_all ∙ same_ports;
    each = λ p run end is at. (plays.each p run end is at).played_on;
  }

  wholes : (p : ℕ) (run : PortRun) (plain : PlainEnd)
      → slice_get runs p ≡ Some run
      → slice_get (map end_of ends) p ≡ Some plain
      → IsWhole IsOrdered p was run plain
  wholes = each_whole IsOrdered was runs ends never_full ports_played (λ p run is free.
      let end = there_too runs ends p run (plays.runs_of_all ∙ sym plays.ends_of_all) is in
      (plays.each p run end.0 is end.1).in_order.whole free)

  told_of : (text : List ℕ)
      → text ≡ jobs_report_text (bare_of session) log runs (map end_of ends)
      → IsToldAs IsOrdered (jobs_report_text (bare_of session) log) was runs text
  told_of text told = record {
    ends = map end_of ends;
    runs_of_all = plays.runs_of_all ∙ same_ports;
    ends_of_all = length-map ends end_of ∙ (plays.ends_of_all ∙ same_ports);
    each = wholes;
    told = told;
  }

  logs_of : (p : ℕ) (run : PortRun) → slice_get runs p ≡ Some run → IsLoggedFor p session was log run
  logs_of p run is =
      let end = there_too runs ends p run (plays.runs_of_all ∙ sym plays.ends_of_all) is in
      let on = plays.each p run end.0 is end.1 in
      record { whole = on.whole (not_full p run is); in_turn = on.logged.in_turn }

  pub told_derived : (text : List ℕ)
      → text ≡ jobs_report_text (bare_of session) log runs (map end_of ends)
      → IsToldAs IsOrdered (jobs_report_text (bare_of session) log) (derived session log) runs text
  told_derived text told = subst
      (λ (s : PlainSession). IsToldAs IsOrdered (jobs_report_text (bare_of session) log) s runs text) is_derived
      (told_of text told)

  pub logs_derived : (p : ℕ) (run : PortRun) → slice_get runs p ≡ Some run → IsLoggedOn p session log run
  logs_derived p run is = logged_so p session log run
      (subst (λ (s : PlainSession). IsLoggedFor p session s log run) is_derived (logs_of p run is))

-- what a player of processes returned
module _ (kept : KeptSession) (ran : JobsRan) (can : CanProcessesBePlayed (jobs_session_of kept))
    (plays : AreJobsPlayed (jobs_session_of kept) (map logged_of ran.log.items) ran.runs.items ran.ends.items
    (session_of ran.derived))
    (within : ArePassedWithin (given_to (jobs_session_of kept) (map logged_of ran.log.items) ran.runs.items)) where
  abbrev back_of : Returned
  back_of = record {
    runs = ran.runs.items;
    entries = [];
    modem_log = [];
    log = ran.log.items;
    derived = Some (session_of ran.derived);
  }

  made : (text : List ℕ)
      → text
      ≡ jobs_report_text (bare_session_of kept) (map logged_of ran.log.items) ran.runs.items (map end_of ran.ends.items)
      → AreProcessesPlayed (jobs_session_of kept) back_of text
  made text told =
      let log = map logged_of ran.log.items in
      let same =
      ap (λ (s : JobsSession). jobs_report_text s log ran.runs.items (map end_of ran.ends.items)) (kept_bare kept) in
      record {
        told =
            told_derived (jobs_session_of kept) log ran.runs.items ran.ends.items (session_of ran.derived) can plays
            within text (told ∙ same);
        logged =
            logs_derived (jobs_session_of kept) log ran.runs.items ran.ends.items (session_of ran.derived) can plays
            within;
        derives =
            ap (λ (s : PlainSession). Some s)
            (is_derived (jobs_session_of kept) log ran.runs.items ran.ends.items (session_of ran.derived) can plays
            within);
      }

  work_at : (e : Ending) (back : Returned)
      → IsReportOfProcesses kept ran e
      → back ≡ back_of
      → AreProcessesWork (jobs_session_of kept) e back
  work_at (Done text) back told same =
      subst (λ (b : Returned). AreProcessesPlayed (jobs_session_of kept) b text.items) (sym same) (made text.items told)
  work_at (BadSession line) back told same = told
  work_at BadWords back told same = told
  work_at ReadFault back told same = told
  work_at TooLong back told same = told
  work_at (NotLegal line) back told same = told

  pub played_processes : (r : Result Work NoMemory)
      → IfOk r (λ work. IsReportOfProcesses kept ran work.ending)
      → IfOk r (λ work. brought work ≡ back_of)
      → IfOk r (λ work. AreProcessesWork (jobs_session_of kept) work.ending (brought work))
  played_processes (Ok work) told same = work_at work.ending (brought work) told same
  played_processes (Err e) told same = told

-- ---- a text

-- what was played of the session that a text spells
text_at : (text : List ℕ) (kept : KeptSession) (e : Ending) (back : Returned)
    → jobs_in text ≡ Ok (bare_session_of kept)
    → AreProcessesWork (jobs_session_of kept) e back
    → IsProcessesText text e back
text_at text kept (Done report) back spells h = record {
  read = text;
  session = jobs_session_of kept;
  whole = refl;
  spelled = spelled_kept text kept spells;
  played = h;
}
text_at text kept (BadSession line) back spells h = absurd h
text_at text kept BadWords back spells h = h
text_at text kept ReadFault back spells h = h
text_at text kept TooLong back spells h = h
text_at text kept (NotLegal line) back spells h = h

pub text_works : (text : List ℕ) (kept : KeptSession) (r : Result Work NoMemory)
    → jobs_in text ≡ Ok (bare_session_of kept)
    → IfOk r (λ work. AreProcessesWork (jobs_session_of kept) work.ending (brought work))
    → IfOk r (λ work. IsProcessesText text work.ending (brought work))
text_works text kept (Ok work) spells h = text_at text kept work.ending (brought work) spells h
text_works text kept (Err e) spells h = h

-- the text is all that the source had left
told_from : (left : Option (List ℕ)) (text report : List ℕ) (back : Returned)
    → IsAllOf left text
    → IsToldOfProcesses (Some text) back report
    → IsToldOfProcesses left back report
told_from left text report back whole h =
    record {
      read = h.read;
      session = h.session;
      whole = subst (IsAllOf left) (sym h.whole) whole;
      spelled = h.spelled;
      played = h.played;
    }

processes_at : (faults now : ℕ) (left rest : Option (List ℕ)) (text : List ℕ) (e : Ending) (back : Returned)
    → IsAllOf left text
    → IsShort left rest
    → IsProcessesText text e back
    → IsWork Jobs left e back × IsOfSource e faults now left rest
processes_at faults now left rest text (Done report) back whole short h =
    (told_from left text report.items back whole h, short)
processes_at faults now left rest text (BadSession line) back whole short h =
    ((h.0, line_from processes_refusal left text line.items whole h.1), short)
processes_at faults now left rest text BadWords back whole short h = absurd h
processes_at faults now left rest text ReadFault back whole short h = absurd h
processes_at faults now left rest text TooLong back whole short h = absurd h
processes_at faults now left rest text (NotLegal line) back whole short h = absurd h

pub processes_work : (faults now : ℕ) (left rest : Option (List ℕ)) (text : List ℕ) (r : Result Work NoMemory)
    → IsAllOf left text
    → IsShort left rest
    → IfOk r (λ work. IsProcessesText text work.ending (brought work))
    → IfOk r (λ work. IsWork Jobs left work.ending (brought work))
processes_work faults now left rest text (Ok work) whole short h =
    (processes_at faults now left rest text work.ending (brought work) whole short h).0
processes_work faults now left rest text (Err e) whole short h = h

pub processes_source : (faults now : ℕ) (left rest : Option (List ℕ)) (text : List ℕ) (r : Result Work NoMemory)
    → IsAllOf left text
    → IsShort left rest
    → IfOk r (λ work. IsProcessesText text work.ending (brought work))
    → IfOk r (λ work. IsOfSource work.ending faults now left rest)
processes_source faults now left rest text (Ok work) whole short h =
    (processes_at faults now left rest text work.ending (brought work) whole short h).1
processes_source faults now left rest text (Err e) whole short h = h
