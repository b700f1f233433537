-- Two reports of a session of processes on one thread are the same.
use Rattle.std.proofs.Common.{◌≡◌, ◌<◌, inl, inr, ℕ, List, [], ◌∷◌}
use Rattle.std.proofs.Common.{◌++◌, Some}
use Rattle.std.proofs.Common.{Option, Ok, map, codes, refl, sym, ◌∙◌, ap}
use Rattle.std.proofs.Common.{subst, arith}
use Rattle.std.specs.Prelude.{slice_index_or}
use Rattle.tty_calls.specs.declared.journals.PortRun.{PortRun}
use Rattle.session_print.specs.Ends.{PlainEnd}
use Rattle.session_print.specs.Lines.{newline}
use Rattle.passed_calls.specs.Blocks.{names_on}
use Rattle.passed_calls.specs.Logs.{logged_on}
use Rattle.job_text.specs.Events.{JobLog}
use Rattle.job_text.specs.Sessions.{JobsSession, blocks_in}
use Rattle.job_control.specs.declared.processes.Proc.{Proc}
use Rattle.job_text.specs.Reading.{jobs_in}
use Rattle.job_steps.specs.Derived.{derived}
use Rattle.job_steps.specs.Steps.{Port, JobsState, first_state, Leads}
use Rattle.job_steps.specs.Order.{AreEventsInTurn}
use Rattle.job_one.specs.Played.{port_in}
use Rattle.further_report.specs.Calls.{ToldAnswer, calls_text}
use Rattle.further_report.specs.Ports.{without_phases}
use Rattle.further_report.specs.Jobs.{own_verb, told_in, scripts_in, port_calls, signal_in}
use Rattle.further_report.specs.Jobs.{port_signals, jobs_report_text}
use Rattle.job_laws.specs.OneRun.{IsPlayedWhole}
use Rattle.job_laws.proofs.OnePort.{one_port}
use Rattle.tty_one.specs.declared.words.Command.{Command}
use Rattle.tty_one.specs.declared.words.Command.TheVariants.{Run, RunOne, Modem, Jobs, Gen, Check, Vt, VtOne}
use Rattle.tty_one.specs.Endings.{Ask, AskJobs}
use Rattle.tty_one.specs.Outcome.{IsToldBy, IsDone, GaveTheSame}
use Rattle.tty_one.specs.Reported.{Returned, end_at, IsOrdered, IsWhole, IsToldAs}
use Rattle.tty_one.specs.Processes.{bare_proc, bare_of, log_of, IsLoggedOn, AreProcessesPlayed, IsToldOfProcesses}
use Rattle.tty_one.proofs.BareJobs.{bare_port, bare_state, first_state_same, leads_bare, turns_bare}
use Rattle.tty_one.proofs.AskedWords.{not_jobs_and_one, not_jobs_and_gen, not_jobs_and_vt, not_jobs_and_run}
use Rattle.tty_one.proofs.AskedWords.{not_jobs_and_check, not_modem_and_jobs}
use Rattle.tty_one.proofs.LoggedReport.{IsSameTold, IsReportOf, one_logged_report, same_ok}
use Rattle.tty_one.proofs.LogsAlike.{told_same, each_same}
use Rattle.tty_one.proofs.OneReport.{AreSame, all_ports, both_gave}

-- ---- what a report says of a port

-- logs that are the same on each port, and runs that are the same, are told alike
pub same_told : (session : JobsSession) (log other : JobLog) (runs others : List PortRun) (ends : List PlainEnd)
    → ((p : ℕ) → p < session.ports → logged_on p log ≡ logged_on p other)
    → AreSame runs others
    → jobs_report_text session log runs ends ≡ jobs_report_text session other others ends
same_told session log other runs others ends same h =
    let calls = each_same (port_calls session log) (port_calls session other) 0 session.ports (λ p low high.
    ap (λ (ts : List ToldAnswer). calls_text own_verb p (names_on p (blocks_in session)) ts (scripts_in session))
    (told_same told_in p log other (same p (omega (arith, high))))) in
    let signals = each_same (port_signals session log) (port_signals session other) 0 session.ports (λ p low high.
    told_same (signal_in p (slice_index_or session.procs p [])) p log other (same p (omega (arith, high)))) in
    let ports = all_ports (without_phases session.version session.ports session.flips) 0 runs others ends h in
    λ i. calls i ++ (ports i ++ (signals i ++ (codes "done" ++ newline)))

-- ---- of one session

-- a port that was played, with what is told of it
record IsToldPort (session : JobsSession) (log : JobLog) (p : ℕ) (run : PortRun) (end : PlainEnd) : Type 0 where
  whole : IsWhole IsOrdered p (derived session log) run end
  logged : IsLoggedOn p session log run

played_whole : (session : JobsSession) (log : JobLog) (p : ℕ) (run : PortRun) (end : PlainEnd)
    → (h : IsToldPort session log p run end)
    → IsPlayedWhole p session log run h.whole.terminal
played_whole session log p run end h = record {
  legal = h.whole.legal;
  in_order = h.whole.in_order;
  logged = h.logged.whole;
  in_turn = h.logged.in_turn;
}

same_port : (session : JobsSession) (log other : JobLog) (p : ℕ) (run again : PortRun) (end last : PlainEnd)
    → IsToldPort session log p run end
    → IsToldPort session other p again last
    → IsSameTold p log other run again end last
same_port session log other p run again end last h k =
    let same = one_port p session log other run again h.whole.terminal k.whole.terminal
    (played_whole session log p run end h) (played_whole session other p again last k) in
    record {
      run_same = same.run_same;
      end_same = h.whole.at_end ∙ (ap end_at same.terminal ∙ sym k.whole.at_end);
      log_same = same.log_same;
    }

report_of : (session : JobsSession) (back : Returned) (text : List ℕ)
    → AreProcessesPlayed session back text
    → IsReportOf session.ports (jobs_report_text (bare_of session)) (IsToldPort session (log_of back)) (log_of back)
    back.runs text
report_of session back text h = record {
  ends = h.told.ends;
  runs_of_all = h.told.runs_of_all;
  ends_of_all = h.told.ends_of_all;
  each = λ p run end is at. record { whole = h.told.each p run end is at; logged = h.logged p run is };
  told = h.told.told;
}

one_session_report : (session : JobsSession) (back other : Returned) (text told : List ℕ)
    → AreProcessesPlayed session back text
    → AreProcessesPlayed session other told
    → text ≡ told
one_session_report session back other text told h k =
    let log = log_of back in
    let log' = log_of other in
    one_logged_report session.ports (jobs_report_text (bare_of session)) (IsToldPort session log)
    (IsToldPort session log') log log' back.runs other.runs text told
    (λ p run again end last x y. same_port session log log' p run again end last x y)
    (λ ends logs runs. same_told (bare_of session) log log' back.runs other.runs ends logs runs)
    (report_of session back text h) (report_of session other told k)

-- ---- of sessions that differ in the room behind names alone

logged_bare : (p : ℕ) (session : JobsSession) (log : JobLog) (run : PortRun)
    → IsLoggedOn p session log run
    → IsLoggedOn p (bare_of session) log run
logged_bare p session log run h =
    let played = derived session log in
    let port : Port = port_in session played p run.journal.items in
    record {
      whole = record {
        run = record {
          last = bare_state h.whole.run.last;
          leads = subst (λ (s : JobsState).
              Leads (bare_port port) s (logged_on p log) (bare_state h.whole.run.last))
              (sym (first_state_same port))
              (leads_bare port (first_state port) h.whole.run.last (logged_on p log) h.whole.run.leads);
          nothing_due = h.whole.run.nothing_due;
          all_sent = h.whole.run.all_sent;
        };
        answered = h.whole.answered;
      };
      in_turn = subst (λ (s : JobsState). AreEventsInTurn played (bare_port port) s (logged_on p log))
          (sym (first_state_same port)) (turns_bare played port (first_state port) (logged_on p log) h.in_turn);
    }

bare_procs : (procs : List Proc) → map bare_proc (map bare_proc procs) ≡ map bare_proc procs
bare_procs [] = refl
bare_procs (x ∷ xs) = ap (λ (ps : List Proc). bare_proc x ∷ ps) (bare_procs xs)

bare_ports : (ports : List (List Proc))
    → map (λ ps. map bare_proc ps) (map (λ ps. map bare_proc ps) ports) ≡ map (λ ps. map bare_proc ps) ports
bare_ports [] = refl
bare_ports (ps ∷ ports) = λ i. bare_procs ps i ∷ bare_ports ports i

bare_twice : (session : JobsSession) → bare_of (bare_of session) ≡ bare_of session
bare_twice session = ap (λ (ports : List (List Proc)). record session { procs = ports }) (bare_ports session.procs)

played_bare : (session : JobsSession) (back : Returned) (text : List ℕ)
    → AreProcessesPlayed session back text
    → AreProcessesPlayed (bare_of session) back text
played_bare session back text h = record {
  told = subst (λ (s : JobsSession).
      IsToldAs IsOrdered (jobs_report_text s (log_of back)) (derived session (log_of back)) back.runs text)
      (sym (bare_twice session)) h.told;
  logged = λ p run is. logged_bare p session (log_of back) run (h.logged p run is);
  derives = h.derives;
}

-- two sessions that one text spells
pub one_processes_report : (session again : JobsSession) (back other : Returned) (text told : List ℕ)
    → bare_of session ≡ bare_of again
    → AreProcessesPlayed session back text
    → AreProcessesPlayed again other told
    → text ≡ told
one_processes_report session again back other text told same h k =
    one_session_report (bare_of session) back other text told (played_bare session back text h)
    (subst (λ (s : JobsSession). AreProcessesPlayed s other told) (sym same) (played_bare again other told k))

-- ---- two calls

processes_told : (words : List (List ℕ)) (bytes : List ℕ) (command : Command) (back : Returned) (text : List ℕ)
    → AskJobs words
    → Ask command words
    → IsToldBy command (Some bytes) back text
    → IsToldOfProcesses (Some bytes) back text
processes_told words bytes (Run journals) back text jobs asked told =
    absurd (not_jobs_and_run words journals jobs asked)
processes_told words bytes (RunOne journals) back text jobs asked told =
    absurd (not_jobs_and_one words journals jobs asked)
processes_told words bytes Modem back text jobs asked told = absurd (not_modem_and_jobs words asked jobs)
processes_told words bytes Jobs back text jobs asked told = told
processes_told words bytes (Gen number) back text jobs asked told =
    absurd (not_jobs_and_gen words jobs (number, asked))
processes_told words bytes Check back text jobs asked told = absurd (not_jobs_and_check words jobs asked)
processes_told words bytes Vt back text jobs asked told = absurd (not_jobs_and_vt words jobs (inl asked))
processes_told words bytes VtOne back text jobs asked told = absurd (not_jobs_and_vt words jobs (inr asked))

pub processes_tell_the_same : (words : List (List ℕ)) (bytes before before' : List ℕ) (now now' : Option (List ℕ))
    (back other : Returned)
    → AskJobs words
    → IsDone words (Some bytes) (Some before) now back
    → IsDone words (Some bytes) (Some before') now' other
    → GaveTheSame before before' now now'
processes_tell_the_same words bytes before before' now now' back other jobs h k =
    let first = processes_told words bytes h.command back h.text jobs h.asked h.done in
    let second = processes_told words bytes k.command other k.text jobs k.asked k.done in
    let one = subst (λ (read : List ℕ). jobs_in read ≡ Ok (bare_of first.session)) first.whole first.spelled in
    let two = subst (λ (read : List ℕ). jobs_in read ≡ Ok (bare_of second.session)) second.whole second.spelled in
    both_gave before before' h.text k.text now now'
    (one_processes_report first.session second.session back other h.text k.text
    (same_ok (bare_of first.session) (bare_of second.session) (jobs_in bytes) one two) first.played second.played)
    h.given k.given
