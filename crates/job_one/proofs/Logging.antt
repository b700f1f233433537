-- One event more in the log of a port whose journal still grows.
use Rattle.std.proofs.Common.{◌≡◌, ◌≤◌, ◌<◌, ℕ, zero, suc, ◌+◌, ◌-◌, Bool, false, List, [], ◌∷◌}
use Rattle.std.proofs.Common.{◌++◌, IsTrue, Option, Some, length, if◌then◌else◌, map}
use Rattle.std.proofs.Common.{refl, sym, ap, ◌∙◌, subst, arith, length-append, append_assoc}
use Rattle.std.specs.Prelude.{slice_get, nat_le, option_map}
use Rattle.std.proofs.lemmas.List.{length-map}
use Rattle.legal_runs.proofs.NameLemmas.{get_past}
use Rattle.tty_base.specs.declared.counters.Signal.{Signal}
use Rattle.tty_calls.specs.Plain.{PlainCall}
use Rattle.tty_calls.specs.Plain.{hangs_up, PlainAnswer, done}
use Rattle.tty_calls.specs.Plain.{PlainEntry}
use Rattle.tty_terminal.specs.Terminals.{Terminal, caller_at, has_begun}
use Rattle.port_core.specs.Ports.{PortValue, IsPort, call_in}
use Rattle.job_control.specs.declared.answers.JobAnswer.{JobAnswer}
use Rattle.job_control.specs.declared.answers.Target.{Target}
use Rattle.job_control.specs.declared.processes.JobSignal.{JobSignal}
use Rattle.passed_calls.specs.declared.logs.Logged.{Logged}
use Rattle.passed_calls.specs.Journals.{Journal}
use Rattle.passed_calls.specs.Scripts.{plain}
use Rattle.passed_calls.specs.Logs.{logged_on}
use Rattle.job_text.specs.Events.{JobEvent, own, passed, passed_down, sent, JobLog}
use Rattle.job_text.specs.Sessions.{JobCall, JobsSession}
use Rattle.job_steps.specs.Derived.{IsStepIn}
use Rattle.job_steps.specs.Steps.{Port, JobsState, first_state}
use Rattle.job_steps.specs.Steps.{proc_of, next_of, next_call, with_jobs, answered_for, after_own, after_passed}
use Rattle.job_steps.specs.Steps.{after_event, rest_of, outcome_of, is_own, OwnAnswer, IsOfCall, WentToPort}
use Rattle.job_steps.specs.Steps.{first_place}
use Rattle.job_steps.specs.Steps.{job_signal, raised_at, foreground_target, IsSent, IsAllowed, Leads}
use Rattle.order_laws.specs.Later.{IsLater, ComesBy, WasAnswered}
use Rattle.order_laws.proofs.Laters.{later_before, terminal_now, long_enough, on_more}
use Rattle.job_steps.proofs.Moments.{later_not, passed_at}
use Rattle.job_one.specs.Later.{port_with, HasLogged, HasGoneOn}

-- ---- the log grows

pub leads_more : (port : Port) (s u : JobsState) (log : JobLog) (l : Logged JobEvent)
    → Leads port s log u
    → u.now.at ≤ l.at
    → l.at ≤ length port.journal.entries
    → IsAllowed port u l.at l.event
    → Leads port s (log ++ l ∷ []) (after_event port u l.at l.event)
leads_more port s u [] l h low high allowed = (
  subst (λ (x : JobsState). x.now.at ≤ l.at) h low,
  high,
  subst (λ (x : JobsState). IsAllowed port x l.at l.event) h allowed,
  ap (λ (x : JobsState). after_event port x l.at l.event) h,
)
leads_more port s u (x ∷ log) l h low high allowed =
    (h.0, h.1, h.2, leads_more port (after_event port s x.at x.event) u log l h.3 low high allowed)

-- by an event that is allowed now, whatever comes
pub logs : (p : ℕ) (session : JobsSession) (log : JobLog) (v : PortValue) (u next : JobsState) (event : JobEvent)
    → HasLogged p session log v u
    → ((j : Journal) → IsLater v j → IsAllowed (port_with p session j) u (length v.journal) event)
    → ((j : Journal) → IsLater v j → after_event (port_with p session j) u (length v.journal) event ≡ next)
    → next.now.at ≤ length v.journal
    → HasLogged p session (log ++ record { port = p; at = length v.journal; event = event } ∷ []) v next
logs p session log v u next event h allowed comes low =
    record {
      leads = λ j later.
          let port = port_with p session j in
          subst (λ (es : JobLog). Leads port (first_state port) es next) (sym (on_more p (length v.journal) event log))
          (subst (λ (x : JobsState). Leads port (first_state port)
          (logged_on p log ++ record { port = p; at = length v.journal; event = event } ∷ []) x)
          (comes j later)
          (leads_more port (first_state port) u (logged_on p log)
          (record { port = p; at = length v.journal; event = event }) (h.leads j later) h.at (long_enough v j later)
          (allowed j later)));
      at = low;
    }

-- by an entry of the port alone
pub log_stays : (p : ℕ) (session : JobsSession) (log : JobLog) (v w : PortValue) (part : List PlainEntry)
    (u : JobsState)
    → ComesBy v w part
    → HasLogged p session log v u
    → HasLogged p session log w u
log_stays p session log v w part u by h =
    record {
      leads = λ j later. h.leads j (later_before v w part j by later);
      at = omega (arith, h.at, ap (λ (es : List PlainEntry). length es) by.added, length-append v.journal part);
    }

-- ---- helpers

get_map : (xs : List Signal) (i : ℕ) (x : Signal)
    → slice_get xs i ≡ Some x
    → slice_get (map job_signal xs) i ≡ Some (job_signal x)
get_map [] i x h = absurd (cc)
get_map (y ∷ xs) zero x h = ap (λ (o : Option Signal). option_map job_signal o) h
get_map (y ∷ xs) (suc i) x h = get_map xs i x h

-- ---- each kind of event

-- what each kind of event makes, whatever comes
pub own_comes : (p : ℕ) (session : JobsSession) (v : PortValue) (u : JobsState) (d : Journal) (c : ℕ) (call : JobCall)
    (answer : JobAnswer)
    → IsPort v
    → next_call (port_with p session d) u c ≡ Some call
    → (j : Journal)
    → IsLater v j
    → after_event (port_with p session j) u (length v.journal) (own c (next_of u c) answer)
    ≡ answered_for (after_own v.terminal (proc_of (port_with p session d) c) c u (length v.journal) (Some call)) c
own_comes p session v u d c call answer port is j later =
    λ i. answered_for
    (after_own (terminal_now v j port later i) (proc_of (port_with p session d) c) c u (length v.journal) (is i)) c

pub due_comes : (p : ℕ) (session : JobsSession) (v : PortValue) (u : JobsState) (signal : JobSignal) (target : Target)
    (rest : List JobEvent)
    → u.due ≡ sent signal target ∷ rest
    → (j : Journal)
    → IsLater v j
    → after_event (port_with p session j) u (length v.journal) (sent signal target)
    ≡ record (with_jobs u (length v.journal) u.now.jobs) { signals = u.signals; due = rest }
due_comes p session v u signal target rest is j later =
    let n = length v.journal in
    ap (λ (es : List JobEvent). record (with_jobs u n u.now.jobs) {
      signals = if nat_le (length es) 0 then u.signals + 1 else u.signals;
      due = rest_of es;
    }) is
    ∙ ap
    (λ (b : Bool). record (with_jobs u n u.now.jobs) { signals = if b then u.signals + 1 else u.signals; due = rest })
    (later_not (length (sent signal target ∷ rest)) 0 (omega arith))

pub down_comes : (p : ℕ) (session : JobsSession) (v : PortValue) (u : JobsState) (c handle : ℕ) (rest : List JobEvent)
    → u.due ≡ passed_down c handle ∷ rest
    → (j : Journal)
    → IsLater v j
    → after_event (port_with p session j) u (length v.journal) (passed_down c handle)
    ≡ record (with_jobs u (length v.journal) u.now.jobs) { due = rest }
down_comes p session v u c handle rest is j later =
    ap (λ (es : List JobEvent). record (with_jobs u (length v.journal) u.now.jobs) { due = rest_of es }) is

pub raised_comes : (p : ℕ) (session : JobsSession) (v : PortValue) (u : JobsState) (signal : JobSignal)
    (target : Target)
    → u.due ≡ []
    → (j : Journal)
    → IsLater v j
    → after_event (port_with p session j) u (length v.journal) (sent signal target)
    ≡ record (with_jobs u (length v.journal) u.now.jobs) { signals = u.signals + 1; due = [] }
raised_comes p session v u signal target none j later =
    ap (λ (es : List JobEvent). record (with_jobs u (length v.journal) u.now.jobs) {
      signals = if nat_le (length es) 0 then u.signals + 1 else u.signals;
      due = rest_of es;
    }) none

-- a call that is answered without the port
pub logs_own : (p : ℕ) (session : JobsSession) (log : JobLog) (v : PortValue) (u : JobsState) (d : Journal) (c : ℕ)
    (call : JobCall) (answer : JobAnswer)
    → IsPort v
    → HasLogged p session log v u
    → u.due ≡ []
    → next_call (port_with p session d) u c ≡ Some call
    → IsStepIn p session v.terminal.phase c (next_of u c)
    → has_begun (caller_at v.terminal c) ≡ false
    → IsTrue (is_own u.now.jobs v.terminal (proc_of (port_with p session d) c) call)
    → answer ≡ (outcome_of u.now.jobs v.terminal (proc_of (port_with p session d) c) c call).answer
    → HasLogged p session (log ++ record { port = p; at = length v.journal; event = own c (next_of u c) answer } ∷ []) v
    (answered_for (after_own v.terminal (proc_of (port_with p session d) c) c u (length v.journal) (Some call)) c)
logs_own p session log v u d c call answer port h none is in_phase rest its said =
    let n = length v.journal in
    logs p session log v u (answered_for (after_own v.terminal (proc_of (port_with p session d) c) c u n (Some call)) c)
    (own c (next_of u c) answer) h
    (λ j later. record {
      nothing_due = none;
      next = refl;
      in_phase =
          subst (λ (t : Terminal). IsStepIn p session t.phase c (next_of u c)) (sym (terminal_now v j port later))
          in_phase;
      between = ap (λ (t : Terminal). has_begun (caller_at t c)) (terminal_now v j port later) ∙ rest;
      answers = subst (λ (t : Terminal).
          OwnAnswer u.now.jobs t (proc_of (port_with p session d) c) c (next_call (port_with p session d) u c) answer)
          (sym (terminal_now v j port later))
          (subst
          (λ (o : Option JobCall). OwnAnswer u.now.jobs v.terminal (proc_of (port_with p session d) c) c o answer)
          (sym is) (its, said));
    })
    (own_comes p session v u d c call answer port is)
    (omega arith)

-- the answer of the port to a call that went on
pub logs_passed : (p : ℕ) (session : JobsSession) (log : JobLog) (v : PortValue) (u : JobsState) (d : Journal)
    (c step : ℕ) (call : PlainCall) (answer : PlainAnswer)
    → IsPort v
    → HasLogged p session log v u
    → u.due ≡ []
    → next_call (port_with p session d) u c ≡ Some (plain call)
    → IsStepIn p session v.terminal.phase c (next_of u c)
    → call_in v.kept c step ≡ Some call
    → u.now.at < length v.journal
    → WasAnswered v c step answer
    → HasGoneOn p session v u c step
    → HasLogged p session
    (log ++ record { port = p; at = length v.journal; event = passed c (next_of u c) answer } ∷ []) v
    (answered_for (after_passed u (length v.journal) (next_call (port_with p session d) u c) answer) c)
logs_passed p session log v u d c step call answer port h none is in_phase kept before was gone =
    let n = length v.journal in
    let count : n ≡ length was.before + 1 =
    ap (λ (es : List PlainEntry). length es) was.last ∙ length-append was.before (was.entry ∷ []) in
    logs p session log v u (answered_for (after_passed u n (next_call (port_with p session d) u c) answer) c)
    (passed c (next_of u c) answer) h
    (λ j later. record {
      nothing_due = none;
      next = refl;
      in_phase =
          subst (λ (t : Terminal). IsStepIn p session t.phase c (next_of u c)) (sym (terminal_now v j port later))
          in_phase;
      entry = record {
        entry = was.entry;
        some = omega (arith, count);
        stands = ap (λ (es : List PlainEntry). slice_get es (n - 1)) (later.entries
            ∙ (ap (λ (es : List PlainEntry). es ++ later.rest) was.last
            ∙ append_assoc was.before (was.entry ∷ []) later.rest))
            ∙ get_past was.before (was.entry ∷ later.rest) (n - 1) 0 (omega (arith, count));
        is_answer = was.is_answer;
      };
      at_once = before;
      of_call = subst (λ (o : Option JobCall). IsOfCall (port_with p session j) c was.entry.step o) (sym is)
          (ap (λ (n : ℕ). j.calls c n) was.of_step ∙ later.calls c step call kept);
      goes_on = subst
          (λ (n : ℕ). WentToPort (port_with p session j) u (first_place j c n) c
          (next_call (port_with p session j) u c))
          (sym was.of_step)
          (subst (λ (place : ℕ). WentToPort (port_with p session j) u place c (next_call (port_with p session j) u c))
          (sym (gone.is_first j later)) (gone.goes_on j later));
    })
    (λ j later. refl)
    (passed_at u n (next_call (port_with p session d) u c) answer)

-- the first that is due: a signal
pub logs_due : (p : ℕ) (session : JobsSession) (log : JobLog) (v : PortValue) (u : JobsState) (signal : JobSignal)
    (target : Target) (rest : List JobEvent)
    → HasLogged p session log v u
    → u.due ≡ sent signal target ∷ rest
    → length v.journal ≡ u.now.at
    → HasLogged p session (log ++ record { port = p; at = length v.journal; event = sent signal target } ∷ []) v
    (record (with_jobs u (length v.journal) u.now.jobs) { signals = u.signals; due = rest })
logs_due p session log v u signal target rest h is now =
    let n = length v.journal in
    logs p session log v u (record (with_jobs u n u.now.jobs) { signals = u.signals; due = rest }) (sent signal target)
    h
    (λ j later. subst (λ (es : List JobEvent). IsSent (port_with p session j) u n signal target es) (sym is)
    (refl, now))
    (due_comes p session v u signal target rest is)
    (omega arith)

-- .. or the hangup of a process that has ended, which the port has answered
pub logs_down : (p : ℕ) (session : JobsSession) (log : JobLog) (v : PortValue) (u : JobsState) (c step handle : ℕ)
    (rest : List JobEvent)
    → HasLogged p session log v u
    → u.due ≡ passed_down c handle ∷ rest
    → length v.journal ≡ u.now.at + 1
    → call_in v.kept c step ≡ Some (hangs_up handle)
    → WasAnswered v c step done
    → HasLogged p session (log ++ record { port = p; at = length v.journal; event = passed_down c handle } ∷ []) v
    (record (with_jobs u (length v.journal) u.now.jobs) { due = rest })
logs_down p session log v u c step handle rest h is now kept was =
    let n = length v.journal in
    let count : n ≡ length was.before + 1 =
    ap (λ (es : List PlainEntry). length es) was.last ∙ length-append was.before (was.entry ∷ []) in
    logs p session log v u (record (with_jobs u n u.now.jobs) { due = rest }) (passed_down c handle) h
    (λ j later. record {
      rest = rest;
      is_due = is;
      entry = record {
        entry = was.entry;
        some = omega (arith, count);
        stands = ap (λ (es : List PlainEntry). slice_get es (n - 1)) (later.entries
            ∙ (ap (λ (es : List PlainEntry). es ++ later.rest) was.last
            ∙ append_assoc was.before (was.entry ∷ []) later.rest))
            ∙ get_past was.before (was.entry ∷ later.rest) (n - 1) 0 (omega (arith, count));
        is_answer = was.is_answer;
      };
      at_once = now;
      of_call = ap (λ (n : ℕ). j.calls c n) was.of_step ∙ later.calls c step (hangs_up handle) kept;
    })
    (down_comes p session v u c handle rest is)
    (omega arith)

-- a signal that the entry before has raised
pub logs_raised : (p : ℕ) (session : JobsSession) (log : JobLog) (old v : PortValue) (e : PlainEntry) (u : JobsState)
    (signal : Signal)
    → IsPort old
    → IsPort v
    → ComesBy old v (e ∷ [])
    → HasLogged p session log v u
    → u.due ≡ []
    → length old.terminal.tally.signals.items ≤ u.signals
    → slice_get v.terminal.tally.signals.items u.signals ≡ Some signal
    → HasLogged p session
    (log ++ record { port = p; at = length v.journal; event = sent (job_signal signal) (foreground_target u.now.jobs) }
    ∷ []) v (record (with_jobs u (length v.journal) u.now.jobs) { signals = u.signals + 1; due = [] })
logs_raised p session log old v e u signal was port by h none fresh is =
    let n = length v.journal in
    let count : n ≡ length old.journal + 1 =
    ap (λ (es : List PlainEntry). length es) by.added ∙ length-append old.journal (e ∷ []) in
    let before : n - 1 ≡ length old.journal = omega (arith, count) in
    logs p session log v u (record (with_jobs u n u.now.jobs) { signals = u.signals + 1; due = [] })
    (sent (job_signal signal) (foreground_target u.now.jobs)) h
    (λ j later.
    let then_at = later_before old v (e ∷ []) j by later in
    subst
    (λ (es : List JobEvent). IsSent (port_with p session j) u n (job_signal signal) (foreground_target u.now.jobs) es)
    (sym none) (record {
      nothing_due = none;
      some = omega (arith, count);
      raised =
          ap (λ (t : Terminal). slice_get (map job_signal t.tally.signals.items) u.signals)
          (terminal_now v j port later)
          ∙ get_map v.terminal.tally.signals.items u.signals signal is;
      fresh = omega (
        arith,
        fresh,
        ap (λ (i : ℕ). length (raised_at j i)) before,
        ap (λ (t : Terminal). length (map job_signal t.tally.signals.items)) (terminal_now old j was then_at),
        length-map old.terminal.tally.signals.items job_signal,
      );
      goes_to = refl;
    }))
    (raised_comes p session v u (job_signal signal) (foreground_target u.now.jobs) none)
    (omega arith)
