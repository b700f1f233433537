-- A call that has begun went on to the port, whatever was logged since.
use Rattle.std.proofs.Common.{◌≡◌, ℕ, false, true, List, ◌∷◌, Option, None, Some}
use Rattle.std.proofs.Common.{length, sym, ap, ◌∙◌, subst, arith, length-append}
use Rattle.tty_calls.specs.Plain.{PlainCall, PlainEntry}
use Rattle.tty_terminal.specs.Terminals.{caller_at, has_begun}
use Rattle.port_core.specs.Ports.{PortValue, IsPort}
use Rattle.job_control.specs.Control.{JobState}
use Rattle.job_control.specs.declared.processes.Judged.TheVariants.{Pass}
use Rattle.passed_calls.specs.Scripts.{plain, further}
use Rattle.passed_calls.specs.Journals.{Journal, terminal_at}
use Rattle.job_text.specs.Events.{JobEvent, JobLog}
use Rattle.job_text.specs.Sessions.{JobCall, JobsSession}
use Rattle.job_steps.specs.Derived.{job_call_at}
use Rattle.job_steps.specs.Steps.{Port, JobsState, jobs_before, proc_of, next_of}
use Rattle.job_steps.specs.Steps.{next_call, judged_call, WentToPort, is_of_step, after_event}
use Rattle.order_laws.specs.Later.{IsLater, ComesBy}
use Rattle.job_one.specs.Later.{port_with, HasLogged, HasGoneOn}
use Rattle.order_laws.proofs.Laters.{later_before, terminal_now}
use Rattle.job_steps.proofs.Moments.{now_before, event_behind}
use Rattle.job_one.proofs.Begun.{first_next}

-- the check let it go on, as nothing was logged since
goes_on_now : (p : ℕ) (session : JobsSession) (log : JobLog) (v w : PortValue) (part : List PlainEntry) (u : JobsState)
    (d j : Journal) (c : ℕ) (call : PlainCall)
    → IsPort v
    → ComesBy v w part
    → HasLogged p session log v u
    → next_call (port_with p session d) u c ≡ Some (plain call)
    → judged_call u.now.jobs v.terminal (proc_of (port_with p session d) c) call ≡ Pass
    → IsLater w j
    → WentToPort (port_with p session j) u (length v.journal) c (next_call (port_with p session j) u c)
goes_on_now p session log v w part u d j c call port by h is passes later =
    let here = terminal_now v j port (later_before v w part j by later) in
    let jobs = now_before (port_with p session j) u (length v.journal) h.at in
    subst (λ (o : Option JobCall). WentToPort (port_with p session j) u (length v.journal) c o) (sym is)
    ((λ i. judged_call (jobs i) (here i) (proc_of (port_with p session d) c) call) ∙ passes)

pub gone_begins : (p : ℕ) (session : JobsSession) (log : JobLog) (v w : PortValue) (e : PlainEntry)
    (part : List PlainEntry) (u : JobsState) (d : Journal) (c : ℕ) (call : PlainCall)
    → IsPort v
    → ComesBy v w (e ∷ part)
    → HasLogged p session log v u
    → next_call (port_with p session d) u c ≡ Some (plain call)
    → judged_call u.now.jobs v.terminal (proc_of (port_with p session d) c) call ≡ Pass
    → has_begun (caller_at v.terminal c) ≡ false
    → is_of_step c (caller_at v.terminal c).next e ≡ true
    → HasGoneOn p session w u c (caller_at v.terminal c).next
gone_begins p session log v w e part u d c call port by h is passes rest of_step =
    record {
      place = length v.journal;
      is_first = λ j later. first_next v w e part c j port rest by of_step later;
      within = omega (arith, ap (λ (es : List PlainEntry). length es) by.added, length-append v.journal (e ∷ part));
      goes_on = λ j later. goes_on_now p session log v w (e ∷ part) u d j c call port by h is passes later;
    }

-- the port makes further entries
pub gone_stays : (p : ℕ) (session : JobsSession) (v w : PortValue) (part : List PlainEntry) (u : JobsState) (c step : ℕ)
    → ComesBy v w part
    → HasGoneOn p session v u c step
    → HasGoneOn p session w u c step
gone_stays p session v w part u c step by h =
    record {
      place = h.place;
      is_first = λ j later. h.is_first j (later_before v w part j by later);
      within = omega (arith, h.within, ap (λ (es : List PlainEntry). length es) by.added, length-append v.journal part);
      goes_on = λ j later. h.goes_on j (later_before v w part j by later);
    }

goes_same : (port : Port) (s t : JobsState) (place c : ℕ) (call : Option JobCall)
    → jobs_before port t place ≡ jobs_before port s place
    → WentToPort port s place c call
    → WentToPort port t place c call
goes_same port s t place c None same h = h
goes_same port s t place c (Some (plain call)) same h =
    ap (λ (jobs : JobState). judged_call jobs (terminal_at port.journal place) (proc_of port c) call) same ∙ h
goes_same port s t place c (Some (further call)) same h = h

-- an event is logged that answers no call of this caller
pub gone_behind : (p : ℕ) (session : JobsSession) (v : PortValue) (u next : JobsState) (event : JobEvent) (c step : ℕ)
    → ((j : Journal) → IsLater v j → after_event (port_with p session j) u (length v.journal) event ≡ next)
    → next_of next c ≡ next_of u c
    → HasGoneOn p session v u c step
    → HasGoneOn p session v next c step
gone_behind p session v u next event c step comes same h =
    record {
      place = h.place;
      is_first = h.is_first;
      within = h.within;
      goes_on = λ j later.
          let port = port_with p session j in
          let before : jobs_before port next h.place ≡ jobs_before port u h.place =
          ap (λ (s : JobsState). jobs_before port s h.place) (sym (comes j later))
          ∙ event_behind port u (length v.journal) h.place event (omega (arith, h.within)) in
          subst (λ (n : ℕ). WentToPort port next h.place c (job_call_at p session c n)) (sym same)
          (goes_same port u next h.place c (next_call port u c) before (h.goes_on j later));
    }
