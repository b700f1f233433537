-- What a log that was read tells of its port: how many calls of each caller were answered, and how many signals were
-- sent.
use Rattle.std.proofs.Common.{◌≡◌, ◌≤◌, ◌<◌, ℕ, suc, ◌+◌, ◌==◌, Bool, false, List, [], ◌∷◌}
use Rattle.std.proofs.Common.{length, map, if◌then◌else◌, refl, sym, ap, ◌∙◌, subst, arith}
use Rattle.std.specs.Prelude.{nat_le, slice_set, slice_index_or}
use Rattle.std.proofs.lemmas.Bool.Decides.{nat_tests}
use Rattle.passed_calls.specs.Journals.{terminal_at}
use Rattle.job_control.specs.declared.answers.Target.{Target}
use Rattle.job_control.specs.declared.processes.JobSignal.{JobSignal}
use Rattle.job_text.specs.Events.{JobEvent, own, passed, passed_down, sent, JobLog}
use Rattle.job_steps.specs.Steps.{Port, JobsState, proc_of, next_of, next_call, raised_at, IsSent}
use Rattle.job_steps.specs.Steps.{IsAllowed, after_own, answered_for, after_passed, after_event, Leads}
use Rattle.job_one.specs.Played.{is_answer_to, answered_by}
use Rattle.order_laws.proofs.Answering.{one_or_none, stepped, set_length, answers_more}
use Rattle.job_one.proofs.Keeping.{Keeps, own_keeps, passed_keeps}
use Rattle.job_one.proofs.Rising.{raised_rise}
use Rattle.passed_ports.proofs.Joining.{below_if}

-- ---- answers

answered_next : (s u : JobsState) (d c : ℕ)
    → Keeps s u
    → c < length s.next
    → next_of (answered_for u d) c ≡ next_of s c + one_or_none (d == c)
answered_next s u d c keeps known =
    subst
    (λ (ns : List ℕ). slice_index_or (slice_set ns d (slice_index_or ns d 0 + 1)) c 0
    ≡ next_of s c + one_or_none (d == c))
    (sym keeps.next) (stepped s.next d c known)

many_next : (port : Port) (s : JobsState) (at : ℕ) (event : JobEvent)
    → length (after_event port s at event).next ≡ length s.next
many_next port s at (own d step answer) =
    set_length _ d _
    ∙ ap (λ (ns : List ℕ). length ns)
    (own_keeps (terminal_at port.journal at) (proc_of port d) d s at (next_call port s d)).next
many_next port s at (passed d step answer) =
    set_length _ d _ ∙ ap (λ (ns : List ℕ). length ns) (passed_keeps s at (next_call port s d) answer).next
many_next port s at (passed_down d h) = refl
many_next port s at (sent signal target) = refl

event_next : (port : Port) (s : JobsState) (at : ℕ) (event : JobEvent) (c : ℕ)
    → c < length s.next
    → next_of (after_event port s at event) c ≡ next_of s c + one_or_none (is_answer_to c event)
event_next port s at (own d step answer) c known =
    answered_next s (after_own (terminal_at port.journal at) (proc_of port d) d s at (next_call port s d)) d c
    (own_keeps (terminal_at port.journal at) (proc_of port d) d s at (next_call port s d)) known
event_next port s at (passed d step answer) c known =
    answered_next s (after_passed s at (next_call port s d) answer) d c (passed_keeps s at (next_call port s d) answer)
    known
event_next port s at (passed_down d h) c known = omega arith
event_next port s at (sent signal target) c known = omega arith

abbrev events_in : JobLog → List JobEvent
events_in log = map (λ l. l.event) log

-- each caller's next step counts its calls that were answered
pub answers_counted : (port : Port) (s u : JobsState) (log : JobLog) (c : ℕ)
    → Leads port s log u
    → c < length s.next
    → next_of u c ≡ next_of s c + answered_by c (events_in log)
answers_counted port s u [] c leads known = ap (λ (x : JobsState). next_of x c) leads ∙ omega arith
answers_counted port s u (l ∷ log) c leads known =
    let next = after_event port s l.at l.event in
    let many = many_next port s l.at l.event in
    let rest = answers_counted port next u log c leads.3 (omega (arith, known, many)) in
    let here = event_next port s l.at l.event c known in
    let more = answers_more is_answer_to c l.event (events_in log) in
    omega (arith, rest, here, more)

-- ---- signals

not_none : (n : ℕ) → nat_le (suc n) 0 ≡ false
not_none n = grind (arith, nat_tests)

sent_more : (port : Port) (s : JobsState) (at : ℕ) (signal : JobSignal) (target : Target) (due : List JobEvent)
    → IsSent port s at signal target due
    → at ≤ length port.journal.entries
    → s.signals ≤ length (raised_at port.journal (length port.journal.entries))
    → (if nat_le (length due) 0 then s.signals + 1 else s.signals)
    ≤ length (raised_at port.journal (length port.journal.entries))
sent_more port s at signal target [] is within few =
    let below = below_if (raised_at port.journal at) s.signals signal is.raised in
    let rise = raised_rise port.journal at (length port.journal.entries) within in
    omega (arith, below, rise)
sent_more port s at signal target (e ∷ rest) is within few =
    (let same = ap (λ (b : Bool). if b then s.signals + 1 else s.signals) (not_none (length rest)) in
    omega (arith, few, same))

event_few : (port : Port) (s : JobsState) (at : ℕ) (event : JobEvent)
    → IsAllowed port s at event
    → at ≤ length port.journal.entries
    → s.signals ≤ length (raised_at port.journal (length port.journal.entries))
    → (after_event port s at event).signals ≤ length (raised_at port.journal (length port.journal.entries))
event_few port s at (own d step answer) allowed within few =
    omega (arith, few, (own_keeps (terminal_at port.journal at) (proc_of port d) d s at (next_call port s d)).signals)
event_few port s at (passed d step answer) allowed within few =
    omega (arith, few, (passed_keeps s at (next_call port s d) answer).signals)
event_few port s at (passed_down d h) allowed within few = few
event_few port s at (sent signal target) allowed within few = sent_more port s at signal target s.due allowed within few

-- no more signals were sent than the port has raised
pub signals_few : (port : Port) (s u : JobsState) (log : JobLog)
    → Leads port s log u
    → s.signals ≤ length (raised_at port.journal (length port.journal.entries))
    → u.signals ≤ length (raised_at port.journal (length port.journal.entries))
signals_few port s u [] leads few = omega (arith, few, ap (λ (x : JobsState). x.signals) leads)
signals_few port s u (l ∷ log) leads few =
    signals_few port (after_event port s l.at l.event) u log leads.3 (event_few port s l.at l.event leads.2 leads.1 few)
