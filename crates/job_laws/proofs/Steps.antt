-- The log of job control as a log beside a journal: its steps, and what holds of them on each port.
use Rattle.std.proofs.Common.{◌≡◌, ◌<◌, ℕ, ◌+◌, Option, None, Some, List, [], ◌∷◌, sym, ap, ◌∙◌, subst}
use Rattle.std.proofs.Common.{arith}
use Rattle.std.proofs.lemmas.Option.{same_Some}
use Rattle.tty_calls.specs.Plain.{PlainAnswer, done, PlainEntry}
use Rattle.tty_calls.specs.Sessions.{PlainSession}
use Rattle.order_laws.specs.Sessions.{journal_in}
use Rattle.logged_laws.specs.Steps.{LogSteps, Leads as LogLeads, AreInTurn, IsLoggedAnswer, ComesAtOnce, IsNextAnswer}
use Rattle.logged_laws.specs.Steps.{AreLogSteps}
use Rattle.logged_laws.proofs.Places.{no_due}
use Rattle.job_text.specs.Events.{JobEvent, own, passed, passed_down, sent, JobLog}
use Rattle.job_text.specs.Sessions.{JobsSession}
use Rattle.job_steps.specs.Steps.{Port, JobsState, next_of, IsSent, IsAllowed, after_event, Leads}
use Rattle.job_steps.specs.Order.{IsEventInTurn, AreEventsInTurn}
use Rattle.job_one.specs.Played.{port_in}
use Rattle.job_laws.proofs.ReadLaws.{at_now}

-- the port's answer that an event logs, and to whom: of a call, or of the hangup of a process that ended
abbrev pub answer_in : JobEvent → Option (ℕ × PlainAnswer)
answer_in (own c step answer) = None
answer_in (passed c step answer) = Some (c, answer)
answer_in (passed_down c handle) = Some (c, done)
answer_in (sent signal target) = None

abbrev pub handle_in : JobEvent → ℕ
handle_in (own c step answer) = 0
handle_in (passed c step answer) = 0
handle_in (passed_down c handle) = handle
handle_in (sent signal target) = 0

abbrev pub job_log : ℕ → JobsSession → LogSteps JobsState JobEvent
job_log p session = record {
  latest = λ s. s.now.at;
  due = λ s. s.due;
  next = next_of;
  answer_in = answer_in;
  handle_in = handle_in;
  passes = λ c step answer. passed c step answer;
  after = λ played journal s at event. after_event (port_in session played p journal) s at event;
  IsAllowed = λ played journal s at event. IsAllowed (port_in session played p journal) s at event;
  IsInTurn = λ played journal s at event. IsEventInTurn played (port_in session played p journal) s at event;
}

module _ (p : ℕ) (session : JobsSession) (played : PlainSession) (journal : List PlainEntry) where
  abbrev port : Port
  port = port_in session played p journal

  answered : (s : JobsState) (at : ℕ) (event : JobEvent)
      → IsAllowed port s at event
      → IsLoggedAnswer (journal_in p played journal) s.now.at at (answer_in event)
  answered s at (own c step answer) h = tt
  answered s at (passed c step answer) h = (h.entry, h.at_once)
  answered s at (passed_down c handle) h = (h.entry, (let at_once = h.at_once in later s.now.at at at_once))
    where
      later : (a b : ℕ) → b ≡ a + 1 → a < b
      later a b e = omega (arith, e)
  answered s at (sent signal target) h = tt

  abbrev Comes : JobsState → (at : ℕ) → JobEvent → Type 0
  Comes s at event = ComesAtOnce (journal_in p played journal) s.now.at at (handle_in event) (answer_in event)

  due_next : (s : JobsState) (at : ℕ) (event first : JobEvent) (rest : List JobEvent)
      → s.due ≡ first ∷ rest
      → IsAllowed port s at event
      → (event ≡ first) × Comes s at first
  due_next s at (own c step answer) first rest due h = no_due s.due first rest h.nothing_due due
  due_next s at (passed c step answer) first rest due h = no_due s.due first rest h.nothing_due due
  due_next s at (passed_down c handle) first rest due h =
      let same : passed_down c handle ≡ first = first_is (sym h.is_due ∙ due) in (
        same,
        subst (Comes s at) same (
          h.at_once,
          λ e stands.
              ap (λ (x : PlainEntry). port.journal.calls c x.step)
              (same_Some e h.entry.entry (sym stands ∙ h.entry.stands)) ∙ h.of_call,
        ),
      )
    where
      first_is : passed_down c handle ∷ h.rest ≡ first ∷ rest → passed_down c handle ≡ first
      first_is e = cc
  due_next s at (sent signal target) first rest due h =
      let its = subst (λ (es : List JobEvent). IsSent port s at signal target es) due h in
      (its.0, subst (Comes s at) its.0 its.1)

  idle_next : (s : JobsState) (at : ℕ) (event : JobEvent)
      → s.due ≡ []
      → IsAllowed port s at event
      → IsNextAnswer (job_log p session) s event (answer_in event)
  idle_next s at (own c step answer) idle h = tt
  idle_next s at (passed c step answer) idle h = ap (λ (m : ℕ). passed c m answer) h.next
  idle_next s at (passed_down c handle) idle h = no_due s.due (passed_down c handle) h.rest idle h.is_due
  idle_next s at (sent signal target) idle h = tt

  pub log_steps : AreLogSteps (job_log p session) p played journal
  log_steps = record {
    at_now = λ s at event h. at_now port s at event h;
    answered = λ s at event h. answered s at event h;
    due_next = λ s at event first rest due h. due_next s at event first rest due h;
    idle_next = λ s at event idle h. idle_next s at event idle h;
  }

  -- ---- a log of job control

  pub log_leads : (s end : JobsState) (log : JobLog)
      → Leads port s log end
      → LogLeads (job_log p session) played journal s log end
  log_leads s end [] h = h
  log_leads s end (l ∷ log) h = (h.0, h.1, h.2, log_leads (after_event port s l.at l.event) end log h.3)

  pub log_turns : (s : JobsState) (log : JobLog)
      → AreEventsInTurn played port s log
      → AreInTurn (job_log p session) played journal s log
  log_turns s [] h = tt
  log_turns s (l ∷ log) h = (h.0, log_turns (after_event port s l.at l.event) log h.1)
