-- The log of modem lines as a log beside a journal: its steps, and what holds of them on each port.
use Rattle.std.proofs.Common.{◌≡◌, ◌<◌, ℕ, ◌+◌, Option, None, Some, List, [], ◌∷◌, map, if◌then◌else◌, refl, sym}
use Rattle.std.proofs.Common.{ap, ◌∙◌, subst, arith}
use Rattle.std.specs.Prelude.{nat_le}
use Rattle.std.proofs.lemmas.Option.{same_Some}
use Rattle.tty_calls.specs.Plain.{PlainAnswer, done, PlainEntry}
use Rattle.tty_calls.specs.Sessions.{PlainSession}
use Rattle.order_laws.specs.Sessions.{journal_in}
use Rattle.logged_laws.specs.Steps.{LogSteps, Leads as LogLeads, AreInTurn, state_before as log_before, IsLoggedAnswer}
use Rattle.logged_laws.specs.Steps.{ComesAtOnce, IsNextAnswer, AreLogSteps}
use Rattle.logged_laws.proofs.Places.{no_due}
use Rattle.modem_text.specs.Events.{ModemEvent, pin_set, own, passed, carrier_lost, ModemLog}
use Rattle.modem_text.specs.Sessions.{ModemSession}
use Rattle.modem_steps.specs.Derived.{carrier_on}
use Rattle.modem_steps.specs.Steps.{Port, ModemState, next_of, IsAllowed, after_event, Leads}
use Rattle.modem_steps.specs.Order.{place_at, state_before, IsEventInTurn, AreEventsInTurn}
use Rattle.modem_one.specs.Played.{port_in}

-- the port's answer that an event logs, and to whom: of a call, or of a hangup of `carrier`
abbrev pub answer_in : (carrier : ℕ) → ModemEvent → Option (ℕ × PlainAnswer)
answer_in k (pin_set pin up) = None
answer_in k (own c step answer) = None
answer_in k (passed c step answer) = Some (c, answer)
answer_in k (carrier_lost handle) = Some (k, done)

abbrev pub handle_in : ModemEvent → ℕ
handle_in (pin_set pin up) = 0
handle_in (own c step answer) = 0
handle_in (passed c step answer) = 0
handle_in (carrier_lost handle) = handle

-- a hangup that is due, as the event that logs it
abbrev lost : ℕ → ModemEvent
lost handle = carrier_lost handle

abbrev pub due_events : ModemState → List ModemEvent
due_events s = map lost s.due

abbrev pub modem_log : ℕ → ModemSession → LogSteps ModemState ModemEvent
modem_log p session = record {
  latest = λ s. s.at;
  due = due_events;
  next = next_of;
  answer_in = answer_in (carrier_on p session);
  handle_in = handle_in;
  passes = λ c step answer. passed c step answer;
  after = λ played journal s at event. after_event (port_in session played p journal) s at event;
  IsAllowed = λ played journal s at event. IsAllowed (port_in session played p journal) s at event;
  IsInTurn = λ played journal s at event.
      IsEventInTurn played (port_in session played p journal) s
      (place_at played (port_in session played p journal) at) event;
}

none_due : (handles : List ℕ) → map lost handles ≡ [] → handles ≡ []
none_due [] e = refl
none_due (h ∷ handles) e = absurd (cc)

-- nothing is due where no hangup is
pub idle_of : (s : ModemState) → due_events s ≡ [] → s.due ≡ []
idle_of s e = none_due s.due e

pub due_of : (s : ModemState) (handles : List ℕ) → s.due ≡ handles → due_events s ≡ map lost handles
due_of s handles e = ap (λ (hs : List ℕ). map lost hs) e

module _ (p : ℕ) (session : ModemSession) (played : PlainSession) (journal : List PlainEntry) where
  abbrev port : Port
  port = port_in session played p journal

  at_now : (s : ModemState) (at : ℕ) (event : ModemEvent) → (after_event port s at event).at ≡ at
  at_now s at (pin_set pin up) = refl
  at_now s at (own c step answer) = refl
  at_now s at (passed c step answer) = refl
  at_now s at (carrier_lost handle) = refl

  answered : (s : ModemState) (at : ℕ) (event : ModemEvent)
      → IsAllowed port s at event
      → IsLoggedAnswer (journal_in p played journal) s.at at (answer_in (carrier_on p session) event)
  answered s at (pin_set pin up) h = tt
  answered s at (own c step answer) h = tt
  answered s at (passed c step answer) h = (h.entry, h.at_once)
  answered s at (carrier_lost handle) h = (h.entry, later s.at at h.at_once)
    where
      later : (a b : ℕ) → b ≡ a + 1 → a < b
      later a b e = omega (arith, e)

  abbrev Comes : ModemState → (at : ℕ) → ModemEvent → Type 0
  Comes s at event =
      ComesAtOnce (journal_in p played journal) s.at at (handle_in event) (answer_in (carrier_on p session) event)

  due_next : (s : ModemState) (at : ℕ) (event first : ModemEvent) (rest : List ModemEvent)
      → due_events s ≡ first ∷ rest
      → IsAllowed port s at event
      → (event ≡ first) × Comes s at first
  due_next s at (pin_set pin up) first rest due h =
      no_due (due_events s) first rest (due_of s [] h.nothing_due) due
  due_next s at (own c step answer) first rest due h =
      no_due (due_events s) first rest (due_of s [] h.nothing_due) due
  due_next s at (passed c step answer) first rest due h =
      no_due (due_events s) first rest (due_of s [] h.nothing_due) due
  due_next s at (carrier_lost handle) first rest due h =
      let same : carrier_lost handle ≡ first = first_is (sym (due_of s (handle ∷ []) h.is_due) ∙ due) in (
        same,
        subst (Comes s at) same (
          h.at_once,
          λ e stands.
              ap (λ (x : PlainEntry). port.journal.calls (carrier_on p session) x.step)
              (same_Some e h.entry.entry (sym stands ∙ h.entry.stands)) ∙ h.of_call,
        ),
      )
    where
      first_is : carrier_lost handle ∷ [] ≡ first ∷ rest → carrier_lost handle ≡ first
      first_is e = cc

  idle_next : (s : ModemState) (at : ℕ) (event : ModemEvent)
      → due_events s ≡ []
      → IsAllowed port s at event
      → IsNextAnswer (modem_log p session) s event (answer_in (carrier_on p session) event)
  idle_next s at (pin_set pin up) idle h = tt
  idle_next s at (own c step answer) idle h = tt
  idle_next s at (passed c step answer) idle h = ap (λ (m : ℕ). passed c m answer) h.next
  idle_next s at (carrier_lost handle) idle h = no_due s.due handle [] (idle_of s idle) h.is_due

  pub log_steps : AreLogSteps (modem_log p session) p played journal
  log_steps = record {
    at_now = λ s at event h. at_now s at event;
    answered = λ s at event h. answered s at event h;
    due_next = λ s at event first rest due h. due_next s at event first rest due h;
    idle_next = λ s at event idle h. idle_next s at event idle h;
  }

  -- ---- a log of modem lines

  pub log_leads : (s end : ModemState) (log : ModemLog)
      → Leads port s log end
      → LogLeads (modem_log p session) played journal s log end
  log_leads s end [] h = h
  log_leads s end (l ∷ log) h = (h.0, h.1, h.2, log_leads (after_event port s l.at l.event) end log h.3)

  pub log_turns : (s : ModemState) (log : ModemLog)
      → AreEventsInTurn played port s log
      → AreInTurn (modem_log p session) played journal s log
  log_turns s [] h = tt
  log_turns s (l ∷ log) h = (h.0, log_turns (after_event port s l.at l.event) log h.1)

  pub before_is : (s : ModemState) (log : ModemLog) (at : ℕ)
      → log_before (modem_log p session) played journal s log at ≡ state_before port s log at
  before_is s [] at = refl
  before_is s (l ∷ log) at =
      ap (λ (x : ModemState). if nat_le l.at at then x else s) (before_is (after_event port s l.at l.event) log at)
