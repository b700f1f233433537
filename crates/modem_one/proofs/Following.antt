-- What is passed down follows the log, event by event.
use Rattle.std.proofs.Common.{◌≡◌, ℕ, ◌+◌, ◌-◌, List, [], ◌∷◌, ◌++◌, Option, map, refl, sym}
use Rattle.std.proofs.Common.{ap, ◌∙◌, append-nil}
use Rattle.tty_calls.specs.Plain.{hangs_up}
use Rattle.passed_calls.specs.Derived.{Passing, by_caller}
use Rattle.passed_calls.specs.Logs.{logged_on}
use Rattle.order_laws.proofs.Steps.{own_more, other_more}
use Rattle.modem_text.specs.Events.{ModemEvent, pin_set, own, passed, carrier_lost, ModemLog, events_on}
use Rattle.modem_text.specs.Sessions.{ModemCall, ModemSession}
use Rattle.modem_steps.specs.Derived.{carrier_on, modem_call_at, plain_call, passings_from, passings_on}
use Rattle.modem_steps.specs.Steps.{Port, ModemState, first_state, after_event, Leads}
use Rattle.port_core.specs.Ports.{PortValue}
use Rattle.order_laws.specs.Later.{IsLater}
use Rattle.order_laws.proofs.Laters.{events_more}
use Rattle.modem_one.specs.Later.{HasLogged}
use Rattle.modem_one.specs.Turns.{journal_of, port_now}

-- how many items of the modem blocks these events have done, from so many on
abbrev pub items_after : ℕ → List ModemEvent → ℕ
items_after n [] = n
items_after n (pin_set pin up ∷ es) = items_after (n + 1) es
items_after n (own c step answer ∷ es) = items_after n es
items_after n (passed c step answer ∷ es) = items_after n es
items_after n (carrier_lost h ∷ es) = items_after n es

-- what an event passes down
abbrev pub passings_by : (calls : ℕ → ℕ → Option ModemCall) → (carrier items : ℕ) → ModemEvent → List Passing
passings_by calls carrier n (pin_set pin up) = []
passings_by calls carrier n (own c step answer) = []
passings_by calls carrier n (passed c step answer) =
    record { caller = c; step = step; calls = plain_call (calls c step) } ∷ []
passings_by calls carrier n (carrier_lost h) =
    record { caller = carrier; step = n - 1; calls = hangs_up h ∷ [] } ∷ []

from_more : (calls : ℕ → ℕ → Option ModemCall) (carrier n : ℕ) (es : List ModemEvent) (e : ModemEvent)
    → passings_from calls carrier n (es ++ e ∷ [])
    ≡ passings_from calls carrier n es ++ passings_by calls carrier (items_after n es) e
from_more calls carrier n [] (pin_set pin up) = refl
from_more calls carrier n [] (own c step answer) = refl
from_more calls carrier n [] (passed c step answer) = refl
from_more calls carrier n [] (carrier_lost h) = refl
from_more calls carrier n (pin_set pin up ∷ es) e = from_more calls carrier (n + 1) es e
from_more calls carrier n (own c step answer ∷ es) e = from_more calls carrier n es e
from_more calls carrier n (passed c step answer ∷ es) e =
    ap (λ (ms : List Passing). record { caller = c; step = step; calls = plain_call (calls c step) } ∷ ms)
    (from_more calls carrier n es e)
from_more calls carrier n (carrier_lost h ∷ es) e =
    ap (λ (ms : List Passing). record { caller = carrier; step = n - 1; calls = hangs_up h ∷ [] } ∷ ms)
    (from_more calls carrier n es e)

-- what was passed down by one event more
abbrev pub more_on : ModemSession → ModemLog → (p : ℕ) → ModemEvent → List Passing
more_on session log p event =
    passings_by (modem_call_at p session) (carrier_on p session) (items_after 0 (events_on p log)) event

passings_more : (session : ModemSession) (log : ModemLog) (p at : ℕ) (event : ModemEvent)
    → passings_on session (log ++ record { port = p; at = at; event = event } ∷ []) p
    ≡ passings_on session log p ++ more_on session log p event
passings_more session log p at event =
    ap (passings_from (modem_call_at p session) (carrier_on p session) 0) (events_more p at event log)
    ∙ from_more (modem_call_at p session) (carrier_on p session) 0 (events_on p log) event

pub logged_more : (session : ModemSession) (log : ModemLog) (p at : ℕ) (event : ModemEvent)
    → more_on session log p event ≡ []
    → passings_on session (log ++ record { port = p; at = at; event = event } ∷ []) p ≡ passings_on session log p
logged_more session log p at event none =
    passings_more session log p at event
    ∙ (ap (λ (ms : List Passing). passings_on session log p ++ ms) none ∙ append-nil (passings_on session log p))

-- one passing more, of its caller and of another
pub by_own : (session : ModemSession) (log : ModemLog) (p at c : ℕ) (event : ModemEvent) (m : Passing)
    → more_on session log p event ≡ m ∷ []
    → m.caller ≡ c
    → by_caller c (passings_on session (log ++ record { port = p; at = at; event = event } ∷ []) p)
    ≡ by_caller c (passings_on session log p) ++ m ∷ []
by_own session log p at c event m one same =
    ap (by_caller c)
    (passings_more session log p at event ∙ ap (λ (ms : List Passing). passings_on session log p ++ ms) one)
    ∙ own_more (passings_on session log p) c m same

pub by_other : (session : ModemSession) (log : ModemLog) (p at c : ℕ) (event : ModemEvent) (m : Passing)
    → more_on session log p event ≡ m ∷ []
    → (m.caller ≡ c → ⊥)
    → by_caller c (passings_on session (log ++ record { port = p; at = at; event = event } ∷ []) p)
    ≡ by_caller c (passings_on session log p)
by_other session log p at c event m one other =
    ap (by_caller c)
    (passings_more session log p at event ∙ ap (λ (ms : List Passing). passings_on session log p ++ ms) one)
    ∙ other_more (passings_on session log p) c m other

-- the items of a run of the log
items_by : (port : Port) (s : ModemState) (at : ℕ) (event : ModemEvent) (es : List ModemEvent)
    → items_after s.items (event ∷ es) ≡ items_after (after_event port s at event).items es
items_by port s at (pin_set pin up) es = refl
items_by port s at (own c step answer) es = refl
items_by port s at (passed c step answer) es = refl
items_by port s at (carrier_lost h) es = refl

-- a port comes to its own journal
pub as_it_is : (v : PortValue) → IsLater v (journal_of v)
as_it_is v = record { opens = refl; calls = λ c step call is. is; rest = []; entries = sym (append-nil v.journal) }

items_led : (port : Port) (s u : ModemState) (log : ModemLog)
    → Leads port s log u
    → items_after s.items (map (λ l. l.event) log) ≡ u.items
items_led port s u [] h = sym (ap (λ (x : ModemState). x.items) h)
items_led port s u (l ∷ log) h =
    items_by port s l.at l.event (map (λ x. x.event) log)
    ∙ items_led port (after_event port s l.at l.event) u log h.3

-- the items at a desk are those of its log
pub items_logged : (p : ℕ) (session : ModemSession) (v : PortValue) (log : ModemLog) (u : ModemState)
    → HasLogged p session log v u
    → items_after 0 (events_on p log) ≡ u.items
items_logged p session v log u h =
    items_led (port_now p session v) (first_state p session) u (logged_on p log) (h.leads (journal_of v) (as_it_is v))
