-- What a log tells of its port: how many calls of each caller were answered; and all that the port was passed.
use Rattle.std.proofs.Common.{◌≡◌, ◌<◌, ℕ, ◌+◌, true, List, [], ◌∷◌}
use Rattle.std.proofs.Common.{length, map, refl, ap, ◌∙◌, arith}
use Rattle.port_core.specs.Ports.{PortValue, IsPort}
use Rattle.play_base.specs.Roles.{Scene}
use Rattle.passed_calls.specs.Blocks.{names_on}
use Rattle.passed_calls.specs.Derived.{by_caller}
use Rattle.passed_calls.specs.Logs.{logged_on}
use Rattle.order_laws.specs.Begun.{begun_at}
use Rattle.order_laws.proofs.Answering.{one_or_none, stepped, set_length, answers_more}
use Rattle.passed_ports.proofs.Started.{zeros_at, zeros_long, now_of, is_now, begun_last}
use Rattle.modem_text.specs.Events.{ModemEvent, pin_set, own, passed, carrier_lost, ModemLog, events_on}
use Rattle.modem_text.specs.Sessions.{ModemSession, blocks_in}
use Rattle.modem_steps.specs.Derived.{passings_on, plain_call, modem_call_at}
use Rattle.modem_steps.specs.Steps.{Port, ModemState, first_state, next_of, after_event, Leads}
use Rattle.modem_one.specs.Desk.{DeskState, step_of}
use Rattle.modem_one.specs.Later.{port_with, IsDeskAt}
use Rattle.modem_one.specs.Playing.{passings_with}
use Rattle.modem_one.specs.Played.{is_answer_to, answered_by, all_passed}

-- ---- answers

many_next : (port : Port) (s : ModemState) (at : ℕ) (event : ModemEvent)
    → length (after_event port s at event).next ≡ length s.next
many_next port s at (pin_set pin up) = refl
many_next port s at (own d step answer) = set_length s.next d (next_of s d + 1)
many_next port s at (passed d step answer) = set_length s.next d (next_of s d + 1)
many_next port s at (carrier_lost h) = refl

event_next : (port : Port) (s : ModemState) (at : ℕ) (event : ModemEvent) (c : ℕ)
    → c < length s.next
    → next_of (after_event port s at event) c ≡ next_of s c + one_or_none (is_answer_to c event)
event_next port s at (pin_set pin up) c known = omega arith
event_next port s at (own d step answer) c known = stepped s.next d c known
event_next port s at (passed d step answer) c known = stepped s.next d c known
event_next port s at (carrier_lost h) c known = omega arith

abbrev events_in : ModemLog → List ModemEvent
events_in log = map (λ l. l.event) log

-- each caller's next step counts its calls that were answered
pub answers_counted : (port : Port) (s u : ModemState) (log : ModemLog) (c : ℕ)
    → Leads port s log u
    → c < length s.next
    → next_of u c ≡ next_of s c + answered_by c (events_in log)
answers_counted port s u [] c leads known = ap (λ (x : ModemState). next_of x c) leads ∙ omega arith
answers_counted port s u (l ∷ log) c leads known =
    let next = after_event port s l.at l.event in
    let many = many_next port s l.at l.event in
    let rest = answers_counted port next u log c leads.3 (omega (arith, known, many)) in
    let here = event_next port s l.at l.event c known in
    let more = answers_more is_answer_to c l.event (events_in log) in
    omega (arith, rest, here, more)

-- ---- what a caller has begun

-- a caller's next step at the desk counts its answers
pub step_counts : (first : Scene) (session : ModemSession) (v : PortValue) (d : DeskState) (due : List ℕ) (c : ℕ)
    → IsDeskAt first session v d due
    → c < length (names_on first.port (blocks_in session))
    → answered_by c (events_on first.port d.log) ≡ step_of d c
step_counts first session v d due c desk lt =
    let p = first.port in
    let port = port_with p session (now_of v) in
    let n = length (names_on p (blocks_in session)) in
    let none = zeros_at n c in
    let count = answers_counted port (first_state p session) _ (logged_on p d.log) c
    (desk.logged.leads (now_of v) (is_now v)) (omega (arith, lt, zeros_long n)) in
    omega (arith, none, count)

-- what each caller was passed down is all that its port was passed of it
pub mine_is : (first : Scene) (session : ModemSession) (v : PortValue) (d : DeskState) (due : List ℕ)
    → IsPort v
    → IsDeskAt first session v d due
    → ((c : ℕ) → begun_at v c ≡ true → c < length (names_on first.port (blocks_in session)))
    → (c : ℕ)
    → by_caller c (all_passed session d.log first.port v.journal)
    ≡ passings_with session first.port d (begun_at v) c
mine_is first session v d due port desk known c =
    let p = first.port in
    begun_last v (passings_on session d.log p) (λ x. answered_by x (events_on p d.log)) (step_of d)
    (λ x step. plain_call (modem_call_at p session x step)) (length (names_on p (blocks_in session))) c port
    (λ lt. step_counts first session v d due c desk lt) (known c)
