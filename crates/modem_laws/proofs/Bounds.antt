-- How many calls a caller has in the session that its port was played: as many as were logged and answered.
use Rattle.std.proofs.Common.{◌≤◌, ℕ, ◌+◌, ◌-◌, List, [], ◌∷◌, Option, None, Some, length, map, arith}
use Rattle.tty_calls.specs.Plain.{hangs_up}
use Rattle.passed_calls.specs.Derived.{by_caller, all_calls}
use Rattle.passed_calls.specs.Scripts.{plain, further}
use Rattle.order_laws.proofs.Fewer.{by_one}
use Rattle.modem_text.specs.Events.{ModemEvent, pin_set, own, passed, carrier_lost, ModemLog}
use Rattle.modem_text.specs.Sessions.{ModemCall, ModemSession}
use Rattle.modem_steps.specs.Derived.{carrier_on, modem_call_at, plain_call, passings_from}
use Rattle.logged_laws.proofs.Places.{logged_for, logged_in}
use Rattle.modem_laws.proofs.Steps.{answer_in, modem_log}

plain_one : (o : Option ModemCall) → length (plain_call o) ≤ 1
plain_one None = omega arith
plain_one (Some (plain call)) = omega arith
plain_one (Some (further call)) = omega arith

few_event : (calls : ℕ → ℕ → Option ModemCall) (carrier items c rest : ℕ) (event : ModemEvent)
    (events : List ModemEvent)
    → ((n : ℕ) → length (all_calls (by_caller c (passings_from calls carrier n events))) ≤ rest)
    → length (all_calls (by_caller c (passings_from calls carrier items (event ∷ events))))
    ≤ logged_for c (answer_in carrier event) + rest
few_event calls carrier items c rest (pin_set pin up) events h = (let few = h (items + 1) in omega (arith, few))
few_event calls carrier items c rest (own d step answer) events h = (let few = h items in omega (arith, few))
few_event calls carrier items c rest (passed d step answer) events h =
    (let few = h items in
    let one = by_one c (record { caller = d; step = step; calls = plain_call (calls d step) })
    (passings_from calls carrier items events) (plain_one (calls d step)) in
    omega (arith, few, one))
few_event calls carrier items c rest (carrier_lost handle) events h =
    (let few = h items in
    let one = by_one c (record { caller = carrier; step = items - 1; calls = hangs_up handle ∷ [] })
    (passings_from calls carrier items events) (omega arith) in
    omega (arith, few, one))

pub few_passed : (p : ℕ) (session : ModemSession) (items c : ℕ) (log : ModemLog)
    → length (all_calls (by_caller c (passings_from (modem_call_at p session) (carrier_on p session) items
    (map (λ l. l.event) log))))
    ≤ logged_in (modem_log p session) c log
few_passed p session items c [] = omega arith
few_passed p session items c (l ∷ log) =
    few_event (modem_call_at p session) (carrier_on p session) items c (logged_in (modem_log p session) c log) l.event
    (map (λ l. l.event) log) (λ n. few_passed p session n c log)
