-- How many calls a caller has in the session that its port was played: as many as were logged and answered.
use Rattle.std.proofs.Common.{◌≤◌, ℕ, ◌+◌, List, [], ◌∷◌, Option, None, Some, length, map, arith}
use Rattle.tty_calls.specs.Plain.{hangs_up}
use Rattle.passed_calls.specs.Derived.{by_caller, all_calls}
use Rattle.order_laws.proofs.Fewer.{by_one}
use Rattle.job_text.specs.Events.{JobEvent, own, passed, passed_down, sent, JobLog}
use Rattle.job_text.specs.Sessions.{JobCall, JobsSession}
use Rattle.passed_calls.specs.Scripts.{plain, further}
use Rattle.job_steps.specs.Derived.{job_call_at, plain_call, passings_from}
use Rattle.logged_laws.proofs.Places.{logged_for, logged_in}
use Rattle.job_laws.proofs.Steps.{answer_in, job_log}

plain_one : (o : Option JobCall) → length (plain_call o) ≤ 1
plain_one None = omega arith
plain_one (Some (plain call)) = omega arith
plain_one (Some (further call)) = omega arith

few_event : (calls : ℕ → ℕ → Option JobCall) (latest c rest : ℕ) (event : JobEvent) (events : List JobEvent)
    → ((n : ℕ) → length (all_calls (by_caller c (passings_from calls n events))) ≤ rest)
    → length (all_calls (by_caller c (passings_from calls latest (event ∷ events))))
    ≤ logged_for c (answer_in event) + rest
few_event calls latest c rest (own d step answer) events h = (let few = h step in omega (arith, few))
few_event calls latest c rest (passed d step answer) events h =
    (let few = h latest in
    let one = by_one c (record { caller = d; step = step; calls = plain_call (calls d step) })
    (passings_from calls latest events) (plain_one (calls d step)) in
    omega (arith, few, one))
few_event calls latest c rest (passed_down d handle) events h =
    (let few = h latest in
    let one = by_one c (record { caller = d; step = latest; calls = hangs_up handle ∷ [] })
    (passings_from calls latest events) (omega arith) in
    omega (arith, few, one))
few_event calls latest c rest (sent signal target) events h = (let few = h latest in omega (arith, few))

pub few_passed : (p : ℕ) (session : JobsSession) (latest c : ℕ) (log : JobLog)
    → length (all_calls (by_caller c (passings_from (job_call_at p session) latest (map (λ l. l.event) log))))
    ≤ logged_in (job_log p session) c log
few_passed p session latest c [] = omega arith
few_passed p session latest c (l ∷ log) =
    few_event (job_call_at p session) latest c (logged_in (job_log p session) c log) l.event (map (λ l. l.event) log)
    (λ n. few_passed p session n c log)
