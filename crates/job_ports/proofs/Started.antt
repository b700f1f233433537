-- The calls that a port has begun and not answered, and all that it was passed.
use Rattle.std.proofs.Common.{◌≡◌, ◌<◌, ℕ}
use Rattle.std.proofs.Common.{List, Option, None, Some, length}
use Rattle.std.proofs.Common.{refl, ap, arith}
use Rattle.std.specs.Prelude.{slice_get, slice_index_or}
use Rattle.passed_calls.specs.Blocks.{names_on}
use Rattle.passed_calls.specs.Derived.{by_caller}
use Rattle.passed_calls.specs.Logs.{logged_on}
use Rattle.passed_calls.specs.Scripts.{CallerScript, calls_named}
use Rattle.port_core.specs.Ports.{PortValue, IsPort}
use Rattle.play_base.specs.Roles.{Scene}
use Rattle.job_text.specs.Events.{JobEvent, events_on}
use Rattle.job_text.specs.Sessions.{JobCall, JobsSession, blocks_in}
use Rattle.job_steps.specs.Derived.{passings_on, plain_call, scripts_over, job_call_at}
use Rattle.job_steps.specs.Steps.{Port, JobsState, first_state, names_of_port, next_of, next_call, WentToPort}
use Rattle.job_one.specs.Later.{port_with}
use Rattle.job_one.specs.Desk.{IsDeskAt}
use Rattle.job_one.specs.Events.{DeskState}
use Rattle.job_one.specs.Between.{value_at}
use Rattle.order_laws.specs.Begun.{begun_at}
use Rattle.job_one.specs.Playing.{passings_with}
use Rattle.job_one.specs.Played.{answered_by, all_passed}
use Rattle.passed_ports.proofs.Started.{zeros_at}
use Rattle.passed_ports.proofs.Started.{zeros_long, now_of, is_now, begun_last}
use Rattle.passed_ports.proofs.Joining.{below_if}
use Rattle.job_ports.proofs.Noted.{answers_counted}

-- ---- what a caller has begun

named : (port : Port) (s : JobsState) (place c : ℕ) (names : List (List ℕ)) (scripts : List (CallerScript JobCall))
    (step : ℕ) (o : Option (List ℕ))
    → slice_get names c ≡ o
    → WentToPort port s place c (slice_get (calls_named o scripts) step)
    → c < length names
named port s place c names scripts step None is goes = absurd goes
named port s place c names scripts step (Some name) is goes = below_if names c name is

-- who has begun a call has a name
has_name : (port : Port) (s : JobsState) (place c : ℕ)
    → WentToPort port s place c (next_call port s c)
    → c < length (names_of_port port)
has_name port s place c goes = named port s place c (names_of_port port) (scripts_over port.number port.session)
    (next_of s c) (slice_get (names_of_port port) c) refl goes

-- what each caller was passed down is all that its port was passed of it
pub mine_is : (first : Scene) (session : JobsSession) (v : PortValue) (d : DeskState) (due : List JobEvent)
    → IsPort v
    → IsDeskAt first session d.log v d.jobs d.next d.sent due
    → (c : ℕ)
    → by_caller c (all_passed session d.log first.port v.journal)
    ≡ passings_with session d.log first.port (value_at d) (begun_at v) c
mine_is first session v d due port desk c =
    let p = first.port in
    let j = now_of v in
    let u = desk.state in
    let at : Port = port_with p session j in
    let n = length (names_on p (blocks_in session)) in
    begun_last v (passings_on session d.log p) (λ x. answered_by x (events_on p d.log)) (λ x. slice_index_or d.next x 0)
    (λ x step. plain_call (job_call_at p session x step)) n c port
    (λ lt.
    (let count = answers_counted at (first_state at) u (logged_on p d.log) c (desk.at.logged.leads j (is_now v))
    (omega (arith, lt, zeros_long n)) in
    let first_none = zeros_at n c in
    let next = ap (λ (ns : List ℕ). slice_index_or ns c 0) desk.next_are in
    omega (arith, first_none, next, count)))
    (λ begun.
    (let gone = desk.at.gone_on c begun in
    let known = has_name at u gone.place c (gone.goes_on j (is_now v)) in
    omega (arith, known)))
