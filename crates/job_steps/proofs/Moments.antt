-- Job control at the moments of a log: what an event says of it, and what it does not.
use Rattle.std.proofs.Common.{◌≡◌, ◌≤◌, ◌<◌, ℕ, Bool, true, false, List, ◌∷◌, Option, None, Some, if◌then◌else◌}
use Rattle.std.proofs.Common.{refl, sym, ap, ◌∙◌, subst, arith}
use Rattle.std.specs.Prelude.{nat_le}
use Rattle.std.proofs.lemmas.Bool.Decides.{nat_tests}
use Rattle.tty_calls.specs.Plain.{opens, closes, reads, writes, gets_modes, sets_modes, gets_disc}
use Rattle.tty_calls.specs.Plain.{sets_disc, flushes, steers, counts_input, counts_output, excludes, admits}
use Rattle.tty_calls.specs.Plain.{drains, gets_counts, hangs_up, sends_packet, takes_packet, PlainAnswer, done}
use Rattle.tty_calls.specs.Plain.{count_is, got, number_is, modes_are, counts_are, refused, idle}
use Rattle.tty_terminal.specs.Terminals.{Terminal}
use Rattle.job_control.specs.Control.{JobState, first_jobs}
use Rattle.passed_calls.specs.Journals.{terminal_at}
use Rattle.passed_calls.specs.Scripts.{plain, further}
use Rattle.job_text.specs.Events.{JobEvent, own, passed, passed_down, sent}
use Rattle.job_text.specs.Sessions.{JobCall}
use Rattle.job_steps.specs.Steps.{Port, Moment, JobsState, procs_of, jobs_among, jobs_before, proc_of, next_call}
use Rattle.job_steps.specs.Steps.{with_jobs, after_own, after_passed, after_event}

-- ---- job control before an entry

pub later_not : (a b : ℕ) → b < a → nat_le a b ≡ false
later_not a b lt = grind (arith, nat_tests)

is_le : (a b : ℕ) → a ≤ b → nat_le a b ≡ true
is_le a b le = grind (arith, nat_tests)

at_or_before : (m : Moment) (ms : List Moment) (place : ℕ) (first : JobState)
    → place < m.at
    → jobs_among (m ∷ ms) place first ≡ jobs_among ms place first
at_or_before m ms place first lt =
    ap (λ (b : Bool). if b then m.jobs else jobs_among ms place first) (later_not m.at place lt)

among_now : (m : Moment) (ms : List Moment) (place : ℕ) (first : JobState)
    → m.at ≤ place
    → jobs_among (m ∷ ms) place first ≡ m.jobs
among_now m ms place first le = ap (λ (b : Bool). if b then m.jobs else jobs_among ms place first) (is_le m.at place le)

pub now_before : (port : Port) (s : JobsState) (place : ℕ) → s.now.at ≤ place → jobs_before port s place ≡ s.now.jobs
now_before port s place le = among_now s.now s.past place _ le

-- an event behind an entry says nothing of before
behind : (port : Port) (s : JobsState) (at place : ℕ) (jobs : JobState)
    → place < at
    → jobs_before port (with_jobs s at jobs) place ≡ jobs_before port s place
behind port s at place jobs lt = at_or_before (record { at = at; jobs = jobs }) (s.now ∷ s.past) place _ lt

own_behind : (port : Port) (t : Terminal) (p c : ℕ) (s : JobsState) (at place : ℕ) (call : Option JobCall)
    → place < at
    → jobs_before port (after_own t p c s at call) place ≡ jobs_before port s place
own_behind port t p c s at place None lt = refl
own_behind port t p c s at place (Some call) lt = behind port s at place _ lt

-- after an answer of the port job control stands from this place on
pub after_passed_now : (s : JobsState) (at : ℕ) (call : Option JobCall) (answer : PlainAnswer)
    → ((after_passed s at call answer).now.at ≡ at)
    × ((after_passed s at call answer).now ∷ (after_passed s at call answer).past
    ≡ (after_passed s at call answer).now ∷ s.now ∷ s.past)
after_passed_now s at None answer = (refl, refl)
after_passed_now s at (Some (further call)) answer = (refl, refl)
after_passed_now s at (Some (plain (opens h access nonblock))) answer = (refl, refl)
after_passed_now s at (Some (plain (closes h))) answer = (refl, refl)
after_passed_now s at (Some (plain (reads h n))) answer = (refl, refl)
after_passed_now s at (Some (plain (writes h bytes))) answer = (refl, refl)
after_passed_now s at (Some (plain (gets_modes h))) answer = (refl, refl)
after_passed_now s at (Some (plain (sets_modes h when words))) answer = (refl, refl)
after_passed_now s at (Some (plain (gets_disc h))) answer = (refl, refl)
after_passed_now s at (Some (plain (sets_disc h number))) answer = (refl, refl)
after_passed_now s at (Some (plain (flushes h queue))) answer = (refl, refl)
after_passed_now s at (Some (plain (steers h act))) answer = (refl, refl)
after_passed_now s at (Some (plain (counts_input h))) answer = (refl, refl)
after_passed_now s at (Some (plain (counts_output h))) answer = (refl, refl)
after_passed_now s at (Some (plain (excludes h))) answer = (refl, refl)
after_passed_now s at (Some (plain (admits h))) answer = (refl, refl)
after_passed_now s at (Some (plain (drains h))) answer = (refl, refl)
after_passed_now s at (Some (plain (gets_counts h))) answer = (refl, refl)
after_passed_now s at (Some (plain (sends_packet h bytes))) answer = (refl, refl)
after_passed_now s at (Some (plain (takes_packet h))) answer = (refl, refl)
after_passed_now s at (Some (plain (hangs_up h))) done = (refl, refl)
after_passed_now s at (Some (plain (hangs_up h))) (count_is taken) = (refl, refl)
after_passed_now s at (Some (plain (hangs_up h))) (got bytes) = (refl, refl)
after_passed_now s at (Some (plain (hangs_up h))) (number_is n) = (refl, refl)
after_passed_now s at (Some (plain (hangs_up h))) (modes_are modes) = (refl, refl)
after_passed_now s at (Some (plain (hangs_up h))) (counts_are counts) = (refl, refl)
after_passed_now s at (Some (plain (hangs_up h))) (refused errno) = (refl, refl)
after_passed_now s at (Some (plain (hangs_up h))) idle = (refl, refl)

pub passed_at : (s : JobsState) (at : ℕ) (call : Option JobCall) (answer : PlainAnswer)
    → (after_passed s at call answer).now.at ≤ at
passed_at s at call answer = omega (arith, (after_passed_now s at call answer).0)

passed_behind : (port : Port) (s : JobsState) (at place : ℕ) (call : Option JobCall) (answer : PlainAnswer)
    → place < at
    → jobs_before port (after_passed s at call answer) place ≡ jobs_before port s place
passed_behind port s at place call answer lt =
    let n = after_passed_now s at call answer in
    let first : JobState = first_jobs (procs_of port) in
    ap (λ (ms : List Moment). jobs_among ms place first) n.1
    ∙ at_or_before (after_passed s at call answer).now (s.now ∷ s.past) place first
    (subst (λ (i : ℕ). place < i) (sym n.0) lt)

pub event_behind : (port : Port) (s : JobsState) (at place : ℕ) (event : JobEvent)
    → place < at
    → jobs_before port (after_event port s at event) place ≡ jobs_before port s place
event_behind port s at place (own c step answer) lt =
    own_behind port (terminal_at port.journal at) (proc_of port c) c s at place (next_call port s c) lt
event_behind port s at place (passed c step answer) lt = passed_behind port s at place (next_call port s c) answer lt
event_behind port s at place (passed_down c h) lt = behind port s at place s.now.jobs lt
event_behind port s at place (sent signal target) lt = behind port s at place s.now.jobs lt
