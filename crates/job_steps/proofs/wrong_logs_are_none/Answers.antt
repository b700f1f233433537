use Rattle.std.proofs.Common.{◌≡◌, ℕ, ◌∙◌, sym, ap, arith, subst, take, Option, None, Some}
use Rattle.tty_calls.specs.Plain.{PlainEntry}
use Rattle.job_steps.specs.Steps.{Port, first_state, first_place, next_call, WentToPort}
use Rattle.job_steps.specs.Rows.{foreground_given, read_passed, read_passed_journal, port_of, state_after}
use Rattle.job_control.specs.declared.answers.Target.{Target}
use Rattle.job_control.specs.declared.answers.Target.TheVariants as towards
use Rattle.job_steps.proofs.wrong_logs_are_none.Goals as goal

-- the step of an entry that is there
step_in : Option PlainEntry → ℕ
step_in None = 0
step_in (Some e) = e.step

-- the group of a target
group_in : Target → ℕ
group_in (towards.Group group) = group
group_in other = 0

other_group : (m n : ℕ) → (m ≡ n → ⊥) → towards.Group m ≡ towards.Group n → ⊥
unfolding group_in
other_group m n ne e = ne (ap group_in e)

pub returns-clause-read_passed : goal.returns-clause-read_passed
unfolding step_in
returns-clause-read_passed c = λ run.
    let port : Port = port_of foreground_given read_passed read_passed_journal in
    let state = state_after port (first_state port) (take 3 read_passed) in
    let passed = run.leads.3.3.3.2 in
    let first : 0 ≡ passed.entry.entry.step = ap step_in passed.entry.stands in
    let P : ℕ → Type 0 = λ step. WentToPort port state (first_place port.journal 1 step) 1 (next_call port state 1) in
    let goes_on = subst P (sym first) passed.goes_on in
    cc

pub returns-clause-other_group : goal.returns-clause-other_group
returns-clause-other_group c = λ run. other_group 1 2 (λ e. omega arith) run.leads.3.3.3.3.3.3.2.goes_to

pub returns-clause-unsent : goal.returns-clause-unsent
returns-clause-unsent c = λ run.
    let none : 0 ≡ 1 = sym (ap (λ s. s.signals) run.leads.3.3.3.3.3.3) ∙ run.all_sent in
    omega (arith, none)

pub returns-clause-orphan_stopped : goal.returns-clause-orphan_stopped
returns-clause-orphan_stopped c = λ run. let stopped = run.leads.3.3.2.answers.1 in cc

pub returns-clause-not_hung_up : goal.returns-clause-not_hung_up
returns-clause-not_hung_up c = λ run.
    let due = sym (ap (λ s. s.due) run.leads.3.3.3.3.3.3.3.3) ∙ run.nothing_due in
    cc
