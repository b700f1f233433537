use Rattle.std.proofs.Common.{◌≡◌, ℕ, ap, arith}
use Rattle.std.proofs.lemmas.Bool.{true≢false}
use Rattle.tty_calls.specs.Plain.{PlainAnswer, number_is}
use Rattle.modem_steps.proofs.wrong_logs_are_none.Goals as goal

-- the number of an answer
number_in : PlainAnswer → ℕ
number_in (number_is n) = n
number_in other = 0

other_number : (m n : ℕ) → (m ≡ n → ⊥) → number_is m ≡ number_is n → ⊥
unfolding number_in
other_number m n ne e = ne (ap number_in e)

pub returns-clause-opened_early : goal.returns-clause-opened_early
returns-clause-opened_early c = λ run. true≢false run.leads.2.not_held_up

pub returns-clause-not_hung_up : goal.returns-clause-not_hung_up
returns-clause-not_hung_up c = λ run. let due = run.leads.3.3.3.3.2.nothing_due in cc

pub returns-clause-raised_early : goal.returns-clause-raised_early
returns-clause-raised_early c = λ run. other_number 64 70 (λ e. omega arith) run.leads.3.3.2.answers

pub returns-clause-under_clocal : goal.returns-clause-under_clocal
returns-clause-under_clocal c = λ run. let due = run.leads.3.3.3.3.3.3.2.is_due in cc

pub returns-clause-told_twice : goal.returns-clause-told_twice
returns-clause-told_twice c = λ run. other_number 8 0 (λ e. omega arith) run.leads.3.3.3.3.3.3.3.2.answers

pub returns-clause-other_phase : goal.returns-clause-other_phase
returns-clause-other_phase c = λ run. run.leads.3.3.3.3.2.answers

pub returns-clause-given_up : goal.returns-clause-given_up
returns-clause-given_up c = λ run. let still = run.leads.2.answers.2 in cc
