-- What is known of a whole run of a port with modem lines, with the log beside it.
use Rattle.std.proofs.Common.{◌≡◌, ◌≤◌, ◌<◌, ℕ, ◌+◌, Bool, true, false, List}
use Rattle.std.proofs.Common.{Option, None, Some, length, take, drop, if◌then◌else◌, refl, ap, arith}
use Rattle.std.proofs.Common.{length-append}
use Rattle.std.specs.Prelude.{slice_get, nat_lt}
use Rattle.std.proofs.lemmas.Bool.Decides.{nat_tests}
use Rattle.std.proofs.lemmas.List.{take-take}
use Rattle.std.proofs.lemmas.Option.{slice_get_within}
use Rattle.tty_calls.specs.Plain.{PlainEntry}
use Rattle.tty_calls.specs.Sessions.{PlainSession}
use Rattle.tty_terminal.specs.Terminals.{Terminal}
use Rattle.legal_runs.specs.Legal.{first_step, steps_in}
use Rattle.legal_runs.specs.Order.{first_place}
use Rattle.order_laws.proofs.Journeys.{answers_in}
use Rattle.logged_laws.proofs.Entries.{one_phase}
use Rattle.logged_laws.proofs.TwoLogs.{WholeRun}
use Rattle.modem_laws.proofs.Steps.{modem_log}
use Rattle.modem_text.specs.Events.{ModemLog}
use Rattle.modem_text.specs.Sessions.{ModemCall, ModemPhase, ModemSession}
use Rattle.modem_steps.specs.Derived.{calls_over, call_in_phase}
use Rattle.modem_steps.specs.Steps.{ModemState, next_of}
use Rattle.modem_steps.specs.Order.{AreEntriesInTurn}
use Rattle.modem_one.specs.Played.{port_in}
use Rattle.modem_one.proofs.Shares.{calls_parts}

-- ---- the steps of a caller, phase by phase

-- how many calls a caller has in the first phases, and in all
abbrev pub steps_before : ℕ → ModemSession → (k c : ℕ) → ℕ
steps_before p session k c = length (calls_over p session (take k session.phases) c)

abbrev pub all_steps : ℕ → ModemSession → (c : ℕ) → ℕ
all_steps p session c = length (calls_over p session session.phases c)

first_few : (p : ℕ) (session : ModemSession) (phases : List ModemPhase) (k c : ℕ)
    → length (calls_over p session (take k phases) c) ≤ length (calls_over p session phases c)
first_few p session phases k c =
    let all = ap (λ (cs : List ModemCall). length cs) (calls_parts p session phases k c) in
    let both = length-append (calls_over p session (take k phases) c) (calls_over p session (drop k phases) c) in
    omega (arith, all, both)

steps_rise : (p : ℕ) (session : ModemSession) (j k c : ℕ)
    → j ≤ k
    → steps_before p session j c ≤ steps_before p session k c
steps_rise p session j k c le =
    let few = first_few p session (take k session.phases) j c in
    let same = ap (λ (ps : List ModemPhase). length (calls_over p session ps c))
    (take-take j k session.phases le) in
    omega (arith, few, same)

-- the call of a step that is one of a phase
pub record IsCallIn (p : ℕ) (session : ModemSession) (k c step : ℕ) : Type 0 where
  pub from : steps_before p session k c ≤ step
  pub to : step < steps_before p session (k + 1) c
  pub all : step < all_steps p session c

lt_case : (a b : ℕ) → nat_lt a b ≡ false → b ≤ a
lt_case a b e = grind (arith, nat_tests)

none_case : (b : Bool) (o : Option ModemCall) (call : ModemCall)
    → (if b then None else o) ≡ Some call
    → (b ≡ false) × (o ≡ Some call)
none_case true o call e = absurd (cc)
none_case false o call e = (refl, e)

pub call_in : (p : ℕ) (session : ModemSession) (k c step : ℕ) (call : ModemCall)
    → call_in_phase p session k c step ≡ Some call
    → IsCallIn p session k c step
call_in p session k c step call is =
    let both = none_case (nat_lt step (steps_before p session k c))
    (slice_get (calls_over p session (take (k + 1) session.phases) c) step) call is in
    let to = slice_get_within (calls_over p session (take (k + 1) session.phases) c) step call both.1 in
    let few = first_few p session session.phases (k + 1) c in
    record { from = lt_case step (steps_before p session k c) both.0; to = to; all = omega (arith, to, few) }

-- a step is of one phase
pub call_phase : (p : ℕ) (session : ModemSession) (j k c step : ℕ)
    → IsCallIn p session j c step
    → IsCallIn p session k c step
    → j ≡ k
call_phase p session j k c step h g =
    one_phase (λ i. steps_before p session i c) j k step (λ a b le. steps_rise p session a b c le) h.from h.to g.from
    g.to

-- ---- a whole run

pub record Whole (p : ℕ) (session : ModemSession) (played : PlainSession) (journal : List PlainEntry) (last : Terminal)
    (end : ModemState) (log : ModemLog) : Type 0 where
  pub run : WholeRun (modem_log p session) p played journal last end
  pub bounds : (k c : ℕ) → first_step p played k c + steps_in p played k c ≤ answers_in c journal
  pub answered : (c : ℕ) → next_of end c ≡ all_steps p session c
  pub turns : AreEntriesInTurn played (port_in session played p journal) log (first_place p played) 0 journal
  pub ends : last.phase ≡ length played.phases
