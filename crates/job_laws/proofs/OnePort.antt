-- A port of a session of processes: from what is known of its run and its log to that it is the only one.
use Rattle.std.proofs.Common.{◌≡◌, ℕ, ◌==◌, List, [], length, take, filter, refl, sym, ap, ◌∙◌, arith}
use Rattle.std.specs.Prelude.{slice_get, flat_map}
use Rattle.std.proofs.lemmas.List.{take_all, length-map}
use Rattle.tty_calls.specs.declared.journals.PortRun.{PortRun}
use Rattle.tty_calls.specs.Plain.{PlainEntry}
use Rattle.tty_calls.specs.Sessions.{PlainSession}
use Rattle.tty_terminal.specs.Terminals.{Terminal}
use Rattle.order_laws.proofs.NextEntry.{keeps_order}
use Rattle.passed_calls.specs.Blocks.{names_on}
use Rattle.passed_calls.specs.Derived.{Passing, BlockPhase, blocks_of, by_caller}
use Rattle.passed_calls.specs.Logs.{logged_on}
use Rattle.passed_calls.specs.Scripts.{calls_named}
use Rattle.passed_calls.proofs.Names.{names_stay}
use Rattle.order_laws.specs.Passed.{steps_named, begin_of, IsPassedBy}
use Rattle.order_laws.specs.Same.{IsSamePort}
use Rattle.logged_laws.proofs.OnePort.{IsPlayedOut, whole_run, few_answered, ends_all, shape, one_port as same_port}
use Rattle.job_text.specs.Events.{JobLog}
use Rattle.job_text.specs.Sessions.{JobsPhase, JobsSession, blocks_in, block_phase_of}
use Rattle.job_steps.specs.Derived.{block_phases, passings_on, derived, steps_before}
use Rattle.job_steps.specs.Steps.{JobsState, first_state}
use Rattle.job_one.specs.Played.{port_in}
use Rattle.job_one.proofs.Begins.{blocks_all, steps_begin}
use Rattle.job_laws.specs.OneRun.{IsPlayedWhole}
use Rattle.job_laws.proofs.Bounds.{few_passed}
use Rattle.job_laws.proofs.Steps.{job_log, log_steps, log_leads, log_turns}
use Rattle.job_laws.proofs.TwoRuns.{logs_alike}
use Rattle.job_laws.proofs.Whole.{all_steps, Whole}

-- ---- a whole run

-- the calls of the session that was played are those that were passed
abbrev mine_on : ℕ → JobsSession → JobLog → ℕ → List Passing
mine_on p session log c = by_caller c (passings_on session log p)

passed_by : (p : ℕ) (session : JobsSession) (log : JobLog)
    → IsPassedBy p (block_phases session) (mine_on p session log) (derived session log)
passed_by p session log = record { passed = passings_on session log; are = refl; by = λ c. refl }

-- how many calls a caller has in all, by its blocks
all_named : (p : ℕ) (session : JobsSession) (c : ℕ)
    → steps_named p (blocks_in session) (slice_get (names_on p (blocks_in session)) c) ≡ all_steps p session c
all_named p session c =
    let n = length session.phases in
    let phases = block_phases session in
    let blocks : blocks_in session ≡ blocks_of phases = blocks_all session.phases in
    let whole : take n session.phases ≡ session.phases = take_all n session.phases (omega arith) in
    let whole_blocks : take n phases ≡ phases =
    take_all n phases (let many = length-map session.phases block_phase_of in omega (arith, many)) in
    let last : all_steps p session c ≡ steps_before p session n c =
    ap (λ (ps : List JobsPhase). length (calls_named (slice_get (names_on p (blocks_in session)) c)
    (flat_map (λ phase. filter (λ s. s.port == p) phase.callers) ps))) (sym whole) in
    let first : begin_of p phases n c
    ≡ steps_named p (blocks_of phases) (slice_get (names_on p (blocks_of phases)) c) =
    ap (λ (ps : List BlockPhase). steps_named p (blocks_of ps) (slice_get (names_on p (blocks_of phases)) c))
    whole_blocks in
    (λ i. steps_named p (blocks i) (slice_get (names_on p (blocks i)) c))
    ∙ (sym first ∙ (sym (steps_begin p session n c) ∙ sym last))

-- job control and the callers of a port, whatever it was played
abbrev first_of : ℕ → JobsSession → JobsState
first_of p session = first_state (port_in session (derived session []) p [])

module _ (p : ℕ) (session : JobsSession) (log : JobLog) (run : PortRun) (t : Terminal)
    (h : IsPlayedWhole p session log run t) where
  abbrev played : PlainSession
  played = derived session log

  abbrev journal : List PlainEntry
  journal = run.journal.items

  abbrev first : JobsState
  first = first_of p session

  abbrev played_out : IsPlayedOut (job_log p session) p (block_phases session) first played log run t
  played_out = record {
    mine = mine_on p session log;
    passed = passed_by p session log;
    few = λ c. few_passed p session 0 c (logged_on p log);
    legal = h.legal;
    order = keeps_order p played journal run.line.overruns.items h.in_order;
    steps = log_steps p session played journal;
    end = h.logged.run.last;
    leads = log_leads p session played journal first h.logged.run.last (logged_on p log) h.logged.run.leads;
    turns = log_turns p session played journal first (logged_on p log) h.in_turn;
    idle = h.logged.run.nothing_due;
  }

  pub whole_of : Whole p session played journal t h.logged.run.last
  whole_of = record {
    run = whole_run (job_log p session) p (block_phases session) first played log run t refl refl played_out;
    bounds = λ k c.
        few_answered (job_log p session) p (block_phases session) first played log run t refl refl played_out k c;
    names = names_stay (passings_on session log) (block_phases session) p
        ∙ sym (ap (λ bs. names_on p bs) (blocks_all session.phases));
    answered = λ c lt. h.logged.answered c lt ∙ all_named p session c;
    turns = h.in_order.turns;
    ends = ends_all (job_log p session) p (block_phases session) first played log run t refl refl played_out;
    sent = h.logged.run.all_sent;
  }

-- ---- two of them

pub one_port : (p : ℕ) (session : JobsSession) (log other : JobLog) (run again : PortRun) (t u : Terminal)
    → IsPlayedWhole p session log run t
    → IsPlayedWhole p session other again u
    → IsSamePort p log other run again t u
unfolding whole_of
one_port p session log other run again t u h h' =
    let out = played_out p session log run t h in
    let out' = played_out p session other again u h' in
    same_port (job_log p session) p (block_phases session) (first_of p session) (derived session log)
    (derived session other) log other run again t u refl refl refl refl out out'
    (logs_alike p session (first_of p session) (derived session log) (derived session other) run.journal.items
    again.journal.items t u h.logged.run.last h'.logged.run.last (logged_on p log) (logged_on p other)
    (whole_of p session log run t h) (whole_of p session other again u h')
    (shape (job_log p session) p (block_phases session) (first_of p session) (derived session log)
    (derived session other) log other run again t u refl refl refl refl out out'))
