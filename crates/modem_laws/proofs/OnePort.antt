-- A port of a session with modem lines: from what is known of its run and its log to that it is the only one.
use Rattle.std.proofs.Common.{ℕ, List, [], refl}
use Rattle.tty_calls.specs.declared.journals.PortRun.{PortRun}
use Rattle.tty_calls.specs.Plain.{PlainEntry}
use Rattle.tty_calls.specs.Sessions.{PlainSession}
use Rattle.tty_terminal.specs.Terminals.{Terminal}
use Rattle.legal_runs.specs.Order.{first_place}
use Rattle.passed_calls.specs.Derived.{Passing, by_caller}
use Rattle.passed_calls.specs.Logs.{logged_on}
use Rattle.order_laws.specs.Passed.{IsPassedBy}
use Rattle.order_laws.specs.Same.{IsSamePort}
use Rattle.logged_laws.proofs.OnePort.{IsPlayedOut, whole_run, few_answered, ends_all, shape, one_port as same_port}
use Rattle.modem_text.specs.Events.{ModemLog}
use Rattle.modem_text.specs.Sessions.{ModemSession}
use Rattle.modem_steps.specs.Derived.{block_phases, passings_on, derived}
use Rattle.modem_steps.specs.Steps.{ModemState, first_state}
use Rattle.modem_one.specs.Played.{port_in}
use Rattle.modem_laws.specs.OneRun.{IsPlayedWhole}
use Rattle.modem_laws.proofs.Bounds.{few_passed}
use Rattle.modem_laws.proofs.Steps.{modem_log, due_of, log_steps, log_leads, log_turns}
use Rattle.modem_laws.proofs.Turns.{are_orderly}
use Rattle.modem_laws.proofs.TwoRuns.{logs_alike}
use Rattle.modem_laws.proofs.Whole.{Whole}

-- ---- a whole run

-- the calls of the session that was played are those that were passed
abbrev mine_on : ℕ → ModemSession → ModemLog → ℕ → List Passing
mine_on p session log c = by_caller c (passings_on session log p)

passed_by : (p : ℕ) (session : ModemSession) (log : ModemLog)
    → IsPassedBy p (block_phases session) (mine_on p session log) (derived session log)
passed_by p session log = record { passed = passings_on session log; are = refl; by = λ c. refl }

module _ (p : ℕ) (session : ModemSession) (log : ModemLog) (run : PortRun) (t : Terminal)
    (h : IsPlayedWhole p session log run t) where
  abbrev played : PlainSession
  played = derived session log

  abbrev journal : List PlainEntry
  journal = run.journal.items

  abbrev first : ModemState
  first = first_state p session

  abbrev played_out : IsPlayedOut (modem_log p session) p (block_phases session) first played log run t
  played_out = record {
    mine = mine_on p session log;
    passed = passed_by p session log;
    few = λ c. few_passed p session 0 c (logged_on p log);
    legal = h.legal;
    order = record {
      turns = are_orderly played (port_in session played p journal) (logged_on p log) (first_place p played) 0 journal
          h.in_order.turns.entries;
      seen = h.in_order.seen;
    };
    steps = log_steps p session played journal;
    end = h.logged.run.last;
    leads = log_leads p session played journal first h.logged.run.last (logged_on p log) h.logged.run.leads;
    turns = log_turns p session played journal first (logged_on p log) h.in_order.turns.events;
    idle = due_of h.logged.run.last [] h.logged.run.nothing_due;
  }

  pub whole_of : Whole p session played journal t h.logged.run.last (logged_on p log)
  whole_of = record {
    run = whole_run (modem_log p session) p (block_phases session) first played log run t refl refl played_out;
    bounds = λ k c.
        few_answered (modem_log p session) p (block_phases session) first played log run t refl refl played_out k c;
    answered = h.logged.answered;
    turns = h.in_order.turns.entries;
    ends = ends_all (modem_log p session) p (block_phases session) first played log run t refl refl played_out;
  }

-- ---- two of them

pub one_port : (p : ℕ) (session : ModemSession) (log other : ModemLog) (run again : PortRun) (t u : Terminal)
    → IsPlayedWhole p session log run t
    → IsPlayedWhole p session other again u
    → IsSamePort p log other run again t u
unfolding whole_of
one_port p session log other run again t u h h' =
    let out = played_out p session log run t h in
    let out' = played_out p session other again u h' in
    same_port (modem_log p session) p (block_phases session) (first_state p session) (derived session log)
    (derived session other) log other run again t u refl refl refl refl out out'
    (logs_alike p session (derived session log) (derived session other) run.journal.items again.journal.items t u
    h.logged.run.last h'.logged.run.last (logged_on p log) (logged_on p other) (whole_of p session log run t h)
    (whole_of p session other again u h')
    (shape (modem_log p session) p (block_phases session) (first_state p session) (derived session log)
    (derived session other) log other run again t u refl refl refl refl out out'))
