-- The session that was played, and the one that is derived.
use Rattle.std.proofs.Common.{◌≡◌, ℕ, List, [], ◌++◌, ap, ◌∙◌, append-nil}
use Rattle.tty_calls.specs.declared.journals.PortRun.{PortRun}
use Rattle.passed_calls.specs.Derived.{Passing, passed_phases}
use Rattle.job_text.specs.Events.{JobLog}
use Rattle.job_text.specs.Sessions.{JobsSession}
use Rattle.job_steps.specs.Derived.{block_phases, passings_on, derived}
use Rattle.job_one.specs.Played.{begun_in, derived_with}
use Rattle.order_laws.specs.Sessions.{journal_on}

pub whole_derived : (session : JobsSession) (log : JobLog) (runs : List PortRun)
    → ((p : ℕ) → begun_in session log p (journal_on runs p) ≡ [])
    → derived_with session log runs ≡ derived session log
whole_derived session log runs none =
    let passed : (p : ℕ)
    → passings_on session log p ++ begun_in session log p (journal_on runs p) ≡ passings_on session log p =
    λ p.
    ap (λ (ms : List Passing). passings_on session log p ++ ms) (none p) ∙ append-nil (passings_on session log p) in
    λ i. record {
      version = session.version;
      ports = session.ports;
      flips = session.flips;
      phases = passed_phases (λ p. passed p i) (block_phases session);
    }
