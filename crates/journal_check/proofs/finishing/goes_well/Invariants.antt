use Rattle.std.proofs.Common.{◌≡◌, ◌≤◌, drop, length, get_or}
use Rattle.tty_calls.specs.Sessions.{session_of, ticks_on}
use Rattle.legal_runs.specs.Legal.{phase_at}
use Rattle.journal_check.specs.Finishing.{goes_well}
use Rattle.journal_check.proofs.finishing.goes_well.Given as goal

abbrev pub invariant-loop-place : goal.invariant-loop-place
invariant-loop-place l = record {
  goes : goes_well (λ k. get_or l.sents k 0) (λ k. ticks_on l.port (phase_at (session_of l.session) k))
      (length (session_of l.session).phases) l.phase l.passed (drop l.place l.journal.items)
      ≡ goes_well (λ k. get_or l.sents k 0) (λ k. ticks_on l.port (phase_at (session_of l.session) k))
      (length (session_of l.session).phases) 0 0 l.journal.items;
  phases : l.phase ≤ l.place;
  few : l.passed ≤ l.place;
}
