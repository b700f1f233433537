-- What a session that a text spells has on a port: calls and names that can be printed.
use Rattle.std.proofs.Common.{◌≡◌, ℕ, ◌≤◌, true, Some, List, [], slice_get, arith}
use Rattle.std.specs.Prelude.{All}
use Rattle.std.specs.List.{AllByRecursion}
use Rattle.std.proofs.lemmas.List.Elements.{recursion_from_All}
use Rattle.tty_base.specs.Sizes.{MOST_FLIP}
use Rattle.tty_calls.specs.Plain.{PlainCall}
use Rattle.tty_calls.specs.Sessions.{PlainScript, PlainPhase, PlainSession, scripts_over, names_of, calls_of, call_at}
use Rattle.tty_calls.specs.Limits.{IsCallWithin, IsScriptWithin, IsPhaseWithin, IsWithinLimits}
use Rattle.text_lines.specs.Values.{is_name}
use Rattle.session_text.specs.Grammar.{Spells}
use Rattle.session_text.proofs.Within.{spelled_within}
use Rattle.legal_runs.specs.Legal.{name_at, flip_on}
use Rattle.read_back.proofs.Lists.{each_at, each_found, each_weaker}
use Rattle.read_back.proofs.Outcomes.{IsSmallCall}
use Rattle.session_text.specs.Writable.{SetsModeWords, IsWrittenScript, IsWrittenPhase}
use Rattle.session_text.proofs.Writings.{spelled_written}
use Rattle.read_back.proofs.Scripts.{scripts_each, calls_each, names_each}

pub record IsPrintable (p : ℕ) (session : PlainSession) : Type 0 where
  pub limits : IsWithinLimits session
  pub phases : AllByRecursion IsWrittenPhase session.phases
  pub calls : (c step : ℕ) (call : PlainCall) → call_at p session c step ≡ Some call → IsSmallCall call
  pub names : (c : ℕ) (name : List ℕ) → name_at p session c ≡ Some name → is_name name ≡ true
  pub capacity : flip_on p session ≤ MOST_FLIP

-- calls within limits, script by script
calls_within : (ports : ℕ) (phases : List PlainPhase)
    → All (IsPhaseWithin ports) phases
    → AllByRecursion (λ phase. AllByRecursion (λ s. AllByRecursion IsCallWithin s.calls) phase.callers) phases
calls_within ports phases h =
    each_weaker (IsPhaseWithin ports) (λ phase. AllByRecursion (λ s. AllByRecursion IsCallWithin s.calls) phase.callers)
    (λ phase k. each_weaker (IsScriptWithin ports) (λ s. AllByRecursion IsCallWithin s.calls)
    (λ s l. recursion_from_All IsCallWithin s.calls l.calls) phase.callers
    (recursion_from_All (IsScriptWithin ports) phase.callers k.scripts))
    phases (recursion_from_All (IsPhaseWithin ports) phases h)

pub printable : (text : List ℕ) (session : PlainSession) (p : ℕ) → Spells text session → IsPrintable p session
printable text session p h = record {
  limits = limits;
  phases = written;
  calls = λ c step call e. record {
    modes = each_found SetsModeWords (calls_of scripts (slice_get (names_of scripts) c)) step call e
        (calls_each SetsModeWords scripts (slice_get (names_of scripts) c) sets);
    bytes = (each_found IsCallWithin (calls_of scripts (slice_get (names_of scripts) c)) step call e
        (calls_each IsCallWithin scripts (slice_get (names_of scripts) c) within)).bytes;
  };
  names = λ c name e. each_found (λ n. is_name n ≡ true) (names_of scripts) c name e
      (names_each (λ n. is_name n ≡ true) scripts [] tt named);
  capacity = each_at (λ n. n ≤ MOST_FLIP) session.flips p 0
      (recursion_from_All (λ n. n ≤ MOST_FLIP) session.flips limits.few_flip) (omega arith);
}
  where
    limits : IsWithinLimits session
    limits = spelled_within text session h

    written : AllByRecursion IsWrittenPhase session.phases
    written = spelled_written text session h

    scripts : List PlainScript
    scripts = scripts_over p session.phases

    sets : AllByRecursion (λ s. AllByRecursion SetsModeWords s.calls) scripts
    sets = scripts_each (λ s. AllByRecursion SetsModeWords s.calls) p session.phases
        (each_weaker IsWrittenPhase (λ phase. AllByRecursion (λ s. AllByRecursion SetsModeWords s.calls) phase.callers)
        (λ phase k. each_weaker IsWrittenScript (λ s. AllByRecursion SetsModeWords s.calls) (λ s l. l.calls)
        phase.callers k.scripts) session.phases written)

    named : AllByRecursion (λ s. is_name s.name ≡ true) scripts
    named = scripts_each (λ s. is_name s.name ≡ true) p session.phases
        (each_weaker IsWrittenPhase (λ phase. AllByRecursion (λ s. is_name s.name ≡ true) phase.callers)
        (λ phase k. each_weaker IsWrittenScript (λ s. is_name s.name ≡ true) (λ s l. l.named) phase.callers k.scripts)
        session.phases written)

    within : AllByRecursion (λ s. AllByRecursion IsCallWithin s.calls) scripts
    within = scripts_each (λ s. AllByRecursion IsCallWithin s.calls) p session.phases
        (calls_within session.ports session.phases limits.phases)
