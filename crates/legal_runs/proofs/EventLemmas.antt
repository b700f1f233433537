-- Entries that end no phase.
use Rattle.std.proofs.Common.{◌≡◌, ℕ, false, List, [], ◌∷◌, refl, sym}
use Rattle.std.proofs.lemmas.Bool.{false≢true}
use Rattle.tty_calls.specs.Plain.{PlainEvent, answered, parted, waited, flushed, ticked, line_ended, clock_ended}
use Rattle.tty_calls.specs.Plain.{caller_ended, phase_ended, hung_up, PlainEntry}
use Rattle.legal_runs.specs.Legal.{is_phase_end, session_events, before_phase}
use Rattle.tty_terminal.specs.Runs.{phase_after}

pub none_before : (es : List PlainEntry) → before_phase 0 es ≡ []
none_before [] = refl
none_before (e ∷ es) = refl

pub no_phase_end : (event : PlainEvent) → session_events event ≡ [] → is_phase_end event ≡ false
no_phase_end (answered a dropped) none = refl
no_phase_end (parted n) none = refl
no_phase_end waited none = refl
no_phase_end (flushed chars) none = refl
no_phase_end ticked none = refl
no_phase_end (line_ended n) none = refl
no_phase_end clock_ended none = refl
no_phase_end caller_ended none = refl
no_phase_end phase_ended none = cc
no_phase_end (hung_up dropped) none = refl

pub phase_same : (event : PlainEvent) (phase : ℕ) → is_phase_end event ≡ false → phase_after event phase ≡ phase
phase_same (answered a dropped) phase is = refl
phase_same (parted n) phase is = refl
phase_same waited phase is = refl
phase_same (flushed chars) phase is = refl
phase_same ticked phase is = refl
phase_same (line_ended n) phase is = refl
phase_same clock_ended phase is = refl
phase_same caller_ended phase is = refl
phase_same phase_ended phase is = absurd (false≢true (sym is))
phase_same (hung_up dropped) phase is = refl

pub quiet_phase : (event : PlainEvent) (k : ℕ) → session_events event ≡ [] → phase_after event k ≡ k
quiet_phase (answered a dropped) k none = refl
quiet_phase (parted n) k none = refl
quiet_phase waited k none = refl
quiet_phase (flushed chars) k none = refl
quiet_phase ticked k none = refl
quiet_phase (line_ended n) k none = refl
quiet_phase clock_ended k none = refl
quiet_phase caller_ended k none = refl
quiet_phase phase_ended k none = cc
quiet_phase (hung_up dropped) k none = refl
