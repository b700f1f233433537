-- Where the keys of a session go, and the session that its consoles then play.
use Rattle.std.specs.Prelude.{◌≡◌, ◌≤◌, ◌<◌, ℕ, ◌==◌, List, [], ◌∷◌, ◌++◌}
use Rattle.std.specs.Prelude.{drop, flat_map, length, map, take, if◌then◌else◌}
use Rattle.std.specs.List.{range_with_len}
use Rattle.tty_base.specs.Sizes.{MOST_KEYS, MOST_SEATS}
use Rattle.tty_base.specs.declared.lines.LineStep.{LineStep}
use Rattle.tty_base.specs.declared.lines.LineStep.TheVariants.{Trigger}
use Rattle.uart_line.specs.GoodSteps.{good_steps}
use Rattle.uart_line.specs.Received.{script}
use Rattle.tty_calls.specs.Sessions.{PlainPhase, PlainSession, line_on}
use Rattle.tty_calls.specs.Limits.{IsWithinLimits}
use Rattle.vt_consoles.specs.declared.entries.VtEntry.{VtEntry}
use Rattle.vt_consoles.specs.declared.entries.VtEvent.{VtEvent}
use Rattle.vt_consoles.specs.declared.entries.VtEvent.TheVariants.{Activate, State, Key}
use Rattle.vt_text.specs.Sessions.{PlainVtPhase, PlainVtSession}
use Rattle.vt_account.specs.Seats.{operator_names}

-- ---- where keys go

-- the console to which a key went, key by key
abbrev pub console_in : VtEvent → List ℕ
console_in (Activate n) = []
console_in (State n) = []
console_in (Key index n) = n ∷ []

abbrev pub consoles_in : List VtEntry → List ℕ
consoles_in entries = flat_map (λ (e : VtEntry). console_in e.event) entries

-- those of these keys that went to console p, where these are the consoles of the keys, one by one
abbrev pub keys_to : (p : ℕ) → (keys consoles : List ℕ) → List ℕ
keys_to p [] consoles = []
keys_to p (key ∷ keys) [] = []
keys_to p (key ∷ keys) (n ∷ consoles) = (if n == p then key ∷ [] else []) ++ keys_to p keys consoles

abbrev pub all_keys : List PlainVtPhase → List ℕ
all_keys phases = flat_map (λ phase. phase.keys) phases

-- the session's keys that went to console p
abbrev pub keys_of : PlainVtSession → List VtEntry → (p : ℕ) → List ℕ
keys_of session entries p = keys_to p (all_keys session.phases) (consoles_in entries)

-- ---- what the consoles play

-- a line on which keys come: each is handed over as it comes
abbrev pub key_line : List ℕ → List LineStep
key_line keys = Trigger 1 ∷ good_steps keys

-- a phase in which each console's keys come on its line
abbrev pub keyed_phase : (ports : ℕ) → (keys consoles : List ℕ) → PlainPhase → PlainPhase
keyed_phase ports keys consoles phase =
    record phase { lines = map (λ p. key_line (keys_to p keys consoles)) (range_with_len 0 ports) }

abbrev pub keyed_phases : (ports : ℕ) → (consoles : List ℕ) → List PlainVtPhase → List PlainPhase → List PlainPhase
keyed_phases ports consoles [] phases = phases
keyed_phases ports consoles (keyboard ∷ keyboards) [] = []
keyed_phases ports consoles (keyboard ∷ keyboards) (phase ∷ phases) =
    keyed_phase ports keyboard.keys consoles phase
    ∷ keyed_phases ports (drop (length keyboard.keys) consoles) keyboards phases

-- The session that the consoles of a session play, where its board has these entries: a port for each console, and on
-- its line the keys that went there. It is of no version of the texts of ports.
abbrev pub keyed : PlainVtSession → List VtEntry → PlainSession
keyed session entries =
    record session.calls {
      version = 0;
      phases = keyed_phases session.calls.ports (consoles_in entries) session.phases session.calls.phases;
    }

-- the steps of the line of console p in the first phases
abbrev pub line_script : (p phases : ℕ) → PlainSession → List LineStep
line_script p phases session = script (map (line_on p) (take phases session.phases))

-- a session has as many phases for its keyboard and operators as for its callers
abbrev pub HasAllPhases : PlainVtSession → Type 0
HasAllPhases session = length session.calls.phases ≡ length session.phases

-- the limits that a session of consoles keeps
pub record IsWithinKeys (session : PlainVtSession) : Type 0 where
  pub whole : HasAllPhases session
  pub calls : IsWithinLimits session.calls
  pub few_keys : length (all_keys session.phases) ≤ MOST_KEYS
  pub few_seats : length (operator_names session.phases) < MOST_SEATS
