-- The session that a number gives: four ports with a caller each, which open in the first phase and then read what
-- their line brings, sometimes going over to SLIP and back.
use Rattle.std.specs.Prelude.{ℕ, ◌+◌, ◌-◌, ◌*◌, ◌%◌, ◌==◌, Bool, true}
use Rattle.std.specs.Prelude.{if◌then◌else◌, List, [], ◌∷◌, map, replicate, codes}
use Rattle.std.specs.List.{range_with_len}
use Rattle.tty_base.specs.Sizes.{DEFAULT_FLIP}
use Rattle.tty_modes.specs.declared.words.Word.TheVariants.{Raw}
use Rattle.tty_calls.specs.declared.calls.Access.TheVariants.{Rw}
use Rattle.tty_calls.specs.declared.calls.When.TheVariants.{Now}
use Rattle.tty_calls.specs.Plain.{PlainCall, opens, reads, sets_modes, sets_disc}
use Rattle.tty_calls.specs.Sessions.{PlainScript, PlainPhase, PlainSession}
use Rattle.session_gen.specs.Draws.{drawn_line}

-- each port has a caller of this name
abbrev pub caller_script : ℕ → List PlainCall → PlainScript
caller_script port calls = record { port = port; name = codes "c"; calls = calls }

-- what a caller does first: it opens a raw port without ever waiting
abbrev pub opening_calls : List PlainCall
opening_calls = opens 0 Rw true ∷ sets_modes 0 Now (Raw ∷ []) ∷ []

abbrev pub opening_phase : PlainPhase
opening_phase = record {
  lines = replicate 4 [];
  ticks = replicate 4 0;
  callers = map (λ port. caller_script port opening_calls) (range_with_len 0 4);
}

-- whether a caller changes the line discipline, to SLIP and back, after its read
abbrev pub changes_twice : (number phase port : ℕ) → Bool
changes_twice number phase port = (number + phase + port) % 4 == 0

abbrev pub reading_calls : (number phase port : ℕ) → List PlainCall
reading_calls number phase port =
    reads 0 4000 ∷ (if changes_twice number phase port then sets_disc 0 1 ∷ sets_disc 0 0 ∷ [] else [])

-- The phases after the first, from 1 on. Each port's line brings 4,000 bytes; they are drawn phase by phase, and port
-- by port.
unfoldable pub reading_phase : (number phase : ℕ) → PlainPhase
reading_phase number phase = record {
  lines = map (λ port. drawn_line number (16000 * (phase - 1) + 4000 * port) 4000) (range_with_len 0 4);
  ticks = replicate 4 0;
  callers = map (λ port. caller_script port (reading_calls number phase port)) (range_with_len 0 4);
}

abbrev pub generated_session : ℕ → PlainSession
generated_session number = record {
  version = 1;
  ports = 4;
  flips = replicate 4 DEFAULT_FLIP;
  phases = opening_phase ∷ map (reading_phase number) (range_with_len 1 15);
}
