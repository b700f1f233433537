-- Worked sessions of consoles, and the entries of their boards.
use Rattle.std.specs.Prelude.{ℕ, List, [], ◌∷◌, codes}
use Rattle.vt_consoles.specs.declared.entries.VtEntry.{VtEntry}
use Rattle.vt_consoles.specs.declared.entries.VtEvent.{VtEvent}
use Rattle.vt_consoles.specs.declared.entries.VtEvent.TheVariants.{Activate, State, Key}
use Rattle.vt_text.specs.declared.sessions.OpCall.TheVariants as op
use Rattle.vt_text.specs.Sessions.{PlainVtSession}
use Rattle.vt_text.specs.Rows.{phase_with}

abbrev pub by : ℕ → VtEvent → VtEntry
by seat event = record { seat = seat; event = event }

-- of two consoles, with two keys, an operator that activates console 1 and asks, and two keys more
abbrev pub two_consoles_entries : List VtEntry
two_consoles_entries =
    by 1 (Key 0 0) ∷ by 1 (Key 1 0) ∷ by 0 (Activate 1) ∷ by 0 (State 1) ∷ by 1 (Key 2 1) ∷ by 1 (Key 3 1) ∷ []

-- .. where the last keys go to console 0 too, and where the operator is told what was before
abbrev pub console_0_only : List VtEntry
console_0_only =
    by 1 (Key 0 0) ∷ by 1 (Key 1 0) ∷ by 0 (Activate 1) ∷ by 0 (State 1) ∷ by 1 (Key 2 0) ∷ by 1 (Key 3 0) ∷ []

abbrev pub told_from_before : List VtEntry
told_from_before =
    by 1 (Key 0 0) ∷ by 1 (Key 1 0) ∷ by 0 (Activate 1) ∷ by 0 (State 0) ∷ by 1 (Key 2 1) ∷ by 1 (Key 3 1) ∷ []

-- two consoles, and an operator that activates a third and asks
abbrev pub refused_activation : PlainVtSession
refused_activation = record {
  calls = record { version = 1; ports = 2; flips = 4096 ∷ 4096 ∷ []; phases = phase_with [] ∷ [] };
  phases =
      record { keys = []; operators = record { name = codes "o"; calls = op.Activate 2 ∷ op.State ∷ [] } ∷ [] } ∷ [];
}

abbrev pub refused_activation_entries : List VtEntry
refused_activation_entries = by 0 (State 0) ∷ []
