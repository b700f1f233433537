-- Runs of characters that concern no rule but those of storing and echo.
use Rattle.std.specs.Prelude.{◌≡◌, ℕ, ◌+◌, true, List, [], ◌∷◌, ◌++◌, length}
use Rattle.tty_base.specs.declared.characters.Flagged.{Flagged}
use Rattle.tty_modes.specs.Settings.{Settings}
use Rattle.flow_control.specs.Output.{on_wire}
use Rattle.n_tty.specs.States.{OnPort, on_port, is_accepting}
use Rattle.n_tty.specs.Storing.{start_of, with_plain_bytes}
use Rattle.n_tty.specs.Receiving.{after_character}

-- after these, one after the other
abbrev pub after_characters : Settings → (now : ℕ) → List Flagged → OnPort → OnPort
after_characters modes now [] port = port
after_characters modes now (c ∷ cs) port = after_characters modes now cs (after_character modes now c port)

-- each of these is accepted in its turn
abbrev pub AcceptsAll : Settings → (now : ℕ) → List Flagged → OnPort → Type 0
AcceptsAll modes now [] port = Unit {0}
AcceptsAll modes now (c ∷ cs) port =
    (is_accepting modes port.tty ≡ true) × AcceptsAll modes now cs (after_character modes now c port)

-- these bytes are unread at once
abbrev pub after_stored : (now : ℕ) → List ℕ → OnPort → OnPort
after_stored now [] port = port
after_stored now (b ∷ bytes) port = record port { tty = with_plain_bytes now (b ∷ bytes) port.tty }

-- these bytes join the edited line, without an echo
abbrev pub after_joined : (now : ℕ) → List ℕ → OnPort → OnPort
after_joined now [] port = port
after_joined now (b ∷ bytes) port =
    record port {
      tty = record port.tty {
        edit = port.tty.edit ++ b ∷ bytes;
        start = start_of port.tty.edit port.tty.start port.tty.column;
        last = now;
      };
    }

-- these bytes join the edited line, and are echoed as they are
abbrev pub after_typed : (now : ℕ) → List ℕ → OnPort → OnPort
after_typed now [] port = port
after_typed now (b ∷ bytes) port =
    on_port
    (record port.tty {
      edit = port.tty.edit ++ b ∷ bytes;
      start = start_of port.tty.edit port.tty.start port.tty.column;
      last = now;
      column = port.tty.column + length (b ∷ bytes);
    })
    (on_wire port.output (b ∷ bytes))
    port.tally
