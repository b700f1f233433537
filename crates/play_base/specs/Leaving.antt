-- What a hangup leaves of a port.
use Rattle.std.specs.Prelude.{◌≡◌, ◌⊎◌, List, [], ◌∷◌, ◌++◌}
use Rattle.tty_base.specs.declared.characters.Flagged.{Flagged}
use Rattle.tty_calls.specs.Plain.{PlainEntry}
use Rattle.port_core.specs.Ports.{PortValue, hangup_entry}

-- its journal, which is one entry longer unless it was full
abbrev pub EndsJournal : PortValue → List PlainEntry → Type 0
EndsJournal v journal =
    (journal ≡ v.journal) ⊎ ((dropped : List Flagged) × (journal ≡ v.journal ++ hangup_entry v dropped ∷ []))
