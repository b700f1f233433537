-- What worked reports are of: ports of which little is told.
use Rattle.std.specs.Prelude.{ℕ, List, [], ◌++◌, codes}
use Rattle.tty_base.specs.declared.counters.Counts.{Counts}
use Rattle.tty_base.specs.declared.counters.Signal.{Signal}
use Rattle.tty_calls.specs.declared.journals.PortRun.{PortRun}
use Rattle.tty_calls.specs.Plain.{PlainEntry}
use Rattle.session_print.specs.Ends.{PlainEnd}

abbrev pub nothing_counted : Counts
nothing_counted =
    record { mark = 0; parity = 0; frame = 0; breaks = 0; cut = 0; echo = 0; pin = 0; pout = 0; pbad = 0; pfull = 0 }

-- so many characters arrived, and all were sent; of the journal these entries have characters
abbrev pub run_with : (arrived : ℕ) → List PlainEntry → PortRun
run_with arrived entries = record {
  journal = record { items = entries; spare = 0; spare_bytes = 0; spare_characters = 0 };
  line = record { arrived = arrived; fifo_lost = 0; sent = arrived; overruns = record { items = []; spare = 0 } };
}

abbrev pub end_with : List Signal → (generation : ℕ) → (wire : List ℕ) → PlainEnd
end_with signals generation wire =
    record { counts = nothing_counted; signals = signals; generation = generation; wire = wire }

-- the lines of a port up to its signals, where so many characters came and went
abbrev pub port_head : (count : List ℕ) → List ℕ
port_head count =
    codes "port 0 line arrived="
    ++ (count ++ (codes " lost=0 sent=" ++ (count ++ (codes " overrun=0\nport 0 input taken=" ++ (count
    ++ codes
    " dropped=0\nport 0 counts mark=0 parity=0 frame=0 break=0 cut=0 echo=0 pin=0 pout=0 pbad=0 pfull=0\nport 0 signals ")))))
