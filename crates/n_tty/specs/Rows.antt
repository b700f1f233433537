-- Worked sessions: what came over a line, what is read of it, and what stands on the wire.
use Rattle.std.specs.Prelude.{ℕ, Bool, true, List, [], ◌∷◌, map, replicate}
use Rattle.tty_base.specs.declared.characters.Flag.{Flag}
use Rattle.tty_base.specs.declared.characters.Flagged.{Flagged}
use Rattle.tty_modes.specs.declared.words.Word.{Word}
use Rattle.tty_modes.specs.Settings.{Settings, sane_modes}
use Rattle.tty_modes.specs.Word.{after_words}
use Rattle.line_store.specs.Unread.{Byte}
use Rattle.flow_control.specs.Output.{idle_output}
use Rattle.flow_control.specs.Counting.{no_counts}
use Rattle.n_tty.specs.States.{NTtyState, OnPort, fresh_tty, unread_count, has_piece}
use Rattle.n_tty.specs.Receiving.{after_character}
use Rattle.n_tty.specs.Reading.{bytes_read, after_read}
use Rattle.n_tty.specs.Flow.{after_ixoff_rule}

abbrev pub with_flag : Flag → ℕ → Flagged
with_flag flag byte = record { byte = byte; flag = flag }

-- the defaults, changed by words
abbrev pub modes_by : List Word → Settings
modes_by words = after_words sane_modes words

-- a fresh N_TTY on an idle port
abbrev pub fresh_port : OnPort
fresh_port = record {
  tty = fresh_tty;
  output = idle_output;
  tally = record { counts = no_counts; signals = record { items = []; spare = 0 } };
}

-- after characters came, one after the other, all at tick 0
abbrev pub after_characters : Settings → List Flagged → OnPort → OnPort
after_characters modes [] port = port
after_characters modes (c ∷ characters) port = after_characters modes characters (after_character modes 0 c port)

-- after characters came over an idle line
abbrev pub after_line_of : Settings → List Flagged → OnPort
after_line_of modes characters = after_characters modes characters fresh_port

-- what so many reads give, of at most 4096 bytes each
abbrev pub reads_of : Settings → (bounds : List ℕ) → NTtyState → List (List ℕ)
reads_of modes [] tty = []
reads_of modes (n ∷ bounds) tty = bytes_read modes n tty ∷ reads_of modes bounds (after_read modes n tty)

-- what a session shows: its reads, and the wire
pub record Results : Type 0 where
  pub reads : List (List ℕ)
  pub wire : List ℕ

abbrev pub results_of : Settings → List ℕ → OnPort → Results
results_of modes bounds port = record { reads = reads_of modes bounds port.tty; wire = port.output.wire }

-- what a line shows, of which so much is read
abbrev pub line_results : List Word → (bounds : List ℕ) → List Flagged → Results
line_results words bounds characters = results_of (modes_by words) bounds (after_line_of (modes_by words) characters)

-- a port whose output STOP has halted, with so much held
abbrev pub halted_port : (held : List ℕ) → OnPort
halted_port held = record fresh_port { output = record idle_output { held = held; stopped = true } }

-- a port with an edited line of so many equal bytes
abbrev pub edited_port : (count byte : ℕ) → OnPort
edited_port count byte = record fresh_port { tty = record fresh_tty { edit = replicate count byte } }

-- a port with so many equal plain bytes that are unread
abbrev pub unread_port : (count byte : ℕ) → OnPort
unread_port count byte = record fresh_port { tty = record fresh_tty { items = map Byte (replicate count byte) } }

-- the wire after the rule for ixoff was applied
abbrev pub wire_after_rule : Settings → NTtyState → (noted : Bool) → List ℕ
wire_after_rule modes tty noted =
    (after_ixoff_rule modes (unread_count tty) (has_piece tty) (record idle_output { noted = noted })).wire
