-- Posting bytes: output processing at the column, and echo that is posted whole or dropped whole.
use Rattle.std.specs.Prelude.{ℕ, List, [], ◌∷◌, ◌++◌, length, if◌then◌else◌}
use Rattle.tty_modes.specs.Settings.{Settings}
use Rattle.opost_out.specs.Column.{column_after, posted_text_under}
use Rattle.opost_out.specs.Posted.{posted_bytes}
use Rattle.flow_control.specs.Output.{Output, has_room, after_try}
use Rattle.flow_control.specs.Counting.{with_count}
use Rattle.flow_control.specs.declared.tally.Counter.TheVariants.{Echo}
use Rattle.flow_control.specs.declared.tally.Tally.{Tally}
use Rattle.n_tty.specs.States.{OnPort, on_port}

-- the column after bytes were posted
abbrev pub column_past_text : Settings → (column : ℕ) → (text : List ℕ) → ℕ
column_past_text modes column text = column_after column (posted_text_under modes text)

-- what is posted for bytes, each at the column that those before it left
abbrev pub all_posted_bytes : Settings → (column : ℕ) → List ℕ → List ℕ
all_posted_bytes modes column [] = []
all_posted_bytes modes column (byte ∷ bytes) =
    posted_bytes modes column byte
    ++ all_posted_bytes modes (column_past_text modes column (posted_bytes modes column byte)) bytes

-- the text that is posted for an echo
abbrev pub posted_echo : Settings → OnPort → List ℕ → List ℕ
posted_echo modes port echo = all_posted_bytes modes port.tty.column echo

-- the column after a text, where it fits
abbrev pub column_after_try : Settings → Output → (column : ℕ) → (text : List ℕ) → ℕ
column_after_try modes output column text = if has_room output text then column_past_text modes column text else column

-- the bytes of an echo that does not fit are counted
abbrev pub tally_after_try : Output → (text : List ℕ) → Tally → Tally
tally_after_try output text tally =
    if has_room output text then tally else record tally { counts = with_count tally.counts Echo (length text) }

-- The echo of one character is posted whole. Where its text does not fit in what can be held under a halt, it is
-- dropped whole, the column stays, and its bytes are counted.
abbrev pub after_echo : Settings → (echo : List ℕ) → OnPort → OnPort
after_echo modes echo port =
    let text = posted_echo modes port echo in
    on_port (record port.tty { column = column_after_try modes port.output port.tty.column text })
    (after_try port.output text)
    (tally_after_try port.output text port.tally)
