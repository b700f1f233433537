-- A piece of a write.
use Rattle.std.specs.Prelude.{ℕ, suc, List, [], ◌∷◌, take, if◌then◌else◌}
use Rattle.tty_base.specs.Sizes.{PIECE}
use Rattle.tty_modes.specs.Settings.{Settings}
use Rattle.opost_out.specs.Posted.{posted_bytes}
use Rattle.flow_control.specs.Output.{Output, has_room, after_send}
use Rattle.n_tty.specs.States.{NTtyState}
use Rattle.n_tty.specs.Posting.{column_past_text, all_posted_bytes}

-- how many bytes are taken, up to the first whose posted bytes do not fit
abbrev pub fitting_count : Settings → (column : ℕ) → Output → List ℕ → ℕ
fitting_count modes column output [] = 0
fitting_count modes column output (byte ∷ bytes) =
    let text = posted_bytes modes column byte in
    if has_room output text
    then suc (fitting_count modes (column_past_text modes column text) (after_send output text) bytes)
    else 0

-- how many bytes one piece of a write takes
abbrev pub piece_size : Settings → NTtyState → Output → List ℕ → ℕ
piece_size modes tty output bytes = fitting_count modes tty.column output (take PIECE bytes)

-- what is posted of it
abbrev pub piece_text : Settings → NTtyState → Output → List ℕ → List ℕ
piece_text modes tty output bytes = all_posted_bytes modes tty.column (take (piece_size modes tty output bytes) bytes)

-- the column after it
abbrev pub after_write : Settings → Output → List ℕ → NTtyState → NTtyState
after_write modes output bytes tty =
    record tty { column = column_past_text modes tty.column (piece_text modes tty output bytes) }
