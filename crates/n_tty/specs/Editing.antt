-- Erasing in the edited line, with its echo (termios(3), ERASE, WERASE and KILL).
use Rattle.std.specs.Prelude.{ℕ, Option, None, Some, List, [], ◌∷◌, ◌++◌, take, drop}
use Rattle.tty_modes.specs.Settings.{Settings, has_flag}
use Rattle.tty_modes.specs.declared.places.TheConstants.{IUTF8}
use Rattle.n_tty_edit.specs.declared.line.Gone.{Gone}
use Rattle.n_tty_edit.specs.Line.{EraseLast, EraseWord, Clear, after_change, word_start}
use Rattle.n_tty_edit.specs.Width.{width_of, gone_of}
use Rattle.echo_out.specs.Echo.{echo_of}
use Rattle.echo_out.specs.declared.EchoEvent.TheVariants as event
use Rattle.echo_out.specs.declared.EraseKind.{EraseKind}
use Rattle.echo_out.specs.declared.EraseKind.TheVariants.{Erase, Word, Kill}
use Rattle.n_tty.specs.declared.erasing.Erasing.{Erasing}
use Rattle.n_tty.specs.States.{NTtyState, OnPort}
use Rattle.n_tty.specs.Posting.{after_echo}

-- the echo of bytes that go from a line's end, from the last back to the first
abbrev pub echo_of_gone : Settings → EraseKind → (start : ℕ) → (kept gone : List ℕ) → List ℕ
echo_of_gone modes kind start kept [] = []
echo_of_gone modes kind start kept (byte ∷ gone) =
    echo_of_gone modes kind start (kept ++ byte ∷ []) gone
    ++ echo_of modes (event.Erased kind byte (width_of modes start kept byte))

-- the echo of what is erased of a line
abbrev pub echo_of_erasing : Settings → Erasing → List ℕ → List ℕ
echo_of_erasing modes e line = echo_of_gone modes e.kind e.start (take e.from line) (drop e.from line)

-- the echo of a WERASE
abbrev pub echo_of_word_erase : Settings → NTtyState → List ℕ
echo_of_word_erase modes tty =
    echo_of_gone modes Word tty.start (take (word_start tty.edit) tty.edit) (drop (word_start tty.edit) tty.edit)

-- the echo of a KILL: none on an empty line
abbrev pub echo_of_kill : Settings → (start : ℕ) → List ℕ → List ℕ
echo_of_kill modes start [] = []
echo_of_kill modes start (byte ∷ line) = echo_of_gone modes Kill start [] (byte ∷ line) ++ echo_of modes event.Killed

-- the echo of an ERASE: none where nothing goes
abbrev pub echo_of_erase : Settings → Option Gone → List ℕ
echo_of_erase modes None = []
echo_of_erase modes (Some gone) = echo_of modes (event.Erased Erase gone.first gone.width)

abbrev pub with_line : List ℕ → OnPort → OnPort
with_line line port = record port { tty = record port.tty { edit = line } }

-- ERASE removes the last byte, or with iutf8 the last character
abbrev pub after_erase : Settings → OnPort → OnPort
after_erase modes port =
    after_echo modes (echo_of_erase modes (gone_of modes port.tty.start port.tty.edit))
    (with_line (after_change port.tty.edit (EraseLast (has_flag modes IUTF8))) port)

-- WERASE removes the last word and what follows it
abbrev pub after_word_erase : Settings → OnPort → OnPort
after_word_erase modes port =
    after_echo modes (echo_of_word_erase modes port.tty) (with_line (after_change port.tty.edit EraseWord) port)

-- KILL removes the line
abbrev pub after_kill : Settings → OnPort → OnPort
after_kill modes port = after_echo modes (echo_of_kill modes port.tty.start port.tty.edit)
    (with_line (after_change port.tty.edit Clear) port)
