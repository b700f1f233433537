-- Receiving a character (termios(3), input modes).
use Rattle.std.specs.Prelude.{ℕ, ◌%◌, Bool, true, false, not, ◌&&◌, ◌==◌}
use Rattle.std.specs.Prelude.{Option, None, Some, List, [], ◌∷◌, if◌then◌else◌}
use Rattle.tty_base.specs.declared.characters.Flag.{Flag}
use Rattle.tty_base.specs.declared.characters.Flag.TheVariants as flag
use Rattle.tty_base.specs.declared.characters.Flagged.{Flagged}
use Rattle.tty_base.specs.declared.counters.Signal.{Signal}
use Rattle.tty_base.specs.declared.counters.Signal.TheVariants.{Int}
use Rattle.tty_modes.specs.Settings.{Settings, has_flag}
use Rattle.tty_modes.specs.declared.places.TheConstants.{IGNBRK, BRKINT, IGNPAR, PARMRK, INPCK}
use Rattle.tty_modes.specs.declared.places.TheConstants.{ISTRIP, IXON, IXANY, ICANON, VSTART, VSTOP}
use Rattle.echo_out.specs.Echo.{echo_of}
use Rattle.echo_out.specs.declared.EchoEvent.{EchoEvent}
use Rattle.echo_out.specs.declared.EchoEvent.TheVariants as event
use Rattle.flow_control.specs.Output.{after_start}
use Rattle.flow_control.specs.Counting.{with_count}
use Rattle.flow_control.specs.declared.tally.Counter.{Counter}
use Rattle.flow_control.specs.declared.tally.Counter.TheVariants as counter
use Rattle.n_tty.specs.declared.roles.Role.{Role}
use Rattle.n_tty.specs.declared.roles.Role.TheVariants as role
use Rattle.n_tty.specs.States.{OnPort, unread_count, has_piece}
use Rattle.n_tty.specs.Posting.{after_echo}
use Rattle.n_tty.specs.Storing.{after_store, with_piece, with_eof_piece}
use Rattle.n_tty.specs.Editing.{after_erase, after_word_erase, after_kill}
use Rattle.n_tty.specs.Roles.{is_character, signal_of, mapped_byte, role_of}
use Rattle.n_tty.specs.Flow.{after_signal, after_ixoff_rule}

abbrev pub with_one_more : Counter → OnPort → OnPort
with_one_more kind port = record port { tally = record port.tally { counts = with_count port.tally.counts kind 1 } }

abbrev pub with_quoted : Bool → OnPort → OnPort
with_quoted quoted port = record port { tty = record port.tty { quoted = quoted } }

-- output that STOP halted is resumed
abbrev pub after_resume : OnPort → OnPort
after_resume port = record port { output = after_start port.output }

abbrev pub after_resume_where : Bool → OnPort → OnPort
after_resume_where true port = after_resume port
after_resume_where false port = port

-- the echo of an event is posted
abbrev pub with_echo : Settings → EchoEvent → OnPort → OnPort
with_echo modes event port = after_echo modes (echo_of modes event) port

-- the bytes that an ordinary one is stored as: with parmrk, ff is doubled so that no mark begins with it
abbrev pub ordinary_bytes : Settings → ℕ → List ℕ
ordinary_bytes modes byte =
    if has_flag modes PARMRK && not (has_flag modes ISTRIP) && byte == 255 then 255 ∷ 255 ∷ [] else byte ∷ []

-- an ordinary byte is stored, and echoed also where it was cut
abbrev pub after_ordinary : Settings → (now byte : ℕ) → OnPort → OnPort
after_ordinary modes now byte port =
    with_echo modes (event.Plain byte) (after_store modes now (ordinary_bytes modes byte) port)

-- a delimiter ends the piece, and is echoed as an event of its own
abbrev pub after_delimiter : Settings → (now byte : ℕ) → EchoEvent → OnPort → OnPort
after_delimiter modes now byte event port =
    with_echo modes event (record port { tty = with_piece now byte port.tty })

-- a byte in canonical mode, by its role
abbrev pub after_role : Settings → (now : ℕ) → Role → (byte : ℕ) → OnPort → OnPort
after_role modes now role.Erase byte port = after_erase modes port
after_role modes now role.Kill byte port = after_kill modes port
after_role modes now role.WordErase byte port = after_word_erase modes port
after_role modes now role.Quote byte port = with_echo modes event.Quoted (with_quoted true port)
after_role modes now role.Newline byte port = after_delimiter modes now byte event.Newline port
after_role modes now role.Eof byte port = record port { tty = with_eof_piece port.tty }
after_role modes now role.Delimiter byte port = after_delimiter modes now byte (event.Plain byte) port
after_role modes now role.Ordinary byte port = after_ordinary modes now byte port

-- a byte after CR and NL were mapped: without canonical mode each is ordinary
abbrev pub after_mapped : Settings → (now : ℕ) → Option ℕ → OnPort → OnPort
after_mapped modes now None port = port
after_mapped modes now (Some byte) port =
    if has_flag modes ICANON
    then after_role modes now (role_of modes byte) byte port
    else after_ordinary modes now byte port

-- A character that raises a signal: the signal, what it drops, then output is resumed with ixon, then the echo.
abbrev pub after_signal_character : Settings → Signal → (byte : ℕ) → OnPort → OnPort
after_signal_character modes signal byte port =
    with_echo modes (event.Plain byte) (after_resume_where (has_flag modes IXON) (after_signal modes signal port))

-- a byte that neither is quoted nor steers output
abbrev pub after_unsteered : Settings → (now byte : ℕ) → Option Signal → OnPort → OnPort
after_unsteered modes now byte (Some signal) port = after_signal_character modes signal byte port
after_unsteered modes now byte None port = after_mapped modes now (mapped_byte modes byte) port

-- A byte that is not quoted. START and STOP steer output with ixon and are not stored; with ixany any other character
-- resumes it too, and goes on.
abbrev pub after_unquoted : Settings → (now byte : ℕ) → OnPort → OnPort
after_unquoted modes now byte port =
    if has_flag modes IXON && is_character modes VSTART byte then after_resume port
    else if has_flag modes IXON && is_character modes VSTOP byte then
    record port { output = record port.output { stopped = true } }
    else after_unsteered modes now byte (signal_of modes byte)
    (after_resume_where (has_flag modes IXON && has_flag modes IXANY) port)

-- istrip clears bit 7
abbrev pub stripped_byte : Settings → ℕ → ℕ
stripped_byte modes byte = if has_flag modes ISTRIP then byte % 128 else byte

-- a good character; a quoted one is ordinary, and ends the quoting
abbrev pub after_good : Settings → (now byte : ℕ) → OnPort → OnPort
after_good modes now byte port =
    if port.tty.quoted
    then after_ordinary modes now (stripped_byte modes byte) (with_quoted false port)
    else after_unquoted modes now (stripped_byte modes byte) port

-- a break; with brkint it raises INT without an echo, and resumes nothing
abbrev pub after_break : Settings → (now : ℕ) → OnPort → OnPort
after_break modes now port =
    if has_flag modes IGNBRK then port
    else if has_flag modes BRKINT then after_signal modes Int port
    else after_store modes now (if has_flag modes PARMRK then 255 ∷ 0 ∷ 0 ∷ [] else 0 ∷ []) port

-- a character with a parity or framing error; what is stored for it has no echo
abbrev pub after_bad : Settings → (now byte : ℕ) → OnPort → OnPort
after_bad modes now byte port =
    if not (has_flag modes INPCK) then after_good modes now byte port
    else if has_flag modes IGNPAR then port
    else after_store modes now (if has_flag modes PARMRK then 255 ∷ 0 ∷ byte ∷ [] else 0 ∷ []) port

-- a character by its flag
abbrev pub after_flagged : Settings → (now : ℕ) → Flag → (byte : ℕ) → OnPort → OnPort
after_flagged modes now flag.Normal byte port = after_good modes now byte port
after_flagged modes now flag.Break byte port = after_break modes now (with_one_more counter.Break port)
after_flagged modes now flag.Parity byte port = after_bad modes now byte (with_one_more counter.Parity port)
after_flagged modes now flag.Frame byte port = after_bad modes now byte (with_one_more counter.Frame port)
after_flagged modes now flag.Overrun byte port = with_one_more counter.Mark port

-- the rule for ixoff, on N_TTY with its port
abbrev pub with_ixoff_rule : Settings → OnPort → OnPort
with_ixoff_rule modes port =
    record port { output = after_ixoff_rule modes (unread_count port.tty) (has_piece port.tty) port.output }

-- receiving a character; the rule for ixoff follows
abbrev pub after_character : Settings → (now : ℕ) → Flagged → OnPort → OnPort
after_character modes now c port = with_ixoff_rule modes (after_flagged modes now c.flag c.byte port)
