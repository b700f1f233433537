-- The column that taking a character leaves is that of what it posts.
use Rattle.std.proofs.Common.{◌≡◌, ℕ, ◌+◌, Bool, true, false, not, ◌&&◌, nat_le, Option}
use Rattle.std.proofs.Common.{None, Some, List, [], ◌∷◌, length, if◌then◌else◌, refl}
use Rattle.tty_base.specs.Sizes.{MOST_LINE}
use Rattle.tty_base.specs.declared.characters.Flag.{Flag}
use Rattle.tty_base.specs.declared.characters.Flag.TheVariants as flag
use Rattle.tty_base.specs.declared.counters.Signal.{Signal}
use Rattle.tty_base.specs.declared.counters.Signal.TheVariants.{Int}
use Rattle.tty_modes.specs.Settings.{Settings, has_flag}
use Rattle.tty_modes.specs.declared.places.TheConstants.{IGNBRK, BRKINT, IGNPAR, PARMRK, INPCK, IXON}
use Rattle.tty_modes.specs.declared.places.TheConstants.{IXANY, ICANON, NOFLSH, VSTART, VSTOP, IUTF8}
use Rattle.n_tty_edit.specs.Line.{EraseLast, EraseWord, Clear, after_change}
use Rattle.n_tty_edit.specs.Width.{gone_of}
use Rattle.echo_out.specs.Echo.{echo_of}
use Rattle.echo_out.specs.declared.EchoEvent.{EchoEvent}
use Rattle.echo_out.specs.declared.EchoEvent.TheVariants as event
use Rattle.flow_control.specs.Output.{Output, idle_output, after_start}
use Rattle.flow_control.specs.Counting.{with_count}
use Rattle.flow_control.specs.declared.tally.Counter.{Counter}
use Rattle.flow_control.specs.declared.tally.Counter.TheVariants as counter
use Rattle.flow_control.specs.declared.tally.Tally.{Tally}
use Rattle.n_tty.specs.declared.roles.Role.{Role}
use Rattle.n_tty.specs.declared.roles.Role.TheVariants as role
use Rattle.n_tty.specs.States.{NTtyState, OnPort, on_port}
use Rattle.n_tty.specs.Posting.{after_echo}
use Rattle.n_tty.specs.Storing.{with_line_bytes, with_plain_bytes, after_store, with_piece, without_input}
use Rattle.n_tty.specs.Editing.{echo_of_erase, echo_of_word_erase, echo_of_kill}
use Rattle.n_tty.specs.Roles.{is_character, signal_of, mapped_byte, role_of}
use Rattle.n_tty.specs.Flow.{with_signal}
use Rattle.n_tty.specs.Receiving.{ordinary_bytes, after_ordinary, after_delimiter, after_role, after_mapped}
use Rattle.n_tty.specs.Receiving.{after_signal_character, after_unsteered, after_unquoted, stripped_byte, after_good}
use Rattle.n_tty.specs.Receiving.{after_break, after_bad, after_flagged, after_resume_where}
use Rattle.ldisc_switch.proofs.EchoLemmas.{Tells, either, silent, echo_tells}

-- a function of ports, run on the port as it is, on one that has counted no echo, and on an idle one
abbrev Three : Settings → (OnPort → OnPort) → NTtyState → Output → (tally under on_idle : Tally) → Type 0
Three modes f tty output tally under on_idle =
    Tells modes tty.column (f (on_port tty output tally)) (f (on_port tty output under))
    (f (on_port tty idle_output on_idle))

abbrev cut_one : Tally → Tally
cut_one tally = record tally { counts = with_count tally.counts counter.Cut 1 }

abbrev unheld : Output → Output
unheld output = record output { held = [] }

-- the bytes of a character are stored, whether canonical mode is set and whether they fit, and then an echo is posted
stored_cases : (v w : Bool) (modes : Settings) (now : ℕ) (bytes echo : List ℕ) (tty : NTtyState) (output : Output)
    (tally under on_idle : Tally)
    → under.counts.echo ≡ 0
    → Tells modes tty.column
    (after_echo modes echo
    (if v
    then (if w then on_port (with_line_bytes now bytes tty) output tally else on_port tty output (cut_one tally))
    else on_port (with_plain_bytes now bytes tty) output tally))
    (after_echo modes echo
    (if v
    then (if w then on_port (with_line_bytes now bytes tty) output under else on_port tty output (cut_one under))
    else on_port (with_plain_bytes now bytes tty) output under))
    (after_echo modes echo
    (if v
    then (if w
    then on_port (with_line_bytes now bytes tty) idle_output on_idle
    else on_port tty idle_output (cut_one on_idle))
    else on_port (with_plain_bytes now bytes tty) idle_output on_idle))
stored_cases true true modes now bytes echo tty output tally under on_idle zero =
    echo_tells modes echo (with_line_bytes now bytes tty) output tally under on_idle zero
stored_cases true false modes now bytes echo tty output tally under on_idle zero =
    echo_tells modes echo tty output (cut_one tally) (cut_one under) (cut_one on_idle) zero
stored_cases false w modes now bytes echo tty output tally under on_idle zero =
    echo_tells modes echo (with_plain_bytes now bytes tty) output tally under on_idle zero

-- the same, with nothing posted
silent_cases : (v w : Bool) (modes : Settings) (now : ℕ) (bytes : List ℕ) (tty : NTtyState) (output : Output)
    (tally under on_idle : Tally)
    → Tells modes tty.column
    (if v
    then (if w then on_port (with_line_bytes now bytes tty) output tally else on_port tty output (cut_one tally))
    else on_port (with_plain_bytes now bytes tty) output tally)
    (if v
    then (if w then on_port (with_line_bytes now bytes tty) output under else on_port tty output (cut_one under))
    else on_port (with_plain_bytes now bytes tty) output under)
    (if v
    then (if w
    then on_port (with_line_bytes now bytes tty) idle_output on_idle
    else on_port tty idle_output (cut_one on_idle))
    else on_port (with_plain_bytes now bytes tty) idle_output on_idle)
silent_cases true true modes now bytes tty output tally under on_idle = silent modes tty.column _ _ _ refl refl
silent_cases true false modes now bytes tty output tally under on_idle = silent modes tty.column _ _ _ refl refl
silent_cases false w modes now bytes tty output tally under on_idle = silent modes tty.column _ _ _ refl refl

stored_tells : (modes : Settings) (now : ℕ) (bytes : List ℕ) (tty : NTtyState) (output : Output)
    (tally under on_idle : Tally)
    → Three modes (λ (port : OnPort). after_store modes now bytes port) tty output tally under on_idle
stored_tells modes now bytes tty output tally under on_idle =
    silent_cases (has_flag modes ICANON) (nat_le (length tty.edit + length bytes) MOST_LINE)
    modes now bytes tty output tally under on_idle

ordinary_tells : (modes : Settings) (now byte : ℕ) (tty : NTtyState) (output : Output) (tally under on_idle : Tally)
    → under.counts.echo ≡ 0
    → Three modes (λ (port : OnPort). after_ordinary modes now byte port) tty output tally under on_idle
ordinary_tells modes now byte tty output tally under on_idle zero =
    let bytes : List ℕ = ordinary_bytes modes byte in
    stored_cases (has_flag modes ICANON) (nat_le (length tty.edit + length bytes) MOST_LINE) modes now bytes
    (echo_of modes (event.Plain byte)) tty output tally under on_idle zero

delimiter_tells : (modes : Settings) (now byte : ℕ) (echo : EchoEvent) (tty : NTtyState) (output : Output)
    (tally under on_idle : Tally)
    → under.counts.echo ≡ 0
    → Three modes (λ (port : OnPort). after_delimiter modes now byte echo port) tty output tally under on_idle
delimiter_tells modes now byte echo tty output tally under on_idle zero =
    echo_tells modes (echo_of modes echo) (with_piece now byte tty) output tally under on_idle zero

-- a byte in canonical mode
role_tells : (modes : Settings) (now : ℕ) (for : Role) (byte : ℕ) (tty : NTtyState) (output : Output)
    (tally under on_idle : Tally)
    → under.counts.echo ≡ 0
    → Three modes (λ (port : OnPort). after_role modes now for byte port) tty output tally under on_idle
role_tells modes now role.Erase byte tty output tally under on_idle zero =
    echo_tells modes (echo_of_erase modes (gone_of modes tty.start tty.edit))
    (record tty { edit = after_change tty.edit (EraseLast (has_flag modes IUTF8)) }) output tally under on_idle zero
role_tells modes now role.Kill byte tty output tally under on_idle zero =
    echo_tells modes (echo_of_kill modes tty.start tty.edit) (record tty { edit = after_change tty.edit Clear })
    output tally under on_idle zero
role_tells modes now role.WordErase byte tty output tally under on_idle zero =
    echo_tells modes (echo_of_word_erase modes tty) (record tty { edit = after_change tty.edit EraseWord })
    output tally under on_idle zero
role_tells modes now role.Quote byte tty output tally under on_idle zero =
    echo_tells modes (echo_of modes event.Quoted) (record tty { quoted = true }) output tally under on_idle zero
role_tells modes now role.Newline byte tty output tally under on_idle zero =
    delimiter_tells modes now byte event.Newline tty output tally under on_idle zero
role_tells modes now role.Eof byte tty output tally under on_idle zero = silent modes tty.column _ _ _ refl refl
role_tells modes now role.Delimiter byte tty output tally under on_idle zero =
    delimiter_tells modes now byte (event.Plain byte) tty output tally under on_idle zero
role_tells modes now role.Ordinary byte tty output tally under on_idle zero =
    ordinary_tells modes now byte tty output tally under on_idle zero

mapped_tells : (modes : Settings) (now : ℕ) (byte : Option ℕ) (tty : NTtyState) (output : Output)
    (tally under on_idle : Tally)
    → under.counts.echo ≡ 0
    → Three modes (λ (port : OnPort). after_mapped modes now byte port) tty output tally under on_idle
mapped_tells modes now None tty output tally under on_idle zero = silent modes tty.column _ _ _ refl refl
mapped_tells modes now (Some byte) tty output tally under on_idle zero =
    either (has_flag modes ICANON) (role_tells modes now (role_of modes byte) byte tty output tally under on_idle zero)
    (ordinary_tells modes now byte tty output tally under on_idle zero)

-- a signal is raised, whether output is then resumed and whether noflsh is set, and then an echo is posted
signal_cases : (v w : Bool) (modes : Settings) (signal : Signal) (echo : List ℕ) (tty : NTtyState) (output : Output)
    (tally under on_idle : Tally)
    → under.counts.echo ≡ 0
    → Tells modes tty.column
    (after_echo modes echo
    (after_resume_where v (if w
    then on_port tty output (with_signal signal tally)
    else on_port (without_input tty) (record output { held = [] }) (with_signal signal tally))))
    (after_echo modes echo
    (after_resume_where v (if w
    then on_port tty output (with_signal signal under)
    else on_port (without_input tty) (record output { held = [] }) (with_signal signal under))))
    (after_echo modes echo
    (after_resume_where v (if w
    then on_port tty idle_output (with_signal signal on_idle)
    else on_port (without_input tty) (record idle_output { held = [] }) (with_signal signal on_idle))))
signal_cases true true modes signal echo tty output tally under on_idle zero =
    echo_tells modes echo tty (after_start output) (with_signal signal tally) (with_signal signal under)
    (with_signal signal on_idle) zero
signal_cases true false modes signal echo tty output tally under on_idle zero =
    echo_tells modes echo (without_input tty) (after_start (unheld output)) (with_signal signal tally)
    (with_signal signal under) (with_signal signal on_idle) zero
signal_cases false true modes signal echo tty output tally under on_idle zero =
    echo_tells modes echo tty output (with_signal signal tally) (with_signal signal under) (with_signal signal on_idle)
    zero
signal_cases false false modes signal echo tty output tally under on_idle zero =
    echo_tells modes echo (without_input tty) (unheld output) (with_signal signal tally) (with_signal signal under)
    (with_signal signal on_idle) zero

signal_tells : (modes : Settings) (signal : Signal) (byte : ℕ) (tty : NTtyState) (output : Output)
    (tally under on_idle : Tally)
    → under.counts.echo ≡ 0
    → Three modes (λ (port : OnPort). after_signal_character modes signal byte port) tty output tally under on_idle
signal_tells modes signal byte tty output tally under on_idle zero =
    signal_cases (has_flag modes IXON) (has_flag modes NOFLSH) modes signal (echo_of modes (event.Plain byte))
    tty output tally under on_idle zero

-- a signal without an echo
raised_cases : (w : Bool) (modes : Settings) (signal : Signal) (tty : NTtyState) (output : Output)
    (tally under on_idle : Tally)
    → Tells modes tty.column
    (if w
    then on_port tty output (with_signal signal tally)
    else on_port (without_input tty) (record output { held = [] }) (with_signal signal tally))
    (if w
    then on_port tty output (with_signal signal under)
    else on_port (without_input tty) (record output { held = [] }) (with_signal signal under))
    (if w
    then on_port tty idle_output (with_signal signal on_idle)
    else on_port (without_input tty) (record idle_output { held = [] }) (with_signal signal on_idle))
raised_cases true modes signal tty output tally under on_idle = silent modes tty.column _ _ _ refl refl
raised_cases false modes signal tty output tally under on_idle = silent modes tty.column _ _ _ refl refl

unsteered_tells : (modes : Settings) (now byte : ℕ) (signal : Option Signal) (tty : NTtyState) (output : Output)
    (tally under on_idle : Tally)
    → under.counts.echo ≡ 0
    → Three modes (λ (port : OnPort). after_unsteered modes now byte signal port) tty output tally under on_idle
unsteered_tells modes now byte (Some signal) tty output tally under on_idle zero =
    signal_tells modes signal byte tty output tally under on_idle zero
unsteered_tells modes now byte None tty output tally under on_idle zero =
    mapped_tells modes now (mapped_byte modes byte) tty output tally under on_idle zero

resumed_tells : (v : Bool) (modes : Settings) (now byte : ℕ) (signal : Option Signal) (tty : NTtyState)
    (output : Output) (tally under on_idle : Tally)
    → under.counts.echo ≡ 0
    → Three modes (λ (port : OnPort). after_unsteered modes now byte signal (after_resume_where v port))
    tty output tally under on_idle
resumed_tells true modes now byte signal tty output tally under on_idle zero =
    unsteered_tells modes now byte signal tty (after_start output) tally under on_idle zero
resumed_tells false modes now byte signal tty output tally under on_idle zero =
    unsteered_tells modes now byte signal tty output tally under on_idle zero

unquoted_tells : (modes : Settings) (now byte : ℕ) (tty : NTtyState) (output : Output) (tally under on_idle : Tally)
    → under.counts.echo ≡ 0
    → Three modes (λ (port : OnPort). after_unquoted modes now byte port) tty output tally under on_idle
unquoted_tells modes now byte tty output tally under on_idle zero =
    either (has_flag modes IXON && is_character modes VSTART byte) (silent modes tty.column _ _ _ refl refl)
    (either (has_flag modes IXON && is_character modes VSTOP byte) (silent modes tty.column _ _ _ refl refl)
    (resumed_tells (has_flag modes IXON && has_flag modes IXANY) modes now byte (signal_of modes byte)
    tty output tally under on_idle zero))

good_tells : (modes : Settings) (now byte : ℕ) (tty : NTtyState) (output : Output) (tally under on_idle : Tally)
    → under.counts.echo ≡ 0
    → Three modes (λ (port : OnPort). after_good modes now byte port) tty output tally under on_idle
good_tells modes now byte tty output tally under on_idle zero =
    either tty.quoted (ordinary_tells modes now (stripped_byte modes byte) (record tty { quoted = false })
    output tally under on_idle zero)
    (unquoted_tells modes now (stripped_byte modes byte) tty output tally under on_idle zero)

break_tells : (modes : Settings) (now : ℕ) (tty : NTtyState) (output : Output) (tally under on_idle : Tally)
    → Three modes (λ (port : OnPort). after_break modes now port) tty output tally under on_idle
break_tells modes now tty output tally under on_idle =
    either (has_flag modes IGNBRK) (silent modes tty.column _ _ _ refl refl)
    (either (has_flag modes BRKINT) (raised_cases (has_flag modes NOFLSH) modes Int tty output tally under on_idle)
    (stored_tells modes now (if has_flag modes PARMRK then 255 ∷ 0 ∷ 0 ∷ [] else 0 ∷ [])
    tty output tally under on_idle))

bad_tells : (modes : Settings) (now byte : ℕ) (tty : NTtyState) (output : Output) (tally under on_idle : Tally)
    → under.counts.echo ≡ 0
    → Three modes (λ (port : OnPort). after_bad modes now byte port) tty output tally under on_idle
bad_tells modes now byte tty output tally under on_idle zero =
    either (not (has_flag modes INPCK)) (good_tells modes now byte tty output tally under on_idle zero)
    (either (has_flag modes IGNPAR) (silent modes tty.column _ _ _ refl refl)
    (stored_tells modes now (if has_flag modes PARMRK then 255 ∷ 0 ∷ byte ∷ [] else 0 ∷ [])
    tty output tally under on_idle))

abbrev counts_one : Counter → Tally → Tally
counts_one kind tally = record tally { counts = with_count tally.counts kind 1 }

pub taken_tells : (modes : Settings) (now : ℕ) (kind : Flag) (byte : ℕ) (tty : NTtyState) (output : Output)
    (tally under on_idle : Tally)
    → under.counts.echo ≡ 0
    → Three modes (λ (port : OnPort). after_flagged modes now kind byte port) tty output tally under on_idle
taken_tells modes now flag.Normal byte tty output tally under on_idle zero =
    good_tells modes now byte tty output tally under on_idle zero
taken_tells modes now flag.Break byte tty output tally under on_idle zero =
    break_tells modes now tty output (counts_one counter.Break tally) (counts_one counter.Break under)
    (counts_one counter.Break on_idle)
taken_tells modes now flag.Parity byte tty output tally under on_idle zero =
    bad_tells modes now byte tty output (counts_one counter.Parity tally) (counts_one counter.Parity under)
    (counts_one counter.Parity on_idle) zero
taken_tells modes now flag.Frame byte tty output tally under on_idle zero =
    bad_tells modes now byte tty output (counts_one counter.Frame tally) (counts_one counter.Frame under)
    (counts_one counter.Frame on_idle) zero
taken_tells modes now flag.Overrun byte tty output tally under on_idle zero = silent modes tty.column _ _ _ refl refl
