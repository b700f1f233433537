-- The echo of what is done to the edited line, before output processing.
use Rattle.std.specs.Prelude.{ℕ, zero, suc, ◌≤◌, ◌==◌, Bool, ◌&&◌, ◌||◌, not, List, []}
use Rattle.std.specs.Prelude.{◌∷◌, ◌++◌, replicate, if◌then◌else◌, nat_lt, bit_xor}
use Rattle.tty_modes.specs.Settings.{Settings, has_flag, character}
use Rattle.tty_modes.specs.declared.places.TheConstants.{ECHO, ECHOE, ECHOK, ECHOKE, ECHONL, ECHOCTL, VERASE, VKILL}
use Rattle.echo_out.specs.declared.EchoEvent.{EchoEvent}
use Rattle.echo_out.specs.declared.EchoEvent.TheVariants.{Plain, Erased, Killed, Quoted, Newline}
use Rattle.echo_out.specs.declared.EraseKind.{EraseKind}
use Rattle.echo_out.specs.declared.EraseKind.TheVariants.{Erase, Word, Kill}

-- A byte as it is shown: with echoctl a control character other than TAB (9) and NL (10) is `^` (94) and the byte with
-- bit 6 changed.
abbrev pub shown_bytes : Settings → ℕ → List ℕ
shown_bytes modes byte =
    if has_flag modes ECHOCTL && ((nat_lt byte 32 && not (byte == 9 || byte == 10)) || byte == 127)
    then 94 ∷ bit_xor byte 64 ∷ []
    else byte ∷ []

-- so many columns, each gone back over, written blank and gone back over again
abbrev pub blanking_bytes : ℕ → List ℕ
blanking_bytes zero = []
blanking_bytes (suc columns) = 8 ∷ 32 ∷ 8 ∷ blanking_bytes columns

-- a byte of some width taken off the screen: a TAB (9) leaves nothing to be written over
abbrev pub rubout_bytes : (byte width : ℕ) → List ℕ
rubout_bytes byte width = if byte == 9 then replicate width 8 else blanking_bytes width

-- KILL takes the line off the screen
abbrev pub kill_rubs_out : Settings → Bool
kill_rubs_out modes = has_flag modes ECHOE && has_flag modes ECHOK && has_flag modes ECHOKE

-- the echo of what an erasing character removes; where ERASE rubs nothing out, that character itself is shown
abbrev pub erase_echo : Settings → EraseKind → (byte width : ℕ) → List ℕ
erase_echo modes Erase byte width =
    if has_flag modes ECHOE then rubout_bytes byte width else shown_bytes modes (character modes VERASE)
erase_echo modes Word byte width = rubout_bytes byte width
erase_echo modes Kill byte width = if kill_rubs_out modes then rubout_bytes byte width else []

-- the echo of a KILL as a whole: none where its bytes are rubbed out one by one
abbrev pub kill_echo : Settings → List ℕ
kill_echo modes =
    if kill_rubs_out modes then [] else
    shown_bytes modes (character modes VKILL) ++ (if has_flag modes ECHOK then 10 ∷ [] else [])

abbrev pub echo_of : Settings → EchoEvent → List ℕ
echo_of modes (Plain byte) = if has_flag modes ECHO then shown_bytes modes byte else []
echo_of modes (Erased kind byte width) = if has_flag modes ECHO then erase_echo modes kind byte width else []
echo_of modes Killed = if has_flag modes ECHO then kill_echo modes else []
echo_of modes Quoted = if has_flag modes ECHO && has_flag modes ECHOCTL then 94 ∷ 8 ∷ [] else []
echo_of modes Newline = if has_flag modes ECHO || has_flag modes ECHONL then 10 ∷ [] else []

-- what is removed takes at most 8 columns
abbrev pub FitsEcho : EchoEvent → Type 0
FitsEcho (Erased kind byte width) = width ≤ 8
FitsEcho (Plain byte) = Unit {0}
FitsEcho Killed = Unit {0}
FitsEcho Quoted = Unit {0}
FitsEcho Newline = Unit {0}
