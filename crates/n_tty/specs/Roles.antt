-- What a character is for, by the modes (termios(3), special characters).
use Rattle.std.specs.Prelude.{◌≡◌, ◌≢◌, ◌≤◌, ℕ, Bool, false, not, ◌&&◌, ◌==◌, Option, None, Some, if◌then◌else◌}
use Rattle.tty_base.specs.declared.counters.Signal.{Signal}
use Rattle.tty_base.specs.declared.counters.Signal.TheVariants.{Int, Quit, Susp}
use Rattle.tty_modes.specs.Settings.{Settings, has_flag, character}
use Rattle.tty_modes.specs.declared.places.TheConstants.{ISTRIP, IXON, IXANY, ISIG, ICANON, ECHO, PARMRK, IEXTEN}
use Rattle.tty_modes.specs.declared.places.TheConstants.{INLCR, IGNCR, ICRNL, VINTR, VQUIT, VSUSP, VERASE, VKILL}
use Rattle.tty_modes.specs.declared.places.TheConstants.{VWERASE, VLNEXT, VEOF, VEOL, VEOL2}
use Rattle.n_tty.specs.declared.roles.Role.{Role}
use Rattle.n_tty.specs.declared.roles.Role.TheVariants.{Erase, Kill, WordErase, Quote}
use Rattle.n_tty.specs.declared.roles.Role.TheVariants.{Newline, Eof, Delimiter, Ordinary}

-- whether a byte is the control character at a place; a character of 0 is disabled
abbrev pub is_character : Settings → (place byte : ℕ) → Bool
is_character modes place byte = not (byte == 0) && byte == character modes place

-- whether a byte is the control character at a place, and iexten is set
abbrev pub is_extended : Settings → (place byte : ℕ) → Bool
is_extended modes place byte = has_flag modes IEXTEN && is_character modes place byte

-- the signal that a byte raises
abbrev pub signal_of : Settings → ℕ → Option Signal
signal_of modes byte =
    if not (has_flag modes ISIG) then None
    else if is_character modes VINTR byte then Some Int
    else if is_character modes VQUIT byte then Some Quit
    else if is_character modes VSUSP byte then Some Susp
    else None

-- what becomes of CR (13) and NL (10); a dropped CR becomes nothing
abbrev pub mapped_byte : Settings → ℕ → Option ℕ
mapped_byte modes byte =
    if byte == 13 then (if has_flag modes IGNCR then None else if has_flag modes ICRNL then Some 10 else Some 13)
    else if byte == 10 && has_flag modes INLCR then Some 13
    else Some byte

-- what a byte is for in canonical mode; the first that fits
abbrev pub role_of : Settings → ℕ → Role
role_of modes byte =
    if is_character modes VERASE byte then Erase
    else if is_character modes VKILL byte then Kill
    else if is_extended modes VWERASE byte then WordErase
    else if is_extended modes VLNEXT byte then Quote
    else if byte == 10 then Newline
    else if is_character modes VEOF byte then Eof
    else if is_character modes VEOL byte then Delimiter
    else if is_extended modes VEOL2 byte then Delimiter
    else Ordinary

-- whether no rule concerns a good byte: none is stripped, steers output, raises a signal, is mapped, edits, is
-- doubled or echoed
abbrev pub is_raw : Settings → Bool
is_raw modes =
    not (has_flag modes ISTRIP) && not (has_flag modes IXON) && not (has_flag modes ISIG) && not (has_flag modes INLCR)
    && not (has_flag modes IGNCR)
    && not (has_flag modes ICRNL)
    && not (has_flag modes ICANON)
    && not (has_flag modes PARMRK)
    && not (has_flag modes ECHO)

-- a byte from blank to tilde that no rule but those of storing and echo concerns
pub record IsPlain (modes : Settings) (byte : ℕ) : Type 0 where
  pub low : 32 ≤ byte
  pub high : byte ≤ 126
  pub apart : (place : ℕ) → byte ≢ character modes place
  pub steady : has_flag modes IXANY ≡ false
