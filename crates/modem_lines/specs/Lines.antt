-- The modem lines of a port: what each call and each change of a line makes of them.
use Rattle.std.specs.Prelude.{ℕ, ◌+◌, ◌==◌, Bool, true, false, not, ◌&&◌, ◌||◌, bit_and, if◌then◌else◌}
use Rattle.modem_lines.specs.declared.pins.Pin.{Pin}
use Rattle.modem_lines.specs.declared.pins.Pin.TheVariants.{Dcd, Dsr, Cts, Ri}
use Rattle.modem_lines.specs.declared.modems.TheConstants.{TIOCM_DTR, TIOCM_RTS, TIOCM_CTS, TIOCM_CAR}
use Rattle.modem_lines.specs.declared.modems.TheConstants.{TIOCM_RNG, TIOCM_DSR, MSR_DCTS, MSR_DDSR, MSR_TERI}
use Rattle.modem_lines.specs.declared.modems.TheConstants.{MSR_DDCD, MSR_CTS, MSR_DSR, MSR_RI, MSR_DCD}

-- the four lines from the modem; which of them changed since this was last asked, of RI only that it fell; the two
-- lines to the modem; and two modes, CLOCAL and HUPCL of termios(3)
pub record Lines : Type 0 where
  pub dcd : Bool
  pub dsr : Bool
  pub cts : Bool
  pub ri : Bool
  pub dcd_changed : Bool
  pub dsr_changed : Bool
  pub cts_changed : Bool
  pub ri_fell : Bool
  pub dtr : Bool
  pub rts : Bool
  pub clocal : Bool
  pub hupcl : Bool

-- at first: each line is down, and a last close will hang up
abbrev pub first_lines : Lines
first_lines = record {
  dcd = false;
  dsr = false;
  cts = false;
  ri = false;
  dcd_changed = false;
  dsr_changed = false;
  cts_changed = false;
  ri_fell = false;
  dtr = false;
  rts = false;
  clocal = false;
  hupcl = true;
}

-- one level, and another
abbrev pub differs : Bool → Bool → Bool
differs true after = not after
differs false after = after

-- the lines after the modem gave one of them this level
abbrev pub with_pin : Lines → Pin → (up : Bool) → Lines
with_pin lines Dcd up = record lines { dcd = up; dcd_changed = lines.dcd_changed || differs lines.dcd up }
with_pin lines Dsr up = record lines { dsr = up; dsr_changed = lines.dsr_changed || differs lines.dsr up }
with_pin lines Cts up = record lines { cts = up; cts_changed = lines.cts_changed || differs lines.cts up }
with_pin lines Ri up = record lines { ri = up; ri_fell = lines.ri_fell || (lines.ri && not up) }

-- the carrier goes away, and this is heeded
abbrev pub loses_carrier : Lines → Pin → (up : Bool) → Bool
loses_carrier lines Dcd up = lines.dcd && not up && not lines.clocal
loses_carrier lines _ up = false

-- an open need not wait for the carrier
abbrev pub may_open : Lines → (nonblock : Bool) → Bool
may_open lines nonblock = nonblock || lines.clocal || lines.dcd

-- after the first open
abbrev pub after_open : Lines → Lines
after_open lines = record lines { dtr = true; rts = true }

-- after the last close, or a hangup
abbrev pub after_shut : Lines → Lines
after_shut lines = record lines { dtr = lines.dtr && not lines.hupcl; rts = lines.rts && not lines.hupcl }

-- a number has one of the bits of a mask
abbrev pub has_bit : (bits mask : ℕ) → Bool
has_bit bits mask = not (bit_and bits mask == 0)

-- TIOCMSET: the lines to the modem become those of a number
abbrev pub assigned : Lines → (bits : ℕ) → Lines
assigned lines bits = record lines { dtr = has_bit bits TIOCM_DTR; rts = has_bit bits TIOCM_RTS }

-- TIOCMBIS: they gain those of a number
abbrev pub raised : Lines → (bits : ℕ) → Lines
raised lines bits =
    record lines { dtr = lines.dtr || has_bit bits TIOCM_DTR; rts = lines.rts || has_bit bits TIOCM_RTS }

-- TIOCMBIC: they lose those of a number
abbrev pub lowered : Lines → (bits : ℕ) → Lines
lowered lines bits =
    record lines { dtr = lines.dtr && not (has_bit bits TIOCM_DTR); rts = lines.rts && not (has_bit bits TIOCM_RTS) }

-- a bit, where it is set
abbrev pub bit_where : Bool → (bit : ℕ) → ℕ
bit_where on bit = if on then bit else 0

-- TIOCMGET: the number that has the bits of the lines that are up
abbrev pub modem_bits : Lines → ℕ
modem_bits lines =
    bit_where lines.dtr TIOCM_DTR + bit_where lines.rts TIOCM_RTS + bit_where lines.cts TIOCM_CTS
    + bit_where lines.dcd TIOCM_CAR + bit_where lines.ri TIOCM_RNG + bit_where lines.dsr TIOCM_DSR

-- the modem status register of the 16550: what changed in the lower half, the lines in the upper half
abbrev pub status_register : Lines → ℕ
status_register lines =
    bit_where lines.cts_changed MSR_DCTS + bit_where lines.dsr_changed MSR_DDSR
    + bit_where lines.ri_fell MSR_TERI + bit_where lines.dcd_changed MSR_DDCD
    + bit_where lines.cts MSR_CTS + bit_where lines.dsr MSR_DSR + bit_where lines.ri MSR_RI
    + bit_where lines.dcd MSR_DCD

-- after that register was read
abbrev pub after_status : Lines → Lines
after_status lines = record lines { dcd_changed = false; dsr_changed = false; cts_changed = false; ri_fell = false }
