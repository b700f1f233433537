-- One turn of a driver that takes what the receiver has: line status, and where it says that a character
-- is ready the receiver buffer.
use Rattle.std.specs.Prelude.{ℕ, if◌then◌else◌, Option, Some, None}
use Rattle.tty_base.specs.declared.characters.Flag.{Flag}
use Rattle.tty_base.specs.declared.characters.Flag.TheVariants as flag
use Rattle.uart_regs.specs.declared.Reading.{Reading}
use Rattle.uart_regs.specs.declared.Reg.TheVariants.{R0, R5}
use Rattle.uart_regs.specs.Registers.{Registers, is_set, read_value, after_read}

-- the first that fits of break, parity error and framing error
abbrev pub flag_of_status : ℕ → Flag
flag_of_status status =
    if is_set status 4 then flag.Break
    else if is_set status 2 then flag.Parity
    else if is_set status 3 then flag.Frame
    else flag.Normal

-- what the two reads say
abbrev pub reading_of_reads : (status byte : ℕ) → Option Reading
reading_of_reads status byte =
    if is_set status 0
    then Some (record { character = record { byte = byte; flag = flag_of_status status }; overrun = is_set status 1 })
    else None

abbrev pub front_reading : Registers → Option Reading
front_reading r = reading_of_reads (read_value r R5) (read_value (after_read r R5) R0)

-- what they leave
abbrev pub after_front_reading : Registers → Registers
after_front_reading r = if is_set (read_value r R5) 0 then after_read (after_read r R5) R0 else after_read r R5
