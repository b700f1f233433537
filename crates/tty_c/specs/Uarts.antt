-- What the calls of a 16550 answer a program in C, and what they leave.
use Rattle.std.specs.Prelude.{◌≡◌, ℕ, ℤ, pos, ◌==◌, Option, None, Some, if◌then◌else◌}
use Rattle.tty_base.specs.declared.characters.Flag.{Flag}
use Rattle.tty_base.specs.declared.characters.Flag.TheVariants as flag
use Rattle.uart_regs.specs.declared.Reg.{Reg}
use Rattle.uart_regs.specs.declared.Reg.TheVariants.{R0, R1, R2, R3, R4, R5, R6, R7}
use Rattle.uart_regs.specs.Registers.{Registers, after_arrival, read_value, after_read, after_write}
use Rattle.tty_c.specs.declared.uarts.Receiver.{Receiver}
use Rattle.tty_c.specs.Answers.{no_flag}
use Rattle.tty_c.specs.Calls.{OnHandle, Does}

-- the 16550 that a handle owns
abbrev pub uart_in : Receiver → Option Registers
uart_in uart = uart.slot.uart

-- the register of an offset
abbrev pub reg_of : ℕ → Option Reg
reg_of n =
    if n == 0 then Some R0
    else if n == 1 then Some R1
    else if n == 2 then Some R2
    else if n == 3 then Some R3
    else if n == 4 then Some R4
    else if n == 5 then Some R5
    else if n == 6 then Some R6
    else if n == 7 then Some R7
    else None

-- the flag of a number, with which a character can arrive
abbrev pub error_flag_of : ℕ → Option Flag
error_flag_of n =
    if n == 0 then Some flag.Normal
    else if n == 1 then Some flag.Break
    else if n == 2 then Some flag.Parity
    else if n == 3 then Some flag.Frame
    else None

-- an argument that is none is refused, and nothing is done
abbrev pub ArrivesWhere : (byte : ℕ) → Option Flag → (old new : Option Registers) → (result : ℤ) → Type 0
ArrivesWhere byte None old new result = (result ≡ no_flag) × (new ≡ old)
ArrivesWhere byte (Some flag) old new result =
    OnHandle (Does (λ _. pos 0) (λ _ r. after_arrival r (record { byte = byte; flag = flag }))) old new result

abbrev pub ReadsWhere : Option Reg → (old new : Option Registers) → (result : ℤ) → Type 0
ReadsWhere None old new result = (result ≡ no_flag) × (new ≡ old)
ReadsWhere (Some reg) old new result =
    OnHandle (Does (λ r. pos (read_value r reg)) (λ _ r. after_read r reg)) old new result

abbrev pub WritesWhere : (value : ℕ) → Option Reg → (old new : Option Registers) → (result : ℤ) → Type 0
WritesWhere value None old new result = (result ≡ no_flag) × (new ≡ old)
WritesWhere value (Some reg) old new result =
    OnHandle (Does (λ _. pos 0) (λ _ r. after_write r reg value)) old new result
