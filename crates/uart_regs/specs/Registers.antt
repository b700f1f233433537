-- The receive side of the 16550, register by register, as its data sheet tells it.
use Rattle.std.specs.Prelude.{◌≢◌, ◌≤◌, ℕ, ◌+◌, ◌*◌, ◌%◌, min, Bool, true, false, not, ◌&&◌, ◌||◌}
use Rattle.std.specs.Prelude.{◌==◌, nat_le, nat_lt, if◌then◌else◌, List, [], ◌∷◌, ◌++◌, length}
use Rattle.std.specs.List.{All, list_any}
use Rattle.std.specs.Int.{bit_at}
use Rattle.tty_base.specs.declared.characters.Flag.{Flag}
use Rattle.tty_base.specs.declared.characters.Flag.TheVariants.{Normal, Break, Parity, Frame, Overrun}
use Rattle.tty_base.specs.declared.characters.Flagged.{Flagged}
use Rattle.uart_regs.specs.declared.Reg.{Reg}
use Rattle.uart_regs.specs.declared.Reg.TheVariants.{R0, R1, R2, R3, R4, R5, R6, R7}

-- what the receiver holds; `idle` counts the character times since the later of the last arrival and
-- the last read of the receiver buffer, up to the four that a timeout asks for
pub record Registers : Type 0 where
  pub fifo : List Flagged
  pub overrun : Bool
  pub idle : ℕ
  pub trigger : ℕ
  pub interrupts : ℕ
  pub line_control : ℕ
  pub modem_control : ℕ
  pub scratch : ℕ
  pub divisor_low : ℕ
  pub divisor_high : ℕ

-- what holds of every receiver: at most 16 characters, which are no marks; a trigger
pub record IsReceiver (r : Registers) : Type 0 where
  pub depth : length r.fifo ≤ 16
  pub no_mark : All (λ c. c.flag ≢ Overrun) r.fifo
  pub timeout : r.idle ≤ 4
  pub some_trigger : 1 ≤ r.trigger
  pub low_trigger : r.trigger ≤ 14

-- as the driver sets it up: trigger 8; received data and line status interrupts; eight data bits;
-- DTR, RTS and OUT2; 9600 baud
abbrev pub initial_registers : Registers
initial_registers = record {
  fifo = [];
  overrun = false;
  idle = 0;
  trigger = 8;
  interrupts = 0x05;
  line_control = 0x03;
  modem_control = 0x0b;
  scratch = 0;
  divisor_low = 0x0c;
  divisor_high = 0;
}

-- ---- the FIFO

abbrev pub DEPTH : ℕ
DEPTH = 16

abbrev pub is_break : Flag → Bool
is_break Break = true
is_break _ = false

abbrev pub is_parity_error : Flag → Bool
is_parity_error Parity = true
is_parity_error _ = false

abbrev pub is_framing_error : Flag → Bool
is_framing_error Frame = true
is_framing_error _ = false

-- a parity error, a framing error or a break
abbrev pub is_error : Flag → Bool
is_error f = is_parity_error f || is_framing_error f || is_break f

-- some character has an error
abbrev pub has_error : List Flagged → Bool
has_error fifo = list_any (λ c. is_error c.flag) fifo

-- the flag of the front character
abbrev pub front_flag : List Flagged → Flag
front_flag [] = Normal
front_flag (c ∷ _) = c.flag

-- the byte of the front character, or 0
abbrev pub front_byte : List Flagged → ℕ
front_byte [] = 0
front_byte (c ∷ _) = c.byte

-- without the front character
abbrev pub without_front : List Flagged → List Flagged
without_front [] = []
without_front (_ ∷ cs) = cs

-- with the errors of the front character cleared
abbrev pub with_front_cleared : List Flagged → List Flagged
with_front_cleared [] = []
with_front_cleared (c ∷ cs) = record c { flag = Normal } ∷ cs

-- a character arrives: a full FIFO keeps its 16 characters and sets the overrun error
abbrev pub after_arrival : Registers → Flagged → Registers
after_arrival r c =
    if nat_lt (length r.fifo) DEPTH then record r { fifo = r.fifo ++ c ∷ []; idle = 0 }
    else record r { overrun = true; idle = 0 }

-- character times pass
abbrev pub after_idle : Registers → ℕ → Registers
after_idle r times = record r { idle = min (r.idle + times) 4 }

-- ---- bits

abbrev pub bit : Bool → ℕ
bit b = if b then 1 else 0

-- bit `i` of a register
abbrev pub is_set : ℕ → ℕ → Bool
is_set n i = bit_at n i == 1

-- a byte by its bits, from bit 0
abbrev pub byte_of : Bool → Bool → Bool → Bool → Bool → Bool → Bool → Bool → ℕ
byte_of b0 b1 b2 b3 b4 b5 b6 b7 =
    bit b0 + 2 * bit b1 + 4 * bit b2 + 8 * bit b3 + 16 * bit b4 + 32 * bit b5 + 64 * bit b6 + 128 * bit b7

-- LCR bit 7: offsets 0 and 1 are the divisor latches
abbrev pub selects_latches : Registers → Bool
selects_latches r = is_set r.line_control 7

-- ---- line status (LSR)

-- bit 0 data ready, 1 overrun error, 2 parity error, 3 framing error, 4 break interrupt, 5 and 6
-- transmitter empty, 7 some character of the FIFO has an error
abbrev pub line_status : Registers → ℕ
line_status r = byte_of
    (not (length r.fifo == 0))
    r.overrun
    (is_parity_error (front_flag r.fifo))
    (is_framing_error (front_flag r.fifo))
    (is_break (front_flag r.fifo))
    true
    true
    (has_error r.fifo)

-- ---- interrupt identification (IIR)

-- IER bit 2, and an overrun or an error of the front character
abbrev pub is_line_status : Registers → Bool
is_line_status r = is_set r.interrupts 2 && (r.overrun || is_error (front_flag r.fifo))

-- IER bit 0, and as many characters as the trigger says
abbrev pub is_data_available : Registers → Bool
is_data_available r = is_set r.interrupts 0 && nat_le r.trigger (length r.fifo)

-- IER bit 0, some character, and four character times
abbrev pub is_timeout : Registers → Bool
is_timeout r = is_set r.interrupts 0 && not (length r.fifo == 0) && nat_le 4 r.idle

-- the first interrupt in this order that stands, or none: then bit 0 is set
abbrev pub interrupt_code : Registers → ℕ
interrupt_code r =
    if is_line_status r then 0x06 else if is_data_available r then 0x04 else if is_timeout r then 0x0c else 0x01

-- bits 6 and 7 say that the FIFOs are enabled
abbrev pub interrupt_identification : Registers → ℕ
interrupt_identification r = 0xc0 + interrupt_code r

-- bit 0 of the interrupt identification reads 0
abbrev pub is_pending : Registers → Bool
is_pending r = not (is_set (interrupt_identification r) 0)

-- ---- FIFO control (FCR)

-- bits 7 and 6
abbrev pub trigger_level : ℕ → ℕ
trigger_level v =
    if is_set v 7 then (if is_set v 6 then 14 else 8) else (if is_set v 6 then 4 else 1)

-- without bit 0 the write is ignored; bit 1 clears the FIFO
abbrev pub after_fifo_control : Registers → ℕ → Registers
after_fifo_control r v =
    if is_set v 0
    then record r { trigger = trigger_level v; fifo = if is_set v 1 then [] else r.fifo }
    else r

-- ---- reads and writes

-- MSR: carrier, data set ready and clear to send
abbrev pub MODEM_STATUS : ℕ
MODEM_STATUS = 0xb0

-- what a read gives
abbrev pub read_value : Registers → Reg → ℕ
read_value r R0 = if selects_latches r then r.divisor_low else front_byte r.fifo
read_value r R1 = if selects_latches r then r.divisor_high else r.interrupts
read_value r R2 = interrupt_identification r
read_value r R3 = r.line_control
read_value r R4 = r.modem_control
read_value r R5 = line_status r
read_value r R6 = MODEM_STATUS
read_value r R7 = r.scratch

-- what a read leaves: the receiver buffer takes the front and begins the timeout again; line status
-- clears the overrun and the errors of the front
abbrev pub after_read : Registers → Reg → Registers
after_read r R0 =
    if selects_latches r then r else record r { fifo = without_front r.fifo; idle = 0 }
after_read r R1 = r
after_read r R2 = r
after_read r R3 = r
after_read r R4 = r
after_read r R5 = record r { fifo = with_front_cleared r.fifo; overrun = false }
after_read r R6 = r
after_read r R7 = r

-- what a write leaves: IER keeps bits 0 to 3, MCR bits 0 to 4; the transmitter, LSR and MSR ignore it
abbrev pub after_write : Registers → Reg → ℕ → Registers
after_write r R0 v = if selects_latches r then record r { divisor_low = v } else r
after_write r R1 v =
    if selects_latches r then record r { divisor_high = v } else record r { interrupts = v % 16 }
after_write r R2 v = after_fifo_control r v
after_write r R3 v = record r { line_control = v }
after_write r R4 v = record r { modem_control = v % 32 }
after_write r R5 v = r
after_write r R6 v = r
after_write r R7 v = record r { scratch = v }
