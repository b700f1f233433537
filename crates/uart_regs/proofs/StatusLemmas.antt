-- What reads leave of the FIFO, and what line status says of its front.
use Rattle.std.proofs.Common.{◌≡◌, ◌≢◌, ◌≤◌, ℕ, Bool, true, false, ◌==◌, List, [], ◌∷◌}
use Rattle.std.proofs.Common.{length, Some, suc, zero, refl, sym, ap, arith, subst}
use Rattle.std.specs.List.{All}
use Rattle.tty_base.specs.declared.characters.Flag.{Flag}
use Rattle.tty_base.specs.declared.characters.Flag.TheVariants.{Normal, Break, Parity, Frame, Overrun}
use Rattle.tty_base.specs.declared.characters.Flagged.{Flagged}
use Rattle.uart_regs.specs.Registers.{Registers, with_front_cleared, byte_of, is_parity_error}
use Rattle.uart_regs.specs.Registers.{is_framing_error, is_break, has_error, front_flag, selects_latches}
use Rattle.uart_regs.specs.Reading.{reading_of_reads, front_reading}

abbrev pub NoMarks : List Flagged → Type 0
NoMarks fifo = All (λ c. c.flag ≢ Overrun) fifo

pub record IsFifo (fifo : List Flagged) : Type 0 where
  pub depth : length fifo ≤ 16
  pub no_mark : NoMarks fifo

pub rest_of : (fifo rest : List Flagged) (c : Flagged) → fifo ≡ c ∷ rest → length fifo ≤ 16 → NoMarks fifo → IsFifo rest
rest_of fifo rest c e few good = record {
  depth = omega (arith, few, ap length e);
  no_mark = λ k d lt. (subst NoMarks e good) (suc k) d (omega arith);
}

pub cleared_front : (fifo : List Flagged) → length fifo ≤ 16 → NoMarks fifo → IsFifo (with_front_cleared fifo)
cleared_front [] few good = record { depth = few; no_mark = good }
cleared_front (c ∷ cs) few good = record { depth = few; no_mark = unmarked }
  where
    unmarked : NoMarks (record c { flag = Normal } ∷ cs)
    unmarked zero d lt = λ e. cc
    unmarked (suc k) d lt = good (suc k) d lt

reading_by_bits : (overrun errors : Bool) (f : Flag) (byte : ℕ)
    → f ≢ Overrun
    → reading_of_reads (byte_of true overrun (is_parity_error f) (is_framing_error f) (is_break f) true true errors)
    byte
    ≡ Some (record { character = record { byte = byte; flag = f }; overrun = overrun })
reading_by_bits true true Normal byte n = refl
reading_by_bits true false Normal byte n = refl
reading_by_bits false true Normal byte n = refl
reading_by_bits false false Normal byte n = refl
reading_by_bits true true Break byte n = refl
reading_by_bits true false Break byte n = refl
reading_by_bits false true Break byte n = refl
reading_by_bits false false Break byte n = refl
reading_by_bits true true Parity byte n = refl
reading_by_bits true false Parity byte n = refl
reading_by_bits false true Parity byte n = refl
reading_by_bits false false Parity byte n = refl
reading_by_bits true true Frame byte n = refl
reading_by_bits true false Frame byte n = refl
reading_by_bits false true Frame byte n = refl
reading_by_bits false false Frame byte n = refl
reading_by_bits overrun errors Overrun byte n = absurd (n refl)

front_unmarked : (fifo : List Flagged) → NoMarks fifo → front_flag fifo ≢ Overrun
front_unmarked [] good = λ e. cc
front_unmarked (c ∷ cs) good = good 0 c (omega arith)

-- under the divisor latches the receiver buffer gives the low one
pub latched_reading : (r now : Registers) (f : Flag) → r ≡ now → f ≡ front_flag r.fifo
    → selects_latches r ≡ true → (length r.fifo == 0) ≡ false → NoMarks r.fifo
    → Some (record { character = record { byte = r.divisor_low; flag = f }; overrun = r.overrun }) ≡ front_reading now
latched_reading r now f is front latched some good =
    rw (← is, some, latched, front)
    (sym (reading_by_bits r.overrun (has_error r.fifo) (front_flag r.fifo) r.divisor_low (front_unmarked r.fifo good)))
