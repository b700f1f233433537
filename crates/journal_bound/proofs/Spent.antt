-- What a caller has spent of what its calls allow, in sixteenths of an entry: a number that each of its entries raises.
use Rattle.std.proofs.Common.{◌≡◌, ℕ, ◌+◌, ◌*◌, ◌<◌, ◌≤◌, Bool, true, false, List, [], Option, None, Some, ap, arith}
use Rattle.tty_base.specs.declared.characters.Flagged.{Flagged}
use Rattle.tty_calls.specs.Plain.{PlainCall, opens, closes, reads, writes, gets_modes, sets_modes, gets_disc}
use Rattle.tty_calls.specs.Plain.{sets_disc, flushes, steers, counts_input, counts_output, excludes, admits}
use Rattle.tty_calls.specs.Plain.{drains, gets_counts, hangs_up, sends_packet, takes_packet, PlainAnswer}
use Rattle.tty_calls.specs.Plain.{answered, parted, waited, caller_ended, phase_ended}
use Rattle.tty_terminal.specs.Standing.{Standing, standing_after_own, standing_after_other}
use Rattle.journal_bound.specs.Counts.{written_count}
use Rattle.journal_bound.proofs.Totals.{total, total_next}
use Rattle.journal_bound.proofs.Crowded.{is_return_end, pay, one_small}

abbrev pub bit : Bool → ℕ
bit true = 1
bit false = 0

pub bit_small : (b : Bool) → bit b ≤ 1
bit_small true = omega arith
bit_small false = omega arith

abbrev pub bytes_of : Option PlainCall → ℕ
bytes_of None = 0
bytes_of (Some call) = written_count call

-- the bytes that a call writes
abbrev pub written_by : PlainCall → List ℕ
written_by (opens h access nonblock) = []
written_by (closes h) = []
written_by (reads h n) = []
written_by (writes h bytes) = bytes
written_by (gets_modes h) = []
written_by (sets_modes h when words) = []
written_by (gets_disc h) = []
written_by (sets_disc h n) = []
written_by (flushes h queue) = []
written_by (steers h act) = []
written_by (counts_input h) = []
written_by (counts_output h) = []
written_by (excludes h) = []
written_by (admits h) = []
written_by (drains h) = []
written_by (gets_counts h) = []
written_by (hangs_up h) = []
written_by (sends_packet h bytes) = []
written_by (takes_packet h) = []

abbrev pub text_of : Option PlainCall → List ℕ
text_of None = []
text_of (Some call) = written_by call

abbrev pub known : Option PlainCall → ℕ
known None = 0
known (Some call) = 1

-- how many sixteenths of an entry a call can spend
abbrev pub cost : Option PlainCall → ℕ
cost call = 31 * bytes_of call + 48 * known call

-- a caller with these calls, which counts so much in each phase
abbrev pub spent : (ℕ → Option PlainCall) → (ℕ → ℕ) → ℕ → Standing → ℕ
spent calls own k s =
    total (λ i. cost (calls i)) s.next + pay (text_of (calls s.next)) s.taken + 16 * bit s.waits + 16 * bit s.over
    + 16 * total own k

-- no more was paid than its call has, a caller that waits has a call, and one whose calls are over is of the phase
pub record IsSound (calls : ℕ → Option PlainCall) (own : ℕ → ℕ) (k : ℕ) (s : Standing) : Type 0 where
  pub paid : pay (text_of (calls s.next)) s.taken ≤ 31 * bytes_of (calls s.next)
  pub waits : bit s.waits ≤ known (calls s.next)
  pub over : bit s.over ≤ own k

-- from a standing in phase k to another in phase l, so much more is spent, where so much more room is spent
pub record IsMore (d room : ℕ) (calls : ℕ → Option PlainCall) (own : ℕ → ℕ) (k l : ℕ) (s u : Standing) : Type 0 where
  pub least : spent calls own k s ≤ spent calls own l u
  pub gain : spent calls own k s + d ≤ spent calls own l u + room
  pub sound : IsSound calls own l u

module _ (calls : ℕ → Option PlainCall) (own : ℕ → ℕ) (k : ℕ) (s : Standing) (h : IsSound calls own k s) where
  pub answer_more : (a : PlainAnswer) (dropped : List Flagged) (generation before after : ℕ)
      → known (calls s.next) ≡ 1
      → before ≤ 16
      → IsMore (16 + before) after calls own k k s (standing_after_own (answered a dropped) generation s)
  answer_more a dropped generation before after is_known few =
      record {
        least = omega (arith, h.paid, h.waits, is_known, total_next (λ i. cost (calls i)) s.next);
        gain = omega (arith, h.paid, h.waits, is_known, few, total_next (λ i. cost (calls i)) s.next);
        sound = record { paid = omega arith; waits = omega arith; over = h.over };
      }

  pub part_more : (n generation before after : ℕ)
      → 1 ≤ n
      → s.taken + n < bytes_of (calls s.next)
      → (32 + pay (text_of (calls s.next)) s.taken) + before ≤ pay (text_of (calls s.next)) (s.taken + n) + after
      → IsMore (16 + before) after calls own k k s (standing_after_own (parted n) generation s)
  part_more n generation before after some within pays =
      record {
        least = omega (arith, some, bit_small s.waits, one_small (is_return_end (text_of (calls s.next)) s.taken));
        gain = omega (arith, some, pays, bit_small s.waits);
        sound = record {
          paid = omega (arith, within, one_small (is_return_end (text_of (calls s.next)) (s.taken + n)));
          waits = omega arith;
          over = h.over;
        };
      }

  pub wait_more : (generation room : ℕ)
      → s.waits ≡ false
      → known (calls s.next) ≡ 1
      → IsMore (16 + room) room calls own k k s (standing_after_own waited generation s)
  wait_more generation room not_yet is_known =
      let none : bit s.waits ≡ 0 = ap bit not_yet in
      record {
        least = omega (arith, none);
        gain = omega (arith, none);
        sound = record { paid = h.paid; waits = omega (arith, is_known); over = h.over };
      }

  pub end_more : (generation room : ℕ)
      → s.over ≡ false
      → 1 ≤ own k
      → IsMore (16 + room) room calls own k k s (standing_after_own caller_ended generation s)
  end_more generation room not_over of_phase =
      let none : bit s.over ≡ 0 = ap bit not_over in
      record {
        least = omega (arith, none);
        gain = omega (arith, none);
        sound = record { paid = h.paid; waits = h.waits; over = of_phase };
      }

  pub same_more : IsMore 0 0 calls own k k s s
  same_more = record { least = omega arith; gain = omega arith; sound = h }

  pub phase_more : IsMore 0 0 calls own k (k + 1) s (standing_after_other phase_ended s)
  phase_more =
      record {
        least = omega (arith, h.over, total_next own k);
        gain = omega (arith, h.over, total_next own k);
        sound = record { paid = h.paid; waits = h.waits; over = omega arith };
      }
