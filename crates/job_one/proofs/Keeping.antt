-- What an event of a log leaves as it is.
use Rattle.std.proofs.Common.{◌≡◌, ℕ, Option, None, Some, refl}
use Rattle.tty_calls.specs.Plain.{opens, closes, reads, writes, gets_modes, sets_modes, gets_disc}
use Rattle.tty_calls.specs.Plain.{sets_disc, flushes, steers, counts_input, counts_output, excludes, admits}
use Rattle.tty_calls.specs.Plain.{drains, gets_counts, hangs_up, sends_packet, takes_packet, PlainAnswer}
use Rattle.tty_calls.specs.Plain.{done, count_is, got, number_is, modes_are, counts_are, refused, idle}
use Rattle.tty_terminal.specs.Terminals.{Terminal}
use Rattle.passed_calls.specs.Scripts.{plain, further}
use Rattle.job_text.specs.Sessions.{JobCall}
use Rattle.job_steps.specs.Steps.{JobsState, after_own, after_passed}

pub record Keeps (s u : JobsState) : Type 0 where
  pub next : u.next ≡ s.next
  pub signals : u.signals ≡ s.signals

pub own_keeps : (t : Terminal) (p c : ℕ) (s : JobsState) (at : ℕ) (call : Option JobCall)
    → Keeps s (after_own t p c s at call)
own_keeps t p c s at None = record { next = refl; signals = refl }
own_keeps t p c s at (Some call) = record { next = refl; signals = refl }

pub passed_keeps : (s : JobsState) (at : ℕ) (call : Option JobCall) (answer : PlainAnswer)
    → Keeps s (after_passed s at call answer)
passed_keeps s at None answer = record { next = refl; signals = refl }
passed_keeps s at (Some (further call)) answer = record { next = refl; signals = refl }
passed_keeps s at (Some (plain (opens h access nonblock))) answer = record { next = refl; signals = refl }
passed_keeps s at (Some (plain (closes h))) answer = record { next = refl; signals = refl }
passed_keeps s at (Some (plain (reads h n))) answer = record { next = refl; signals = refl }
passed_keeps s at (Some (plain (writes h bytes))) answer = record { next = refl; signals = refl }
passed_keeps s at (Some (plain (gets_modes h))) answer = record { next = refl; signals = refl }
passed_keeps s at (Some (plain (sets_modes h when words))) answer = record { next = refl; signals = refl }
passed_keeps s at (Some (plain (gets_disc h))) answer = record { next = refl; signals = refl }
passed_keeps s at (Some (plain (sets_disc h number))) answer = record { next = refl; signals = refl }
passed_keeps s at (Some (plain (flushes h queue))) answer = record { next = refl; signals = refl }
passed_keeps s at (Some (plain (steers h act))) answer = record { next = refl; signals = refl }
passed_keeps s at (Some (plain (counts_input h))) answer = record { next = refl; signals = refl }
passed_keeps s at (Some (plain (counts_output h))) answer = record { next = refl; signals = refl }
passed_keeps s at (Some (plain (excludes h))) answer = record { next = refl; signals = refl }
passed_keeps s at (Some (plain (admits h))) answer = record { next = refl; signals = refl }
passed_keeps s at (Some (plain (drains h))) answer = record { next = refl; signals = refl }
passed_keeps s at (Some (plain (gets_counts h))) answer = record { next = refl; signals = refl }
passed_keeps s at (Some (plain (sends_packet h bytes))) answer = record { next = refl; signals = refl }
passed_keeps s at (Some (plain (takes_packet h))) answer = record { next = refl; signals = refl }
passed_keeps s at (Some (plain (hangs_up h))) done = record { next = refl; signals = refl }
passed_keeps s at (Some (plain (hangs_up h))) (count_is taken) = record { next = refl; signals = refl }
passed_keeps s at (Some (plain (hangs_up h))) (got bytes) = record { next = refl; signals = refl }
passed_keeps s at (Some (plain (hangs_up h))) (number_is n) = record { next = refl; signals = refl }
passed_keeps s at (Some (plain (hangs_up h))) (modes_are modes) = record { next = refl; signals = refl }
passed_keeps s at (Some (plain (hangs_up h))) (counts_are counts) = record { next = refl; signals = refl }
passed_keeps s at (Some (plain (hangs_up h))) (refused errno) = record { next = refl; signals = refl }
passed_keeps s at (Some (plain (hangs_up h))) idle = record { next = refl; signals = refl }
