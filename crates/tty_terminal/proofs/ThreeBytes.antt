-- Worked journals are runs, and with one word changed none.
use Rattle.std.proofs.Common.{◌≡◌, ℕ, [], ◌∷◌, length, sum, refl, ap, arith}
use Rattle.std.proofs.lemmas.Bool.{false≢true}
use Rattle.tty_base.specs.declared.counters.Errno.TheVariants.{EBUSY, EIO}
use Rattle.tty_calls.specs.Plain.{PlainAnswer, done, count_is, got, number_is}
use Rattle.tty_calls.specs.Plain.{modes_are, counts_are, refused, idle, bytes_in}
use Rattle.tty_terminal.specs.Terminals.{Terminal, opening}
use Rattle.tty_terminal.specs.Runs.{IsRun}
use Rattle.tty_terminal.specs.Rows.{three_bytes_calls, three_bytes_counts, three_bytes, with_other_bytes}
use Rattle.tty_terminal.specs.Rows.{with_old_generation, without_flush, without_new_generation, calls_from, LeadsFrom}
use Rattle.tty_terminal.specs.Rows.{half_line_calls, half_line, hangup_calls, hangup, stopped_terminal, stopped_calls}
use Rattle.tty_terminal.specs.Rows.{stopped_write, timed_calls, timed_read, one_tick, exclusive_calls, exclusive_use}
use Rattle.tty_terminal.specs.Rows.{filling, filling_calls, filled_read, idle_calls, idle_answer, idle_too_early}
use Rattle.tty_terminal.specs.Rows.{end_too_early}
use Rattle.read_rule.specs.Ready.{is_ready}
use Rattle.tty_terminal.proofs.Testing.{end_of, passing_leads}

-- a number that tells answers apart
abbrev mark_of : PlainAnswer → ℕ
mark_of done = 0
mark_of (count_is n) = n
mark_of (got bytes) = sum bytes
mark_of (number_is n) = 0
mark_of (modes_are modes) = 0
mark_of (counts_are counts) = 0
mark_of (refused errno) = 0
mark_of idle = 0

-- where all entries pass, a list of what computes
pub is_a_run : (t : Terminal) × IsRun three_bytes_calls three_bytes_counts 4096 three_bytes t
is_a_run = (end_of three_bytes_calls (opening 2 4096) three_bytes, passing_leads three_bytes_calls three_bytes_counts (opening 2 4096) three_bytes ((refl, tt), ((refl, refl), ((refl, refl), ((refl, tt), ((refl, tt), ((refl, tt), ((refl, tt), ((refl, tt), ((refl, refl), ((refl, refl), ((refl, tt), ((refl, tt), ((refl, tt), ((refl, tt), tt)))))))))))))))

pub other_bytes : (t : Terminal) → IsRun three_bytes_calls three_bytes_counts 4096 with_other_bytes t → ⊥
other_bytes t h = let a = ap mark_of h.1.1.1.1.1.1.1.1.0.1.answer in omega arith

pub old_generation : (t : Terminal) → IsRun three_bytes_calls three_bytes_counts 4096 with_old_generation t → ⊥
old_generation t h = let a = h.1.1.1.1.1.1.1.1.1.1.0.0 in omega arith

pub no_flush : (t : Terminal) → IsRun three_bytes_calls three_bytes_counts 4096 without_flush t → ⊥
no_flush t h = let a = h.1.1.1.1.1.1.1.0.1.answer in cc

pub no_new_generation : (t : Terminal) → IsRun three_bytes_calls three_bytes_counts 4096 without_new_generation t → ⊥
no_new_generation t h = let a = h.1.1.1.1.1.1.1.1.1.1.0.0 in omega arith

pub half_line_drops : (t : Terminal) × LeadsFrom half_line_calls (1 ∷ []) (opening 1 4096) (half_line (got (10 ∷ []))) t
half_line_drops = (end_of (calls_from half_line_calls) (opening 1 4096) (half_line (got (10 ∷ []))), passing_leads (calls_from half_line_calls) (1 ∷ []) (opening 1 4096) (half_line (got (10 ∷ []))) ((refl, tt), ((refl, refl), ((refl, tt), ((refl, refl), ((refl, refl), ((refl, tt), ((refl, refl), tt))))))))

pub half_line_stays : (t : Terminal)
    → LeadsFrom half_line_calls (1 ∷ []) (opening 1 4096) (half_line (got (97 ∷ 98 ∷ 10 ∷ []))) t
    → ⊥
half_line_stays t h = let a = h.1.1.1.1.1.1.0.1.answer in cc

pub hangup_runs : (t : Terminal) × LeadsFrom hangup_calls (3 ∷ []) (opening 3 4096) (hangup (got []) (refused EIO) 1) t
hangup_runs = (end_of (calls_from hangup_calls) (opening 3 4096) (hangup (got []) (refused EIO) 1), passing_leads (calls_from hangup_calls) (3 ∷ []) (opening 3 4096) (hangup (got []) (refused EIO) 1) ((refl, tt), ((refl, refl), ((refl, refl), ((refl, refl), ((refl, tt), ((refl, tt), ((refl, refl), ((refl, refl), ((refl, refl), ((refl, refl), ((refl, refl), ((refl, refl), ((refl, tt), tt))))))))))))))

pub hangup_no_input : (t : Terminal)
    → LeadsFrom hangup_calls (3 ∷ []) (opening 3 4096) (hangup (refused EIO) (refused EIO) 1) t
    → ⊥
hangup_no_input t h = let a = h.1.1.1.1.1.1.1.0.1.answer in cc

pub hangup_no_write : (t : Terminal)
    → LeadsFrom hangup_calls (3 ∷ []) (opening 3 4096) (hangup (got []) (count_is 0) 1) t
    → ⊥
hangup_no_write t h = let a = h.1.1.1.1.1.1.1.1.1.0.1.answer in cc

pub hangup_no_last_close : (t : Terminal)
    → LeadsFrom hangup_calls (3 ∷ []) (opening 3 4096) (hangup (got []) (refused EIO) 2) t
    → ⊥
hangup_no_last_close t h = let a = h.1.1.1.1.1.1.1.1.1.1.1.1.0.0 in omega arith

pub stopped_runs : (t : Terminal)
    × (LeadsFrom stopped_calls (1 ∷ []) stopped_terminal (stopped_write 6 (count_is 10)) t
    × (length t.output.wire ≡ 4100))
stopped_runs = (
  end_of (calls_from stopped_calls) stopped_terminal (stopped_write 6 (count_is 10)),
  (
    passing_leads (calls_from stopped_calls) (1 ∷ []) stopped_terminal (stopped_write 6 (count_is 10))
        ((refl, tt), ((refl, tt), ((refl, tt), ((refl, refl), tt)))),
    refl,
  ),
)

pub stopped_longer : (t : Terminal)
    → LeadsFrom stopped_calls (1 ∷ []) stopped_terminal (stopped_write 7 (count_is 10)) t
    → ⊥
stopped_longer t h = let a = h.0.1.takes in omega arith

pub stopped_rest : (t : Terminal)
    → LeadsFrom stopped_calls (1 ∷ []) stopped_terminal (stopped_write 6 (count_is 4)) t
    → ⊥
stopped_rest t h = let a = ap mark_of h.1.1.1.0.1.answer in omega arith

pub timed_runs : (t : Terminal) × LeadsFrom timed_calls (1 ∷ []) (opening 1 4096) (timed_read one_tick) t
unfolding is_ready
timed_runs = (end_of (calls_from timed_calls) (opening 1 4096) (timed_read one_tick), passing_leads (calls_from timed_calls) (1 ∷ []) (opening 1 4096) (timed_read one_tick) ((refl, tt), ((refl, refl), ((refl, refl), ((refl, tt), ((refl, tt), ((refl, tt), ((refl, refl), tt))))))))

pub timed_no_tick : (t : Terminal) → LeadsFrom timed_calls (1 ∷ []) (opening 1 4096) (timed_read []) t → ⊥
unfolding is_ready
timed_no_tick t h = let a = h.1.1.1.1.1.0.1.answer.0 in cc

pub exclusive_runs : (t : Terminal)
    × LeadsFrom exclusive_calls (2 ∷ []) (opening 2 4096) (exclusive_use (refused EBUSY)) t
exclusive_runs = (end_of (calls_from exclusive_calls) (opening 2 4096) (exclusive_use (refused EBUSY)), passing_leads (calls_from exclusive_calls) (2 ∷ []) (opening 2 4096) (exclusive_use (refused EBUSY)) ((refl, tt), ((refl, refl), ((refl, refl), ((refl, refl), ((refl, refl), ((refl, refl), tt)))))))

pub exclusive_admitted : (t : Terminal) → LeadsFrom exclusive_calls (2 ∷ []) (opening 2 4096) (exclusive_use done) t → ⊥
exclusive_admitted t h = let a = h.1.1.1.0.1.answer in cc

pub filling_runs : (t : Terminal)
    × (LeadsFrom filling_calls (1 ∷ []) filling (filled_read (121 ∷ [])) t × (t.output.wire ≡ 19 ∷ 17 ∷ []))
filling_runs = (
  end_of (calls_from filling_calls) filling (filled_read (121 ∷ [])),
  (
    passing_leads (calls_from filling_calls) (1 ∷ []) filling (filled_read (121 ∷ [])) ((refl, tt), ((refl, refl), tt)),
    refl,
  ),
)

pub filling_short : (t : Terminal) → LeadsFrom filling_calls (1 ∷ []) filling (filled_read []) t → ⊥
filling_short t h = let a = ap (λ (a : PlainAnswer). length (bytes_in a)) h.1.0.1.answer in omega arith

pub idle_runs : (t : Terminal) × LeadsFrom idle_calls (2 ∷ []) (opening 2 4096) idle_answer t
idle_runs = (end_of (calls_from idle_calls) (opening 2 4096) idle_answer, passing_leads (calls_from idle_calls) (2 ∷ []) (opening 2 4096) idle_answer ((refl, tt), ((refl, refl), ((refl, tt), ((refl, refl), ((refl, refl), ((refl, tt), ((refl, tt), ((refl, (refl, refl)), ((refl, tt), ((refl, tt), ((refl, tt), tt))))))))))))

pub idle_early : (t : Terminal) → LeadsFrom idle_calls (2 ∷ []) (opening 2 4096) idle_too_early t → ⊥
idle_early t h = false≢true h.1.1.1.1.1.1.0.1.answer.1

pub end_early : (t : Terminal) → LeadsFrom idle_calls (2 ∷ []) (opening 2 4096) end_too_early t → ⊥
end_early t h = false≢true h.1.1.1.1.1.1.1.0.1.1.may
