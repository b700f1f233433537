-- Reading and writing (read(2), write(2)).
use Rattle.std.specs.Prelude.{ℕ, ◌+◌, ◌==◌, Bool, false, not, ◌&&◌, nat_lt, List}
use Rattle.std.specs.Prelude.{[], Option, None, Some, if◌then◌else◌, length, drop}
use Rattle.tty_base.specs.declared.counters.Errno.{Errno}
use Rattle.tty_base.specs.declared.counters.Errno.TheVariants.{EBADF, EAGAIN, EIO}
use Rattle.tty_calls.specs.Plain.{count_is, got}
use Rattle.flow_control.specs.Output.{after_send}
use Rattle.n_tty.specs.States.{NTtyState}
use Rattle.n_tty.specs.Reading.{bytes_read, after_read, is_readable}
use Rattle.n_tty.specs.Writing.{piece_size, piece_text, after_write}
use Rattle.handle_table.specs.declared.HandleState.{HandleState}
use Rattle.ldisc_switch.specs.declared.discipline.Disc.{Disc}
use Rattle.ldisc_switch.specs.declared.discipline.Disc.TheVariants as disc
use Rattle.tty_terminal.specs.declared.callers.CallerState.{CallerState}
use Rattle.tty_terminal.specs.Terminals.{Terminal}
use Rattle.tty_terminal.specs.Outcomes.{Outcome, waits, takes, gives, refuses, tells, may_read, may_write}

-- ---- reading

abbrev pub since_or : Option ℕ → ℕ → ℕ
since_or None now = now
since_or (Some tick) now = tick

-- by the discipline: N_SLIP has nothing to read. A read counts its time from its wait, or from now.
abbrev pub read_outcome : Terminal → CallerState → (nonblock : Bool) → (n : ℕ) → Disc → Outcome
read_outcome t s nonblock n (disc.Slip slip) = refuses EIO t
read_outcome t s nonblock n (disc.Tty tty) =
    if is_readable t.modes nonblock n (since_or s.waits t.tick) t.tick tty
    then gives (got (bytes_read t.modes n tty)) false (record t { disc = disc.Tty (after_read t.modes n tty) })
    else if nonblock then refuses EAGAIN t
    else waits

-- a dead handle reads the end of file
abbrev pub reading_outcome : Terminal → CallerState → (n : ℕ) → Option HandleState → Outcome
reading_outcome t s n None = refuses EBADF t
reading_outcome t s n (Some handle) =
    if not (may_read handle.access) then refuses EBADF t
    else if not handle.live then tells (got []) t
    else read_outcome t s handle.nonblock n t.disc

-- ---- writing

-- parts of the write were taken
abbrev pub has_parts : CallerState → Bool
has_parts s = nat_lt 0 s.parts

-- A write that is refused. Where parts of it were taken, it answers how many bytes these were.
abbrev pub write_refusal : Terminal → CallerState → Errno → Outcome
write_refusal t s errno = if has_parts s then tells (count_is s.taken) t else refuses errno t

-- a piece of these bytes is posted
abbrev pub with_piece_posted : Terminal → NTtyState → List ℕ → Terminal
with_piece_posted t tty bytes =
    record t {
      disc = disc.Tty (after_write t.modes t.output bytes tty);
      output = after_send t.output (piece_text t.modes tty t.output bytes);
    }

-- Of the bytes that are left, so many fit. All of them end the write, some are a part of it, and where none fits it
-- must wait.
abbrev pub part_outcome : Terminal → CallerState → (nonblock : Bool) → (left fit : ℕ) → (after : Terminal) → Outcome
part_outcome t s nonblock left fit after =
    if fit == left then gives (count_is (s.taken + fit)) false after
    else if nat_lt 0 fit then takes fit after
    else if nonblock then write_refusal t s EAGAIN
    else waits

-- by the discipline: N_SLIP takes packets alone
abbrev pub write_outcome : Terminal → CallerState → (nonblock : Bool) → (rest : List ℕ) → Disc → Outcome
write_outcome t s nonblock rest (disc.Slip slip) = write_refusal t s EIO
write_outcome t s nonblock rest (disc.Tty tty) =
    part_outcome t s nonblock (length rest) (piece_size t.modes tty t.output rest) (with_piece_posted t tty rest)

-- the generation of the first part has ended
abbrev pub is_outlived : Terminal → CallerState → Bool
is_outlived t s = has_parts s && not (s.generation == t.generation)

abbrev pub writing_outcome : Terminal → CallerState → List ℕ → Option HandleState → Outcome
writing_outcome t s bytes None = write_refusal t s EBADF
writing_outcome t s bytes (Some handle) =
    if not (may_write handle.access) then write_refusal t s EBADF
    else if not handle.live then write_refusal t s EIO
    else if is_outlived t s then tells (count_is s.taken) t
    else write_outcome t s handle.nonblock (drop s.taken bytes) t.disc
