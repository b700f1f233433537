-- What has happened to the discipline since it was installed, by the entries of a journal.
use Rattle.std.specs.Prelude.{ℕ, List, [], ◌∷◌, ◌++◌, Bool, true, false, ◌==◌, ◌||◌}
use Rattle.std.specs.Prelude.{Option, None, Some, if◌then◌else◌, nat_lt, length, drop}
use Rattle.tty_base.specs.declared.characters.Flagged.{Flagged}
use Rattle.tty_modes.specs.Settings.{Settings}
use Rattle.tty_modes.specs.Word.{after_words}
use Rattle.n_tty.specs.Reading.{is_readable}
use Rattle.n_tty.specs.Writing.{piece_size}
use Rattle.tty_calls.specs.declared.calls.Access.{Access}
use Rattle.tty_calls.specs.declared.calls.When.{When}
use Rattle.tty_calls.specs.declared.calls.When.TheVariants as when
use Rattle.tty_calls.specs.declared.calls.Queue.{Queue}
use Rattle.tty_calls.specs.declared.calls.Queue.TheVariants as queue
use Rattle.tty_calls.specs.declared.journals.Who.{Who}
use Rattle.tty_calls.specs.declared.journals.Who.TheVariants.{Caller}
use Rattle.tty_calls.specs.Plain.{PlainCall, reads, writes, sets_modes, flushes, takes_packet}
use Rattle.tty_calls.specs.Plain.{PlainEvent, answered, parted, flushed, PlainEntry}
use Rattle.handle_table.specs.declared.HandleState.{HandleState}
use Rattle.ldisc_switch.specs.declared.discipline.Disc.{Disc}
use Rattle.ldisc_switch.specs.declared.discipline.Disc.TheVariants as disc
use Rattle.ldisc_switch.specs.Happenings.{Happening, character, read, write, flush, mode_change, packet_take}
use Rattle.tty_terminal.specs.declared.callers.CallerState.{CallerState}
use Rattle.tty_terminal.specs.Terminals.{Terminal, handle_for, caller_at}
use Rattle.tty_terminal.specs.Receiving.{after_character}
use Rattle.tty_terminal.specs.Outcomes.{may_read, may_write}
use Rattle.tty_terminal.specs.Transfers.{since_or, is_outlived}
use Rattle.tty_terminal.specs.Modes.{is_drained}
use Rattle.tty_terminal.specs.Steps.{after}
use Rattle.tty_terminal.specs.Begins.{begins_generation}

-- ---- calls: a call that is refused, or that waits, is nothing that happens to the discipline

-- by a handle that is live, and by one that has this access too
abbrev pub by_live : Option HandleState → List Happening → List Happening
by_live None events = []
by_live (Some handle) events = if handle.live then events else []

abbrev pub by_access : (Access → Bool) → Option HandleState → List Happening → List Happening
by_access may None events = []
by_access may (Some handle) events = if may handle.access then by_live (Some handle) events else []

-- a read that is ready
abbrev pub read_by : Terminal → CallerState → (nonblock : Bool) → (n : ℕ) → Disc → List Happening
read_by t s nonblock n (disc.Slip slip) = []
read_by t s nonblock n (disc.Tty tty) =
    if is_readable t.modes nonblock n (since_or s.waits t.tick) t.tick tty then read t.modes n ∷ [] else []

abbrev pub reading_by : Terminal → CallerState → (n : ℕ) → Option HandleState → List Happening
reading_by t s n None = []
reading_by t s n (Some handle) = by_access may_read (Some handle) (read_by t s handle.nonblock n t.disc)

-- a piece of a write, some of which fits, or all of it
abbrev pub write_by : Terminal → (rest : List ℕ) → Disc → List Happening
write_by t rest (disc.Slip slip) = []
write_by t rest (disc.Tty tty) =
    let fit = piece_size t.modes tty t.output rest in
    if (fit == length rest) || nat_lt 0 fit then write t.modes t.output rest ∷ [] else []

abbrev pub writing_by : Terminal → CallerState → List ℕ → Option HandleState → List Happening
writing_by t s bytes handle =
    by_access may_write handle (if is_outlived t s then [] else write_by t (drop s.taken bytes) t.disc)

-- the words of a call that sets modes, once output is drained where it waits for that
abbrev pub modes_by : Terminal → When → Settings → List Happening
modes_by t when.Now new = mode_change t.modes new ∷ []
modes_by t when.Drain new = if is_drained t then mode_change t.modes new ∷ [] else []
modes_by t when.Flush new = if is_drained t then flush ∷ mode_change t.modes new ∷ [] else []

abbrev pub flush_by : Queue → List Happening
flush_by queue.Input = flush ∷ []
flush_by queue.Output = []
flush_by queue.Both = flush ∷ []

-- the oldest packet that waits
abbrev pub take_by : Disc → List Happening
take_by (disc.Tty tty) = []
take_by (disc.Slip slip) = if length slip.packets == 0 then [] else packet_take ∷ []

-- what a call is to the discipline; a change, a last close and a hangup install another one
abbrev pub happens_by_call : Terminal → CallerState → PlainCall → List Happening
happens_by_call t s (reads h n) = reading_by t s n (handle_for t s h)
happens_by_call t s (writes h bytes) = writing_by t s bytes (handle_for t s h)
happens_by_call t s (sets_modes h w words) = by_live (handle_for t s h) (modes_by t w (after_words t.modes words))
happens_by_call t s (flushes h q) = by_live (handle_for t s h) (flush_by q)
happens_by_call t s (takes_packet h) = by_access may_read (handle_for t s h) (take_by t.disc)
happens_by_call t s call = []

abbrev pub happens_by_known : Terminal → CallerState → Option PlainCall → List Happening
happens_by_known t s None = []
happens_by_known t s (Some call) = happens_by_call t s call

-- ---- entries

-- the characters of a flush, each with the modes, the tick, the output and the counts that it finds
abbrev pub happens_by_flush : Terminal → List Flagged → List Happening
happens_by_flush t [] = []
happens_by_flush t (c ∷ cs) =
    character (record { modes = t.modes; tick = t.tick; output = t.output; tally = t.tally }) c
    ∷ happens_by_flush (after_character t c) cs

abbrev pub happens_by_caller : (ℕ → ℕ → Option PlainCall) → Terminal → Who → (step : ℕ) → List Happening
happens_by_caller calls t (Caller c) step = happens_by_known t (caller_at t c) (calls c step)
happens_by_caller calls t who step = []

-- an answer and a part are what their call is, and a flush its characters
abbrev pub happens_by : (ℕ → ℕ → Option PlainCall) → Terminal → Who → (step : ℕ) → PlainEvent → List Happening
happens_by calls t who step (answered a dropped) = happens_by_caller calls t who step
happens_by calls t who step (parted n) = happens_by_caller calls t who step
happens_by calls t who step (flushed chars) = happens_by_flush t chars
happens_by calls t who step event = []

-- to a discipline that was just installed nothing has happened
abbrev pub happened_after : Bool → (happened now : List Happening) → List Happening
happened_after true happened now = []
happened_after false happened now = happened ++ now

-- What has happened since the latest change, last close or hangup, in the order of the entries. The rule for ixoff,
-- which leaves a discipline as it is, is not among it.
abbrev pub happened_in : (ℕ → ℕ → Option PlainCall) → Terminal → List PlainEntry → List Happening → List Happening
happened_in calls t [] happened = happened
happened_in calls t (e ∷ es) happened =
    happened_in calls (after calls t e) es
    (happened_after (begins_generation calls t e.who e.step e.event) happened (happens_by calls t e.who e.step e.event))
