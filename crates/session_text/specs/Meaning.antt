-- What the items of a session mean.
use Rattle.std.specs.Prelude.{ℕ, ◌==◌, ◌+◌, List, [], ◌∷◌, ◌++◌, length, map, drop, replicate, slice_index}
use Rattle.std.specs.Prelude.{slice_index_or, slice_set, unwrap_or, Bool, true, false, if◌then◌else◌}
use Rattle.std.specs.List.{filter_map}
use Rattle.tty_base.specs.declared.characters.Flag.{Flag}
use Rattle.tty_base.specs.declared.characters.Flag.TheVariants as flag
use Rattle.tty_base.specs.declared.lines.LineStep.{LineStep}
use Rattle.tty_base.specs.declared.lines.LineStep.TheVariants as step
use Rattle.line_steps.specs.Steps.{rx_step}
use Rattle.tty_modes.specs.Reading.{word_of as mode_of}
use Rattle.tty_calls.specs.declared.calls.Access.TheVariants as access
use Rattle.tty_calls.specs.declared.calls.When.TheVariants as when
use Rattle.tty_calls.specs.declared.calls.Queue.TheVariants as queue
use Rattle.tty_calls.specs.declared.calls.Act.TheVariants as act
use Rattle.tty_calls.specs.Plain.{PlainCall, opens, closes, reads, writes, gets_modes, sets_modes, gets_disc}
use Rattle.tty_calls.specs.Plain.{sets_disc, flushes, steers, counts_input, counts_output, excludes, admits}
use Rattle.tty_calls.specs.Plain.{drains, gets_counts, hangs_up, sends_packet, takes_packet}
use Rattle.tty_calls.specs.Sessions.{PlainScript, PlainPhase}
use Rattle.text_lines.specs.Values.{word_at, number_at, bytes_of}
use Rattle.session_text.specs.declared.verbs.LineVerb.{LineVerb}
use Rattle.session_text.specs.declared.verbs.LineVerb.TheVariants.{Rx, Rxp, Rxf, Break, Mask, Unmask, Idle, Trigger}
use Rattle.session_text.specs.declared.verbs.CallVerb.{CallVerb}
use Rattle.session_text.specs.declared.verbs.CallVerb.TheVariants as call
use Rattle.session_text.specs.Kinds.{access_of, when_of, queue_of, act_of}

-- ---- a line's item

-- the characters that HEX writes, each with this flag
abbrev pub characters : Flag → List ℕ → List LineStep
characters flag digits = map (rx_step flag) (bytes_of digits)

abbrev pub steps_in : LineVerb → List (List ℕ) → List LineStep
steps_in Rx arguments = characters flag.Normal (word_at arguments 0)
steps_in Rxp arguments = characters flag.Parity (word_at arguments 0)
steps_in Rxf arguments = characters flag.Frame (word_at arguments 0)
steps_in Break arguments = step.Break ∷ []
steps_in Mask arguments = step.Mask ∷ []
steps_in Unmask arguments = step.Unmask ∷ []
steps_in Idle arguments = step.Idle (number_at arguments 0) ∷ []
steps_in Trigger arguments = step.Trigger (number_at arguments 0) ∷ []

-- ---- a call. Where a word is not one of those that may stand there, the default stands for it: the
-- arguments of good items have none.

-- a call that has its handle alone
abbrev pub bare_call : CallVerb → ℕ → PlainCall
bare_call call.GetModes h = gets_modes h
bare_call call.GetDisc h = gets_disc h
bare_call call.Inq h = counts_input h
bare_call call.Outq h = counts_output h
bare_call call.Excl h = excludes h
bare_call call.Nxcl h = admits h
bare_call call.Drain h = drains h
bare_call call.Counts h = gets_counts h
bare_call call.Vhangup h = hangs_up h
bare_call call.Take h = takes_packet h
bare_call verb h = closes h

abbrev pub call_on : CallVerb → ℕ → List (List ℕ) → PlainCall
call_on call.Open h arguments = opens h (unwrap_or (access_of (word_at arguments 1)) access.Rw) (length arguments == 3)
call_on call.Read h arguments = reads h (number_at arguments 1)
call_on call.Write h arguments = writes h (bytes_of (word_at arguments 1))
call_on call.SetModes h arguments =
    sets_modes h (unwrap_or (when_of (word_at arguments 1)) when.Now) (filter_map mode_of (drop 2 arguments))
call_on call.SetDisc h arguments = sets_disc h (number_at arguments 1)
call_on call.Flush h arguments = flushes h (unwrap_or (queue_of (word_at arguments 1)) queue.Both)
call_on call.Xonc h arguments = steers h (unwrap_or (act_of (word_at arguments 1)) act.Ion)
call_on call.Send h arguments = sends_packet h (bytes_of (word_at arguments 1))
call_on verb h arguments = bare_call verb h

-- whether a call hands over bytes, and those that it does
abbrev pub hands_over : CallVerb → Bool
hands_over call.Write = true
hands_over call.Send = true
hands_over verb = false

abbrev pub bytes_handed : CallVerb → List (List ℕ) → List ℕ
bytes_handed verb arguments = if hands_over verb then bytes_of (word_at arguments 1) else []

abbrev pub call_in : CallVerb → List (List ℕ) → PlainCall
call_in verb arguments = call_on verb (number_at arguments 0) arguments

-- ---- a phase, and what is added to it

abbrev pub empty_phase : ℕ → PlainPhase
empty_phase ports = record { lines = replicate ports []; ticks = replicate ports 0; callers = [] }

abbrev pub with_steps : ℕ → List LineStep → PlainPhase → PlainPhase
with_steps port steps phase =
    record phase { lines = slice_set phase.lines port (slice_index_or phase.lines port [] ++ steps) }

abbrev pub with_ticks : ℕ → ℕ → PlainPhase → PlainPhase
with_ticks port count phase = record phase { ticks = slice_set phase.ticks port (slice_index phase.ticks port + count) }

abbrev pub with_script : PlainScript → PlainPhase → PlainPhase
with_script script phase = record phase { callers = phase.callers ++ script ∷ [] }
