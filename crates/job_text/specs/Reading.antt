-- Reading a text line by line: what stands beside the items of a session of ports, or the first wrong line. What is
-- left of a text without processes and calls of job control is read as a session's.
use Rattle.std.specs.Prelude.{ℕ, ◌-◌, ◌==◌, ◌&&◌, ◌||◌, nat_le, nat_lt, Bool, true, false, not, List, [], ◌∷◌, ◌++◌}
use Rattle.std.specs.Prelude.{length, count_by, Option, None, Some, is_some, is_none, Result, Ok, if◌then◌else◌}
use Rattle.std.specs.List.{list_any}
use Rattle.std.specs.Option.{option_map_or}
use Rattle.tty_base.specs.Sizes.{MOST_PROCESSES}
use Rattle.text_lines.specs.Lines.{first_is}
use Rattle.text_lines.specs.Values.{word_at, number_at, is_name, read_of}
use Rattle.session_text.specs.declared.faults.Reason.TheVariants.{Order, Limit}
use Rattle.session_text.specs.declared.faults.BadLine.{BadLine}
use Rattle.session_text.specs.Refusals.{next_line, lines_in}
use Rattle.further_text.specs.declared.sorts.Sort.{Sort}
use Rattle.further_text.specs.declared.sorts.Sort.TheVariants.{Ports, Caller, Border, Inside, Other}
use Rattle.further_text.specs.Faults.{bad, wrong_if, wrong_unless, on_line, ◌>>=◌}
use Rattle.further_text.specs.Reading.{BaseReading, first_base, at_start, in_open_phase, at_end, base_after_item}
use Rattle.further_text.specs.Reading.{base_after_ports, base_after_step, base_at_end, spend, with_block, place_in}
use Rattle.further_text.specs.Sorts.{sort_of}
use Rattle.job_text.specs.declared.verbs.JobVerb.{JobVerb}
use Rattle.job_text.specs.declared.verbs.JobVerb.TheVariants as verb
use Rattle.job_text.specs.declared.calls.OwnCall.{OwnCall}
use Rattle.job_text.specs.declared.calls.OwnCall.TheVariants as call
use Rattle.job_text.specs.declared.sessions.PortProc.{PortProc}
use Rattle.passed_calls.specs.declared.placed.PlacedCall.{PlacedCall}
use Rattle.job_text.specs.declared.blocks.Process.{Process}
use Rattle.job_text.specs.declared.blocks.Block.{Block}
use Rattle.job_text.specs.declared.blocks.Block.TheVariants as block
use Rattle.job_text.specs.Sessions.{JobsSession, session_with}
use Rattle.job_text.specs.Calls.{call_of}
use Rattle.job_text.specs.Procs.{words_in, proc_of, place_named, leads_with}
use Rattle.job_text.specs.Verbs.{verb_of}

-- What was read of the session of ports; which block is open; the processes, and who has exited; in the open phase
-- whose blocks there are, and the calls of job control; and those of the phases before it.
pub record JobsReading : Type 0 where
  pub base : BaseReading
  pub open_block : Block
  pub procs : List PortProc
  pub exited : List Process
  pub scripts : List Process
  pub own : List (PlacedCall OwnCall)
  pub parts : List (List (PlacedCall OwnCall))

abbrev pub first_jobs_reading : JobsReading
first_jobs_reading = record {
  base = first_base;
  open_block = block.Another;
  procs = [];
  exited = [];
  scripts = [];
  own = [];
  parts = [];
}

-- what is read with the session of ports
abbrev pub with_base : JobsReading → Result BaseReading BadLine → Result JobsReading BadLine
with_base r read = read >>= λ base. Ok (record r { base = base })

-- behind `ports`, and before the first phase
abbrev pub is_before_phases : JobsReading → Bool
is_before_phases r = (not (r.base.ports == 0) && not (in_open_phase r.base)) && not (at_end r.base)

abbrev pub is_caller : Block → Bool
is_caller (block.Caller process) = true
is_caller other = false

-- the block of a process that has exited
abbrev pub is_exited : Block → Bool
is_exited block.Exited = true
is_exited other = false

-- ---- the items of a session of ports

abbrev pub after_session_item : JobsReading → ℕ → List ℕ → List (List ℕ) → Result JobsReading BadLine
after_session_item r n word arguments = with_base r (base_after_item r.base n word arguments)

-- a port has no process of this name
abbrev pub is_nobody : JobsReading → (name : List ℕ) → (port : ℕ) → Bool
is_nobody r name port = nat_lt port r.base.ports && is_none (place_named r.procs port name)

-- a caller is named that is no process
abbrev pub is_stray : JobsReading → (name port : List ℕ) → Bool
is_stray r name port = (in_open_phase r.base && is_name name) && option_map_or (is_nobody r name) (read_of port) false

abbrev pub is_same_process : Process → Process → Bool
is_same_process a b = a.port == b.port && a.place == b.place

abbrev pub has_exited : List Process → Process → Bool
has_exited exited process = list_any (is_same_process process) exited

-- the block of a process
abbrev pub with_caller_of : Process → JobsReading → JobsReading
with_caller_of process r = record r {
  base = with_block r.base;
  open_block = if has_exited r.exited process then block.Exited else block.Caller process;
  scripts = r.scripts ++ process ∷ [];
}

abbrev pub with_caller : ℕ → (port : ℕ) → Option ℕ → JobsReading → Result JobsReading BadLine
with_caller n port None r = bad n Order
with_caller n port (Some place) r = Ok (with_caller_of (record { port = port; place = place }) r)

-- the place of a process among those of its port
abbrev pub place_of : JobsReading → (port : ℕ) → (name : List ℕ) → Option ℕ
place_of r port name = place_named r.procs port name

-- the item that opens the block of a caller
abbrev pub after_opening : JobsReading → ℕ → List ℕ → List (List ℕ) → (name : List ℕ) → (port : ℕ)
    → Result JobsReading BadLine
after_opening r n word arguments name port =
    after_session_item r n word arguments >>= λ next. with_caller n port (place_of next port name) next

-- the phase that was open is over, where one was
abbrev pub with_phase_closed : Bool → JobsReading → JobsReading
with_phase_closed is_open r = record r {
  open_block = block.Another;
  scripts = [];
  own = [];
  parts = if is_open then r.parts ++ r.own ∷ [] else r.parts;
}

-- with another number of arguments `caller` is a wrong item of the session
abbrev pub after_shared : JobsReading → ℕ → List ℕ → List (List ℕ) → Sort → Result JobsReading BadLine
after_shared r n word arguments Ports = with_base r (base_after_ports r.base n word arguments)
after_shared r n word arguments Caller =
    if length arguments == 2
    then wrong_if n Order (is_stray r (word_at arguments 0) (word_at arguments 1))
    (after_opening r n word arguments (word_at arguments 0) (number_at arguments 1))
    else after_session_item r n word arguments
after_shared r n word arguments Border =
    after_session_item r n word arguments >>= λ next. Ok (with_phase_closed (in_open_phase r.base) next)
after_shared r n word arguments Inside =
    wrong_if n Order (is_exited r.open_block) (with_base r (base_after_step r.base n word arguments))
after_shared r n word arguments Other =
    after_session_item r n word arguments >>= λ next. Ok (record next { open_block = block.Another })

-- ---- processes

-- a process stands once, and a session of a port has one leader
abbrev pub has_stood : List PortProc → PortProc → Bool
has_stood procs q =
    is_some (place_named procs q.port q.proc.name.bytes) || (q.proc.leader && list_any (leads_with q) procs)

-- one of 1,024 of its port
abbrev pub with_proc : JobsReading → ℕ → PortProc → Result JobsReading BadLine
with_proc r n q =
    wrong_if n Order (has_stood r.procs q)
    (wrong_if n Limit (nat_le MOST_PROCESSES (count_by (λ other. other.port == q.port) r.procs))
    (Ok (record r { open_block = block.Another; procs = r.procs ++ q ∷ [] })))

abbrev pub after_proc : JobsReading → ℕ → List (List ℕ) → Result JobsReading BadLine
after_proc r n arguments =
    wrong_unless n Order (is_before_phases r)
    (on_line n (words_in arguments >>= proc_of r.base.ports r.procs) >>= with_proc r n)

-- ---- calls of job control

-- the process of the open block has exited
abbrev pub exits : Block → JobsReading → JobsReading
exits (block.Caller process) r = record r { open_block = block.Exited; exited = r.exited ++ process ∷ [] }
exits other r = record r { open_block = block.Exited }

abbrev pub with_exit : OwnCall → JobsReading → JobsReading
with_exit call.Exit r = exits r.open_block r
with_exit other r = r

-- a call more of the last caller's block
abbrev pub with_own : JobsReading → OwnCall → JobsReading
with_own r call = record r {
  own = r.own ++ record { script = length r.scripts - 1; place = place_in r.base; call = call } ∷ [];
}

abbrev pub with_call : JobsReading → ℕ → OwnCall → Result JobsReading BadLine
with_call r n call = with_base (with_exit call (with_own r call)) (spend n r.base)

abbrev pub after_call : JobsReading → ℕ → JobVerb → List (List ℕ) → Result JobsReading BadLine
after_call r n v arguments =
    wrong_unless n Order (is_caller r.open_block) (on_line n (call_of v arguments) >>= with_call r n)

-- ---- the text

-- an item by the verb that only this text has, if it is one
abbrev pub after_verb : JobsReading → ℕ → List ℕ → List (List ℕ) → Option JobVerb → Result JobsReading BadLine
after_verb r n word arguments (Some verb.Proc) = after_proc r n arguments
after_verb r n word arguments (Some v) = after_call r n v arguments
after_verb r n word arguments None = after_shared r n word arguments (sort_of word)

-- the first item is the header
abbrev pub after_item : JobsReading → ℕ → List ℕ → List (List ℕ) → Result JobsReading BadLine
after_item r n word arguments =
    if at_start r.base then after_session_item r n word arguments else after_verb r n word arguments (verb_of word)

abbrev pub after_line : JobsReading → ℕ → List (List ℕ) → Result JobsReading BadLine
after_line r n [] = Ok r
after_line r n (word ∷ arguments) = if first_is 35 word then Ok r else after_item r n word arguments

abbrev pub jobs_at_end : JobsReading → ℕ → Result JobsSession BadLine
jobs_at_end r n = base_at_end r.base n >>= λ session. Ok (session_with session r.procs r.parts)

-- a text that ends too early is wrong at the line after its last
abbrev pub jobs_from : JobsReading → ℕ → List (List (List ℕ)) → Result JobsSession BadLine
jobs_from r n [] = jobs_at_end r n
jobs_from r n (words ∷ lines) = after_line r n words >>= λ next. jobs_from next (next_line n) lines

-- the session that a text spells, or its first wrong line
abbrev pub jobs_in : List ℕ → Result JobsSession BadLine
jobs_in text = jobs_from first_jobs_reading 1 (lines_in text)
