-- A port as a value: the terminal, the journal that leads to it, the calls that are kept, and the end of the flip
-- buffer at which characters are taken out.
use Rattle.std.specs.Prelude.{◌≡◌, ℕ, List, [], ◌∷◌, ◌++◌, Bool, true, false, ◌&&◌, ◌||◌, not}
use Rattle.std.specs.Prelude.{Option, None, Some, ◌==◌, ◌*◌, ◌<◌, ◌≤◌, if◌then◌else◌, length}
use Rattle.tty_base.specs.Sizes.{COLUMNS_OF_ENTRY, MOST_ENTRIES, MOST_FLIP}
use Rattle.tty_base.specs.declared.characters.Flagged.{Flagged}
use Rattle.word_ring.specs.Ends.{TakerState}
use Rattle.tty_calls.specs.declared.journals.Who.{Who}
use Rattle.tty_calls.specs.declared.journals.Who.TheVariants.{Caller, Flusher, Session}
use Rattle.tty_calls.specs.declared.answers.Denied.{Denied}
use Rattle.tty_calls.specs.declared.answers.Denied.TheVariants.{NoMemory, Full}
use Rattle.tty_calls.specs.Plain.{PlainCall, PlainEvent, flushed, caller_ended, hung_up, PlainEntry}
use Rattle.ldisc_switch.specs.Disciplines.{column_in}
use Rattle.tty_terminal.specs.Terminals.{Terminal, caller_at, has_begun, begun_of, live_count}
use Rattle.tty_terminal.specs.Receiving.{accepts}
use Rattle.tty_terminal.specs.Steps.{Allowed, after}
use Rattle.tty_terminal.specs.Runs.{IsRun, OneGeneration, chars_of}

-- a call that the port keeps
pub record PlainKept : Type 0 where
  pub caller : ℕ
  pub step : ℕ
  pub call : PlainCall

pub record PortValue : Type 0 where
  pub terminal : Terminal
  pub journal : List PlainEntry
  -- the calls by caller and step, and the number of callers of each phase
  pub kept : List PlainKept
  pub counts : List ℕ
  -- the most entries that the journal may have, and whether memory was wanting
  pub limit : ℕ
  pub starved : Bool
  -- the end of the flip buffer at which characters are taken out
  pub flip : TakerState Flagged

-- the kept call of a caller and step
abbrev pub call_in : List PlainKept → ℕ → ℕ → Option PlainCall
call_in [] c step = None
call_in (k ∷ ks) c step = if (k.caller == c) && (k.step == step) then Some k.call else call_in ks c step

-- the kept calls have begun
abbrev pub AllBegun : Terminal → List PlainKept → Type 0
AllBegun t [] = Unit {0}
AllBegun t (k ∷ ks) = (k.step < begun_of (caller_at t k.caller)) × AllBegun t ks

-- what holds of every port
pub record IsPort (v : PortValue) : Type 0 where
  -- the journal is a run, and leads to the terminal
  pub run : IsRun (call_in v.kept) v.counts v.flip.capacity v.journal v.terminal
  pub one : OneGeneration v.journal
  -- its characters are those that were taken out of the flip buffer
  pub chars : chars_of v.journal ≡ v.flip.taken
  -- a look counts at least what the last line end said was sent
  pub sent : v.terminal.sent ≤ v.flip.floor
  pub capacity : v.flip.capacity ≤ MOST_FLIP
  -- so that numbers of 64 bits serve for the characters and for the column
  pub bounded : length v.flip.taken ≤ MOST_FLIP * length v.journal
  pub column : column_in v.terminal.disc ≤ COLUMNS_OF_ENTRY * length v.journal
  pub few : length v.journal ≤ v.limit
  pub limit : v.limit ≤ MOST_ENTRIES
  pub begun : AllBegun v.terminal v.kept

-- the port with one more entry
abbrev pub with_entry : PortValue → PlainEntry → PortValue
with_entry v e = record v { terminal = after (call_in v.kept) v.terminal e; journal = v.journal ++ e ∷ [] }

-- the entry is a step of the terminal; the flip buffer is as said, and nothing else changes
pub record Appends (old new : PortValue) (flip : TakerState Flagged) (e : PlainEntry) : Type 0 where
  pub allowed : Allowed (call_in old.kept) old.counts old.terminal e
  pub appended : new ≡ record (with_entry old e) { flip = flip }

-- a port that can make an entry
abbrev pub IsOpen : PortValue → Type 0
IsOpen v = (length v.journal < v.limit) × (v.starved ≡ false)

-- the journal is full, and nothing changes; or memory is wanting, which the port remembers
abbrev pub Denies : Denied → PortValue → PortValue → Type 0
Denies Full old new = (length old.journal ≡ old.limit) × (new ≡ old)
Denies NoMemory old new = (length old.journal < old.limit) × (new ≡ record old { starved = true })

-- no handle is live, or the discipline does not accept
abbrev pub is_stuck : Terminal → Bool
is_stuck t = (live_count t == 0) || not (accepts t)

-- ---- entries

-- an entry of the phase that runs
abbrev pub phase_entry : PortValue → Who → PlainEvent → PlainEntry
phase_entry v who event =
    record { who = who; step = v.terminal.phase; part = 0; generation = v.terminal.generation; event = event }

-- an entry of a caller's next step
abbrev pub caller_entry : PortValue → ℕ → PlainEvent → PlainEntry
caller_entry v c event =
    record {
      who = Caller c;
      step = (caller_at v.terminal c).next;
      part = (caller_at v.terminal c).parts;
      generation = v.terminal.generation;
      event = event;
    }

-- the end of a caller's calls in a phase
abbrev pub end_entry : PortValue → ℕ → PlainEntry
end_entry v c = record {
  who = Caller c;
  step = (caller_at v.terminal c).next;
  part = 0;
  generation = v.terminal.generation;
  event = caller_ended;
}

abbrev pub flush_entry : PortValue → ℕ → ℕ → List Flagged → PlainEntry
flush_entry v run part chars =
    record { who = Flusher; step = run; part = part; generation = v.terminal.generation; event = flushed chars }

abbrev pub hangup_entry : PortValue → List Flagged → PlainEntry
hangup_entry v dropped = record {
  who = Session;
  step = length v.counts;
  part = 0;
  generation = v.terminal.generation;
  event = hung_up dropped;
}

-- ---- kept calls

-- the port keeps the call from its first attempt on
abbrev pub kept_with : Bool → List PlainKept → ℕ → ℕ → PlainCall → List PlainKept
kept_with begun ks c step call = if begun then ks else ks ++ record { caller = c; step = step; call = call } ∷ []

abbrev pub with_call : PortValue → ℕ → ℕ → PlainCall → PortValue
with_call v c step call = record v { kept = kept_with (has_begun (caller_at v.terminal c)) v.kept c step call }
