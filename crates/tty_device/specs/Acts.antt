-- What the parts of a method need, and what they come to: for private functions alone.
use Rattle.std.specs.Prelude.{◌≡◌, ℕ, ◌<◌, ◌≤◌, ◌+◌, ◌-◌, min, false, List, ◌++◌, length, map, take, slice_set}
use Rattle.tty_base.specs.Sizes.{MOST_SENT}
use Rattle.tty_base.specs.Characters.{good_characters}
use Rattle.tty_base.specs.declared.characters.Flag.{Flag}
use Rattle.tty_base.specs.declared.characters.Flagged.{Flagged}
use Rattle.word_ring.specs.Ends.{PutterState, TakerState, NothingWaits}
use Rattle.tty_calls.specs.Plain.{PlainCall, handle_of}
use Rattle.tty_terminal.specs.declared.rooms.Met.{Met}
use Rattle.tty_terminal.specs.declared.rooms.Met.TheVariants as met
use Rattle.tty_terminal.specs.Terminals.{Terminal, idle_caller}
use Rattle.tty_terminal.specs.Receiving.{accepts, after_characters, AcceptsAll}
use Rattle.tty_terminal.specs.Steps.{with_caller}
use Rattle.tty_terminal.specs.Kept.{kept}
use Rattle.tty_device.specs.declared.askers.Asker.{Asker}
use Rattle.tty_device.specs.declared.askers.Verb.{Verb}
use Rattle.tty_device.specs.Askers.{state_of, verb_of}
use Rattle.tty_device.specs.Kept.{Taken, dropped}
use Rattle.tty_device.specs.Devices.{MOST_FLUSHED, caller_waiting}
use Rattle.tty_device.specs.Lines.{PutEnd, PutsAndPushes}

-- what is noted of a caller once its call has met something
abbrev pub settled : Terminal → (c : ℕ) → Asker → PlainCall → Met → Terminal
settled t c asker call met.Waits = kept (with_caller t c (caller_waiting t (state_of asker) (handle_of call)))
settled t c asker call (met.Gives answer) = kept (with_caller t c idle_caller)
settled t c asker call (met.Takes n) = kept (with_caller t c idle_caller)

abbrev pub verbs_after : List Verb → (c : ℕ) → PlainCall → Met → List Verb
verbs_after verbs c call met.Waits = slice_set verbs c (verb_of call)
verbs_after verbs c call (met.Gives answer) = verbs
verbs_after verbs c call (met.Takes n) = verbs

-- all that one look shows was taken, and noted as dropped
pub record DropsOut (old new : TakerState Flagged) (noted noted' : List Taken) : Type 0 where
  pub chars : List Flagged
  pub tail : ℕ
  pub ring : new.ring ≡ old.ring
  pub looked : old.floor ≤ tail
  pub all : length old.taken + length chars ≡ tail
  pub moved : new.taken ≡ old.taken ++ chars
  pub notes : noted' ≡ noted ++ map dropped chars
  pub shown : tail ≤ new.floor

-- these were taken, and received
pub record FlushesLook (t u : Terminal) (old new : TakerState Flagged) (chars : List Flagged)
    (most count : ℕ) : Type 0 where
  pub counted : count ≡ length chars
  pub ring : new.ring ≡ old.ring
  pub moved : new.taken ≡ old.taken ++ chars
  pub looked : old.floor ≤ new.floor
  pub few : length chars ≤ min most (new.floor - length old.taken)
  pub accepted : AcceptsAll t chars
  pub left : u ≡ kept (after_characters t chars)
  pub all : length chars < min most (new.floor - length old.taken) → accepts u ≡ false

-- nothing waits between the two ends, and there is room for so many more
pub record IsClear (f : TakerState Flagged) (p : PutterState Flagged) (more : ℕ) : Type 0 where
  pub ring : p.ring ≡ f.ring
  pub clear : NothingWaits p f
  pub passes : more ≤ f.capacity
  pub fits : more ≤ p.capacity
  pub small : length p.sent + more ≤ MOST_SENT

-- good characters of these bytes were put and shown, and so many of them taken, where nothing waited
pub record PassesBytes (f g : TakerState Flagged) (p q : PutterState Flagged) (bytes : List ℕ) (count : ℕ) : Type 0
  where
    pub ring : g.ring ≡ f.ring
    pub moved : g.taken ≡ f.taken ++ good_characters (take count bytes)
    pub looked : f.floor ≤ g.floor
    pub shown : g.floor ≡ length q.sent
    pub same : q.ring ≡ p.ring
    pub holds : q.capacity ≡ p.capacity
    pub sent : q.sent ≡ p.sent ++ good_characters bytes
    pub pushed : q.pushed ≡ q.sent
    pub known : p.floor ≤ q.floor

-- bytes were put and pushed, and a look showed all of them; these were taken, and received
pub record HandsIn (t u : Terminal) (f g : TakerState Flagged) (old new : PutEnd) (chars : List Flagged)
    (flag : Flag) (bytes : List ℕ) (count : ℕ) : Type 0 where
  pub puts : PutsAndPushes old new flag bytes count
  pub hands : FlushesLook t u f g chars MOST_FLUSHED (length chars)
  pub seen : length new.sent ≤ g.floor
