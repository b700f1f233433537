-- What the arguments of an item may be, and what is wrong with them.
use Rattle.std.specs.Prelude.{ℕ, ◌+◌, ◌/◌, ◌==◌, ◌&&◌, ◌||◌, nat_le, nat_lt, Bool, List, [], ◌∷◌}
use Rattle.std.specs.Prelude.{drop, length, Option, None, Some, is_some, codes, if◌then◌else◌}
use Rattle.std.specs.Str.{bytes_eq}
use Rattle.std.specs.List.{filter_map}
use Rattle.std.specs.Option.{option_or}
use Rattle.tty_base.specs.Sizes.{LAST_HANDLE, LEAST_FLIP, MOST_ARRIVALS, MOST_ASKED, MOST_FLIP, MOST_IDLE, MOST_PORTS}
use Rattle.tty_base.specs.Sizes.{MOST_TICKS}
use Rattle.tty_modes.specs.declared.words.Word.{Word}
use Rattle.tty_modes.specs.Reading.{word_of as mode_of}
use Rattle.tty_calls.specs.declared.calls.Access.{Access}
use Rattle.tty_calls.specs.declared.calls.Access.TheVariants as access
use Rattle.tty_calls.specs.declared.calls.When.{When}
use Rattle.tty_calls.specs.declared.calls.When.TheVariants as when
use Rattle.tty_calls.specs.declared.calls.Queue.{Queue}
use Rattle.tty_calls.specs.declared.calls.Queue.TheVariants as queue
use Rattle.tty_calls.specs.declared.calls.Act.{Act}
use Rattle.tty_calls.specs.declared.calls.Act.TheVariants as act
use Rattle.text_lines.specs.Values.{is_number, number_of, is_name, is_hex, choice_of}
use Rattle.session_text.specs.declared.faults.Reason.{Reason}
use Rattle.session_text.specs.declared.faults.Reason.TheVariants as reason
use Rattle.session_text.specs.declared.verbs.Verb.{Verb}
use Rattle.session_text.specs.declared.verbs.Verb.TheVariants.{Session, Ports, Flip, Phase, Line}
use Rattle.session_text.specs.declared.verbs.Verb.TheVariants.{Clock, Caller, Tick, End, Step, Call}
use Rattle.session_text.specs.declared.verbs.LineVerb.{LineVerb}
use Rattle.session_text.specs.declared.verbs.LineVerb.TheVariants.{Rx, Rxp, Rxf, Break, Mask, Unmask, Idle, Trigger}
use Rattle.session_text.specs.declared.verbs.CallVerb.{CallVerb}
use Rattle.session_text.specs.declared.verbs.CallVerb.TheVariants as call
use Rattle.session_text.specs.declared.kinds.ArgumentKind.{ArgumentKind}
use Rattle.session_text.specs.declared.kinds.ArgumentKind.TheVariants as kind

-- ---- fixed words

abbrev pub access_text : Access → List ℕ
access_text access.R = codes "r"
access_text access.W = codes "w"
access_text access.Rw = codes "rw"

abbrev pub access_of : List ℕ → Option Access
access_of word = choice_of access_text (access.R ∷ access.W ∷ access.Rw ∷ []) word

abbrev pub when_text : When → List ℕ
when_text when.Now = codes "now"
when_text when.Drain = codes "drain"
when_text when.Flush = codes "flush"

abbrev pub when_of : List ℕ → Option When
when_of word = choice_of when_text (when.Now ∷ when.Drain ∷ when.Flush ∷ []) word

abbrev pub queue_text : Queue → List ℕ
queue_text queue.Input = codes "in"
queue_text queue.Output = codes "out"
queue_text queue.Both = codes "both"

abbrev pub queue_of : List ℕ → Option Queue
queue_of word = choice_of queue_text (queue.Input ∷ queue.Output ∷ queue.Both ∷ []) word

abbrev pub act_text : Act → List ℕ
act_text act.Ooff = codes "ooff"
act_text act.Oon = codes "oon"
act_text act.Ioff = codes "ioff"
act_text act.Ion = codes "ion"

abbrev pub act_of : List ℕ → Option Act
act_of word = choice_of act_text (act.Ooff ∷ act.Oon ∷ act.Ioff ∷ act.Ion ∷ []) word

abbrev pub is_nonblock : List ℕ → Bool
is_nonblock word = bytes_eq word (codes "nonblock")

-- the mode words among the arguments behind the second
abbrev pub modes_in : List (List ℕ) → List Word
modes_in arguments = filter_map mode_of (drop 2 arguments)

-- ---- how many arguments, and of which kinds

abbrev pub line_may_have : LineVerb → ℕ → Bool
line_may_have Rx count = count == 1
line_may_have Rxp count = count == 1
line_may_have Rxf count = count == 1
line_may_have Break count = count == 0
line_may_have Mask count = count == 0
line_may_have Unmask count = count == 0
line_may_have Idle count = count == 1
line_may_have Trigger count = count == 1

abbrev pub call_may_have : CallVerb → ℕ → Bool
call_may_have call.Open count = count == 2 || count == 3
call_may_have call.Read count = count == 2
call_may_have call.Write count = count == 2
call_may_have call.SetModes count = nat_le 3 count
call_may_have call.SetDisc count = count == 2
call_may_have call.Flush count = count == 2
call_may_have call.Xonc count = count == 2
call_may_have call.Send count = count == 2
call_may_have verb count = count == 1

abbrev pub may_have : Verb → ℕ → Bool
may_have Session count = count == 1
may_have Ports count = count == 1
may_have Flip count = count == 2
may_have Phase count = count == 0
may_have Line count = count == 1
may_have Clock count = count == 1
may_have Caller count = count == 2
may_have Tick count = count == 1
may_have End count = count == 0
may_have (Step verb) count = line_may_have verb count
may_have (Call verb) count = call_may_have verb count

-- Of a verb without arguments any kind may be said.
abbrev pub line_kind : LineVerb → ArgumentKind
line_kind Rx = kind.Hex MOST_ARRIVALS
line_kind Rxp = kind.Hex MOST_ARRIVALS
line_kind Rxf = kind.Hex MOST_ARRIVALS
line_kind Break = kind.Name
line_kind Mask = kind.Name
line_kind Unmask = kind.Name
line_kind Idle = kind.Number 1 MOST_IDLE
line_kind Trigger = kind.Trigger

-- the kind of an argument after the handle
abbrev pub call_kind : CallVerb → ℕ → ArgumentKind
call_kind call.Open place = if place == 1 then kind.Access else kind.Nonblock
call_kind call.Read place = kind.Number 1 MOST_ASKED
call_kind call.Write place = kind.Hex MOST_ASKED
call_kind call.SetModes place = if place == 1 then kind.When else kind.Mode
call_kind call.SetDisc place = kind.Number 0 4294967295
call_kind call.Flush place = kind.Queue
call_kind call.Xonc place = kind.Act
call_kind call.Send place = kind.Hex MOST_ASKED
call_kind verb place = kind.Name

-- the kind of an item's argument at a place, counted from 0
abbrev pub kind_at : Verb → ℕ → ArgumentKind
kind_at Session place = kind.Number 1 2
kind_at Ports place = kind.Number 1 MOST_PORTS
kind_at Flip place = if place == 0 then kind.Port else kind.Number LEAST_FLIP MOST_FLIP
kind_at Phase place = kind.Name
kind_at Line place = kind.Port
kind_at Clock place = kind.Port
kind_at Caller place = if place == 0 then kind.Name else kind.Port
kind_at Tick place = kind.Number 1 MOST_TICKS
kind_at End place = kind.Name
kind_at (Step verb) place = line_kind verb
kind_at (Call verb) place = if place == 0 then kind.Number 0 LAST_HANDLE else call_kind verb place

-- ---- what is wrong with an argument

abbrev pub word_fault : Bool → Option Reason
word_fault fits = if fits then None else Some reason.Word

abbrev pub limit_fault : Bool → Option Reason
limit_fault fits = if fits then None else Some reason.Limit

abbrev pub number_fault : List ℕ → Bool → Option Reason
number_fault word fits = if is_number word then limit_fault fits else Some reason.Number

abbrev pub is_trigger : ℕ → Bool
is_trigger number = ((number == 1 || number == 4) || number == 8) || number == 14

abbrev pub hex_fault : List ℕ → ℕ → Option Reason
hex_fault word most = if is_hex word then limit_fault (nat_le (length word / 2) most) else Some reason.Hex

abbrev pub fault_of : ℕ → ArgumentKind → List ℕ → Option Reason
fault_of ports kind.Name word = word_fault (is_name word)
fault_of ports kind.Port word = number_fault word (nat_lt (number_of word) ports)
fault_of ports (kind.Number least most) word =
    number_fault word (nat_le least (number_of word) && nat_le (number_of word) most)
fault_of ports kind.Trigger word = number_fault word (is_trigger (number_of word))
fault_of ports (kind.Hex most) word = hex_fault word most
fault_of ports kind.Access word = word_fault (is_some (access_of word))
fault_of ports kind.Nonblock word = word_fault (is_nonblock word)
fault_of ports kind.When word = word_fault (is_some (when_of word))
fault_of ports kind.Queue word = word_fault (is_some (queue_of word))
fault_of ports kind.Act word = word_fault (is_some (act_of word))
fault_of ports kind.Mode word = word_fault (is_some (mode_of word))

-- the first fault of an item's arguments from a place on
abbrev pub fault_from : ℕ → Verb → ℕ → List (List ℕ) → Option Reason
fault_from ports verb place [] = None
fault_from ports verb place (word ∷ words) =
    option_or (fault_of ports (kind_at verb place) word) (fault_from ports verb (place + 1) words)
