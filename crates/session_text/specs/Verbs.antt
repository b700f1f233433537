-- The first words of lines.
use Rattle.std.specs.Prelude.{ℕ, ◌==◌, Bool, true, false, List, [], ◌∷◌, Option}
use Rattle.std.specs.Prelude.{None, Some, option_map, codes, if◌then◌else◌}
use Rattle.std.specs.Str.{bytes_eq}
use Rattle.std.specs.Option.{option_or}
use Rattle.text_lines.specs.Values.{choice_of}
use Rattle.session_text.specs.declared.verbs.Verb.{Verb}
use Rattle.session_text.specs.declared.verbs.Verb.TheVariants.{Session, Ports, Flip, Phase, Line}
use Rattle.session_text.specs.declared.verbs.Verb.TheVariants.{Clock, Caller, Tick, End, Step, Call}
use Rattle.session_text.specs.declared.verbs.LineVerb.{LineVerb}
use Rattle.session_text.specs.declared.verbs.LineVerb.TheVariants.{Rx, Rxp, Rxf, Break, Mask, Unmask, Idle, Trigger}
use Rattle.session_text.specs.declared.verbs.CallVerb.{CallVerb}
use Rattle.session_text.specs.declared.verbs.CallVerb.TheVariants as call

-- what each is written as
abbrev pub line_text : LineVerb → List ℕ
line_text Rx = codes "rx"
line_text Rxp = codes "rxp"
line_text Rxf = codes "rxf"
line_text Break = codes "break"
line_text Mask = codes "mask"
line_text Unmask = codes "unmask"
line_text Idle = codes "idle"
line_text Trigger = codes "trigger"

abbrev pub call_text : CallVerb → List ℕ
call_text call.Open = codes "open"
call_text call.Close = codes "close"
call_text call.Read = codes "read"
call_text call.Write = codes "write"
call_text call.GetModes = codes "getm"
call_text call.SetModes = codes "modes"
call_text call.GetDisc = codes "getd"
call_text call.SetDisc = codes "setd"
call_text call.Flush = codes "flush"
call_text call.Xonc = codes "xonc"
call_text call.Inq = codes "inq"
call_text call.Outq = codes "outq"
call_text call.Excl = codes "excl"
call_text call.Nxcl = codes "nxcl"
call_text call.Drain = codes "drain"
call_text call.Counts = codes "counts"
call_text call.Vhangup = codes "vhangup"
call_text call.Send = codes "send"
call_text call.Take = codes "take"

abbrev pub verb_text : Verb → List ℕ
verb_text Session = codes "tty-session"
verb_text Ports = codes "ports"
verb_text Flip = codes "flip"
verb_text Phase = codes "phase"
verb_text Line = codes "line"
verb_text Clock = codes "clock"
verb_text Caller = codes "caller"
verb_text Tick = codes "tick"
verb_text End = codes "end"
verb_text (Step verb) = line_text verb
verb_text (Call verb) = call_text verb

-- the verbs of each sort; `flip` is one in version 2 alone
abbrev pub block_verbs : List Verb
block_verbs = Session ∷ Ports ∷ Phase ∷ Line ∷ Clock ∷ Caller ∷ Tick ∷ End ∷ []

abbrev pub line_verbs : List LineVerb
line_verbs = Rx ∷ Rxp ∷ Rxf ∷ Break ∷ Mask ∷ Unmask ∷ Idle ∷ Trigger ∷ []

abbrev pub rarer_call_verbs : List CallVerb
rarer_call_verbs =
    call.Xonc ∷ call.Inq ∷ call.Outq ∷ call.Excl ∷ call.Nxcl ∷ call.Drain ∷ call.Counts ∷ call.Vhangup ∷ call.Send
    ∷ call.Take ∷ []

abbrev pub call_verbs : List CallVerb
call_verbs =
    call.Open ∷ call.Close ∷ call.Read ∷ call.Write ∷ call.GetModes ∷ call.SetModes ∷ call.GetDisc ∷ call.SetDisc
    ∷ call.Flush ∷ rarer_call_verbs

-- the verb that a word is, if it is one
abbrev pub block_verb_of : List ℕ → Option Verb
block_verb_of word = choice_of verb_text block_verbs word

abbrev pub line_verb_of : List ℕ → Option LineVerb
line_verb_of word = choice_of line_text line_verbs word

abbrev pub call_verb_of : List ℕ → Option CallVerb
call_verb_of word = choice_of call_text call_verbs word

-- .. in a text of this version
abbrev pub verb_of : ℕ → List ℕ → Option Verb
verb_of version word =
    if bytes_eq word (codes "flip") then (if version == 2 then Some Flip else None)
    else option_or (block_verb_of word)
    (option_or (option_map Step (line_verb_of word)) (option_map Call (call_verb_of word)))

-- whether it is one of a call
abbrev pub is_call : Option Verb → Bool
is_call (Some (Call verb)) = true
is_call other = false
