-- What the line of a process says, or why it is wrong: how many words it has, and then each word from the left.
use Rattle.std.specs.Prelude.{ℕ, ◌==◌, nat_lt, Bool, true, false, ◌&&◌, List, [], ◌∷◌}
use Rattle.std.specs.Prelude.{codes, filter, Option, None, Some, Ok, Err, if◌then◌else◌}
use Rattle.std.specs.Str.{bytes_eq}
use Rattle.std.specs.List.{position_from}
use Rattle.tty_base.specs.Sizes.{MOST_PROCESSES}
use Rattle.text_lines.specs.Values.{is_name}
use Rattle.session_text.specs.declared.faults.Reason.TheVariants.{Word}
use Rattle.further_text.specs.Faults.{Read, ◌>>=◌}
use Rattle.further_text.specs.Numbers.{port_in}
use Rattle.job_text.specs.declared.sessions.PortProc.{PortProc}
use Rattle.job_text.specs.Calls.{group_in}

-- ---- the words of the line: NAME P S G PARENT, and flags

pub record ProcWords : Type 0 where
  pub name : List ℕ
  pub port : List ℕ
  pub session : List ℕ
  pub group : List ℕ
  pub parent : List ℕ
  pub flags : List (List ℕ)

-- a word, and those behind it
pub record Parted : Type 0 where
  pub word : List ℕ
  pub rest : List (List ℕ)

abbrev pub parted : List (List ℕ) → Read Parted
parted [] = Err Word
parted (word ∷ rest) = Ok (record { word = word; rest = rest })

abbrev pub rest_of : List (List ℕ) → List (List ℕ)
rest_of [] = []
rest_of (word ∷ rest) = rest

abbrev pub are_none : List (List ℕ) → Bool
are_none [] = true
are_none (word ∷ rest) = false

-- at most three flags
abbrev pub few_flags : List (List ℕ) → Bool
few_flags flags = are_none (rest_of (rest_of (rest_of flags)))

abbrev pub words_in : List (List ℕ) → Read ProcWords
words_in words =
    parted words
    >>= λ name.
    parted name.rest
    >>= λ port. parted port.rest >>= λ session. parted session.rest >>= λ group. parted group.rest >>= λ parent.
    if few_flags parent.rest
    then Ok (record {
      name = name.word;
      port = port.word;
      session = session.word;
      group = group.word;
      parent = parent.word;
      flags = parent.rest;
    })
    else Err Word

-- ---- each word

abbrev pub name_in : List ℕ → Read (List ℕ)
name_in word = if is_name word then Ok word else Err Word

-- the place of a process among those of its port
abbrev pub place_named : List PortProc → (port : ℕ) → (name : List ℕ) → Option ℕ
place_named procs port name =
    position_from (λ q. bytes_eq q.proc.name.bytes name) 0 (filter (λ q. q.port == port) procs)

-- one of the 1,024 that a port may have
abbrev pub found : Option ℕ → Read (Option ℕ)
found None = Err Word
found (Some place) = if nat_lt place MOST_PROCESSES then Ok (Some place) else Err Word

-- `-`, or the name of an earlier process of the port
abbrev pub parent_in : List PortProc → (port : ℕ) → List ℕ → Read (Option ℕ)
parent_in procs port word = if bytes_eq word (codes "-") then Ok None else found (place_named procs port word)

-- which of the flags stand there, each once at most, and in this order
pub record Flags : Type 0 where
  pub leader : Bool
  pub nottin : Bool
  pub nottou : Bool

-- whether words begin with a flag, and those behind it
abbrev pub has_flag : (flag : List ℕ) → List (List ℕ) → Bool
has_flag flag [] = false
has_flag flag (word ∷ words) = bytes_eq word flag

abbrev pub after_flag : (flag : List ℕ) → List (List ℕ) → List (List ℕ)
after_flag flag [] = []
after_flag flag (word ∷ words) = if bytes_eq word flag then words else word ∷ words

abbrev pub and_no_more : List (List ℕ) → Flags → Read Flags
and_no_more [] flags = Ok flags
and_no_more (word ∷ words) flags = Err Word

abbrev pub flags_in : List (List ℕ) → Read Flags
flags_in words =
    and_no_more (after_flag (codes "nottou") (after_flag (codes "nottin") (after_flag (codes "leader") words)))
    (record {
      leader = has_flag (codes "leader") words;
      nottin = has_flag (codes "nottin") (after_flag (codes "leader") words);
      nottou = has_flag (codes "nottou") (after_flag (codes "nottin") (after_flag (codes "leader") words));
    })

-- a process, of a session with so many ports and these processes before it
abbrev pub proc_of : (ports : ℕ) → List PortProc → ProcWords → Read PortProc
proc_of ports procs words =
    name_in words.name
    >>= λ name.
    port_in ports words.port >>= λ port. group_in words.session >>= λ session. group_in words.group >>= λ group.
    parent_in procs port words.parent >>= λ parent. flags_in words.flags >>= λ flags.
    Ok (record {
      port = port;
      proc = record {
        name = record { bytes = name; spare = [] };
        session = session;
        group = group;
        parent = parent;
        leader = flags.leader;
        nottin = flags.nottin;
        nottou = flags.nottou;
      };
    })

-- a leader of the same session of the same port
abbrev pub leads_with : PortProc → PortProc → Bool
leads_with of q = (q.port == of.port && q.proc.leader) && q.proc.session == of.proc.session
