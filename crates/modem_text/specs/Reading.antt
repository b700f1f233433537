-- Reading a text line by line: what stands beside the items of a session of ports, or the first wrong line. What is
-- left of a text without modem blocks and calls of modem lines is read as a session's.
use Rattle.std.specs.Prelude.{ℕ, ◌-◌, ◌==◌, ◌&&◌, nat_le, Bool, true, false, List, [], ◌∷◌, ◌++◌}
use Rattle.std.specs.Prelude.{length, count_by, Option, None, Some, Result, Ok, if◌then◌else◌}
use Rattle.std.specs.Str.{bytes_eq}
use Rattle.text_lines.specs.Lines.{first_is}
use Rattle.text_lines.specs.Values.{word_at, number_at}
use Rattle.session_text.specs.declared.faults.Reason.TheVariants.{Word, Order, Limit}
use Rattle.session_text.specs.declared.faults.BadLine.{BadLine}
use Rattle.session_text.specs.Stands.{holds}
use Rattle.session_text.specs.Refusals.{next_line, lines_in}
use Rattle.further_text.specs.declared.sorts.Sort.{Sort}
use Rattle.further_text.specs.declared.sorts.Sort.TheVariants.{Ports, Caller, Border, Inside, Other}
use Rattle.further_text.specs.Faults.{wrong_if, wrong_unless, on_line, ◌>>=◌}
use Rattle.further_text.specs.Reading.{BaseReading, first_base, at_start, in_open_phase, base_after_item}
use Rattle.further_text.specs.Reading.{base_after_ports, base_after_step, base_at_end, spend, with_block, place_in}
use Rattle.further_text.specs.Sorts.{sort_of}
use Rattle.modem_text.specs.declared.verbs.ModemVerb.{ModemVerb}
use Rattle.modem_text.specs.declared.verbs.ModemVerb.TheVariants as verb
use Rattle.modem_text.specs.declared.items.ModemItem.{ModemItem}
use Rattle.modem_text.specs.declared.items.ModemItem.TheVariants as item
use Rattle.modem_text.specs.declared.items.OwnCall.{OwnCall}
use Rattle.modem_text.specs.declared.sessions.PinItem.{PinItem}
use Rattle.modem_text.specs.declared.reader.Block.{Block}
use Rattle.modem_text.specs.declared.reader.Block.TheVariants as block
use Rattle.modem_text.specs.Sessions.{PlainPart, no_part, ModemSession, session_with, carrier_name}
use Rattle.modem_text.specs.Items.{item_of}
use Rattle.modem_text.specs.Verbs.{verb_of}

-- What was read of the session of ports; which block is open; in the open phase the ports of the modem blocks and those
-- of the callers' blocks, the items of the modem blocks, and the calls of modem lines; and the phases before it.
pub record ModemReading : Type 0 where
  pub base : BaseReading
  pub open_block : Block
  pub modems : List ℕ
  pub callers : List ℕ
  pub part : PlainPart
  pub parts : List PlainPart

abbrev pub first_modem_reading : ModemReading
first_modem_reading =
    record { base = first_base; open_block = block.Another; modems = []; callers = []; part = no_part; parts = [] }

-- what is read with the session of ports
abbrev pub with_base : ModemReading → Result BaseReading BadLine → Result ModemReading BadLine
with_base r read = read >>= λ base. Ok (record r { base = base })

abbrev pub is_modem : Block → Bool
is_modem (block.Modem port) = true
is_modem other = false

abbrev pub is_caller : Block → Bool
is_caller block.Caller = true
is_caller other = false

abbrev pub port_of : Block → ℕ
port_of (block.Modem port) = port
port_of other = 0

-- ---- the items of a session of ports

abbrev pub after_session_item : ModemReading → ℕ → List ℕ → List (List ℕ) → Result ModemReading BadLine
after_session_item r n word arguments = with_base r (base_after_item r.base n word arguments)

-- the name `carrier` is taken
abbrev pub is_taken : ModemReading → (name : List ℕ) → Bool
is_taken r name = in_open_phase r.base && bytes_eq name carrier_name

-- one of 15 callers of its port in a phase
abbrev pub with_caller : ℕ → (port : ℕ) → ModemReading → Result ModemReading BadLine
with_caller n port r =
    wrong_if n Limit (nat_le 15 (count_by (λ p. p == port) r.callers))
    (Ok (record r { base = with_block r.base; open_block = block.Caller; callers = r.callers ++ port ∷ [] }))

-- the item that opens the block of a caller on a port
abbrev pub after_opening : ModemReading → ℕ → List ℕ → List (List ℕ) → (port : ℕ) → Result ModemReading BadLine
after_opening r n word arguments port = after_session_item r n word arguments >>= with_caller n port

-- the phase that was open is over, where one was
abbrev pub with_phase_closed : Bool → ModemReading → ModemReading
with_phase_closed is_open r = record r {
  open_block = block.Another;
  modems = [];
  callers = [];
  part = no_part;
  parts = if is_open then r.parts ++ r.part ∷ [] else r.parts;
}

-- with another number of arguments `caller` is a wrong item of the session
abbrev pub after_shared : ModemReading → ℕ → List ℕ → List (List ℕ) → Sort → Result ModemReading BadLine
after_shared r n word arguments Ports = with_base r (base_after_ports r.base n word arguments)
after_shared r n word arguments Caller =
    if length arguments == 2
    then wrong_if n Word (is_taken r (word_at arguments 0)) (after_opening r n word arguments (number_at arguments 1))
    else after_session_item r n word arguments
after_shared r n word arguments Border =
    after_session_item r n word arguments >>= λ next. Ok (with_phase_closed (in_open_phase r.base) next)
after_shared r n word arguments Inside =
    wrong_if n Order (is_modem r.open_block) (with_base r (base_after_step r.base n word arguments))
after_shared r n word arguments Other =
    after_session_item r n word arguments >>= λ next. Ok (record next { open_block = block.Another })

-- ---- the items that only this text has

-- a modem block stands in a phase, its items in it, and calls in a caller's block
abbrev pub may_stand : ModemReading → ModemVerb → Bool
may_stand r verb.Modem = in_open_phase r.base
may_stand r verb.Dcd = is_modem r.open_block
may_stand r verb.Dsr = is_modem r.open_block
may_stand r verb.Cts = is_modem r.open_block
may_stand r verb.Ri = is_modem r.open_block
may_stand r other = is_caller r.open_block

abbrev pub with_pin : ModemReading → PinItem → ModemReading
with_pin r pin = record r { part = record r.part { pins = r.part.pins ++ pin ∷ [] } }

-- a call more of the last caller's block
abbrev pub with_own : ModemReading → OwnCall → ModemReading
with_own r call = record r {
  part = record r.part {
    own = r.part.own ++ record { script = length r.callers - 1; place = place_in r.base; call = call } ∷ [];
  };
}

abbrev pub with_item : ModemReading → ℕ → ModemItem → Result ModemReading BadLine
with_item r n (item.Block port) =
    wrong_if n Order (holds r.modems port)
    (Ok (record r { open_block = block.Modem port; modems = r.modems ++ port ∷ [] }))
with_item r n (item.Pin pin up) =
    with_base (with_pin r (record { port = port_of r.open_block; pin = pin; up = up })) (spend n r.base)
with_item r n (item.Call call) = with_base (with_own r call) (spend n r.base)

abbrev pub after_own : ModemReading → ℕ → ModemVerb → List (List ℕ) → Result ModemReading BadLine
after_own r n v arguments =
    wrong_unless n Order (may_stand r v) (on_line n (item_of r.base.ports v arguments) >>= with_item r n)

-- ---- the text

-- an item by the verb that only this text has, if it is one
abbrev pub after_verb : ModemReading → ℕ → List ℕ → List (List ℕ) → Option ModemVerb → Result ModemReading BadLine
after_verb r n word arguments (Some v) = after_own r n v arguments
after_verb r n word arguments None = after_shared r n word arguments (sort_of word)

-- the first item is the header
abbrev pub after_item : ModemReading → ℕ → List ℕ → List (List ℕ) → Result ModemReading BadLine
after_item r n word arguments =
    if at_start r.base then after_session_item r n word arguments else after_verb r n word arguments (verb_of word)

abbrev pub after_line : ModemReading → ℕ → List (List ℕ) → Result ModemReading BadLine
after_line r n [] = Ok r
after_line r n (word ∷ arguments) = if first_is 35 word then Ok r else after_item r n word arguments

abbrev pub modem_at_end : ModemReading → ℕ → Result ModemSession BadLine
modem_at_end r n = base_at_end r.base n >>= λ session. Ok (session_with session r.parts)

-- a text that ends too early is wrong at the line after its last
abbrev pub modem_from : ModemReading → ℕ → List (List (List ℕ)) → Result ModemSession BadLine
modem_from r n [] = modem_at_end r n
modem_from r n (words ∷ lines) = after_line r n words >>= λ next. modem_from next (next_line n) lines

-- the session that a text spells, or its first wrong line
abbrev pub modem_in : List ℕ → Result ModemSession BadLine
modem_in text = modem_from first_modem_reading 1 (lines_in text)
