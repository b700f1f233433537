-- What these lines say, or why one is wrong: how many arguments it has, and then each argument from the left.
use Rattle.std.specs.Prelude.{ℕ, ◌==◌, Bool, List, length, Ok, Err, if◌then◌else◌}
use Rattle.text_lines.specs.Values.{word_at}
use Rattle.session_text.specs.declared.faults.Reason.TheVariants.{Word}
use Rattle.further_text.specs.Faults.{Read, ◌>>=◌}
use Rattle.further_text.specs.Numbers.{bounded, port_in, handle_in}
use Rattle.modem_lines.specs.declared.pins.Pin.{Pin}
use Rattle.modem_lines.specs.declared.pins.Pin.TheVariants as pin
use Rattle.modem_text.specs.declared.verbs.ModemVerb.{ModemVerb}
use Rattle.modem_text.specs.declared.verbs.ModemVerb.TheVariants.{Modem, Dcd, Dsr, Cts, Ri, Mget, Mset}
use Rattle.modem_text.specs.declared.verbs.ModemVerb.TheVariants.{Mbis, Mbic, Softcar, Getcar, Hupcl, Msr}
use Rattle.modem_text.specs.declared.items.OwnCall.{OwnCall}
use Rattle.modem_text.specs.declared.items.OwnCall.TheVariants as call
use Rattle.modem_text.specs.declared.items.ModemItem.{ModemItem}
use Rattle.modem_text.specs.declared.items.ModemItem.TheVariants as item

-- 0 or 1
abbrev pub level_in : List ℕ → Read Bool
level_in word = bounded 1 word >>= λ n. Ok (n == 1)

-- how many arguments a line has
abbrev pub count_of : ModemVerb → ℕ
count_of Mset = 2
count_of Mbis = 2
count_of Mbic = 2
count_of Softcar = 2
count_of Hupcl = 2
count_of other = 1

abbrev pub pin_item : Pin → List ℕ → Read ModemItem
pin_item pin word = level_in word >>= λ up. Ok (item.Pin pin up)

-- bits of TIOCMGET
abbrev pub bits_in : List ℕ → Read ℕ
bits_in word = bounded 511 word

abbrev pub call_item : OwnCall → ModemItem
call_item call = item.Call call

-- a verb of a call
abbrev pub IsCall : ModemVerb → Type 0
IsCall Modem = ⊥
IsCall Dcd = ⊥
IsCall Dsr = ⊥
IsCall Cts = ⊥
IsCall Ri = ⊥
IsCall other = Unit {0}

-- one of a call with bits
abbrev pub IsBits : ModemVerb → Type 0
IsBits Mset = Unit {0}
IsBits Mbis = Unit {0}
IsBits Mbic = Unit {0}
IsBits other = ⊥

abbrev pub read_item : (ports : ℕ) → ModemVerb → (first second : List ℕ) → Read ModemItem
read_item ports Modem a b = port_in ports a >>= λ port. Ok (item.Block port)
read_item ports Dcd a b = pin_item pin.Dcd a
read_item ports Dsr a b = pin_item pin.Dsr a
read_item ports Cts a b = pin_item pin.Cts a
read_item ports Ri a b = pin_item pin.Ri a
read_item ports Mget a b = handle_in a >>= λ h. Ok (call_item (call.Mget h))
read_item ports Mset a b = handle_in a >>= λ h. bits_in b >>= λ bits. Ok (call_item (call.Mset h bits))
read_item ports Mbis a b = handle_in a >>= λ h. bits_in b >>= λ bits. Ok (call_item (call.Mbis h bits))
read_item ports Mbic a b = handle_in a >>= λ h. bits_in b >>= λ bits. Ok (call_item (call.Mbic h bits))
read_item ports Softcar a b = handle_in a >>= λ h. level_in b >>= λ on. Ok (call_item (call.Softcar h on))
read_item ports Getcar a b = handle_in a >>= λ h. Ok (call_item (call.Getcar h))
read_item ports Hupcl a b = handle_in a >>= λ h. level_in b >>= λ on. Ok (call_item (call.Hupcl h on))
read_item ports Msr a b = handle_in a >>= λ h. Ok (call_item (call.Msr h))

-- what a line says with these arguments
abbrev pub item_of : (ports : ℕ) → ModemVerb → List (List ℕ) → Read ModemItem
item_of ports verb arguments =
    if length arguments == count_of verb
    then read_item ports verb (word_at arguments 0) (word_at arguments 1)
    else Err Word
