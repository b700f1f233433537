-- What is left of a text without the lines that only it has: a session of ports.
use Rattle.std.specs.Prelude.{◌≡◌, ℕ, Bool, Option, None, Some, is_some, Ok}
use Rattle.std.specs.Prelude.{Err, List, [], ◌∷◌, flat_map, map, if◌then◌else◌}
use Rattle.tty_calls.specs.Sessions.{PlainSession}
use Rattle.text_lines.specs.Lines.{first_is}
use Rattle.session_text.specs.Grammar.{Spells}
use Rattle.session_text.specs.Refusals.{lines_in}
use Rattle.further_text.specs.Faults.{Read}
use Rattle.further_text.specs.Left.{text_left}
use Rattle.modem_text.specs.declared.verbs.ModemVerb.{ModemVerb}
use Rattle.modem_text.specs.declared.verbs.ModemVerb.TheVariants.{Modem}
use Rattle.modem_text.specs.declared.items.ModemItem.{ModemItem}
use Rattle.modem_text.specs.declared.items.ModemItem.TheVariants as item
use Rattle.modem_text.specs.declared.items.OwnCall.{OwnCall}
use Rattle.modem_text.specs.Items.{item_of}
use Rattle.modem_text.specs.Sessions.{PlainPart, PinStep, ModemSession, session_with, step_of}
use Rattle.modem_text.specs.Verbs.{verb_of}

-- the first word of a line that only this text has
abbrev pub is_own : List ℕ → Bool
is_own word = is_some (verb_of word)

-- What a line says that only this text has: an item of a modem block, or a call. Nothing in these hangs on how many
-- ports there are.
abbrev pub item_by : Read ModemItem → List ModemItem
item_by (Ok item) = item ∷ []
item_by (Err reason) = []

abbrev pub items_by : Option ModemVerb → (arguments : List (List ℕ)) → List ModemItem
items_by None arguments = []
items_by (Some Modem) arguments = []
items_by (Some verb) arguments = item_by (item_of 0 verb arguments)

abbrev pub items_said : List (List ℕ) → List ModemItem
items_said [] = []
items_said (word ∷ arguments) = if first_is 35 word then [] else items_by (verb_of word) arguments

-- the calls among them, and the levels that the modem gives lines
abbrev pub call_in : ModemItem → List OwnCall
call_in (item.Call call) = call ∷ []
call_in other = []

abbrev pub pin_in : ModemItem → List PinStep
pin_in (item.Pin pin up) = record { pin = pin; up = up } ∷ []
pin_in other = []

-- those that a phase has beside
abbrev pub own_of : PlainPart → List OwnCall
own_of part = map (λ o. o.call) part.own

abbrev pub pins_of : PlainPart → List PinStep
pins_of part = map step_of part.pins

-- what is left spells a session of ports, and this is that session with what its phases have beside, which is what its
-- own lines say, in their order
pub record IsLeft (text : List ℕ) (session : ModemSession) : Type 0 where
  pub base : PlainSession
  pub parts : List PlainPart
  pub spells : Spells (text_left is_own text) base
  pub is : session ≡ session_with base parts
  pub calls : flat_map own_of parts ≡ flat_map call_in (flat_map items_said (lines_in text))
  pub pins : flat_map pins_of parts ≡ flat_map pin_in (flat_map items_said (lines_in text))
