-- A port's journal while what stands beside it is read.
use Rattle.std.specs.Prelude.{◌≡◌, ℕ, ◌-◌, ◌<◌, Option, Some, List, [], ◌∷◌, take, slice_get}
use Rattle.tty_base.specs.declared.characters.Flagged.{Flagged}
use Rattle.tty_calls.specs.declared.journals.Who.TheVariants.{Caller}
use Rattle.tty_calls.specs.Plain.{PlainCall, PlainAnswer, answered, PlainEntry}
use Rattle.tty_terminal.specs.Terminals.{Terminal}
use Rattle.tty_terminal.specs.Steps.{after}

-- its entries, the calls that they are of, and the terminal before them
pub record Journal : Type 0 where
  pub entries : List PlainEntry
  pub calls : ℕ → ℕ → Option PlainCall
  pub opening : Terminal

-- where these entries lead
abbrev pub terminal_after : (calls : ℕ → ℕ → Option PlainCall) → Terminal → List PlainEntry → Terminal
terminal_after calls t [] = t
terminal_after calls t (e ∷ es) = terminal_after calls (after calls t e) es

-- the terminal to which the first entries lead
abbrev pub terminal_at : Journal → (at : ℕ) → Terminal
terminal_at journal n = terminal_after journal.calls journal.opening (take n journal.entries)

abbrev pub IsAnswerBy : (caller : ℕ) → PlainAnswer → PlainEntry → Type 0
IsAnswerBy c answer e = (e.who ≡ Caller c) × ((dropped : List Flagged) × (e.event ≡ answered answer dropped))

-- the entry before a place is this answer to a caller
pub record IsAnswerAt (journal : Journal) (c at : ℕ) (answer : PlainAnswer) : Type 0 where
  pub entry : PlainEntry
  pub some : 0 < at
  pub stands : slice_get journal.entries (at - 1) ≡ Some entry
  pub is_answer : IsAnswerBy c answer entry
