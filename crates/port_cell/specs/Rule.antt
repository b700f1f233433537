-- What holds of the cell between any two steps: of its words, the value at home, and what all seats know.
-- Of the value it sees the name and the list alone.
use Rattle.std.specs.Prelude.{◌≡◌, ℕ, ◌+◌, ◌<◌, ◌≤◌, ◌⊎◌, ◌==◌, List, [], ◌∷◌, length, true, Option, Some}
use Rattle.tty_base.specs.Sizes.{MOST_SEATS}
use mathlib.Core.Option.{some, none}
use lib.ListN.{get_elem?}
use Rattle.atomic_table.specs.Table.{State}
use Rattle.port_cell.specs.declared.kept.Stamped.{Stamped}
use Rattle.port_cell.specs.declared.view.Joined.{Joined}
use Rattle.port_cell.specs.declared.view.View.{View}
use Rattle.port_cell.specs.Entries.{generation_of, GoesOn, Begins, Keeps}
use Rattle.port_cell.specs.Word.{GENERATION_END, word_of}
use Rattle.port_cell.specs.Views.{total, Knows, bit_of, lone_part, turns_of, raises_of, users_of}
use Rattle.port_cell.specs.Views.{references_of, marks_of, lone_marks_of, installs_of, spent_view}

module _ {N E : Type 0} where
  -- how often the number n was joined into this seat
  abbrev pub joins_of : ℕ → View N E → ℕ
  joins_of n v = total (λ (x : Joined N E). bit_of (x.number == n)) v.joined

  -- of each seat that was joined: its name, its place, which is spent, and that its own entries are kept
  abbrev pub TookIn : N → List (View N E) → List (Stamped E) → List (Joined N E) → Type 0
  TookIn name views latest [] = Unit {0}
  TookIn name views latest (x ∷ xs) =
      ((x.name ≡ Some name) × (get_elem? views x.number ≡ some spent_view) × Keeps x.number x.seen latest)
      × TookIn name views latest xs

  pub record LiveOk (name : N) (first latest : List (Stamped E)) (views : List (View N E)) (j : ℕ)
      (v : View N E) : Type 0 where
    pub named : v.name ≡ Some name
    pub numbered : v.number ≡ j
    pub made : 0 < v.made → (j ≡ 0) × (v.made ≡ length views)
    pub began : Begins first v.seen
    pub stands : Keeps j v.seen latest
    pub joins : TookIn name views latest v.joined
    pub newest : v.turn ≡ true → v.seen ≡ latest

  pub record ViewOk (name : N) (first latest : List (Stamped E)) (generation : ℕ) (views : List (View N E)) (j : ℕ)
      (v : View N E) : Type 0 where
    pub live : (v ≡ spent_view) ⊎ LiveOk name first latest views j v
    pub knows : Knows generation v.user
    pub raised : v.raised ≡ true → (v.turn ≡ true) × (lone_part v.user ≡ 1) × (generation_of v.seen < GENERATION_END)

pub record Rule {V N E : Type 0} (name : V → N) (list : V → List (Stamped E)) (first : V) (seats : ℕ)
    (s : State (Option V) (View N E)) : Type 0 where
  pub generation : ℕ
  pub latest : List (Stamped E)
  pub words : s.words
      ≡ word_of generation (total marks_of s.views) (total users_of s.views) ∷ total turns_of s.views ∷ length latest
      ∷ []
  -- the turn: one seat at most has it, and then the value is out
  pub one_turn : total turns_of s.views ≤ 1
  pub home : total turns_of s.views ≡ 0
      → (v : V) × (s.homes ≡ some (Some v) ∷ []) × (name v ≡ name first) × (list v ≡ latest)
  pub out : total turns_of s.views ≡ 1 → s.homes ≡ none ∷ []
  -- the history: numbers that were not made yet have entries in the opening list alone, and a number is joined once at
  -- most
  pub grown : GoesOn (λ k. k < length s.views) (list first) latest
  pub room : (length s.views ≤ seats) × (seats ≤ MOST_SEATS)
  pub apart : (n : ℕ) → total (joins_of n) s.views ≤ 1
  -- the references: one seat at most has set the changing bit, and where it has found itself alone nobody holds a
  -- reference
  pub one_mark : total marks_of s.views ≤ 1
  pub lone : 0 < total lone_marks_of s.views → total references_of s.views ≡ 0
  -- the tie: the list has the installed generation, or the next where a raised list was noted and not installed
  pub tie : generation_of latest ≡ generation + total raises_of s.views
  -- the installed generation grows by installing alone
  pub grows : generation ≡ generation_of (list first) + total installs_of s.views
  pub each_view : (j : ℕ) (v : View N E)
      → get_elem? s.views j ≡ some v
      → ViewOk (name first) (list first) latest generation s.views j v
