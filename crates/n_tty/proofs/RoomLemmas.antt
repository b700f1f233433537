-- Where a character is accepted, there is room for what it is stored as.
use Rattle.std.proofs.Common.{◌≡◌, ℕ, ◌+◌, ◌≤◌, true, false, ◌⊎◌, inl, inr, List, [], ◌∷◌}
use Rattle.std.proofs.Common.{length, sym, ◌∙◌, arith, nat_lt, nat_le, not, ◌&&◌, ◌||◌, refl}
use Rattle.std.proofs.lemmas.Bool.{and_parts, or_cases, cases_Bool, ltb-true, leb-true, true≢false}
use Rattle.std.proofs.lemmas.Bool.Decides.{nat_tests}
use Rattle.tty_base.specs.Sizes.{MOST_ENDS, MOST_LINE, MOST_UNREAD}
use Rattle.tty_modes.specs.Settings.{Settings, has_flag}
use Rattle.tty_modes.specs.declared.places.TheConstants.{ICANON, PARMRK}
use Rattle.line_store.specs.Unread.{Item, Byte, End, bytes_of, end_count}
use Rattle.n_tty.specs.States.{NTtyState, AllEnded, FitsModes, is_accepting, unread_count, most_unread, has_piece}
use Rattle.n_tty.specs.Storing.{most_stored}

-- where all bytes are ended and no end stands, there is no byte
no_bytes : (items : List Item) → AllEnded items → end_count items ≡ 0 → length (bytes_of items) ≡ 0
no_bytes [] ended none = refl
no_bytes (Byte b ∷ items) ended none = absurd (omega (arith, ltb-true 0 (end_count items) ended.0, none))
no_bytes (End ∷ items) ended none = absurd (omega (arith, none))

-- unread bytes leave room for a character of the most bytes
most_fits : (modes : Settings) → most_unread modes + most_stored modes ≡ MOST_LINE
most_fits modes = elim (cases_Bool (has_flag modes PARMRK)) [ inl on ↦ rw on refl | inr off ↦ rw off refl ]

none_counted : (n : ℕ) → not (nat_lt 0 n) ≡ true → n ≡ 0
none_counted n none = grind (arith, nat_tests)

-- a character is accepted where little is unread, or in canonical mode without a piece
accepting_cases : (modes : Settings) (tty : NTtyState) → is_accepting modes tty ≡ true
    → (unread_count tty ≤ most_unread modes) ⊎ ((has_flag modes ICANON ≡ true) × (end_count tty.items ≡ 0))
accepting_cases modes tty accepting =
    let few = nat_le (unread_count tty) (most_unread modes) in
    let free = has_flag modes ICANON && not (has_piece tty) in
    let either : (few || free) ≡ true =
    (and_parts (nat_lt (end_count tty.items) MOST_ENDS) (few || free) accepting).1 in
    elim (or_cases few free either) [
      | inl within ↦ inl (leb-true (unread_count tty) (most_unread modes) within)
      | inr is_free ↦
          let parts = and_parts (has_flag modes ICANON) (not (has_piece tty)) is_free in
          inr (parts.0, none_counted (end_count tty.items) parts.1)
    ]

-- without canonical mode there is room for all that a character is stored as
pub room_plain : (modes : Settings) (tty : NTtyState) (k : ℕ)
    → is_accepting modes tty ≡ true
    → has_flag modes ICANON ≡ false
    → k ≤ most_stored modes
    → unread_count tty + k ≤ MOST_UNREAD
room_plain modes tty k accepting plain few = elim (accepting_cases modes tty accepting) [
  | inl within ↦ omega (arith, within, most_fits modes, few)
  | inr free ↦ absurd (true≢false (sym free.0 ∙ plain))
]

-- where the line has room, so has the whole
pub room_line : (modes : Settings) (tty : NTtyState) (k : ℕ)
    → is_accepting modes tty ≡ true
    → FitsModes modes tty
    → k ≤ most_stored modes
    → length tty.edit + k ≤ MOST_UNREAD
    → unread_count tty + k ≤ MOST_UNREAD
room_line modes tty k accepting fits few line = elim (accepting_cases modes tty accepting) [
  | inl within ↦ omega (arith, within, most_fits modes, few)
  | inr free ↦ omega (arith, line, no_bytes tty.items (fits.ended free.0) free.1)
]

pub one_stored : (modes : Settings) → 1 ≤ most_stored modes
one_stored modes =
    elim (cases_Bool (has_flag modes PARMRK)) [ inl on ↦ rw on (omega arith) | inr off ↦ rw off (omega arith) ]
