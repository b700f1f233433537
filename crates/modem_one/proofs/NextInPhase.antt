-- The next call of a caller is one of its phase.
use Rattle.std.proofs.Common.{◌≡◌, ◌⊎◌, inl, inr, ◌<◌, ℕ, Bool, true, false, List, Option, Some, length, refl, sym, ap}
use Rattle.std.proofs.Common.{◌∙◌, subst, map, []}
use Rattle.std.specs.Prelude.{slice_get, slice_index_or, unwrap_or}
use Rattle.std.specs.Str.{bytes_eq}
use Rattle.tty_calls.specs.Sessions.{number_in}
use Rattle.play_base.proofs.NameLemmas.{eq_name, get_at, number_at}
use Rattle.passed_calls.specs.Blocks.{bare, blocks_on, names_on}
use Rattle.calls_left.specs.Remaining.{IsLeftTo}
use Rattle.modem_text.specs.Sessions.{ModemCall, ModemSession, carrier_name, blocks_in}
use Rattle.modem_steps.specs.Derived.{block_phases, carrier_on, modem_call_at, call_in_phase}
use Rattle.modem_one.proofs.Shares.{next_in_phase}

cases_of : (b : Bool) → (b ≡ true) ⊎ (b ≡ false)
cases_of true = inl refl
cases_of false = inr refl

-- a caller that is not `carrier` has another name
pub other_name : (p : ℕ) (session : ModemSession) (c : ℕ) (name : List ℕ)
    → slice_get (names_on p (blocks_in session)) c ≡ Some name
    → (c ≡ carrier_on p session → ⊥)
    → bytes_eq carrier_name name ≡ false
other_name p session c name is other = elim (cases_of (bytes_eq carrier_name name)) [
  | inl same ↦
      let names = names_on p (blocks_in session) in
      let own : slice_get names c ≡ Some carrier_name =
      is ∙ ap (λ (n : List ℕ). Some n) (sym (eq_name carrier_name name same)) in
      let number : number_in names carrier_name ≡ Some c =
      number_at (map bare (blocks_on p (blocks_in session))) carrier_name c own in
      absurd (other (sym (ap (λ (o : Option ℕ). unwrap_or o (length names)) number)))
  | inr differ ↦ differ
]

pub next_is_left : (p : ℕ) (session : ModemSession) (k c : ℕ) (next : List ℕ) (left : List ModemCall)
    → length next ≡ length (names_on p (blocks_in session))
    → (c ≡ carrier_on p session → ⊥)
    → IsLeftTo p k (block_phases session) (modem_call_at p session) next c left
    → call_in_phase p session k c (slice_index_or next c 0) ≡ slice_get left 0
next_is_left p session k c next left all other h =
    let names = names_on p (blocks_in session) in
    let is = get_at names c [] (subst (λ (n : ℕ). c < n) all h.known) in
    next_in_phase p session k c _ next left is (other_name p session c _ is other) h
