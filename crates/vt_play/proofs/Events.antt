-- How many events a seat of a board makes of calls and of keys.
use Rattle.std.proofs.Common.{◌≡◌, ℕ, suc, ◌+◌, ◌<◌, List, [], ◌∷◌, flat_map}
use Rattle.std.proofs.Common.{length, refl, ap, arith, length-append}
use Rattle.std.proofs.lemmas.Grind.{flat_map-append}
use Rattle.vt_consoles.specs.declared.entries.VtEvent.{VtEvent}
use Rattle.vt_consoles.specs.declared.entries.VtEvent.TheVariants.{Activate, State, Key}
use Rattle.vt_consoles.specs.Seats.{BoardSeat}
use Rattle.vt_text.specs.declared.sessions.OpCall.{OpCall}
use Rattle.vt_account.specs.Account.{granted, call_in, index_in}
use Rattle.vt_keyboard.specs.Operating.{AnswersCalls, AnswersFirst}
use Rattle.vt_keyboard.specs.Phases.{key_events}

-- an event answers a call, or is a key's
pub events_few : (events : List VtEvent)
    → length events ≡ length (flat_map call_in events) + length (flat_map index_in events)
events_few [] = refl
events_few (Activate n ∷ events) = let r = events_few events in omega (arith, r)
events_few (State n ∷ events) = let r = events_few events in omega (arith, r)
events_few (Key index n ∷ events) = let r = events_few events in omega (arith, r)

pub answers_few : (consoles n : ℕ) (calls : List OpCall) (old new : BoardSeat)
    → (h : AnswersCalls consoles n calls old new)
    → length h.events ≡ length (flat_map (granted consoles) calls)
answers_few consoles n calls old new h =
    let each = events_few h.events in
    let calls_are = ap (λ (l : List OpCall). length l) h.answers in
    let keys = ap (λ (l : List ℕ). length l) h.no_keys in
    omega (arith, each, calls_are, keys)

pub first_few : (consoles n : ℕ) (calls : List OpCall) (old new : BoardSeat)
    → (h : AnswersFirst consoles n calls old new)
    → length h.2.answered.events < length (flat_map (granted consoles) calls)
first_few consoles n calls old new h =
    let few = answers_few consoles n h.2.done old new h.2.answered in
    let all = ap (λ (l : List OpCall). length (flat_map (granted consoles) l)) h.2.parts in
    let parts = ap (λ (l : List OpCall). length l) (flat_map-append (granted consoles) h.2.done h.0) in
    let size = length-append (flat_map (granted consoles) h.2.done) (flat_map (granted consoles) h.0) in
    let left = h.1 in
    omega (arith, few, all, parts, size, left)

pub key_count : (first : ℕ) (went : List ℕ) → length (key_events first went) ≡ length went
key_count first [] = refl
key_count first (n ∷ went) = ap (λ (m : ℕ). suc m) (key_count (first + 1) went)
