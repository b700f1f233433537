-- What a port was passed, as it was noted and as it is: by the calls that are found at the steps.
use Rattle.std.proofs.Common.{◌≡◌, ◌<◌, ℕ, zero, suc, ◌+◌, Bool, true, false, List, [], ◌∷◌, ◌++◌, Option}
use Rattle.std.proofs.Common.{map, flat_map, if◌then◌else◌, refl, ap, ◌∙◌, arith, append_assoc}
use Rattle.std.specs.Prelude.{slice_index_or}
use Rattle.std.specs.List.{range_with_len}
use Rattle.std.proofs.lemmas.List.{map-append}
use Rattle.tty_calls.specs.Plain.{PlainCall, PlainEntry}
use Rattle.tty_terminal.specs.Standing.{standing_in, at_first}
use Rattle.passed_calls.specs.Derived.{Passing}
use Rattle.derived_session.specs.declared.passed.PassedDown.{PassedDown}
use Rattle.derived_session.specs.declared.passed.Down.TheVariants as down
use Rattle.derived_session.specs.Steps.{CallerStep, own_call, passing_of}

module _ (made : (c step : ℕ) → Option CallerStep) (calls : (c step : ℕ) → List PlainCall)
    (same : (c step : ℕ) → own_call (made c step) ≡ calls c step) where
  abbrev pub passings : List PassedDown → List Passing
  passings ds = map (passing_of made) ds

  -- one more, before those that follow
  pub one_passed : (ds : List PassedDown) (d : PassedDown) (m : Passing) (rest : List Passing)
      → passing_of made d ≡ m
      → passings (ds ++ d ∷ []) ++ rest ≡ passings ds ++ (m ∷ rest)
  one_passed ds d m rest is =
      ap (λ (ms : List Passing). ms ++ rest) (map-append (passing_of made) ds (d ∷ []))
      ∙ (append_assoc (passings ds) (passing_of made d ∷ []) rest
      ∙ ap (λ (x : Passing). passings ds ++ (x ∷ rest)) is)

  -- ---- what it has begun

  abbrev pub kept_begun : List PlainEntry → List ℕ → ℕ → List PassedDown
  kept_begun journal next c =
      if (standing_in c journal at_first).begun
      then record { caller = c; step = slice_index_or next c 0; down = down.Call } ∷ []
      else []

  abbrev pub begun_of : List PlainEntry → (answered : ℕ → ℕ) → ℕ → List Passing
  begun_of journal answered c =
      if (standing_in c journal at_first).begun
      then record { caller = c; step = answered c; calls = calls c (answered c) } ∷ []
      else []

  one_begun : (b : Bool) (c next step : ℕ)
      → next ≡ step
      → passings (if b then record { caller = c; step = next; down = down.Call } ∷ [] else [])
      ≡ (if b then record { caller = c; step = step; calls = calls c step } ∷ [] else [])
  one_begun true c next step is =
      (λ i. record { caller = c; step = is i; calls = own_call (made c (is i)) } ∷ [])
      ∙ ap (λ (cs : List PlainCall). record { caller = c; step = step; calls = cs } ∷ []) (same c step)
  one_begun false c next step is = refl

  pub begun_passed : (journal : List PlainEntry) (next : List ℕ) (answered : ℕ → ℕ) (from n : ℕ)
      → ((c : ℕ) → c < from + n → slice_index_or next c 0 ≡ answered c)
      → passings (flat_map (kept_begun journal next) (range_with_len from n))
      ≡ flat_map (begun_of journal answered) (range_with_len from n)
  begun_passed journal next answered from zero are = refl
  begun_passed journal next answered from (suc n) are =
      map-append (passing_of made) (kept_begun journal next from)
      (flat_map (kept_begun journal next) (range_with_len (from + 1) n))
      ∙ λ i.
      one_begun (standing_in from journal at_first).begun from (slice_index_or next from 0) (answered from)
      (are from (omega arith)) i
      ++ begun_passed journal next answered (from + 1) n (λ c lt. are c (omega (arith, lt))) i
