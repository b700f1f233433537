-- Scripts by what their calls ask.
use Rattle.std.proofs.Common.{◌≡◌, ℕ, zero, suc, ◌≤◌, ◌==◌, Bool, true, false, cond, if◌then◌else◌}
use Rattle.std.proofs.Common.{Option, None, Some, List, [], ◌∷◌, ◌++◌, map, refl, ap, ◌∙◌, arith}
use Rattle.std.specs.Prelude.{All, filter, option_map, slice_get}
use Rattle.std.specs.Str.{bytes_eq}
use Rattle.std.proofs.lemmas.List.{length-map}
use Rattle.std.proofs.lemmas.List.Elements.{All-nil, All-cons, All-head, All-tail, All-append, All-map}
use Rattle.std.proofs.lemmas.Option.{slice_get-map}
use Rattle.tty_calls.specs.Plain.{hangs_up}
use Rattle.passed_calls.specs.Blocks.{Block}
use Rattle.passed_calls.specs.Scripts.{AnyCall, CallerScript, plain, further, block_of, calls_named, numbered_call}
use Rattle.further_asked.specs.Asked.{AsksWithin, any_asks, asks_of}

-- ---- what is asked of scripts is asked of their calls

module _ {C : Type 0} where
  abbrev asks : AnyCall C → ℕ
  asks call = any_asks call

  abbrev asked : CallerScript (AnyCall C) → CallerScript ℕ
  asked s = asks_of s

  pub asked_blocks : (ss : List (CallerScript (AnyCall C))) → map block_of (map asked ss) ≡ map block_of ss
  asked_blocks [] = refl
  asked_blocks (s ∷ ss) = λ i.
      (let first : Block = record { port = s.port; name = s.name; steps = length-map s.calls asks i } in first)
      ∷ asked_blocks ss i

  kept_either : (t : Bool) (s : CallerScript (AnyCall C)) (xs : List (CallerScript ℕ))
      (ss : List (CallerScript (AnyCall C)))
      → xs ≡ map asked ss
      → cond t (asked s ∷ xs) xs ≡ map asked (cond t (s ∷ ss) ss)
  kept_either true s xs ss h = ap (λ (ys : List (CallerScript ℕ)). asked s ∷ ys) h
  kept_either false s xs ss h = h

  pub asked_on_port : (p : ℕ) (ss : List (CallerScript (AnyCall C)))
      → filter (λ s. s.port == p) (map asked ss) ≡ map asked (filter (λ s. s.port == p) ss)
  asked_on_port p [] = refl
  asked_on_port p (s ∷ ss) = kept_either (s.port == p) s (filter (λ x. x.port == p) (map asked ss))
      (filter (λ x. x.port == p) ss) (asked_on_port p ss)

  own_either : (b : Bool) (calls : List (AnyCall C))
      → (if b then map asks calls else []) ≡ map asks (if b then calls else [])
  own_either true calls = refl
  own_either false calls = refl

  pub asked_named : (name : List ℕ) (ss : List (CallerScript (AnyCall C)))
      → calls_named (Some name) (map asked ss) ≡ map asks (calls_named (Some name) ss)
  asked_named name [] = refl
  asked_named name (s ∷ ss) =
      ap (λ (ns : List ℕ). ns ++ calls_named (Some name) (map asked ss)) (own_either (bytes_eq s.name name) s.calls)
      ∙ (ap (λ (ns : List ℕ). map asks (if bytes_eq s.name name then s.calls else []) ++ ns) (asked_named name ss)
      ∙ sym_append (if bytes_eq s.name name then s.calls else []) (calls_named (Some name) ss))
    where
      sym_append : (xs ys : List (AnyCall C)) → map asks xs ++ map asks ys ≡ map asks (xs ++ ys)
      sym_append [] ys = refl
      sym_append (x ∷ xs) ys = ap (λ (ns : List ℕ). asks x ∷ ns) (sym_append xs ys)

  named_asked : (o : Option (List ℕ)) (ss : List (CallerScript (AnyCall C)))
      → calls_named o (map asked ss) ≡ map asks (calls_named o ss)
  named_asked None ss = refl
  named_asked (Some name) ss = asked_named name ss

  pub asked_call : (names : List (List ℕ)) (ss : List (CallerScript (AnyCall C))) (c step : ℕ)
      → numbered_call names (map asked ss) c step ≡ option_map asks (numbered_call names ss c step)
  asked_call names ss c step =
      ap (λ (ns : List ℕ). slice_get ns step) (named_asked (slice_get names c) ss)
      ∙ slice_get-map asks (calls_named (slice_get names c) ss) step

-- ---- each call asks three at least

abbrev pub AsksThree : CallerScript ℕ → Type 0
AsksThree s = All (λ n. 3 ≤ n) s.calls

any_three : {C : Type 0} (call : AnyCall C) → 3 ≤ any_asks call
any_three (plain call) = omega arith
any_three (further call) = omega arith

pub scripts_three : {C : Type 0} (ss : List (CallerScript (AnyCall C))) → All AsksThree (map asks_of ss)
scripts_three ss = All-map AsksThree asks_of ss (λ k d h. All-map (λ n. 3 ≤ n) any_asks _
    (λ j call within. any_three _))

named_three : (o : Option (List ℕ)) (ss : List (CallerScript ℕ)) → All AsksThree ss
    → All (λ n. 3 ≤ n) (calls_named o ss)
named_three None ss h = All-nil (λ n. 3 ≤ n)
named_three (Some name) [] h = All-nil (λ n. 3 ≤ n)
named_three (Some name) (s ∷ ss) h =
    All-append (λ n. 3 ≤ n) (if bytes_eq s.name name then s.calls else []) (calls_named (Some name) ss)
    (if_three (bytes_eq s.name name) s.calls (All-head AsksThree s ss h))
    (named_three (Some name) ss (All-tail AsksThree s ss h))
  where
    if_three : (b : Bool) (calls : List ℕ) → All (λ n. 3 ≤ n) calls → All (λ n. 3 ≤ n) (if b then calls else [])
    if_three true calls h = h
    if_three false calls h = All-nil (λ n. 3 ≤ n)

hangup_asks : (calls : List ℕ) (step h : ℕ)
    → All (λ n. 3 ≤ n) calls
    → All (AsksWithin (slice_get calls step)) (hangs_up h ∷ [])
hangup_asks [] step h three = All-cons (AsksWithin None) (hangs_up h) [] tt (All-nil (AsksWithin None))
hangup_asks (n ∷ calls) zero h three =
    All-cons (AsksWithin (Some n)) (hangs_up h) [] (omega (arith, All-head (λ m. 3 ≤ m) n calls three))
    (All-nil (AsksWithin (Some n)))
hangup_asks (n ∷ calls) (suc step) h three = hangup_asks calls step h (All-tail (λ m. 3 ≤ m) n calls three)

-- so a hangup may be passed down for any of them
pub hangup_within : (names : List (List ℕ)) (ss : List (CallerScript ℕ)) (c step h : ℕ)
    → All AsksThree ss
    → All (AsksWithin (numbered_call names ss c step)) (hangs_up h ∷ [])
hangup_within names ss c step h three =
    hangup_asks (calls_named (slice_get names c) ss) step h (named_three (slice_get names c) ss three)
