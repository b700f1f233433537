-- Scripts by their steps: their blocks, and the call of a caller at a step.
use Rattle.std.proofs.Common.{◌≡◌, ℕ, zero, suc, ◌==◌, Bool, true, false, cond, List, [], ◌∷◌, ◌++◌, Option, None, Some}
use Rattle.std.proofs.Common.{if◌then◌else◌, map, filter, refl, sym, ap, ◌∙◌}
use Rattle.std.specs.Prelude.{option_map, slice_get}
use Rattle.std.specs.Str.{bytes_eq}
use Rattle.std.proofs.lemmas.List.{length-map, map-append}
use Rattle.passed_calls.specs.Scripts.{AnyCall, CallerScript, block_of, calls_named, numbered_call}
use Rattle.derived_session.specs.Steps.{CallerStep, step_of, steps_in}

abbrev Mixed : Type 0 → Type 0
Mixed C = CallerScript (AnyCall C)

block_kept : {C : Type 0} (s : Mixed C) → block_of (steps_in s) ≡ block_of s
block_kept {C} s =
    ap (λ (n : ℕ). record { port = s.port; name = s.name; steps = n }) (length-map s.calls (step_of {C = C}))

pub blocks_kept : {C : Type 0} (ss : List (CallerScript (AnyCall C))) → map block_of (map steps_in ss) ≡ map block_of ss
blocks_kept [] = refl
blocks_kept (s ∷ ss) = λ i. block_kept s i ∷ blocks_kept ss i

one_own : {C : Type 0} (b : Bool) (s : Mixed C) (ss : List (CallerScript CallerStep)) (os : List (Mixed C))
    → ss ≡ map steps_in os
    → cond b (steps_in s ∷ ss) ss ≡ map steps_in (cond b (s ∷ os) os)
one_own true s ss os e = ap (λ (xs : List (CallerScript CallerStep)). steps_in s ∷ xs) e
one_own false s ss os e = e

pub own_kept : {C : Type 0} (p : ℕ) (ss : List (CallerScript (AnyCall C)))
    → filter (λ s. s.port == p) (map steps_in ss) ≡ map steps_in (filter (λ s. s.port == p) ss)
own_kept p [] = refl
own_kept {C} p (s ∷ ss) =
    one_own (s.port == p) s (filter (λ (x : CallerScript CallerStep). x.port == p) (map steps_in ss))
    (filter (λ (x : Mixed C). x.port == p) ss) (own_kept p ss)

get_map : {C : Type 0} (cs : List (AnyCall C)) (n : ℕ)
    → slice_get (map step_of cs) n ≡ option_map step_of (slice_get cs n)
get_map [] n = refl
get_map (c ∷ cs) zero = refl
get_map (c ∷ cs) (suc n) = get_map cs n

one_named : {C : Type 0} (b : Bool) (cs : List (AnyCall C))
    → (if b then map step_of cs else []) ≡ map step_of (if b then cs else [])
one_named true cs = refl
one_named false cs = refl

named_kept : {C : Type 0} (name : Option (List ℕ)) (ss : List (Mixed C))
    → calls_named name (map steps_in ss) ≡ map step_of (calls_named name ss)
named_kept None ss = refl
named_kept (Some name) [] = refl
named_kept (Some name) (s ∷ ss) =
    (λ i. one_named (bytes_eq s.name name) s.calls i ++ named_kept (Some name) ss i)
    ∙ sym (map-append step_of (if bytes_eq s.name name then s.calls else []) (calls_named (Some name) ss))

-- the step of a caller is its call there
pub numbered_kept : {C : Type 0} (names : List (List ℕ)) (ss : List (CallerScript (AnyCall C))) (c n : ℕ)
    → numbered_call names (map steps_in ss) c n ≡ option_map step_of (numbered_call names ss c n)
numbered_kept names ss c n =
    ap (λ (cs : List CallerStep). slice_get cs n) (named_kept (slice_get names c) ss)
    ∙ get_map (calls_named (slice_get names c) ss) n
