-- The calls that a port keeps, with one more.
use Rattle.std.proofs.Common.{◌≡◌, ℕ, List, [], ◌∷◌, ◌++◌, Bool, true, false, ◌==◌, ◌&&◌, ◌⊎◌}
use Rattle.std.proofs.Common.{Option, None, Some, if◌then◌else◌, refl, sym, ◌∙◌, ap, inl, inr}
use Rattle.std.proofs.lemmas.Bool.{eqb-true, eq-eqb, and_parts}
use Rattle.tty_calls.specs.Plain.{PlainCall}
use Rattle.tty_terminal.specs.Runs.{KnowsMore}
use Rattle.port_core.specs.Ports.{PlainKept, call_in, kept_with}
use Rattle.one_thread.specs.Turns.{IsKeptCall}
use Rattle.legal_runs.proofs.Truths.{if_false, if_true}

some_same : (x y : PlainCall) → Some x ≡ Some y → x ≡ y
some_same x y e = cc

none_some : (x : PlainCall) → None ≡ Some x → ⊥
none_some x e = absurd (cc)

-- a call that is found among these and one more is found among these, or is that one
found_case : (b : Bool) (call x : PlainCall) (rest : Option PlainCall)
    → (if b then Some call else rest) ≡ Some x
    → ((b ≡ true) × (call ≡ x)) ⊎ ((b ≡ false) × (rest ≡ Some x))
found_case true call x rest e = inl (refl, some_same call x e)
found_case false call x rest e = inr (refl, e)

pub push_found : (ks : List PlainKept) (k : PlainKept) (c step : ℕ) (x : PlainCall)
    → call_in (ks ++ k ∷ []) c step ≡ Some x
    → (call_in ks c step ≡ Some x) ⊎ ((k.caller ≡ c) × (k.step ≡ step) × (k.call ≡ x))
push_found [] k c step x e =
    elim (found_case ((k.caller == c) && (k.step == step)) k.call x None e) [
      | inl h ↦
          let parts = and_parts (k.caller == c) (k.step == step) h.0 in
          inr (eqb-true k.caller c parts.0, eqb-true k.step step parts.1, h.1)
      | inr h ↦ absurd (none_some x h.1)
    ]
push_found (y ∷ ks) k c step x e =
    let test = (y.caller == c) && (y.step == step) in
    elim (found_case test y.call x (call_in (ks ++ k ∷ []) c step) e) [
      | inl h ↦ inl (if_true test _ _ h.0 ∙ ap (λ (z : PlainCall). Some z) h.1)
      | inr h ↦
          elim (push_found ks k c step x h.1) [
            | inl here ↦ inl (if_false test _ _ h.0 ∙ here)
            | inr last ↦ inr last
          ]
    ]

kept_case : (b : Bool) (call : PlainCall) (rest rest' : Option PlainCall)
    → ((x : PlainCall) → rest ≡ Some x → (y : PlainCall) × (rest' ≡ Some y))
    → (x : PlainCall)
    → (if b then Some call else rest) ≡ Some x
    → (y : PlainCall) × ((if b then Some call else rest') ≡ Some y)
kept_case true call rest rest' h x e = (call, refl)
kept_case false call rest rest' h x e = h x e

still_found : (ks : List PlainKept) (k : PlainKept) (c step : ℕ) (x : PlainCall)
    → call_in ks c step ≡ Some x
    → (y : PlainCall) × (call_in (ks ++ k ∷ []) c step ≡ Some y)
still_found [] k c step x e = absurd (none_some x e)
still_found (y ∷ ks) k c step x e =
    kept_case ((y.caller == c) && (y.step == step)) y.call (call_in ks c step) (call_in (ks ++ k ∷ []) c step)
    (λ z f. still_found ks k c step z f) x e

own_case : (b : Bool) (call : PlainCall) (rest : Option PlainCall)
    → (y : PlainCall) × (rest ≡ Some y)
    → (y : PlainCall) × ((if b then Some call else rest) ≡ Some y)
own_case true call rest h = (call, refl)
own_case false call rest h = h

same_self : (c step : ℕ) → ((c == c) && (step == step)) ≡ true
same_self c step = ap (λ (b : Bool). b && (step == step)) (eq-eqb c c refl) ∙ eq-eqb step step refl

own_found : (ks : List PlainKept) (c step : ℕ) (call : PlainCall)
    → (y : PlainCall) × (call_in (ks ++ record { caller = c; step = step; call = call } ∷ []) c step ≡ Some y)
own_found [] c step call = (call, if_true ((c == c) && (step == step)) _ _ (same_self c step))
own_found (k ∷ ks) c step call = own_case ((k.caller == c) && (k.step == step)) k.call _ (own_found ks c step call)

-- ---- where a call is kept from its first attempt on

pub kept_still : (begun : Bool) (ks : List PlainKept) (c step : ℕ) (call : PlainCall) (d n : ℕ)
    → IsKeptCall ks d n
    → IsKeptCall (kept_with begun ks c step call) d n
kept_still true ks c step call d n h = h
kept_still false ks c step call d n h =
    let found = still_found ks (record { caller = c; step = step; call = call }) d n h.call h.found in
    record { call = found.0; found = found.1 }

pub kept_own : (begun : Bool) (ks : List PlainKept) (c step : ℕ) (call : PlainCall)
    → (begun ≡ true → IsKeptCall ks c step)
    → IsKeptCall (kept_with begun ks c step call) c step
kept_own true ks c step call h = h refl
kept_own false ks c step call h =
    let found = own_found ks c step call in
    record { call = found.0; found = found.1 }

pub kept_grows : (begun : Bool) (ks : List PlainKept) (c step : ℕ) (call : PlainCall) (g : ℕ → ℕ → Option PlainCall)
    → g c step ≡ Some call
    → KnowsMore (call_in ks) g
    → KnowsMore (call_in (kept_with begun ks c step call)) g
kept_grows true ks c step call g is known d n x e = known d n x e
kept_grows false ks c step call g is known d n x e =
    elim (push_found ks (record { caller = c; step = step; call = call }) d n x e) [
      | inl old ↦ known d n x old
      | inr new ↦ (λ i. g (sym new.0 i) (sym new.1 i)) ∙ (is ∙ ap (λ (y : PlainCall). Some y) new.2)
    ]
