-- A call that has not begun is not kept.
use Rattle.std.proofs.Common.{◌≡◌, ◌≤◌, ◌<◌, ℕ, Bool, true, false, ◌&&◌, ◌==◌, List, [], ◌∷◌, None, Some}
use Rattle.std.proofs.Common.{if◌then◌else◌, refl, ap, ◌∙◌, subst, arith}
use Rattle.std.proofs.lemmas.Bool.{and_parts, eqb-true}
use Rattle.tty_terminal.specs.Terminals.{Terminal, caller_at, begun_of}
use Rattle.port_core.specs.Ports.{PlainKept, AllBegun, call_in}

not_both : (a b : Bool) → (a && b ≡ true → ⊥) → (a && b) ≡ false
not_both true true h = absurd (h refl)
not_both true false h = refl
not_both false b h = refl

pub not_kept : (t : Terminal) (ks : List PlainKept) (c step : ℕ)
    → AllBegun t ks
    → begun_of (caller_at t c) ≤ step
    → call_in ks c step ≡ None
not_kept t [] c step begun le = refl
not_kept t (k ∷ ks) c step begun le =
    let other : ((k.caller == c) && (k.step == step)) ≡ false =
    not_both (k.caller == c) (k.step == step) (λ e.
    let parts = and_parts (k.caller == c) (k.step == step) e in
    let lt : k.step < begun_of (caller_at t c) =
    subst (λ (d : ℕ). k.step < begun_of (caller_at t d)) (eqb-true k.caller c parts.0) begun.0 in
    omega (arith, lt, le, eqb-true k.step step parts.1)) in
    ap (λ (b : Bool). if b then Some k.call else call_in ks c step) other ∙ not_kept t ks c step begun.1 le
