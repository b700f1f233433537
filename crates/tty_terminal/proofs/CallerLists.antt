-- A list of callers after one of them, or each, has changed.
use Rattle.std.proofs.Common.{◌≡◌, ℕ, zero, suc, ◌+◌, ◌≤◌, List, [], ◌∷◌, Bool, true, false, Option}
use Rattle.std.proofs.Common.{None, Some, if◌then◌else◌, map, set, get_or, replicate, refl, ap, arith}
use Rattle.tty_terminal.specs.declared.callers.Bound.{Bound}
use Rattle.tty_terminal.specs.declared.callers.CallerState.{CallerState}
use Rattle.tty_terminal.specs.Terminals.{idle_caller, is_bound, has_begun, begun_of}
use Rattle.tty_terminal.specs.Generations.{bound_after_close, caller_after_close}
use Rattle.tty_terminal.specs.Generations.{bound_after_hangup, caller_after_hangup}

-- one caller changes, and each other one stays
pub set_relates : (R : CallerState → CallerState → Type 0) → ((s : CallerState) → R s s)
    → (cs : List CallerState) (c : ℕ) (s : CallerState) (d : ℕ) → R (get_or cs c idle_caller) s
    → R (get_or cs d idle_caller) (get_or (set cs c s) d idle_caller)
set_relates R same [] c s d h = same idle_caller
set_relates R same (x ∷ xs) zero s zero h = h
set_relates R same (x ∷ xs) zero s (suc d) h = same (get_or xs d idle_caller)
set_relates R same (x ∷ xs) (suc c) s zero h = same x
set_relates R same (x ∷ xs) (suc c) s (suc d) h = set_relates R same xs c s d h

-- each caller changes
pub map_relates : (R : CallerState → CallerState → Type 0) (g : CallerState → CallerState) → R idle_caller idle_caller
    → ((s : CallerState) → R s (g s)) → (cs : List CallerState) (d : ℕ)
    → R (get_or cs d idle_caller) (get_or (map g cs) d idle_caller)
map_relates R g idle each [] d = idle
map_relates R g idle each (x ∷ xs) zero = each x
map_relates R g idle each (x ∷ xs) (suc d) = map_relates R g idle each xs d

pub all_idle : (n c : ℕ) → get_or (replicate n idle_caller) c idle_caller ≡ idle_caller
all_idle zero c = refl
all_idle (suc n) zero = refl
all_idle (suc n) (suc c) = all_idle n c

-- of a caller nothing changes but what became of the handle of its call
pub record Stays (s u : CallerState) : Type 0 where
  pub next : u.next ≡ s.next
  pub over : u.over ≡ s.over
  pub waits : u.waits ≡ s.waits
  pub parts : u.parts ≡ s.parts
  pub taken : u.taken ≡ s.taken
  pub generation : u.generation ≡ s.generation
  pub bound : has_begun u ≡ has_begun s
  pub begun : begun_of u ≡ begun_of s

pub stays : (s : CallerState) → Stays s s
stays s = record {
  next = refl;
  over = refl;
  waits = refl;
  parts = refl;
  taken = refl;
  generation = refl;
  bound = refl;
  begun = refl;
}

closed_is_bound : (h : ℕ) (b : Option Bound) → is_bound (bound_after_close h b) ≡ is_bound b
closed_is_bound h None = refl
closed_is_bound h (Some b) = refl

killed_is_bound : (b : Option Bound) → is_bound (bound_after_hangup b) ≡ is_bound b
killed_is_bound None = refl
killed_is_bound (Some b) = refl

bound_stays : (s : CallerState) (b : Option Bound) → is_bound b ≡ is_bound s.bound → Stays s (record s { bound = b })
bound_stays s b e =
    record {
      next = refl;
      over = refl;
      waits = refl;
      parts = refl;
      taken = refl;
      generation = refl;
      bound = e;
      begun = ap (λ (begun : Bool). if begun then s.next + 1 else s.next) e;
    }

pub close_stays : (h : ℕ) (s : CallerState) → Stays s (caller_after_close h s)
close_stays h s = bound_stays s (bound_after_close h s.bound) (closed_is_bound h s.bound)

pub hangup_stays : (s : CallerState) → Stays s (caller_after_hangup s)
hangup_stays s = bound_stays s (bound_after_hangup s.bound) (killed_is_bound s.bound)

most_of : (b : Bool) (n : ℕ) → (if b then n + 1 else n) ≤ n + 1
most_of true n = omega arith
most_of false n = omega arith

pub begun_most : (s : CallerState) → begun_of s ≤ s.next + 1
begun_most s = most_of (has_begun s) s.next
