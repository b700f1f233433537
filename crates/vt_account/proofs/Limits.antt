-- The session that the consoles play keeps the limits of every session.
use Rattle.std.proofs.Common.{◌≡◌, ◌⊎◌, inl, inr, ℕ, suc, zero, ◌+◌, ◌<◌, ◌≤◌, ◌==◌, nat_lt}
use Rattle.std.proofs.Common.{Bool, true, false, IsTrue, if◌then◌else◌, List, [], ◌∷◌, ◌++◌}
use Rattle.std.proofs.Common.{length, map, drop, refl, sym, subst, arith, length-append}
use Rattle.std.specs.Prelude.{All, sum_by, slice_index_or}
use Rattle.std.specs.List.{range_with_len}
use Rattle.std.proofs.lemmas.Bool.Decides.{nat_tests}
use Rattle.std.proofs.lemmas.List.Elements.{All-head, All-tail, All-nil, All-cons}
use Rattle.std.proofs.lemmas.List.FromFn.{length-map-range_with_len, get_or-map-range_with_len}
use Rattle.std.proofs.lemmas.List.Sums.{sum_by-cons}
use Rattle.tty_base.specs.declared.lines.LineStep.{LineStep}
use Rattle.tty_base.specs.Lines.{arrival_count, is_step}
use Rattle.uart_line.specs.GoodSteps.{good_steps}
use Rattle.tty_calls.specs.Limits.{IsPhaseWithin, IsWithinLimits, character_count}
use Rattle.tty_calls.specs.Sessions.{PlainScript, PlainPhase, line_on, ticks_on}
use Rattle.vt_consoles.specs.declared.entries.VtEntry.{VtEntry}
use Rattle.vt_text.specs.Sessions.{PlainVtPhase, PlainVtSession}
use Rattle.vt_account.specs.Keyed.{all_keys, consoles_in, keys_to, key_line}
use Rattle.vt_account.specs.Keyed.{keyed_phase, keyed_phases, keyed, IsWithinKeys}
use Rattle.vt_account.proofs.Received.{good_arrive}

-- ---- lines

abbrev AreGood : List LineStep → Type 0
AreGood line = All (λ step. IsTrue (is_step step)) line

good_keys : (keys : List ℕ) → AreGood (good_steps keys)
good_keys [] = All-nil (λ step. IsTrue (is_step step))
good_keys (key ∷ keys) = All-cons (λ step. IsTrue (is_step step)) _ (good_steps keys) refl (good_keys keys)

good_line : (keys : List ℕ) → AreGood (key_line keys)
good_line keys = All-cons (λ step. IsTrue (is_step step)) _ (good_steps keys) refl (good_keys keys)

good_lines : (f : ℕ → List ℕ) (ps : List ℕ)
    → All (λ line. All (λ step. IsTrue (is_step step)) line) (map (λ p. key_line (f p)) ps)
good_lines f [] = All-nil (λ line. All (λ step. IsTrue (is_step step)) line)
good_lines f (p ∷ ps) =
    All-cons (λ line. All (λ step. IsTrue (is_step step)) line) (key_line (f p)) (map (λ q. key_line (f q)) ps)
    (good_line (f p)) (good_lines f ps)

-- ---- phases

phase_within : (ports : ℕ) (keys consoles : List ℕ) (phase : PlainPhase)
    → IsPhaseWithin ports phase
    → IsPhaseWithin ports (keyed_phase ports keys consoles phase)
phase_within ports keys consoles phase h = record {
  lines = length-map-range_with_len (λ p. key_line (keys_to p keys consoles)) 0 ports;
  ticks = h.ticks;
  steps = good_lines (λ p. keys_to p keys consoles) (range_with_len 0 ports);
  scripts = h.scripts;
  few_callers = h.few_callers;
  own_names = h.own_names;
}

phases_within : (ports : ℕ) (consoles : List ℕ) (keyboards : List PlainVtPhase) (phases : List PlainPhase)
    → All (IsPhaseWithin ports) phases
    → All (IsPhaseWithin ports) (keyed_phases ports consoles keyboards phases)
phases_within ports consoles [] phases h = h
phases_within ports consoles (keyboard ∷ keyboards) [] h = All-nil (IsPhaseWithin ports)
phases_within ports consoles (keyboard ∷ keyboards) (phase ∷ phases) h =
    All-cons (IsPhaseWithin ports) (keyed_phase ports keyboard.keys consoles phase)
    (keyed_phases ports (drop (length keyboard.keys) consoles) keyboards phases)
    (phase_within ports keyboard.keys consoles phase (All-head (IsPhaseWithin ports) phase phases h))
    (phases_within ports (drop (length keyboard.keys) consoles) keyboards phases
    (All-tail (IsPhaseWithin ports) phase phases h))

as_many : (ports : ℕ) (consoles : List ℕ) (keyboards : List PlainVtPhase) (phases : List PlainPhase)
    → length (keyed_phases ports consoles keyboards phases) ≤ length phases
as_many ports consoles [] phases = omega arith
as_many ports consoles (keyboard ∷ keyboards) [] = omega arith
as_many ports consoles (keyboard ∷ keyboards) (phase ∷ phases) =
    omega (arith, as_many ports (drop (length keyboard.keys) consoles) keyboards phases)

-- what is counted of phases, where each counts the same with its keys
few_by : (f : PlainPhase → ℕ)
    → ((ports : ℕ) (keys consoles : List ℕ) (phase : PlainPhase) → f (keyed_phase ports keys consoles phase) ≡ f phase)
    → (ports : ℕ) (consoles : List ℕ) (keyboards : List PlainVtPhase) (phases : List PlainPhase)
    → sum_by f (keyed_phases ports consoles keyboards phases) ≤ sum_by f phases
few_by f same ports consoles [] phases = omega arith
few_by f same ports consoles (keyboard ∷ keyboards) [] = omega arith
few_by f same ports consoles (keyboard ∷ keyboards) (phase ∷ phases) =
    let next = keyed_phase ports keyboard.keys consoles phase in
    let rest = keyed_phases ports (drop (length keyboard.keys) consoles) keyboards phases in
    omega (
      arith,
      sum_by-cons f next rest,
      sum_by-cons f phase phases,
      same ports keyboard.keys consoles phase,
      few_by f same ports (drop (length keyboard.keys) consoles) keyboards phases,
    )

-- ---- characters

fewer_keys : (b : Bool) (key m : ℕ) (keys : List ℕ)
    → length keys ≤ m
    → length ((if b then key ∷ [] else []) ++ keys) ≤ suc m
fewer_keys true key m keys h = omega (arith, h)
fewer_keys false key m keys h = omega (arith, h)

few_keys_to : (p : ℕ) (keys consoles : List ℕ) → length (keys_to p keys consoles) ≤ length keys
few_keys_to p [] consoles = omega arith
few_keys_to p (key ∷ keys) [] = omega arith
few_keys_to p (key ∷ keys) (n ∷ consoles) =
    fewer_keys (n == p) key (length keys) (keys_to p keys consoles) (few_keys_to p keys consoles)

past_lines : (f : ℕ → List LineStep) (first ports i : ℕ)
    → ports ≤ i
    → slice_index_or (map f (range_with_len first ports)) i [] ≡ []
past_lines f first zero zero h = refl
past_lines f first zero (suc i) h = refl
past_lines f first (suc ports) zero h = absurd (omega (arith, h))
past_lines f first (suc ports) (suc i) h = past_lines f (first + 1) ports i (omega (arith, h))

below : (p ports : ℕ) → nat_lt p ports ≡ true → p < ports
below p ports h = grind (arith, nat_tests)

above : (p ports : ℕ) → nat_lt p ports ≡ false → ports ≤ p
above p ports h = grind (arith, nat_tests)

side_by : (p ports : ℕ) (b : Bool) → nat_lt p ports ≡ b → (p < ports) ⊎ (ports ≤ p)
side_by p ports true h = inl (below p ports h)
side_by p ports false h = inr (above p ports h)

either_side : (p ports : ℕ) → (p < ports) ⊎ (ports ≤ p)
either_side p ports = side_by p ports (nat_lt p ports) refl

few_arrive : (p ports : ℕ) (keys consoles : List ℕ) (phase : PlainPhase)
    → arrival_count (line_on p (keyed_phase ports keys consoles phase)) ≤ length keys
few_arrive p ports keys consoles phase = elim (either_side p ports) [
  | inl here ↦
      let line : line_on p (keyed_phase ports keys consoles phase) ≡ key_line (keys_to p keys consoles) =
      get_or-map-range_with_len (λ q. key_line (keys_to q keys consoles)) 0 ports p p [] here (omega arith) in
      subst (λ (l : List LineStep). arrival_count l ≤ length keys) (sym line)
      (omega (arith, good_arrive (keys_to p keys consoles), few_keys_to p keys consoles))
  | inr past ↦
      let line : line_on p (keyed_phase ports keys consoles phase) ≡ [] =
      past_lines (λ q. key_line (keys_to q keys consoles)) 0 ports p past in
      subst (λ (l : List LineStep). arrival_count l ≤ length keys) (sym line) (omega arith)
]

-- no more characters arrive on a console than there are keys
pub few_characters : (p ports : ℕ) (consoles : List ℕ) (keyboards : List PlainVtPhase) (phases : List PlainPhase)
    → length phases ≡ length keyboards
    → character_count p (keyed_phases ports consoles keyboards phases) ≤ length (all_keys keyboards)
few_characters p ports consoles [] [] e = omega arith
few_characters p ports consoles [] (phase ∷ phases) e = absurd (omega (arith, e))
few_characters p ports consoles (keyboard ∷ keyboards) [] e = absurd (omega (arith, e))
few_characters p ports consoles (keyboard ∷ keyboards) (phase ∷ phases) e =
    let next = keyed_phase ports keyboard.keys consoles phase in
    let rest = keyed_phases ports (drop (length keyboard.keys) consoles) keyboards phases in
    omega (
      arith,
      sum_by-cons (λ (x : PlainPhase). arrival_count (line_on p x)) next rest,
      few_arrive p ports keyboard.keys consoles phase,
      few_characters p ports (drop (length keyboard.keys) consoles) keyboards phases (omega (arith, e)),
      length-append keyboard.keys (all_keys keyboards),
    )

pub keyed_within : (session : PlainVtSession) (entries : List VtEntry)
    → IsWithinKeys session
    → IsWithinLimits (keyed session entries)
keyed_within session entries h =
    let ports = session.calls.ports in
    let consoles = consoles_in entries in
    let keyboards = session.phases in
    let phases = session.calls.phases in
    record {
      some_ports = h.calls.some_ports;
      few_ports = h.calls.few_ports;
      flips = h.calls.flips;
      some_flip = h.calls.some_flip;
      few_flip = h.calls.few_flip;
      few_phases = omega (arith, as_many ports consoles keyboards phases, h.calls.few_phases);
      phases = phases_within ports consoles keyboards phases h.calls.phases;
      few_calls = omega (
        arith,
        few_by (λ (x : PlainPhase). sum_by (λ (script : PlainScript). length script.calls) x.callers)
            (λ n ks cs x. refl) ports consoles keyboards phases,
        h.calls.few_calls,
      );
      few_characters = λ p. omega (arith, few_characters p ports consoles keyboards phases h.whole, h.few_keys);
      few_ticks = λ p.
          omega (arith, few_by (ticks_on p) (λ n ks cs x. refl) ports consoles keyboards phases, h.calls.few_ticks p);
    }
