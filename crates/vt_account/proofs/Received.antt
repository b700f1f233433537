-- What a console receives on its line: the keys that went there.
use Rattle.std.proofs.Common.{◌≡◌, ℕ, suc, zero, ◌<◌, ◌==◌, true, false, if◌then◌else◌, List, []}
use Rattle.std.proofs.Common.{◌∷◌, ◌++◌, length, map, take, drop, flat_map, reverse, refl, sym}
use Rattle.std.proofs.Common.{◌∙◌, ap, subst, arith, append_assoc, append-nil, length-append}
use Rattle.std.proofs.lemmas.List.{reverse-append, map-append}
use Rattle.std.proofs.lemmas.List.FromFn.{get_or-map-range_with_len}
use Rattle.tty_base.specs.declared.characters.Flagged.{Flagged}
use Rattle.tty_base.specs.declared.lines.LineStep.{LineStep}
use Rattle.tty_base.specs.declared.lines.LineStep.TheVariants.{Rx, Idle, Unmask, Trigger}
use Rattle.tty_base.specs.Characters.{good_character, good_characters}
use Rattle.tty_base.specs.Lines.{arrival, arrival_count}
use Rattle.uart_line.specs.GoodSteps.{good_steps}
use Rattle.uart_line.specs.Received.{is_cut, is_masked, trigger_of, idle_of, window, window_output}
use Rattle.uart_line.specs.Received.{received_list, received_list_after, lost_count}
use Rattle.uart_line.specs.Received.{lost_count_after, waiting_list, closed_script, script}
use Rattle.uart_line.proofs.Steps.{cut_after, received_list-step, lost_count-step}
use Rattle.uart_line.proofs.Steps.{waiting_list-step, arrival_count-append}
use Rattle.tty_calls.specs.Sessions.{PlainPhase, line_on}
use Rattle.vt_text.specs.Sessions.{PlainVtPhase, PlainVtSession}
use Rattle.vt_consoles.specs.declared.entries.VtEntry.{VtEntry}
use Rattle.vt_account.specs.Keyed.{keys_to, all_keys, consoles_in, key_line, keyed_phase}
use Rattle.vt_account.specs.Keyed.{keyed_phases, keyed, line_script, HasAllPhases}

-- ---- steps

-- the handler is not held back, and nothing waits
record Clear (before : List LineStep) : Type 0 where
  masked : is_masked (reverse before) ≡ false
  waits : waiting_list before ≡ []

-- .. and one character is enough
record Ready (before : List LineStep) : Type 0 where
  clear : Clear before
  trigger : trigger_of (reverse before) ≡ 1

-- what further steps hand over
record Hands (before after : List LineStep) (list : List Flagged) : Type 0 where
  received : received_list after ≡ received_list before ++ list
  lost : lost_count after ≡ lost_count before

hands_both : (a b c : List LineStep) (xs ys : List Flagged) → Hands a b xs → Hands b c ys → Hands a c (xs ++ ys)
hands_both a b c xs ys h k = record {
  received = k.received ∙ ap (λ (l : List Flagged). l ++ ys) h.received ∙ append_assoc (received_list a) xs ys;
  lost = k.lost ∙ h.lost;
}

reverse_step : (before : List LineStep) (step : LineStep) → reverse (before ++ step ∷ []) ≡ step ∷ reverse before
reverse_step before step = reverse-append before (step ∷ [])

-- a step with which nothing arrives, where nothing waits
no_cut : (before : List LineStep) (step : LineStep)
    → waiting_list before ≡ []
    → arrival step ≡ []
    → cut_after before step ≡ false
unfolding is_cut
no_cut before step w a = rw (w, a) refl

hands_none : (before : List LineStep) (step : LineStep)
    → waiting_list before ≡ []
    → arrival step ≡ []
    → Hands before (before ++ step ∷ []) []
hands_none before step w a = record {
  received = received_list-step before step ∙ rw (no_cut before step w a) refl;
  lost = lost_count-step before step ∙ rw (no_cut before step w a) (omega arith);
}

waits_none : (before : List LineStep) (step : LineStep)
    → waiting_list before ≡ []
    → arrival step ≡ []
    → waiting_list (before ++ step ∷ []) ≡ []
waits_none before step w a = waiting_list-step before step ∙ rw (no_cut before step w a, w, a) refl

after_trigger : (before : List LineStep) → Clear before → Ready (before ++ Trigger 1 ∷ [])
unfolding is_masked trigger_of
after_trigger before h = record {
  clear = record {
    masked = ap is_masked (reverse_step before (Trigger 1)) ∙ h.masked;
    waits = waits_none before (Trigger 1) h.waits refl;
  };
  trigger = ap trigger_of (reverse_step before (Trigger 1));
}

after_unmask : (before : List LineStep) → Clear before → Clear (before ++ Unmask ∷ [])
unfolding is_masked
after_unmask before h = record {
  masked = ap is_masked (reverse_step before Unmask);
  waits = waits_none before Unmask h.waits refl;
}

after_idle : (before : List LineStep) → Clear before → Clear (before ++ Idle 4 ∷ [])
unfolding is_masked
after_idle before h = record {
  masked = ap is_masked (reverse_step before (Idle 4)) ∙ h.masked;
  waits = waits_none before (Idle 4) h.waits refl;
}

-- ---- keys

cut_one : (past : List LineStep) (c : Flagged) (b : ℕ)
    → is_masked past ≡ false
    → trigger_of past ≡ 1
    → is_cut (Rx c ∷ past) (good_character b ∷ []) ≡ true
unfolding is_cut is_masked trigger_of idle_of
cut_one past c b h e = rw (h, e) refl

cut_key : (before : List LineStep) (b : ℕ) → Ready before → cut_after before (Rx (good_character b)) ≡ true
cut_key before b h = rw h.clear.waits (cut_one (reverse before) (good_character b) b h.clear.masked h.trigger)

output_one : (c : Flagged) → window_output (c ∷ []) ≡ c ∷ []
unfolding window_output
output_one c = refl

hands_key : (before : List LineStep) (b : ℕ)
    → Ready before
    → Hands before (before ++ Rx (good_character b) ∷ []) (good_character b ∷ [])
hands_key before b h =
    let cut = cut_key before b h in
    record {
      received =
          received_list-step before (Rx (good_character b))
          ∙ rw (cut, h.clear.waits)
          (ap (λ (l : List Flagged). received_list before ++ l) (output_one (good_character b)));
      lost = lost_count-step before (Rx (good_character b)) ∙ rw (cut, h.clear.waits) (omega arith);
    }

after_key : (before : List LineStep) (b : ℕ) → Ready before → Ready (before ++ Rx (good_character b) ∷ [])
unfolding is_masked trigger_of
after_key before b h = record {
  clear = record {
    masked = ap is_masked (reverse_step before (Rx (good_character b))) ∙ h.clear.masked;
    waits = waiting_list-step before (Rx (good_character b)) ∙ rw (cut_key before b h) refl;
  };
  trigger = ap trigger_of (reverse_step before (Rx (good_character b))) ∙ h.trigger;
}

-- a list of steps, with what it hands over and where it leads
record Goes (P : List LineStep → Type 0) (before steps : List LineStep) (list : List Flagged) : Type 0 where
  hands : Hands before (before ++ steps) list
  leads : P (before ++ steps)

goes_on : (P : List LineStep → Type 0) (before xs ys : List LineStep) (l m : List Flagged)
    → Hands before (before ++ xs) l
    → Goes P (before ++ xs) ys m
    → Goes P before (xs ++ ys) (l ++ m)
goes_on P before xs ys l m h g =
    let same = append_assoc before xs ys in
    record {
      hands = subst (λ (s : List LineStep). Hands before s (l ++ m)) same
          (hands_both before (before ++ xs) ((before ++ xs) ++ ys) l m h g.hands);
      leads = subst P same g.leads;
    }

goes_keys : (before : List LineStep) (keys : List ℕ)
    → Ready before
    → Goes Ready before (good_steps keys) (good_characters keys)
goes_keys before [] h = record {
  hands = record {
    received = ap received_list (append-nil before) ∙ sym (append-nil (received_list before));
    lost = ap lost_count (append-nil before);
  };
  leads = subst Ready (sym (append-nil before)) h;
}
goes_keys before (b ∷ keys) h =
    goes_on Ready before (Rx (good_character b) ∷ []) (good_steps keys) (good_character b ∷ []) (good_characters keys)
    (hands_key before b h)
    (goes_keys (before ++ Rx (good_character b) ∷ []) keys (after_key before b h))

goes_closing : (before : List LineStep) → Clear before → Goes Clear before (Unmask ∷ Idle 4 ∷ []) []
goes_closing before h =
    goes_on Clear before (Unmask ∷ []) (Idle 4 ∷ []) [] [] (hands_none before Unmask h.waits refl)
    (record {
      hands = hands_none (before ++ Unmask ∷ []) (Idle 4) (after_unmask before h).waits refl;
      leads = after_idle (before ++ Unmask ∷ []) (after_unmask before h);
    })

goes_phase : (before : List LineStep) (keys : List ℕ)
    → Clear before
    → Goes Clear before (closed_script (key_line keys)) (good_characters keys)
goes_phase before keys h =
    let start = before ++ Trigger 1 ∷ [] in
    let g = goes_keys start keys (after_trigger before h) in
    let closing = goes_closing (start ++ good_steps keys) g.leads.clear in
    let rest = goes_on Clear start (good_steps keys) (Unmask ∷ Idle 4 ∷ []) (good_characters keys) [] g.hands closing in
    subst (λ (l : List Flagged). Goes Clear before (closed_script (key_line keys)) l)
    (append-nil (good_characters keys))
    (goes_on Clear before (Trigger 1 ∷ []) (good_steps keys ++ Unmask ∷ Idle 4 ∷ []) [] (good_characters keys ++ [])
    (hands_none before (Trigger 1) h.waits refl) rest)

-- ---- phases

goes_phases : (before : List LineStep) (phases : List (List ℕ)) → Clear before
    → Goes Clear before (script (map key_line phases)) (good_characters (flat_map (λ keys. keys) phases))
unfolding script
goes_phases before [] h = record {
  hands = record {
    received = ap received_list (append-nil before) ∙ sym (append-nil (received_list before));
    lost = ap lost_count (append-nil before);
  };
  leads = subst Clear (sym (append-nil before)) h;
}
goes_phases before (keys ∷ phases) h =
    let g = goes_phase before keys h in
    subst (λ (l : List Flagged). Goes Clear before (closed_script (key_line keys) ++ script (map key_line phases)) l)
    (sym (map-append good_character keys (flat_map (λ ks. ks) phases)))
    (goes_on Clear before (closed_script (key_line keys)) (script (map key_line phases)) (good_characters keys)
    (good_characters (flat_map (λ ks. ks) phases)) g.hands
    (goes_phases (before ++ closed_script (key_line keys)) phases g.leads))

-- the keys of each phase that went to console p
abbrev keys_by_phase : (p : ℕ) → List ℕ → List PlainVtPhase → List (List ℕ)
keys_by_phase p consoles [] = []
keys_by_phase p consoles (phase ∷ phases) =
    keys_to p phase.keys consoles ∷ keys_by_phase p (drop (length phase.keys) consoles) phases

keys_to_none : (p : ℕ) (keys : List ℕ) → keys_to p keys [] ≡ []
keys_to_none p [] = refl
keys_to_none p (key ∷ keys) = refl

pub keys_to_both : (p : ℕ) (xs ys consoles : List ℕ)
    → keys_to p (xs ++ ys) consoles ≡ keys_to p xs consoles ++ keys_to p ys (drop (length xs) consoles)
keys_to_both p [] ys consoles = refl
keys_to_both p (x ∷ xs) ys [] = sym (keys_to_none p ys)
keys_to_both p (x ∷ xs) ys (n ∷ consoles) =
    ap (λ (l : List ℕ). (if n == p then x ∷ [] else []) ++ l) (keys_to_both p xs ys consoles)
    ∙ sym
    (append_assoc (if n == p then x ∷ [] else []) (keys_to p xs consoles) (keys_to p ys (drop (length xs) consoles)))

all_by_phase : (p : ℕ) (consoles : List ℕ) (phases : List PlainVtPhase)
    → flat_map (λ keys. keys) (keys_by_phase p consoles phases) ≡ keys_to p (all_keys phases) consoles
all_by_phase p consoles [] = refl
all_by_phase p consoles (phase ∷ phases) =
    ap (λ (l : List ℕ). keys_to p phase.keys consoles ++ l) (all_by_phase p (drop (length phase.keys) consoles) phases)
    ∙ sym (keys_to_both p phase.keys (all_keys phases) consoles)

line_at : (p ports : ℕ) (keys consoles : List ℕ) (phase : PlainPhase)
    → p < ports
    → line_on p (keyed_phase ports keys consoles phase) ≡ key_line (keys_to p keys consoles)
line_at p ports keys consoles phase h =
    get_or-map-range_with_len (λ q. key_line (keys_to q keys consoles)) 0 ports p p [] h (omega arith)

lines_are : (p ports k : ℕ) (consoles : List ℕ) (keyboards : List PlainVtPhase) (phases : List PlainPhase)
    → p < ports
    → length phases ≡ length keyboards
    → map (line_on p) (take k (keyed_phases ports consoles keyboards phases))
    ≡ map key_line (keys_by_phase p consoles (take k keyboards))
lines_are p ports zero consoles keyboards phases h e = refl
lines_are p ports (suc k) consoles [] [] h e = refl
lines_are p ports (suc k) consoles [] (phase ∷ phases) h e = absurd (omega (arith, e))
lines_are p ports (suc k) consoles (keyboard ∷ keyboards) [] h e = absurd (omega (arith, e))
lines_are p ports (suc k) consoles (keyboard ∷ keyboards) (phase ∷ phases) h e =
    ap (λ (line : List LineStep).
    line ∷ map (line_on p) (take k (keyed_phases ports (drop (length keyboard.keys) consoles) keyboards phases)))
    (line_at p ports keyboard.keys consoles phase h)
    ∙ ap (λ (lines : List (List LineStep)). key_line (keys_to p keyboard.keys consoles) ∷ lines)
    (lines_are p ports k (drop (length keyboard.keys) consoles) keyboards phases h (omega (arith, e)))

clear_first : Clear []
unfolding is_masked waiting_list window is_cut
clear_first = record { masked = refl; waits = refl }

none_received : received_list [] ≡ []
unfolding received_list received_list_after
none_received = refl

none_lost : lost_count [] ≡ 0
unfolding lost_count lost_count_after
none_lost = refl

goes_session : (session : PlainVtSession) (entries : List VtEntry) (p k : ℕ)
    → HasAllPhases session
    → p < session.calls.ports
    → Hands [] (line_script p k (keyed session entries))
    (good_characters (keys_to p (all_keys (take k session.phases)) (consoles_in entries)))
goes_session session entries p k whole h =
    let consoles = consoles_in entries in
    let phases = take k session.phases in
    subst
    (λ (lines : List (List LineStep)). Hands [] (script lines) (good_characters (keys_to p (all_keys phases) consoles)))
    (sym (lines_are p session.calls.ports k consoles session.phases session.calls.phases h whole))
    (subst
    (λ (keys : List ℕ). Hands [] (script (map key_line (keys_by_phase p consoles phases))) (good_characters keys))
    (all_by_phase p consoles phases)
    (goes_phases [] (keys_by_phase p consoles phases) clear_first).hands)

pub keys_received : (session : PlainVtSession) (entries : List VtEntry) (p k : ℕ)
    → HasAllPhases session
    → p < session.calls.ports
    → received_list (line_script p k (keyed session entries))
    ≡ good_characters (keys_to p (all_keys (take k session.phases)) (consoles_in entries))
keys_received session entries p k whole h =
    (goes_session session entries p k whole h).received
    ∙ ap
    (λ (l : List Flagged). l ++ good_characters (keys_to p (all_keys (take k session.phases)) (consoles_in entries)))
    none_received

pub keys_not_lost : (session : PlainVtSession) (entries : List VtEntry) (p k : ℕ)
    → HasAllPhases session
    → p < session.calls.ports
    → lost_count (line_script p k (keyed session entries)) ≡ 0
keys_not_lost session entries p k whole h = (goes_session session entries p k whole h).lost ∙ none_lost

-- ---- arrivals

pub good_arrive : (keys : List ℕ) → arrival_count (good_steps keys) ≡ length keys
good_arrive [] = refl
good_arrive (key ∷ keys) = omega (arith, good_arrive keys)

phase_arrives : (keys : List ℕ) → arrival_count (closed_script (key_line keys)) ≡ length keys
phase_arrives keys = omega (arith, good_arrive keys, arrival_count-append (good_steps keys) (Unmask ∷ Idle 4 ∷ []))

phases_arrive : (phases : List (List ℕ))
    → arrival_count (script (map key_line phases)) ≡ length (flat_map (λ keys. keys) phases)
unfolding script
phases_arrive [] = refl
phases_arrive (keys ∷ phases) =
    omega (
      arith,
      phase_arrives keys,
      phases_arrive phases,
      arrival_count-append (closed_script (key_line keys)) (script (map key_line phases)),
      length-append keys (flat_map (λ ks. ks) phases),
    )

pub keys_arrive : (session : PlainVtSession) (entries : List VtEntry) (p k : ℕ)
    → HasAllPhases session
    → p < session.calls.ports
    → arrival_count (line_script p k (keyed session entries))
    ≡ length (keys_to p (all_keys (take k session.phases)) (consoles_in entries))
keys_arrive session entries p k whole h =
    let consoles = consoles_in entries in
    let phases = take k session.phases in
    ap (λ (lines : List (List LineStep)). arrival_count (script lines))
    (lines_are p session.calls.ports k consoles session.phases session.calls.phases h whole)
    ∙ phases_arrive (keys_by_phase p consoles phases)
    ∙ ap length (all_by_phase p consoles phases)
