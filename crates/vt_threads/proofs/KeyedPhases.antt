-- On the lines of a phase come the keys that its entries name, whatever entries follow.
use Rattle.std.proofs.Common.{◌≡◌, ℕ, suc, zero, ◌<◌, ◌==◌, if◌then◌else◌, List, [], ◌∷◌, ◌++◌, Some}
use Rattle.std.proofs.Common.{length, take, drop, refl, sym, ◌∙◌, ap, arith, length-append, get_or}
use Rattle.std.specs.Prelude.{slice_get}
use Rattle.std.proofs.lemmas.List.{drop-drop}
use Rattle.std.proofs.lemmas.Grind.{flat_map-append}
use Rattle.std.proofs.lemmas.List.FromFn.{get_or-map-range_with_len}
use Rattle.tty_calls.specs.Sessions.{PlainPhase, line_on}
use Rattle.vt_consoles.specs.declared.entries.VtEntry.{VtEntry}
use Rattle.vt_text.specs.Sessions.{PlainVtPhase, PlainVtSession}
use Rattle.vt_account.specs.Keyed.{console_in, consoles_in, keys_to, all_keys, key_line, keyed_phases, keyed}
use Rattle.vt_account.specs.Keyed.{HasAllPhases}

-- further consoles change nothing
keys_enough : (p : ℕ) (keys went more : List ℕ)
    → length went ≡ length keys
    → keys_to p keys (went ++ more) ≡ keys_to p keys went
keys_enough p [] went more h = refl
keys_enough p (k ∷ keys) [] more h = absurd (omega (arith, h))
keys_enough p (k ∷ keys) (n ∷ went) more h =
    ap (λ (l : List ℕ). (if n == p then k ∷ [] else []) ++ l) (keys_enough p keys went more (omega (arith, h)))

drop_front : (xs ys : List ℕ) (n : ℕ) → n ≡ length xs → drop n (xs ++ ys) ≡ ys
drop_front [] ys zero h = refl
drop_front [] ys (suc n) h = absurd (omega (arith, h))
drop_front (x ∷ xs) ys zero h = absurd (omega (arith, h))
drop_front (x ∷ xs) ys (suc n) h = drop_front xs ys n (omega (arith, h))

first_is : (x y : PlainVtPhase) → Some x ≡ Some y → x ≡ y
first_is x y h = cc

line_of_phase : (p ports : ℕ) (consoles : List ℕ) (keyboards : List PlainVtPhase) (phases : List PlainPhase) (k : ℕ)
    (keyboard : PlainVtPhase) (d : PlainPhase)
    → p < ports
    → length phases ≡ length keyboards
    → slice_get keyboards k ≡ Some keyboard
    → line_on p (get_or (keyed_phases ports consoles keyboards phases) k d)
    ≡ key_line (keys_to p keyboard.keys (drop (length (all_keys (take k keyboards))) consoles))
line_of_phase p ports consoles [] phases k keyboard d lt each at = absurd (cc)
line_of_phase p ports consoles (x ∷ keyboards) [] k keyboard d lt each at = absurd (omega (arith, each))
line_of_phase p ports consoles (x ∷ keyboards) (phase ∷ phases) zero keyboard d lt each at =
    get_or-map-range_with_len (λ q. key_line (keys_to q x.keys consoles)) 0 ports p p [] lt (omega arith)
    ∙ ap (λ (y : PlainVtPhase). key_line (keys_to p y.keys consoles)) (first_is x keyboard at)
line_of_phase p ports consoles (x ∷ keyboards) (phase ∷ phases) (suc k) keyboard d lt each at =
    line_of_phase p ports (drop (length x.keys) consoles) keyboards phases k keyboard d lt (omega (arith, each)) at
    ∙ ap (λ (l : List ℕ). key_line (keys_to p keyboard.keys l))
    (drop-drop (length (all_keys (take k keyboards))) (length x.keys) consoles)
    ∙ ap (λ (n : ℕ). key_line (keys_to p keyboard.keys (drop n consoles)))
    (sym (length-append x.keys (all_keys (take k keyboards))))

consoles_both : (xs ys : List VtEntry) → consoles_in (xs ++ ys) ≡ consoles_in xs ++ consoles_in ys
consoles_both xs ys = flat_map-append (λ (e : VtEntry). console_in e.event) xs ys

pub keyed_line : (session : PlainVtSession) (p k : ℕ) (phase : PlainVtPhase) (entries part more : List VtEntry)
    (went : List ℕ) (d : PlainPhase)
    → HasAllPhases session
    → p < session.calls.ports
    → slice_get session.phases k ≡ Some phase
    → consoles_in part ≡ went
    → length went ≡ length phase.keys
    → length (consoles_in entries) ≡ length (all_keys (take k session.phases))
    → line_on p (get_or (keyed session (entries ++ (part ++ more))).phases k d) ≡ key_line (keys_to p phase.keys went)
keyed_line session p k phase entries part more went d whole lt at goes each before =
    let consoles = consoles_in (entries ++ (part ++ more)) in
    let all : consoles ≡ consoles_in entries ++ (went ++ consoles_in more) =
    consoles_both entries (part ++ more)
    ∙ ap (λ (l : List ℕ). consoles_in entries ++ l) (consoles_both part more)
    ∙ ap (λ (l : List ℕ). consoles_in entries ++ (l ++ consoles_in more)) goes in
    line_of_phase p session.calls.ports consoles session.phases session.calls.phases k phase d lt whole at
    ∙ ap (λ (l : List ℕ). key_line (keys_to p phase.keys (drop (length (all_keys (take k session.phases))) l))) all
    ∙ ap (λ (l : List ℕ). key_line (keys_to p phase.keys l))
    (drop_front (consoles_in entries) (went ++ consoles_in more) (length (all_keys (take k session.phases)))
    (sym before))
    ∙ ap key_line (keys_enough p phase.keys went (consoles_in more) each)
