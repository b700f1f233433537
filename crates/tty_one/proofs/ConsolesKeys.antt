-- Where the keys of consoles go, and what a console's journal has of them.
use Rattle.std.proofs.Common.{◌≡◌, ℕ, ◌+◌, ◌<◌, ◌≤◌, ◌==◌, Bool, true, false, if◌then◌else◌, List, [], ◌∷◌, ◌++◌}
use Rattle.std.proofs.Common.{length, map, refl, sym, ◌∙◌, ap, subst, arith, length-append}
use Rattle.std.specs.Prelude.{All}
use Rattle.std.specs.List.{range_with_len}
use Rattle.std.proofs.lemmas.Bool.Decides.{nat_tests}
use Rattle.std.proofs.lemmas.Grind.{flat_map-append}
use Rattle.std.proofs.lemmas.List.{take_all}
use Rattle.std.proofs.lemmas.List.Elements.{All-cons, All-nil}
use Rattle.std.proofs.lemmas.List.FromFn.{length-range_with_len}
use Rattle.tty_base.specs.Sizes.{MOST_PHASES}
use Rattle.tty_base.specs.declared.characters.Flagged.{Flagged}
use Rattle.tty_base.specs.Characters.{good_characters}
use Rattle.tty_calls.specs.declared.journals.PortRun.{PortRun}
use Rattle.tty_calls.specs.Sessions.{PlainPhase, line_on}
use Rattle.tty_terminal.specs.Terminals.{Terminal}
use Rattle.tty_terminal.specs.Runs.{chars_of}
use Rattle.uart_line.specs.Received.{received_list, script}
use Rattle.uart_line.specs.Offered.{kept_list}
use Rattle.legal_runs.specs.Legal.{IsLegal, script_on}
use Rattle.vt_consoles.specs.declared.entries.VtEntry.{VtEntry}
use Rattle.vt_consoles.specs.declared.entries.VtEvent.{VtEvent}
use Rattle.vt_consoles.specs.declared.entries.VtEvent.TheVariants.{Activate, State, Key}
use Rattle.vt_consoles.specs.Runs.{NameRightly, NamesRightly, active_after}
use Rattle.vt_text.specs.Sessions.{PlainVtPhase, PlainVtSession}
use Rattle.vt_text.proofs.Limits.{read_within}
use Rattle.vt_account.specs.Account.{HasParts, IsAccount, IsPhasePart, index_in, indexes_by}
use Rattle.vt_account.specs.Seats.{keyboard_seat}
use Rattle.vt_account.specs.Keyed.{IsWithinKeys, all_keys, console_in, consoles_in, keyed, keys_of, keys_to}
use Rattle.vt_account.proofs.Limits.{keyed_within}
use Rattle.vt_account.proofs.ReadSessions.{within_keys}
use Rattle.vt_account.proofs.Received.{keys_received}
use Rattle.tty_one.specs.Consoles.{EachKeyGoes, SpellsConsoles}

-- ---- each key goes to one console

-- each console that is named is one of so many
module _ (consoles active : ℕ) (few : active < consoles) where
  still : (event : VtEvent) → NamesRightly consoles active event → active_after active event < consoles
  still (Activate n) right = right
  still (State n) right = few
  still (Key index n) right = few

  named_first : (event : VtEvent) (others : List ℕ)
      → NamesRightly consoles active event
      → All (λ n. n < consoles) others
      → All (λ n. n < consoles) (console_in event ++ others)
  named_first (Activate n) others right h = h
  named_first (State n) others right h = h
  named_first (Key index n) others right h =
      All-cons (λ m. m < consoles) n others (subst (λ m. m < consoles) (sym right) few) h

named : (consoles active : ℕ) (entries : List VtEntry)
    → active < consoles
    → NameRightly consoles active entries
    → All (λ n. n < consoles) (consoles_in entries)
named consoles active [] few h = All-nil (λ n. n < consoles)
named consoles active (e ∷ entries) few h =
    named_first consoles active few e.event (consoles_in entries) h.0
    (named consoles (active_after active e.event) entries (still consoles active few e.event h.0) h.1)

neither : (b : Bool) (xs : List ℕ) → (if b then [] else []) ++ xs ≡ xs
neither true xs = refl
neither false xs = refl

rest_is_none : (xs ys : List ℕ) → xs ++ ys ≡ [] → ys ≡ []
rest_is_none [] ys h = h
rest_is_none (x ∷ xs) ys h = absurd (cc)

same_seat : (n : ℕ) → (n == n) ≡ true
same_seat n = grind (arith, nat_tests)

other_way : (n m : ℕ) → (n == m) ≡ false → (m == n) ≡ false
other_way n m h = grind (arith, nat_tests)

-- one seat alone has keys: so many keys stand in all entries
module _ (keyboard : ℕ) where
  abbrev OthersHaveNone : (ℕ → List ℕ) → Type 0
  OthersHaveNone indexes = (seat : ℕ) → (keyboard == seat) ≡ false → indexes seat ≡ []

  counted_first : (seat : ℕ) (event : VtEvent) (consoles : List ℕ) (indexes : ℕ → List ℕ)
      → OthersHaveNone (λ s. (if seat == s then index_in event else []) ++ indexes s)
      → length consoles ≡ length (indexes keyboard)
      → length (console_in event ++ consoles)
      ≡ length ((if seat == keyboard then index_in event else []) ++ indexes keyboard)
  counted_first seat (Activate n) consoles indexes none same =
      same ∙ ap length (sym (neither (seat == keyboard) (indexes keyboard)))
  counted_first seat (State n) consoles indexes none same =
      same ∙ ap length (sym (neither (seat == keyboard) (indexes keyboard)))
  counted_first seat (Key index n) consoles indexes none same = by (seat == keyboard) refl
    where
      by : (b : Bool)
          → (seat == keyboard) ≡ b
          → length (n ∷ consoles) ≡ length ((if b then index ∷ [] else []) ++ indexes keyboard)
      by true is = omega (arith, same)
      by false is =
          let found : index ∷ indexes seat ≡ [] =
          subst (λ (b : Bool). (if b then index ∷ [] else []) ++ indexes seat ≡ []) (same_seat seat)
          (none seat (other_way seat keyboard is)) in
          absurd (cc)

  counted : (entries : List VtEntry)
      → OthersHaveNone (λ s. indexes_by s entries)
      → length (consoles_in entries) ≡ length (indexes_by keyboard entries)
  counted [] none = refl
  counted (e ∷ entries) none =
      counted_first e.seat e.event (consoles_in entries) (λ s. indexes_by s entries) none
      (counted entries (λ seat other.
      rest_is_none (if e.seat == seat then index_in e.event else []) (indexes_by seat entries) (none seat other)))

part_counted : (session : PlainVtSession) (phase : PlainVtPhase) (first : ℕ) (part : List VtEntry)
    → IsPhasePart session phase first part
    → length (consoles_in part) ≡ length phase.keys
part_counted session phase first part h =
    let keyboard = keyboard_seat session.phases in
    let keys = range_with_len first (length phase.keys) in
    counted keyboard part (λ seat other.
    subst (λ (b : Bool). indexes_by seat part ≡ (if b then keys else [])) other (h.keys seat))
    ∙ ap length
    (subst (λ (b : Bool). indexes_by keyboard part ≡ (if b then keys else [])) (same_seat keyboard) (h.keys keyboard))
    ∙ length-range_with_len first (length phase.keys)

parts_counted : (session : PlainVtSession) (first : ℕ) (phases : List PlainVtPhase) (entries : List VtEntry)
    → HasParts session first phases entries
    → length (consoles_in entries) ≡ length (all_keys phases)
parts_counted session first [] entries h = ap (λ (es : List VtEntry). length (consoles_in es)) h
parts_counted session first (phase ∷ phases) entries h =
    let both : length (consoles_in entries) ≡ length (consoles_in h.part ++ consoles_in h.rest) =
    ap (λ (es : List VtEntry). length (consoles_in es)) h.parts
    ∙ ap length (flat_map-append (λ (e : VtEntry). console_in e.event) h.part h.rest) in
    omega (
      arith,
      both,
      length-append (consoles_in h.part) (consoles_in h.rest),
      part_counted session phase first h.part h.is_part,
      parts_counted session (first + length phase.keys) phases h.rest h.goes_on,
      length-append phase.keys (all_keys phases),
    )

pub each_goes : (text : List ℕ) (session : PlainVtSession) (entries : List VtEntry)
    → SpellsConsoles text session
    → IsAccount session entries
    → EachKeyGoes session entries
each_goes text session entries spells h =
    let keys = within_keys session (read_within text session spells) in
    record {
      count = parts_counted session 0 session.phases entries h.parts;
      each = named session.calls.ports 0 entries (omega (arith, keys.calls.some_ports)) h.run;
    }

-- ---- what is received

-- what comes on the line of a console are the keys that went there
received_are : (session : PlainVtSession) (entries : List VtEntry) (p : ℕ)
    → IsWithinKeys session
    → p < session.calls.ports
    → received_list (script_on p (keyed session entries)) ≡ good_characters (keys_of session entries p)
received_are session entries p keys port =
    let few : length (keyed session entries).phases ≤ MOST_PHASES = (keyed_within session entries keys).few_phases in
    let few_too : length session.phases ≤ MOST_PHASES = omega (arith, keys.whole, keys.calls.few_phases) in
    ap (λ (phases : List PlainPhase). received_list (script (map (line_on p) phases)))
    (sym (take_all MOST_PHASES (keyed session entries).phases few))
    ∙ keys_received session entries p MOST_PHASES keys.whole port
    ∙ ap (λ (phases : List PlainVtPhase). good_characters (keys_to p (all_keys phases) (consoles_in entries)))
    (take_all MOST_PHASES session.phases few_too)

pub keys_kept : (text : List ℕ) (session : PlainVtSession) (entries : List VtEntry) (p : ℕ) (run : PortRun)
    (t : Terminal)
    → SpellsConsoles text session
    → p < session.calls.ports
    → IsLegal p (keyed session entries) run t
    → chars_of run.journal.items ≡ kept_list (good_characters (keys_of session entries p)) run.line.overruns.items
keys_kept text session entries p run t spells port legal =
    legal.account.chars
    ∙ ap (λ (characters : List Flagged). kept_list characters run.line.overruns.items)
    (received_are session entries p (within_keys session (read_within text session spells)) port)
