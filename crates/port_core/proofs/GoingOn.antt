-- A port goes on by an entry: what it keeps.
use Rattle.std.proofs.Common.{◌≡◌, ℕ, List, [], ◌∷◌, ◌++◌, IsTrue, Bool, true, false}
use Rattle.std.proofs.Common.{Option, ◌+◌, ◌^◌, ◌<◌, ◌≤◌, if◌then◌else◌, length, sum, refl}
use Rattle.std.proofs.Common.{sym, ◌∙◌, ap, subst, arith, rules, length-append, append-nil}
use Rattle.std.proofs.lemmas.Bool.{false≢true}
use Rattle.tty_base.specs.Sizes.{COLUMNS_OF_ENTRY, MOST_ENTRIES, MOST_FLIP}
use Rattle.tty_base.specs.declared.characters.Flagged.{Flagged}
use Rattle.word_ring.specs.Ends.{TakerState}
use Rattle.tty_calls.specs.declared.journals.Who.{Who}
use Rattle.tty_calls.specs.Plain.{PlainCall, PlainEvent, answered, parted, waited, flushed, ticked, line_ended}
use Rattle.tty_calls.specs.Plain.{clock_ended, caller_ended, phase_ended, hung_up, PlainEntry, is_caller, chars_in}
use Rattle.ldisc_switch.specs.Disciplines.{column_in}
use Rattle.tty_terminal.specs.Terminals.{Terminal, caller_at, begun_of, opening}
use Rattle.tty_terminal.specs.Steps.{Allowed, after}
use Rattle.tty_terminal.specs.Standing.{Standing, standing_of, standing_after_own, standing_after_other}
use Rattle.tty_terminal.specs.Runs.{IsRun, KnowsMore, AgreesOn, RunHas, GoesOnInGeneration, is_flush, is_of_call}
use Rattle.tty_terminal.proofs.Runs.{leads_more, chars_append, Bounded, run_bounded, run_callers}
use Rattle.tty_terminal.proofs.Runs.{run_capacity, run_in_line, run_within, run_taken}
use Rattle.tty_terminal.proofs.StepLaws.{sent_of, sent_after, begun_after}
use Rattle.tty_terminal.proofs.StandingLaws.{step_stands, run_stands}
use Rattle.tty_terminal.proofs.Grown.{leads_grown}
use Rattle.tty_terminal.proofs.Agreeing.{leads_agrees}
use Rattle.tty_terminal.proofs.OneRun.{one_more}
use Rattle.port_core.specs.declared.waiting.WaitingCall.{WaitingCall}
use Rattle.port_core.specs.Ports.{PlainKept, PortValue, IsPort, call_in, AllBegun, with_entry, phase_entry, IsOpen}
use Rattle.port_core.specs.Inside.{AreWaitingCalls, KeepsCalls}

-- the port with more calls kept, this flip buffer, and one more entry
abbrev pub entered : PortValue → List PlainKept → TakerState Flagged → PlainEntry → PortValue
entered v ks f e =
    record v { terminal = after (call_in ks) v.terminal e; journal = v.journal ++ e ∷ []; kept = ks; flip = f }

-- what an entry needs so that the port goes on
pub record Keeps (v : PortValue) (ks : List PlainKept) (f : TakerState Flagged) (e : PlainEntry) : Type 0 where
  pub few : length v.journal < v.limit
  pub grows : KnowsMore (call_in v.kept) (call_in ks)
  pub allowed : Allowed (call_in ks) v.counts v.terminal e
  pub begun : AllBegun (after (call_in ks) v.terminal e) ks
  pub taken : f.taken ≡ v.flip.taken ++ chars_in e.event
  pub capacity : f.capacity ≡ v.flip.capacity
  pub sent : sent_of e.event v.terminal.sent ≤ f.floor
  pub column : column_in (after (call_in ks) v.terminal e).disc ≤ column_in v.terminal.disc + COLUMNS_OF_ENTRY
  pub some : length (chars_in e.event) ≤ MOST_FLIP
  pub piece : IsTrue (is_flush e.event) → 0 < e.part → RunHas e.step e.generation v.journal
  pub generation : GoesOnInGeneration v.terminal e

pub goes_on : (v : PortValue) (ks : List PlainKept) (f : TakerState Flagged) (e : PlainEntry)
    → IsPort v
    → Keeps v ks f e
    → IsPort (entered v ks f e)
goes_on v ks f e p k =
    let g = call_in ks in
    let before : IsRun g v.counts v.flip.capacity v.journal v.terminal =
    leads_grown (call_in v.kept) g v.counts (opening (sum v.counts) v.flip.capacity)
    v.journal v.terminal k.grows p.run in
    let run : IsRun g v.counts v.flip.capacity (v.journal ++ e ∷ []) (after g v.terminal e) =
    leads_more g v.counts (opening (sum v.counts) v.flip.capacity) v.journal v.terminal e before k.allowed in
    let added : length (v.journal ++ e ∷ []) ≡ length v.journal + 1 = length-append v.journal (e ∷ []) in
    let more : length f.taken ≡ length v.flip.taken + length (chars_in e.event) =
    ap length k.taken ∙ length-append v.flip.taken (chars_in e.event) in
    let bounded = p.bounded in
    let column = p.column in
    let some = k.some in
    let next = k.column in
    record {
      run = subst (λ (n : ℕ). IsRun g v.counts n (v.journal ++ e ∷ []) (after g v.terminal e)) (sym k.capacity) run;
      one = one_more g v.counts v.flip.capacity v.journal v.terminal e before p.one k.allowed k.generation k.piece;
      chars = chars_append v.journal e ∙ ap (λ (cs : List Flagged). cs ++ chars_in e.event) p.chars ∙ sym k.taken;
      sent = subst (λ n. n ≤ f.floor) (sym (sent_after g v.counts v.terminal e k.allowed)) k.sent;
      capacity = omega (arith, k.capacity, p.capacity);
      bounded = omega arith;
      column = omega arith;
      few = omega (arith, k.few, added);
      limit = p.limit;
      begun = k.begun;
    }

-- begun calls stay begun
pub begun_on : (t u : Terminal) (ks : List PlainKept)
    → ((c : ℕ) → begun_of (caller_at t c) ≤ begun_of (caller_at u c))
    → AllBegun t ks
    → AllBegun u ks
begun_on t u [] more begun = tt
begun_on t u (k ∷ ks) more begun = (omega (arith, more k.caller, begun.0), begun_on t u ks more begun.1)

no_call_goes_on : (t : Terminal) (e : PlainEntry) → is_of_call e.event ≡ false → GoesOnInGeneration t e
no_call_goes_on t e none = λ c of_call by parts waits. absurd (false≢true (sym none ∙ of_call))

-- ---- where callers stand

-- an entry that is of no call leaves the caller's step, and whether it waits
abbrev StaysAt : Standing → Standing → Type 0
StaysAt s u = (u.next ≡ s.next) × (u.waits ≡ s.waits)

own_stays : (event : PlainEvent) (g : ℕ) (s : Standing)
    → is_of_call event ≡ false
    → StaysAt s (standing_after_own event g s)
own_stays (answered a dropped) g s none = absurd (false≢true (sym none))
own_stays (parted n) g s none = absurd (false≢true (sym none))
own_stays waited g s none = absurd (false≢true (sym none))
own_stays (flushed chars) g s none = (refl, refl)
own_stays ticked g s none = (refl, refl)
own_stays (line_ended n) g s none = (refl, refl)
own_stays clock_ended g s none = (refl, refl)
own_stays caller_ended g s none = (refl, refl)
own_stays phase_ended g s none = (refl, refl)
own_stays (hung_up dropped) g s none = (refl, refl)

other_stays : (event : PlainEvent) (s : Standing) → StaysAt s (standing_after_other event s)
other_stays (answered a dropped) s = (refl, refl)
other_stays (parted n) s = (refl, refl)
other_stays waited s = (refl, refl)
other_stays (flushed chars) s = (refl, refl)
other_stays ticked s = (refl, refl)
other_stays (line_ended n) s = (refl, refl)
other_stays clock_ended s = (refl, refl)
other_stays caller_ended s = (refl, refl)
other_stays phase_ended s = (refl, refl)
other_stays (hung_up dropped) s = (refl, refl)

choice_stays : (b : Bool) (s u w : Standing) → StaysAt s u → StaysAt s w → StaysAt s (if b then u else w)
choice_stays true s u w p q = p
choice_stays false s u w p q = q

plain_stays : (f : ℕ → ℕ → Option PlainCall) (counts : List ℕ) (t : Terminal) (e : PlainEntry)
    → Allowed f counts t e
    → is_of_call e.event ≡ false
    → (c : ℕ)
    → StaysAt (standing_of (caller_at t c)) (standing_of (caller_at (after f t e) c))
plain_stays f counts t e allowed none c =
    subst (StaysAt (standing_of (caller_at t c))) (sym (step_stands f counts t e allowed c))
    (choice_stays (is_caller e.who c) (standing_of (caller_at t c)) _ _
    (own_stays e.event e.generation (standing_of (caller_at t c)) none)
    (other_stays e.event (standing_of (caller_at t c))))

calls_stay : (t u : Terminal) (ks : List PlainKept) (slots : List (Option WaitingCall))
    → ((c : ℕ) → StaysAt (standing_of (caller_at t c)) (standing_of (caller_at u c)))
    → AreWaitingCalls t ks slots
    → AreWaitingCalls u ks slots
calls_stay t u ks slots stay are c waits =
    let was = are c (sym (stay c).1 ∙ waits) in
    record {
      copy = was.copy;
      there = was.there;
      found = ap (λ (n : ℕ). call_in ks c n) (stay c).0 ∙ was.found;
      number = was.number;
    }

-- ---- the first entry

-- a port with no entries, on a flip buffer from which nothing was taken
fresh_keeps : (counts : List ℕ) (limit : ℕ) (starved : Bool) (flip : TakerState Flagged)
    (slots : List (Option WaitingCall))
    → limit ≤ MOST_ENTRIES
    → flip.taken ≡ []
    → flip.capacity ≤ MOST_FLIP
    → length slots ≡ sum counts
    → KeepsCalls (record {
      terminal = opening (sum counts) flip.capacity;
      journal = [];
      kept = [];
      counts = counts;
      limit = limit;
      starved = starved;
      flip = flip;
    }) slots
fresh_keeps counts limit starved flip slots few fresh small many =
    record {
      port = record {
        run = refl;
        one = search rules;
        chars = sym fresh;
        sent = omega arith;
        capacity = small;
        bounded = rw fresh (omega arith);
        column = omega arith;
        few = omega arith;
        limit = few;
        begun = tt;
      };
      many = many;
      calls = λ c waits. absurd (false≢true (sym (ap (λ (s : Standing). s.waits)
          (run_stands (call_in []) counts flip.capacity [] (opening (sum counts) flip.capacity) refl c))
          ∙ waits));
    }

pub begins : (v : PortValue) (slots : List (Option WaitingCall))
    → v.terminal ≡ opening (sum v.counts) v.flip.capacity
    → v.journal ≡ []
    → v.kept ≡ []
    → v.limit ≤ MOST_ENTRIES
    → v.flip.taken ≡ []
    → v.flip.capacity ≤ MOST_FLIP
    → length slots ≡ sum v.counts
    → KeepsCalls v slots
begins v slots terminal journal kept few fresh small many =
    subst (λ (w : PortValue). KeepsCalls w slots)
    (λ i. record v { terminal = sym terminal i; journal = sym journal i; kept = sym kept i })
    (fresh_keeps v.counts v.limit v.starved v.flip slots few fresh small many)

-- ---- entries that are of no call

-- such an entry keeps the port; what it takes out of the flip buffer is said
pub plainly : (v now : PortValue) (slots : List (Option WaitingCall)) (f : TakerState Flagged) (e : PlainEntry)
    → KeepsCalls v slots
    → length v.journal < v.limit
    → Allowed (call_in v.kept) v.counts v.terminal e
    → f.taken ≡ v.flip.taken ++ chars_in e.event
    → length (chars_in e.event) ≤ MOST_FLIP
    → f.capacity ≡ v.flip.capacity
    → sent_of e.event v.terminal.sent ≤ f.floor
    → is_of_call e.event ≡ false
    → (IsTrue (is_flush e.event) → 0 < e.part → RunHas e.step e.generation v.journal)
    → column_in (after (call_in v.kept) v.terminal e).disc ≤ column_in v.terminal.disc + COLUMNS_OF_ENTRY
    → now ≡ record (with_entry v e) { flip = f }
    → KeepsCalls now slots
plainly v now slots f e p few allowed taken some capacity sent none piece column now_is =
    subst (λ (w : PortValue). KeepsCalls w slots) (sym now_is) (record {
      port = goes_on v v.kept f e p.port (record {
        few = few;
        grows = λ c s call h. h;
        allowed = allowed;
        begun = begun_on v.terminal (after (call_in v.kept) v.terminal e) v.kept
            (begun_after (call_in v.kept) v.counts v.terminal e allowed) p.port.begun;
        taken = taken;
        capacity = capacity;
        sent = sent;
        column = column;
        some = some;
        piece = piece;
        generation = no_call_goes_on v.terminal e none;
      });
      many = p.many;
      calls = calls_stay v.terminal (after (call_in v.kept) v.terminal e) v.kept slots
          (plain_stays (call_in v.kept) v.counts v.terminal e allowed none) p.calls;
    })

-- such an entry that takes nothing out of the flip buffer
pub still : (v now : PortValue) (slots : List (Option WaitingCall)) (f : TakerState Flagged) (e : PlainEntry)
    → KeepsCalls v slots
    → length v.journal < v.limit
    → Allowed (call_in v.kept) v.counts v.terminal e
    → f.taken ≡ v.flip.taken
    → f.capacity ≡ v.flip.capacity
    → sent_of e.event v.terminal.sent ≤ f.floor
    → chars_in e.event ≡ []
    → is_of_call e.event ≡ false
    → is_flush e.event ≡ false
    → (after (call_in v.kept) v.terminal e).disc ≡ v.terminal.disc
    → now ≡ record (with_entry v e) { flip = f }
    → KeepsCalls now slots
still v now slots f e p few allowed taken capacity sent chars none other disc now_is =
    let zero : length (chars_in e.event) ≡ 0 = ap (λ (cs : List Flagged). length cs) chars in
    let column : column_in (after (call_in v.kept) v.terminal e).disc ≡ column_in v.terminal.disc = ap column_in disc in
    plainly v now slots f e p few allowed
    (taken ∙ (sym (append-nil v.flip.taken) ∙ ap (λ (cs : List Flagged). v.flip.taken ++ cs) (sym chars)))
    (omega (arith, zero)) capacity sent none
    (λ h. absurd (false≢true (sym other ∙ h))) (omega (arith, column)) now_is

-- a port whose parts are these
pub made : (v : PortValue) (t u : Terminal) (js ls : List PlainEntry) (ks ms : List PlainKept) (starved : Bool)
    (f g : TakerState Flagged)
    → t ≡ u
    → js ≡ ls
    → ks ≡ ms
    → starved ≡ v.starved
    → f ≡ g
    → record v { terminal = t; journal = js; kept = ks; starved = starved; flip = f }
    ≡ record v { terminal = u; journal = ls; kept = ms; flip = g }
made v t u js ls ks ms starved f g p q r s w = λ i.
    record { terminal = p i; journal = q i; kept = r i; counts = v.counts; limit = v.limit; starved = s i; flip = w i }

-- an entry is added to a journal
pub entry_added : (js ks ls : List PlainEntry) (d e : PlainEntry)
    → ks ≡ js
    → ls ≡ ks ++ d ∷ []
    → d ≡ e
    → ls ≡ js ++ e ∷ []
entry_added js ks ls d e same added is = added ∙ (λ i. same i ++ is i ∷ [])

-- an entry of the phase is added to a journal
pub phase_entry_added : (v w : PortValue) (who : Who) (event : PlainEvent) (e : PlainEntry) (js : List PlainEntry)
    → v ≡ w
    → e ≡ phase_entry w who event
    → js ≡ v.journal ++ e ∷ []
    → js ≡ v.journal ++ phase_entry v who event ∷ []
phase_entry_added v w who event e js is entry added =
    added
    ∙ ap (λ (x : PlainEntry). v.journal ++ x ∷ []) (entry ∙ ap (λ (x : PortValue). phase_entry x who event) (sym is))

-- a port that can make an entry has few
pub few_in : (v w : PortValue) → v ≡ w → IsOpen w → length v.journal < v.limit
few_in v w is can = subst (λ (x : PortValue). length x.journal < x.limit) (sym is) can.0

-- a flip buffer from which nothing was taken
pub none_taken : (f g : TakerState Flagged) → g.taken ≡ f.taken → g.taken ≡ f.taken ++ []
none_taken f g same = same ∙ sym (append-nil f.taken)

-- ---- the numbers of a port

-- the numbers of a port's terminal are small
pub port_bounded : (v : PortValue) → IsPort v → Bounded v.terminal MOST_ENTRIES
port_bounded v p =
    let b = run_bounded (call_in v.kept) v.counts v.flip.capacity v.journal v.terminal p.run in
    let few : length v.journal ≤ MOST_ENTRIES = omega (arith, p.few, p.limit) in
    record {
      generation = omega (arith, b.generation, few);
      tick = omega (arith, b.tick, few);
      phase = omega (arith, b.phase, few);
      next = λ c. omega (arith, b.next c, few);
    }

pub port_callers : (v : PortValue) → IsPort v → length v.terminal.callers ≡ sum v.counts
port_callers v p = run_callers (call_in v.kept) v.counts v.flip.capacity v.journal v.terminal p.run

-- the callers of the counts are known to the terminal
pub known_caller : (v w : PortValue) (c : ℕ) → v ≡ w → IsPort v → c < sum w.counts → c < length v.terminal.callers
known_caller v w c is p known =
    subst (λ n. c < n) (sym (port_callers v p)) (subst (λ (x : PortValue). c < sum x.counts) (sym is) known)

pub port_taken : (v : PortValue) → IsPort v → v.terminal.taken ≡ length v.flip.taken
port_taken v p = run_taken (call_in v.kept) v.counts v.flip.capacity v.journal v.terminal p.run ∙ ap length p.chars

pub port_capacity : (v : PortValue) → IsPort v → v.terminal.capacity ≡ v.flip.capacity
port_capacity v p = run_capacity (call_in v.kept) v.counts v.flip.capacity v.journal v.terminal p.run

-- no more is known to be sent than fits beside what was taken
pub port_within : (v : PortValue) → IsPort v → v.terminal.sent ≤ length v.flip.taken + v.flip.capacity
port_within v p = omega (
  arith,
  run_within (call_in v.kept) v.counts v.flip.capacity v.journal v.terminal p.run,
  port_taken v p,
  port_capacity v p,
)

-- after the line's end no more is taken than was sent
pub port_in_line : (v : PortValue) → IsPort v → IsTrue v.terminal.line_over → length v.flip.taken ≤ v.terminal.sent
port_in_line v p over =
    omega (arith, run_in_line (call_in v.kept) v.counts v.flip.capacity v.journal v.terminal p.run over, port_taken v p)

-- so few characters were taken
pub port_few : (v : PortValue) → IsPort v → length v.flip.taken ≤ 2 ^ 38
port_few v p = omega (arith, p.bounded, p.few, p.limit)

-- the journal is a run of every session that has the calls kept
pub run_of_session : (v : PortValue)
    → IsPort v
    → (session : ℕ → ℕ → Option PlainCall)
    → KnowsMore (call_in v.kept) session
    → IsRun session v.counts v.flip.capacity v.journal v.terminal
run_of_session v p session grows = leads_grown (call_in v.kept) session v.counts
    (opening (sum v.counts) v.flip.capacity) v.journal v.terminal grows p.run

pub run_of_agreeing : (v : PortValue)
    → IsPort v
    → (session : ℕ → ℕ → Option PlainCall)
    → AgreesOn (call_in v.kept) session v.journal
    → IsRun session v.counts v.flip.capacity v.journal v.terminal
run_of_agreeing v p session agrees = leads_agrees (call_in v.kept) session v.counts
    (opening (sum v.counts) v.flip.capacity) v.journal v.terminal agrees p.run
