-- Histories of journals: what they tell, and how they grow by an entry.
use Rattle.std.proofs.Common.{◌≡◌, ℕ, ◌+◌, ◌≤◌, List, [], ◌∷◌, ◌++◌, Bool, true, false}
use Rattle.std.proofs.Common.{IsTrue, ◌&&◌, ◌==◌, inl, inr, if◌then◌else◌, Option}
use Rattle.std.proofs.Common.{None, Some, length, map, sum, refl, sym, ◌∙◌, ap, subst, arith}
use Rattle.std.proofs.lemmas.Bool.{and_parts, or_cases, eqb-true, false≢true}
use Rattle.std.proofs.lemmas.List.{map-append, length-map}
use Rattle.tty_base.specs.Sizes.{MOST_ENTRIES}
use Rattle.tty_calls.specs.declared.journals.Who.{Who}
use Rattle.tty_calls.specs.declared.journals.Who.TheVariants.{Caller, Flusher, Line, Clock, Session}
use Rattle.tty_calls.specs.Plain.{PlainCall, PlainEvent, answered, parted, waited, flushed, ticked, line_ended}
use Rattle.tty_calls.specs.Plain.{clock_ended, caller_ended, phase_ended, hung_up, PlainEntry}
use Rattle.tty_terminal.specs.Terminals.{Terminal, opening, caller_at}
use Rattle.tty_terminal.specs.declared.callers.Piece.{Piece}
use Rattle.tty_terminal.specs.Steps.{follows, IsAllowed, after, after_event}
use Rattle.tty_terminal.specs.Runs.{Leads, IsRun, KnowsMore, AgreesAt, AgreesOn, is_of_call, is_flush, RunHas}
use Rattle.tty_terminal.specs.Makers.{IsOfCall, IsByItsMaker}
use Rattle.tty_terminal.specs.Standing.{Standing, standing_of, standing_after}
use Rattle.tty_terminal.specs.Standing.{standing_in, at_first}
use Rattle.tty_terminal.specs.Marks.{Marks, marks_of, marks_after, marks_in, no_marks}
use Rattle.tty_terminal.proofs.StepLaws.{runs_of, step_does}
use Rattle.tty_terminal.proofs.MarkLaws.{run_marks, step_marks, step_maker}
use Rattle.tty_terminal.proofs.StandingLaws.{run_stands}
use Rattle.tty_terminal.proofs.OneRun.{leads_runs}
use Rattle.tty_terminal.proofs.Runs.{run_callers}
use Rattle.port_core.specs.Ports.{PortValue, IsPort, call_in}
use Rattle.port_cell.specs.declared.kept.Stamped.{Stamped}
use Rattle.port_cell.specs.Entries.{generation_of}
use Rattle.tty_port.specs.Inside.{EntryWithCall}
use Rattle.tty_port.specs.Histories.{seat_of, call_by, stamped_entry}
use Rattle.tty_port.specs.Histories.{generation_next, history, history_in, name_in}
use Rattle.tty_port.specs.Seen.{entries_in, standing_at, marks_at, next_run, led_to, terminal_at}
use Rattle.tty_port.specs.Placed.{ArePlaced, HaveCalls, IsHistoryOf}

-- ---- one entry more

pub history_append : (m : ℕ) (f : ℕ → ℕ → Option PlainCall) (es : List PlainEntry) (e : PlainEntry) (now : ℕ)
    → history m f (es ++ e ∷ []) now ≡ history m f es e.generation ++ stamped_entry m f e now ∷ []
history_append m f [] e now = refl
history_append m f (x ∷ []) e now = refl
history_append m f (x ∷ y ∷ ys) e now = ap
    (λ (xs : List (Stamped EntryWithCall)). stamped_entry m f x y.generation ∷ xs) (history_append m f (y ∷ ys) e now)

pub history_entries : (m : ℕ) (f : ℕ → ℕ → Option PlainCall) (es : List PlainEntry) (now : ℕ)
    → entries_in (history m f es now) ≡ es
history_entries m f [] now = refl
history_entries m f (e ∷ es) now = ap (λ (xs : List PlainEntry). e ∷ xs) (history_entries m f es now)

pub history_length : (m : ℕ) (f : ℕ → ℕ → Option PlainCall) (es : List PlainEntry) (now : ℕ)
    → length (history m f es now) ≡ length es
history_length m f es now =
    sym (length-map (history m f es now) (λ (x : Stamped EntryWithCall). x.what.entry))
    ∙ ap length (history_entries m f es now)

-- ---- the generation in which it ends

more_generation : (m : ℕ) (f : ℕ → ℕ → Option PlainCall) (e : PlainEntry) (es : List PlainEntry) (now : ℕ)
    → generation_of (history m f (e ∷ es) now) ≡ now
more_generation m f e [] now = refl
more_generation m f e (x ∷ es) now = more_generation m f x es now

run_generation : (m : ℕ) (f g : ℕ → ℕ → Option PlainCall) (counts : List ℕ) (capacity : ℕ) (es : List PlainEntry)
    (u : Terminal)
    → IsRun g counts capacity es u
    → generation_of (history m f es u.generation) ≡ u.generation
run_generation m f g counts capacity [] u h = sym (ap (λ (t : Terminal). t.generation) h)
run_generation m f g counts capacity (e ∷ es) u h = more_generation m f e es u.generation

pub port_generation : (m : ℕ) (v : PortValue) → IsPort v → generation_of (history_in m v) ≡ v.terminal.generation
port_generation m v p =
    run_generation m (call_in v.kept) (call_in v.kept) v.counts v.flip.capacity v.journal v.terminal p.run

-- ---- more calls are kept

call_grown : (f g : ℕ → ℕ → Option PlainCall) (n : ℕ) (who : Who) (step : ℕ)
    → KnowsMore f g
    → IsOfCall f n who step
    → call_by g who step ≡ call_by f who step
call_grown f g n who step grows h =
    subst (λ (w : Who). call_by g w step ≡ call_by f w step) (sym h.by_caller)
    (grows h.caller step h.call h.called ∙ sym h.called)

event_grown : (f g : ℕ → ℕ → Option PlainCall) (n : ℕ) (who : Who) (step : ℕ) (event : PlainEvent)
    → KnowsMore f g
    → IsByItsMaker f n who step event
    → (if is_of_call event then call_by g who step else None) ≡ (if is_of_call event then call_by f who step else None)
event_grown f g n who step (answered a dropped) grows h = call_grown f g n who step grows h
event_grown f g n who step (parted k) grows h = call_grown f g n who step grows h
event_grown f g n who step waited grows h = call_grown f g n who step grows h
event_grown f g n who step (flushed chars) grows h = refl
event_grown f g n who step ticked grows h = refl
event_grown f g n who step (line_ended k) grows h = refl
event_grown f g n who step clock_ended grows h = refl
event_grown f g n who step caller_ended grows h = refl
event_grown f g n who step phase_ended grows h = refl
event_grown f g n who step (hung_up dropped) grows h = refl

history_grown : (m : ℕ) (f g : ℕ → ℕ → Option PlainCall) (counts : List ℕ) (t : Terminal) (es : List PlainEntry)
    (u : Terminal) (now : ℕ)
    → KnowsMore f g
    → Leads f counts t es u
    → history m g es now ≡ history m f es now
history_grown m f g counts t [] u now grows h = refl
history_grown m f g counts t (e ∷ es) u now grows h =
    let same = event_grown f g (length t.callers) e.who e.step e.event grows (step_maker f counts t e h.0) in
    let rest = history_grown m f g counts (after f t e) es u now grows h.1 in
    ap (λ (c : Option PlainCall).
    record { seat = seat_of m e.who; after = generation_next es now; what = record { entry = e; call = c } }
    ∷ history m g es now) same
    ∙ ap (λ (xs : List (Stamped EntryWithCall)). stamped_entry m f e (generation_next es now) ∷ xs) rest

-- the history of a port with one entry more
pub history_adds : (m : ℕ) (old new : PortValue) (e : PlainEntry)
    → IsPort old
    → KnowsMore (call_in old.kept) (call_in new.kept)
    → e.generation ≡ old.terminal.generation
    → new.journal ≡ old.journal ++ e ∷ []
    → history_in m new ≡ history_in m old ++ stamped_entry m (call_in new.kept) e new.terminal.generation ∷ []
history_adds m old new e p grows at journal =
    let g = call_in new.kept in
    let now = new.terminal.generation in
    ap (λ (es : List PlainEntry). history m g es now) journal
    ∙ history_append m g old.journal e now
    ∙ ap (λ (k : ℕ). history m g old.journal k ++ stamped_entry m g e now ∷ []) at
    ∙ ap (λ (xs : List (Stamped EntryWithCall)). xs ++ stamped_entry m g e now ∷ [])
    (history_grown m (call_in old.kept) g old.counts (opening (sum old.counts) old.flip.capacity)
    old.journal old.terminal old.terminal.generation grows p.run)

-- ---- who made its entries

told_call : (f : ℕ → ℕ → Option PlainCall) (n : ℕ) (who : Who) (step : ℕ)
    → IsOfCall f n who step
    → IsOfCall (λ (c s : ℕ). call_by f who step) n who step
told_call f n who step h =
    record {
      caller = h.caller;
      call = h.call;
      by_caller = h.by_caller;
      known = h.known;
      called = ap (λ (w : Who). call_by f w step) h.by_caller ∙ h.called;
    }

maker_told : (f : ℕ → ℕ → Option PlainCall) (n : ℕ) (who : Who) (step : ℕ) (event : PlainEvent)
    → IsByItsMaker f n who step event
    → IsByItsMaker (λ (c s : ℕ). if is_of_call event then call_by f who step else None) n who step event
maker_told f n who step (answered a dropped) h = told_call f n who step h
maker_told f n who step (parted k) h = told_call f n who step h
maker_told f n who step waited h = told_call f n who step h
maker_told f n who step (flushed chars) h = h
maker_told f n who step ticked h = h
maker_told f n who step (line_ended k) h = h
maker_told f n who step clock_ended h = h
maker_told f n who step caller_ended h = h
maker_told f n who step phase_ended h = h
maker_told f n who step (hung_up dropped) h = h

placed : (m n : ℕ) (f : ℕ → ℕ → Option PlainCall) (counts : List ℕ) (t : Terminal) (es : List PlainEntry) (u : Terminal)
    (now : ℕ)
    → Leads f counts t es u
    → length t.callers ≡ n
    → ArePlaced m n (history m f es now)
placed m n f counts t [] u now h callers = tt
placed m n f counts t (e ∷ es) u now h callers =
    let by = subst (λ (k : ℕ). IsByItsMaker f k e.who e.step e.event) callers (step_maker f counts t e h.0) in (
      record { seat = refl; maker = maker_told f n e.who e.step e.event by },
      placed m n f counts (after f t e) es u now h.1 ((step_does f counts t e h.0).callers ∙ callers),
    )

-- ---- the terminal to which it leads

event_told : (f : ℕ → ℕ → Option PlainCall) (t : Terminal) (who : Who) (step part : ℕ) (event : PlainEvent)
    → after_event (λ (c s : ℕ). if is_of_call event then call_by f who step else None) t who step part event
    ≡ after_event f t who step part event
event_told f t (Caller c) step part (answered a dropped) = refl
event_told f t Flusher step part (answered a dropped) = refl
event_told f t Line step part (answered a dropped) = refl
event_told f t Clock step part (answered a dropped) = refl
event_told f t Session step part (answered a dropped) = refl
event_told f t (Caller c) step part (parted k) = refl
event_told f t Flusher step part (parted k) = refl
event_told f t Line step part (parted k) = refl
event_told f t Clock step part (parted k) = refl
event_told f t Session step part (parted k) = refl
event_told f t (Caller c) step part waited = refl
event_told f t Flusher step part waited = refl
event_told f t Line step part waited = refl
event_told f t Clock step part waited = refl
event_told f t Session step part waited = refl
event_told f t who step part (flushed chars) = refl
event_told f t who step part ticked = refl
event_told f t who step part (line_ended k) = refl
event_told f t who step part clock_ended = refl
event_told f t who step part caller_ended = refl
event_told f t who step part phase_ended = refl
event_told f t who step part (hung_up dropped) = refl

led : (m : ℕ) (f : ℕ → ℕ → Option PlainCall) (counts : List ℕ) (t : Terminal) (es : List PlainEntry) (u : Terminal)
    (now : ℕ)
    → Leads f counts t es u
    → led_to t (history m f es now) ≡ u
led m f counts t [] u now h = sym h
led m f counts t (e ∷ es) u now h =
    ap (λ (w : Terminal). led_to w (history m f es now)) (event_told f t e.who e.step e.part e.event)
    ∙ led m f counts (after f t e) es u now h.1

pub port_terminal : (m : ℕ) (v : PortValue) → IsPort v → terminal_at (name_in m v) (history_in m v) ≡ v.terminal
port_terminal m v p = led m (call_in v.kept) v.counts (opening (sum v.counts) v.flip.capacity)
    v.journal v.terminal v.terminal.generation p.run

-- ---- the calls of its entries

when_true : {A : Type 0} (b : Bool) (x y : A) → b ≡ true → (if b then x else y) ≡ x
when_true true x y e = refl
when_true false x y e = absurd (false≢true e)

has_call : (f g : ℕ → ℕ → Option PlainCall) (who : Who) (step : ℕ) (event : PlainEvent)
    → (is_of_call event ≡ true → call_by g who step ≡ (if is_of_call event then call_by f who step else None))
    → AgreesAt f g who step event
has_call f g (Caller d) step event h c of by =
    subst (λ (k : ℕ). g k step ≡ f k step) (eqb-true d c by) (h of ∙ when_true (is_of_call event) (f d step) None of)
has_call f g Flusher step event h c of by = absurd (false≢true by)
has_call f g Line step event h c of by = absurd (false≢true by)
has_call f g Clock step event h c of by = absurd (false≢true by)
has_call f g Session step event h c of by = absurd (false≢true by)

pub agreeing : (m : ℕ) (f g : ℕ → ℕ → Option PlainCall) (es : List PlainEntry) (now : ℕ)
    → HaveCalls g (history m f es now)
    → AgreesOn f g es
agreeing m f g [] now h = tt
agreeing m f g (e ∷ es) now h = (has_call f g e.who e.step e.event h.0, agreeing m f g es now h.1)

-- all that a port's history tells
pub is_history : (m : ℕ) (v : PortValue) → IsPort v → IsHistoryOf m v (history_in m v)
is_history m v p =
    record {
      entries = history_entries m (call_in v.kept) v.journal v.terminal.generation;
      placed = placed m (sum v.counts) (call_in v.kept) v.counts (opening (sum v.counts) v.flip.capacity) v.journal
          v.terminal v.terminal.generation p.run
          (run_callers (call_in v.kept) v.counts v.flip.capacity [] (opening (sum v.counts) v.flip.capacity) refl);
      generation = port_generation m v p;
      terminal = port_terminal m v p;
      calls = λ g. agreeing m (call_in v.kept) g v.journal v.terminal.generation;
    }

-- ---- where callers, line, clock and flush runs stand

pub port_stands : (m : ℕ) (v : PortValue)
    → IsPort v
    → (c : ℕ)
    → standing_of (caller_at v.terminal c) ≡ standing_at c (history_in m v)
port_stands m v p c =
    run_stands (call_in v.kept) v.counts v.flip.capacity v.journal v.terminal p.run c
    ∙ ap (λ (es : List PlainEntry). standing_in c es at_first)
    (sym (history_entries m (call_in v.kept) v.journal v.terminal.generation))

pub port_marks : (m : ℕ) (v : PortValue) → IsPort v → marks_of v.terminal ≡ marks_at (history_in m v)
port_marks m v p =
    run_marks (call_in v.kept) v.counts v.flip.capacity v.journal v.terminal p.run
    ∙ ap (λ (es : List PlainEntry). marks_in es no_marks)
    (sym (history_entries m (call_in v.kept) v.journal v.terminal.generation))

standing_in_append : (c : ℕ) (es fs : List PlainEntry) (s : Standing)
    → standing_in c (es ++ fs) s ≡ standing_in c fs (standing_in c es s)
standing_in_append c [] fs s = refl
standing_in_append c (e ∷ es) fs s = standing_in_append c es fs (standing_after c e s)

marks_in_append : (es fs : List PlainEntry) (k : Marks) → marks_in (es ++ fs) k ≡ marks_in fs (marks_in es k)
marks_in_append [] fs k = refl
marks_in_append (e ∷ es) fs k = marks_in_append es fs (marks_after e.event e.step e.part k)

pub entries_append : (xs ys : List (Stamped EntryWithCall)) → entries_in (xs ++ ys) ≡ entries_in xs ++ entries_in ys
entries_append xs ys = map-append (λ (x : Stamped EntryWithCall). x.what.entry) xs ys

pub standing_append : (c : ℕ) (xs ys : List (Stamped EntryWithCall))
    → standing_at c (xs ++ ys) ≡ standing_in c (entries_in ys) (standing_at c xs)
standing_append c xs ys =
    ap (λ (es : List PlainEntry). standing_in c es at_first) (entries_append xs ys)
    ∙ standing_in_append c (entries_in xs) (entries_in ys) at_first

pub marks_append : (xs ys : List (Stamped EntryWithCall)) → marks_at (xs ++ ys) ≡ marks_in (entries_in ys) (marks_at xs)
marks_append xs ys =
    ap (λ (es : List PlainEntry). marks_in es no_marks) (entries_append xs ys)
    ∙ marks_in_append (entries_in xs) (entries_in ys) no_marks

-- ---- flush runs

flush_runs : (f : ℕ → ℕ → Option PlainCall) (t : Terminal) (who : Who) (step part : ℕ) (event : PlainEvent)
    → is_flush event ≡ true
    → runs_of (after_event f t who step part event).flushed ≡ step + 1
flush_runs f t who step part (answered a dropped) e = absurd (false≢true e)
flush_runs f t who step part (parted k) e = absurd (false≢true e)
flush_runs f t who step part waited e = absurd (false≢true e)
flush_runs f t who step part (flushed chars) e = refl
flush_runs f t who step part ticked e = absurd (false≢true e)
flush_runs f t who step part (line_ended k) e = absurd (false≢true e)
flush_runs f t who step part clock_ended e = absurd (false≢true e)
flush_runs f t who step part caller_ended e = absurd (false≢true e)
flush_runs f t who step part phase_ended e = absurd (false≢true e)
flush_runs f t who step part (hung_up dropped) e = absurd (false≢true e)

-- no run of this number has begun, so all of its pieces are in any generation
pub none_begun : (f : ℕ → ℕ → Option PlainCall) (counts : List ℕ) (t : Terminal) (es : List PlainEntry) (u : Terminal)
    (run generation : ℕ)
    → Leads f counts t es u
    → runs_of u.flushed ≤ run
    → RunHas run generation es
none_begun f counts t [] u run generation h below = tt
none_begun f counts t (e ∷ es) u run generation h below = (
  λ is.
      let parts = and_parts (is_flush e.event) (e.step == run) is in
      let same : e.step ≡ run = eqb-true e.step run parts.1 in
      let begun = flush_runs f t e.who e.step e.part e.event parts.0 in
      let rises = leads_runs f counts (after f t e) es u h.1 in
      absurd (omega arith),
  none_begun f counts (after f t e) es u run generation h.1 below,
)

-- ---- how many flush runs there are

follows_runs : (o : Option Piece) (run part : ℕ) → IsTrue (follows o run part) → run ≤ runs_of o
follows_runs None run part h = let e : run ≡ 0 = eqb-true run 0 (and_parts (run == 0) (part == 0) h).0 in omega arith
follows_runs (Some p) run part h =
    elim (or_cases ((run == p.run) && (part == p.part + 1)) ((run == p.run + 1) && (part == 0)) h) [
      | inl k ↦
          let e : run ≡ p.run = eqb-true run p.run (and_parts (run == p.run) (part == p.part + 1) k).0 in omega arith
      | inr k ↦
          let e : run ≡ p.run + 1 = eqb-true run (p.run + 1) (and_parts (run == p.run + 1) (part == 0) k).0 in
          omega arith
    ]

runs_after : (f : ℕ → ℕ → Option PlainCall) (counts : List ℕ) (t : Terminal) (who : Who) (step part : ℕ)
    (event : PlainEvent)
    → IsAllowed f counts t who step part event
    → runs_of (marks_after event step part (marks_of t)).latest ≤ runs_of t.flushed + 1
runs_after f counts t who step part (answered a dropped) h = omega arith
runs_after f counts t who step part (parted k) h = omega arith
runs_after f counts t who step part waited h = omega arith
runs_after f counts t who step part (flushed chars) h =
    let least = follows_runs t.flushed step part h.1.numbered in omega arith
runs_after f counts t who step part ticked h = omega arith
runs_after f counts t who step part (line_ended k) h = omega arith
runs_after f counts t who step part clock_ended h = omega arith
runs_after f counts t who step part caller_ended h = omega arith
runs_after f counts t who step part phase_ended h = omega arith
runs_after f counts t who step part (hung_up dropped) h = omega arith

runs_few : (f : ℕ → ℕ → Option PlainCall) (counts : List ℕ) (t : Terminal) (es : List PlainEntry) (u : Terminal)
    → Leads f counts t es u
    → runs_of u.flushed ≤ runs_of t.flushed + length es
runs_few f counts t [] u h =
    let same : runs_of u.flushed ≡ runs_of t.flushed = ap (λ (v : Terminal). runs_of v.flushed) h in omega arith
runs_few f counts t (e ∷ es) u h =
    let more = runs_few f counts (after f t e) es u h.1 in
    let one = runs_after f counts t e.who e.step e.part e.event h.0.1 in
    let same : runs_of (after f t e).flushed ≡ runs_of (marks_after e.event e.step e.part (marks_of t)).latest =
    ap (λ (k : Marks). runs_of k.latest) (step_marks f counts t e h.0) in
    omega arith

-- each flush run has an entry
pub port_runs : (m : ℕ) (v : PortValue) → IsPort v → next_run (history_in m v) ≤ MOST_ENTRIES
port_runs m v p =
    let few = runs_few (call_in v.kept) v.counts (opening (sum v.counts) v.flip.capacity) v.journal v.terminal p.run in
    let same : next_run (history_in m v) ≡ runs_of v.terminal.flushed =
    ap (λ (k : Marks). runs_of k.latest) (sym (port_marks m v p)) in
    let journal = p.few in
    let limit = p.limit in
    omega arith
