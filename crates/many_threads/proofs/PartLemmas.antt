-- What the threads of a phase did, from one step to the next.
use Rattle.std.proofs.Common.{◌≡◌, ◌≢◌, inl, inr, ℕ, ◌+◌, ◌<◌, ◌≤◌, List, [], ◌∷◌, ◌++◌, Bool, true}
use Rattle.std.proofs.Common.{false, if◌then◌else◌, ne_eqb, Option, Some, Result, Ok, Err, length, refl}
use Rattle.std.proofs.Common.{sym, ◌∙◌, ap, subst, arith, append_assoc, append-nil, length-append}
use Rattle.std.specs.Prelude.{slice_get, All, OnErr, ◌^◌}
use Rattle.std.proofs.lemmas.Option.{slice_get_within, get_or_from_slice_get}
use Rattle.tty_base.specs.Sizes.{MOST_ASKED, MOST_HANDLES}
use Rattle.tty_calls.specs.Limits.{byte_count, IsCallWithin}
use Rattle.tty_base.specs.declared.characters.Flagged.{Flagged}
use Rattle.tty_base.specs.declared.lines.LineStep.{LineStep}
use Rattle.tty_base.specs.declared.lines.Overrun.{Overrun}
use Rattle.word_ring.specs.Ends.{PutterState}
use Rattle.uart_line.specs.LineState.{LineState}
use Rattle.uart_line.specs.Offered.{HandsOver, appended_list}
use Rattle.tty_calls.specs.declared.journals.Who.{Who}
use Rattle.tty_calls.specs.declared.journals.Who.TheVariants.{Caller, Clock}
use Rattle.tty_calls.specs.Plain.{PlainCall, handle_of, PlainAnswer, PlainEvent, answered, parted, waited}
use Rattle.tty_calls.specs.Plain.{flushed, ticked, line_ended, clock_ended, caller_ended, phase_ended, hung_up}
use Rattle.tty_terminal.specs.Makers.{IsByItsMaker}
use Rattle.tty_terminal.specs.Runs.{is_of_call}
use Rattle.tty_terminal.specs.Marks.{Marks, marks_after, marks_in}
use Rattle.port_cell.specs.declared.kept.Stamped.{Stamped}
use Rattle.port_cell.specs.Entries as histories
use Rattle.port_cell.specs.Entries.{Keeps, Begins, entries_by}
use Rattle.port_cell.specs.Knowledge.{number_of, list_seen, own_entries}
use Rattle.port_cell.proofs.Histories.{each_append}
use Rattle.tty_port.specs.Inside.{Name, EntryWithCall}
use Rattle.tty_port.specs.Histories.{seat_of}
use Rattle.tty_port.specs.Seen.{entries_in, marks_at, next_run, IsBetweenCalls}
use Rattle.tty_port.specs.Placed.{ArePlaced}
use Rattle.tty_port.specs.Adding.{IsOf, IsEntry, IsOfStep}
use Rattle.tty_port.specs.Calls.{PortSeat, IsPause, ArePauses, IsAnswered, Pauses}
use Rattle.tty_port.specs.Flushing.{FlushesRun, run_past}
use Rattle.tty_port.specs.Lines.{MakesOne, MakesNone, EndsLine}
use Rattle.tty_port.proofs.Histories.{marks_append}
use Rattle.tty_port.proofs.FlushSteps.{run_kept}
use Rattle.tty_port.proofs.Keeping.{clock_kept, placed_right, by_another}
use Rattle.many_threads.specs.Parts as parts
use Rattle.many_threads.specs.Parts.{IsOfRole, MakesInRole, PlaysCaller, MakesTicks}
use Rattle.many_threads.specs.Parts.{PlaysClock, RunsLine, PlaysLine, RunMade, FlushesRuns}

pub each_both : (P : Stamped EntryWithCall → Type 0) (xs ys : List (Stamped EntryWithCall))
    → parts.Each P xs
    → parts.Each P ys
    → parts.Each P (xs ++ ys)
each_both P [] ys h k = k
each_both P (x ∷ xs) ys h k = (h.0, each_both P xs ys h.1 k)

pub where_err : {A E : Type 0} (r : Result A E) (P Q : Type 0) → (P → Q) → OnErr r P → OnErr r Q
where_err (Ok x) P Q f h = tt
where_err (Err d) P Q f h = f h

pub where_any_err : {A E : Type 0} (r : Result A E) (P : Type 0) → P → OnErr r P
where_any_err (Ok x) P h = tt
where_any_err (Err d) P h = h

-- ---- beginnings

pub begins_here : (xs : List (Stamped EntryWithCall)) → Begins xs xs
begins_here xs = ([], sym (append-nil xs), tt)

pub begins_on : (xs ys zs : List (Stamped EntryWithCall)) → Begins xs ys → Begins ys zs → Begins xs zs
begins_on xs ys zs h k = (
  h.0 ++ k.0,
  k.1 ∙ ap (λ (l : List (Stamped EntryWithCall)). l ++ k.0) h.1 ∙ append_assoc xs h.0 k.0,
  each_append (λ (n : ℕ). Unit {0}) h.0 k.0 h.2 k.2,
)

all_anyhow : (p : ℕ → Type 0) (xs : List (Stamped EntryWithCall))
    → histories.Each p xs
    → histories.Each (λ n. Unit {0}) xs
all_anyhow p [] h = tt
all_anyhow p (x ∷ xs) h = (tt, all_anyhow p xs h.1)

pub begins_kept : (n : ℕ) (xs ys : List (Stamped EntryWithCall)) → Keeps n xs ys → Begins xs ys
begins_kept n xs ys h = (h.0, h.1, all_anyhow (λ k. k ≢ n) h.0 h.2)

pub begins_one : (ys zs : List (Stamped EntryWithCall)) (x : Stamped EntryWithCall) → zs ≡ ys ++ x ∷ [] → Begins ys zs
begins_one ys zs x h = (x ∷ [], h, (tt, tt))

begins_made : (P : List (Stamped EntryWithCall) → Stamped EntryWithCall → Type 0) (start : List (Stamped EntryWithCall))
    (mid new : PortSeat)
    → Begins start (list_seen mid)
    → MakesOne P mid new
    → Begins start (list_seen new)
begins_made P start mid new h one = begins_on start (list_seen mid) (list_seen new) h
    (begins_on (list_seen mid) one.before (list_seen new)
    (begins_kept (number_of mid) (list_seen mid) one.before one.found)
    (begins_one one.before (list_seen new) one.entry one.added))

begins_none : (start : List (Stamped EntryWithCall)) (mid new : PortSeat)
    → Begins start (list_seen mid)
    → MakesNone mid new
    → Begins start (list_seen new)
begins_none start mid new h none = begins_on start (list_seen mid) (list_seen new) h
    (begins_kept (number_of mid) (list_seen mid) (list_seen new) none.found)

-- ---- a caller

of_step : (c step : ℕ) (call : PlainCall) (event : PlainEvent) (x : Stamped EntryWithCall)
    → is_of_call event ≡ true
    → IsOf c step call event x
    → IsOfStep c step call x
of_step c step call event x e h =
    record { who = h.who; at_step = h.at_step; of_call = ap is_of_call h.happened ∙ e; keeps = h.keeps }

pause_of_step : (c step : ℕ) (call : PlainCall) (x : Stamped EntryWithCall)
    → IsPause c step call x
    → IsOfStep c step call x
pause_of_step c step call x (inl h) = of_step c step call (parted h.0) x refl h.1
pause_of_step c step call x (inr h) = of_step c step call waited x refl h

pauses_are : (c first place : ℕ) (calls : List PlainCall) (call : PlainCall) (xs : List (Stamped EntryWithCall))
    → slice_get calls place ≡ Some call
    → ArePauses c (first + place) call xs
    → parts.Each (IsOfRole c first calls) xs
pauses_are c first place calls call [] at h = tt
pauses_are c first place calls call (x ∷ xs) at h = (
  inl (record { place = place; call = call; called = at; is = pause_of_step c (first + place) call x h.0 }),
  pauses_are c first place calls call xs at h.1,
)

pub no_calls : (c first : ℕ) (calls : List PlainCall) (s : PortSeat)
    → number_of s ≡ c
    → MakesInRole c first calls (list_seen s) s
no_calls c first calls s number = record {
  begins = begins_here (list_seen s);
  made = [];
  adds = ap (λ (n : ℕ). entries_by n (list_seen s)) number ∙ sym (append-nil (entries_by c (list_seen s)));
  of_role = tt;
}

calls_more : (c first : ℕ) (calls : List PlainCall) (start : List (Stamped EntryWithCall)) (mid new : PortSeat)
    (more : List (Stamped EntryWithCall))
    → MakesInRole c first calls start mid
    → Begins start (list_seen new)
    → own_entries new ≡ own_entries mid ++ more
    → parts.Each (IsOfRole c first calls) more
    → MakesInRole c first calls start new
calls_more c first calls start mid new more h begins adds of_role =
    record {
      begins = begins;
      made = h.made ++ more;
      adds =
          adds
          ∙ ap (λ (xs : List (Stamped EntryWithCall)). xs ++ more) h.adds
          ∙ append_assoc (entries_by c start) h.made more;
      of_role = each_both (IsOfRole c first calls) h.made more h.of_role of_role;
    }

pub answered_more : (c first place : ℕ) (calls : List PlainCall) (call : PlainCall) (a : PlainAnswer)
    (start : List (Stamped EntryWithCall)) (mid new : PortSeat)
    → slice_get calls place ≡ Some call
    → MakesInRole c first calls start mid
    → IsAnswered c (first + place) call a mid new
    → MakesInRole c first calls start new
answered_more c first place calls call a start mid new at h k =
    let last : IsOfStep c (first + place) call k.last =
    of_step c (first + place) call (answered a k.is_answer.0) k.last refl k.is_answer.1 in
    calls_more c first calls start mid new (k.pauses ++ k.last ∷ []) h
    (begins_on start (list_seen mid) (list_seen new) h.begins k.begins) k.adds
    (each_both (IsOfRole c first calls) k.pauses (k.last ∷ [])
    (pauses_are c first place calls call k.pauses at k.are_pauses)
    (inl (record { place = place; call = call; called = at; is = last }), tt))

pub paused_more : (c first place : ℕ) (calls : List PlainCall) (call : PlainCall) (start : List (Stamped EntryWithCall))
    (mid new : PortSeat)
    → slice_get calls place ≡ Some call
    → MakesInRole c first calls start mid
    → Pauses c (first + place) call mid new
    → MakesInRole c first calls start new
paused_more c first place calls call start mid new at h k =
    calls_more c first calls start mid new k.pauses h
    (begins_on start (list_seen mid) (list_seen new) h.begins k.begins) k.adds
    (pauses_are c first place calls call k.pauses at k.are_pauses)

pub none_more : (c first : ℕ) (calls : List PlainCall) (start : List (Stamped EntryWithCall)) (mid new : PortSeat)
    → MakesInRole c first calls start mid
    → MakesNone mid new
    → MakesInRole c first calls start new
none_more c first calls start mid new h none = record {
  begins = begins_none start mid new h.begins none;
  made = h.made;
  adds = none.own ∙ h.adds;
  of_role = h.of_role;
}

pub caller_plays : (c first step : ℕ) (calls : List PlainCall) (start : List (Stamped EntryWithCall))
    (mid new : PortSeat)
    → number_of mid ≡ c
    → step ≡ first + length calls
    → MakesInRole c first calls start mid
    → IsBetweenCalls c (first + length calls) (list_seen mid)
    → MakesOne (λ before. IsEntry c (Caller c) step caller_ended) mid new
    → PlaysCaller c first calls start new
caller_plays c first step calls start mid new number at h between one =
    let ends = subst (λ (k : ℕ). IsEntry c (Caller c) k caller_ended one.entry) at one.is in
    record {
      in_role = calls_more c first calls start mid new (one.entry ∷ []) h
          (begins_made (λ before. IsEntry c (Caller c) step caller_ended) start mid new h.begins one) one.own
          (inr ends, tt);
      seen = list_seen mid;
      begins = h.begins;
      answered = between;
      before = one.before;
      found = subst (λ (k : ℕ). Keeps k (list_seen mid) one.before) number one.found;
      last = one.entry;
      added = one.added;
      ends = ends;
    }

-- ---- the calls of a script

call_within : (calls : List PlainCall) (i : ℕ) (x : PlainCall)
    → All IsCallWithin calls
    → slice_get calls i ≡ Some x
    → IsCallWithin x
call_within calls i x all is =
    subst IsCallWithin (get_or_from_slice_get calls i x x is) (all i x (slice_get_within calls i x is))

pub call_number : (calls : List PlainCall) (i : ℕ) (x : PlainCall)
    → All IsCallWithin calls
    → slice_get calls i ≡ Some x
    → handle_of x < MOST_HANDLES
call_number calls i x all is = (call_within calls i x all is).handle

pub call_bytes : (calls : List PlainCall) (i : ℕ) (x : PlainCall)
    → All IsCallWithin calls
    → slice_get calls i ≡ Some x
    → byte_count x < 2 ^ 32
call_bytes calls i x all is =
    let most : byte_count x ≤ MOST_ASKED =
    (call_within calls i x all is).bytes in
    omega arith

-- ---- the clock

-- nobody else makes ticks
tick_stays : (m n : ℕ) (f : ℕ → ℕ → Option PlainCall) (who : Who) (step part : ℕ) (event : PlainEvent) (k : Marks)
    → IsByItsMaker f n who step event
    → seat_of m who ≢ m + 2
    → (marks_after event step part k).tick ≡ k.tick
tick_stays m n f who step part (answered a dropped) k by other = refl
tick_stays m n f who step part (parted i) k by other = refl
tick_stays m n f who step part waited k by other = refl
tick_stays m n f who step part (flushed chars) k by other = refl
tick_stays m n f who step part ticked k by other = absurd (by_another m (m + 2) who Clock refl by other)
tick_stays m n f who step part (line_ended i) k by other = refl
tick_stays m n f who step part clock_ended k by other = refl
tick_stays m n f who step part caller_ended k by other = refl
tick_stays m n f who step part phase_ended k by other = refl
tick_stays m n f who step part (hung_up dropped) k by other = refl

ticks_stay : (m n : ℕ) (xs : List (Stamped EntryWithCall)) (k : Marks)
    → ArePlaced m n xs
    → histories.Each (λ i. i ≢ m + 2) xs
    → (marks_in (entries_in xs) k).tick ≡ k.tick
ticks_stay m n [] k placed others = refl
ticks_stay m n (x ∷ xs) k placed others =
    ticks_stay m n xs (marks_after x.what.entry.event x.what.entry.step x.what.entry.part k) placed.1 others.1
    ∙ tick_stays m n (λ (c s : ℕ). x.what.call) x.what.entry.who x.what.entry.step x.what.entry.part x.what.entry.event
    k placed.0.maker (λ e. others.0 (placed.0.seat ∙ e))

pub tick_kept : (m n : ℕ) (xs ys : List (Stamped EntryWithCall))
    → ArePlaced m n ys
    → Keeps (m + 2) xs ys
    → (marks_at ys).tick ≡ (marks_at xs).tick
tick_kept m n xs ys placed h =
    ap (λ (k : Marks). k.tick) (ap marks_at h.1 ∙ marks_append xs h.0)
    ∙ ticks_stay m n h.0 (marks_at xs) (placed_right m n xs h.0 (subst (ArePlaced m n) h.1 placed)) h.2

pub placed_left : (m n : ℕ) (xs ys : List (Stamped EntryWithCall)) → ArePlaced m n (xs ++ ys) → ArePlaced m n xs
placed_left m n [] ys h = tt
placed_left m n (x ∷ xs) ys h = (h.0, placed_left m n xs ys h.1)

pub no_ticks : (s : PortSeat) → MakesTicks 0 (list_seen s) s
no_ticks s =
    let t = (marks_at (list_seen s)).tick in
    record { begins = begins_here (list_seen s); ticks = (let e : t ≡ t + 0 = omega arith in e) }

ticked_leaves : (event : PlainEvent) (step part : ℕ) (k : Marks)
    → event ≡ ticked
    → (marks_after event step part k).clock_over ≡ k.clock_over
ticked_leaves event step part k e = ap (λ (x : PlainEvent). (marks_after x step part k).clock_over) e

ticked_counts : (event : PlainEvent) (step part : ℕ) (k : Marks)
    → event ≡ ticked
    → (marks_after event step part k).tick ≡ k.tick + 1
ticked_counts event step part k e = ap (λ (x : PlainEvent). (marks_after x step part k).tick) e

-- what a tick of the clock leaves
module _ (m n : ℕ) (phase : List (Stamped EntryWithCall) → ℕ) (old new : PortSeat) (number : number_of old ≡ m + 2)
    (placed : ArePlaced m n (list_seen new))
    (one : MakesOne (λ before. IsEntry (m + 2) Clock (phase before) ticked) old new) where
  before_placed : ArePlaced m n one.before
  before_placed = placed_left m n one.before (one.entry ∷ []) (subst (ArePlaced m n) one.added placed)

  before_found : Keeps (m + 2) (list_seen old) one.before
  before_found = subst (λ (k : ℕ). Keeps k (list_seen old) one.before) number one.found

  pub clock_goes_on : (marks_at (list_seen old)).clock_over ≡ false → (marks_at (list_seen new)).clock_over ≡ false
  clock_goes_on not_over =
      let e = one.entry.what.entry in
      ap (λ (k : Marks). k.clock_over) (ap marks_at one.added ∙ marks_append one.before (one.entry ∷ []))
      ∙ ticked_leaves e.event e.step e.part (marks_at one.before) one.is.happened
      ∙ clock_kept m n (list_seen old) one.before before_placed before_found not_over

  counted : (marks_at (list_seen new)).tick ≡ (marks_at (list_seen old)).tick + 1
  counted =
      let e = one.entry.what.entry in
      ap (λ (k : Marks). k.tick) (ap marks_at one.added ∙ marks_append one.before (one.entry ∷ []))
      ∙ ticked_counts e.event e.step e.part (marks_at one.before) one.is.happened
      ∙ ap (λ (t : ℕ). t + 1) (tick_kept m n (list_seen old) one.before before_placed before_found)

  pub tick_more : (k : ℕ) (start : List (Stamped EntryWithCall)) → MakesTicks k start old → MakesTicks (k + 1) start new
  tick_more k start h =
      let t = counted in
      let u = h.ticks in
      record {
        begins = begins_made (λ before. IsEntry (m + 2) Clock (phase before) ticked) start old new h.begins one;
        ticks = omega arith;
      }

pub clock_plays : (n k : ℕ) (phase : List (Stamped EntryWithCall) → ℕ) (start : List (Stamped EntryWithCall))
    (mid new : PortSeat)
    → number_of mid ≡ n
    → MakesTicks k start mid
    → MakesOne (λ before. IsEntry n Clock (phase before) clock_ended) mid new
    → PlaysClock n k start new
clock_plays n k phase start mid new number h one =
    record {
      seen = list_seen mid;
      begins = h.begins;
      ticks = h.ticks;
      before = one.before;
      found = subst (λ (i : ℕ). Keeps i (list_seen mid) one.before) number one.found;
      last = one.entry;
      added = one.added;
      ends = one.is.happened;
    }

-- ---- the line

pub puts_more : (known capacity : ℕ) (all all' sent sent' : List Flagged) (heads heads' : List ℕ)
    (overruns overruns' : List Overrun)
    → known ≤ length sent
    → HandsOver capacity all all' sent sent' heads heads' overruns overruns'
    → known ≤ length sent'
puts_more known capacity all all' sent sent' heads heads' overruns overruns' few h =
    omega (arith, ap length h.offers.appends_rest, length-append sent (appended_list h.list h.offers.answers))

pub line_plays : (n : ℕ) (steps : List LineStep) (line played : LineState) (putter met now : PutterState Flagged)
    (old new : PortSeat)
    → number_of old ≡ n
    → RunsLine steps line played putter met
    → MakesOne (EndsLine n met now) old new
    → PlaysLine n steps line played putter now (list_seen old) new
line_plays n steps line played putter met now old new number runs one =
    record {
      met = met;
      runs = runs;
      before = one.before;
      found = subst (λ (k : ℕ). Keeps k (list_seen old) one.before) number one.found;
      last = one.entry;
      added = one.added;
      ends = one.is;
    }

-- ---- the flusher

-- after a run of nothing, and a look whether the phase may end
pub run_goes_on : (m n run count : ℕ) (mid new : PortSeat)
    → number_of mid ≡ m
    → next_run (list_seen mid) ≡ run_past run count
    → count ≡ 0
    → MakesNone mid new
    → ArePlaced m n (list_seen new)
    → run ≡ next_run (list_seen new)
run_goes_on m n run count mid new number next none look placed =
    let same : run_past run count ≡ run = ap (λ (k : ℕ). run_past run k) none in
    sym (run_kept m n (list_seen mid) (list_seen new) placed
    (subst (λ (k : ℕ). Keeps k (list_seen mid) (list_seen new)) number look.found)
    ∙ (next ∙ same))

pub makes_same : (s : PortSeat) → MakesNone s s
makes_same s = record { found = ([], sym (append-nil (list_seen s)), tt); own = refl }

abbrev pub run_made : (number count : ℕ) → PortSeat → PortSeat → RunMade
run_made number count before after = record { number = number; count = count; before = before; after = after }

pub runs_more : (name : Name) (run : ℕ) (start : PortSeat) (runs : List RunMade) (number count next : ℕ)
    (mid after new : PortSeat)
    → FlushesRuns name run start runs number mid
    → FlushesRun name number count mid after
    → next ≡ run_past number count
    → MakesNone after new
    → FlushesRuns name run start (run_made number count mid after ∷ runs) next new
runs_more name run start runs number count next mid after new h one numbered none = (h, one, numbered, none)

pub same_number : (number count : ℕ) → count ≡ 0 → number ≡ run_past number count
same_number number count none = sym (ap (λ (k : ℕ). run_past number k) none)

pub next_number : (number next count : ℕ) → 0 < count → next ≡ number + 1 → next ≡ run_past number count
next_number number next count some is =
    let differs : count ≢ 0 = λ e. omega arith in
    is ∙ sym (ap (λ (b : Bool). if b then number else number + 1) (ne_eqb count 0 differs))

pub flusher_begins : (name : Name) (run : ℕ) (start : PortSeat) (runs : List RunMade) (next : ℕ) (new : PortSeat)
    → FlushesRuns name run start runs next new
    → Begins (list_seen start) (list_seen new)
flusher_begins name run start [] next new h = begins_kept (number_of start) (list_seen start) (list_seen new) h.1.found
flusher_begins name run start (r ∷ runs) next new h =
    begins_on (list_seen start) (list_seen r.before) (list_seen new)
    (flusher_begins name run start runs r.number r.before h.0)
    (begins_on (list_seen r.before) (list_seen r.after) (list_seen new) h.1.begins
    (begins_kept (number_of r.after) (list_seen r.after) (list_seen new) h.3.found))
