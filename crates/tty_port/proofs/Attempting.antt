-- What one turn with the port adds to its history.
use Rattle.std.proofs.Common.{◌≡◌, inl, inr, ℕ, ◌+◌, ◌<◌, ◌^◌, zero, suc, nat_lt, List, []}
use Rattle.std.proofs.Common.{◌∷◌, ◌++◌, Bool, true, false, ◌==◌, MatchBool, if◌then◌else◌}
use Rattle.std.proofs.Common.{Option, None, Some, is_some, length, sum, refl, sym, ◌∙◌, ap, subst, arith}
use Rattle.std.proofs.lemmas.Bool.{eq-eqb, false≢true}
use Rattle.std.proofs.lemmas.Bool.Decides.{nat_tests}
use Rattle.tty_base.specs.Sizes.{MOST_HANDLES}
use Rattle.tty_base.specs.declared.characters.Flagged.{Flagged}
use Rattle.word_ring.specs.Ends.{TakerState}
use Rattle.tty_calls.specs.declared.answers.Denied.{Denied}
use Rattle.tty_calls.specs.declared.answers.Denied.TheVariants.{NoMemory, Full}
use Rattle.tty_calls.specs.declared.journals.Who.{Who}
use Rattle.tty_calls.specs.Plain.{PlainCall, handle_of, PlainAnswer, PlainEvent, answered, parted, waited, PlainEntry}
use Rattle.tty_calls.specs.Limits.{byte_count}
use Rattle.tty_terminal.specs.Terminals.{caller_at, has_begun}
use Rattle.tty_terminal.specs.Steps.{quiet}
use Rattle.tty_terminal.specs.Runs.{is_of_call}
use Rattle.tty_terminal.specs.Standing.{Standing, standing_after_own, standing_after_other}
use Rattle.tty_terminal.proofs.Effects.{outcome_keeps}
use Rattle.tty_terminal.proofs.WaitLaws.{run_parts}
use Rattle.port_core.specs.Ports.{PortValue, IsPort, call_in, with_entry, with_call}
use Rattle.port_core.specs.Ports.{caller_entry, Appends, Denies}
use Rattle.port_core.specs.Attempts.{IsReady, PlainTried, done_by, took_part, must_wait, Attempts, Raises}
use Rattle.port_core.proofs.Calls.{grows_kept, known_call}
use Rattle.port_cell.specs.declared.kept.Stamped.{Stamped}
use Rattle.port_cell.specs.Entries.{generation_of}
use Rattle.tty_port.specs.Inside.{EntryWithCall}
use Rattle.tty_port.specs.Histories.{call_by, stamped_entry, history, history_in, name_in}
use Rattle.tty_port.specs.Seen.{standing_at}
use Rattle.tty_port.specs.Adding.{IsOf, IsFull, IsOfStep, IsToldCall, IsUnderWay, TriesCall}
use Rattle.tty_port.proofs.Histories.{history_length, history_adds, port_generation, port_stands, standing_append}

-- ---- what the caller of a call knows is what the port needs

told_step : (m : ℕ) (f : ℕ → ℕ → Option PlainCall) (c step : ℕ) (call : PlainCall) (e : PlainEntry) (now : ℕ)
    → IsOfStep c step call (stamped_entry m f e now)
    → f c step ≡ Some call
told_step m f c step call e now h =
    let of : call_by f e.who e.step ≡ Some call =
    sym (ap (λ (b : Bool). if b then call_by f e.who e.step else None) h.of_call) ∙ h.keeps in
    sym (ap (λ (w : Who). call_by f w e.step) h.who ∙ ap (λ (k : ℕ). f c k) h.at_step) ∙ of

told_call : (m : ℕ) (f : ℕ → ℕ → Option PlainCall) (c step : ℕ) (call : PlainCall) (es : List PlainEntry) (now : ℕ)
    → IsToldCall c step call (history m f es now)
    → f c step ≡ Some call
told_call m f c step call [] now h = absurd h
told_call m f c step call (e ∷ es) now (inl h) = told_step m f c step call e _ h
told_call m f c step call (e ∷ es) now (inr h) = told_call m f c step call es now h

pub is_ready : (m : ℕ) (v : PortValue) (c step : ℕ) (call : PlainCall)
    → IsPort v
    → c < sum v.counts
    → handle_of call < MOST_HANDLES
    → byte_count call < 2 ^ 32
    → IsUnderWay c step call (generation_of (history_in m v)) (history_in m v)
    → IsReady v c step call
is_ready m v c step call p known number bytes u =
    let st = port_stands m v p c in
    record {
      known = known;
      next = sym (ap (λ (s : Standing). s.next) st ∙ u.next);
      not_over = ap (λ (s : Standing). s.over) st ∙ u.not_over;
      number = number;
      bytes = bytes;
      same = λ begun. told_call m (call_in v.kept) c step call v.journal v.terminal.generation
          (u.same (sym (ap (λ (s : Standing). s.begun) st) ∙ begun));
      generation = λ waits parts.
          ap (λ (s : Standing). s.generation) st
          ∙ u.one
          (sym (ap (λ (s : Standing). s.begun) st)
          ∙ run_parts (call_in v.kept) v.counts v.flip.capacity v.journal v.terminal p.run c parts)
          (sym (ap (λ (s : Standing). s.waits) st) ∙ ap (λ (o : Option ℕ). is_some o) waits)
          (subst (λ (s : Standing). 0 < s.parts) st parts)
          ∙ port_generation m v p;
    }

-- ---- a caller's entry

own_standing : (c : ℕ) (x y : Standing) → (if c == c then x else y) ≡ x
own_standing c x y = ap (λ (b : Bool). if b then x else y) (eq-eqb c c refl)

-- the port after an entry of a call
abbrev entered : PortValue → ℕ → ℕ → PlainCall → TakerState Flagged → PlainEvent → PortValue
entered v c step call flip event =
    record (with_entry (with_call v c step call) (caller_entry v c event)) { flip = flip }

abbrev entry_of : ℕ → PortValue → ℕ → ℕ → PlainCall → TakerState Flagged → PlainEvent → Stamped EntryWithCall
entry_of m v c step call flip event =
    stamped_entry m (call_in (with_call v c step call).kept) (caller_entry v c event)
    (entered v c step call flip event).terminal.generation

adds_to : (m : ℕ) (v : PortValue) (c step : ℕ) (call : PlainCall) (flip : TakerState Flagged) (event : PlainEvent)
    → IsPort v
    → history_in m (entered v c step call flip event) ≡ history_in m v ++ entry_of m v c step call flip event ∷ []
adds_to m v c step call flip event p =
    history_adds m v (entered v c step call flip event) (caller_entry v c event) p
    (grows_kept (has_begun (caller_at v.terminal c)) v.kept c step call) refl refl

keeps_call : (m : ℕ) (v : PortValue) (c step : ℕ) (call : PlainCall) (flip : TakerState Flagged) (event : PlainEvent)
    → IsPort v
    → IsReady v c step call
    → is_of_call event ≡ true
    → (entry_of m v c step call flip event).what.call ≡ Some call
keeps_call m v c step call flip event p r of =
    let f = call_in (with_call v c step call).kept in
    ap (λ (b : Bool). if b then f c (caller_at v.terminal c).next else None) of
    ∙ ap (λ (k : ℕ). f c k) (sym r.next)
    ∙ known_call v c step call p r

is_of : (m : ℕ) (v : PortValue) (c step : ℕ) (call : PlainCall) (flip : TakerState Flagged) (event : PlainEvent)
    → IsPort v
    → IsReady v c step call
    → is_of_call event ≡ true
    → IsOf c step call event (entry_of m v c step call flip event)
is_of m v c step call flip event p r of = record {
  seat = refl;
  who = refl;
  at_step = sym r.next;
  happened = refl;
  keeps = keeps_call m v c step call flip event p r of;
}

told_last : (c step : ℕ) (call : PlainCall) (xs : List (Stamped EntryWithCall)) (x : Stamped EntryWithCall)
    → IsOfStep c step call x
    → IsToldCall c step call (xs ++ x ∷ [])
told_last c step call [] x h = inl h
told_last c step call (y ∷ ys) x h = inr (told_last c step call ys x h)

is_told : (m : ℕ) (v : PortValue) (c step : ℕ) (call : PlainCall) (flip : TakerState Flagged) (event : PlainEvent)
    → IsPort v
    → IsReady v c step call
    → is_of_call event ≡ true
    → IsToldCall c step call (history_in m v ++ entry_of m v c step call flip event ∷ [])
is_told m v c step call flip event p r of =
    told_last c step call (history_in m v) (entry_of m v c step call flip event)
    (record { who = refl; at_step = sym r.next; of_call = of; keeps = keeps_call m v c step call flip event p r of })

-- where the caller stands after its entry
stands : (m : ℕ) (v : PortValue) (c step : ℕ) (call : PlainCall) (flip : TakerState Flagged) (event : PlainEvent)
    → standing_at c (history_in m v ++ entry_of m v c step call flip event ∷ [])
    ≡ standing_after_own event v.terminal.generation (standing_at c (history_in m v))
stands m v c step call flip event =
    standing_append c (history_in m v) (entry_of m v c step call flip event ∷ [])
    ∙ own_standing c (standing_after_own event v.terminal.generation (standing_at c (history_in m v)))
    (standing_after_other event (standing_at c (history_in m v)))

-- the generation of a write's parts, where the first of them may be of now
part_generation : (parts own now : ℕ)
    → (nat_lt 0 parts ≡ true → own ≡ now)
    → (b : Bool)
    → (parts == 0) ≡ b
    → (if b then now else own) ≡ now
part_generation parts own now h true e = refl
part_generation zero own now h false e = absurd (false≢true (sym e))
part_generation (suc parts) own now h false e = h (grind (arith, nat_tests))

-- ---- what an attempt comes to

done : (m : ℕ) (old new : PortValue) (c step : ℕ) (call : PlainCall) (a : PlainAnswer)
    → IsPort old
    → IsReady old c step call
    → IsUnderWay c step call (generation_of (history_in m old)) (history_in m old)
    → Attempts old new c step call (done_by a)
    → TriesCall c step call (history_in m old) (history_in m new) (done_by a)
done m old new c step call a p r u h =
    let flip = new.flip in
    let event = answered a h.dropped in
    let x = entry_of m old c step call flip event in
    let st = stands m old c step call flip event in
    let goal : TriesCall c step call (history_in m old) (history_in m old ++ x ∷ []) (done_by a) = (
      record {
        entry = x;
        added = refl;
        generation = sym (port_generation m old p);
        is = (h.dropped, is_of m old c step call flip event p r refl);
      },
      record {
        next = ap (λ (s : Standing). s.next) st ∙ ap (λ (n : ℕ). n + 1) u.next;
        not_over = ap (λ (s : Standing). s.over) st ∙ u.not_over;
        not_begun = ap (λ (s : Standing). s.begun) st;
      },
    ) in
    subst (λ (xs : List (Stamped EntryWithCall)). TriesCall c step call (history_in m old) xs (done_by a))
    (sym (ap (history_in m) h.appends.appended ∙ adds_to m old c step call flip event p)) goal

took : (m : ℕ) (old new : PortValue) (c step : ℕ) (call : PlainCall)
    → IsPort old
    → IsReady old c step call
    → IsUnderWay c step call (generation_of (history_in m old)) (history_in m old)
    → Attempts old new c step call took_part
    → TriesCall c step call (history_in m old) (history_in m new) took_part
took m old new c step call p r u h =
    let flip = old.flip in
    let event = parted h.count in
    let x = entry_of m old c step call flip event in
    let st = stands m old c step call flip event in
    let s = standing_at c (history_in m old) in
    let of = port_stands m old p c in
    let f = call_in (with_call old c step call).kept in
    let own = ((outcome_keeps old.terminal (caller_at old.terminal c) (f c (caller_at old.terminal c).next)).part
    h.count h.appends.allowed.1.takes).own in
    let own_now : nat_lt 0 s.parts ≡ true → s.generation ≡ old.terminal.generation = λ lt.
    sym (ap (λ (k : Standing). k.generation) of) ∙ own (ap (λ (k : Standing). nat_lt 0 k.parts) of ∙ lt) in
    let goal : TriesCall c step call (history_in m old) (history_in m old ++ x ∷ []) took_part = (
      record {
        entry = x;
        added = refl;
        generation = sym (port_generation m old p);
        is = (h.count, is_of m old c step call flip event p r refl);
      },
      record {
        next = ap (λ (k : Standing). k.next) st ∙ u.next;
        not_over = ap (λ (k : Standing). k.over) st ∙ u.not_over;
        same = λ begun. is_told m old c step call flip event p r refl;
        one = λ begun waits parts.
            ap (λ (k : Standing). k.generation) st
            ∙ part_generation s.parts s.generation old.terminal.generation own_now (s.parts == 0) refl
            ∙ sym (port_generation m old p);
      },
      ap (λ (k : Standing). k.waits) st,
    ) in
    subst (λ (xs : List (Stamped EntryWithCall)). TriesCall c step call (history_in m old) xs took_part)
    (sym (ap (history_in m) h.appends.appended ∙ adds_to m old c step call flip event p)) goal

-- it waits already
still : (m : ℕ) (old new : PortValue) (c step : ℕ) (call : PlainCall)
    → IsPort old
    → IsUnderWay c step call (generation_of (history_in m old)) (history_in m old)
    → is_some (caller_at old.terminal c).waits ≡ true
    → new ≡ old
    → TriesCall c step call (history_in m old) (history_in m new) must_wait
still m old new c step call p u waits same =
    let xs = history_in m old in
    let st = port_stands m old p c in
    let goal : TriesCall c step call xs xs must_wait = (
      inl (refl, sym (ap (λ (s : Standing). s.waits) st) ∙ waits),
      λ g. record {
        next = u.next;
        not_over = u.not_over;
        same = u.same;
        one = λ begun not parts. absurd (false≢true (sym not ∙ (sym (ap (λ (s : Standing). s.waits) st) ∙ waits)));
      },
    ) in
    subst (λ (ys : List (Stamped EntryWithCall)). TriesCall c step call xs ys must_wait) (sym (ap (history_in m) same))
    goal

-- it waits from now on
begins : (m : ℕ) (old new : PortValue) (c step : ℕ) (call : PlainCall)
    → IsPort old
    → IsReady old c step call
    → IsUnderWay c step call (generation_of (history_in m old)) (history_in m old)
    → Appends (with_call old c step call) new old.flip (caller_entry old c waited)
    → TriesCall c step call (history_in m old) (history_in m new) must_wait
begins m old new c step call p r u h =
    let flip = old.flip in
    let x = entry_of m old c step call flip waited in
    let st = stands m old c step call flip waited in
    let goal : TriesCall c step call (history_in m old) (history_in m old ++ x ∷ []) must_wait = (
      inr (record {
        entry = x;
        added = refl;
        generation = sym (port_generation m old p);
        is = is_of m old c step call flip waited p r refl;
      }),
      λ g. record {
        next = ap (λ (k : Standing). k.next) st ∙ u.next;
        not_over = ap (λ (k : Standing). k.over) st ∙ u.not_over;
        same = λ begun. is_told m old c step call flip waited p r refl;
        one = λ begun not parts. absurd (false≢true (sym not ∙ ap (λ (k : Standing). k.waits) st));
      },
    ) in
    subst (λ (xs : List (Stamped EntryWithCall)). TriesCall c step call (history_in m old) xs must_wait)
    (sym (ap (history_in m) h.appended ∙ adds_to m old c step call flip waited p)) goal

waiting : (m : ℕ) (old new : PortValue) (c step : ℕ) (call : PlainCall)
    → IsPort old
    → IsReady old c step call
    → IsUnderWay c step call (generation_of (history_in m old)) (history_in m old)
    → (b : Bool)
    → is_some (caller_at old.terminal c).waits ≡ b
    → MatchBool b ((new ≡ old) × (quiet old.counts old.terminal ≡ false))
    (Appends (with_call old c step call) new old.flip (caller_entry old c waited))
    → TriesCall c step call (history_in m old) (history_in m new) must_wait
waiting m old new c step call p r u true e h = still m old new c step call p u e h.0
waiting m old new c step call p r u false e h = begins m old new c step call p r u h

pub tries : (m : ℕ) (old new : PortValue) (c step : ℕ) (call : PlainCall) (x : PlainTried)
    → IsPort old
    → IsReady old c step call
    → IsUnderWay c step call (generation_of (history_in m old)) (history_in m old)
    → Attempts old new c step call x
    → TriesCall c step call (history_in m old) (history_in m new) x
tries m old new c step call (done_by a) p r u h = done m old new c step call a p r u h
tries m old new c step call took_part p r u h = took m old new c step call p r u h
tries m old new c step call must_wait p r u h =
    waiting m old new c step call p r u (is_some (caller_at old.terminal c).waits) refl h.waits

-- what an attempt leaves of the name
answer_named : (m : ℕ) (old new : PortValue) (c step : ℕ) (call : PlainCall) (flip : TakerState Flagged)
    (event : PlainEvent)
    → Appends (with_call old c step call) new flip (caller_entry old c event)
    → flip.ring ≡ old.flip.ring
    → flip.capacity ≡ old.flip.capacity
    → name_in m new ≡ name_in m old
answer_named m old new c step call flip event h ring capacity =
    ap (name_in m) h.appended
    ∙ (λ i. record { counts = old.counts; limit = old.limit; callers = m; ring = ring i; capacity = capacity i })

-- the generation, as the history tells it
pub raises_of : (m : ℕ) (changes : Bool) (old new : PortValue)
    → IsPort old
    → IsPort new
    → Raises changes old.terminal.generation new.terminal.generation
    → Raises changes (generation_of (history_in m old)) (generation_of (history_in m new))
raises_of m changes old new p q h =
    subst (λ (k : ℕ). Raises changes (generation_of (history_in m old)) k) (sym (port_generation m new q))
    (subst (λ (k : ℕ). Raises changes k new.terminal.generation) (sym (port_generation m old p)) h)

-- ---- a denied turn

pub denied_same : (m : ℕ) (d : Denied) (old new : PortValue) → Denies d old new → history_in m new ≡ history_in m old
denied_same m Full old new h = ap (history_in m) h.1
denied_same m NoMemory old new h = ap (history_in m) h.1

pub denied_full : (m : ℕ) (d : Denied) (old new : PortValue)
    → Denies d old new
    → IsFull (name_in m new) d (history_in m new)
denied_full m Full old new h =
    history_length m (call_in new.kept) new.journal new.terminal.generation
    ∙ ap (λ (v : PortValue). length v.journal) h.1
    ∙ h.0
    ∙ sym (ap (λ (v : PortValue). v.limit) h.1)
denied_full m NoMemory old new h = tt
