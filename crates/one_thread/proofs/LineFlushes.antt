-- Steps of the line flush once at most.
use Rattle.std.proofs.Common.{◌≡◌, ℕ, ◌-◌, min, true, List, [], ◌∷◌, length, refl}
use Rattle.std.proofs.Common.{sym, ◌∙◌, ap, subst, arith, append-nil, inl, inr}
use Rattle.std.specs.Prelude.{Result, Ok, Err, IfOk, IfErr, IsTrue}
use Rattle.std.proofs.lemmas.Bool.{cases_lt}
use Rattle.std.proofs.lemmas.List.Elements.{All-nil, All-cons}
use Rattle.tty_base.specs.Sizes.{PIECE}
use Rattle.tty_base.specs.declared.characters.Flagged.{Flagged}
use Rattle.word_ring.specs.Ends.{PutterState}
use Rattle.tty_calls.specs.declared.answers.Denied.{Denied}
use Rattle.tty_calls.specs.declared.answers.Denied.TheVariants.{NoMemory, Full}
use Rattle.tty_calls.specs.Plain.{PlainEntry}
use Rattle.tty_terminal.specs.Runs.{is_flush}
use Rattle.port_core.specs.declared.ports.flushing.Flushed.{Flushed}
use Rattle.port_core.specs.declared.ports.flushing.Flushed.TheVariants.{Took, Nothing}
use Rattle.port_core.specs.Flips.{after_meeting}
use Rattle.port_core.specs.Flushes.{Flushes, LooksAtNone}
use Rattle.port_core.specs.Given.{FlushesGiven, DeniesGiven, with_put, with_pushed}
use Rattle.port_core.specs.Ports.{PortValue, Denies, is_stuck, flush_entry}
use Rattle.one_thread.specs.Acts.{FlushesOnce}
use Rattle.one_thread.specs.LineInside.{FlushesSince, DeniesCut}
use Rattle.one_thread.proofs.LineLists.{true_or_false}
use Rattle.legal_runs.proofs.Truths.{on_false, on_true}

-- nothing but what is known of the flip buffer, or that memory was wanting, is other than before
record IsAlike (old new : PortValue) : Type 0 where
  terminal : new.terminal ≡ old.terminal
  journal : new.journal ≡ old.journal
  kept : new.kept ≡ old.kept
  counts : new.counts ≡ old.counts
  capacity : new.flip.capacity ≡ old.flip.capacity

alike : (old new : PortValue) → IsAlike old new → FlushesOnce old new
alike old new h = record {
  part = [];
  added = h.journal ∙ sym (append-nil old.journal);
  few = omega arith;
  flushes = All-nil (λ (e : PlainEntry). IsTrue (is_flush e.event));
  stays = λ e. h.terminal;
  kept = h.kept;
  counts = h.counts;
  capacity = h.capacity;
}

pub same : (old new : PortValue) → new ≡ old → FlushesOnce old new
same old new h =
    subst (λ (v : PortValue). FlushesOnce old v) (sym h)
    (alike old old (record { terminal = refl; journal = refl; kept = refl; counts = refl; capacity = refl }))

-- a piece of a flush run, once the end that takes out was told of what was put
piece : (old left new : PortValue) (putter met : PutterState Flagged) (run most : ℕ) (flushed : Flushed)
    → Flushes (record old { flip = after_meeting old.flip putter }) left run 0 most flushed
    → new ≡ record left { flip = after_meeting left.flip met } → FlushesOnce old new
piece old left new putter met run most (Took n) takes is =
    let told : PortValue = record old { flip = after_meeting old.flip putter } in
    let entry : PlainEntry = flush_entry told run 0 takes.chars in
    let appended = takes.appends.appended in
    record {
      part = entry ∷ [];
      added = ap (λ (v : PortValue). v.journal) is ∙ ap (λ (v : PortValue). v.journal) appended;
      few = omega arith;
      flushes = All-cons (λ (e : PlainEntry). IsTrue (is_flush e.event)) entry [] refl
          (All-nil (λ (e : PlainEntry). IsTrue (is_flush e.event)));
      stays = λ e. absurd (omega (arith, ap (λ (es : List PlainEntry). length es) e));
      kept = ap (λ (v : PortValue). v.kept) is ∙ ap (λ (v : PortValue). v.kept) appended;
      counts = ap (λ (v : PortValue). v.counts) is ∙ ap (λ (v : PortValue). v.counts) appended;
      capacity = ap (λ (v : PortValue). v.flip.capacity) is ∙ takes.takes_out.capacity;
    }
piece old left new putter met run most Nothing takes is =
    let told : PortValue = record old { flip = after_meeting old.flip putter } in
    elim (true_or_false (is_stuck old.terminal)) [
      | inl h ↦
          let none : left ≡ told =
          on_true (is_stuck old.terminal) (left ≡ told) (LooksAtNone told left) h takes.cause in
          alike old new (record {
            terminal = ap (λ (v : PortValue). v.terminal) is ∙ ap (λ (v : PortValue). v.terminal) none;
            journal = ap (λ (v : PortValue). v.journal) is ∙ ap (λ (v : PortValue). v.journal) none;
            kept = ap (λ (v : PortValue). v.kept) is ∙ ap (λ (v : PortValue). v.kept) none;
            counts = ap (λ (v : PortValue). v.counts) is ∙ ap (λ (v : PortValue). v.counts) none;
            capacity = ap (λ (v : PortValue). v.flip.capacity) is ∙ ap (λ (v : PortValue). v.flip.capacity) none;
          })
      | inr h ↦
          let none = (on_false (is_stuck old.terminal) (left ≡ told) (LooksAtNone told left) h takes.cause).looked in
          alike old new (record {
            terminal = ap (λ (v : PortValue). v.terminal) is ∙ ap (λ (v : PortValue). v.terminal) none;
            journal = ap (λ (v : PortValue). v.journal) is ∙ ap (λ (v : PortValue). v.journal) none;
            kept = ap (λ (v : PortValue). v.kept) is ∙ ap (λ (v : PortValue). v.kept) none;
            counts = ap (λ (v : PortValue). v.counts) is ∙ ap (λ (v : PortValue). v.counts) none;
            capacity = ap (λ (v : PortValue). v.flip.capacity) is ∙ ap (λ (v : PortValue). v.flip.capacity) none;
          })
    ]

denied : (d : Denied) (old new : PortValue) (putter : PutterState Flagged)
    → Denies d (record old { flip = after_meeting old.flip putter }) new
    → FlushesOnce old new
denied Full old new putter h =
    subst (λ (v : PortValue). FlushesOnce old v) (sym h.1)
    (alike old (record old { flip = after_meeting old.flip putter })
    (record { terminal = refl; journal = refl; kept = refl; counts = refl; capacity = refl }))
denied NoMemory old new putter h =
    subst (λ (v : PortValue). FlushesOnce old v) (sym h.1)
    (alike old (record old { flip = after_meeting old.flip putter; starved = true })
    (record { terminal = refl; journal = refl; kept = refl; counts = refl; capacity = refl }))

-- what was put since so many were put is flushed, or denied
pub since_once : (before : ℕ) (old new : PortValue) (putter now : PutterState Flagged) (run : ℕ)
    (result : Result ℕ Denied)
    → IfOk result (λ next. FlushesSince before old new putter now run next)
    → IfErr result (λ d. DeniesCut d old new putter now)
    → FlushesOnce old new
since_once before old new putter now run (Ok next) f h =
    elim (cases_lt before (length putter.sent)) [
      | inl lt ↦
          let cut = f.some lt in
          piece old cut.left new putter cut.met run (min (length putter.sent - before) PIECE)
          cut.flushed cut.flushes cut.new_is
      | inr le ↦ same old new (f.none le).0
    ]
since_once before old new putter now run (Err d) f h = denied d old new putter h.denies

-- characters that were given are flushed, or denied
pub given_once : (old new : PortValue) (putter now : PutterState Flagged) (run : ℕ) (chars : List Flagged)
    (flushed : Flushed)
    → FlushesGiven old new putter now run chars flushed
    → FlushesOnce old new
given_once old new putter now run chars flushed g =
    piece old g.left new (with_put putter chars) (with_pushed putter chars) run (length chars)
    flushed g.flushes g.new_is

pub given_denied : (d : Denied) (old new : PortValue) (putter now : PutterState Flagged) (chars : List Flagged)
    → DeniesGiven d old new putter now chars
    → FlushesOnce old new
given_denied d old new putter now chars g = denied d old new (with_put putter chars) g.denies
