-- A flush run from turn to turn.
use Rattle.std.proofs.Common.{◌≡◌, ℕ, ◌+◌, ◌<◌, ◌≤◌, List, [], ◌∷◌, ◌++◌, Bool, true, false, IsTrue}
use Rattle.std.proofs.Common.{if◌then◌else◌, ne_eqb, ◌==◌, ◌&&◌, ◌||◌, Option, None, Some, length, refl}
use Rattle.std.proofs.Common.{sym, ◌∙◌, ap, subst, arith, append_assoc, append-nil, length-append}
use Rattle.std.proofs.lemmas.Bool.{eq-eqb}
use Rattle.tty_base.specs.Sizes.{MOST_ENTRIES, PIECE}
use Rattle.tty_base.specs.declared.characters.Flagged.{Flagged}
use Rattle.tty_calls.specs.Plain.{PlainEntry, chars_in}
use Rattle.tty_terminal.specs.declared.callers.Piece.{Piece}
use Rattle.tty_terminal.specs.Steps.{follows}
use Rattle.tty_terminal.specs.Runs.{chars_of}
use Rattle.port_core.specs.declared.ports.flushing.Flushed.{Flushed}
use Rattle.port_core.specs.declared.ports.flushing.Flushed.TheVariants as outcome
use Rattle.port_cell.specs.declared.kept.Stamped.{Stamped}
use Rattle.port_cell.specs.Entries.{Begins, Keeps}
use Rattle.port_cell.specs.Word.{generation_in, changing_in}
use Rattle.port_cell.specs.Knowledge.{list_seen, own_entries, last_word, step_count, install_count}
use Rattle.tty_port.specs.Inside.{Name, EntryWithCall}
use Rattle.tty_port.specs.Seen.{entries_in, marks_at, chars_at, next_run, run_after, terminal_at}
use Rattle.tty_port.specs.Placed.{ArePlaced}
use Rattle.tty_port.specs.Adding.{Adds}
use Rattle.tty_port.specs.Calls.{PortSeat}
use Rattle.tty_port.specs.Flushing.{IsPiece, ArePieces, IsWholePiece, AreWhole, HasNothingLeft}
use Rattle.tty_port.specs.Flushing.{run_past, FlushesRun, GoesOnAt, FlushesPiece}
use Rattle.tty_port.specs.Lines.{MakesOne, MakesNone}
use Rattle.tty_port.specs.Going.{IsFlushing, FlushTurns}
use Rattle.tty_port.proofs.Histories.{entries_append}
use Rattle.tty_port.proofs.Keeping.{latest_kept}
use Rattle.tty_port.proofs.Turning.{makes_one, makes_none}
use Rattle.tty_port.proofs.CallTurns.{IsTurn}
use Rattle.tty_port.proofs.CallSteps.{begins_on, begins_same, begins_one, begins_none, KnowsSame}

-- ---- one turn

pub run_kept : (m n : ℕ) (xs ys : List (Stamped EntryWithCall))
    → ArePlaced m n ys
    → Keeps m xs ys
    → next_run ys ≡ next_run xs
run_kept m n xs ys placed h = ap run_after (latest_kept m n xs ys placed h)

pub flush_turns : (name : Name) (n run part generation : ℕ) (old new : PortSeat)
    (before after : List (Stamped EntryWithCall))
    → IsTurn name.callers n name.callers generation old new before after
    → (x : Flushed)
    → FlushesPiece name run part before after x
    → FlushTurns name run part generation old new x
flush_turns name n run part generation old new before after t (outcome.Took k) h =
    let P : List (Stamped EntryWithCall) → Stamped EntryWithCall → Type 0 = λ xs x.
    IsPiece name.callers run part generation x × (k ≡ length (chars_at (x ∷ []))) × IsWholePiece name xs x in
    let added : Adds (P before) before after =
    subst (λ (g : ℕ). Adds
    (λ x. IsPiece name.callers run part g x × (k ≡ length (chars_at (x ∷ []))) × IsWholePiece name before x) before
    after)
    t.at h.0 in (
      makes_one P name.callers old new before after (λ x is. is.0.seat) t.was t.now t.keeps added t.seen,
      subst (GoesOnAt run (part + 1) generation) (sym t.seen)
          (subst (λ (g : ℕ). GoesOnAt run (part + 1) g after) t.at h.1),
      ap next_run t.seen ∙ h.2,
      subst (λ (xs : List (Stamped EntryWithCall)). length xs ≤ MOST_ENTRIES) (sym t.seen) h.3,
    )
flush_turns name n run part generation old new before after t outcome.Nothing h = (
  makes_none name.callers old new before after t.was t.now t.keeps h.0 t.seen,
  ap next_run (t.seen ∙ h.0) ∙ run_kept name.callers n (list_seen old) before t.placed t.keeps,
  subst (λ (xs : List (Stamped EntryWithCall)). HasNothingLeft (terminal_at name xs)) (sym (t.seen ∙ h.0)) h.1,
)

-- ---- the run so far

chars_more : (es fs : List PlainEntry) → chars_of (es ++ fs) ≡ chars_of es ++ chars_of fs
chars_more [] fs = refl
chars_more (e ∷ es) fs =
    ap (λ (cs : List Flagged). chars_in e.event ++ cs) (chars_more es fs)
    ∙ sym (append_assoc (chars_in e.event) (chars_of es) (chars_of fs))

chars_push : (xs : List (Stamped EntryWithCall)) (x : Stamped EntryWithCall)
    → length (chars_at (xs ++ x ∷ [])) ≡ length (chars_at xs) + length (chars_at (x ∷ []))
chars_push xs x =
    ap (λ (es : List PlainEntry). length (chars_of es)) (entries_append xs (x ∷ []))
    ∙ ap length (chars_more (entries_in xs) (x.what.entry ∷ []))
    ∙ length-append (chars_at xs) (chars_at (x ∷ []))

pieces_push : (m run generation part : ℕ) (xs : List (Stamped EntryWithCall)) (x : Stamped EntryWithCall) (k : ℕ)
    → k ≡ part + length xs
    → ArePieces m run generation part xs
    → IsPiece m run k generation x
    → ArePieces m run generation part (xs ++ x ∷ [])
pieces_push m run generation part [] x k e h p =
    (subst (λ (j : ℕ). IsPiece m run j generation x) (let size : k ≡ part = omega arith in size) p, tt)
pieces_push m run generation part (y ∷ ys) x k e h p =
    let size : k ≡ (part + 1) + length ys = omega arith in
    (h.0, pieces_push m run generation (part + 1) ys x k size h.1 p)

piece_chars : (m run part generation k : ℕ) (x : Stamped EntryWithCall)
    → IsPiece m run part generation x
    → k ≡ length (chars_at (x ∷ []))
    → k ≤ PIECE
piece_chars m run part generation k x p e =
    let one : length (chars_at (x ∷ [])) ≡ length p.chars =
    ap length (append-nil (chars_in x.what.entry.event)) ∙ ap (λ ev. length (chars_in ev)) p.happened in
    let few = p.few in omega arith

piece_some : (m run part generation k : ℕ) (x : Stamped EntryWithCall)
    → IsPiece m run part generation x
    → k ≡ length (chars_at (x ∷ []))
    → 0 < k
piece_some m run part generation k x p e =
    let one : length (chars_at (x ∷ [])) ≡ length p.chars =
    ap length (append-nil (chars_in x.what.entry.event)) ∙ ap (λ ev. length (chars_in ev)) p.happened in
    let some = p.some in omega arith

past_some : (run n : ℕ) → 0 < n → run_past run n ≡ run + 1
past_some run n lt = ap (λ (b : Bool). if b then run else run + 1) (ne_eqb n 0 (λ e. absurd (omega arith)))

-- ---- pieces in histories that go on

whole_later : (name : Name) (xs ys made : List (Stamped EntryWithCall))
    → Begins xs ys
    → AreWhole name xs made
    → AreWhole name ys made
whole_later name xs ys [] h w = tt
whole_later name xs ys (x ∷ made) h w =
    ((w.0.0, begins_on (w.0.0 ++ x ∷ []) xs ys w.0.1 h, w.0.2), whole_later name xs ys made h w.1)

whole_push : (name : Name) (all made : List (Stamped EntryWithCall)) (before : List (Stamped EntryWithCall))
    (x : Stamped EntryWithCall)
    → AreWhole name all made
    → Begins (before ++ x ∷ []) all
    → IsWholePiece name before x
    → AreWhole name all (made ++ x ∷ [])
whole_push name all [] before x w b h = ((before, b, h), tt)
whole_push name all (y ∷ made) before x w b h = (w.0, whole_push name all made before x w.1 b h)

pub flush_begins : (name : Name) (run : ℕ) (s : PortSeat) → run ≡ next_run (list_seen s) → IsFlushing name run 0 0 s s
flush_begins name run s e =
    record {
      begins = begins_same (list_seen s);
      made = [];
      adds = sym (append-nil (own_entries s));
      pieces = tt;
      whole = tt;
      parts = refl;
      count = refl;
      few = omega arith;
      next = sym e;
      installed = refl;
    }

last_or : (a b : Bool) → b ≡ true → (a || (b && (0 == 0))) ≡ true
last_or true b e = refl
last_or false b e = ap (λ (x : Bool). x && (0 == 0)) e

first_run : (o : Option Piece) (run : ℕ) → run ≡ run_after o → IsTrue (follows o run 0)
first_run None run e = ap (λ (b : Bool). b && (0 == 0)) (eq-eqb run 0 e)
first_run (Some p) run e = last_or ((run == p.run) && (0 == p.part + 1)) (run == p.run + 1) (eq-eqb run (p.run + 1) e)

-- the next run may begin
pub run_begins : (run generation : ℕ) (xs : List (Stamped EntryWithCall))
    → run ≡ next_run xs
    → GoesOnAt run 0 generation xs
run_begins run generation xs e =
    record { numbered = first_run (marks_at xs).latest run e; one = λ lt. absurd (omega arith) }

pub flush_more : (name : Name) (run part n k : ℕ) (old mid new : PortSeat)
    → IsFlushing name run part n old mid
    → FlushTurns name run part (generation_in (last_word mid)) mid new (outcome.Took k)
    → last_word new ≡ last_word mid
    → install_count new ≡ install_count mid
    → IsFlushing name run (part + 1) (n + k) old new
flush_more name run part n k old mid new h t word installs =
    let made = t.0 in
    let x = made.entry in
    let size = length-append h.made (x ∷ []) in
    let parts = h.parts in
    let chars = chars_push h.made x in
    let count = h.count in
    let piece = made.is.1 in
    let ends : Begins (made.before ++ x ∷ []) (list_seen new) =
    subst (Begins (made.before ++ x ∷ [])) (sym made.added) (begins_same (made.before ++ x ∷ [])) in
    let most = piece_chars name.callers run part (generation_in (last_word mid)) k x made.is.0 piece in
    let few = h.few in
    let some = piece_some name.callers run part (generation_in (last_word mid)) k x made.is.0 piece in
    record {
      begins = begins_one (list_seen old) _ mid new h.begins made;
      made = h.made ++ x ∷ [];
      adds =
          made.own
          ∙ ap (λ (xs : List (Stamped EntryWithCall)). xs ++ x ∷ []) h.adds
          ∙ append_assoc (own_entries old) h.made (x ∷ []);
      pieces = subst (λ (w : ℕ). ArePieces name.callers run (generation_in w) 0 (h.made ++ x ∷ [])) (sym word)
          (pieces_push name.callers run (generation_in (last_word mid)) 0 h.made x part (omega arith)
          h.pieces made.is.0);
      whole = whole_push name (list_seen new) h.made made.before x
          (whole_later name (list_seen mid) (list_seen new) h.made
          (begins_one (list_seen mid) _ mid new (begins_same (list_seen mid)) made) h.whole) ends made.is.2;
      parts = omega arith;
      count = omega arith;
      few = omega arith;
      next = t.2 ∙ sym (past_some run (n + k) (omega arith));
      installed = installs ∙ h.installed;
    }

pub flush_none : (name : Name) (run part n : ℕ) (old mid new : PortSeat)
    → IsFlushing name run part n old mid
    → MakesNone mid new
    → next_run (list_seen new) ≡ next_run (list_seen mid)
    → last_word new ≡ last_word mid
    → install_count new ≡ install_count mid
    → IsFlushing name run part n old new
flush_none name run part n old mid new h none next word installs =
    record {
      begins = begins_none (list_seen old) mid new h.begins none;
      made = h.made;
      adds = none.own ∙ h.adds;
      pieces = subst (λ (w : ℕ). ArePieces name.callers run (generation_in w) 0 h.made) (sym word) h.pieces;
      whole = whole_later name (list_seen mid) (list_seen new) h.made
          (begins_none (list_seen mid) mid new (begins_same (list_seen mid)) none) h.whole;
      parts = h.parts;
      count = h.count;
      few = h.few;
      next = next ∙ h.next;
      installed = installs ∙ h.installed;
    }

-- the history is no shorter than the run
pub longer : (P : List (Stamped EntryWithCall) → Stamped EntryWithCall → Type 0) (mid new : PortSeat) (part : ℕ)
    → MakesOne P mid new
    → part ≤ length (list_seen mid)
    → part + 1 ≤ length (list_seen new)
longer P mid new part h le =
    let found = ap length h.found.1 ∙ length-append (list_seen mid) h.found.0 in
    let size = ap length h.added ∙ length-append h.before (h.entry ∷ []) in
    omega arith

-- a run under a reference that was taken before and is given back after it
pub flushes_run : (name : Name) (run part n : ℕ) (s old new t : PortSeat)
    → KnowsSame s old
    → KnowsSame new t
    → last_word t ≡ last_word new
    → step_count s < step_count t
    → changing_in (last_word t) ≡ 0
    → IsFlushing name run part n old new
    → FlushesRun name run n s t
flushes_run name run part n s old new t k l word steps found h =
    record {
      begins = subst (λ (xs : List (Stamped EntryWithCall)). Begins xs (list_seen t)) k.list
          (subst (Begins (list_seen old)) (sym l.list) h.begins);
      made = h.made;
      adds = l.own ∙ h.adds ∙ ap (λ (xs : List (Stamped EntryWithCall)). xs ++ h.made) k.own;
      pieces = subst (λ (w : ℕ). ArePieces name.callers run (generation_in w) 0 h.made) (sym word) h.pieces;
      whole = subst (λ (xs : List (Stamped EntryWithCall)). AreWhole name xs h.made) (sym l.list) h.whole;
      count = h.count;
      next = ap next_run l.list ∙ h.next;
      stepped = steps;
      found = found;
      installed = l.installs ∙ h.installed ∙ k.installs;
    }
