-- The threads of a phase can play, once the board is shared and all consoles are parted.
use Rattle.std.proofs.Common.{◌≡◌, ℕ, zero, suc, ◌+◌, ◌^◌, ◌<◌, ◌≤◌, List, [], ◌∷◌, ◌++◌, Option}
use Rattle.std.proofs.Common.{Some, length, map, take, refl, sym, subst, ap, ◌∙◌, arith, length-append, add-one}
use Rattle.std.specs.Prelude.{slice_get}
use Rattle.std.proofs.lemmas.Option.{slice_get_within}
use Rattle.legal_runs.proofs.NameLemmas.{get_append, get_past}
use Rattle.tty_base.specs.declared.characters.Flagged.{Flagged}
use Rattle.word_ring.specs.Ends.{PutterState}
use Rattle.uart_line.specs.LineState.{LineState}
use Rattle.tty_calls.specs.declared.sessions.Script.{Script}
use Rattle.tty_port.specs.declared.shared.SharedPort.{SharedPort}
use Rattle.vt_consoles.specs.declared.shared.SharedBoard.{SharedBoard}
use Rattle.vt_consoles.specs.Histories.{history_of}
use Rattle.vt_consoles.specs.Seats.{BoardSeat}
use Rattle.vt_consoles.specs.Shared.{AreHere, opening_board}
use Rattle.vt_text.specs.Sessions.{PlainVtPhase, PlainVtSession, vt_phase_of, vt_session_of}
use Rattle.vt_account.specs.Keyed.{all_keys}
use Rattle.vt_keyboard.specs.Consoles.{CanEndIf, CanKeyAll}
use Rattle.vt_keyboard.specs.Keying.{CanBegin}
use Rattle.vt_keyboard.specs.declared.console_ends.KeySeats.{KeySeats}
use Rattle.vt_threads.specs.declared.consoles.Console.{Console}
use Rattle.vt_threads.specs.declared.parting.OwnSeats.{OwnSeats}
use Rattle.vt_threads.specs.declared.parting.Parted.{Parted}
use Rattle.vt_threads.specs.declared.parting.Casting.{Casting}
use Rattle.vt_play.specs.declared.board_threads.BoardHand.{BoardHand}
use Rattle.vt_play.specs.declared.parts.AllParts.{AllParts}
use Rattle.vt_play.specs.declared.stage.PhaseOf.{PhaseOf}
use Rattle.vt_play.specs.declared.stage.Stage.{Stage}
use Rattle.vt_play.specs.Stages.{CanKey, CanOwn, CanPlayBoard, CanPlayOwns, IsFresh}
use Rattle.vt_play.specs.Phases.{IsStageOf, IsStaged}
use Rattle.vt_play.proofs.Listing.{column_is, column_length, some_is, there}
use Rattle.vt_play.proofs.Ready.{IsReadyPart, is_ready}

-- ---- the seats of a board that was just shared

fresh_from : (b : SharedBoard) (n : ℕ) (seats : List BoardSeat)
    → AreHere b (history_of (opening_board b)) n seats
    → (i : ℕ) (s : BoardSeat)
    → slice_get seats i ≡ Some s
    → IsFresh b (n + i) s
fresh_from b n [] h i s at = absurd (cc)
fresh_from b n (x ∷ xs) h zero s at =
    let e : n ≡ n + zero = omega arith in
    subst (λ (m : ℕ). IsFresh b m s) e
    (subst (λ (y : BoardSeat). IsFresh b n y) (some_is x s at) (record { here = h.0.0; seen = h.0.1 }))
fresh_from b n (x ∷ xs) h (suc i) s at =
    let e : (n + 1) + i ≡ n + suc i = omega arith in
    subst (λ (m : ℕ). IsFresh b m s) e (fresh_from b (n + 1) xs h.1 i s at)

pub all_fresh : (b : SharedBoard) (seats : List BoardSeat)
    → AreHere b (history_of (opening_board b)) 0 seats
    → (i : ℕ) (s : BoardSeat)
    → slice_get seats i ≡ Some s
    → IsFresh b i s
all_fresh b seats h i s at =
    let e : 0 + i ≡ i = omega arith in
    subst (λ (m : ℕ). IsFresh b m s) e (fresh_from b 0 seats h i s at)

-- ---- the keys of the first phases

keys_one : (phases : List PlainVtPhase) (k : ℕ) (phase : PlainVtPhase)
    → slice_get phases k ≡ Some phase
    → length (all_keys (take (suc k) phases)) ≡ length (all_keys (take k phases)) + length phase.keys
keys_one [] k phase at = absurd (cc)
keys_one (x ∷ xs) zero phase at =
    let e : length (all_keys (x ∷ [])) ≡ length x.keys + 0 = length-append x.keys [] in
    let same = ap (λ (y : PlainVtPhase). length y.keys) (some_is x phase at) in
    omega (arith, e, same)
keys_one (x ∷ xs) (suc k) phase at =
    let r = keys_one xs k phase at in
    let a = length-append x.keys (all_keys (take (suc k) xs)) in
    let b = length-append x.keys (all_keys (take k xs)) in
    omega (arith, r, a, b)

pub keys_more : (phases : List PlainVtPhase) (k : ℕ) (phase : PlainVtPhase)
    → slice_get phases k ≡ Some phase
    → length (all_keys (take (k + 1) phases)) ≡ length (all_keys (take k phases)) + length phase.keys
keys_more phases k phase at = ap (λ (n : ℕ). length (all_keys (take n phases))) (add-one k) ∙ keys_one phases k phase at

none_front : (k : ℕ) → length (all_keys (take k [])) ≡ 0
none_front zero = refl
none_front (suc k) = refl

pub keys_front : (phases : List PlainVtPhase) (k : ℕ) → length (all_keys (take k phases)) ≤ length (all_keys phases)
keys_front [] k = omega (arith, (let e : length (all_keys (take k [])) ≡ 0 = none_front k in e))
keys_front (x ∷ xs) zero = omega arith
keys_front (x ∷ xs) (suc k) =
    let r = keys_front xs k in
    let a = length-append x.keys (all_keys (take k xs)) in
    let b = length-append x.keys (all_keys xs) in
    omega (arith, r, a, b)

-- ---- the parts of all consoles

module _ (of : PhaseOf) (board : SharedBoard) (seats : List BoardSeat) (consoles : List Console) (parts : AllParts)
    (h : IsStaged of board seats consoles parts) (stage : Stage)
    (g : IsStageOf of board parts.ports.items parts.castings.items stage) where
  abbrev vt : PlainVtSession
  vt = vt_session_of of.session.now

  abbrev phase : PlainVtPhase
  phase = vt_phase_of stage.phase.now

  abbrev qs : List Parted
  qs = h.parted.qs

  -- the console with this number, and its parts
  ready_at : (p : ℕ) (q : Parted) → slice_get qs p ≡ Some q → IsReadyPart of.session.now of.k (length phase.keys) q
  ready_at p q at =
      let inside = slice_get_within qs p q at in
      let count = h.parted.count in
      let all = h.of_all in
      let c = there consoles p (omega (arith, inside, count)) in
      is_ready of.session.now h.phase_of.within p (omega (arith, inside, count, all)) of.k h.phase_of.below phase
      g.phase_is (opening_board board).entries h.opening.keys c.0 (h.before p c.0 c.1) q (h.parted.each p c.0 q c.1 at)

  part_at : {Y : Type 0} (f : Parted → Y) (ys : List Y) (p : ℕ) (y : Y)
      → ys ≡ map f qs
      → slice_get ys p ≡ Some y
      → (q : Parted) × (slice_get qs p ≡ Some q)
  part_at f ys p y is at =
      let inside = slice_get_within ys p y at in
      let size = column_length f ys qs is in there qs p (omega (arith, inside, size))

  -- ---- the consoles' own threads

  ports_are : stage.ports.now ≡ map (λ (q : Parted). q.port) qs
  ports_are = g.ports_are ∙ h.parted.parts.ports

  castings_are : stage.castings.now ≡ map (λ (q : Parted). q.rest.casting) qs
  castings_are = g.castings_are ∙ h.parted.parts.castings

  pub can_owns : CanPlayOwns stage parts.owns.items
  can_owns p own at =
      let q = part_at (λ (q : Parted). q.own) parts.owns.items p own h.parted.parts.owns at in
      let inside = slice_get_within qs p q.0 q.1 in
      let ports = column_length (λ (q : Parted). q.port) stage.ports.now qs ports_are in
      let castings = column_length (λ (q : Parted). q.rest.casting) stage.castings.now qs castings_are in
      record {
        port = omega (arith, inside, ports);
        casting = omega (arith, inside, castings);
        can = λ port casting at_port at_casting.
            subst (λ (x : Option SharedPort). CanOwn x own stage.scripts.now casting.cast.items)
            (sym (column_is (λ (q : Parted). q.port) stage.ports.now qs p q.0 port ports_are q.1 at_port))
            (subst (λ (x : Option OwnSeats). CanOwn q.0.port x stage.scripts.now casting.cast.items)
            (sym (column_is (λ (q : Parted). q.own) parts.owns.items qs p q.0 own h.parted.parts.owns q.1 at))
            (subst (λ (x : Casting). CanOwn q.0.port q.0.own stage.scripts.now x.cast.items)
            (sym (column_is (λ (q : Parted). q.rest.casting) stage.castings.now
            qs p q.0 casting castings_are q.1 at_casting))
            (subst (λ (x : List Script). CanOwn q.0.port q.0.own x q.0.rest.casting.cast.items) (sym g.scripts_are)
            (ready_at p q.0 q.1).own)));
      }

  -- ---- the keyboard

  count_of : {Y : Type 0} (f : Parted → Y) (ys : List Y) → ys ≡ map f qs → length ys ≡ (opening_board board).consoles
  count_of f ys is = column_length f ys qs is ∙ (h.parted.count ∙ (h.of_all ∙ sym h.opening.consoles))

  can_key_all : CanKeyAll (opening_board board).consoles (length phase.keys) stage.ports.now parts.keyboard.seats.items
      parts.keyboard.keyed.lines.items parts.keyboard.keyed.ends.items
  can_key_all = record {
    ports_of = count_of (λ (q : Parted). q.port) stage.ports.now ports_are;
    seats_of = count_of (λ (q : Parted). q.seats) parts.keyboard.seats.items h.parted.parts.seats;
    lines_of = count_of (λ (q : Parted). q.line) parts.keyboard.keyed.lines.items h.parted.parts.lines;
    ends_of = count_of (λ (q : Parted). q.end) parts.keyboard.keyed.ends.items h.parted.parts.ends;
    begins = λ p l e at_l at_e.
        let q = part_at (λ (q : Parted). q.line) parts.keyboard.keyed.lines.items p l h.parted.parts.lines at_l in
        subst (λ (x : LineState). CanBegin x e) (sym
        (column_is (λ (q : Parted). q.line) parts.keyboard.keyed.lines.items qs p q.0 l h.parted.parts.lines q.1 at_l))
        (subst (λ (x : PutterState Flagged). CanBegin q.0.line x)
        (sym
        (column_is (λ (q : Parted). q.end) parts.keyboard.keyed.ends.items qs p q.0 e h.parted.parts.ends q.1 at_e))
        (ready_at p q.0 q.1).begins);
    room = λ p l at_l.
        let q = part_at (λ (q : Parted). q.line) parts.keyboard.keyed.lines.items p l h.parted.parts.lines at_l in
        subst (λ (x : LineState). x.report.arrived + length phase.keys ≤ x.most)
        (sym
        (column_is (λ (q : Parted). q.line) parts.keyboard.keyed.lines.items qs p q.0 l h.parted.parts.lines q.1 at_l))
        (ready_at p q.0 q.1).room;
    can_end = λ p port s e at_port at_s at_e.
        let q = part_at (λ (q : Parted). q.port) stage.ports.now p port ports_are at_port in
        subst (λ (x : Option SharedPort). CanEndIf x s e)
        (sym (column_is (λ (q : Parted). q.port) stage.ports.now qs p q.0 port ports_are q.1 at_port))
        (subst (λ (x : Option KeySeats). CanEndIf q.0.port x e)
        (sym (column_is (λ (q : Parted). q.seats) parts.keyboard.seats.items qs p q.0 s h.parted.parts.seats q.1 at_s))
        (subst (λ (x : PutterState Flagged). CanEndIf q.0.port q.0.seats x)
        (sym
        (column_is (λ (q : Parted). q.end) parts.keyboard.keyed.ends.items qs p q.0 e h.parted.parts.ends q.1 at_e))
        (ready_at p q.0 q.1).ends));
  }

  -- ---- the board

  -- the index of each key can be counted
  indexes : stage.first + length phase.keys < 2 ^ 32
  indexes =
      let more = keys_more vt.phases of.k phase g.phase_is in
      let few = keys_front vt.phases (of.k + 1) in
      let most = h.phase_of.within.few_keys in
      let first = h.opening.first_is in
      let is = g.first_is in
      omega (arith, more, few, most, first, is)

  pub can_board : (others : List BoardSeat) (seat : BoardSeat) (hand : BoardHand)
      → seats ≡ others ++ seat ∷ []
      → hand.seats.items ≡ others
      → hand.keys ≡ record { seat = seat; keyboard = parts.keyboard }
      → CanPlayBoard stage hand
  can_board others seat hand split seats_are keys_are =
      let size = length-append others (seat ∷ []) in
      let whole = ap (λ (l : List BoardSeat). length l) split in
      let count = h.count in
      let names = ap (λ (l : List (List ℕ)). length l) g.names_are in
      let few = h.phase_of.within.few_seats in
      let all = ap (λ (l : List (List ℕ)). length l) h.phase_of.names_are in
      let number : length others ≡ length stage.names.now = omega (arith, size, whole, count, names) in
      let fresh = all_fresh board seats h.here in
      record {
        count = let e = ap (λ (l : List BoardSeat). length l) seats_are in omega (arith, e, number);
        seats = λ i s at.
            subst (λ (b : SharedBoard). IsFresh b i s) (sym g.board_is)
            (fresh i s
            (ap (λ (l : List BoardSeat). slice_get l i) split
            ∙ get_append others (seat ∷ []) i s (ap (λ (l : List BoardSeat). slice_get l i) (sym seats_are) ∙ at)));
        keys = subst (CanKey stage) (sym keys_are) (record {
          fresh = subst (λ (b : SharedBoard). IsFresh b (length stage.names.now) seat) (sym g.board_is)
              (subst (λ (n : ℕ). IsFresh board n seat) number
              (fresh (length others) seat
              (ap (λ (l : List BoardSeat). slice_get l (length others)) split
              ∙ get_past others (seat ∷ []) (length others) 0 (omega arith))));
          few = omega (arith, names, few, all);
          indexes = indexes;
          can = subst (λ (b : SharedBoard). CanKeyAll (opening_board b).consoles (length phase.keys) stage.ports.now
              parts.keyboard.seats.items parts.keyboard.keyed.lines.items parts.keyboard.keyed.ends.items)
              (sym g.board_is) can_key_all;
        });
      }
