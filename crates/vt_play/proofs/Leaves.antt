-- What the threads of a phase leave of the consoles.
use Rattle.std.proofs.Common.{◌≡◌, ℕ, ◌+◌, List, [], ◌∷◌, ◌++◌, Some}
use Rattle.std.proofs.Common.{Result, length, map, sym, subst, ap, ◌∙◌}
use Rattle.std.specs.Prelude.{IfErr, OnOk, slice_get}
use Rattle.tty_calls.specs.declared.answers.Denied.{Denied}
use Rattle.tty_calls.specs.declared.sessions.Script.{Script}
use Rattle.port_cell.specs.Knowledge.{number_of}
use Rattle.port_cell.specs.Seats.{EachSeat, HasAll}
use Rattle.many_threads.specs.Callers.{plain_cast}
use Rattle.vt_consoles.specs.declared.shared.SharedBoard.{SharedBoard}
use Rattle.vt_consoles.specs.Shared.{IsHere, seats_of}
use Rattle.vt_text.specs.Sessions.{PlainVtPhase, vt_phase_of, vt_session_of}
use Rattle.vt_threads.specs.Closing.{SeatsPlayed}
use Rattle.vt_threads.specs.Parting.{OwnCame}
use Rattle.vt_keyboard.specs.declared.keyboard_thread.Keyboard.{Keyboard}
use Rattle.vt_threads.specs.declared.parting.Parted.{Parted}
use Rattle.vt_threads.specs.declared.parting.PartedBack.{PartedBack}
use Rattle.vt_play.specs.declared.board_threads.BoardHand.{BoardHand}
use Rattle.vt_play.specs.declared.console_threads.ThreadsBack.{ThreadsBack}
use Rattle.vt_play.specs.declared.parts.AllBack.{AllBack}
use Rattle.vt_play.specs.declared.parts.AllParts.{AllParts}
use Rattle.vt_play.specs.declared.phases.PhaseBack.{PhaseBack}
use Rattle.vt_play.specs.declared.stage.PhaseOf.{PhaseOf}
use Rattle.vt_play.specs.declared.stage.Stage.{Stage}
use Rattle.vt_play.specs.Parts.{AreBackOf, ArePartsOf}
use Rattle.vt_play.specs.Stages.{HasOperated, IsFresh, Places, PlaysKeys, SomeDenied, ThreadsCome, first_denied}
use Rattle.vt_play.specs.Phases.{AllCame, CameBack, HasBegun, IsStageOf, PhaseLeaves, PhasePlayed}
use Rattle.vt_play.proofs.Back.{IsZipped, zipped}
use Rattle.vt_play.proofs.BoardBacks.{all_begun, all_here, has_all, ok_both, seats_played, some_denied}
use Rattle.vt_play.proofs.Listing.{column_length, column_there, mapped_there, same_there}

module _ (of : PhaseOf) (board : SharedBoard) (parts : AllParts) (stage : Stage)
    (g : IsStageOf of board parts.ports.items parts.castings.items stage)
    (of_all : seats_of board ≡ length of.names.now + 1) (hand : BoardHand)
    (number : length hand.seats.items ≡ length stage.names.now)
    (fresh : IsFresh stage.board.now (length stage.names.now) hand.keys.seat)
    (keyboard_is : hand.keys.keyboard ≡ parts.keyboard) (back : ThreadsBack)
    (comes : ThreadsCome stage parts.owns.items hand back) (left : PhaseBack)
    (seats_are : left.seats.items ≡ back.board.seats.items ++ back.board.keys.hand.seat ∷ [])
    (made_is : left.made ≡ first_denied back.board.operated back.board.keys.result)
    (all_is : left.all
    ≡ record {
      ports = parts.ports;
      keyboard = back.board.keys.hand.keyboard;
      owns = back.owns;
      castings = parts.castings;
      kept = parts.kept;
    }) where
  abbrev phase : PlainVtPhase
  phase = vt_phase_of stage.phase.now

  abbrev whole : AllBack
  whole = record {
    ports = parts.ports;
    keyboard = back.board.keys.hand.keyboard;
    owns = back.owns;
    castings = parts.castings;
    kept = parts.kept;
  }

  stage_seats : seats_of stage.board.now ≡ length stage.names.now + 1
  stage_seats = ap seats_of g.board_is ∙ (of_all ∙ ap (λ (l : List (List ℕ)). length l + 1) (sym g.names_are))

  -- ---- the consoles

  module _ (keys : PlaysKeys stage hand.keys back.board.keys.hand) (qs : List Parted) (are : ArePartsOf qs parts) where
    lines_of : length back.board.keys.hand.keyboard.keyed.lines.items ≡ length qs
    lines_of =
        keys.lines_of
        ∙ (ap (λ (k : Keyboard). length k.keyed.lines.items) keyboard_is
        ∙ column_length (λ (q : Parted). q.line) parts.keyboard.keyed.lines.items qs are.lines)

    ends_of : length back.board.keys.hand.keyboard.keyed.ends.items ≡ length qs
    ends_of =
        keys.ends_of
        ∙ (ap (λ (k : Keyboard). length k.keyed.ends.items) keyboard_is
        ∙ column_length (λ (q : Parted). q.end) parts.keyboard.keyed.ends.items qs are.ends)

    seats_back : length back.board.keys.hand.keyboard.seats.items ≡ length qs
    seats_back =
        keys.seats_of
        ∙ (ap (λ (k : Keyboard). length k.seats.items) keyboard_is
        ∙ column_length (λ (q : Parted). q.seats) parts.keyboard.seats.items qs are.seats)

    owns_back : length back.owns.items ≡ length qs
    owns_back = comes.owns.count ∙ column_length (λ (q : Parted). q.own) parts.owns.items qs are.owns

    z : (bs : List PartedBack)
        × IsZipped qs back.board.keys.hand.keyboard.seats.items back.owns.items
        back.board.keys.hand.keyboard.keyed.lines.items back.board.keys.hand.keyboard.keyed.ends.items bs
    z = zipped qs back.board.keys.hand.keyboard.seats.items back.owns.items
        back.board.keys.hand.keyboard.keyed.lines.items back.board.keys.hand.keyboard.keyed.ends.items
        seats_back owns_back lines_of ends_of

    abbrev bs : List PartedBack
    bs = z.0

    back_of : AreBackOf bs whole
    back_of = record {
      ports = are.ports ∙ z.1.ports;
      seats = z.1.seats_are;
      lines = z.1.lines_are;
      ends = z.1.ends_are;
      owns = z.1.owns_are;
      castings = are.castings ∙ z.1.castings;
      kept = are.kept ∙ z.1.kept;
    }

    came_back : (p : ℕ) (q : Parted) (b : PartedBack)
        → slice_get qs p ≡ Some q
        → slice_get bs p ≡ Some b
        → CameBack of.session.now of.k p phase.keys keys.went q b
    came_back p q b at_q at_b =
        let port_there : slice_get stage.ports.now p ≡ Some q.port =
        ap (λ l. slice_get l p) g.ports_are
        ∙ column_there (λ (q : Parted). q.port) parts.ports.items qs p q are.ports at_q in
        let casting_there : slice_get stage.castings.now p ≡ Some q.rest.casting =
        ap (λ l. slice_get l p) g.castings_are
        ∙ column_there (λ (q : Parted). q.rest.casting) parts.castings.items qs p q are.castings at_q in
        record {
          port_is = same_there parts.ports.items p b.port q.port
              (column_there (λ (b : PartedBack). b.port) parts.ports.items bs p b back_of.ports at_b)
              (column_there (λ (q : Parted). q.port) parts.ports.items qs p q are.ports at_q);
          rest_is = same_there (map (λ (q : Parted). q.rest) qs) p b.rest q.rest
              (column_there (λ (b : PartedBack). b.rest) (map (λ (q : Parted). q.rest) qs) bs p b z.1.rests at_b)
              (mapped_there (λ (q : Parted). q.rest) qs p q at_q);
          keyed = keys.comes p q.port q.seats b.seats q.line b.line q.end b.end port_there
              (ap (λ (k : Keyboard). slice_get k.seats.items p) keyboard_is
              ∙ column_there (λ (q : Parted). q.seats) parts.keyboard.seats.items qs p q are.seats at_q)
              (column_there (λ (b : PartedBack). b.seats) back.board.keys.hand.keyboard.seats.items
              bs p b z.1.seats_are at_b)
              (ap (λ (k : Keyboard). slice_get k.keyed.lines.items p) keyboard_is
              ∙ column_there (λ (q : Parted). q.line) parts.keyboard.keyed.lines.items qs p q are.lines at_q)
              (column_there (λ (b : PartedBack). b.line) back.board.keys.hand.keyboard.keyed.lines.items
              bs p b z.1.lines_are at_b)
              (ap (λ (k : Keyboard). slice_get k.keyed.ends.items p) keyboard_is
              ∙ column_there (λ (q : Parted). q.end) parts.keyboard.keyed.ends.items qs p q are.ends at_q)
              (column_there (λ (b : PartedBack). b.end) back.board.keys.hand.keyboard.keyed.ends.items
              bs p b z.1.ends_are at_b);
          own = subst (λ (x : List Script). OwnCame q.port q.own (plain_cast x q.rest.casting.cast.items) b.own)
              g.scripts_are
              (comes.owns.each p q.own b.own
              (column_there (λ (q : Parted). q.own) parts.owns.items qs p q are.owns at_q)
              (column_there (λ (b : PartedBack). b.own) back.owns.items bs p b z.1.owns_are at_b)
              q.port q.rest.casting port_there casting_there);
        }

    all_came : AllCame of.session.now of.k phase.keys keys.went qs whole
    all_came = record { bs = bs; back = back_of; count = z.1.count; each = came_back }

    seats_in : Places (HasOperated stage) back.board.seats.items
        → SeatsPlayed of.names.now phase of.first keys.went board left.seats.items
    seats_in operated =
        subst (λ (n : List (List ℕ)). SeatsPlayed n phase of.first keys.went board left.seats.items) g.names_are
        (subst (λ (n : ℕ). SeatsPlayed stage.names.now phase n keys.went board left.seats.items) g.first_is
        (subst (λ (b : SharedBoard). SeatsPlayed stage.names.now phase stage.first keys.went b left.seats.items)
        g.board_is
        (seats_played stage hand back.board comes.board number
        fresh left.seats.items seats_are stage_seats operated keys)))

    played_all : Places (HasOperated stage) back.board.seats.items → PhasePlayed of board qs left
    played_all operated = record {
      phase = phase;
      at = g.phase_is;
      went = keys.went;
      seats = seats_in operated;
      came = subst (AllCame of.session.now of.k phase.keys keys.went qs) (sym all_is) all_came;
    }

  -- ---- the board

  begun_in : (x : PlainVtPhase)
      → slice_get (vt_session_of of.session.now).phases of.k ≡ Some x
      → EachSeat (HasBegun of.names.now x board) left.seats.items
  begun_in x at =
      subst (λ (y : PlainVtPhase). EachSeat (HasBegun of.names.now y board) left.seats.items)
      (same_there (vt_session_of of.session.now).phases of.k phase x g.phase_is at)
      (subst (λ (n : List (List ℕ)). EachSeat (HasBegun n phase board) left.seats.items) g.names_are
      (subst (λ (b : SharedBoard). EachSeat (HasBegun stage.names.now phase b) left.seats.items) g.board_is
      (all_begun stage hand back.board comes.board number fresh left.seats.items seats_are)))

  denied_in : (x : PlainVtPhase)
      → slice_get (vt_session_of of.session.now).phases of.k ≡ Some x
      → IfErr left.made (SomeDenied board of.names.now x left.seats.items)
  denied_in x at =
      subst (λ (r : Result (Unit {0}) Denied). IfErr r (SomeDenied board of.names.now x left.seats.items)) (sym made_is)
      (subst (λ (y : PlainVtPhase). IfErr told (SomeDenied board of.names.now y left.seats.items))
      (same_there (vt_session_of of.session.now).phases of.k phase x g.phase_is at)
      (subst (λ (n : List (List ℕ)). IfErr told (SomeDenied board n phase left.seats.items)) g.names_are
      (subst (λ (b : SharedBoard). IfErr told (SomeDenied b stage.names.now phase left.seats.items)) g.board_is
      (some_denied stage hand back.board comes.board number fresh left.seats.items seats_are))))
    where
      told : Result (Unit {0}) Denied
      told = first_denied back.board.operated back.board.keys.result

  pub phase_leaves : PhaseLeaves of board parts left
  phase_leaves = record {
    here = subst (λ (b : SharedBoard). EachSeat (λ s. IsHere b (number_of s) s) left.seats.items) g.board_is
        (all_here stage hand back.board comes.board number fresh left.seats.items seats_are);
    all = subst (λ (b : SharedBoard). HasAll (seats_of b) left.seats.items) g.board_is
        (has_all stage hand back.board comes.board number fresh left.seats.items seats_are stage_seats);
    played = subst (λ (r : Result (Unit {0}) Denied).
        OnOk r ((qs : List Parted) → ArePartsOf qs parts → PhasePlayed of board qs left))
        (sym made_is)
        (ok_both back.board.operated back.board.keys.result (Places (HasOperated stage) back.board.seats.items)
        (PlaysKeys stage hand.keys back.board.keys.hand)
        ((qs : List Parted) → ArePartsOf qs parts → PhasePlayed of board qs left)
        comes.board.operated comes.board.keys.ok (λ operated keys qs are. played_all keys qs are operated));
    begun = begun_in;
    denied = denied_in;
  }
