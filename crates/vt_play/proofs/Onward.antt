-- A session of consoles from one phase to the next.
use Rattle.std.proofs.Common.{◌≡◌, ℕ, zero, suc, add-one, ◌+◌, ◌≤◌, List, []}
use Rattle.std.proofs.Common.{◌∷◌, ◌++◌, Some, drop, length}
use Rattle.std.proofs.Common.{take, refl, sym, subst, ap, ◌∙◌, arith, length-append, append-nil}
use Rattle.std.specs.Prelude.{slice_get}
use Rattle.std.proofs.lemmas.Grind.{flat_map-append}
use Rattle.std.proofs.lemmas.Option.{slice_get_within}
use Rattle.tty_base.specs.Sizes.{MOST_ENTRIES}
use Rattle.tty_calls.specs.Sessions.{PlainSession}
use Rattle.play_base.specs.declared.stations.Station.{Station}
use Rattle.many_threads.specs.InPlay.{WerePlayedBefore}
use Rattle.many_threads.specs.declared.shared_phase.PhaseEnd.{PhaseEnd}
use Rattle.many_threads.specs.declared.shared_phase.PhaseEnd.TheVariants.{Over, Full}
use Rattle.many_threads.proofs.Onward.{can_end}
use Rattle.vt_consoles.specs.declared.entries.VtEntry.{VtEntry}
use Rattle.vt_consoles.specs.declared.shared.SharedBoard.{SharedBoard}
use Rattle.vt_consoles.specs.declared.kept_board.BoardName.{BoardName}
use Rattle.vt_consoles.specs.Boards.{BoardState, IsBoard}
use Rattle.vt_consoles.specs.Histories.{name_of}
use Rattle.vt_consoles.specs.Seats.{BoardSeat}
use Rattle.vt_consoles.specs.Shared.{name_of_board, opening_board}
use Rattle.vt_text.specs.Sessions.{PlainVtPhase, PlainVtSession, vt_session_of}
use Rattle.vt_account.specs.Keyed.{IsWithinKeys, all_keys, console_in, consoles_in, keyed}
use Rattle.vt_account.specs.Seats.{operator_names}
use Rattle.vt_threads.specs.Between.{ConsoleStands}
use Rattle.vt_threads.specs.Parting.{IsPlayedIn}
use Rattle.vt_keyboard.specs.Phases.{AddsPart, HasPartsUpTo, PhaseMade}
use Rattle.vt_threads.specs.declared.consoles.Console.{Console}
use Rattle.vt_threads.specs.declared.parting.PartedBack.{PartedBack}
use Rattle.vt_threads.proofs.FullConsoles.{full_at_end}
use Rattle.vt_threads.proofs.PhaseParts.{adds_part, parts_more, parts_none}
use Rattle.vt_threads.proofs.SameCallers.{keyed_differs, same_length}
use Rattle.vt_play.specs.declared.parts.AllParts.{AllParts}
use Rattle.vt_play.specs.declared.phases.PhaseBack.{PhaseBack}
use Rattle.vt_play.specs.declared.stage.PhaseOf.{PhaseOf}
use Rattle.vt_play.specs.Parts.{AreConsolesBefore, ConsolesArePlayed, ArePlayedIn, CanEndAll, StandAtEnd, kept_in}
use Rattle.vt_play.specs.Phases.{IsBoardBefore, IsStaged, PhasePlayed, asked_below, asked_in}
use Rattle.vt_play.proofs.Counts.{asked_more, made_few}
use Rattle.vt_play.proofs.Listing.{column_length, some_is, there}
use Rattle.vt_play.proofs.Staging.{keys_more}

-- ---- the end of a session

end_stands : (session : PlainVtSession) (p : ℕ) (entries : List VtEntry) (station : Station) (end : PhaseEnd)
    → IsWithinKeys session
    → ConsoleStands (record { port = p; session = keyed session entries }) (length session.phases) station end
    → WerePlayedBefore (record { port = p; session = keyed session entries }) (length (keyed session entries).phases)
    station end
end_stands session p entries station (Over run) within h =
    subst (λ (n : ℕ). WerePlayedBefore (record { port = p; session = keyed session entries }) n station (Over run))
    (sym
    (same_length (keyed session entries) session.calls (keyed_differs session entries within.whole) ∙ within.whole)) h
end_stands session p entries station Full within h =
    full_at_end (record { port = p; session = keyed session entries }) station
    (subst (λ (n : ℕ). ConsoleStands (record { port = p; session = keyed session entries }) n station Full)
    (sym
    (same_length (keyed session entries) session.calls (keyed_differs session entries within.whole) ∙ within.whole)) h)

pub stand_at_end : (session : PlainVtSession) (entries : List VtEntry) (consoles : List Console)
    → IsWithinKeys session
    → AreConsolesBefore session (length session.phases) entries consoles
    → StandAtEnd (keyed session entries) consoles
stand_at_end session entries consoles within before p c at =
    end_stands session p entries c.station c.end within
    (subst (λ (es : List VtEntry).
    ConsoleStands (record { port = p; session = keyed session es }) (length session.phases) c.station c.end)
    (append-nil entries) ((before p c at).stands []))

pub can_end_all : (x : PlainSession) (consoles : List Console) → StandAtEnd x consoles → CanEndAll consoles
can_end_all x consoles stand p c at = can_end (record { port = p; session = x }) c.station c.end (stand p c at)

next_at : (phases : List PlainVtPhase) (k : ℕ) (phase : PlainVtPhase)
    → slice_get phases k ≡ Some phase
    → drop k phases ≡ phase ∷ drop (k + 1) phases
next_at [] k phase at = absurd (cc)
next_at (x ∷ xs) zero phase at = ap (λ (y : PlainVtPhase). y ∷ xs) (some_is x phase at)
next_at (x ∷ xs) (suc k) phase at =
    let e : drop (suc k + 1) (x ∷ xs) ≡ drop (k + 1) xs =
    ap (λ (n : ℕ). drop n (x ∷ xs)) (add-one (suc k)) ∙ ap (λ (n : ℕ). drop n xs) (sym (add-one k)) in
    next_at xs k phase at ∙ ap (λ (l : List PlainVtPhase). phase ∷ l) (sym e)

-- ---- a phase

module _ (of : PhaseOf) (shared : SharedBoard) (seats : List BoardSeat) (consoles : List Console) (parts : AllParts)
    (h : IsStaged of shared seats consoles parts) (back : PhaseBack) (pp : PhasePlayed of shared h.parted.qs back)
    (w : BoardState) (made : PhaseMade of.names.now pp.phase of.first pp.went (opening_board shared) w) where
  abbrev vt : PlainVtSession
  vt = vt_session_of of.session.now

  abbrev old : BoardState
  old = opening_board shared

  made_named : PhaseMade (operator_names vt.phases) pp.phase of.first pp.went old w
  made_named =
      subst (λ (names : List (List ℕ)). PhaseMade names pp.phase of.first pp.went old w) h.phase_of.names_are made

  pub adds : AddsPart vt pp.phase of.first pp.went old w
  adds = adds_part vt pp.phase of.first pp.went old w h.opening.consoles made_named

  came_in : (p : ℕ) (b : PartedBack)
      → slice_get pp.came.bs p ≡ Some b
      → IsPlayedIn of.session.now p of.k old.entries adds.part b
  came_in p b at =
      let inside = slice_get_within pp.came.bs p b at in
      let size = pp.came.count in
      let count = h.parted.count in
      let q = there h.parted.qs p (omega (arith, inside, size)) in
      let c = there consoles p (omega (arith, inside, size, count)) in
      let came = pp.came.each p q.0 b q.1 at in
      record {
        phase = pp.phase;
        went = pp.went;
        c = c.0;
        q = q.0;
        at = pp.at;
        goes = adds.keys_went;
        each_key = pp.seats.each_key;
        before_keys = h.opening.keys;
        before = h.before p c.0 c.1;
        parted = h.parted.each p c.0 q.0 c.1 q.1;
        port_is = came.port_is;
        rest_is = came.rest_is;
        keyed = came.keyed;
        own = came.own;
      }

  pub played_in : ArePlayedIn of.session.now of.k old.entries adds.part back.all
  played_in = record { bs = pp.came.bs; back = pp.came.back; each = came_in }

  pub played_so : ConsolesArePlayed of.session.now of.k back.all
  played_so = record { bs = pp.came.bs; back = pp.came.back; each = λ p b at. (old.entries, adds.part, came_in p b at) }

  pub all_known : length back.all.kept.items ≡ vt.calls.ports
  all_known =
      column_length (λ (b : PartedBack). kept_in b.rest) back.all.kept.items pp.came.bs pp.came.back.kept
      ∙ (pp.came.count ∙ (h.parted.count ∙ h.of_all))

  -- ---- the board before the next phase

  keys_next : length (consoles_in w.entries) ≡ length (all_keys (take (of.k + 1) vt.phases))
  keys_next =
      let e = ap (λ (l : List VtEntry). length (consoles_in l)) adds.added in
      let f : length (consoles_in (old.entries ++ adds.part))
      ≡ length (consoles_in old.entries ++ consoles_in adds.part) =
      ap (λ (l : List ℕ). length l) (flat_map-append (λ (e : VtEntry). console_in e.event) old.entries adds.part) in
      let s = length-append (consoles_in old.entries) (consoles_in adds.part) in
      let went = ap (λ (l : List ℕ). length l) adds.keys_went in
      let each = pp.seats.each_key in
      let was = h.opening.keys in
      let more = keys_more vt.phases of.k pp.phase pp.at in
      omega (arith, e, f, s, went, each, was, more)

  first_next : length (all_keys (take (of.k + 1) vt.phases)) ≡ of.first + length pp.phase.keys
  first_next =
      let more = keys_more vt.phases of.k pp.phase pp.at in let is = h.opening.first_is in omega (arith, more, is)

  counted_next : length w.entries ≤ asked_in vt (take (of.k + 1) vt.phases)
  counted_next =
      let few = made_few (operator_names vt.phases) pp.phase of.first pp.went old w made_named in
      let was = h.opening.counted in
      let more = asked_more vt vt.phases of.k pp.phase pp.at in
      let same = ap
      (λ (n : ℕ). asked_below (operator_names vt.phases) n pp.phase (length (operator_names vt.phases) + 1))
      h.opening.consoles in
      omega (arith, few, was, more, same)

  pub board_next : (first : ℕ)
      → first ≡ length (all_keys (take (of.k + 1) vt.phases))
      → IsBoard w
      → name_of w ≡ name_of_board shared
      → IsBoardBefore vt (of.k + 1) first w
  board_next first is board name = record {
    board = board;
    consoles = ap (λ (n : BoardName). n.consoles) name ∙ h.opening.consoles;
    limit = ap (λ (n : BoardName). n.limit) name ∙ h.opening.limit;
    first_is = is;
    keys = keys_next;
    parts = subst (λ (n : ℕ). HasPartsUpTo vt (of.k + 1) n w.entries) (sym (is ∙ first_next))
        (subst (λ (l : List VtEntry). HasPartsUpTo vt (of.k + 1) (of.first + length pp.phase.keys) l) (sym adds.added)
        (parts_more vt of.k of.first pp.phase old.entries adds.part (next_at vt.phases of.k pp.phase pp.at)
        h.opening.parts adds.is_part));
    counted = counted_next;
  }

-- ---- the beginning of a session

board_new : (session : PlainVtSession)
    → IsWithinKeys session
    → IsBoard (record { consoles = session.calls.ports; limit = MOST_ENTRIES; entries = [] })
board_new session within = record {
  some = within.calls.some_ports;
  few = within.calls.few_ports;
  run = tt;
  within = omega arith;
  most = omega arith;
}

pub board_first : (session : PlainVtSession) (b : BoardState)
    → IsWithinKeys session
    → b ≡ record { consoles = session.calls.ports; limit = MOST_ENTRIES; entries = [] }
    → IsBoardBefore session 0 0 b
board_first session b within is =
    subst (IsBoardBefore session 0 0) (sym is)
    (record {
      board = board_new session within;
      consoles = refl;
      limit = refl;
      first_is = refl;
      keys = refl;
      parts = parts_none session;
      counted = omega arith;
    })
