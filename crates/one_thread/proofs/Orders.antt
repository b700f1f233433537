-- What is played in whatever order, and what keeps the order of one thread: a journal in it stays in it by each turn
-- by rank.
use Rattle.std.proofs.Common.{◌++◌, ℕ, List, [], ◌∷◌, sym, ◌∙◌, subst}
use Rattle.tty_base.specs.declared.characters.Flagged.{Flagged}
use Rattle.tty_base.specs.declared.lines.LineStep.{LineStep}
use Rattle.word_ring.specs.Ends.{PutterState}
use Rattle.uart_line.specs.LineState.{LineState}
use Rattle.tty_calls.specs.declared.sessions.Script.{Script}
use Rattle.tty_calls.specs.declared.answers.Denied.{Denied}
use Rattle.tty_calls.specs.declared.answers.Denied.TheVariants.{NoMemory, Full}
use Rattle.tty_calls.specs.Plain.{PlainCall, PlainEntry}
use Rattle.port_core.specs.Ports.{PortValue}
use Rattle.legal_runs.specs.Order.{first_place, AreInTurn, IsInTurn, is_of_consoles}
use Rattle.play_base.specs.Roles.{Scene}
use Rattle.play_base.specs.Scenes.{place_of, HasAnyOrder, HasOneOrder}
use Rattle.one_thread.specs.Stages.{IsAfterLineIn}
use Rattle.play_base.specs.Beginning.{IsAtPhaseIn}
use Rattle.one_thread.specs.Lines.{PlaysLineIn, PlaysLine, StopsLineIn, StopsLine}
use Rattle.one_thread.specs.Turns.{role_numbers, who_of, IsTurn, IsNextCall, PlaysIn, Plays, PlaysOn, TakesTurn}
use Rattle.one_thread.specs.Acts.{BeginsLine, BeginsInOrder, PlaysItsLine, StopsItsLine, InTurn, InOrder}
use Rattle.one_thread.specs.Acts.{PlaysTurn, InCall, PlaysCall, HasNoCall, InLast, PlaysLast, PlayingIn}
use Rattle.play_base.specs.declared.roles.Role.{Role}
use Rattle.one_thread.specs.declared.after_line.Stand.{Stand}
use Rattle.one_thread.specs.declared.after_line.Turn.{Turn}
use Rattle.one_thread.specs.declared.after_line.Turn.TheVariants as turn
use Rattle.legal_runs.proofs.Places.{turns_more}
use Rattle.one_thread.proofs.Possible.{by_rank}
use Rattle.one_thread.proofs.Entries.{by_turn}
use Rattle.play_base.proofs.OrderLemmas.{scene_in, order_goes_on}

-- ---- the same in another order

pub at_phase_in : {A : Scene → List PlainEntry → Type 0} (B : Scene → List PlainEntry → Type 0) (s : Scene) (k : ℕ)
    (v : PortValue) (putter : PutterState Flagged) (line : LineState) (run : ℕ)
    → IsAtPhaseIn A s k v putter line run
    → B s v.journal
    → IsAtPhaseIn B s k v putter line run
at_phase_in B s k v putter line run h turns =
    record {
      of_scene = scene_in B s v h.of_scene turns;
      phase = h.phase;
      line_over = h.line_over;
      clock_over = h.clock_over;
      callers = h.callers;
      begins_run = h.begins_run;
      rest = h.rest;
      cuts = h.cuts;
      some_room = h.some_room;
      sent = h.sent;
      has_put = h.has_put;
      most = h.most;
    }

pub after_line_in : {A : Scene → List PlainEntry → Type 0} (B : Scene → List PlainEntry → Type 0) (s : Scene)
    (v : PortValue) (run : ℕ)
    → IsAfterLineIn A s v run
    → B s v.journal
    → IsAfterLineIn B s v run
after_line_in B s v run h turns =
    record {
      of_scene = scene_in B s v h.of_scene turns;
      within = h.within;
      line = h.line;
      clock = h.clock;
      callers = h.callers;
      begins_run = h.begins_run;
      no_part = h.no_part;
      no_flush = h.no_flush;
    }

pub plays_in : {A : Scene → List PlainEntry → Type 0} (B : Scene → List PlainEntry → Type 0) (s : Scene)
    (scripts : List Script) (roles : List Role) (v : PortValue) (stand : Stand)
    → PlaysIn A s scripts roles v stand
    → B s v.journal
    → PlaysIn B s scripts roles v stand
plays_in B s scripts roles v stand h turns =
    record {
      of_scene = scene_in B s v h.of_scene turns;
      run = h.run;
      within = h.within;
      line = h.line;
      clock = h.clock;
      runs = h.runs;
      callers = h.callers;
      settled = h.settled;
    }

pub playing_in : {A : Scene → List PlainEntry → Type 0} (B : Scene → List PlainEntry → Type 0) (s : Scene)
    (scripts : List Script) (roles : List Role) (start v : PortValue) (ticks : ℕ) (stand : Stand)
    → PlayingIn A s scripts roles start v ticks stand
    → B s v.journal
    → PlayingIn B s scripts roles start v ticks stand
playing_in B s scripts roles start v ticks stand h turns =
    record {
      plays = plays_in B s scripts roles v stand h.plays turns;
      part = h.part;
      added = h.added;
      leads = h.leads;
      inside = h.inside;
      phase = h.phase;
      sent = h.sent;
      tick = h.tick;
      ring = h.ring;
    }

-- ---- the line of a phase

line_ordered : (s : Scene) (k : ℕ) (old new : PortValue) (now : PutterState Flagged) (line played : LineState) (run : ℕ)
    → HasOneOrder s old.journal
    → PlaysLineIn HasAnyOrder s k old new now line played run
    → PlaysLine s k old new now line played run
line_ordered s k old new now line played run turns h =
    record {
      after_line = after_line_in HasOneOrder s new run h.after_line
          (order_goes_on s old.journal new.journal (h.flushes ++ h.last ∷ []) h.added turns h.in_turn);
      phase = h.phase;
      flushes = h.flushes;
      last = h.last;
      added = h.added;
      leads = h.leads;
      in_turn = h.in_turn;
      inside = h.inside;
      no_end = h.no_end;
      kept = h.kept;
      ends = h.ends;
      tick = h.tick;
      sent = h.sent;
      has_put = h.has_put;
      ring = h.ring;
      capacity = h.capacity;
      most = h.most;
      overruns = h.overruns;
      more_overruns = h.more_overruns;
      seen = h.seen;
    }

stop_ordered : (d : Denied) (s : Scene) (k : ℕ) (old new : PortValue) (now : PutterState Flagged) (played : LineState)
    → HasOneOrder s old.journal
    → StopsLineIn HasAnyOrder d s k old new now played
    → StopsLine d s k old new now played
stop_ordered NoMemory s k old new now played turns h = tt
stop_ordered Full s k old new now played turns h =
    record {
      of_scene = scene_in HasOneOrder s new h.of_scene
          (order_goes_on s old.journal new.journal h.part h.added turns h.in_turn);
      part = h.part;
      added = h.added;
      leads = h.leads;
      in_turn = h.in_turn;
      inside = h.inside;
      no_end = h.no_end;
      line_over = h.line_over;
      kept = h.kept;
      tick = h.tick;
      full = h.full;
      ring = h.ring;
      capacity = h.capacity;
      steps = h.steps;
      left = h.left;
      script = h.script;
      has_put = h.has_put;
    }

abbrev pub any_line : (steps : List LineStep) (v : PortValue) (putter : PutterState Flagged) (line : LineState)
    (run : ℕ)
    → BeginsInOrder steps v putter line run
    → BeginsLine steps v putter line run
any_line steps v putter line run h =
    record {
      scene = h.scene;
      begins = at_phase_in HasAnyOrder h.scene v.terminal.phase v putter line run h.begins tt;
      within = h.within;
      steps_are = h.steps_are;
    }

pub plays_its_line : (steps : List LineStep) (old new : PortValue) (putter now : PutterState Flagged)
    (line played : LineState) (run next : ℕ)
    → ((h : BeginsLine steps old putter line run)
    → PlaysLineIn HasAnyOrder h.scene old.terminal.phase old new now line played next)
    → PlaysItsLine steps old new putter now line played run next
plays_its_line steps old new putter now line played run next each =
    record {
      each = each;
      in_order = λ h. line_ordered h.scene old.terminal.phase old new now line played next h.begins.of_scene.turns
          (each (any_line steps old putter line run h));
    }

pub stops_its_line : (d : Denied) (steps : List LineStep) (old new : PortValue) (putter now : PutterState Flagged)
    (line played : LineState) (run : ℕ)
    → ((h : BeginsLine steps old putter line run)
    → StopsLineIn HasAnyOrder d h.scene old.terminal.phase old new now played)
    → StopsItsLine d steps old new putter now line played run
stops_its_line d steps old new putter now line played run each =
    record {
      each = each;
      in_order = λ h. stop_ordered d h.scene old.terminal.phase old new now played h.begins.of_scene.turns
          (each (any_line steps old putter line run h));
    }

-- ---- a turn after it

pub plays_any : (s : Scene) (scripts : List Script) (roles : List Role) (v : PortValue) (stand : Stand)
    → Plays s scripts roles v stand
    → PlaysIn HasAnyOrder s scripts roles v stand
plays_any s scripts roles v stand plays = plays_in HasAnyOrder s scripts roles v stand plays tt

ordered : (s : Scene) (scripts : List Script) (roles : List Role) (v w : PortValue) (stand now : Stand) (next : Turn)
    → Plays s scripts roles v stand
    → IsTurn (is_of_consoles s.session) v (role_numbers roles) stand.going next
    → TakesTurn s scripts roles v w stand now next
    → PlaysOn s scripts roles v w stand now
ordered s scripts roles v w stand now next plays is takes =
    let adds = takes.on.adds in
    let in_turn : IsInTurn s.port s.session (place_of s v.journal) adds.entry =
    record {
      by_turn = takes.who ∙ by_turn s scripts roles v stand (who_of (role_numbers roles) next) plays is.who;
      piece = adds.piece;
    } in
    let turns : HasOneOrder s w.journal =
    subst (λ (j : List PlainEntry). AreInTurn s.port s.session (first_place s.port s.session) j) (sym adds.added)
    (turns_more s.port s.session (first_place s.port s.session) v.journal adds.entry plays.of_scene.turns in_turn) in
    record {
      plays = plays_in HasOneOrder s scripts roles w now takes.on.plays turns;
      adds = adds;
      ticks = takes.on.ticks;
    }

-- a turn by rank can be taken
abbrev pub any_turn : (roles : List Role) (v : PortValue) (stand : Stand) (next : Turn)
    → InOrder roles v stand next
    → InTurn roles v stand next
any_turn roles v stand next h =
    record {
      scene = h.scene;
      scripts = h.scripts;
      plays = plays_any h.scene h.scripts roles v stand h.plays;
      possible = by_rank (is_of_consoles h.scene.session) v (role_numbers roles) stand.going next h.is_turn;
    }

abbrev pub any_call : (roles : List Role) (v : PortValue) (stand : Stand) (place : ℕ) (call : PlainCall)
    (h : InOrder roles v stand (turn.Call place))
    → IsNextCall h.scripts roles v place call
    → InCall roles v stand place call
any_call roles v stand place call h next = record { in_turn = any_turn roles v stand (turn.Call place) h; next = next }

abbrev pub any_last : (roles : List Role) (v : PortValue) (stand : Stand) (place : ℕ)
    (h : InOrder roles v stand (turn.Call place))
    → HasNoCall h.scripts roles v place
    → InLast roles v stand place
any_last roles v stand place h none = record { in_turn = any_turn roles v stand (turn.Call place) h; none = none }

pub plays_turn : (roles : List Role) (old new : PortValue) (before now : Stand) (next : Turn)
    → ((h : InTurn roles old before next) → TakesTurn h.scene h.scripts roles old new before now next)
    → PlaysTurn roles old new before now next
plays_turn roles old new before now next each =
    record {
      each = each;
      in_order = λ h. ordered h.scene h.scripts roles old new before now next h.plays h.is_turn
          (each (any_turn roles old before next h));
    }

pub plays_call : (roles : List Role) (old new : PortValue) (before now : Stand) (place : ℕ) (call : PlainCall)
    → ((h : InCall roles old before place call)
    → TakesTurn h.in_turn.scene h.in_turn.scripts roles old new before now (turn.Call place))
    → PlaysCall roles old new before now place call
plays_call roles old new before now place call each =
    record {
      each = each;
      in_order = λ h next. ordered h.scene h.scripts roles old new before now (turn.Call place) h.plays h.is_turn
          (each (any_call roles old before place call h next));
    }

pub plays_last : (roles : List Role) (old new : PortValue) (before now : Stand) (place : ℕ)
    → ((h : InLast roles old before place)
    → TakesTurn h.in_turn.scene h.in_turn.scripts roles old new before now (turn.Call place))
    → PlaysLast roles old new before now place
plays_last roles old new before now place each =
    record {
      each = each;
      in_order = λ h none. ordered h.scene h.scripts roles old new before now (turn.Call place) h.plays h.is_turn
          (each (any_last roles old before place h none));
    }
