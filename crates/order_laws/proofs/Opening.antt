-- A port that was opened for a session is opened for each like it.
use Rattle.std.proofs.Common.{◌≡◌, ◌≤◌, ◌+◌, ℕ, List, [], ◌∷◌, map}
use Rattle.std.proofs.Common.{fold, inl, inr, refl, sym, ◌∙◌, ap, subst, arith}
use Rattle.tty_base.specs.declared.characters.Flagged.{Flagged}
use Rattle.tty_base.specs.declared.lines.LineStep.{LineStep}
use Rattle.tty_base.specs.declared.lines.Overrun.{Overrun}
use Rattle.tty_base.specs.Lines.{arrival_count}
use Rattle.uart_line.specs.LineState.{HasDone}
use Rattle.uart_line.specs.Received.{received_list, script}
use Rattle.uart_line.specs.Offered.{HandsOver}
use Rattle.uart_line.proofs.OfferedLemmas.{HandsOver-adds}
use Rattle.tty_calls.specs.Plain.{PlainEntry}
use Rattle.tty_calls.specs.Limits.{character_count}
use Rattle.tty_calls.specs.Sessions.{PlainPhase, PlainSession, line_on}
use Rattle.legal_runs.specs.Legal.{script_of_first}
use Rattle.legal_runs.proofs.LineLemmas.{received_none}
use Rattle.legal_runs.specs.Order.{AreInTurn, first_place}
use Rattle.play_base.specs.Roles.{Scene}
use Rattle.play_base.specs.Scenes.{caller_at_rest, place_of}
use Rattle.play_base.specs.Beginning.{IsAtPhase}
use Rattle.play_base.specs.Phases.{IsUpTo, HavePlayedInOrder, IsBeforePhase}
use Rattle.play_base.specs.declared.stations.Station.{Station}
use Rattle.play_base.proofs.PortLemmas.{first_none, nothing_played}
use Rattle.order_laws.specs.Agreed.{Agrees, IsBeforeEach}
use Rattle.order_laws.proofs.Shapes.{counts_same}

count_from : (p a : ℕ) (phases : List PlainPhase)
    → fold (λ (n : ℕ) (phase : PlainPhase). n + arrival_count (line_on p phase)) a phases
    ≡ fold (λ (n : ℕ) (line : List LineStep). n + arrival_count line) a (map (line_on p) phases)
count_from p a [] = refl
count_from p a (x ∷ xs) = count_from p (a + arrival_count (line_on p x)) xs

count_same : (p : ℕ) (phases later : List PlainPhase)
    → map (line_on p) later ≡ map (line_on p) phases
    → character_count p later ≡ character_count p phases
count_same p phases later same =
    count_from p 0 later
    ∙ (ap (λ (lines : List (List LineStep)). fold (λ (n : ℕ) (line : List LineStep). n + arrival_count line) 0 lines)
    same
    ∙ sym (count_from p 0 phases))

no_script : (p : ℕ) (session : PlainSession) → script_of_first p session 0 ≡ []
unfolding script
no_script p session = refl

nothing_yet : (journal : List PlainEntry) → IsUpTo 0 journal → journal ≡ []
nothing_yet journal (inl h) = h.1
nothing_yet journal (inr h) = let count = h.2.count in absurd (omega arith)

no_overruns : (capacity : ℕ) (all sent : List Flagged) (heads : List ℕ) (overruns : List Overrun)
    → all ≡ []
    → HandsOver capacity [] all [] sent [] heads [] overruns
    → overruns ≡ []
no_overruns capacity all sent heads overruns none h =
    (HandsOver-adds capacity [] [] [] sent [] heads [] overruns
    (subst (λ (cs : List Flagged). HandsOver capacity [] cs [] sent [] heads [] overruns) none h) (omega arith)).1

pub opened_each : (first : Scene) (station : Station)
    → IsBeforePhase first 0 station 0
    → IsBeforeEach first station.port station.putter station.line 0
opened_each first station h =
    let p = first.port in
    let v = station.port in
    let putter = station.putter in
    let line = station.line in
    let a = h.at_phase in
    let put = a.has_put in
    let empty : v.journal ≡ [] = nothing_yet v.journal h.played.played.up_to in
    let none : line.report.overruns.items ≡ [] =
    no_overruns v.flip.capacity (received_list (script_of_first p first.session 0)) putter.sent putter.heads
    line.report.overruns.items (ap received_list (no_script p first.session) ∙ received_none) put.hands_over in
    record {
      each = λ s like agrees.
          let session = s.session in
          let z : Scene = record { port = p; session = session } in
          let same : s ≡ z = λ i. record { port = like.port i; session = session } in
          let agreed : Agrees z v = subst (λ (x : Scene). Agrees x v) same agrees in
          let same_script : script_of_first p first.session 0 ≡ script_of_first p session 0 =
          no_script p first.session ∙ sym (no_script p session) in
          let at : IsAtPhase z 0 v putter line 0 =
          record {
            of_scene = record {
              counts = a.of_scene.counts ∙ sym (counts_same p first.session session like.shape);
              capacity = a.of_scene.capacity ∙ sym like.shape.flip;
              limit = a.of_scene.limit;
              known = agreed.known;
              in_phases = agreed.in_phases;
              turns = subst (λ (es : List PlainEntry). AreInTurn p session (first_place p session) es) (sym empty) tt;
            };
            phase = a.phase;
            line_over = a.line_over;
            clock_over = a.clock_over;
            callers = λ c.
                a.callers c ∙ ap caller_at_rest (first_none p first.session c ∙ sym (first_none p session c));
            begins_run = a.begins_run;
            rest = a.rest;
            cuts = ap (λ (es : List PlainEntry). (place_of z es).cuts) empty;
            some_room = a.some_room;
            sent = a.sent;
            has_put = record {
              ring = put.ring;
              capacity = put.capacity;
              done = subst (HasDone line) same_script put.done;
              hands_over = subst (λ (steps : List LineStep). HandsOver v.flip.capacity [] (received_list steps)
                  [] putter.sent [] putter.heads [] line.report.overruns.items) same_script put.hands_over;
              room = put.room;
            };
            most = subst (λ (n : ℕ). n ≤ line.most)
                (sym (count_same p first.session.phases session.phases like.shape.lines)) a.most;
          } in
          let played : HavePlayedInOrder z 0 v.journal line.report.overruns.items =
          subst (λ (es : List PlainEntry). HavePlayedInOrder z 0 es line.report.overruns.items) (sym empty)
          (subst (λ (os : List Overrun). HavePlayedInOrder z 0 [] os) (sym none) (nothing_played z)) in (
            subst (λ (x : Scene). IsAtPhase x v.terminal.phase v putter line 0) (sym same)
                (subst (λ (k : ℕ). IsAtPhase z k v putter line 0) (sym a.phase) at),
            subst (λ (x : Scene). HavePlayedInOrder x v.terminal.phase v.journal line.report.overruns.items) (sym same)
                (subst (λ (k : ℕ). HavePlayedInOrder z k v.journal line.report.overruns.items) (sym a.phase) played),
          );
    }
