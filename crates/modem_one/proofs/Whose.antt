-- Whose turn it is, in each session that is found to be played.
use Rattle.std.proofs.Common.{◌≡◌, ℕ, Bool, true, false, not, ◌&&◌, ◌||◌, List, [], ◌∷◌, Option, None, Some}
use Rattle.std.proofs.Common.{length, if◌then◌else◌, refl, sym, ap, ◌∙◌}
use Rattle.std.specs.Prelude.{slice_index, nat_le, MatchOption}
use Rattle.std.proofs.lemmas.Bool.{false≢true, lt-leb}
use Rattle.tty_calls.specs.declared.sessions.Script.{Script}
use Rattle.tty_calls.specs.declared.journals.Who.{Who}
use Rattle.tty_calls.specs.declared.journals.Who.TheVariants.{Caller, Flusher, Clock}
use Rattle.tty_calls.specs.Plain.{PlainCall, PlainEvent, answered, parted, waited, flushed, ticked, line_ended}
use Rattle.tty_calls.specs.Plain.{clock_ended, caller_ended, phase_ended, hung_up, PlainEntry}
use Rattle.tty_calls.specs.Sessions.{PlainSession, call_at, counts_on}
use Rattle.tty_terminal.specs.Terminals.{Terminal, caller_at}
use Rattle.tty_terminal.specs.Calls.{outcome_of}
use Rattle.tty_terminal.specs.Steps.{nothing_to_flush, is_wait}
use Rattle.tty_terminal.proofs.WaitLaws.{run_waits}
use Rattle.port_core.specs.Ports.{PortValue, call_in}
use Rattle.legal_runs.specs.Order.{must_wait, is_waiting, turn as whose_turn, turn_after, turn_after_event}
use Rattle.play_base.specs.Roles.{Scene}
use Rattle.play_base.specs.Scenes.{HasAnyOrder}
use Rattle.one_thread.specs.Turns.{role_numbers, turn_with, IsKeptCall, PlaysIn}
use Rattle.play_base.specs.declared.roles.Role.{Role}
use Rattle.one_thread.specs.declared.after_line.Stand.{Stand}
use Rattle.one_thread.proofs.Entries.{place_is}
use Rattle.passed_calls.specs.Journals.{Journal}
use Rattle.order_laws.specs.Later.{IsLater}
use Rattle.order_laws.specs.Witness.{scene_on}
use Rattle.modem_text.specs.Sessions.{ModemCall, ModemSession}
use Rattle.modem_lines.specs.Lines.{Lines}
use Rattle.modem_steps.specs.Derived.{carrier_on}
use Rattle.modem_steps.specs.Steps.{next_call, callers_in, waits_for_carrier}
use Rattle.modem_steps.specs.Order.{Turn, goes_on, goes_on_with, can_go_on, turn_of_others, turn_by_rank}
use Rattle.modem_steps.specs.Order.{after_part, after_part_of, modem_turn}
use Rattle.modem_one.specs.declared.turns.Next.{Next}
use Rattle.modem_one.specs.Desk.{DeskState, state_at}
use Rattle.modem_one.specs.Later.{port_with}
use Rattle.modem_one.specs.Turns.{port_now, whose, IsNextTurn}
use Rattle.modem_one.proofs.Ranks.{first_same}
use Rattle.modem_one.proofs.Ordering.{here}

-- ---- a write that goes on

none_event : (event : PlainEvent) (who : Who) (other : Turn)
    → ((w : Who) → turn_after_event event who w ≡ w)
    → after_part_of event who other ≡ other
none_event (answered a dropped) who other h = refl
none_event (parted n) who other h = let e = sym (h Flusher) ∙ h Clock in absurd (cc)
none_event waited who other h = refl
none_event (flushed chars) who other h = refl
none_event ticked who other h = refl
none_event (line_ended n) who other h = refl
none_event clock_ended who other h = refl
none_event caller_ended who other h = refl
none_event phase_ended who other h = refl
none_event (hung_up dropped) who other h = refl

some_event : (event : PlainEvent) (who going : Who) (other : Turn)
    → ((w : Who) → turn_after_event event who w ≡ going)
    → after_part_of event who other ≡ goes_on going
some_event (answered a dropped) who going other h = let e = h Flusher ∙ sym (h Clock) in absurd (cc)
some_event (parted n) who going other h = ap goes_on (h Flusher)
some_event waited who going other h = let e = h Flusher ∙ sym (h Clock) in absurd (cc)
some_event (flushed chars) who going other h = let e = h Flusher ∙ sym (h Clock) in absurd (cc)
some_event ticked who going other h = let e = h Flusher ∙ sym (h Clock) in absurd (cc)
some_event (line_ended n) who going other h = let e = h Flusher ∙ sym (h Clock) in absurd (cc)
some_event clock_ended who going other h = let e = h Flusher ∙ sym (h Clock) in absurd (cc)
some_event caller_ended who going other h = let e = h Flusher ∙ sym (h Clock) in absurd (cc)
some_event phase_ended who going other h = let e = h Flusher ∙ sym (h Clock) in absurd (cc)
some_event (hung_up dropped) who going other h = let e = h Flusher ∙ sym (h Clock) in absurd (cc)

none_goes : (before : Option PlainEntry) (other : Turn)
    → ((w : Who) → turn_after before w ≡ w)
    → after_part before other ≡ other
none_goes None other h = refl
none_goes (Some e) other h = none_event e.event e.who other h

one_goes : (before : Option PlainEntry) (going : Who) (other : Turn)
    → ((w : Who) → turn_after before w ≡ going)
    → after_part before other ≡ goes_on going
one_goes None going other h = let e = h Flusher ∙ sym (h Clock) in absurd (cc)
one_goes (Some e) going other h = some_event e.event e.who going other h

-- the turn of the caller whose write goes on, or where none does the one by rank
settled_turn : (numbers : List ℕ) (before : Option PlainEntry) (going : Option ℕ) (turn by_rank : Turn)
    → ((w : Who) → turn_after before w ≡ turn_with numbers going w)
    → MatchOption going (turn ≡ by_rank) (λ i. turn ≡ goes_on (Caller (slice_index numbers i)))
    → after_part before by_rank ≡ turn
settled_turn numbers before None turn by_rank settled is = none_goes before by_rank settled ∙ sym is
settled_turn numbers before (Some i) turn by_rank settled is =
    one_goes before (Caller (slice_index numbers i)) by_rank settled ∙ sym is

third : (a b : Bool) (x y z : Turn) → a ≡ false → b ≡ true → z ≡ (if a || not b then x else z)
third true b x y z e f = absurd (false≢true (sym e))
third false true x y z e f = refl
third false false x y z e f = absurd (false≢true f)

-- ---- whatever the journal comes to

pub waits_kept : (s : Scene) (scripts : List Script) (roles : List Role) (v : PortValue) (stand : Stand)
    → PlaysIn HasAnyOrder s scripts roles v stand
    → (c : ℕ)
    → is_waiting v.terminal c ≡ true
    → IsKeptCall v.kept c (caller_at v.terminal c).next
waits_kept s scripts roles v stand plays c waits =
    plays.callers.kept c
    (run_waits (call_at s.port s.session) (counts_on s.port s.session) _ v.journal v.terminal plays.run c waits)

goes_case : (waits over x y held : Bool)
    → (waits ≡ true → x ≡ y)
    → (not over && (if waits then not x else not held)) ≡ (not over && (if waits then not y else not held))
goes_case false over x y held h = refl
goes_case true over x y held h = ap (λ (z : Bool). not over && not z) (h refl)

pub goes_same : (v : PortValue) (j : Journal) (lines : Lines) (call : Option ModemCall) (c : ℕ)
    → IsLater v j
    → (is_waiting v.terminal c ≡ true → IsKeptCall v.kept c (caller_at v.terminal c).next)
    → goes_on_with lines j.calls v.terminal call c ≡ goes_on_with lines (call_in v.kept) v.terminal call c
goes_same v j lines call c later kept =
    goes_case (is_waiting v.terminal c) (caller_at v.terminal c).over (must_wait j.calls v.terminal c)
    (must_wait (call_in v.kept) v.terminal c) (waits_for_carrier lines v.terminal call)
    (λ waits.
    let k = kept waits in
    ap (λ (o : Option PlainCall). is_wait (outcome_of v.terminal (caller_at v.terminal c) o))
    (later.calls c (caller_at v.terminal c).next k.call k.found ∙ sym k.found))

rank_later : (p : ℕ) (session : ModemSession) (v : PortValue) (d : DeskState) (at : ℕ) (j : Journal)
    → IsLater v j
    → ((c : ℕ) → is_waiting v.terminal c ≡ true → IsKeptCall v.kept c (caller_at v.terminal c).next)
    → turn_by_rank (port_with p session j) (state_at d at []) v.terminal
    ≡ turn_by_rank (port_now p session v) (state_at d 0 []) v.terminal
rank_later p session v d at j later kept =
    let s = state_at d 0 [] in
    let port = port_with p session j in
    ap (λ (t : Turn). if not (nothing_to_flush v.terminal) then goes_on Flusher else t)
    (first_same (can_go_on port s v.terminal) (can_go_on (port_now p session v) s v.terminal)
    (λ c. goes_on (Caller c)) (callers_in port v.terminal.phase)
    (turn_of_others port s v.terminal (callers_in port v.terminal.phase))
    (λ c. goes_same v j d.lines (next_call port s v.terminal c) c later (kept c)))

-- ---- the turn

module _ (first : Scene) (session : ModemSession) (played : PlainSession) (scripts : List Script) (roles : List Role)
    (v : PortValue) (d : DeskState) (stand : Stand)
    (plays : PlaysIn HasAnyOrder (scene_on first.port played) scripts roles v stand) where
  s : Scene
  s = scene_on first.port played

  -- behind the line, by what comes before and the rank
  abbrev ranked : Journal → (at : ℕ) → List ℕ → Turn
  ranked j at due =
      after_part (here first played v).before
      (turn_by_rank (port_with first.port session j) (state_at d at due) (here first played v).terminal)

  abbrev terminal_is : (here first played v).terminal ≡ v.terminal
  terminal_is = place_is (scene_on first.port played) v plays.run

  behind_line : (j : Journal) (at : ℕ) (due : List ℕ)
      → modem_turn played (port_with first.port session j) (state_at d at due) (here first played v)
      ≡ ranked j at due
  behind_line j at due =
      sym (third (nat_le (length played.phases) (here first played v).terminal.phase)
      (here first played v).terminal.line_over
      (goes_on (whose_turn first.port played (here first played v))) (goes_on Flusher) (ranked j at due)
      (ap (λ (t : Terminal). nat_le (length played.phases) t.phase) terminal_is
      ∙ lt-leb (length played.phases) v.terminal.phase plays.within)
      (ap (λ (t : Terminal). t.line_over) terminal_is ∙ plays.line))

  pub turn_now : (next : Next) (at : ℕ) (j : Journal)
      → IsLater v j
      → IsNextTurn first.port session v d roles stand.going next
      → modem_turn played (port_with first.port session j) (state_at d at []) (here first played v)
      ≡ whose (role_numbers roles) next
  turn_now next at j later is =
      behind_line j at []
      ∙ (ap (λ (t : Terminal). after_part (here first played v).before
      (turn_by_rank (port_with first.port session j) (state_at d at []) t)) terminal_is
      ∙ (ap (λ (t : Turn). after_part (here first played v).before t)
      (rank_later first.port session v d at j later (waits_kept (scene_on first.port played) scripts roles v stand
      plays))
      ∙ settled_turn (role_numbers roles) (here first played v).before stand.going
      (whose (role_numbers roles) next)
      (turn_by_rank (port_now first.port session v) (state_at d 0 []) v.terminal) plays.settled is.turn))

  -- the hangup that is due
  pub hangup_now : (at h : ℕ) (j : Journal)
      → stand.going ≡ None
      → modem_turn played (port_with first.port session j) (state_at d at (h ∷ [])) (here first played v)
      ≡ goes_on (Caller (carrier_on first.port session))
  hangup_now at h j none =
      behind_line j at (h ∷ [])
      ∙ none_goes (here first played v).before (goes_on (Caller (carrier_on first.port session)))
      (λ w. plays.settled w ∙ ap (λ (g : Option ℕ). turn_with (role_numbers roles) g w) none)
