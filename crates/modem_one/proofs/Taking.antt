-- The turns of a phase of a port with modem lines, as the player's functions take them.
use Rattle.std.proofs.Common.{◌≡◌, ◌≤◌, ◌<◌, ◌⊎◌, inl, inr, ℕ, ◌+◌, ◌-◌, ◌^◌, zero, suc, Bool, true, false, not, ◌&&◌}
use Rattle.std.proofs.Common.{List, []}
use Rattle.std.proofs.Common.{◌∷◌, ◌++◌, Option, None, Some, length, get_or, if◌then◌else◌, refl, sym, ap, ◌∙◌, subst}
use Rattle.std.proofs.Common.{arith, length-append}
use Rattle.std.specs.Prelude.{MatchOption, ◌==◌, position, slice_get, slice_index, slice_index_or, slice_set}
use Rattle.std.proofs.lemmas.Bool.{false≢true}
use Rattle.std.proofs.lemmas.Option.{get_or_from_slice_get, same_Some}
use Rattle.std.proofs.lemmas.List.{length-set, length-map}
use Rattle.std.proofs.lemmas.List.Quantifiers.{position-Some}
use Rattle.std.specs.Option.{option_to_list}
use Rattle.tty_base.specs.Sizes.{MOST_HANDLES}
use Rattle.handle_table.specs.Handles.{is_live}
use Rattle.live_handles.proofs.HandleNumbers.{are_numbers}
use Rattle.tty_calls.specs.declared.answers.Denied.{Denied}
use Rattle.tty_calls.specs.declared.answers.Denied.TheVariants.{NoMemory, Full}
use Rattle.tty_calls.specs.declared.journals.Who.{Who}
use Rattle.tty_calls.specs.declared.journals.Who.TheVariants.{Caller}
use Rattle.tty_calls.specs.Plain.{PlainCall, hangs_up, PlainAnswer, done, PlainEntry, is_caller}
use Rattle.tty_calls.specs.Sessions.{call_at, counts_on}
use Rattle.tty_terminal.specs.Terminals.{Terminal, caller_at}
use Rattle.tty_terminal.proofs.WaitLaws.{run_waits, run_parts}
use Rattle.port_core.specs.Attempts.{PlainTried, done_by, took_part, must_wait}
use Rattle.port_core.specs.Ports.{PortValue, IsPort, IsOpen, Denies, call_in}
use Rattle.legal_runs.specs.Order.{is_waiting, must_wait as port_waits, can_go_on as port_goes_on}
use Rattle.play_base.specs.Scenes.{HasAnyOrder}
use Rattle.one_thread.specs.Turns.{role_numbers, who_of, IsFree, IsPossible, PlaysIn, PlaysOnIn, TakesTurn}
use Rattle.one_thread.specs.Acts.{AddsEntry, InTurn, InCall, PlaysTurn, TriesCall, PlaysCall}
use Rattle.play_base.specs.declared.roles.Role.{Role}
use Rattle.one_thread.specs.declared.after_line.Stand.{Stand}
use Rattle.one_thread.specs.declared.after_line.Turn.{Turn}
use Rattle.one_thread.specs.declared.after_line.Turn.TheVariants as turn
use Rattle.one_thread.proofs.Calling.{role_number}
use Rattle.passed_calls.specs.Scripts.{plain, further}
use Rattle.order_laws.specs.Begun.{begun_at, begun_with, WereOver}
use Rattle.order_laws.specs.Left.{HasGone}
use Rattle.order_laws.specs.Passed.{begin_of}
use Rattle.order_laws.specs.Witness.{scene_on, IsCallingIn}
use Rattle.order_laws.proofs.Overs.{over_other, over_call}
use Rattle.order_laws.proofs.Possible.{any_in_turn, any_in_call}
use Rattle.order_laws.proofs.Attempted.{makes_as, attempts_as, call_is}
use Rattle.order_laws.proofs.Steps.{step_other, step_rises}
use Rattle.modem_text.specs.Sessions.{ModemCall, PinStep}
use Rattle.modem_text.specs.Events.{pin_set}
use Rattle.modem_text.specs.declared.items.OwnCall.{OwnCall}
use Rattle.modem_lines.specs.Lines.{Lines, loses_carrier}
use Rattle.modem_steps.specs.Derived.{block_phases, carrier_on, call_in_phase}
use Rattle.modem_steps.specs.Steps.{callers_in, next_call, waits_for_carrier, least_live}
use Rattle.modem_one.specs.declared.turns.Next.{Next}
use Rattle.modem_one.specs.declared.turns.Next.TheVariants as next
use Rattle.modem_one.specs.Desk.{DeskState, step_of, answered_passed, controlled, pinned}
use Rattle.modem_one.specs.Desk.{hung_up_through, state_at}
use Rattle.modem_one.specs.Controls.{has_live}
use Rattle.modem_one.specs.Playing.{Frame, call_after, passings_with, hangup_with, step_next, IsNeverHeld}
use Rattle.modem_one.specs.Playing.{IsPlayingModems}
use Rattle.modem_steps.specs.Order.{goes_on, turn_by_rank}
use Rattle.modem_one.specs.Turns.{port_now, whose, IsNextTurn}
use Rattle.modem_one.specs.AfterLine.{IsFrameWithin, IsAtTurn, IsTurnOf, IsNextOf, IsItemOf}
use Rattle.modem_one.specs.AfterLine.{IsHangingUp, Advances, TakesCall, TakesNoCall, TakesItem, TakesHangup}
use Rattle.modem_one.specs.AfterLine.{FillsTurns, StopsTurns}
use Rattle.modem_one.proofs.Possible.{rest_case, may_flush, may_call, may_pass, may_end}
use Rattle.modem_one.proofs.DeskEvents.{notes_own, notes_passed, notes_pin, notes_lost}
use Rattle.order_laws.proofs.Hangups.{is_done}
use Rattle.modem_one.proofs.Ranks.{CallReason, it_can, its_end, in_vain, reason_of, call_reason, same_turn_caller}
use Rattle.modem_one.proofs.Turning.{Tries, turn_each, turn_goes_on, noted_goes_on, call_begins, call_continues}
use Rattle.modem_one.proofs.Turning.{call_waits, call_answered, hangup_begins, hangup_goes_on}
use Rattle.modem_one.proofs.WithinCalls.{call_within}

module _ (f : Frame) (roles : List Role) where
  abbrev p : ℕ
  p = f.first.port

  abbrev carrier : ℕ
  carrier = carrier_on p f.session

  -- a scene that is played
  pub plays_it : (v : PortValue) (d : DeskState) (stand : Stand) (due : List ℕ)
      → (h : IsPlayingModems f roles v d stand due)
      → PlaysIn HasAnyOrder (scene_on p h.playing.has.session) (f.scripts (scene_on p h.playing.has.session)) roles v
      stand
  plays_it v d stand due h =
      (h.playing.each.each (scene_on p h.playing.has.session) h.playing.has.like h.playing.has.agrees).plays

  -- it is the phase behind whose line the player began
  pub phase_is : (v : PortValue) (d : DeskState) (stand : Stand) (due : List ℕ)
      → IsPlayingModems f roles v d stand due
      → v.terminal.phase ≡ f.start.terminal.phase
  phase_is v d stand due h =
      (h.playing.each.each (scene_on p h.playing.has.session) h.playing.has.like h.playing.has.agrees).phase

  pub ring_is : (v : PortValue) (d : DeskState) (stand : Stand) (due : List ℕ)
      → IsPlayingModems f roles v d stand due
      → v.flip.ring ≡ f.start.flip.ring
  ring_is v d stand due h =
      (h.playing.each.each (scene_on p h.playing.has.session) h.playing.has.like h.playing.has.agrees).ring

  test_cases : (b : Bool) → (b ≡ true) ⊎ (b ≡ false)
  test_cases true = inl refl
  test_cases false = inr refl

  -- a caller that has begun no call does not wait
  pub rests_there : (v : PortValue) (d : DeskState) (stand : Stand) (due : List ℕ) (c : ℕ)
      → IsPlayingModems f roles v d stand due
      → begun_at v c ≡ false
      → is_waiting v.terminal c ≡ false
  rests_there v d stand due c h rest =
      let s = scene_on p h.playing.has.session in
      let plays = plays_it v d stand due h in
      elim (test_cases (is_waiting v.terminal c)) [
        | inl waits ↦ absurd (false≢true (sym rest
            ∙ run_waits (call_at s.port s.session) (counts_on s.port s.session) _ v.journal v.terminal plays.run c
            waits))
        | inr no_wait ↦ no_wait
      ]

  -- the roles in the phase that runs
  pub roles_at : (v : PortValue) (d : DeskState) (stand : Stand)
      → IsAtTurn f roles v d stand
      → role_numbers roles ≡ callers_in (port_now p f.session v) v.terminal.phase ++ carrier ∷ []
  roles_at v d stand at =
      at.roles_are
      ∙ ap (λ (k : ℕ). callers_in (port_now p f.session v) k ++ carrier ∷ [])
      (sym (phase_is v d stand [] at.playing))

  pub can_call : (v : PortValue) (d : DeskState) (stand : Stand) (place : ℕ)
      → IsAtTurn f roles v d stand
      → IsTurnOf f roles v d stand (next.Call place)
      → IsPossible v (role_numbers roles) stand.going (turn.Call place)
  can_call v d stand place at is =
      may_call p f.session v d roles (roles_at v d stand at)
      (rests_there v d stand [] carrier at.playing at.playing.carrier_rests) stand.going place is

  pub can_flush : (v : PortValue) (d : DeskState) (stand : Stand)
      → IsAtTurn f roles v d stand
      → IsTurnOf f roles v d stand next.Flush
      → IsPossible v (role_numbers roles) stand.going turn.Flush
  can_flush v d stand at is =
      may_flush p f.session v d roles (roles_at v d stand at)
      (rests_there v d stand [] carrier at.playing at.playing.carrier_rests) stand.going is

  pub can_pass : (v : PortValue) (d : DeskState) (stand : Stand)
      → IsAtTurn f roles v d stand
      → IsTurnOf f roles v d stand next.Pass
      → IsPossible v (role_numbers roles) stand.going turn.Pass
  can_pass v d stand at is =
      may_pass p f.session v d roles (roles_at v d stand at)
      (rests_there v d stand [] carrier at.playing at.playing.carrier_rests) stand.going is

  pub can_end : (v : PortValue) (d : DeskState) (stand : Stand)
      → IsAtTurn f roles v d stand
      → IsTurnOf f roles v d stand next.End
      → IsPossible v (role_numbers roles) stand.going turn.End
  can_end v d stand at is =
      may_end p f.session v d roles (roles_at v d stand at)
      (rests_there v d stand [] carrier at.playing at.playing.carrier_rests) stand.going is

  -- ---- what is denied

  pub stops_with : (denied : Denied) (old new : PortValue) (d : DeskState) (stand : Stand) (due : List ℕ)
      → IsPlayingModems f roles old d stand due
      → Denies denied old new
      → StopsTurns denied f roles new d
  stops_with NoMemory old new d stand due h denies = tt
  stops_with Full old new d stand due h denies =
      subst (λ (v : PortValue). FillsTurns f roles v d) (sym denies.1)
      (record { stand = stand; due = due; playing = h; full = denies.0 })

  pub memory_at : (denied : Denied) (v : PortValue) (d : DeskState) → denied ≡ NoMemory → StopsTurns denied f roles v d
  memory_at denied v d is = subst (λ (y : Denied). StopsTurns y f roles v d) (sym is) tt

  -- ---- a flush, a tick, or the end of the clock

  pub in_turn_at : (v : PortValue) (d : DeskState) (stand : Stand) (taken : Turn)
      → IsAtTurn f roles v d stand
      → IsPossible v (role_numbers roles) stand.going taken
      → InTurn roles v stand taken
  in_turn_at v d stand taken at possible =
      any_in_turn f.first (block_phases f.session) f.scripts roles f.start (passings_with f.session p d (begun_at v)) v
      f.ticks stand taken at.playing.playing possible

  -- the entry that was added, for which there was room
  pub one_more : (old new : PortValue) (d : DeskState) (was : Stand) (e : PlainEntry)
      → IsAtTurn f roles old d was
      → IsOpen old
      → new.journal ≡ old.journal ++ e ∷ []
      → HasGone false old new
  one_more old new d was e at room added = (
    omega (arith, room.0, (plays_it old d was [] at.playing).of_scene.limit),
    ap (λ (es : List PlainEntry). length es) added ∙ length-append old.journal (e ∷ []),
  )

  pub takes_turn : (old new : PortValue) (d : DeskState) (was now : Stand) (turn_is : Next) (taken : Turn)
      → IsAtTurn f roles old d was
      → IsTurnOf f roles old d was turn_is
      → IsPossible old (role_numbers roles) was.going taken
      → whose (role_numbers roles) turn_is ≡ goes_on (who_of (role_numbers roles) taken)
      → ((c : ℕ) → is_caller (who_of (role_numbers roles) taken) c ≡ false)
      → PlaysTurn roles old new was now taken
      → AddsEntry old new
      → IsOpen old
      → TakesNoCall f roles old new d now
  takes_turn old new d was now turn_is taken at is possible who none plays adds room =
      let in_turn = in_turn_at old d was taken at possible in
      let takes : TakesTurn in_turn.scene in_turn.scripts roles old new was now taken = plays.each in_turn in
      record {
        at = record {
          playing = turn_goes_on f roles old new d was now turn_is taken at.playing is who possible none plays adds;
          roles_are = at.roles_are;
          next_of_all = at.next_of_all;
        };
        over = λ c. over_other in_turn.scene old new takes.on.adds c
            (ap (λ (w : Who). is_caller w c) takes.who ∙ none c);
        gone = one_more old new d was adds.entry at room adds.added;
      }

  -- ---- a call of a caller

  -- the role at a place
  pub at_role : (place : ℕ) (r d : Role) → slice_get roles place ≡ Some r → get_or roles place d ≡ r
  at_role place r d is = get_or_from_slice_get roles place r d is

  pub known_next : (d : DeskState) (place : ℕ) (call : ModemCall) (r : Role)
      → IsNextOf f roles d place call
      → (get_or roles place r).number < length d.next
  known_next d place call r h =
      subst (λ (x : Role). x.number < length d.next) (sym (at_role place h.role r h.at_place)) h.known

  pub few_next : (d : DeskState) (place : ℕ) (call : ModemCall) (r : Role)
      → IsNextOf f roles d place call
      → step_of d (get_or roles place r).number < 2 ^ 32 - 1
  few_next d place call r h =
      subst (λ (x : Role). step_of d x.number < 2 ^ 32 - 1) (sym (at_role place h.role r h.at_place)) h.few

  -- the call in the phase that runs
  call_here : (v : PortValue) (d : DeskState) (stand : Stand) (place : ℕ) (call : ModemCall)
      → IsAtTurn f roles v d stand
      → (h : IsNextOf f roles d place call)
      → call_in_phase p f.session v.terminal.phase h.role.number (step_of d h.role.number) ≡ Some call
  call_here v d stand place call at h =
      ap (λ (k : ℕ). call_in_phase p f.session k h.role.number (step_of d h.role.number))
      (phase_is v d stand [] at.playing) ∙ h.in_phase

  -- whose open is held has not begun it, and is not the one whose turn it is
  held_case : (over waits must held : Bool)
      → (not over && (if waits then not must else not held)) ≡ true
      → waits ≡ false
      → held ≡ false
  held_case true waits must held e w = absurd (false≢true e)
  held_case false true must held e w = absurd (false≢true (sym w))
  held_case false false must true e w = absurd (false≢true e)
  held_case false false must false e w = refl

  never_waits : (lines : Lines) (t : Terminal) (call : PlainCall)
      → IsNeverHeld (Some (plain call))
      → waits_for_carrier lines t (Some (plain call)) ≡ false
  never_waits lines t call h = h lines t

  -- the caller of a write that goes on has begun it
  pub going_begun : (v : PortValue) (d : DeskState) (stand : Stand) (place i : ℕ) (r : Role)
      → IsAtTurn f roles v d stand
      → IsTurnOf f roles v d stand (next.Call place)
      → slice_get roles place ≡ Some r
      → stand.going ≡ Some i
      → begun_at v r.number ≡ true
  going_begun v d stand place i r at is here going =
      let s = scene_on p at.playing.playing.has.session in
      let plays = plays_it v d stand [] at.playing in
      let parts = plays.callers.goes_on i going in
      let whose_is : goes_on (Caller (slice_index (role_numbers roles) place))
      ≡ goes_on (Caller (slice_index (role_numbers roles) i)) =
      subst (λ (g : Option ℕ). MatchOption g
      (goes_on (Caller (slice_index (role_numbers roles) place))
      ≡ turn_by_rank (port_now p f.session v) (state_at d 0 []) v.terminal)
      (λ j. goes_on (Caller (slice_index (role_numbers roles) place))
      ≡ goes_on (Caller (slice_index (role_numbers roles) j)))) going is.turn in
      let same : slice_index (role_numbers roles) i ≡ r.number =
      sym (same_turn_caller (slice_index (role_numbers roles) place) (slice_index (role_numbers roles) i) whose_is)
      ∙ role_number roles place r here in
      subst (λ (c : ℕ). begun_at v c ≡ true) same
      (run_parts (call_at s.port s.session) (counts_on s.port s.session) _ v.journal v.terminal plays.run
      (slice_index (role_numbers roles) i) parts.1.parts)

  unheld_by : (v : PortValue) (d : DeskState) (c : ℕ)
      → is_waiting v.terminal c ≡ false
      → (c ≡ carrier → ⊥)
      → CallReason (port_now p f.session v) (state_at d 0 []) v.terminal c
      → waits_for_carrier d.lines v.terminal
      (next_call (port_now p f.session v) (state_at d 0 []) v.terminal c) ≡ false
  unheld_by v d c no_wait other (it_can one can) =
      held_case (caller_at v.terminal c).over (is_waiting v.terminal c) (port_waits (call_in v.kept) v.terminal c)
      (waits_for_carrier d.lines v.terminal
      (next_call (port_now p f.session v) (state_at d 0 []) v.terminal c)) can no_wait
  unheld_by v d c no_wait other (its_end rest none same runs) = absurd (other same)
  unheld_by v d c no_wait other (in_vain vain unheld waits) = absurd (false≢true (sym no_wait ∙ waits))

  -- a new call whose turn it is by rank waits for no carrier
  rank_unheld : (v : PortValue) (d : DeskState) (stand : Stand) (place : ℕ) (r : Role)
      → IsAtTurn f roles v d stand
      → slice_get roles place ≡ Some r
      → (r.number ≡ carrier → ⊥)
      → begun_at v r.number ≡ false
      → goes_on (Caller (slice_index (role_numbers roles) place))
      ≡ turn_by_rank (port_now p f.session v) (state_at d 0 []) v.terminal
      → waits_for_carrier d.lines v.terminal
      (next_call (port_now p f.session v) (state_at d 0 []) v.terminal r.number) ≡ false
  rank_unheld v d stand place r at here other rest is =
      let port = port_now p f.session v in
      let s = state_at d 0 [] in
      let no_wait = rests_there v d stand [] r.number at.playing rest in
      let number = role_number roles place r here in
      let reason : CallReason port s v.terminal r.number =
      subst (CallReason port s v.terminal) number
      (call_reason port s v.terminal _ (slice_index (role_numbers roles) place) (reason_of port d 0 v.terminal)
      (sym is))
      in
      unheld_by v d r.number no_wait other reason

  by_going : (v : PortValue) (d : DeskState) (stand : Stand) (place : ℕ) (r : Role) (going : Option ℕ)
      → stand.going ≡ going
      → IsAtTurn f roles v d stand
      → IsTurnOf f roles v d stand (next.Call place)
      → slice_get roles place ≡ Some r
      → (r.number ≡ carrier → ⊥)
      → begun_at v r.number ≡ false
      → {call : ModemCall}
      → call_in_phase p f.session v.terminal.phase r.number (step_of d r.number) ≡ Some call
      → waits_for_carrier d.lines v.terminal (Some call) ≡ false
  by_going v d stand place r None e at is here other rest has =
      sym (ap (waits_for_carrier d.lines v.terminal) has)
      ∙ rank_unheld v d stand place r at here other rest
      (subst (λ (g : Option ℕ). MatchOption g
      (goes_on (Caller (slice_index (role_numbers roles) place))
      ≡ turn_by_rank (port_now p f.session v) (state_at d 0 []) v.terminal)
      (λ j. goes_on (Caller (slice_index (role_numbers roles) place))
      ≡ goes_on (Caller (slice_index (role_numbers roles) j)))) e is.turn)
  by_going v d stand place r (Some i) e at is here other rest has =
      absurd (false≢true (sym rest ∙ going_begun v d stand place i r at is here e))

  pub not_held : (v : PortValue) (d : DeskState) (stand : Stand) (place : ℕ) (call : PlainCall)
      → IsAtTurn f roles v d stand
      → IsTurnOf f roles v d stand (next.Call place)
      → IsNextOf f roles d place (plain call)
      → waits_for_carrier d.lines v.terminal (Some (plain call)) ≡ false
  not_held v d stand place call at is h =
      let c = h.role.number in
      elim (test_cases (begun_at v c)) [
        | inl begun ↦ never_waits d.lines v.terminal call
            (subst IsNeverHeld h.has (at.playing.never_held c begun))
        | inr rest ↦ by_going v d stand place h.role stand.going refl at is h.at_place h.is_caller rest
            (call_here v d stand place (plain call) at h)
      ]

  -- the session that is played has this call next
  pub calling_at : (v : PortValue) (d : DeskState) (stand : Stand) (place : ℕ) (call : PlainCall)
      → IsFrameWithin f
      → IsAtTurn f roles v d stand
      → IsTurnOf f roles v d stand (next.Call place)
      → (h : IsNextOf f roles d place (plain call))
      → IsCallingIn HasAnyOrder f.first (block_phases f.session) f.scripts roles f.start
      (passings_with f.session p d (begun_with v h.role.number)) v f.ticks stand place call
  calling_at v d stand place call frame at is h =
      let c = h.role.number in
      let phase = phase_is v d stand [] at.playing in
      elim (test_cases (begun_at v c)) [
        | inl begun ↦ call_continues f roles v d stand place h.role call at.playing h.at_place begun h.has
        | inr rest ↦ call_begins f roles v d stand place h.role call at.playing (can_call v d stand place at is)
            h.at_place h.is_caller rest frame.of_blocks frame.blocks
            (call_within p f.session c (step_of d c) (plain call) frame.within.calls h.has) h.has
            (subst (λ (k : ℕ). begin_of p (block_phases f.session) k c ≤ step_of d c) (sym phase) h.from)
            (subst (λ (k : ℕ). step_of d c < begin_of p (block_phases f.session) (k + 1) c) (sym phase) h.to)
      ]

  pub in_call_at : (v : PortValue) (d : DeskState) (stand : Stand) (place : ℕ) (call : PlainCall)
      → IsFrameWithin f
      → IsAtTurn f roles v d stand
      → IsTurnOf f roles v d stand (next.Call place)
      → IsNextOf f roles d place (plain call)
      → InCall roles v stand place call
  in_call_at v d stand place call frame at is h =
      any_in_call f.first (block_phases f.session) f.scripts roles f.start
      (passings_with f.session p d (begun_with v h.role.number)) v f.ticks stand place call
      (calling_at v d stand place call frame at is h) (can_call v d stand place at is)

  tries_it : (old new : PortValue) (d : DeskState) (was now : Stand) (place : ℕ) (call : PlainCall) (tried : PlainTried)
      → IsFrameWithin f
      → IsAtTurn f roles old d was
      → IsTurnOf f roles old d was (next.Call place)
      → (h : IsNextOf f roles d place (plain call))
      → TriesCall roles old new place call tried
      → PlaysCall roles old new was now place call
      → Tries f roles old new d was now place h.role call tried
  tries_it old new d was now place call tried frame at is h tries plays = record {
    calling = calling_at old d was place call frame at is h;
    possible = can_call old d was place at is;
    at_place = h.at_place;
    is_caller = h.is_caller;
    has = h.has;
    tries = tries;
    plays = plays;
  }

  over_by_call : (old new : PortValue) (d : DeskState) (was now : Stand) (place : ℕ) (call : PlainCall)
      (tried : PlainTried)
      → IsFrameWithin f
      → IsAtTurn f roles old d was
      → IsTurnOf f roles old d was (next.Call place)
      → IsNextOf f roles d place (plain call)
      → TriesCall roles old new place call tried
      → PlaysCall roles old new was now place call
      → (c : ℕ)
      → WereOver old new c
  over_by_call old new d was now place call tried frame at is h tries plays c =
      let in_it = in_call_at old d was place call frame at is h in
      let on : PlaysOnIn HasAnyOrder in_it.in_turn.scene in_it.in_turn.scripts roles old new was now =
      (plays.each in_it).on in
      let makes = makes_as roles old new place h.role call h.at_place tried tries in
      over_call in_it.in_turn.scene old new on.adds c
      (call_is old new h.role.number call makes in_it.in_turn.scene on.adds)

  -- where the call is not answered
  pub takes_waiting : (old new : PortValue) (d : DeskState) (was now : Stand) (place : ℕ) (call : PlainCall)
      (tried : PlainTried)
      → IsFrameWithin f
      → IsAtTurn f roles old d was
      → IsTurnOf f roles old d was (next.Call place)
      → IsNextOf f roles d place (plain call)
      → IsOpen old
      → (tried ≡ must_wait) ⊎ (tried ≡ took_part)
      → TriesCall roles old new place call tried
      → PlaysCall roles old new was now place call
      → TakesCall f roles place old new d d (record { answered = false; stand = now })
  takes_waiting old new d was now place call tried frame at is h room waits tries plays = record {
    at = record {
      playing = call_waits f roles old new d was now (next.Call place) place h.role call tried at.playing is refl
          (tries_it old new d was now place call tried frame at is h tries plays) waits;
      roles_are = at.roles_are;
      next_of_all = at.next_of_all;
    };
    desk = λ r here. record { next = refl; items = refl };
    over = over_by_call old new d was now place call tried frame at is h tries plays;
    gone = one_more old new d was tries.makes.entry at room tries.makes.added;
  }

  -- where it is
  pub takes_answered : (old new : PortValue) (d x : DeskState) (was now : Stand) (place : ℕ) (call : PlainCall)
      (answer : PlainAnswer) (live : Bool) (r : Role)
      → IsFrameWithin f
      → IsAtTurn f roles old d was
      → IsTurnOf f roles old d was (next.Call place)
      → (h : IsNextOf f roles d place (plain call))
      → IsPort old
      → IsPort new
      → live ≡ has_live old.terminal
      → TriesCall roles old new place call (done_by answer)
      → PlaysCall roles old new was now place call
      → x ≡ answered_passed d new live (get_or roles place r).number call answer
      → TakesCall f roles place old new d x (record { answered = true; stand = now })
  takes_answered old new d x was now place call answer live r frame at is h port later live_is tries plays said =
      let c = h.role.number in
      let y = answered_passed d new (has_live old.terminal) c call answer in
      let makes = makes_as roles old new place h.role call h.at_place (done_by answer) tries in
      let y_is : x ≡ y =
      said
      ∙ (λ i. answered_passed d new (live_is i) (at_role place h.role r h.at_place i).number call answer) in
      let passes : TakesCall f roles place old new d y (record { answered = true; stand = now }) = record {
        at = record {
          playing = call_answered f roles old new d y was now (next.Call place) place h.role call answer at.playing is
              refl (tries_it old new d was now place call (done_by answer) frame at is h tries plays) h.known refl refl
              (λ e by answered phase.
              notes_passed f.first f.session old new d e at.playing.desk.at_entry c (caller_at old.terminal c).next call
              answer port later by at.playing.desk.logged.at answered makes.kept
              (ap (λ (k : ℕ). call_in_phase p f.session k c (step_of d c)) phase
              ∙ call_here old d was place (plain call) at h) (not_held old d was place call at is h));
          roles_are = at.roles_are;
          next_of_all = length-set d.next c (step_of d c + 1) ∙ at.next_of_all;
        };
        desk = λ q here. subst (λ (z : Role). Advances true z.number d y) (same_Some h.role q (sym h.at_place ∙ here))
            (record { next = refl; items = refl });
        over = over_by_call old new d was now place call (done_by answer) frame at is h tries plays;
        gone = omega (
          arith,
          ap (λ (es : List PlainEntry). length es) tries.makes.added,
          length-append old.journal (tries.makes.entry ∷ []),
        );
      } in
      subst (λ (z : DeskState). TakesCall f roles place old new d z (record { answered = true; stand = now }))
      (sym y_is)
      passes

  -- ---- a call of modem lines

  either_rises : (b : Bool) (i j m n : ℕ) → i ≤ j → m ≤ n → (if b then i else m) ≤ (if b then j else n)
  either_rises true i j m n h k = h
  either_rises false i j m n h k = k

  -- a step that rose, and those that stay
  pub rises_one : (d y : DeskState) (due : List ℕ) (c x : ℕ)
      → y.next ≡ slice_set d.next c (step_of d c + 1)
      → y.items ≡ d.items
      → c < length d.next
      → step_next f.session p d due x ≤ step_next f.session p y due x
  rises_one d y due c x rose same known =
      let steps = step_rises d.next c x known in
      let rest : step_of d x ≤ step_of y x =
      subst (λ (ns : List ℕ). step_of d x ≤ slice_index_or ns x 0) (sym rose) steps in
      either_rises (x == carrier) (d.items - length due) (y.items - length due) (step_of d x) (step_of y x)
      (omega (arith, same)) rest

  no_further : (call : OwnCall) → IsNeverHeld (Some (further call)) → ⊥
  no_further call h = h

  pub takes_own : (v : PortValue) (d x : DeskState) (stand : Stand) (place : ℕ) (own_call : OwnCall) (r : Role)
      → IsAtTurn f roles v d stand
      → IsTurnOf f roles v d stand (next.Call place)
      → IsPort v
      → IsNextOf f roles d place (further own_call)
      → x ≡ controlled d v (get_or roles place r).number own_call
      → TakesCall f roles place v v d x (record { answered = true; stand = stand })
  takes_own v d x stand place own_call r at is port h said =
      let c = h.role.number in
      let y = controlled d v c own_call in
      let y_is : x ≡ y =
      said ∙ ap (λ (z : Role). controlled d v z.number own_call) (at_role place h.role r h.at_place) in
      let number = role_number roles place h.role h.at_place in
      let rest : begun_at v c ≡ false = elim (test_cases (begun_at v c)) [
        | inl begun ↦ absurd (no_further own_call (subst IsNeverHeld h.has (at.playing.never_held c begun)))
        | inr rest ↦ rest
      ] in
      let notes = notes_own f.first f.session v d at.playing.desk.at_entry c own_call port rest
      (call_here v d stand place (further own_call) at h)
      (λ played like agrees j later.
      let it = turn_each f roles (passings_with f.session p d (begun_at v)) v d stand (next.Call place)
      at.playing.desk.at_entry at.playing.playing is played like agrees j later in
      (it.0 ∙ ap (λ (n : ℕ). goes_on (Caller n)) number, it.1)) in
      let answered : TakesCall f roles place v v d y (record { answered = true; stand = stand }) = record {
        at = record {
          playing = noted_goes_on f roles v d y stand 0 [] _ at.playing notes refl
              (λ q begun. step_other d.next c q (step_of d c + 1) (λ same.
              no_further own_call (subst IsNeverHeld (ap (call_after f.session p d) same ∙ h.has)
              (at.playing.never_held q begun))))
              (λ q. rises_one d y [] c q refl refl h.known);
          roles_are = at.roles_are;
          next_of_all = length-set d.next c (step_of d c + 1) ∙ at.next_of_all;
        };
        desk = λ q here. subst (λ (z : Role). Advances true z.number d y) (same_Some h.role q (sym h.at_place ∙ here))
            (record { next = refl; items = refl });
        over = λ q over. over;
        gone = omega arith;
      } in
      subst (λ (z : DeskState). TakesCall f roles place v v d z (record { answered = true; stand = stand })) (sym y_is)
      answered

  -- ---- an item of the modem block

  pub item_noted : (v : PortValue) (d : DeskState) (stand : Stand) (item : PinStep) (due : List ℕ)
      → IsAtTurn f roles v d stand
      → IsTurnOf f roles v d stand next.Pin
      → IsPort v
      → IsItemOf f v d item
      → due ≡ (if loses_carrier d.lines item.pin item.up then least_live v.terminal else [])
      → length due ≤ 1
      → IsPlayingModems f roles v (pinned d (length v.journal) item.pin item.up) stand due
  item_noted v d stand item due at is port h due_is few =
      let y = pinned d (length v.journal) item.pin item.up in
      let notes = notes_pin f.first f.session v d at.playing.desk.at_entry item.pin item.up port h.runs
      at.playing.carrier_rests
      (h.has ∙ ap (λ (k : ℕ). Some (record { phase = k; step = item })) (sym (phase_is v d stand [] at.playing)))
      (λ played like agrees j later.
      (turn_each f roles (passings_with f.session p d (begun_at v)) v d stand next.Pin at.playing.desk.at_entry
      at.playing.playing is played like agrees j later).0) in
      subst (λ (xs : List ℕ). length xs ≤ 1 → IsPlayingModems f roles v y stand xs) (sym due_is)
      (λ one. noted_goes_on f roles v d y stand 0 _ (pin_set item.pin item.up) at.playing notes refl
      (λ c begun. refl)
      (λ c. either_rises (c == carrier) (d.items - 0) (d.items + 1 - length _) (step_of d c) (step_of d c)
      (omega (arith, one)) (omega arith))) few

  pub takes_item : (v : PortValue) (d x : DeskState) (stand : Stand) (item : PinStep) (lost : Bool)
      → IsAtTurn f roles v d stand
      → IsTurnOf f roles v d stand next.Pin
      → IsPort v
      → IsItemOf f v d item
      → x ≡ pinned d (length v.journal) item.pin item.up
      → (if loses_carrier d.lines item.pin item.up then least_live v.terminal else []) ≡ []
      → TakesItem f roles v v d x stand
  takes_item v d x stand item lost at is port h said none =
      let y = pinned d (length v.journal) item.pin item.up in
      subst (λ (z : DeskState). TakesItem f roles v v d z stand) (sym said) (record {
        at = record {
          playing = item_noted v d stand item [] at is port h (sym none) (omega arith);
          roles_are = at.roles_are;
          next_of_all = at.next_of_all;
        };
        next = refl;
        items = refl;
        over = λ c over. over;
        gone = omega arith;
      })

  none_going : (v : PortValue) (d : DeskState) (stand : Stand) (going : Option ℕ)
      → IsNextTurn p f.session v d roles going next.Pin
      → going ≡ None
  none_going v d stand None is = refl
  none_going v d stand (Some i) is = let e = is.turn in absurd (cc)

  pub has_role : (xs : List Role) (i : ℕ) → i < length xs → (r : Role) × (slice_get xs i ≡ Some r)
  has_role [] i lt = absurd (omega (arith, lt))
  has_role (x ∷ xs) zero lt = (x, refl)
  has_role (x ∷ xs) (suc i) lt = has_role xs i (omega (arith, lt))

  last_number : (cs : List ℕ) (c : ℕ) → slice_index (cs ++ c ∷ []) (length cs) ≡ c
  last_number [] c = refl
  last_number (x ∷ cs) c = last_number cs c

  pub carrier_place : (v : PortValue) (d : DeskState) (stand : Stand)
      → IsAtTurn f roles v d stand
      → (0 < length roles) × (slice_index (role_numbers roles) (length roles - 1) ≡ carrier)
  carrier_place v d stand at =
      let cs = callers_in (port_now p f.session v) v.terminal.phase in
      let are = roles_at v d stand at in
      let many : length roles ≡ length cs + 1 = omega (
        arith,
        length-map roles (λ (r : Role). r.number),
        ap (λ (ns : List ℕ). length ns) are,
        length-append cs (carrier ∷ []),
      ) in
      let place : length roles - 1 ≡ length cs = omega (arith, many) in (
        omega (arith, many),
        (λ i. slice_index (are i) (place i)) ∙ last_number cs carrier,
      )

  -- the hangup that is due then
  pub hanging_up : (v : PortValue) (d x : DeskState) (stand : Stand) (item : PinStep) (handle : ℕ)
      → IsFrameWithin f
      → IsAtTurn f roles v d stand
      → IsTurnOf f roles v d stand next.Pin
      → IsPort v
      → IsItemOf f v d item
      → x ≡ pinned d (length v.journal) item.pin item.up
      → loses_carrier d.lines item.pin item.up ≡ true
      → position is_live v.terminal.handles ≡ Some handle
      → IsHangingUp f roles v x stand handle
  hanging_up v d x stand item handle frame at is port h said lost least =
      let y = pinned d (length v.journal) item.pin item.up in
      let due_is : handle ∷ [] ≡ (if loses_carrier d.lines item.pin item.up then least_live v.terminal else []) =
      sym (ap (λ (b : Bool). if b then least_live v.terminal else []) lost ∙ ap option_to_list least) in
      let playing = item_noted v d stand item (handle ∷ []) at is port h due_is (omega arith) in
      let there = carrier_place v d stand at in
      let role = has_role roles (length roles - 1) (omega (arith, there.0)) in
      let its : role.0.number ≡ carrier = sym (role_number roles (length roles - 1) role.0 role.1) ∙ there.1 in
      let none = none_going v d stand stand.going is in
      let phase = phase_is v d stand [] at.playing in
      let possible : IsPossible v (role_numbers roles) stand.going (turn.Call (length roles - 1)) = record {
        whose = subst (λ (g : Option ℕ). MatchOption g
            (IsFree v (role_numbers roles) (turn.Call (length roles - 1)))
            (λ j. who_of (role_numbers roles) (turn.Call (length roles - 1))
            ≡ Caller (slice_index (role_numbers roles) j))) (sym none)
            (inl (subst (λ (c : ℕ). port_goes_on (call_in v.kept) v.terminal c ≡ true) (sym there.1)
            (rest_case (caller_at v.terminal carrier).over (is_waiting v.terminal carrier)
            (port_waits (call_in v.kept) v.terminal carrier) h.runs
            (rests_there v d stand [] carrier at.playing at.playing.carrier_rests))));
        within = omega (arith, there.0, length-map roles (λ (r : Role). r.number));
      } in
      let found = position-Some is_live v.terminal.handles handle None least in
      let few : handle < MOST_HANDLES = subst (λ (n : ℕ). handle < n) (are_numbers v port) found.0 in
      subst (λ (z : DeskState). IsHangingUp f roles v z stand handle) (sym said) (record {
        playing = playing;
        roles_are = at.roles_are;
        next_of_all = at.next_of_all;
        none_goes_on = none;
        possible = possible;
        role = role.0;
        at_place = role.1;
        is_carrier = its;
        live = found.1;
        some = omega arith;
        calling = hangup_begins f roles v y stand (length roles - 1) role.0 handle playing possible role.1 its
            frame.of_blocks frame.blocks (record { handle = few; bytes = omega arith })
            (subst (λ (k : ℕ). begin_of p (block_phases f.session) k carrier ≤ d.items + 1 - 1) (sym phase)
            (omega (arith, h.from)))
            (subst (λ (k : ℕ). d.items + 1 - 1 < begin_of p (block_phases f.session) (k + 1) carrier) (sym phase)
            (omega (arith, h.to)));
      })

  pub in_hangup : (v : PortValue) (d : DeskState) (stand : Stand) (handle : ℕ)
      → IsHangingUp f roles v d stand handle
      → InCall roles v stand (length roles - 1) (hangs_up handle)
  in_hangup v d stand handle h =
      any_in_call f.first (block_phases f.session) f.scripts roles f.start (hangup_with f.session p d v handle) v
      f.ticks
      stand (length roles - 1) (hangs_up handle) h.calling h.possible

  pub takes_hangup : (old new : PortValue) (d x : DeskState) (was now : Stand) (handle : ℕ) (tried : PlainTried)
      → IsHangingUp f roles old d was handle
      → TriesCall roles old new (length roles - 1) (hangs_up handle) tried
      → PlaysCall roles old new was now (length roles - 1) (hangs_up handle)
      → x ≡ hung_up_through d (length new.journal) handle
      → TakesHangup f roles old new d x now
  takes_hangup old new d x was now handle tried h tries plays said =
      let place = length roles - 1 in
      let call = hangs_up handle in
      let y = hung_up_through d (length new.journal) handle in
      let rest : begun_at old h.role.number ≡ false =
      subst (λ (c : ℕ). begun_at old c ≡ false) (sym h.is_carrier) h.playing.carrier_rests in
      let makes = makes_as roles old new place h.role call h.at_place tried tries in
      let done_is : tried ≡ done_by done =
      is_done old new h.role.number handle rest h.live makes tried
      (attempts_as roles old new place h.role call h.at_place tried tries) in
      let tries_done : TriesCall roles old new place call (done_by done) =
      subst (λ (t : PlainTried). TriesCall roles old new place call t) done_is tries in
      let in_it = in_hangup old d was handle h in
      let on : PlaysOnIn HasAnyOrder in_it.in_turn.scene in_it.in_turn.scripts roles old new was now =
      (plays.each in_it).on in
      subst (λ (z : DeskState). TakesHangup f roles old new d z now) (sym said) (record {
        at = record {
          playing = hangup_goes_on f roles old new d y was now place h.role handle h.playing h.calling h.possible
              h.none_goes_on h.at_place h.is_carrier
              (role_number roles place h.role h.at_place ∙ h.is_carrier) h.some refl refl
              (λ e by was_done. notes_lost f.first f.session old new d e h.playing.desk.at_entry
              (caller_at old.terminal carrier).next handle by (h.playing.desk.late handle refl) was_done
              (subst (λ (c : ℕ). call_in new.kept c (caller_at old.terminal c).next ≡ Some call) h.is_carrier
              makes.kept))
              tries_done plays;
          roles_are = h.roles_are;
          next_of_all = h.next_of_all;
        };
        next = refl;
        items = refl;
        over = λ c. over_call in_it.in_turn.scene old new on.adds c
            (call_is old new h.role.number call makes in_it.in_turn.scene on.adds);
        gone = omega (
          arith,
          ap (λ (es : List PlainEntry). length es) makes.added,
          length-append old.journal (makes.entry ∷ []),
        );
      })

  pub takes_lost : (old new : PortValue) (d y x : DeskState) (now : Stand) (item : PinStep)
      → y ≡ pinned d (length old.journal) item.pin item.up
      → TakesHangup f roles old new y x now
      → TakesItem f roles old new d x now
  takes_lost old new d y x now item said h = record {
    at = h.at;
    next = h.next ∙ ap (λ (z : DeskState). z.next) said;
    items = h.items ∙ ap (λ (z : DeskState). z.items) said;
    over = h.over;
    gone = h.gone;
  }
