-- What a turn ends: a caller's calls, an open that waits in vain, an item of the modem block, and the phase.
use Rattle.std.proofs.Common.{◌≡◌, ◌<◌, ◌⊎◌, inl, inr, ℕ, zero, suc, ◌+◌, ◌-◌, ◌^◌, Bool, true, false, not, ◌&&◌, List}
use Rattle.std.proofs.Common.{[]}
use Rattle.std.proofs.Common.{◌∷◌, ◌++◌, Option, None, Some, is_some, length, drop, get_or, refl, sym, ap}
use Rattle.std.proofs.Common.{◌∙◌, subst, arith, length-append}
use Rattle.std.specs.Prelude.{MatchOption, slice_get, slice_index, slice_set}
use Rattle.std.proofs.lemmas.Bool.{cases_eq, false≢true, ne_eqb}
use Rattle.std.proofs.lemmas.List.{length-map, length-set}
use Rattle.std.proofs.lemmas.Option.{same_Some, slice_get-get_or, slice_get_within}
use Rattle.tty_base.specs.declared.characters.Flagged.{Flagged}
use Rattle.word_ring.specs.Ends.{PutterState}
use Rattle.tty_calls.specs.declared.journals.Who.TheVariants.{Caller}
use Rattle.tty_calls.specs.Plain.{PlainCall, PlainEntry, is_caller}
use Rattle.tty_terminal.specs.Terminals.{Terminal, caller_at}
use Rattle.port_core.specs.Ports.{PortValue, IsPort, IsOpen, end_entry}
use Rattle.play_base.specs.Scenes.{HasAnyOrder}
use Rattle.one_thread.specs.Turns.{role_numbers, IsAbsent, PlaysOnIn}
use Rattle.one_thread.specs.Acts.{AddsEntry, EndsCalls, InLast, PlaysEnd, PlaysLast}
use Rattle.play_base.specs.declared.roles.Role.{Role}
use Rattle.one_thread.specs.declared.after_line.Stand.{Stand}
use Rattle.one_thread.proofs.AfterLine.{nothing_left}
use Rattle.one_thread.proofs.Calling.{role_number}
use Rattle.passed_calls.specs.Derived.{Passing, AreInSteps, by_caller}
use Rattle.passed_calls.specs.Scripts.{plain, further}
use Rattle.order_laws.specs.Begun.{begun_at, WereOver}
use Rattle.order_laws.specs.Passed.{begin_of}
use Rattle.order_laws.specs.Witness.{scene_on}
use Rattle.order_laws.proofs.InOrders.{same_entry}
use Rattle.order_laws.proofs.Overs.{over_other}
use Rattle.order_laws.proofs.Possible.{any_in_last}
use Rattle.order_laws.proofs.Steps.{tail, tail_one, step_other}
use Rattle.calls_left.specs.Remaining.{left_at, after_next, IsLeftTo}
use Rattle.modem_lines.specs.Lines.{Lines}
use Rattle.modem_text.specs.Sessions.{ModemCall, PinStep}
use Rattle.modem_steps.specs.Derived.{block_phases, carrier_on, modem_call_at, passings_on}
use Rattle.modem_steps.specs.Steps.{items_from, callers_in, next_call, waits_for_carrier, plain_waits}
use Rattle.modem_steps.specs.Order.{goes_on, is_told, is_of_phase, has_item, open_is_held, turn_by_rank}
use Rattle.modem_one.specs.declared.turns.Next.TheVariants as next
use Rattle.modem_one.specs.Desk.{DeskState, step_of, told_idle, state_at}
use Rattle.modem_one.specs.Left.{AreCallsLeft, AreItemsLeft, turns_left}
use Rattle.modem_one.specs.Playing.{Frame, call_after, next_passing, passings_with, IsNeverHeld}
use Rattle.modem_one.specs.Turns.{port_now, IsNextTurn}
use Rattle.modem_one.specs.AfterLine.{IsAtTurn, IsTurnOf, IsBetween, EndsTurns}
use Rattle.modem_one.specs.AfterLine.{IsItemOf, Advances, TakesCall, TakesItem}
use Rattle.modem_one.proofs.DeskEvents.{notes_told}
use Rattle.modem_one.proofs.Ranks.{IsOneOf, AllInVain, CallReason, it_can, its_end, in_vain, reason_of, call_reason}
use Rattle.modem_one.proofs.Ranks.{told_reason_of}
use Rattle.modem_one.proofs.Ranks.{pin_reason}
use Rattle.modem_one.proofs.Taking.{plays_it, phase_is, roles_at, can_call, can_end, carrier_place, has_role, one_more}
use Rattle.modem_one.proofs.Taking.{going_begun, rises_one}
use Rattle.modem_one.proofs.Turning.{last_goes_on, noted_goes_on, turn_each}
use Rattle.modem_one.proofs.Whose.{waits_kept}
use Rattle.modem_one.proofs.LeftCalls.{items_length, items_behind, in_last_step}
use Rattle.modem_one.proofs.LeftCalls.{apart_at, asked_at, items_at, next_of, by_answer, less_by_answer}

test_cases : (b : Bool) → (b ≡ true) ⊎ (b ≡ false)
test_cases true = inl refl
test_cases false = inr refl

below_or : (a b : ℕ) → a < b + 1 → (a < b) ⊎ (a ≡ b)
below_or a b lt = grind arith

in_front : (cs : List ℕ) (c i : ℕ) → i < length cs → slice_index (cs ++ c ∷ []) i ≡ slice_index cs i
in_front [] c i lt = absurd (omega (arith, lt))
in_front (x ∷ cs) c zero lt = refl
in_front (x ∷ cs) c (suc i) lt = in_front cs c i (omega (arith, lt))

module _ (f : Frame) (roles : List Role) where
  abbrev p : ℕ
  p = f.first.port

  abbrev carrier : ℕ
  carrier = carrier_on p f.session

  abbrev k : ℕ
  k = f.start.terminal.phase

  -- ---- the end of a caller's calls

  -- who has no call left in the phase has begun none
  rests_last : (v : PortValue) (d : DeskState) (stand : Stand) (c : ℕ)
      → IsAtTurn f roles v d stand
      → step_of d c ≡ begin_of p (block_phases f.session) (k + 1) c
      → begun_at v c ≡ false
  rests_last v d stand c at ended = elim (test_cases (begun_at v c)) [
    | inl begun ↦
        let m = next_passing f.session p d c in
        let ms = by_caller c (passings_on f.session d.log p) in
        let up_to : AreInSteps 0 (begin_of p (block_phases f.session) (k + 1) c) (ms ++ tail (begun_at v c) m) =
        subst (λ (j : ℕ). AreInSteps 0 (begin_of p (block_phases f.session) (j + 1) c) (ms ++ tail (begun_at v c) m))
        (phase_is f roles v d stand [] at.playing) (at.playing.playing.up_to c) in
        let in_steps : AreInSteps 0 (begin_of p (block_phases f.session) (k + 1) c) (ms ++ m ∷ []) =
        subst (λ (xs : List Passing). AreInSteps 0 (begin_of p (block_phases f.session) (k + 1) c) (ms ++ xs))
        (tail_one (begun_at v c) m begun) up_to in
        absurd (omega (
          arith,
          in_last_step 0 (begin_of p (block_phases f.session) (k + 1) c) ms m in_steps,
          ended,
        ))
    | inr rest ↦ rest
  ]

  -- the last role is that of `carrier`
  last_role : (v : PortValue) (d : DeskState) (stand : Stand) (left : List (List ModemCall)) (items : List PinStep)
      (place : ℕ) (r : Role)
      → IsBetween f roles v d stand left items
      → slice_get roles place ≡ Some r
      → place ≡ length left
      → r.number ≡ carrier
  last_role v d stand left items place r h at same =
      let there = carrier_place f roles v d stand h.at in
      let last : place ≡ length roles - 1 = omega (arith, same, h.calls.many) in
      sym (role_number roles place r at)
      ∙ (ap (λ (i : ℕ). slice_index (role_numbers roles) i) last ∙ there.1)

  place_cases : (left : List (List ModemCall)) (place : ℕ) (r : Role)
      → length left + 1 ≡ length roles
      → slice_get roles place ≡ Some r
      → (place < length left) ⊎ (place ≡ length left)
  place_cases left place r many at =
      let within = slice_get_within roles place r at in below_or place (length left) (omega (arith, within, many))

  rests_here : (v : PortValue) (d : DeskState) (stand : Stand) (left : List (List ModemCall)) (items : List PinStep)
      (place : ℕ) (r : Role)
      → IsBetween f roles v d stand left items
      → slice_get roles place ≡ Some r
      → left_at left place ≡ []
      → begun_at v r.number ≡ false
  rests_here v d stand left items place r h at none = elim (place_cases left place r h.calls.many at) [
    | inl within ↦
        let own : IsLeftTo p k (block_phases f.session) (modem_call_at p f.session) d.next r.number [] =
        subst (λ (cs : List ModemCall).
        IsLeftTo p k (block_phases f.session) (modem_call_at p f.session) d.next r.number cs) none
        (h.calls.each place r at within) in
        let count : step_of d r.number + 0 ≡ begin_of p (block_phases f.session) (k + 1) r.number = own.count in
        rests_last v d stand r.number h.at (omega (arith, count))
    | inr same ↦ subst (λ (c : ℕ). begun_at v c ≡ false) (sym (last_role v d stand left items place r h at same))
        h.at.playing.carrier_rests
  ]

  pub in_last_at : (v : PortValue) (d : DeskState) (stand : Stand) (left : List (List ModemCall))
      (items : List PinStep) (place : ℕ) (r : Role)
      → IsBetween f roles v d stand left items
      → IsTurnOf f roles v d stand (next.Call place)
      → slice_get roles place ≡ Some r
      → left_at left place ≡ []
      → InLast roles v stand place
  in_last_at v d stand left items place r h is at none =
      any_in_last f.first (block_phases f.session) f.scripts roles f.start
      (passings_with f.session p d (begun_at v)) v f.ticks stand place r h.at.playing.playing
      (can_call f roles v d stand place h.at is) at (rests_here v d stand left items place r h at none)

  -- a caller of the text is not `carrier`
  one_other : (v : PortValue) (d : DeskState) (stand : Stand) (left : List (List ModemCall)) (items : List PinStep)
      → IsBetween f roles v d stand left items
      → IsOneOf (callers_in (port_now p f.session v) v.terminal.phase) carrier
      → ⊥
  one_other v d stand left items h one =
      let cs = callers_in (port_now p f.session v) v.terminal.phase in
      let are = roles_at f roles v d stand h.at in
      let many = length-map roles (λ (r : Role). r.number) in
      let count : length (role_numbers roles) ≡ length cs + 1 =
      ap (λ (ns : List ℕ). length ns) are ∙ length-append cs (carrier ∷ []) in
      let within : one.place < length left = omega (arith, one.within, many, count, h.calls.many) in
      let r = has_role f roles roles one.place (omega (arith, within, h.calls.many)) in
      h.calls.callers one.place r.0 r.1 within
      (sym (role_number roles one.place r.0 r.1)
      ∙ (ap (λ (ns : List ℕ). slice_index ns one.place) are ∙ (in_front cs carrier one.place one.within ∙ one.is)))

  -- where `carrier` ends, no item is left
  no_item_by : (v : PortValue) (d : DeskState) (stand : Stand) (left : List (List ModemCall)) (items : List PinStep)
      → IsBetween f roles v d stand left items
      → CallReason (port_now p f.session v) (state_at d 0 []) v.terminal carrier
      → has_item (port_now p f.session v) (state_at d 0 []) v.terminal ≡ false
  no_item_by v d stand left items h (it_can one can) = absurd (one_other v d stand left items h one)
  no_item_by v d stand left items h (its_end rest none same runs) = none
  no_item_by v d stand left items h (in_vain vain unheld waits) = vain.no_item

  no_items : (items : List PinStep) (b : Bool) → b ≡ is_some (slice_get items 0) → b ≡ false → items ≡ []
  no_items [] b e f = refl
  no_items (x ∷ items) b e f = absurd (false≢true (sym f ∙ e))

  -- its turn by rank, since no write of it goes on
  none_left_by : (v : PortValue) (d : DeskState) (stand : Stand) (left : List (List ModemCall)) (items : List PinStep)
      (place : ℕ) (r : Role) (going : Option ℕ)
      → stand.going ≡ going
      → IsBetween f roles v d stand left items
      → IsTurnOf f roles v d stand (next.Call place)
      → slice_get roles place ≡ Some r
      → r.number ≡ carrier
      → items ≡ []
  none_left_by v d stand left items place r None e h is at its =
      let port = port_now p f.session v in
      let s = state_at d 0 [] in
      let number = role_number roles place r at ∙ its in
      let ranked : goes_on (Caller (slice_index (role_numbers roles) place)) ≡ turn_by_rank port s v.terminal =
      subst (λ (g : Option ℕ). MatchOption g
      (goes_on (Caller (slice_index (role_numbers roles) place)) ≡ turn_by_rank port s v.terminal)
      (λ j. goes_on (Caller (slice_index (role_numbers roles) place))
      ≡ goes_on (Caller (slice_index (role_numbers roles) j)))) e is.turn in
      let reason : CallReason port s v.terminal carrier =
      subst (CallReason port s v.terminal) number
      (call_reason port s v.terminal _ (slice_index (role_numbers roles) place) (reason_of port d 0 v.terminal)
      (sym ranked)) in
      no_items items (has_item port s v.terminal) (items_at f roles v d stand left items h)
      (no_item_by v d stand left items h reason)
  none_left_by v d stand left items place r (Some i) e h is at its =
      let begun = going_begun f roles v d stand place i r h.at is at e in
      absurd (false≢true (sym (subst (λ (c : ℕ). begun_at v c ≡ false) (sym its) h.at.playing.carrier_rests) ∙ begun))

  module _ (old new : PortValue) (d : DeskState) (was now : Stand) (left : List (List ModemCall))
      (items : List PinStep) (place : ℕ) (r : Role) (h : IsBetween f roles old d was left items)
      (is : IsTurnOf f roles old d was (next.Call place)) (at : slice_get roles place ≡ Some r)
      (none : left_at left place ≡ []) (ends : EndsCalls roles old new place)
      (plays : PlaysLast roles old new was now place) where
    in_it : InLast roles old was place
    in_it = in_last_at old d was left items place r h is at none

    abbrev on : PlaysOnIn HasAnyOrder in_it.in_turn.scene in_it.in_turn.scripts roles old new was now
    on = (plays.each in_it).on

    added : new.journal ≡ old.journal ++ end_entry old ends.role.number ∷ []
    added = ap (λ (v : PortValue). v.journal) ends.appends.appended

    entry_is : on.adds.entry ≡ end_entry old ends.role.number
    entry_is = same_entry old.journal on.adds.entry (end_entry old ends.role.number) (sym on.adds.added ∙ added)

    role_is : ends.role ≡ r
    role_is = same_Some ends.role r (sym ends.at_place ∙ at)

    over_elsewhere : (c : ℕ) → (c ≡ r.number → ⊥) → WereOver old new c
    over_elsewhere c other =
        over_other in_it.in_turn.scene old new on.adds c
        (ap (λ (e : PlainEntry). is_caller e.who c) entry_is
        ∙ (ap (λ (q : Role). is_caller (end_entry old q.number).who c) role_is
        ∙ ne_eqb r.number c (λ e. other (sym e))))

    pub between_last : IsBetween f roles new d now left items
    between_last = record {
      at = record {
        playing = last_goes_on f roles old new d was now (next.Call place) place r h.at.playing is refl
            (can_call f roles old d was place h.at is) at (rests_here old d was left items place r h at none) ends
            plays;
        roles_are = h.at.roles_are;
        next_of_all = h.at.next_of_all;
      };
      frame = h.frame;
      calls = h.calls;
      items_are = h.items_are;
      over = λ i q q_at over. elim (cases_eq q.number r.number) [
        | inl same ↦ ap (λ (j : ℕ). left_at left j) (apart_at f roles old d was h.at place r at i q q_at same) ∙ none
        | inr other ↦ h.over i q q_at (over_elsewhere q.number other over)
      ];
      carrier_over = λ over. elim (cases_eq carrier r.number) [
        | inl same ↦ none_left_by old d was left items place r was.going refl h is at (sym same)
        | inr other ↦ h.carrier_over (over_elsewhere carrier other over)
      ];
    }

    pub less_last : IsOpen old → turns_left new left items < turns_left old left items
    less_last room =
        let gone = one_more f roles old new d was (end_entry old ends.role.number) h.at room added in
        omega (arith, gone.0, gone.1)

  -- ---- an open that waits in vain

  held_call : (lines : Lines) (t : Terminal) (o : Option ModemCall)
      → waits_for_carrier lines t o ≡ true
      → (call : PlainCall) × (o ≡ Some (plain call))
  held_call lines t None waits = absurd (false≢true waits)
  held_call lines t (Some (plain call)) waits = (call, refl)
  held_call lines t (Some (further call)) waits = absurd (false≢true waits)

  right_true : (a b : Bool) → (a && b) ≡ true → b ≡ true
  right_true true b e = e
  right_true false b e = absurd (false≢true e)

  pub told_place : (v : PortValue) (d : DeskState) (stand : Stand) (place : ℕ) (r : Role)
      → IsTurnOf f roles v d stand (next.Tell place)
      → slice_get roles place ≡ Some (get_or roles place r)
  told_place v d stand place r is = let within = is.within in slice_get-get_or roles place r (omega (arith, within))

  told_by_rank : (v : PortValue) (d : DeskState) (stand : Stand) (place : ℕ) (going : Option ℕ)
      → IsNextTurn p f.session v d roles going (next.Tell place)
      → is_told (slice_index (role_numbers roles) place)
      ≡ turn_by_rank (port_now p f.session v) (state_at d 0 []) v.terminal
  told_by_rank v d stand place None is = is.turn
  told_by_rank v d stand place (Some i) is = let e = is.turn in absurd (cc)

  -- what is known of the caller that is told so
  pub record IsTold (v : PortValue) (d : DeskState) (left : List (List ModemCall)) (place : ℕ) (r : Role) : Type 0 where
    pub at_place : slice_get roles place ≡ Some r
    pub vain : AllInVain (port_now p f.session v) (state_at d 0 []) v.terminal
    pub held : open_is_held (port_now p f.session v) (state_at d 0 []) v.terminal r.number ≡ true
    pub call : PlainCall
    pub is_next : slice_get (left_at left place) 0 ≡ Some (plain call)
    pub waits : plain_waits d.lines v.terminal call ≡ true

  abbrev is_told_at : (v : PortValue) (d : DeskState) (stand : Stand) (left : List (List ModemCall))
      (items : List PinStep) (place : ℕ) (r : Role)
      → IsBetween f roles v d stand left items
      → IsTurnOf f roles v d stand (next.Tell place)
      → slice_get roles place ≡ Some r
      → IsTold v d left place r
  is_told_at v d stand left items place r h is at =
      let port = port_now p f.session v in
      let s = state_at d 0 [] in
      let number = role_number roles place r at in
      let told = told_reason_of port s v.terminal _ (slice_index (role_numbers roles) place)
      (reason_of port d 0 v.terminal) (sym (told_by_rank v d stand place stand.going is)) in
      let held : open_is_held port s v.terminal r.number ≡ true =
      subst (λ (c : ℕ). open_is_held port s v.terminal c ≡ true) number told.1 in
      let within : place < length left = let low = is.within in omega (arith, low, h.calls.many) in
      let waits : waits_for_carrier d.lines v.terminal (slice_get (left_at left place) 0) ≡ true =
      subst (λ (o : Option ModemCall). waits_for_carrier d.lines v.terminal o ≡ true)
      ((asked_at f roles v d stand left items h).next_calls place within)
      (subst (λ (c : ℕ). waits_for_carrier d.lines v.terminal (next_call port s v.terminal c) ≡ true) (sym number)
      (right_true (not (caller_at v.terminal r.number).over)
      (waits_for_carrier d.lines v.terminal (next_call port s v.terminal r.number)) held)) in
      let call = held_call d.lines v.terminal (slice_get (left_at left place) 0) waits in
      record {
        at_place = at;
        vain = told.0;
        held = held;
        call = call.0;
        is_next = call.1;
        waits = subst (λ (o : Option ModemCall). waits_for_carrier d.lines v.terminal o ≡ true) call.1 waits;
      }

  takes_told : (v : PortValue) (d : DeskState) (stand : Stand) (left : List (List ModemCall)) (items : List PinStep)
      (place : ℕ) (r : Role)
      → IsBetween f roles v d stand left items
      → IsTurnOf f roles v d stand (next.Tell place)
      → IsPort v
      → IsTold v d left place r
      → TakesCall f roles place v v d (told_idle d (length v.journal) r.number)
      (record { answered = true; stand = stand })
  takes_told v d stand left items place r h is port t =
      let c = r.number in
      let y = told_idle d (length v.journal) c in
      let s = scene_on p h.at.playing.playing.has.session in
      let plays = plays_it f roles v d stand [] h.at.playing in
      let its = next_of f roles v d stand left items place r (plain t.call) h t.at_place t.is_next in
      let number = role_number roles place r t.at_place in
      let rest : begun_at v c ≡ false = elim (test_cases (begun_at v c)) [
        | inl begun ↦ absurd (false≢true
            (sym (subst IsNeverHeld its.has (h.at.playing.never_held c begun) d.lines v.terminal) ∙ t.waits))
        | inr rest ↦ rest
      ] in
      let notes = notes_told f.first f.session v d h.at.playing.desk.at_entry c port rest plays.line
      (waits_kept s (f.scripts s) roles v stand plays) t.vain t.held
      (λ played like agrees j later.
      let it = turn_each f roles (passings_with f.session p d (begun_at v)) v d stand (next.Tell place)
      h.at.playing.desk.at_entry h.at.playing.playing is played like agrees j later in
      (it.0 ∙ ap is_told number, it.1)) in
      record {
        at = record {
          playing = noted_goes_on f roles v d y stand 0 [] _ h.at.playing notes refl
              (λ q begun. step_other d.next c q (step_of d c + 1) (λ same.
              absurd (false≢true
              (sym (subst IsNeverHeld (ap (call_after f.session p d) same ∙ its.has)
              (h.at.playing.never_held q begun) d.lines v.terminal) ∙ t.waits))))
              (λ q. rises_one f roles d y [] c q refl refl its.known);
          roles_are = h.at.roles_are;
          next_of_all = length-set d.next c (step_of d c + 1) ∙ h.at.next_of_all;
        };
        desk = λ q here. subst (λ (z : Role). Advances true z.number d y) (same_Some r q (sym t.at_place ∙ here))
            (record { next = refl; items = refl });
        over = λ q over. over;
        gone = omega arith;
      }

  pub between_told : (v : PortValue) (d x : DeskState) (stand : Stand) (left behind : List (List ModemCall))
      (items : List PinStep) (place : ℕ) (r : Role)
      → IsBetween f roles v d stand left items
      → IsTurnOf f roles v d stand (next.Tell place)
      → IsPort v
      → slice_get roles place ≡ Some r
      → x ≡ told_idle d (length v.journal) r.number
      → behind ≡ slice_set left place (after_next (left_at left place))
      → IsBetween f roles v x stand behind items
  between_told v d x stand left behind items place r h is port at said same =
      let t = is_told_at v d stand left items place r h is at in
      subst (λ (ls : List (List ModemCall)). IsBetween f roles v x stand ls items) (sym same)
      (subst (λ (z : DeskState).
      IsBetween f roles v z stand (slice_set left place (after_next (left_at left place))) items) (sym said)
      (by_answer f roles true v v d _ stand stand left items place r (plain t.call) h at t.is_next
      (takes_told v d stand left items place r h is port t)))

  pub less_told : (v : PortValue) (d : DeskState) (stand : Stand) (left behind : List (List ModemCall))
      (items : List PinStep) (place : ℕ) (r : Role)
      → IsBetween f roles v d stand left items
      → IsTurnOf f roles v d stand (next.Tell place)
      → slice_get roles place ≡ Some r
      → behind ≡ slice_set left place (after_next (left_at left place))
      → turns_left v behind items < turns_left v left items
  less_told v d stand left behind items place r h is at same =
      let t = is_told_at v d stand left items place r h is at in
      subst (λ (ls : List (List ModemCall)). turns_left v ls items < turns_left v left items) (sym same)
      (less_by_answer f roles true v v left items place (plain t.call) t.is_next (omega arith))

  pub told_known : (v : PortValue) (d : DeskState) (stand : Stand) (left : List (List ModemCall))
      (items : List PinStep) (place : ℕ) (r : Role)
      → IsBetween f roles v d stand left items
      → IsTurnOf f roles v d stand (next.Tell place)
      → slice_get roles place ≡ Some r
      → (r.number < length d.next) × (step_of d r.number < 2 ^ 32 - 1)
  told_known v d stand left items place r h is at =
      let t = is_told_at v d stand left items place r h is at in
      let its = next_of f roles v d stand left items place r (plain t.call) h at t.is_next in
      (its.known, its.few)

  -- ---- an item of the modem block

  by_rank_has : (v : PortValue) (d : DeskState) (going : Option ℕ)
      → IsNextTurn p f.session v d roles going next.Pin
      → has_item (port_now p f.session v) (state_at d 0 []) v.terminal ≡ true
  by_rank_has v d None is =
      (pin_reason (port_now p f.session v) (state_at d 0 []) v.terminal _
      (reason_of (port_now p f.session v) d 0 v.terminal) (sym is.turn)).1
  by_rank_has v d (Some i) is = let e = is.turn in absurd (cc)

  pub some_item : (v : PortValue) (d : DeskState) (stand : Stand) (left : List (List ModemCall)) (items : List PinStep)
      → IsBetween f roles v d stand left items
      → IsTurnOf f roles v d stand next.Pin
      → is_some (slice_get items 0) ≡ true
  some_item v d stand left items h is =
      sym (items_at f roles v d stand left items h) ∙ by_rank_has v d stand.going is

  -- `carrier` is not over where an item is left
  runs_by : (items : List PinStep) (step : PinStep) (over : Bool)
      → slice_get items 0 ≡ Some step
      → (over ≡ true → items ≡ [])
      → over ≡ false
  runs_by [] step over is h = absurd (cc)
  runs_by (x ∷ items) step true is h = let e = h refl in absurd (cc)
  runs_by (x ∷ items) step false is h = refl

  pub item_of : (v : PortValue) (d : DeskState) (stand : Stand) (left : List (List ModemCall)) (items : List PinStep)
      (step : PinStep)
      → IsBetween f roles v d stand left items
      → slice_get items 0 ≡ Some step
      → IsItemOf f v d step
  item_of v d stand left items step h is =
      let few = h.items_are.few in
      let from = h.items_are.from in
      let count = h.items_are.count in
      let some = items_length items step is in
      let here : d.items ≡ d.items + 0 = omega arith in
      record {
        runs = runs_by items step (caller_at v.terminal carrier).over is h.carrier_over;
        few = omega (arith, few);
        from = from;
        to = omega (arith, count, some);
        has = ap (λ (n : ℕ). slice_get (items_from p 0 f.session.phases) n) here ∙ h.items_are.each 0 step is;
      }

  pub between_item : (old new : PortValue) (d x : DeskState) (was now : Stand) (left : List (List ModemCall))
      (items behind : List PinStep) (step : PinStep)
      → IsBetween f roles old d was left items
      → slice_get items 0 ≡ Some step
      → TakesItem f roles old new d x now
      → behind ≡ drop 1 items
      → IsBetween f roles new x now left behind
  between_item old new d x was now left items behind step h is t same =
      let some = items_length items step is in
      let count = h.items_are.count in
      let few = h.items_are.few in
      let from = h.items_are.from in
      let runs = runs_by items step (caller_at old.terminal carrier).over is h.carrier_over in
      let left_items : AreItemsLeft p k f.session (d.items + 1) (drop 1 items) = record {
        from = omega (arith, from);
        count = omega (arith, count, some);
        few = omega (arith, few, some);
        each = λ i y y_at.
            let at : d.items + 1 + i ≡ d.items + suc i = omega arith in
            ap (λ (n : ℕ). slice_get (items_from p 0 f.session.phases) n) at
            ∙ h.items_are.each (suc i) y (sym (items_behind items i) ∙ y_at);
        behind =
            let at : d.items + 1 + length (drop 1 items) ≡ d.items + length items = omega (arith, some) in
            ap (λ (n : ℕ). is_of_phase k (slice_get (items_from p 0 f.session.phases) n)) at ∙ h.items_are.behind;
      } in
      record {
        at = t.at;
        frame = h.frame;
        calls = subst (λ (ns : List ℕ). AreCallsLeft p k f.session roles ns left) (sym t.next) h.calls;
        items_are = subst (λ (ys : List PinStep). AreItemsLeft p k f.session x.items ys) (sym same)
            (subst (λ (n : ℕ). AreItemsLeft p k f.session n (drop 1 items)) (sym t.items) left_items);
        over = λ i r at over. h.over i r at (t.over r.number over);
        carrier_over = λ over. absurd (false≢true (sym runs ∙ t.over carrier over));
      }

  pub less_item : (old new : PortValue) (d x : DeskState) (now : Stand) (left : List (List ModemCall))
      (items behind : List PinStep) (step : PinStep)
      → slice_get items 0 ≡ Some step
      → TakesItem f roles old new d x now
      → behind ≡ drop 1 items
      → turns_left new left behind < turns_left old left items
  less_item old new d x now left items behind step is t same =
      omega (arith, t.gone, items_length items step is, ap (λ (ys : List PinStep). length ys) same)

  -- ---- the end of the phase

  -- a caller of the phase, or none
  record HasRole (c : ℕ) (rs : List Role) : Type 0 where
    place : ℕ
    role : Role
    at_place : slice_get rs place ≡ Some role
    is : role.number ≡ c

  no_role : (c i : ℕ) (r : Role) → slice_get [] i ≡ Some r → ⊥
  no_role c i r e = absurd (cc)

  role_or_none : (c : ℕ) (rs : List Role) → HasRole c rs ⊎ IsAbsent rs c
  role_or_none c [] = inr (λ i r at is. no_role c i r at)
  role_or_none c (q ∷ rs) = elim (cases_eq q.number c) [
    | inl same ↦ inl (record { place = 0; role = q; at_place = refl; is = same })
    | inr other ↦ elim (role_or_none c rs) [
      | inl h ↦ inl (record { place = suc h.place; role = h.role; at_place = h.at_place; is = h.is })
      | inr absent ↦ inr (absent_more c q rs other absent)
    ]
  ]
    where
      absent_more : (c : ℕ) (q : Role) (rs : List Role) → (q.number ≡ c → ⊥) → IsAbsent rs c → IsAbsent (q ∷ rs) c
      absent_more c q rs other absent zero r at is = other (ap (λ (x : Role). x.number) (same_Some q r at) ∙ is)
      absent_more c q rs other absent (suc i) r at is = absent i r at is

  over_of : (v : PortValue) (d : DeskState) (stand : Stand)
      → IsAtTurn f roles v d stand
      → IsTurnOf f roles v d stand next.End
      → (i : ℕ) (r : Role)
      → slice_get roles i ≡ Some r
      → (caller_at v.terminal r.number).over ≡ true
  over_of v d stand at is i r here =
      subst (λ (n : ℕ). (caller_at v.terminal n).over ≡ true) (role_number roles i r here)
      ((nothing_left v roles stand.going (can_end f roles v d stand at is)).over i
      (omega (arith, slice_get_within roles i r here, length-map roles (λ (x : Role). x.number))))

  steps_at : (v : PortValue) (d : DeskState) (stand : Stand) (left : List (List ModemCall)) (items : List PinStep)
      → IsBetween f roles v d stand left items
      → IsTurnOf f roles v d stand next.End
      → (c : ℕ)
      → (c ≡ carrier → ⊥)
      → step_of d c ≡ begin_of p (block_phases f.session) (k + 1) c
  steps_at v d stand left items h is c other = elim (role_or_none c roles) [
    | inl q ↦ elim (place_cases left q.place q.role h.calls.many q.at_place) [
      | inl within ↦
          let over = over_of v d stand h.at is q.place q.role q.at_place in
          let own : IsLeftTo p k (block_phases f.session) (modem_call_at p f.session) d.next q.role.number [] =
          subst (λ (cs : List ModemCall).
          IsLeftTo p k (block_phases f.session) (modem_call_at p f.session) d.next q.role.number cs)
          (h.over q.place q.role q.at_place over) (h.calls.each q.place q.role q.at_place within) in
          let count : step_of d q.role.number + 0 ≡ begin_of p (block_phases f.session) (k + 1) q.role.number =
          own.count in
          subst (λ (n : ℕ). step_of d n ≡ begin_of p (block_phases f.session) (k + 1) n) q.is (omega (arith, count))
      | inr same ↦ absurd (other (sym q.is ∙ last_role v d stand left items q.place q.role h q.at_place same))
    ]
    | inr absent ↦ h.calls.others c absent
  ]

  items_done : (v : PortValue) (d : DeskState) (stand : Stand) (left : List (List ModemCall)) (items : List PinStep)
      → IsBetween f roles v d stand left items
      → IsTurnOf f roles v d stand next.End
      → d.items ≡ begin_of p (block_phases f.session) (k + 1) carrier
  items_done v d stand left items h is =
      let there = carrier_place f roles v d stand h.at in
      let r = has_role f roles roles (length roles - 1) (omega (arith, there.0)) in
      let its : r.0.number ≡ carrier = sym (role_number roles (length roles - 1) r.0 r.1) ∙ there.1 in
      let over : (caller_at v.terminal carrier).over ≡ true =
      subst (λ (c : ℕ). (caller_at v.terminal c).over ≡ true) its (over_of v d stand h.at is (length roles - 1) r.0 r.1)
      in
      let none = ap (λ (ys : List PinStep). length ys) (h.carrier_over over) in
      let count = h.items_are.count in
      omega (arith, count, none)

  pub ends_turns : (v new : PortValue) (putter now : PutterState Flagged) (d : DeskState) (stand : Stand)
      (left : List (List ModemCall)) (items : List PinStep) (run : ℕ)
      → IsBetween f roles v d stand left items
      → IsTurnOf f roles v d stand next.End
      → PlaysEnd roles v new putter now stand run
      → AddsEntry v new
      → IsPort v
      → IsPort new
      → EndsTurns f roles new putter now d run
  ends_turns v new putter now d stand left items run h is ends adds port later = record {
    last = v;
    stand = stand;
    at = h.at;
    is_end = is;
    ends = ends;
    adds = adds;
    was_port = port;
    is_port = later;
    steps = steps_at v d stand left items h is;
    items = items_done v d stand left items h is;
  }
