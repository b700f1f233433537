-- A player of a port with modem lines, turn by turn.
use Rattle.std.proofs.Common.{◌≡◌, ◌≤◌, ◌<◌, ◌⊎◌, inl, inr, ℕ, ◌+◌, ◌-◌, ◌==◌, Bool, true, false}
use Rattle.std.proofs.Common.{List, [], ◌∷◌, ◌++◌, Option, None, Some, length, if◌then◌else◌}
use Rattle.std.proofs.Common.{refl, sym, ap, ◌∙◌, subst, arith, append-nil}
use Rattle.std.specs.Prelude.{All, slice_get, slice_index, slice_index_or, slice_set}
use Rattle.std.proofs.lemmas.Bool.{cases_eq, false≢true, ne_eqb, eq-eqb}
use Rattle.std.proofs.lemmas.List.Elements.{All-append, All-cons, All-nil}
use Rattle.tty_calls.specs.declared.journals.Who.{Who}
use Rattle.tty_calls.specs.declared.journals.Who.TheVariants.{Caller}
use Rattle.tty_calls.specs.Limits.{IsCallWithin}
use Rattle.tty_calls.specs.Plain.{PlainCall, hangs_up, PlainAnswer, done, PlainEntry, is_caller}
use Rattle.tty_calls.specs.Sessions.{PlainSession, call_at, counts_on}
use Rattle.tty_terminal.specs.Terminals.{caller_at}
use Rattle.tty_terminal.specs.Runs.{is_of_call}
use Rattle.tty_terminal.specs.Steps.{IsAllowed}
use Rattle.passed_calls.specs.Derived.{Passing, BlockPhase, by_caller}
use Rattle.passed_calls.specs.Journals.{Journal}
use Rattle.passed_calls.specs.Scripts.{plain}
use Rattle.passed_calls.specs.Within.{AreBlocksWithin}
use Rattle.port_core.specs.Attempts.{PlainTried, done_by, took_part, must_wait, Attempts}
use Rattle.port_core.specs.Ports.{PortValue, end_entry}
use Rattle.legal_runs.specs.Order.{IsPieceOf}
use Rattle.play_base.specs.Roles.{Scene}
use Rattle.play_base.specs.Scenes.{HasAnyOrder}
use Rattle.one_thread.specs.Turns.{role_numbers, who_of, IsPossible, PlaysIn, PlaysOnIn, TakesTurn}
use Rattle.one_thread.specs.Acts.{AddsEntry, PlaysTurn, MakesCall, TriesCall, PlaysCall, EndsCalls, PlaysLast}
use Rattle.play_base.specs.declared.roles.Role.{Role}
use Rattle.one_thread.specs.declared.after_line.Stand.{Stand}
use Rattle.one_thread.specs.declared.after_line.Turn.{Turn}
use Rattle.one_thread.specs.declared.after_line.Turn.TheVariants as turn
use Rattle.one_thread.proofs.Entries.{place_is}
use Rattle.order_laws.specs.Agreed.{Agrees, IsLike}
use Rattle.order_laws.proofs.Agreeing.{before_all}
use Rattle.order_laws.specs.Passed.{begin_of, IsOfBlocks, PassesMore}
use Rattle.order_laws.specs.Witness.{scene_on, IsPlayingIn, IsCallingIn}
use Rattle.order_laws.specs.Later.{IsLater, ComesBy, WasAnswered}
use Rattle.order_laws.specs.Begun.{begun_at, begun_with}
use Rattle.order_laws.proofs.InOrders.{same_entry}
use Rattle.order_laws.proofs.Possible.{any_in_turn, any_turn_on, any_in_call, any_call_on, any_in_last}
use Rattle.order_laws.proofs.Possible.{any_last_on, turn_taken, call_taken, last_taken}
use Rattle.order_laws.proofs.BegunBefore.{begun_same, begun_still, begun_elsewhere, begun_by_none}
use Rattle.order_laws.proofs.Attempted.{makes_as, attempts_as, begins, other_is, who_is, step_is}
use Rattle.order_laws.proofs.Attempted.{begins_by_wait, begins_by_part, begun_now, was_answered, ended_now}
use Rattle.order_laws.proofs.Steps.{tail, tail_same, tail_none, tail_one, step_own, step_other}
use Rattle.order_laws.proofs.Steps.{before_more}
use Rattle.order_laws.proofs.Callings.{comes, kept_grows, begun_elsewhere_too, begun_here, and_then, passes_then}
use Rattle.order_laws.proofs.Callings.{rests_at, begun_then, plays_as, more_is_next, next_begins, next_continues}
use Rattle.modem_text.specs.Events.{ModemEvent, passed, carrier_lost, ModemLog}
use Rattle.modem_text.specs.Sessions.{ModemCall, ModemSession}
use Rattle.modem_steps.specs.Derived.{block_phases, carrier_on, modem_call_at, plain_call, passings_on}
use Rattle.modem_steps.specs.Order.{goes_on, modem_turn}
use Rattle.modem_one.specs.declared.turns.Next.{Next}
use Rattle.modem_one.specs.Desk.{DeskState, step_of, state_at}
use Rattle.modem_one.specs.Later.{port_with}
use Rattle.modem_one.specs.Playing.{Frame, call_after, next_passing, passings_with, hangup_of, hangup_with}
use Rattle.modem_one.specs.Playing.{AreLoggedBefore, step_next, IsNeverHeld, IsPlayingModems}
use Rattle.modem_one.specs.Turns.{whose, IsNextTurn}
use Rattle.modem_one.proofs.DeskEvents.{Notes, desk_entry, desk_notes}
use Rattle.modem_one.proofs.Following.{logged_more, by_own, by_other, items_logged, more_on}
use Rattle.modem_one.proofs.Logging.{log_stays}
use Rattle.modem_one.proofs.NeverHeld.{never_by_entry}
use Rattle.modem_one.proofs.Ordering.{here, entry_more, IsEntryInTurn}
use Rattle.modem_one.proofs.Whose.{turn_now, hangup_now}

module _ (f : Frame) (roles : List Role) where
  abbrev p : ℕ
  p = f.first.port

  abbrev session : ModemSession
  session = f.session

  abbrev carrier : ℕ
  carrier = carrier_on p session

  abbrev phases : List BlockPhase
  phases = block_phases session

  -- some session is played, and each that agrees with the port, with these passings of each caller
  abbrev Plays : (ℕ → List Passing) → PortValue → Stand → Type 0
  Plays mine v stand = IsPlayingIn HasAnyOrder f.first phases f.scripts roles f.start mine v f.ticks stand

  abbrev logged : DeskState → ℕ → List Passing
  logged d c = by_caller c (passings_on session d.log p)

  -- ---- whose turn it is, in each session that agrees with the port

  pub plays_each : (mine : ℕ → List Passing) (v : PortValue) (stand : Stand) (played : PlainSession)
      → Plays mine v stand
      → IsLike f.first (scene_on p played)
      → Agrees (scene_on p played) v
      → PlaysIn HasAnyOrder (scene_on p played) (f.scripts (scene_on p played)) roles v stand
  plays_each mine v stand played h like agrees = (h.each.each (scene_on p played) like agrees).plays

  pub turn_each : (mine : ℕ → List Passing) (v : PortValue) (d : DeskState) (stand : Stand) (next : Next) (at : ℕ)
      → Plays mine v stand
      → IsNextTurn p session v d roles stand.going next
      → (played : PlainSession)
      → IsLike f.first (scene_on p played)
      → Agrees (scene_on p played) v
      → (j : Journal)
      → IsLater v j
      → (modem_turn played (port_with p session j) (state_at d at []) (here f.first played v)
      ≡ whose (role_numbers roles) next) × ((here f.first played v).terminal ≡ v.terminal)
  turn_each mine v d stand next at h is played like agrees j later =
      let plays = plays_each mine v stand played h like agrees in (
        turn_now f.first session played (f.scripts (scene_on p played)) roles v d stand plays next at j later is,
        place_is (scene_on p played) v plays.run,
      )

  -- an entry that each session takes in this turn
  taken_in_turn : (mine : ℕ → List Passing) (old new : PortValue) (d : DeskState) (was now : Stand) (at : ℕ)
      (due : List ℕ) (taken : Turn) (e : PlainEntry)
      → Plays mine old was
      → ComesBy old new (e ∷ [])
      → ((s : Scene) → IsLike f.first s → Agrees s new → TakesTurn s (f.scripts s) roles old new was now taken)
      → ((played : PlainSession)
      → IsLike f.first (scene_on p played)
      → Agrees (scene_on p played) old
      → (j : Journal)
      → IsLater old j
      → modem_turn played (port_with p session j) (state_at d at due) (here f.first played old)
      ≡ goes_on (who_of (role_numbers roles) taken))
      → IsEntryInTurn f.first session old new (state_at d at due) e
  taken_in_turn mine old new d was now at due taken e h by takes turns = record {
    turn = λ played like agrees j later.
        let s = scene_on p played in
        let took = takes s like agrees in
        let same : took.on.adds.entry ≡ e = same_entry old.journal took.on.adds.entry e
        (sym took.on.adds.added ∙ by.added) in
        turns played like (before_all s old new (e ∷ []) by.added by.grows agrees) j later
        ∙ ap goes_on (sym took.who ∙ ap (λ (x : PlainEntry). x.who) same);
    piece = λ played like agrees.
        let s = scene_on p played in
        let took = takes s like agrees in
        let same : took.on.adds.entry ≡ e = same_entry old.journal took.on.adds.entry e
        (sym took.on.adds.added ∙ by.added) in
        subst (λ (x : PlainEntry). IsPieceOf p played (here f.first played old) x.part x.event) same
        took.on.adds.piece;
  }

  -- ---- a flush, a tick, or the end of the clock

  pub turn_goes_on : (old new : PortValue) (d : DeskState) (was now : Stand) (next : Next) (taken : Turn)
      → IsPlayingModems f roles old d was []
      → IsNextTurn p session old d roles was.going next
      → whose (role_numbers roles) next ≡ goes_on (who_of (role_numbers roles) taken)
      → IsPossible old (role_numbers roles) was.going taken
      → ((c : ℕ) → is_caller (who_of (role_numbers roles) taken) c ≡ false)
      → PlaysTurn roles old new was now taken
      → AddsEntry old new
      → IsPlayingModems f roles new d now []
  turn_goes_on old new d was now next taken h is who possible none plays adds =
      let mine = passings_with session p d (begun_at old) in
      let s = scene_on p h.playing.has.session in
      let at = any_in_turn f.first phases f.scripts roles f.start mine old f.ticks was taken h.playing possible in
      let takes : TakesTurn s (f.scripts s) roles old new was now taken = plays.each at in
      let on = takes.on in
      let other : (c : ℕ) → is_caller on.adds.entry.who c ≡ false =
      λ c. ap (λ (w : Who). is_caller w c) takes.who ∙ none c in
      let by : ComesBy old new (on.adds.entry ∷ []) =
      comes s old new (on.adds.entry ∷ []) at.plays.of_scene on.plays.of_scene on.adds.added
      (kept_grows old new adds.kept) in
      record {
        playing = plays_as HasAnyOrder f.first phases f.scripts roles f.start f.ticks mine
            (passings_with session p d (begun_at new)) new now
            (λ c. ap (λ (b : Bool). by_caller c (passings_on session d.log p) ++ tail b (next_passing session p d c))
            (sym (begun_same s old new on.adds c (other c))))
            (any_turn_on f.first phases f.scripts roles f.start mine old new f.ticks was now taken h.playing possible
            none plays adds);
        desk = desk_entry f.first session old new d on.adds.entry by h.desk
            (taken_in_turn mine old new d was now h.desk.at_entry [] taken on.adds.entry h.playing by
            (turn_taken f.first f.scripts roles f.start old new f.ticks was now taken h.playing.each possible plays
            adds)
            (λ played like agrees j later.
            (turn_each mine old d was next h.desk.at_entry h.playing is played like agrees j later).0 ∙ who));
        logged_before = h.logged_before;
        carrier_rests = begun_same s old new on.adds carrier (other carrier) ∙ h.carrier_rests;
        never_held = λ c begun. h.never_held c (begun_elsewhere s old new on.adds c (other c) begun).0;
      }

  -- ---- the end of a caller's calls

  pub last_goes_on : (old new : PortValue) (d : DeskState) (was now : Stand) (next : Next) (place : ℕ) (r : Role)
      → IsPlayingModems f roles old d was []
      → IsNextTurn p session old d roles was.going next
      → whose (role_numbers roles) next ≡ goes_on (who_of (role_numbers roles) (turn.Call place))
      → IsPossible old (role_numbers roles) was.going (turn.Call place)
      → slice_get roles place ≡ Some r
      → begun_at old r.number ≡ false
      → EndsCalls roles old new place
      → PlaysLast roles old new was now place
      → IsPlayingModems f roles new d now []
  last_goes_on old new d was now next place r h is who possible at rest ends plays =
      let mine = passings_with session p d (begun_at old) in
      let s = scene_on p h.playing.has.session in
      let in_it = any_in_last f.first phases f.scripts roles f.start mine old f.ticks was place r h.playing possible at
      rest in
      let on : PlaysOnIn HasAnyOrder s (f.scripts s) roles old new was now = (plays.each in_it).on in
      let added : new.journal ≡ old.journal ++ end_entry old ends.role.number ∷ [] =
      ap (λ (v : PortValue). v.journal) ends.appends.appended in
      let entry : end_entry old ends.role.number ≡ on.adds.entry =
      same_entry old.journal (end_entry old ends.role.number) on.adds.entry (sym added ∙ on.adds.added) in
      let none : is_of_call on.adds.entry.event ≡ false = sym (ap (λ (e : PlainEntry). is_of_call e.event) entry) in
      let kept : new.kept ≡ old.kept = ap (λ (v : PortValue). v.kept) ends.appends.appended in
      let by : ComesBy old new (on.adds.entry ∷ []) =
      comes s old new (on.adds.entry ∷ []) in_it.in_turn.plays.of_scene on.plays.of_scene on.adds.added
      (kept_grows old new kept) in
      record {
        playing = plays_as HasAnyOrder f.first phases f.scripts roles f.start f.ticks mine
            (passings_with session p d (begun_at new)) new now
            (λ c. ap (λ (b : Bool). by_caller c (passings_on session d.log p) ++ tail b (next_passing session p d c))
            (sym (begun_still s old new on.adds c none)))
            (any_last_on f.first phases f.scripts roles f.start mine old new f.ticks was now place r h.playing possible
            at rest ends plays);
        desk = desk_entry f.first session old new d on.adds.entry by h.desk
            (taken_in_turn mine old new d was now h.desk.at_entry [] (turn.Call place) on.adds.entry h.playing by
            (last_taken f.first f.scripts roles f.start old new f.ticks was now place h.playing.each possible ends
            plays)
            (λ played like agrees j later.
            (turn_each mine old d was next h.desk.at_entry h.playing is played like agrees j later).0 ∙ who));
        logged_before = h.logged_before;
        carrier_rests = begun_still s old new on.adds carrier none ∙ h.carrier_rests;
        never_held = λ c begun. h.never_held c (begun_by_none s old new on.adds c none begun).0;
      }

  -- ---- a call that is answered without the port, or an item of the modem block

  -- the desk notes an event that passes nothing down, and no step of a caller that has begun a call changes
  pub noted_goes_on : (v : PortValue) (d x : DeskState) (stand : Stand) (at : ℕ) (due : List ℕ) (event : ModemEvent)
      → (h : IsPlayingModems f roles v d stand [])
      → Notes f.first session v d x h.desk.at_entry [] due event
      → more_on session d.log p event ≡ []
      → ((c : ℕ) → begun_at v c ≡ true → step_of x c ≡ step_of d c)
      → ((c : ℕ) → step_next session p d [] c ≤ step_next session p x due c)
      → IsPlayingModems f roles v x stand due
  noted_goes_on v d x stand at due event h notes none steps rises =
      let log_is : x.log ≡ d.log ++ record { port = p; at = length v.journal; event = event } ∷ [] =
      notes.log ∙ ap (λ (q : ℕ). d.log ++ record { port = q; at = length v.journal; event = event } ∷ [])
      (sym h.desk.number) in
      let same : passings_on session x.log p ≡ passings_on session d.log p =
      ap (λ (log : ModemLog). passings_on session log p) log_is
      ∙ logged_more session d.log p (length v.journal) event none in
      record {
        playing = plays_as HasAnyOrder f.first phases f.scripts roles f.start f.ticks
            (passings_with session p d (begun_at v)) (passings_with session p x (begun_at v)) v stand
            (λ c. (λ i. by_caller c (sym same i) ++ tail (begun_at v c) (next_passing session p d c))
            ∙ ap (λ (ms : List Passing). by_caller c (passings_on session x.log p) ++ ms)
            (tail_same (begun_at v c) (next_passing session p d c) (next_passing session p x c) (λ begun.
            ap (λ (n : ℕ). record { caller = c; step = n; calls = plain_call (modem_call_at p session c n) })
            (sym (steps c begun)))))
            h.playing;
        desk = desk_notes f.first session v d x h.desk.at_entry [] due event h.desk.number h.desk.logged h.desk.ordered
            notes;
        logged_before = λ c. before_more (by_caller c (passings_on session x.log p)) (step_next session p d [] c)
            (step_next session p x due c) (rises c)
            (subst (λ (ms : List Passing). All (λ m. m.step < step_next session p d [] c) (by_caller c ms)) (sym same)
            (h.logged_before c));
        carrier_rests = h.carrier_rests;
        never_held = λ c begun. subst (λ (n : ℕ). IsNeverHeld (modem_call_at p session c n)) (sym (steps c begun))
            (h.never_held c begun);
      }

  -- ---- a call that is passed down

  abbrev pub with_call : DeskState → PortValue → ℕ → ℕ → List Passing
  with_call d v c = passings_with session p d (begun_with v c)

  one_call : (o : Option ModemCall) (call : PlainCall) → o ≡ Some (plain call) → plain_call o ≡ call ∷ []
  one_call o call is = ap plain_call is

  choose : (b : Bool) (x y : ℕ) → b ≡ false → (if b then x else y) ≡ y
  choose true x y e = absurd (false≢true (sym e))
  choose false x y e = refl

  -- of a caller its next step is that of the desk
  step_is_next : (d : DeskState) (due : List ℕ) (c : ℕ) → (c ≡ carrier → ⊥) → step_next session p d due c ≡ step_of d c
  step_is_next d due c other = choose (c == carrier) (d.items - length due) (step_of d c) (ne_eqb c carrier other)

  -- a new one
  pub call_begins : (v : PortValue) (d : DeskState) (stand : Stand) (place : ℕ) (r : Role) (call : PlainCall)
      → IsPlayingModems f roles v d stand []
      → IsPossible v (role_numbers roles) stand.going (turn.Call place)
      → slice_get roles place ≡ Some r
      → (r.number ≡ carrier → ⊥)
      → begun_at v r.number ≡ false
      → IsOfBlocks p phases f.first.session
      → AreBlocksWithin f.first.session.ports f.first.session.flips phases
      → IsCallWithin call
      → call_after session p d r.number ≡ Some (plain call)
      → begin_of p phases v.terminal.phase r.number ≤ step_of d r.number
      → step_of d r.number < begin_of p phases (v.terminal.phase + 1) r.number
      → IsCallingIn HasAnyOrder f.first phases f.scripts roles f.start (with_call d v r.number) v f.ticks stand place
      call
  call_begins v d stand place r call h possible at is_caller rest blocks limits good has low high =
      next_begins HasAnyOrder f.first phases f.scripts roles f.start f.ticks (logged d) (next_passing session p d) v
      stand place r
      call h.playing possible at rest blocks limits refl (one_call (call_after session p d r.number) call has) good
      (subst (λ (n : ℕ). AreLoggedBefore session d.log p r.number n) (step_is_next d [] r.number is_caller)
      (h.logged_before r.number)) low high

  -- one that its caller has begun
  pub call_continues : (v : PortValue) (d : DeskState) (stand : Stand) (place : ℕ) (r : Role) (call : PlainCall)
      → IsPlayingModems f roles v d stand []
      → slice_get roles place ≡ Some r
      → begun_at v r.number ≡ true
      → call_after session p d r.number ≡ Some (plain call)
      → IsCallingIn HasAnyOrder f.first phases f.scripts roles f.start (with_call d v r.number) v f.ticks stand place
      call
  call_continues v d stand place r call h at begun has =
      next_continues HasAnyOrder f.first phases f.scripts roles f.start f.ticks (logged d) (next_passing session p d) v
      stand place r
      call h.playing at begun (one_call (call_after session p d r.number) call has)

  -- what an attempt of a call comes to in the session that is played
  pub record Tries (old new : PortValue) (d : DeskState) (was now : Stand) (place : ℕ) (r : Role) (call : PlainCall)
      (tried : PlainTried) : Type 0 where
    pub calling : IsCallingIn HasAnyOrder f.first phases f.scripts roles f.start (with_call d old r.number) old f.ticks
        was place call
    pub possible : IsPossible old (role_numbers roles) was.going (turn.Call place)
    pub at_place : slice_get roles place ≡ Some r
    pub is_caller : r.number ≡ carrier → ⊥
    pub has : call_after session p d r.number ≡ Some (plain call)
    pub tries : TriesCall roles old new place call tried
    pub plays : PlaysCall roles old new was now place call

  -- an attempt that is not answered: the call has begun
  pub call_waits : (old new : PortValue) (d : DeskState) (was now : Stand) (next : Next) (place : ℕ) (r : Role)
      (call : PlainCall) (tried : PlainTried)
      → IsPlayingModems f roles old d was []
      → IsNextTurn p session old d roles was.going next
      → whose (role_numbers roles) next ≡ goes_on (who_of (role_numbers roles) (turn.Call place))
      → Tries old new d was now place r call tried
      → (tried ≡ must_wait) ⊎ (tried ≡ took_part)
      → IsPlayingModems f roles new d now []
  call_waits old new d was now next place r call tried h is who t waits =
      let c = r.number in
      let mine = passings_with session p d (begun_at old) in
      let more = with_call d old c in
      let s = scene_on p t.calling.has.session in
      let in_it = any_in_call f.first phases f.scripts roles f.start more old f.ticks was place call t.calling
      t.possible in
      let on : PlaysOnIn HasAnyOrder s (f.scripts s) roles old new was now = (t.plays.each in_it).on in
      let makes = makes_as roles old new place r call t.at_place tried t.tries in
      let attempts = attempts_as roles old new place r call t.at_place tried t.tries in
      let by : ComesBy old new (on.adds.entry ∷ []) =
      comes s old new (on.adds.entry ∷ []) in_it.in_turn.plays.of_scene on.plays.of_scene on.adds.added makes.grows in
      let begins_it : begins on.adds.entry.event ≡ true = elim waits [
        | inl wait ↦ begins_by_wait old new c call makes s on.adds
            (subst (λ (x : PlainTried). Attempts old new c (caller_at old.terminal c).next call x) wait attempts)
        | inr part ↦ begins_by_part old new c call makes s on.adds
            (subst (λ (x : PlainTried). Attempts old new c (caller_at old.terminal c).next call x) part attempts)
      ] in
      let begun = begun_now old new c call makes s on.adds begins_it in
      let others : (x : ℕ) → (x ≡ c → ⊥) → is_caller on.adds.entry.who x ≡ false =
      λ x other. other_is old new c call makes s on.adds x other in
      let same : (x : ℕ) → more x ≡ passings_with session p d (begun_at new) x =
      begun_then s old new on.adds (logged d) (next_passing session p d) c begun.0 others in
      let known : call_at p t.calling.has.session c on.adds.entry.step ≡ Some call =
      ap (λ (n : ℕ). call_at p t.calling.has.session c n) (step_is old new c call makes s on.adds)
      ∙ on.plays.of_scene.known c (caller_at old.terminal c).next call makes.kept in
      let never : IsNeverHeld (call_after session p d c) =
      subst IsNeverHeld (sym t.has)
      (never_by_entry (call_at p t.calling.has.session) (counts_on p t.calling.has.session) old.terminal c
      on.adds.entry.step on.adds.entry.part on.adds.entry.event call begins_it
      (subst (λ (w : Who). IsAllowed (call_at p t.calling.has.session) (counts_on p t.calling.has.session) old.terminal
      w on.adds.entry.step on.adds.entry.part on.adds.entry.event) (who_is old new c call makes s on.adds)
      on.adds.allowed.1) known) in
      record {
        playing = plays_as HasAnyOrder f.first phases f.scripts roles f.start f.ticks more
            (passings_with session p d (begun_at new)) new now same
            (any_call_on f.first phases f.scripts roles f.start more old new f.ticks was now place call tried t.calling
            t.possible t.tries t.plays);
        desk = desk_entry f.first session old new d on.adds.entry by h.desk
            (taken_in_turn mine old new d was now h.desk.at_entry [] (turn.Call place) on.adds.entry h.playing by
            (call_taken f.first f.scripts roles f.start old new f.ticks was now place call tried h.playing.each
            t.possible t.tries t.plays)
            (λ played like agrees j later.
            (turn_each mine old d was next h.desk.at_entry h.playing is played like agrees j later).0 ∙ who));
        logged_before = h.logged_before;
        carrier_rests = begun_same s old new on.adds carrier (others carrier (λ e. t.is_caller (sym e)))
            ∙ h.carrier_rests;
        never_held = λ x begins_x. elim (cases_eq x c) [
          | inl own_one ↦ subst (λ (y : ℕ). IsNeverHeld (call_after session p d y)) (sym own_one) never
          | inr other ↦ h.never_held x (begun_elsewhere s old new on.adds x (others x other) begins_x).0
        ];
      }

  -- a step that rose, and those that stay
  next_other : (d y : DeskState) (due : List ℕ) (c x n : ℕ)
      → y.next ≡ slice_set d.next c n
      → y.items ≡ d.items
      → (x ≡ c → ⊥)
      → step_next session p y due x ≡ step_next session p d due x
  next_other d y due c x n rose same other =
      let step : step_of y x ≡ step_of d x =
      ap (λ (ns : List ℕ). slice_index_or ns x 0) rose ∙ step_other d.next c x n other in
      λ i. if x == carrier then same i - length due else step i

  -- .. and one that is
  pub call_answered : (old new : PortValue) (d x : DeskState) (was now : Stand) (next : Next) (place : ℕ) (r : Role)
      (call : PlainCall) (answer : PlainAnswer)
      → (h : IsPlayingModems f roles old d was [])
      → IsNextTurn p session old d roles was.going next
      → whose (role_numbers roles) next ≡ goes_on (who_of (role_numbers roles) (turn.Call place))
      → Tries old new d was now place r call (done_by answer)
      → r.number < length d.next
      → x.next ≡ slice_set d.next r.number (step_of d r.number + 1)
      → x.items ≡ d.items
      → ((e : PlainEntry)
      → ComesBy old new (e ∷ [])
      → WasAnswered new r.number (caller_at old.terminal r.number).next answer
      → new.terminal.phase ≡ old.terminal.phase
      → Notes f.first session new d x h.desk.at_entry [] [] (passed r.number (step_of d r.number) answer))
      → IsPlayingModems f roles new x now []
  call_answered old new d x was now next place r call answer h is who t known rose items notes_by =
      let c = r.number in
      let tried = done_by answer in
      let mine = passings_with session p d (begun_at old) in
      let more = with_call d old c in
      let m = next_passing session p d c in
      let ms = by_caller c (passings_on session d.log p) in
      let event : ModemEvent = passed c (step_of d c) answer in
      let s = scene_on p t.calling.has.session in
      let in_it = any_in_call f.first phases f.scripts roles f.start more old f.ticks was place call t.calling
      t.possible in
      let on : PlaysOnIn HasAnyOrder s (f.scripts s) roles old new was now = (t.plays.each in_it).on in
      let makes = makes_as roles old new place r call t.at_place tried t.tries in
      let attempts = attempts_as roles old new place r call t.at_place tried t.tries in
      let by : ComesBy old new (on.adds.entry ∷ []) =
      comes s old new (on.adds.entry ∷ []) in_it.in_turn.plays.of_scene on.plays.of_scene on.adds.added makes.grows in
      let notes = notes_by on.adds.entry by (was_answered old new c call makes s on.adds answer attempts)
      on.adds.phase in
      let log_is : x.log ≡ d.log ++ record { port = p; at = length new.journal; event = event } ∷ [] =
      notes.log ∙ ap (λ (q : ℕ). d.log ++ record { port = q; at = length new.journal; event = event } ∷ [])
      (sym h.desk.number) in
      let rest : begun_at new c ≡ false = ended_now old new c call makes s on.adds answer attempts in
      let others : (y : ℕ) → (y ≡ c → ⊥) → is_caller on.adds.entry.who y ≡ false =
      λ y other. other_is old new c call makes s on.adds y other in
      let own_then : by_caller c (passings_on session x.log p) ≡ ms ++ m ∷ [] =
      ap (λ (log : ModemLog). by_caller c (passings_on session log p)) log_is
      ∙ by_own session d.log p (length new.journal) c event m refl refl in
      let other_then : (y : ℕ)
      → (y ≡ c → ⊥)
      → by_caller y (passings_on session x.log p) ≡ by_caller y (passings_on session d.log p) =
      λ y other.
      ap (λ (log : ModemLog). by_caller y (passings_on session log p)) log_is
      ∙ by_other session d.log p (length new.journal) y event m refl (λ e. other (sym e)) in
      let stays : (y : ℕ) → (y ≡ c → ⊥) → step_of x y ≡ step_of d y =
      λ y other. ap (λ (ns : List ℕ). slice_index_or ns y 0) rose ∙ step_other d.next c y (step_of d c + 1) other in
      let elsewhere : (y : ℕ) → (y ≡ c → ⊥) → more y ≡ passings_with session p x (begun_at new) y =
      λ y other.
      ap (λ (b : Bool). by_caller y (passings_on session d.log p) ++ tail b (next_passing session p d y))
      (begun_elsewhere_too old c y other ∙ sym (begun_same s old new on.adds y (others y other)))
      ∙ ((λ i.
      sym (other_then y other) i
      ++ tail (begun_at new y) (record {
        caller = y;
        step = sym (stays y other) i;
        calls = plain_call (modem_call_at p session y (sym (stays y other) i));
      }))) in
      let here_too : more c ≡ passings_with session p x (begun_at new) c =
      ap (λ (xs : List Passing). ms ++ xs) (tail_one (begun_with old c c) m (begun_here old c))
      ∙ sym
      (ap (λ (xs : List Passing). by_caller c (passings_on session x.log p) ++ xs)
      (tail_none (begun_at new c) (next_passing session p x c) rest)
      ∙ (append-nil (by_caller c (passings_on session x.log p)) ∙ own_then)) in
      let before : AreLoggedBefore session d.log p c (step_of d c) =
      subst (λ (n : ℕ). AreLoggedBefore session d.log p c n) (step_is_next d [] c t.is_caller) (h.logged_before c) in
      let entered = desk_entry f.first session old new d on.adds.entry by h.desk
      (taken_in_turn mine old new d was now h.desk.at_entry [] (turn.Call place) on.adds.entry h.playing by
      (call_taken f.first f.scripts roles f.start old new f.ticks was now place call tried h.playing.each
      t.possible t.tries t.plays)
      (λ played like agrees j later.
      (turn_each mine old d was next h.desk.at_entry h.playing is played like agrees j later).0 ∙ who)) in
      record {
        playing = plays_as HasAnyOrder f.first phases f.scripts roles f.start f.ticks more
            (passings_with session p x (begun_at new)) new now
            (λ y. elim (cases_eq y c) [
              | inl own_one ↦ subst (λ (z : ℕ). more z ≡ passings_with session p x (begun_at new) z) (sym own_one)
                  here_too
              | inr other ↦ elsewhere y other
            ])
            (any_call_on f.first phases f.scripts roles f.start more old new f.ticks was now place call tried t.calling
            t.possible t.tries t.plays);
        desk = desk_notes f.first session new d x h.desk.at_entry [] [] event h.desk.number
            (log_stays p session d.log old new (on.adds.entry ∷ []) (state_at d h.desk.at_entry []) by h.desk.logged)
            entered.ordered notes;
        logged_before = λ y. elim (cases_eq y c) [
          | inl own_one ↦ subst (λ (z : ℕ). AreLoggedBefore session x.log p z (step_next session p x [] z))
              (sym own_one)
              (subst (λ (n : ℕ). All (λ m. m.step < n) (by_caller c (passings_on session x.log p)))
              (sym (step_is_next x [] c t.is_caller
              ∙ (ap (λ (ns : List ℕ). slice_index_or ns c 0) rose ∙ step_own d.next c (step_of d c + 1) known)))
              (subst (λ (xs : List Passing). All (λ m. m.step < step_of d c + 1) xs) (sym own_then)
              (All-append (λ (z : Passing). z.step < step_of d c + 1) ms (m ∷ [])
              (before_more ms (step_of d c) (step_of d c + 1) (omega arith) before)
              (All-cons (λ (z : Passing). z.step < step_of d c + 1) m [] (omega arith)
              (All-nil (λ (z : Passing). z.step < step_of d c + 1))))))
          | inr other ↦ subst (λ (n : ℕ). All (λ m. m.step < n) (by_caller y (passings_on session x.log p)))
              (sym (next_other d x [] c y (step_of d c + 1) rose items other))
              (subst (λ (xs : List Passing). All (λ m. m.step < step_next session p d [] y) xs)
              (sym (other_then y other)) (h.logged_before y))
        ];
        carrier_rests = begun_same s old new on.adds carrier (others carrier (λ e. t.is_caller (sym e)))
            ∙ h.carrier_rests;
        never_held = λ y begins_y. elim (cases_eq y c) [
          | inl own_one ↦ absurd (false≢true (sym rest ∙ (ap (begun_at new) (sym own_one) ∙ begins_y)))
          | inr other ↦ subst (λ (n : ℕ). IsNeverHeld (modem_call_at p session y n)) (sym (stays y other))
              (h.never_held y (begun_elsewhere s old new on.adds y (others y other) begins_y).0)
        ];
      }

  -- ---- the hangup of a lost carrier

  taken : (b : Bool) (x y : ℕ) → b ≡ true → (if b then x else y) ≡ x
  taken true x y e = refl
  taken false x y e = absurd (false≢true e)

  none_due : (n k : ℕ) → n ≡ k → n - 0 ≡ k
  none_due n k e = omega (arith, e)

  item_is_next : (d : DeskState) (due : List ℕ) → step_next session p d due carrier ≡ d.items - length due
  item_is_next d due =
      taken (carrier == carrier) (d.items - length due) (step_of d carrier) (eq-eqb carrier carrier refl)

  pub hangup_begins : (v : PortValue) (d : DeskState) (stand : Stand) (place : ℕ) (r : Role) (h : ℕ)
      → IsPlayingModems f roles v d stand (h ∷ [])
      → IsPossible v (role_numbers roles) stand.going (turn.Call place)
      → slice_get roles place ≡ Some r
      → r.number ≡ carrier
      → IsOfBlocks p phases f.first.session
      → AreBlocksWithin f.first.session.ports f.first.session.flips phases
      → IsCallWithin (hangs_up h)
      → begin_of p phases v.terminal.phase carrier ≤ d.items - 1
      → d.items - 1 < begin_of p phases (v.terminal.phase + 1) carrier
      → IsCallingIn HasAnyOrder f.first phases f.scripts roles f.start (hangup_with session p d v h) v f.ticks stand
      place (hangs_up h)
  hangup_begins v d stand place r h playing possible at its blocks limits good low high =
      let m = hangup_of session p d h in
      let mine = passings_with session p d (begun_at v) in
      let rest : begun_at v r.number ≡ false = ap (begun_at v) its ∙ playing.carrier_rests in
      let before : AreLoggedBefore session d.log p carrier (d.items - 1) =
      subst (λ (n : ℕ). AreLoggedBefore session d.log p carrier n) (item_is_next d (h ∷ []))
      (playing.logged_before carrier) in
      more_is_next HasAnyOrder f.first phases f.scripts roles f.start f.ticks mine (hangup_with session p d v h) m v
      stand place r
      (hangs_up h) playing.playing possible at rest blocks limits
      (subst (λ (c : ℕ). PassesMore c m mine (and_then mine carrier m)) (sym its) (passes_then mine carrier m))
      (sym its) refl good
      (subst (λ (xs : List Passing). All (λ x. x.step < m.step) xs)
      (sym (rests_at (logged d) (next_passing session p d) v r.number rest))
      (subst (λ (c : ℕ). AreLoggedBefore session d.log p c (d.items - 1)) (sym its) before))
      (subst (λ (c : ℕ). begin_of p phases v.terminal.phase c ≤ d.items - 1) (sym its) low)
      (subst (λ (c : ℕ). d.items - 1 < begin_of p phases (v.terminal.phase + 1) c) (sym its) high)

  pub hangup_goes_on : (old new : PortValue) (d x : DeskState) (was now : Stand) (place : ℕ) (r : Role) (h : ℕ)
      → (playing : IsPlayingModems f roles old d was (h ∷ []))
      → IsCallingIn HasAnyOrder f.first phases f.scripts roles f.start (hangup_with session p d old h) old f.ticks was
      place (hangs_up h)
      → IsPossible old (role_numbers roles) was.going (turn.Call place)
      → was.going ≡ None
      → slice_get roles place ≡ Some r
      → r.number ≡ carrier
      → slice_index (role_numbers roles) place ≡ carrier
      → 0 < d.items
      → x.next ≡ d.next
      → x.items ≡ d.items
      → ((e : PlainEntry)
      → ComesBy old new (e ∷ [])
      → WasAnswered new carrier (caller_at old.terminal carrier).next done
      → Notes f.first session new d x playing.desk.at_entry (h ∷ []) [] (carrier_lost h))
      → TriesCall roles old new place (hangs_up h) (done_by done)
      → PlaysCall roles old new was now place (hangs_up h)
      → IsPlayingModems f roles new x now []
  hangup_goes_on old new d x was now place r h playing calling possible none at its number some next_is items_are
      notes_by tries plays =
      let call = hangs_up h in
      let tried = done_by done in
      let mine = passings_with session p d (begun_at old) in
      let more = hangup_with session p d old h in
      let m = hangup_of session p d h in
      let ms = by_caller carrier (passings_on session d.log p) in
      let event : ModemEvent = carrier_lost h in
      let s = scene_on p calling.has.session in
      let in_it = any_in_call f.first phases f.scripts roles f.start more old f.ticks was place call calling possible in
      let on : PlaysOnIn HasAnyOrder s (f.scripts s) roles old new was now = (plays.each in_it).on in
      let makes = subst (λ (c : ℕ). MakesCall old new c call) its (makes_as roles old new place r call at tried tries)
      in
      let attempts = subst (λ (c : ℕ). Attempts old new c (caller_at old.terminal c).next call tried) its
      (attempts_as roles old new place r call at tried tries) in
      let by : ComesBy old new (on.adds.entry ∷ []) =
      comes s old new (on.adds.entry ∷ []) in_it.in_turn.plays.of_scene on.plays.of_scene on.adds.added makes.grows in
      let notes = notes_by on.adds.entry by (was_answered old new carrier call makes s on.adds done attempts) in
      let log_is : x.log ≡ d.log ++ record { port = p; at = length new.journal; event = event } ∷ [] =
      notes.log ∙ ap (λ (q : ℕ). d.log ++ record { port = q; at = length new.journal; event = event } ∷ [])
      (sym playing.desk.number) in
      let one : more_on session d.log p event ≡ m ∷ [] =
      ap (λ (n : ℕ). record { caller = carrier; step = n - 1; calls = hangs_up h ∷ [] } ∷ [])
      (items_logged p session old d.log (state_at d playing.desk.at_entry (h ∷ [])) playing.desk.logged) in
      let rest : begun_at new carrier ≡ false = ended_now old new carrier call makes s on.adds done attempts in
      let others : (y : ℕ) → (y ≡ carrier → ⊥) → is_caller on.adds.entry.who y ≡ false =
      λ y other. other_is old new carrier call makes s on.adds y other in
      let own_then : by_caller carrier (passings_on session x.log p) ≡ ms ++ m ∷ [] =
      ap (λ (log : ModemLog). by_caller carrier (passings_on session log p)) log_is
      ∙ by_own session d.log p (length new.journal) carrier event m one refl in
      let other_then : (y : ℕ)
      → (y ≡ carrier → ⊥)
      → by_caller y (passings_on session x.log p) ≡ by_caller y (passings_on session d.log p) =
      λ y other.
      ap (λ (log : ModemLog). by_caller y (passings_on session log p)) log_is
      ∙ by_other session d.log p (length new.journal) y event m one (λ e. other (sym e)) in
      let stays : (y : ℕ) → step_of x y ≡ step_of d y = λ y. ap (λ (ns : List ℕ). slice_index_or ns y 0) next_is in
      let elsewhere : (y : ℕ) → (y ≡ carrier → ⊥) → more y ≡ passings_with session p x (begun_at new) y =
      λ y other.
      (passes_then mine carrier m).others y other
      ∙ (ap (λ (b : Bool). by_caller y (passings_on session d.log p) ++ tail b (next_passing session p d y))
      (sym (begun_same s old new on.adds y (others y other)))
      ∙ ((λ i.
      sym (other_then y other) i
      ++ tail (begun_at new y) (record {
        caller = y;
        step = sym (stays y) i;
        calls = plain_call (modem_call_at p session y (sym (stays y) i));
      })))) in
      let here_too : more carrier ≡ passings_with session p x (begun_at new) carrier =
      (passes_then mine carrier m).own ∙ (ap (λ (xs : List Passing). xs ++ m ∷ [])
      (rests_at (logged d) (next_passing session p d) old carrier playing.carrier_rests)
      ∙ (sym own_then ∙ sym (rests_at (logged x) (next_passing session p x) new carrier rest))) in
      let before : AreLoggedBefore session d.log p carrier (d.items - 1) =
      subst (λ (n : ℕ). AreLoggedBefore session d.log p carrier n) (item_is_next d (h ∷ []))
      (playing.logged_before carrier) in
      let ordered = entry_more f.first session d.log old new (state_at d playing.desk.at_entry (h ∷ [])) on.adds.entry
      by
      playing.desk.logged playing.desk.ordered
      (taken_in_turn mine old new d was now playing.desk.at_entry (h ∷ []) (turn.Call place) on.adds.entry
      playing.playing by
      (call_taken f.first f.scripts roles f.start old new f.ticks was now place call tried playing.playing.each possible
      tries plays)
      (λ played like agrees j later.
      hangup_now f.first session played (f.scripts (scene_on p played)) roles old d was
      (plays_each mine old was played playing.playing like agrees) playing.desk.at_entry h j none
      ∙ ap (λ (c : ℕ). goes_on (Caller c)) (sym number))) in
      record {
        playing = plays_as HasAnyOrder f.first phases f.scripts roles f.start f.ticks more
            (passings_with session p x (begun_at new)) new now
            (λ y. elim (cases_eq y carrier) [
              | inl own_one ↦ subst (λ (z : ℕ). more z ≡ passings_with session p x (begun_at new) z) (sym own_one)
                  here_too
              | inr other ↦ elsewhere y other
            ])
            (any_call_on f.first phases f.scripts roles f.start more old new f.ticks was now place call tried calling
            possible tries plays);
        desk = desk_notes f.first session new d x playing.desk.at_entry (h ∷ []) [] event playing.desk.number
            (log_stays p session d.log old new (on.adds.entry ∷ []) (state_at d playing.desk.at_entry (h ∷ [])) by
            playing.desk.logged) ordered notes;
        logged_before = λ y. elim (cases_eq y carrier) [
          | inl own_one ↦ subst (λ (z : ℕ). AreLoggedBefore session x.log p z (step_next session p x [] z))
              (sym own_one)
              (subst (λ (n : ℕ). All (λ m. m.step < n) (by_caller carrier (passings_on session x.log p)))
              (sym (item_is_next x [] ∙ none_due x.items d.items items_are))
              (subst (λ (xs : List Passing). All (λ m. m.step < d.items) xs) (sym own_then)
              (All-append (λ (z : Passing). z.step < d.items) ms (m ∷ [])
              (before_more ms (d.items - 1) d.items (omega (arith, some)) before)
              (All-cons (λ (z : Passing). z.step < d.items) m [] (omega (arith, some))
              (All-nil (λ (z : Passing). z.step < d.items))))))
          | inr other ↦ subst (λ (n : ℕ). All (λ m. m.step < n) (by_caller y (passings_on session x.log p)))
              (sym (step_is_next x [] y other ∙ (stays y ∙ sym (step_is_next d (h ∷ []) y other))))
              (subst (λ (xs : List Passing). All (λ m. m.step < step_next session p d (h ∷ []) y) xs)
              (sym (other_then y other)) (playing.logged_before y))
        ];
        carrier_rests = rest;
        never_held = λ y begins_y. elim (cases_eq y carrier) [
          | inl own_one ↦ absurd (false≢true (sym rest ∙ (ap (begun_at new) (sym own_one) ∙ begins_y)))
          | inr other ↦ subst (λ (n : ℕ). IsNeverHeld (modem_call_at p session y n)) (sym (stays y))
              (playing.never_held y (begun_elsewhere s old new on.adds y (others y other) begins_y).0)
        ];
      }
