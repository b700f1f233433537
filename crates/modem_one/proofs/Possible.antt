-- Turns that can be taken.
use Rattle.std.proofs.Common.{◌≡◌, inl, inr, ◌<◌, ℕ, Bool, true, false, not, ◌&&◌, ◌||◌, List, [], ◌∷◌, ◌++◌}
use Rattle.std.proofs.Common.{Option, None, Some, refl, sym, ap, ◌∙◌, subst}
use Rattle.std.specs.Prelude.{slice_index, MatchOption}
use Rattle.std.proofs.lemmas.Bool.{false≢true}
use Rattle.std.proofs.lemmas.List.{length-map}
use Rattle.tty_calls.specs.declared.journals.Who.TheVariants.{Caller}
use Rattle.tty_terminal.specs.Terminals.{caller_at}
use Rattle.port_core.specs.Ports.{PortValue, call_in}
use Rattle.legal_runs.specs.Order.{must_wait, is_waiting, can_go_on as port_goes_on}
use Rattle.one_thread.specs.Turns.{role_numbers, who_of, NoneIs, NothingGoesOn, IsFree, IsPossible}
use Rattle.play_base.specs.declared.roles.Role.{Role}
use Rattle.one_thread.specs.declared.after_line.Turn.TheVariants as turn
use Rattle.modem_text.specs.Sessions.{ModemSession}
use Rattle.modem_steps.specs.Derived.{carrier_on}
use Rattle.modem_steps.specs.Steps.{callers_in}
use Rattle.modem_steps.specs.Order.{can_go_on, open_is_held}
use Rattle.modem_one.specs.declared.turns.Next.TheVariants as next
use Rattle.modem_one.specs.Desk.{DeskState, state_at}
use Rattle.modem_one.specs.Turns.{port_now, IsNextTurn}
use Rattle.modem_one.proofs.Ranks.{NoneIn, AllInVain, CallReason, it_can, its_end, in_vain, none_both, none_more}
use Rattle.modem_one.proofs.Ranks.{not_by_port, by_port, reason_of, flush_reason, clock_reason_of, call_reason}
use Rattle.modem_one.proofs.Ranks.{end_reason, same_turn_caller}

-- a caller that is over cannot go on, and one that is not and does not wait can
over_case : (over waits must : Bool) → over ≡ true → (not over && (not waits || not must)) ≡ false
over_case true waits must e = refl
over_case false waits must e = absurd (false≢true e)

pub rest_case : (over waits must : Bool)
    → over ≡ false
    → waits ≡ false
    → (not over && (not waits || not must)) ≡ true
rest_case true waits must e f = absurd (false≢true (sym e))
rest_case false true must e f = absurd (false≢true (sym f))
rest_case false false must e f = refl

module _ (p : ℕ) (session : ModemSession) (v : PortValue) (d : DeskState) (roles : List Role)
    (are : role_numbers roles ≡ callers_in (port_now p session v) v.terminal.phase ++ carrier_on p session ∷ [])
    (rests : is_waiting v.terminal (carrier_on p session) ≡ false) where
  none_of : (f : ℕ → Bool)
      → NoneIn f (callers_in (port_now p session v) v.terminal.phase)
      → f (carrier_on p session) ≡ false
      → NoneIs f (role_numbers roles)
  none_of f all last = subst (NoneIs f) (sym are)
      (λ i lt. none_more f (callers_in (port_now p session v) v.terminal.phase) (carrier_on p session) i all last lt)

  nothing : AllInVain (port_now p session v) (state_at d 0 []) v.terminal
      → NoneIn (open_is_held (port_now p session v) (state_at d 0 []) v.terminal)
      (callers_in (port_now p session v) v.terminal.phase)
      → NothingGoesOn v (role_numbers roles)
  nothing vain unheld =
      let port = port_now p session v in
      let s = state_at d 0 [] in
      record {
        idle = vain.rest.idle;
        clock = vain.clock;
        none = none_of (port_goes_on (call_in v.kept) v.terminal)
            (none_both (can_go_on port s v.terminal) (open_is_held port s v.terminal)
            (port_goes_on (call_in v.kept) v.terminal) (callers_in port v.terminal.phase)
            (λ c e f. not_by_port port s v.terminal c e f) vain.rest.none_can unheld)
            (over_case (caller_at v.terminal (carrier_on p session)).over
            (is_waiting v.terminal (carrier_on p session))
            (must_wait (call_in v.kept) v.terminal (carrier_on p session)) vain.carrier);
      }

  call_free : (i : ℕ)
      → CallReason (port_now p session v) (state_at d 0 []) v.terminal (slice_index (role_numbers roles) i)
      → IsFree v (role_numbers roles) (turn.Call i)
  call_free i (it_can one h) =
      inl (by_port (port_now p session v) (state_at d 0 []) v.terminal (slice_index (role_numbers roles) i) h)
  call_free i (its_end rest none same runs) =
      let c = slice_index (role_numbers roles) i in
      inl (rest_case (caller_at v.terminal c).over (is_waiting v.terminal c) (must_wait (call_in v.kept) v.terminal c)
      runs (ap (is_waiting v.terminal) same ∙ rests))
  call_free i (in_vain vain unheld waits) = inr (nothing vain unheld, waits)

  abbrev Ranked : ℕ → Type 0
  Ranked i = CallReason (port_now p session v) (state_at d 0 []) v.terminal (slice_index (role_numbers roles) i)

  call_whose : (going : Option ℕ) (i : ℕ)
      → IsNextTurn p session v d roles going (next.Call i)
      → MatchOption going (IsFree v (role_numbers roles) (turn.Call i))
      (λ j. who_of (role_numbers roles) (turn.Call i) ≡ Caller (slice_index (role_numbers roles) j))
  call_whose None i is =
      call_free i (call_reason (port_now p session v) (state_at d 0 []) v.terminal _
      (slice_index (role_numbers roles) i) (reason_of (port_now p session v) d 0 v.terminal) (sym is.turn))
  call_whose (Some j) i is =
      ap Caller (same_turn_caller (slice_index (role_numbers roles) i) (slice_index (role_numbers roles) j) is.turn)

  pub may_call : (going : Option ℕ) (i : ℕ)
      → IsNextTurn p session v d roles going (next.Call i)
      → IsPossible v (role_numbers roles) going (turn.Call i)
  may_call going i is = record {
    whose = call_whose going i is;
    within = subst (λ (n : ℕ). i < n) (sym (length-map roles (λ (r : Role). r.number))) is.within;
  }

  pub may_flush : (going : Option ℕ)
      → IsNextTurn p session v d roles going next.Flush
      → IsPossible v (role_numbers roles) going turn.Flush
  may_flush None is = record {
    whose = flush_reason (port_now p session v) (state_at d 0 []) v.terminal _
        (reason_of (port_now p session v) d 0 v.terminal) (sym is.turn);
    within = tt;
  }
  may_flush (Some j) is = let e = is.turn in absurd (cc)

  pub may_pass : (going : Option ℕ)
      → IsNextTurn p session v d roles going next.Pass
      → IsPossible v (role_numbers roles) going turn.Pass
  may_pass None is = record {
    whose = clock_reason_of (port_now p session v) (state_at d 0 []) v.terminal _
        (reason_of (port_now p session v) d 0 v.terminal) (sym is.turn);
    within = tt;
  }
  may_pass (Some j) is = let e = is.turn in absurd (cc)

  end_free : (going : Option ℕ)
      → IsNextTurn p session v d roles going next.End
      → MatchOption going (IsFree v (role_numbers roles) turn.End)
      (λ j. who_of (role_numbers roles) turn.End ≡ Caller (slice_index (role_numbers roles) j))
  end_free None is =
      let h = end_reason (port_now p session v) (state_at d 0 []) v.terminal _
      (reason_of (port_now p session v) d 0 v.terminal) (sym is.turn) in
      (nothing h.0 h.1, none_of (is_waiting v.terminal) h.2 rests)
  end_free (Some j) is = let e = is.turn in absurd (cc)

  pub may_end : (going : Option ℕ)
      → IsNextTurn p session v d roles going next.End
      → IsPossible v (role_numbers roles) going turn.End
  may_end going is = record { whose = end_free going is; within = tt }
