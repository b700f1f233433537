-- Which turns can be taken, and that the turn by rank can.
use Rattle.std.proofs.Common.{◌≡◌, ◌⊎◌, ℕ, Bool, false, List, Option, None, Some, refl, sym, subst, inl, inr}
use Rattle.std.specs.Prelude.{slice_index, MatchOption}
use Rattle.tty_calls.specs.declared.journals.Who.TheVariants.{Caller}
use Rattle.tty_terminal.specs.Steps.{nothing_to_flush}
use Rattle.port_core.specs.Ports.{PortValue, call_in}
use Rattle.legal_runs.specs.Order.{can_go_on, is_waiting}
use Rattle.one_thread.specs.Turns.{who_of, IsTurn, NoneIs, NothingGoesOn, IsFree, IsPossible, IsGoing}
use Rattle.one_thread.specs.declared.after_line.Turn.{Turn}
use Rattle.one_thread.specs.declared.after_line.Turn.TheVariants as turn
use Rattle.one_thread.proofs.Ranks.{AllRest, flusher_turn, clock_turn, session_turn, caller_turn, same_caller}

-- ---- what a turn says that can be taken

pub flush_view : (v : PortValue) (numbers : List ℕ) (going : Option ℕ)
    → IsPossible v numbers going turn.Flush
    → (going ≡ None) × (nothing_to_flush v.terminal ≡ false)
flush_view v numbers None h = (refl, h.whose)
flush_view v numbers (Some i) h = let e = h.whose in absurd (cc)

pub pass_view : (v : PortValue) (numbers : List ℕ) (going : Option ℕ)
    → IsPossible v numbers going turn.Pass
    → (going ≡ None) × (v.terminal.clock_over ≡ false)
pass_view v numbers None h = (refl, h.whose)
pass_view v numbers (Some i) h = let e = h.whose in absurd (cc)

pub end_view : (v : PortValue) (numbers : List ℕ) (going : Option ℕ)
    → IsPossible v numbers going turn.End
    → (going ≡ None) × (NothingGoesOn v numbers × NoneIs (is_waiting v.terminal) numbers)
end_view v numbers None h = (refl, h.whose)
end_view v numbers (Some i) h = let e = h.whose in absurd (cc)

pub call_view : (v : PortValue) (numbers : List ℕ) (going : Option ℕ) (i : ℕ) → IsPossible v numbers going (turn.Call i)
    → IsGoing numbers going (slice_index numbers i) ⊎ ((going ≡ None) × IsFree v numbers (turn.Call i))
call_view v numbers None i h = inr (refl, h.whose)
call_view v numbers (Some j) i h = inl (record {
  place = j;
  at_place = refl;
  is = sym (same_caller (slice_index numbers i) (slice_index numbers j) h.whose);
})

-- ---- by rank

rests : (v : PortValue) (numbers : List ℕ) (going : Option ℕ)
    → AllRest numbers going (nothing_to_flush v.terminal) v.terminal.clock_over (can_go_on (call_in v.kept) v.terminal)
    → NothingGoesOn v numbers
rests v numbers going h = record { idle = h.idle_is; clock = h.over_is; none = h.none }

-- no write goes on
settled : (v : PortValue) (numbers : List ℕ) (going : Option ℕ) (next : Turn)
    → going ≡ None
    → IsFree v numbers next
    → MatchOption going (IsFree v numbers next) (λ i. who_of numbers next ≡ Caller (slice_index numbers i))
settled v numbers going next none free = subst (λ (g : Option ℕ).
    MatchOption g (IsFree v numbers next) (λ i. who_of numbers next ≡ Caller (slice_index numbers i)))
    (sym none) free

call_free : (clock_first : Bool) (v : PortValue) (numbers : List ℕ) (going : Option ℕ) (i : ℕ)
    → IsTurn clock_first v numbers going (turn.Call i)
    → MatchOption going (IsFree v numbers (turn.Call i))
    (λ j. Caller (slice_index numbers i) ≡ Caller (slice_index numbers j))
call_free clock_first v numbers (Some j) i is = is.who
call_free clock_first v numbers None i is =
    elim (caller_turn numbers None clock_first (nothing_to_flush v.terminal) v.terminal.clock_over
    (can_go_on (call_in v.kept) v.terminal) (is_waiting v.terminal) (slice_index numbers i) is.who) [
      | inl going ↦ (let e = going.at_place in absurd (cc))
      | inr rest ↦ elim rest [
        | inl can ↦ inl can.1
        | inr vain ↦ inr (rests v numbers None vain.0, vain.1)
      ]
    ]

pub by_rank : (clock_first : Bool) (v : PortValue) (numbers : List ℕ) (going : Option ℕ) (next : Turn)
    → IsTurn clock_first v numbers going next
    → IsPossible v numbers going next
by_rank clock_first v numbers going turn.Flush is =
    let h = flusher_turn numbers going clock_first (nothing_to_flush v.terminal) v.terminal.clock_over
    (can_go_on (call_in v.kept) v.terminal) (is_waiting v.terminal) is.who in
    record { whose = settled v numbers going turn.Flush h.0 h.1; within = is.within }
by_rank clock_first v numbers going (turn.Call i) is =
    record { whose = call_free clock_first v numbers going i is; within = is.within }
by_rank clock_first v numbers going turn.Pass is =
    let h = clock_turn numbers going clock_first (nothing_to_flush v.terminal) v.terminal.clock_over
    (can_go_on (call_in v.kept) v.terminal) (is_waiting v.terminal) is.who in
    record { whose = settled v numbers going turn.Pass h.0 h.1; within = is.within }
by_rank clock_first v numbers going turn.End is =
    let h = session_turn numbers going clock_first (nothing_to_flush v.terminal) v.terminal.clock_over
    (can_go_on (call_in v.kept) v.terminal) (is_waiting v.terminal) is.who in
    record { whose = settled v numbers going turn.End h.0.settled (rests v numbers going h.0, h.1); within = is.within }
