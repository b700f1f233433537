-- What a part of a write costs: it has 64 bytes, or takes one of the last eight places for held output, or takes a CR
-- that posts nothing, before a byte that is no CR.
use Rattle.std.proofs.Common.{◌≡◌, ◌⊎◌, inl, inr, ℕ, zero, suc, ◌+◌, ◌-◌, ◌*◌, ◌%◌, ◌<◌, ◌≤◌, min}
use Rattle.std.proofs.Common.{Bool, true, false, not, ◌&&◌, ◌||◌, ◌==◌, nat_le, nat_lt, if◌then◌else◌}
use Rattle.std.proofs.Common.{List, [], ◌∷◌, ◌++◌, Option, None, Some, length, take, drop, get_or}
use Rattle.std.proofs.Common.{replicate, refl, sym, ◌∙◌, ap, subst, arith, length-append}
use Rattle.std.proofs.lemmas.Bool.{cond_both, false≢true, true≢false, eqb-true}
use Rattle.std.proofs.lemmas.Bool.{eq-eqb, ne_eqb, leb-true, leb-false, lt-ltb}
use Rattle.std.proofs.lemmas.Nat.{mod_below}
use Rattle.std.proofs.lemmas.List.{length-replicate, length-take, length-drop, take-take, get_or-take, get_or-drop}
use Rattle.tty_base.specs.Sizes.{MOST_HELD, PIECE}
use Rattle.tty_modes.specs.Settings.{Settings, has_flag}
use Rattle.tty_modes.specs.declared.places.TheConstants.{OPOST, ONLCR, TAB3}
use Rattle.tty_base.specs.declared.counters.Errno.{Errno}
use Rattle.tty_base.specs.declared.counters.Errno.TheVariants.{EBADF, EAGAIN, EIO}
use Rattle.tty_calls.specs.Plain.{PlainAnswer, writes, count_is, refused}
use Rattle.opost_out.specs.Posted.{posted_bytes}
use Rattle.flow_control.specs.Output.{Output, is_halted, room_of, has_room, on_wire, after_send}
use Rattle.n_tty.specs.States.{NTtyState}
use Rattle.n_tty.specs.Posting.{column_past_text, all_posted_bytes}
use Rattle.n_tty.specs.Writing.{fitting_count, piece_size, piece_text}
use Rattle.n_tty.proofs.BoundLemmas.{all_posted_bytes-le}
use Rattle.handle_table.specs.declared.HandleState.{HandleState}
use Rattle.ldisc_switch.specs.declared.discipline.Disc.{Disc}
use Rattle.ldisc_switch.specs.declared.discipline.Disc.TheVariants as disc
use Rattle.tty_terminal.specs.declared.callers.CallerState.{CallerState}
use Rattle.tty_terminal.specs.Terminals.{Terminal, handle_for}
use Rattle.tty_terminal.specs.Outcomes.{Outcome, waits, takes, gives, refuses, tells, may_write}
use Rattle.tty_terminal.specs.Transfers.{has_parts, write_refusal, with_piece_posted}
use Rattle.tty_terminal.specs.Transfers.{write_outcome, is_outlived, writing_outcome}
use Rattle.tty_terminal.specs.Calls.{outcome}
use Rattle.tty_terminal.specs.Steps.{left_by, TakesPart}
use Rattle.legal_runs.proofs.Truths.{if_true}

-- ---- one byte

few_posted : (modes : Settings) (column b : ℕ) → length (posted_bytes modes column b) ≤ 8
few_posted modes column b =
    omega (arith, all_posted_bytes-le modes column (b ∷ []), length-append (posted_bytes modes column b) [])

abbrev IsReturnIfNone : ℕ → List ℕ → Type 0
IsReturnIfNone b text = length text ≡ 0 → b ≡ 13

some_posted : (b : ℕ) (text : List ℕ) → 0 < length text → IsReturnIfNone b text
some_posted b text some none = absurd (omega (arith, some, none))

-- what posts nothing is CR
none_posted : (modes : Settings) (column b : ℕ) → IsReturnIfNone b (posted_bytes modes column b)
none_posted modes column b =
    cond_both (not (has_flag modes OPOST)) _ _ (IsReturnIfNone b) (λ _. some_posted b (b ∷ []) (omega arith))
    (λ _. cond_both (b == 10) _ _ (IsReturnIfNone b) (λ _. cond_both (has_flag modes ONLCR) _ _ (IsReturnIfNone b)
    (λ _. some_posted b (13 ∷ 10 ∷ []) (omega arith)) (λ _. some_posted b (10 ∷ []) (omega arith)))
    (λ _. cond_both (b == 13) _ _ (IsReturnIfNone b) (λ is none. eqb-true b 13 is)
    (λ _. cond_both (b == 9) _ _ (IsReturnIfNone b)
    (λ _. cond_both (has_flag modes TAB3) _ _ (IsReturnIfNone b)
    (λ _. some_posted b (replicate (8 - column % 8) 32)
    (omega (arith, length-replicate {A = ℕ} (8 - column % 8) 32, mod_below column 8 (omega arith))))
    (λ _. some_posted b (9 ∷ []) (omega arith)))
    (λ _. some_posted b (b ∷ []) (omega arith)))))

none_of : (xs : List ℕ) → length xs ≡ 0 → xs ≡ []
none_of [] h = refl
none_of (x ∷ xs) h = absurd (omega (arith, h))

-- ---- how many of the last eight places for held output are taken

abbrev pub crowd : Output → ℕ
crowd output = min 8 (length output.held - 4088)

halts_case : (b : Bool) (output : Output) (text : List ℕ)
    → is_halted (if b then record output { held = output.held ++ text } else on_wire output text) ≡ is_halted output
halts_case true output text = refl
halts_case false output text = refl

send_halts : (output : Output) (text : List ℕ) → is_halted (after_send output text) ≡ is_halted output
send_halts output text = halts_case (is_halted output) output text

send_holds : (output : Output) (text : List ℕ)
    → is_halted output ≡ true
    → length (after_send output text).held ≡ length output.held + length text
send_holds output text halted =
    ap (λ (o : Output). length o.held) (if_true (is_halted output) _ _ halted) ∙ length-append output.held text

halted_room : (halted fits : Bool) → halted ≡ true → (not halted || fits) ≡ true → fits ≡ true
halted_room true fits is h = h
halted_room false fits is h = absurd (false≢true is)

no_room : (halted fits : Bool) → (not halted || fits) ≡ false → (halted ≡ true) × (fits ≡ false)
no_room true fits h = (refl, h)
no_room false fits h = absurd (true≢false h)

-- ---- where some bytes stop fitting

-- Of these bytes n fit, which post so many: the places for held output are nearly full; no byte posts past them; and
-- where nothing is posted, the last byte is CR and the next is not.
record Stop (modes : Settings) (column : ℕ) (output : Output) (bytes : List ℕ) (n posted : ℕ) : Type 0 where
  halted : is_halted output ≡ true
  high : 4088 < length output.held + posted
  low : 0 < posted → length output.held + posted ≤ MOST_HELD
  first : n ≡ 0 → 0 < length (posted_bytes modes column (get_or bytes 0 0))
  turn : (m : ℕ) → n ≡ suc m → posted ≡ 0 → (get_or bytes m 0 ≡ 13) × (get_or bytes (suc m) 0 ≡ 13 → ⊥)

stop_here : (modes : Settings) (column : ℕ) (output : Output) (b : ℕ) (bytes : List ℕ) (n : ℕ)
    → has_room output (posted_bytes modes column b) ≡ false
    → n ≡ 0
    → Stop modes column output (b ∷ bytes) n (length (all_posted_bytes modes column (take n (b ∷ bytes))))
stop_here modes column output b bytes n full none =
    let text = posted_bytes modes column b in
    let both = no_room (is_halted output) (nat_le (length text) (room_of output)) full in
    let over : room_of output < length text = leb-false (length text) (room_of output) both.1 in
    let few = few_posted modes column b in
    let posted : length (all_posted_bytes modes column (take n (b ∷ bytes))) ≡ 0 =
    ap (λ (k : ℕ). length (all_posted_bytes modes column (take k (b ∷ bytes)))) none in
    record {
      halted = both.0;
      high = omega (arith, over, few, posted);
      low = λ some. absurd (omega (arith, some, posted));
      first = λ _. omega (arith, over);
      turn = λ m is _. absurd (omega (arith, is, none));
    }

turn_more : (modes : Settings) (column : ℕ) (output : Output) (b : ℕ) (bytes : List ℕ) (n posted : ℕ)
    → length (posted_bytes modes column b) ≡ 0
    → Stop modes (column_past_text modes column (posted_bytes modes column b)) output bytes n posted
    → posted ≡ 0
    → (m : ℕ)
    → n ≡ m
    → (get_or (b ∷ bytes) m 0 ≡ 13) × (get_or bytes m 0 ≡ 13 → ⊥)
turn_more modes column output b bytes n posted none rest nothing zero is =
    let return : b ≡ 13 = none_posted modes column b none in
    let same : column_past_text modes column (posted_bytes modes column b) ≡ column =
    ap (λ (text : List ℕ). column_past_text modes column text) (none_of (posted_bytes modes column b) none) in (
      return,
      λ next.
          let some = rest.first is in
          let equal : length
          (posted_bytes modes (column_past_text modes column (posted_bytes modes column b)) (get_or bytes 0 0))
          ≡ length (posted_bytes modes column b) =
          (λ i. length (posted_bytes modes (same i) ((next ∙ sym return) i))) in
          absurd (omega (arith, some, equal, none)),
    )
turn_more modes column output b bytes n posted none rest nothing (suc m) is = rest.turn m is nothing

stop_later : (modes : Settings) (column : ℕ) (output : Output) (b : ℕ) (bytes : List ℕ) (n posted : ℕ)
    → has_room output (posted_bytes modes column b) ≡ true
    → Stop modes (column_past_text modes column (posted_bytes modes column b))
    (after_send output (posted_bytes modes column b)) bytes n posted
    → Stop modes column output (b ∷ bytes) (suc n) (length (posted_bytes modes column b) + posted)
stop_later modes column output b bytes n posted room rest =
    let text = posted_bytes modes column b in
    let halted : is_halted output ≡ true = sym (send_halts output text) ∙ rest.halted in
    let held = send_holds output text halted in
    let fits : length text ≤ room_of output =
    leb-true (length text) (room_of output)
    (halted_room (is_halted output) (nat_le (length text) (room_of output)) halted room) in
    let high = rest.high in
    record {
      halted = halted;
      high = omega (arith, high, held);
      low = λ some. low_of posted (length text) held fits some rest.low;
      first = λ none. absurd (omega (arith, none));
      turn = λ m is nothing. turn_more modes column (after_send output text) b bytes n posted (omega (arith, nothing))
          rest (omega (arith, nothing)) m (omega (arith, is));
    }
  where
    low_of : (posted here : ℕ)
        → length (after_send output (posted_bytes modes column b)).held ≡ length output.held + here
        → here ≤ room_of output
        → 0 < here + posted
        → (0 < posted → length (after_send output (posted_bytes modes column b)).held + posted ≤ MOST_HELD)
        → length output.held + (here + posted) ≤ MOST_HELD
    low_of zero here held fits some rest_low = omega (arith, fits, some)
    low_of (suc posted) here held fits some rest_low = (let low = rest_low (omega arith) in omega (arith, low, held))

stop : (modes : Settings) (column : ℕ) (output : Output) (bytes : List ℕ) (n : ℕ)
    → fitting_count modes column output bytes ≡ n
    → n < length bytes
    → Stop modes column output bytes n (length (all_posted_bytes modes column (take n bytes)))
stop modes column output [] n is lt = absurd (omega (arith, lt))
stop modes column output (b ∷ bytes) n is lt =
    by_room (has_room output (posted_bytes modes column b)) n refl is lt (λ k found below.
    stop modes (column_past_text modes column (posted_bytes modes column b))
    (after_send output (posted_bytes modes column b)) bytes k found below)
  where
    by_room : (r : Bool) (n : ℕ)
        → has_room output (posted_bytes modes column b) ≡ r
        → (if r
        then suc (fitting_count modes (column_past_text modes column (posted_bytes modes column b))
        (after_send output (posted_bytes modes column b)) bytes)
        else 0) ≡ n
        → n < suc (length bytes)
        → ((k : ℕ)
        → fitting_count modes (column_past_text modes column (posted_bytes modes column b))
        (after_send output (posted_bytes modes column b)) bytes ≡ k
        → k < length bytes
        → Stop modes (column_past_text modes column (posted_bytes modes column b))
        (after_send output (posted_bytes modes column b)) bytes k
        (length (all_posted_bytes modes (column_past_text modes column (posted_bytes modes column b)) (take k bytes))))
        → Stop modes column output (b ∷ bytes) n (length (all_posted_bytes modes column (take n (b ∷ bytes))))
    by_room false n room is lt rest = stop_here modes column output b bytes n room (sym is)
    by_room true zero room is lt rest = absurd (omega (arith, is))
    by_room true (suc k) room is lt rest =
        let next = column_past_text modes column (posted_bytes modes column b) in
        let later = rest k (omega (arith, is)) (omega (arith, lt)) in
        let posted = length (all_posted_bytes modes next (take k bytes)) in
        subst (λ (m : ℕ). Stop modes column output (b ∷ bytes) (suc k) m)
        (sym (length-append (posted_bytes modes column b) (all_posted_bytes modes next (take k bytes))))
        (stop_later modes column output b bytes k posted room later)

-- ---- what bytes pay

-- the place after a CR, before a byte that is none
abbrev pub is_return_end : List ℕ → ℕ → Bool
is_return_end bytes i = nat_lt 0 i && ((get_or bytes (i - 1) 0 == 13) && not (get_or bytes i 0 == 13))

abbrev pub one_if : Bool → ℕ
one_if b = if b then 1 else 0

pub one_small : (b : Bool) → one_if b ≤ 1
one_small true = omega arith
one_small false = omega arith

-- what the first bytes of a write pay for its entries, in sixteenths of an entry
abbrev pub pay : List ℕ → ℕ → ℕ
pay bytes i = 31 * i + one_if (is_return_end bytes i)

after_return : (bytes : List ℕ) (i m : ℕ)
    → get_or bytes (i + m) 0 ≡ 13
    → (get_or bytes (i + suc m) 0 ≡ 13 → ⊥)
    → one_if (is_return_end bytes (i + suc m)) ≡ 1
after_return bytes i m return other =
    let before : (i + suc m) - 1 ≡ i + m = omega arith in
    let some : nat_lt 0 (i + suc m) ≡ true = lt-ltb 0 (i + suc m) (omega arith) in
    let is : (get_or bytes ((i + suc m) - 1) 0 == 13) ≡ true =
    eq-eqb (get_or bytes ((i + suc m) - 1) 0) 13 (ap (λ (k : ℕ). get_or bytes k 0) before ∙ return) in
    let is_not : (get_or bytes (i + suc m) 0 == 13) ≡ false = ne_eqb (get_or bytes (i + suc m) 0) 13 other in
    λ j. one_if (some j && (is j && not (is_not j)))

at_return : (bytes : List ℕ) (i : ℕ) → get_or bytes i 0 ≡ 13 → one_if (is_return_end bytes i) ≡ 0
at_return bytes i return =
    let is : (get_or bytes i 0 == 13) ≡ true = eq-eqb (get_or bytes i 0) 13 return in
    ap (λ (b : Bool). one_if (nat_lt 0 i && ((get_or bytes (i - 1) 0 == 13) && not b))) is
    ∙ none (nat_lt 0 i) (get_or bytes (i - 1) 0 == 13)
  where
    none : (a b : Bool) → one_if (a && (b && false)) ≡ 0
    none true true = refl
    none true false = refl
    none false b = refl

-- ---- a part

-- a part of an outcome pays for two entries, and for what it leaves of the last eight places
pub record PaysPart (t : Terminal) (taken : ℕ) (bytes : List ℕ) (o : Outcome) : Type 0 where
  pub pays : (n : ℕ)
      → TakesPart o n
      → 1 ≤ n
      → taken + n < length bytes
      → (32 + pay bytes taken) + 2 * crowd t.output ≤ pay bytes (taken + n) + 2 * crowd (left_by o t).output

gives_pays : (t : Terminal) (taken : ℕ) (bytes : List ℕ) (a : PlainAnswer) (drops : Bool) (left : Terminal)
    → PaysPart t taken bytes (gives a drops left)
gives_pays t taken bytes a drops left = record { pays = λ n h some within. absurd h }

waits_pays : (t : Terminal) (taken : ℕ) (bytes : List ℕ) → PaysPart t taken bytes waits
waits_pays t taken bytes = record { pays = λ n h some within. absurd h }

if_pays : (t : Terminal) (taken : ℕ) (bytes : List ℕ) (b : Bool) (x y : Outcome)
    → PaysPart t taken bytes x
    → PaysPart t taken bytes y
    → PaysPart t taken bytes (if b then x else y)
if_pays t taken bytes true x y h k = h
if_pays t taken bytes false x y h k = k

refusal_pays : (t : Terminal) (s : CallerState) (bytes : List ℕ) (errno : Errno)
    → PaysPart t s.taken bytes (write_refusal t s errno)
refusal_pays t s bytes errno = if_pays t s.taken bytes (has_parts s) (tells (count_is s.taken) t) (refuses errno t)
    (gives_pays t s.taken bytes (count_is s.taken) false t) (gives_pays t s.taken bytes (refused errno) false t)

-- a full piece pays by its bytes
full_pays : (bytes : List ℕ) (taken n before after : ℕ)
    → PIECE ≤ n
    → before ≤ 8
    → (32 + pay bytes taken) + 2 * before ≤ pay bytes (taken + n) + 2 * after
full_pays bytes taken n before after full few = omega (arith, full, few, one_small (is_return_end bytes taken))

-- one that posts something by a place, and one that posts nothing by its CR
short_pays : (bytes : List ℕ) (taken n posted held before after : ℕ)
    → 1 ≤ n
    → before ≡ min 8 (held - 4088)
    → after ≡ min 8 ((held + posted) - 4088)
    → 4088 < held + posted
    → (0 < posted → held + posted ≤ MOST_HELD)
    → ((m : ℕ) → n ≡ suc m → posted ≡ 0 → (get_or bytes (taken + m) 0 ≡ 13) × (get_or bytes (taken + suc m) 0 ≡ 13 → ⊥))
    → (32 + pay bytes taken) + 2 * before ≤ pay bytes (taken + n) + 2 * after
short_pays bytes taken n (suc posted) held before after some is_before is_after high low turn =
    let up = low (omega arith) in
    omega (arith, some, is_before, is_after, high, up, one_small (is_return_end bytes taken))
short_pays bytes taken zero zero held before after some is_before is_after high low turn = absurd (omega (arith, some))
short_pays bytes taken (suc zero) zero held before after some is_before is_after high low turn =
    let at = turn 0 refl refl in
    let here : taken + 0 ≡ taken = omega arith in
    let none = at_return bytes taken (ap (λ (k : ℕ). get_or bytes k 0) (sym here) ∙ at.0) in
    let one = after_return bytes taken 0 at.0 at.1 in
    omega (arith, is_before, is_after, none, one)
short_pays bytes taken (suc (suc m)) zero held before after some is_before is_after high low turn =
    let at = turn (suc m) refl refl in
    let one = after_return bytes taken (suc m) at.0 at.1 in
    omega (arith, is_before, is_after, one, one_small (is_return_end bytes taken))

either_way : (a b : ℕ) → (a < b) ⊎ (b ≤ a)
either_way a b = grind arith

piece_pays : (t : Terminal) (taken : ℕ) (bytes : List ℕ) (tty : NTtyState)
    → PaysPart t taken bytes
    (takes (piece_size t.modes tty t.output (drop taken bytes)) (with_piece_posted t tty (drop taken bytes)))
piece_pays t taken bytes tty = record { pays = pays_of }
  where
    pays_of : (n : ℕ)
        → n ≡ piece_size t.modes tty t.output (drop taken bytes)
        → 1 ≤ n
        → taken + n < length bytes
        → (32 + pay bytes taken) + 2 * crowd t.output
        ≤ pay bytes (taken + n) + 2 * crowd (after_send t.output (piece_text t.modes tty t.output (drop taken bytes)))
    pays_of n is some within =
        let rest = drop taken bytes in
        let long = length-drop taken bytes in
        let many = length-take PIECE rest in
        elim (either_way n (length (take PIECE rest))) [
          | inl below ↦
              let ends = stop t.modes tty.column t.output (take PIECE rest) n (sym is) below in
              let front : take n (take PIECE rest) ≡ take n rest =
              take-take n PIECE rest (omega (arith, below, many)) in
              let text : piece_text t.modes tty t.output rest
              ≡ all_posted_bytes t.modes tty.column (take n (take PIECE rest)) =
              ap (λ (k : ℕ). all_posted_bytes t.modes tty.column (take k rest)) (sym is)
              ∙ ap (λ (xs : List ℕ). all_posted_bytes t.modes tty.column xs) (sym front) in
              let posted = length (all_posted_bytes t.modes tty.column (take n (take PIECE rest))) in
              let held : length (after_send t.output (piece_text t.modes tty t.output rest)).held
              ≡ length t.output.held + posted =
              send_holds t.output (piece_text t.modes tty t.output rest) ends.halted
              ∙ ap (λ (xs : List ℕ). length t.output.held + length xs) text in
              let place : (k : ℕ) → k < length (take PIECE rest)
              → get_or bytes (taken + k) 0 ≡ get_or (take PIECE rest) k 0 =
              (λ k lt. sym (get_or-take PIECE rest k 0 (omega (arith, lt, many)) ∙ get_or-drop taken bytes k 0)) in
              short_pays bytes taken n posted (length t.output.held) (crowd t.output)
              (crowd (after_send t.output (piece_text t.modes tty t.output rest))) some refl
              (ap (λ (k : ℕ). min 8 (k - 4088)) held) ends.high ends.low
              (λ m next nothing.
              let at = ends.turn m next nothing in (
                place m (omega (arith, below, next)) ∙ at.0,
                λ return. at.1 (sym (place (suc m) (omega (arith, below, next))) ∙ return),
              ))
          | inr full ↦ full_pays bytes taken n (crowd t.output)
              (crowd (after_send t.output (piece_text t.modes tty t.output rest)))
              (omega (arith, full, many, long, within)) (omega arith)
        ]

-- a part of a write pays
pub write_pays : (t : Terminal) (s : CallerState) (h : ℕ) (bytes : List ℕ)
    → PaysPart t s.taken bytes (outcome t s (writes h bytes))
write_pays t s h bytes = on_handle (handle_for t s h)
  where
    by_disc : (nonblock : Bool) (d : Disc)
        → PaysPart t s.taken bytes (write_outcome t s nonblock (drop s.taken bytes) d)
    by_disc nonblock (disc.Slip slip) = refusal_pays t s bytes EIO
    by_disc nonblock (disc.Tty tty) =
        let rest = drop s.taken bytes in
        let fit = piece_size t.modes tty t.output rest in
        if_pays t s.taken bytes (fit == length rest) _ _
        (gives_pays t s.taken bytes (count_is (s.taken + fit)) false (with_piece_posted t tty rest))
        (if_pays t s.taken bytes (nat_lt 0 fit) _ _ (piece_pays t s.taken bytes tty)
        (if_pays t s.taken bytes nonblock _ _ (refusal_pays t s bytes EAGAIN) (waits_pays t s.taken bytes)))

    on_handle : (handle : Option HandleState) → PaysPart t s.taken bytes (writing_outcome t s bytes handle)
    on_handle None = refusal_pays t s bytes EBADF
    on_handle (Some handle) =
        if_pays t s.taken bytes (not (may_write handle.access)) _ _ (refusal_pays t s bytes EBADF)
        (if_pays t s.taken bytes (not handle.live) _ _ (refusal_pays t s bytes EIO)
        (if_pays t s.taken bytes (is_outlived t s) _ _ (gives_pays t s.taken bytes (count_is s.taken) false t)
        (by_disc handle.nonblock t.disc)))
