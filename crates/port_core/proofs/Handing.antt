-- Characters that are handed over one by one, and pieces of flush runs.
use Rattle.std.proofs.Common.{◌≡◌, ℕ, List, Option, [], ◌∷◌, ◌++◌, Bool, true, false, not, ◌||◌}
use Rattle.std.proofs.Common.{◌==◌, IsTrue, if◌then◌else◌, ◌+◌, ◌-◌, ◌*◌, ◌<◌, ◌≤◌, ◌⊎◌, inl}
use Rattle.std.proofs.Common.{inr, ⊎_elim, MatchBool, min, length, refl, sym, ◌∙◌, ap, subst, arith}
use Rattle.std.proofs.lemmas.Bool.{cases_lt, false≢true}
use Rattle.std.proofs.lemmas.Bool.Decides.{nat_tests}
use Rattle.tty_base.specs.Sizes.{COLUMNS_OF_CHARACTER, PIECE}
use mathlib.Core.List.{IsPrefix}
use Rattle.tty_base.specs.declared.characters.Flagged.{Flagged}
use Rattle.word_ring.specs.Ends.{TakerState, with_shown}
use Rattle.word_ring.proofs.Beginnings.{begins_through}
use Rattle.flip_buffer.specs.Drops.{LooksAt}
use Rattle.tty_calls.specs.Plain.{PlainEntry}
use Rattle.ldisc_switch.specs.Disciplines.{column_in}
use Rattle.tty_terminal.specs.Terminals.{Terminal, live_count}
use Rattle.tty_terminal.specs.Receiving.{accepts, after_characters, AcceptsAll}
use Rattle.tty_terminal.specs.Steps.{Allowed}
use Rattle.port_core.specs.declared.waiting.WaitingCall.{WaitingCall}
use Rattle.port_core.specs.Flips.{TakesOut, shown_count}
use Rattle.port_core.specs.Flushes.{IsPieceOf, Takes, TakesNone}
use Rattle.port_core.specs.Ports.{PortValue, IsPort, is_stuck, call_in, flush_entry, with_entry}
use Rattle.port_core.specs.Inside.{KeepsCalls}
use Rattle.port_core.proofs.GoingOn.{plainly, port_taken, port_in_line}
use Rattle.port_core.proofs.Taking.{looks_first}

or_false : (a b : Bool) → (a || b) ≡ false → (a ≡ false) × (b ≡ false)
or_false true b h = absurd (false≢true (sym h))
or_false false b h = (refl, h)

not_false : (b : Bool) → not b ≡ false → b ≡ true
not_false true h = refl
not_false false h = absurd (false≢true (sym h))

above_zero : (n : ℕ) → (n == 0) ≡ false → 0 < n
above_zero n h = grind (arith, nat_tests)

same_number : (m n : ℕ) → m ≡ n → (m == n) ≡ true
same_number m n h = grind (arith, nat_tests)

or_first : (a b : Bool) → a ≡ true → (a || b) ≡ true
or_first true b h = refl
or_first false b h = absurd (false≢true h)

pub when_false : (b : Bool) (P Q : Type 0) → b ≡ false → Q → MatchBool b P Q
when_false true P Q is q = absurd (false≢true (sym is))
when_false false P Q is q = q

-- at least one character is taken where one is there and accepted
some_taken : (t u : Terminal) (cs : List Flagged) (n : ℕ)
    → u ≡ after_characters t cs
    → accepts t ≡ true
    → 0 < n
    → (length cs < n → accepts u ≡ false)
    → 0 < length cs
some_taken t u [] n is accepted some stops =
    absurd (false≢true (sym (stops some) ∙ (ap (λ (w : Terminal). accepts w) is ∙ accepted)))
some_taken t u (x ∷ xs) n is accepted some stops = omega arith

-- a look that shows none counts no more than was taken
shown_none : (over : Bool) (tail taken sent : ℕ)
    → sent ≤ tail
    → (if over then min (tail - taken) (sent - taken) else tail - taken) ≡ 0
    → sent ≤ taken
shown_none true tail taken sent least none = omega arith
shown_none false tail taken sent least none = omega arith

-- once the line is over a look shows no more than was sent
shown_sent : (over : Bool) (tail taken sent n : ℕ)
    → n ≤ (if over then min (tail - taken) (sent - taken) else tail - taken)
    → IsTrue over
    → n ≤ sent - taken
shown_sent true tail taken sent n most h = omega arith
shown_sent false tail taken sent n most h = absurd (false≢true h)

-- nothing is shown
pub takes_none : (v now : PortValue) (f : TakerState Flagged)
    → IsPort v
    → is_stuck v.terminal ≡ false
    → f ≡ with_shown v.flip f.floor
    → LooksAt v.flip f f.floor
    → shown_count v.terminal f.floor ≡ 0
    → now ≡ record v { flip = f }
    → TakesNone v now
takes_none v now f p free same looks none now_is =
    let least : v.terminal.sent ≤ f.floor = omega (arith, p.sent, looks.rises) in
    let all : v.terminal.sent ≤ v.terminal.taken =
    shown_none v.terminal.line_over f.floor v.terminal.taken v.terminal.sent least none in
    subst (λ (w : PortValue). TakesNone v w) (sym now_is) (record {
      cause = when_false (is_stuck v.terminal) _ _ free
          (record { looked = ap (λ (x : TakerState Flagged). record v { flip = x }) same; looks = looks; none = none });
      caught_up = λ _. all;
      idle = λ over. or_first (v.terminal.taken == v.terminal.sent) _
          (same_number v.terminal.taken v.terminal.sent (omega (arith, all, port_in_line v p over, port_taken v p)));
    })

-- a piece stopped where the look shows no more, or where the discipline does not accept
why_stopped : (n count shown most : ℕ) (P : Type 0)
    → n ≤ count
    → count ≡ min shown most
    → (n < count → P)
    → n < most
    → (n ≡ shown) ⊎ P
why_stopped n count shown most P within is stops less =
    ⊎_elim (λ early. inr (stops early)) (λ late. inl (omega (arith, within, is, less, late))) (cases_lt n count)

-- a piece of a flush run is handed over
pub takes_piece : (v now : PortValue) (slots : List (Option WaitingCall)) (run part most count shown : ℕ)
    (f g : TakerState Flagged) (chars : List Flagged) (u : Terminal)
    → KeepsCalls v slots
    → length v.journal < v.limit
    → IsPieceOf v run part most
    → is_stuck v.terminal ≡ false
    → f ≡ with_shown v.flip f.floor
    → LooksAt v.flip f f.floor
    → shown ≡ shown_count v.terminal f.floor
    → count ≡ min shown most
    → 0 < count
    → TakesOut f g chars
    → length chars ≤ count
    → u ≡ after_characters v.terminal chars
    → AcceptsAll v.terminal chars
    → (length chars < count → accepts u ≡ false)
    → column_in u.disc ≤ column_in v.terminal.disc + COLUMNS_OF_CHARACTER * count
    → now ≡ record (with_entry v (flush_entry v run part chars)) { flip = g }
    → KeepsCalls now slots × Takes v now run part most (length chars)
takes_piece v now slots run part most count shown f g chars u keeps few piece free same looks shown_is
    count_is some takes within is accepted stops column now_is =
    let t = v.terminal in
    let p = keeps.port in
    let loose = or_false (live_count t == 0) (not (accepts t)) free in
    let live : 0 < live_count t = above_zero (live_count t) loose.0 in
    let willing : accepts t ≡ true = not_false (accepts t) loose.1 in
    let n = length chars in
    let several : 0 < n = some_taken t u chars count is willing some stops in
    let small : n ≤ PIECE = omega (arith, piece.few) in
    let shows : n ≤ shown_count t f.floor = omega (arith, shown_is) in
    let e : PlainEntry = flush_entry v run part chars in
    let sent : IsTrue t.line_over → t.taken + n ≤ t.sent = λ over.
    omega (arith, shown_sent t.line_over f.floor t.taken t.sent n shows over, several) in
    let allowed : Allowed (call_in v.kept) v.counts t e = (
      refl,
      (
        refl,
        record {
          live = live;
          some = several;
          few = small;
          accepted = accepted;
          numbered = piece.numbered;
          sent = sent;
        },
      ),
    ) in
    let rises = looks.rises in
    let out : TakesOut v.flip g chars = looks_first v.flip f g chars same rises takes in
    let higher = takes.floor in
    let least = p.sent in
    let received : column_in (after_characters t chars).disc ≡ column_in u.disc =
    ap (λ (w : Terminal). column_in w.disc) (sym is) in
    let tails : IsPrefix f.tails g.tails = takes.tails in
    let least_taken = looks.least in
    let most_taken = looks.most in (
      plainly v now slots g e keeps few allowed out.taken (omega arith) out.capacity (omega arith) refl (λ h. piece.one)
          (omega (arith, piece.few)) now_is,
      subst (λ (w : PortValue). Takes v w run part most n) (sym now_is) (record {
        chars = chars;
        count = refl;
        appends = record { allowed = allowed; appended = refl };
        takes_out = out;
        tail = f.floor;
        looks = record {
          looked = begins_through (v.flip.tails ++ f.floor ∷ []) f.tails g.tails looks.looked tails;
          rises = rises;
          floor = higher;
          least = least_taken;
          most = most_taken;
          ended = looks.ended;
        };
        some = several;
        few = omega arith;
        within = shows;
        stops = λ less. subst (λ (k : ℕ). (n ≡ k) ⊎ (accepts (after_characters t chars) ≡ false)) shown_is
            (why_stopped n count shown most (accepts (after_characters t chars) ≡ false) within count_is
            (λ early. ap (λ (w : Terminal). accepts w) (sym is) ∙ stops early) less);
      }),
    )
