-- Characters that are given: put where nothing waits, and taken as far as they are accepted.
use Rattle.std.proofs.Common.{◌≡◌, ℕ, List, Option, [], ◌∷◌, ◌++◌, Bool, true, false}
use Rattle.std.proofs.Common.{if◌then◌else◌, ◌+◌, ◌-◌, ◌*◌, ◌<◌, ◌≤◌, min, max, length, take}
use Rattle.std.proofs.Common.{drop, refl, sym, ◌∙◌, ap, subst, arith, append_assoc, length-append}
use Rattle.std.proofs.lemmas.Bool.{false≢true}
use Rattle.std.proofs.lemmas.List.{take_all, length-take-le}
use Rattle.std.proofs.Math.Seq.{drop-append_seam, take-append_seam}
use Rattle.tty_base.specs.Sizes.{COLUMNS_OF_CHARACTER}
use mathlib.Core.List.{IsPrefix}
use Rattle.tty_base.specs.declared.characters.Flagged.{Flagged}
use Rattle.word_ring.specs.Ends.{PutterState, TakerState, NothingWaits, Passes, with_shown, with_taken, with_all_taken}
use Rattle.word_ring.proofs.Beginnings.{begins_itself}
use Rattle.flip_buffer.specs.Drops.{LooksAt}
use Rattle.ldisc_switch.specs.Disciplines.{column_in}
use Rattle.tty_terminal.specs.Terminals.{Terminal}
use Rattle.tty_terminal.specs.Receiving.{accepts, after_characters, AcceptsAll}
use Rattle.port_core.specs.declared.waiting.WaitingCall.{WaitingCall}
use Rattle.port_core.specs.declared.ports.flushing.Flushed.TheVariants as flushed
use Rattle.port_core.specs.Flips.{TakesOut, MeetsTaker, after_meeting}
use Rattle.port_core.specs.Flushes.{IsPieceOf, Takes}
use Rattle.port_core.specs.Given.{TakesGiven, FlushesGiven, with_put, with_pushed}
use Rattle.port_core.specs.Inside.{KeepsCalls}
use Rattle.port_core.specs.Ports.{PortValue, is_stuck, flush_entry, with_entry}
use Rattle.port_core.proofs.GoingOn.{port_taken}
use Rattle.port_core.proofs.Handing.{takes_piece}
use Rattle.port_core.proofs.Taking.{one_released, takes_peeked}

-- one look after they were put
look_after : (f : TakerState Flagged) (p : PutterState Flagged) (chars : List Flagged) (tail : ℕ)
    → NothingWaits p f
    → max f.floor (length (p.sent ++ chars)) ≤ tail
    → tail ≤ length f.taken + f.capacity
    → LooksAt (after_meeting f (with_put p chars)) (with_shown (after_meeting f (with_put p chars)) tail) tail
look_after f p chars tail clear rises most =
    let more = length-append p.sent chars in
    let all = clear.taken in
    record {
      looked = begins_itself (f.tails ++ tail ∷ []);
      rises = rises;
      floor = omega arith;
      least = omega arith;
      most = most;
      ended = λ ended. absurd (false≢true (sym clear.apart ∙ ended));
    }

-- all of them pass
pub passes_given : (f g : TakerState Flagged) (p q : PutterState Flagged) (chars : List Flagged) (n : ℕ)
    → NothingWaits p f
    → 0 < length chars
    → length chars ≤ f.capacity
    → n ≡ length chars
    → Passes p q f g chars
    → TakesGiven f g p q chars n
passes_given f g p q chars n clear some few all passes =
    let more = length-append p.sent chars in
    let count = length (p.sent ++ chars) in
    let known = clear.known in
    let taken = clear.taken in
    let low = passes.floor in
    let same : count ≡ max count count = omega arith in
    let whole : take n chars ≡ chars = take_all n chars (omega arith) in
    record {
      tail = count;
      left = with_all_taken f (p.sent ++ chars);
      looks = look_after f p chars count clear (omega arith) (omega arith);
      takes_out = record {
        ring = refl;
        capacity = refl;
        taken = (λ i. sym passes.met i ++ sym whole i);
        floor = omega arith;
        tails = begins_itself (f.tails ++ count ∷ []);
        released = one_released (with_shown (after_meeting f (with_put p chars)) count)
            (with_all_taken f (p.sent ++ chars)) refl (omega arith);
        ended = refl;
        sent = refl;
      };
      new_is = passes.taker ∙ (λ i. record (with_all_taken f (p.sent ++ chars)) { floor = same i });
      meets = record {
        putter = passes.putter;
        begins = begins_itself (p.sent ++ chars);
        heads = passes.heads;
        rise = passes.rise;
        rises = omega arith;
      };
    }

-- what was taken after as many as were put before begins what was put then
begins_given : (ts ss ys chars : List Flagged)
    → length ts ≡ length ss
    → IsPrefix (ts ++ ys) (ss ++ chars)
    → ys ≡ take (length ys) chars
begins_given ts ss ys chars long begins =
    let rest = begins.0 in
    let whole : ts ++ (ys ++ rest) ≡ ss ++ chars = sym (append_assoc ts ys rest) ∙ begins.1 in
    let behind : ys ++ rest ≡ chars =
    sym (drop-append_seam ts (ys ++ rest))
    ∙ (ap (drop (length ts)) whole ∙ (ap (λ (k : ℕ). drop k (ss ++ chars)) long ∙ drop-append_seam ss chars)) in
    sym (ap (take (length ys)) (sym behind) ∙ take-append_seam ys rest)

-- the first of them are taken
pub front_given : (f h g : TakerState Flagged) (p q : PutterState Flagged) (chars xs : List Flagged) (n tail : ℕ)
    → NothingWaits p f
    → length xs ≡ n
    → max f.floor (length (p.sent ++ chars)) ≤ tail
    → tail ≤ length f.taken + f.capacity
    → h ≡ with_taken (with_shown (after_meeting f (with_put p chars)) tail) xs
    → g ≡ after_meeting h (with_pushed p chars)
    → MeetsTaker h (with_pushed p chars) q
    → TakesGiven f g p q chars n
front_given f h g p q chars xs n tail clear count rises most released met meets =
    let shown : TakerState Flagged = with_shown (after_meeting f (with_put p chars)) tail in
    let taken : TakesOut shown h xs =
    subst (λ (z : TakerState Flagged). TakesOut shown z xs) (sym released) (takes_peeked shown [] xs) in
    let begins : IsPrefix (f.taken ++ xs) (p.sent ++ chars) =
    subst (λ (z : List Flagged). IsPrefix z (p.sent ++ chars)) taken.taken meets.begins in
    let given : xs ≡ take n chars =
    begins_given f.taken p.sent xs chars clear.taken begins ∙ ap (λ (k : ℕ). take k chars) count in
    record {
      tail = tail;
      left = h;
      looks = look_after f p chars tail clear rises most;
      takes_out = subst (λ (z : List Flagged). TakesOut shown h z) given taken;
      new_is = met;
      meets = meets;
    }

-- a port whose end is told of what was put
told_keeps : (v : PortValue) (slots : List (Option WaitingCall)) (p : PutterState Flagged)
    → KeepsCalls v slots
    → KeepsCalls (record v { flip = after_meeting v.flip p }) slots
told_keeps v slots p keeps =
    let known = keeps.port.sent in
    record {
      port = record {
        run = keeps.port.run;
        one = keeps.port.one;
        chars = keeps.port.chars;
        sent = omega arith;
        capacity = keeps.port.capacity;
        bounded = keeps.port.bounded;
        column = keeps.port.column;
        few = keeps.port.few;
        limit = keeps.port.limit;
        begun = keeps.port.begun;
      };
      many = keeps.many;
      calls = keeps.calls;
    }

-- before the line is over a look shows all that it counts
shown_before : (over : Bool) (shown most : ℕ) → over ≡ false → shown ≡ (if over then min shown most else shown)
shown_before true shown most line = absurd (false≢true (sym line))
shown_before false shown most line = refl

-- the piece is handed over
pub gives_piece : (v now : PortValue) (slots : List (Option WaitingCall)) (run n : ℕ) (p q : PutterState Flagged)
    (g : TakerState Flagged) (chars : List Flagged) (u : Terminal)
    → KeepsCalls v slots
    → length v.journal < v.limit
    → IsPieceOf v run 0 (length chars)
    → is_stuck v.terminal ≡ false
    → v.terminal.line_over ≡ false
    → NothingWaits p v.flip
    → TakesGiven v.flip g p q chars n
    → n ≤ length chars
    → u ≡ after_characters v.terminal (take n chars)
    → AcceptsAll v.terminal (take n chars)
    → (n < length chars → accepts u ≡ false)
    → column_in u.disc ≤ column_in v.terminal.disc + COLUMNS_OF_CHARACTER * length chars
    → now ≡ record (with_entry v (flush_entry v run 0 (take n chars))) { flip = g }
    → KeepsCalls now slots × FlushesGiven v now p q run chars (flushed.Took n)
gives_piece v now slots run n p q g chars u keeps few piece
    free line clear given within is accepted stops column now_is =
    let count = length chars in
    let front = take n chars in
    let w : PortValue = record v { flip = after_meeting v.flip (with_put p chars) } in
    let left : PortValue = record (with_entry w (flush_entry w run 0 front)) { flip = given.left } in
    let long : length front ≡ n = length-take-le n chars within in
    let more = length-append p.sent chars in
    let here = port_taken v keeps.port in
    let all = clear.taken in
    let rises : max v.flip.floor (length (p.sent ++ chars)) ≤ given.tail = given.looks.rises in
    let counts : count ≡ min (given.tail - v.terminal.taken) count = omega arith in
    let asked : IsPieceOf w run 0 count =
    record { some = piece.some; few = piece.few; numbered = piece.numbered; one = piece.one } in
    let both = takes_piece w left slots run 0 count count (given.tail - v.terminal.taken) (with_shown w.flip given.tail)
    given.left front u (told_keeps v slots (with_put p chars) keeps) few asked free
    refl given.looks (shown_before v.terminal.line_over _ _ line) counts piece.some given.takes_out (omega arith) is
    accepted (λ less. stops (omega (arith, long, less))) column refl in
    let new_is : now ≡ record left { flip = after_meeting given.left (with_pushed p chars) } =
    now_is
    ∙ ap (λ (x : TakerState Flagged). record (with_entry v (flush_entry v run 0 front)) { flip = x }) given.new_is in (
      subst (λ (x : PortValue). KeepsCalls x slots) (sym new_is) (told_keeps left slots (with_pushed p chars) both.0),
      subst (λ (x : PortValue). FlushesGiven v x p q run chars (flushed.Took n)) (sym new_is) (record {
        left = left;
        flushes = subst (λ (k : ℕ). Takes w left run 0 count k) long both.1;
        new_is = refl;
        meets = given.meets;
      }),
    )
