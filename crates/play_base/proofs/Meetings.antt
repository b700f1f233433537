-- Both ends of a flip buffer meet, and a port that is closed to input.
use Rattle.std.proofs.Common.{◌≡◌, ℕ, ◌+◌, ◌-◌, ◌<◌, ◌≤◌, Bool, true, false, not, ◌||◌, ◌==◌, List, [], ◌∷◌, ◌++◌}
use Rattle.std.proofs.Common.{length, sym, ◌∙◌, ap, subst, arith, append-nil}
use Rattle.std.proofs.lemmas.Bool.Decides.{nat_tests}
use Rattle.tty_base.specs.Sizes.{MOST_SENT}
use Rattle.tty_base.specs.declared.characters.Flagged.{Flagged}
use Rattle.tty_base.specs.declared.lines.LineStep.{LineStep}
use Rattle.word_ring.specs.Ends.{PutterState, TakerState}
use Rattle.word_ring.specs.Names.{NamesTellRings}
use Rattle.uart_line.specs.LineState.{LineState}
use Rattle.uart_line.specs.Received.{received_list}
use Rattle.uart_line.specs.Offered.{HandsOver}
use Rattle.uart_line.proofs.OfferedLemmas.{HandsOver-trans, Offers-none}
use Rattle.tty_terminal.specs.Terminals.{Terminal, live_count}
use Rattle.tty_terminal.specs.Receiving.{accepts, AcceptsAll}
use Rattle.port_core.specs.Flips.{MeetsTaker}
use Rattle.port_core.specs.Ports.{PortValue, is_stuck}
use Rattle.play_base.specs.Putting.{HasPut, KnowsTaken}

-- rings of one name are one ring
pub names_tell : NamesTellRings
names_tell ring other same =
    let words : ring.words ≡ other.words = cc in
    let slots : ring.slots ≡ other.slots = cc in
    let views_name : ring.views_name ≡ other.views_name = cc in
    let atom : ring.atom ≡ other.atom = cc in
    let block : ring.block ≡ other.block = cc in
    let offset : ring.offset ≡ other.offset = cc in
    let slot_names : ring.slot_names ≡ other.slot_names = cc in
    λ i. record {
      words = words i;
      slots = slots i;
      views_name = views_name i;
      atom = atom i;
      block = block i;
      offset = offset i;
      slot_names = slot_names i;
    }

pub sent_met : (f : TakerState Flagged) (putter now : PutterState Flagged)
    → MeetsTaker f putter now
    → now.sent ≡ putter.sent
sent_met f putter now m = ap (λ (p : PutterState Flagged). p.sent) m.putter

pub heads_met : (f : TakerState Flagged) (putter now : PutterState Flagged)
    → MeetsTaker f putter now
    → now.heads ≡ putter.heads ++ length f.taken ∷ []
heads_met f putter now m = ap (λ (p : PutterState Flagged). p.heads) m.putter

pub knows_met : (f : TakerState Flagged) (putter now : PutterState Flagged)
    → MeetsTaker f putter now
    → KnowsTaken (length f.taken) now.heads
knows_met f putter now m = record { before = putter.heads; later = []; parts = heads_met f putter now m; rise = m.rise }

pub has_put_met : (v : PortValue) (putter now : PutterState Flagged) (line : LineState) (steps : List LineStep)
    → HasPut v putter line steps → MeetsTaker v.flip putter now → HasPut v now line steps
has_put_met v putter now line steps h m =
    let none : HandsOver v.flip.capacity (received_list steps) (received_list steps) putter.sent putter.sent
    putter.heads now.heads line.report.overruns.items line.report.overruns.items =
    record {
      list = [];
      grows = sym (append-nil (received_list steps));
      offers = Offers-none v.flip.capacity (length (received_list steps)) putter.sent putter.heads now.heads
          (length v.flip.taken ∷ []) line.report.overruns.items (heads_met v.flip putter now m);
    } in
    let all : HandsOver v.flip.capacity [] (received_list steps)
    [] putter.sent [] now.heads [] line.report.overruns.items =
    HandsOver-trans v.flip.capacity [] (received_list steps) (received_list steps) [] putter.sent putter.sent []
    putter.heads now.heads [] line.report.overruns.items line.report.overruns.items h.hands_over none in
    record {
      ring = ap (λ (p : PutterState Flagged). p.ring) m.putter ∙ h.ring;
      capacity = ap (λ (p : PutterState Flagged). p.capacity) m.putter ∙ h.capacity;
      done = h.done;
      hands_over = subst (λ (xs : List Flagged).
          HandsOver v.flip.capacity [] (received_list steps) [] xs [] now.heads [] line.report.overruns.items)
          (sym (sent_met v.flip putter now m)) all;
      room = subst (λ (xs : List Flagged). line.most ≤ (MOST_SENT - length xs) + line.handed)
          (sym (sent_met v.flip putter now m)) h.room;
    }

-- the account asks of the port its flip buffer's ring and capacity alone
pub has_put_at : (v w : PortValue) (putter : PutterState Flagged) (line : LineState) (steps : List LineStep)
    → w.flip.ring ≡ v.flip.ring
    → w.flip.capacity ≡ v.flip.capacity
    → HasPut v putter line steps
    → HasPut w putter line steps
has_put_at v w putter line steps ring capacity h = record {
  ring = h.ring ∙ sym ring;
  capacity = h.capacity ∙ sym capacity;
  done = h.done;
  hands_over = subst
      (λ (n : ℕ). HandsOver n [] (received_list steps) [] putter.sent [] putter.heads [] line.report.overruns.items)
      (sym capacity) h.hands_over;
  room = h.room;
}

-- a piece is taken only where the port is not stuck
stuck_takes_none : (closed takes : Bool) → closed ≡ false → takes ≡ true → (closed || not takes) ≡ true → ⊥
stuck_takes_none true takes h k l = absurd (cc)
stuck_takes_none false true h k l = absurd (cc)
stuck_takes_none false false h k l = absurd (cc)

first_accepted : (t : Terminal) (chars : List Flagged) → AcceptsAll t chars → 0 < length chars → accepts t ≡ true
first_accepted t [] h k = absurd (omega arith)
first_accepted t (c ∷ cs) h k = h.0

pub not_stuck : (t : Terminal) (chars : List Flagged)
    → 0 < live_count t
    → AcceptsAll t chars
    → 0 < length chars
    → is_stuck t ≡ true
    → ⊥
not_stuck t chars live all some h =
    let none_live : (live_count t == 0) ≡ false = grind (arith, nat_tests) in
    stuck_takes_none (live_count t == 0) (accepts t) none_live (first_accepted t chars all some) h
