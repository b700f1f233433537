-- Turns of the interrupt handler.
use Rattle.std.proofs.Common.{◌≡◌, ℕ, ◌+◌, Bool, false, if◌then◌else◌, List, [], ◌∷◌, ◌++◌, length}
use Rattle.std.proofs.Common.{refl, sym, ◌∙◌, ap, arith, append_assoc, append-nil, length-append, Some}
use Rattle.tty_base.specs.declared.characters.Flagged.{Flagged}
use Rattle.uart_regs.specs.Registers.{Registers}
use Rattle.uart_line.specs.Received.{overrun_mark}
use Rattle.uart_line.specs.LineState.{LineState}
use Rattle.uart_line.specs.Offered.{Offers}
use Rattle.uart_line.specs.Handler.{with_mark, reading_of, after_turn, IsReadOff, Serves}
use Rattle.uart_regs.specs.declared.Reading.{Reading}
use Rattle.uart_line.proofs.OfferedLemmas.{Offers-none, Offers-append, Offers-all}

with_mark-false : (cs : List Flagged) → with_mark false cs ≡ cs
with_mark-false [] = refl
with_mark-false (c ∷ cs) = refl

pub Serves-none : (capacity : ℕ) (line : LineState) (sent : List Flagged) (heads : List ℕ)
    → Serves capacity line line [] sent sent heads heads
Serves-none capacity line sent heads = record {
  offers = Offers-none capacity line.handed sent heads heads [] line.report.overruns.items (sym (append-nil heads));
  handed = omega arith;
  read_off = refl;
  masked = refl;
  most = refl;
  arrived = refl;
}

-- one more character is offered
pub Serves-offer : (capacity capacity' : ℕ) (l0 l1 l2 l3 : LineState) (list : List Flagged) (c : Flagged)
    (s0 s1 s2 : List Flagged) (h0 h1 h2 : List ℕ)
    → Serves capacity l0 l1 list s0 s1 h0 h1
    → l2 ≡ record l1 { registers = l2.registers }
    → IsReadOff l1.registers l2.registers
    → l3
    ≡ record l2 {
      handed = l2.handed + 1;
      report = record l2.report { sent = l3.report.sent; overruns = l3.report.overruns };
    }
    → capacity' ≡ capacity
    → Offers capacity' l2.handed (c ∷ []) s1 s2 h1 h2 l2.report.overruns.items l3.report.overruns.items
    → Serves capacity l0 l3 (list ++ c ∷ []) s0 s2 h0 h2
Serves-offer capacity capacity' l0 l1 l2 l3 list c s0 s1 s2 h0 h1 h2 a turn off more same offers =
    let handed : l2.handed ≡ l0.handed + length list = ap (λ l. l.handed) turn ∙ a.handed in
    let overruns : l2.report.overruns.items ≡ l1.report.overruns.items = ap (λ l. l.report.overruns.items) turn in
    let registers : l3.registers ≡ l2.registers = ap (λ l. l.registers) more in
    let put_back : Registers → Registers =
    λ r. record r { fifo = l2.registers.fifo; overrun = l2.registers.overrun; idle = l2.registers.idle } in
    record {
      offers = Offers-append capacity l0.handed l2.handed list (c ∷ []) s0 s1 s2 h0 h1 h2
          l0.report.overruns.items l1.report.overruns.items l3.report.overruns.items handed a.offers
          (rw (same, overruns) at offers);
      handed = omega (arith, ap (λ l. l.handed) more, handed, length-append list (c ∷ []));
      read_off = rw registers (off ∙ ap put_back a.read_off);
      masked = ap (λ l. l.masked) more ∙ ap (λ l. l.masked) turn ∙ a.masked;
      most = ap (λ l. l.most) more ∙ ap (λ l. l.most) turn ∙ a.most;
      arrived = ap (λ l. l.report.arrived) more ∙ ap (λ l. l.report.arrived) turn ∙ a.arrived;
    }

-- what a reading takes
pub taken : (overrun : Bool) (fifo : List Flagged) (x : Reading) → reading_of overrun fifo ≡ Some x
    → (cs : List Flagged) × (fifo ≡ x.character ∷ cs) × (x.overrun ≡ overrun)
taken overrun [] x e = absurd (cc)
taken overrun (c ∷ cs) x e = (cs, cc, cc)

IsReadOff-turn : (r : Registers) (cs : List Flagged) → IsReadOff r (after_turn r cs)
IsReadOff-turn r [] = refl
IsReadOff-turn r (c ∷ cs) = refl

whole_after : (list whole cs f1 f3 : List Flagged) (c : Flagged) (o o1 o3 : Bool)
    → o3 ≡ false → f3 ≡ cs → o ≡ o1 → f1 ≡ c ∷ cs → list ++ with_mark o1 f1 ≡ whole
    → (list ++ c ∷ []) ++ (if o then overrun_mark ∷ with_mark o3 f3 else with_mark o3 f3) ≡ whole
whole_after list whole cs f1 f3 c o o1 o3 no_more rest same taken w =
    let before : list ++ with_mark o1 (c ∷ cs) ≡ whole = rw taken at w in
    rw (no_more, rest, with_mark-false, same, append_assoc) before

-- a turn of the handler, and the offer of its character
pub Serves-turn : (capacity capacity' : ℕ) (l0 l1 l2 l3 : LineState) (list whole : List Flagged) (x : Reading)
    (s0 s1 s2 : List Flagged) (h0 h1 h2 : List ℕ)
    → Serves capacity l0 l1 list s0 s1 h0 h1
    → list ++ with_mark l1.registers.overrun l1.registers.fifo ≡ whole
    → reading_of l1.registers.overrun l1.registers.fifo ≡ Some x
    → l2 ≡ record l1 { registers = after_turn l1.registers l1.registers.fifo }
    → l3
    ≡ record l2 {
      handed = l2.handed + 1;
      report = record l2.report { sent = l3.report.sent; overruns = l3.report.overruns };
    }
    → capacity' ≡ capacity
    → Offers capacity' l2.handed (x.character ∷ []) s1 s2 h1 h2 l2.report.overruns.items l3.report.overruns.items
    → Serves capacity l0 l3 (list ++ x.character ∷ []) s0 s2 h0 h2
    × ((list ++ x.character ∷ [])
    ++ (if x.overrun
    then overrun_mark ∷ with_mark l3.registers.overrun l3.registers.fifo
    else with_mark l3.registers.overrun l3.registers.fifo) ≡ whole)
Serves-turn capacity capacity' l0 l1 l2 l3 list whole x s0 s1 s2 h0 h1 h2 a w reads turn more same offers =
    let t : (cs : List Flagged) × (l1.registers.fifo ≡ x.character ∷ cs) × (x.overrun ≡ l1.registers.overrun) =
    taken l1.registers.overrun l1.registers.fifo x reads in
    let now : l2.registers ≡ after_turn l1.registers (x.character ∷ t.0) =
    ap (λ l. l.registers) turn ∙ ap (after_turn l1.registers) t.1 in
    let later : l3.registers ≡ after_turn l1.registers (x.character ∷ t.0) = ap (λ l. l.registers) more ∙ now in
    let fifo : l3.registers.fifo ≡ t.0 = ap (λ r. r.fifo) later in
    let overrun : l3.registers.overrun ≡ false = ap (λ r. r.overrun) later in
    let off : IsReadOff l1.registers l2.registers = rw now (IsReadOff-turn l1.registers (x.character ∷ t.0)) in
    let with_registers : Registers → LineState = λ r. record l1 { registers = r } in
    let only : l2 ≡ with_registers l2.registers = turn ∙ ap with_registers (sym (ap (λ l. l.registers) turn)) in (
      Serves-offer capacity capacity' l0 l1 l2 l3 list x.character s0 s1 s2 h0 h1 h2 a only off more same offers,
      whole_after list whole t.0 l1.registers.fifo l3.registers.fifo x.character
          x.overrun l1.registers.overrun l3.registers.overrun
          overrun fifo t.2 t.1 w,
    )

-- the push that ends a run
pub Serves-push : (capacity : ℕ) (l0 l1 l2 : LineState) (list : List Flagged) (s0 s1 s2 : List Flagged)
    (h0 h1 h2 more : List ℕ)
    → Serves capacity l0 l1 list s0 s1 h0 h1
    → s2 ≡ s1
    → h1 ++ more ≡ h2
    → l2 ≡ record l1 { window = l2.window; report = record l1.report { fifo_lost = l2.report.fifo_lost } }
    → Serves capacity l0 l2 list s0 s2 h0 h2
Serves-push capacity l0 l1 l2 list s0 s1 s2 h0 h1 h2 more a s h same =
    let overruns : l2.report.overruns.items ≡ l1.report.overruns.items = ap (λ l. l.report.overruns.items) same in
    let registers : l2.registers ≡ l1.registers = ap (λ l. l.registers) same in
    let later : Offers capacity (l0.handed + length list) [] s1
    s1 h1 h2 l1.report.overruns.items l1.report.overruns.items =
    Offers-none capacity (l0.handed + length list) s1 h1 h2 more l1.report.overruns.items (sym h) in
    record {
      offers = rw (overruns, s)
          (rw append-nil at (Offers-append capacity l0.handed (l0.handed + length list) list [] s0 s1 s1 h0 h1 h2
          l0.report.overruns.items l1.report.overruns.items l1.report.overruns.items refl a.offers later));
      handed = ap (λ l. l.handed) same ∙ a.handed;
      read_off = rw registers a.read_off;
      masked = ap (λ l. l.masked) same ∙ a.masked;
      most = ap (λ l. l.most) same ∙ a.most;
      arrived = ap (λ l. l.report.arrived) same ∙ a.arrived;
    }

-- all of a list is accepted
pub Serves-all : (capacity : ℕ) (l0 l1 : LineState) (list : List Flagged) (n : ℕ) (s0 s1 : List Flagged)
    (h0 h1 : List ℕ)
    → length list ≡ n
    → s1 ≡ s0 ++ list
    → h1 ≡ h0
    → l1 ≡ record l0 { handed = l0.handed + n; report = record l0.report { sent = l0.report.sent + n } }
    → Serves capacity l0 l1 list s0 s1 h0 h1
Serves-all capacity l0 l1 list n s0 s1 h0 h1 long s h same = record {
  offers = Offers-all capacity l0.handed list s0 s1 h0 h1 l0.report.overruns.items l1.report.overruns.items s h
      (ap (λ l. l.report.overruns.items) same);
  handed = ap (λ l. l.handed) same ∙ ap (λ k. l0.handed + k) (sym long);
  read_off = (let is = ap (λ l. l.registers) same in
      is ∙ ap (λ r. record l0.registers { fifo = r.fifo; overrun = r.overrun; idle = r.idle }) (sym is));
  masked = ap (λ l. l.masked) same;
  most = ap (λ l. l.most) same;
  arrived = ap (λ l. l.report.arrived) same;
}
