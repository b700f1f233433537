use Rattle.std.proofs.Common.{rules, refl, not, ◌≡◌, ◌≤◌, ℕ, List, true, false, ◌++◌, Option, sym, ◌∙◌, ap, subst}
use Rattle.tty_base.specs.Contents.{Contents}
use Rattle.tty_base.specs.declared.counters.Errno.TheVariants.{EAGAIN}
use Rattle.tty_calls.specs.declared.answers.Answer.TheVariants.{Got}
use Rattle.tty_calls.specs.Plain.{got}
use Rattle.n_tty.specs.States.{NTtyState}
use Rattle.n_tty.specs.Reading.{bytes_read, is_readable}
use Rattle.handle_table.specs.declared.HandleState.{HandleState}
use Rattle.ldisc_switch.specs.declared.discipline.Disc.{Disc}
use Rattle.ldisc_switch.specs.declared.discipline.Disc.TheVariants as disc
use Rattle.tty_terminal.specs.declared.rooms.Met.{Met}
use Rattle.tty_terminal.specs.declared.rooms.Met.TheVariants as met
use Rattle.tty_terminal.specs.Inside.{terminal_of}
use Rattle.tty_terminal.specs.Outcomes.{Outcome, waits, gives, refuses, may_read}
use Rattle.tty_terminal.specs.Transfers.{since_or, reading_outcome}
use Rattle.tty_terminal.specs.Meeting.{InRoom, Meets, left_before_rule, read_room}
use Rattle.tty_terminal.proofs.ReadLaws.{since_is, taken, ready_read, told_unready, whole_piece}
use Rattle.tty_terminal.proofs.RoomLaws.{through}
use Rattle.tty_terminal.proofs.terminals.Terminal.read.Goals as goal

-- what the read comes to
comes_to : (c : goal.After-into_vec-then-ready)
    → (let t = terminal_of c.self.inside in
    reading_outcome t c.args.state.now c.args.n c.args.handle
    ≡ gives (got (bytes_read t.modes c.args.n c.in-Tty.tty)) false (record t { disc = disc.Tty c.read-count.new.self }))
comes_to c =
    let a = c.self.inside in
    let t = terminal_of a in
    let s = c.args.state.now in
    let n = c.args.n in
    let handle = c.in-Some.handle in
    let tty = c.in-Tty.tty in
    let may : may_read handle.access ≡ true = sym c.may_read.ensures ∙ c.if-not-may_read.false in
    let since : c.unwrap_or-since.result ≡ since_or s.waits a.tick =
    c.unwrap_or-since.ensures ∙ since_is s.waits a.tick in
    let ready : is_readable a.modes handle.nonblock n (since_or s.waits a.tick) a.tick tty ≡ true =
    ap (λ (w : ℕ). is_readable a.modes handle.nonblock n w a.tick tty) (sym since)
    ∙ (sym c.ready.ensures ∙ c.if-ready.true) in
    let live : not handle.live ≡ false = search rules steps 100000 in
    ap (λ (h : Option HandleState). reading_outcome t s n h) c.in-Some.is
    ∙ (ready_read t s n handle tty may live c.in-Tty.is ready
    ∙ ap (λ (x : NTtyState). gives (got (bytes_read a.modes n tty)) false (record t { disc = disc.Tty x }))
    (sym c.read-count.ensures.left))

pub returns-then-ready-clause-met : goal.returns-then-ready-clause-met
returns-then-ready-clause-met c =
    let a = c.self.inside in
    let given = met.Gives (Got c.into_vec-then-ready.result) in
    let read = bytes_read a.modes c.args.n c.in-Tty.tty in
    subst (λ (v : InRoom). Meets (reading_outcome v.terminal c.args.state.now c.args.n c.args.handle) given)
    c.self.view_is
    (subst (λ (o : Outcome). Meets o given) (sym (comes_to c))
    (ap got (c.into_vec-then-ready.ensures
    ∙ (ap (λ (r : Contents ℕ). r.items) c.read-count.ensures.bytes
    ∙ ap (λ (xs : List ℕ). xs ++ read) c.requires.empty))))

pub returns-then-ready-clause-left : goal.returns-then-ready-clause-left
returns-then-ready-clause-left c =
    let t = terminal_of c.self.inside in
    subst (λ (v : InRoom).
    record t { disc = disc.Tty c.read-count.new.self }
    ≡ left_before_rule (reading_outcome v.terminal c.args.state.now c.args.n c.args.handle) v.terminal) c.self.view_is
    (sym (ap (λ (o : Outcome). left_before_rule o t) (comes_to c)))

pub read-count-requires-clause-complete : goal.read-count-requires-clause-complete
read-count-requires-clause-complete c = λ canonical. whole_piece c.self.inside.modes c.in-Some.handle.nonblock c.args.n
    c.unwrap_or-since.result c.self.inside.tick c.in-Tty.tty (sym c.ready.ensures ∙ c.if-ready.true) canonical

pub read-count-requires-clause-room : goal.read-count-requires-clause-room
read-count-requires-clause-room c =
    let spare = c.args.room.spare in
    subst (λ (d : Disc). read_room (terminal_of c.self.inside) c.args.n d ≤ spare) c.in-Tty.is
    (subst (λ (v : InRoom). read_room v.terminal c.args.n v.terminal.disc ≤ spare) (sym c.self.view_is) c.requires.fits)

pub returns-then-handle-clause-met : goal.returns-then-handle-clause-met
returns-then-handle-clause-met c =
    let live : not c.in-Some.handle.live ≡ false = search rules steps 100000 in
    let v = c.args.self.now in
    let comes =
    told_unready c.self.inside c.args.self.now c.args.state.now c.args.n c.args.handle c.in-Some.handle c.in-Tty.tty
    c.unwrap_or-since.result c.may_read.result c.ready.result c.self.view_is c.in-Some.is c.may_read.ensures
    c.if-not-may_read.false live c.in-Tty.is c.unwrap_or-since.ensures c.ready.ensures c.if-ready.false
    ∙ taken c.in-Some.handle.nonblock (refuses EAGAIN v.terminal) waits c.if-handle.true in
    subst (λ (o : Outcome). Meets o c.refuse-then-handle.result) (sym comes)
    (subst (λ (m : Met). Meets (refuses EAGAIN v.terminal) m) (sym c.refuse-then-handle.ensures) refl)

pub returns-then-handle-clause-left : goal.returns-then-handle-clause-left
returns-then-handle-clause-left c =
    let live : not c.in-Some.handle.live ≡ false = search rules steps 100000 in
    let v = c.args.self.now in
    let comes =
    told_unready c.self.inside c.args.self.now c.args.state.now c.args.n c.args.handle c.in-Some.handle c.in-Tty.tty
    c.unwrap_or-since.result c.may_read.result c.ready.result c.self.view_is c.in-Some.is c.may_read.ensures
    c.if-not-may_read.false live c.in-Tty.is c.unwrap_or-since.ensures c.ready.ensures c.if-ready.false
    ∙ taken c.in-Some.handle.nonblock (refuses EAGAIN v.terminal) waits c.if-handle.true in
    ap (λ (d : Disc). record (terminal_of c.self.inside) { disc = d }) (sym c.in-Tty.is)
    ∙ (ap (λ (u : InRoom). u.terminal) c.self.view_is ∙ sym (ap (λ (o : Outcome). left_before_rule o v.terminal) comes))

pub returns-clause-met : goal.returns-clause-met
returns-clause-met c =
    let live : not c.in-Some.handle.live ≡ false = search rules steps 100000 in
    let v = c.args.self.now in
    let comes =
    told_unready c.self.inside c.args.self.now c.args.state.now c.args.n c.args.handle c.in-Some.handle c.in-Tty.tty
    c.unwrap_or-since.result c.may_read.result c.ready.result c.self.view_is c.in-Some.is c.may_read.ensures
    c.if-not-may_read.false live c.in-Tty.is c.unwrap_or-since.ensures c.ready.ensures c.if-ready.false
    ∙ through c.in-Some.handle.nonblock (refuses EAGAIN v.terminal) waits c.if-handle.false in
    subst (λ (o : Outcome). Meets o met.Waits) (sym comes) tt

pub returns-clause-left : goal.returns-clause-left
returns-clause-left c =
    let live : not c.in-Some.handle.live ≡ false = search rules steps 100000 in
    let v = c.args.self.now in
    let comes =
    told_unready c.self.inside c.args.self.now c.args.state.now c.args.n c.args.handle c.in-Some.handle c.in-Tty.tty
    c.unwrap_or-since.result c.may_read.result c.ready.result c.self.view_is c.in-Some.is c.may_read.ensures
    c.if-not-may_read.false live c.in-Tty.is c.unwrap_or-since.ensures c.ready.ensures c.if-ready.false
    ∙ through c.in-Some.handle.nonblock (refuses EAGAIN v.terminal) waits c.if-handle.false in
    ap (λ (d : Disc). record (terminal_of c.self.inside) { disc = d }) (sym c.in-Tty.is)
    ∙ (ap (λ (u : InRoom). u.terminal) c.self.view_is ∙ sym (ap (λ (o : Outcome). left_before_rule o v.terminal) comes))
