-- A discipline is what has happened to it in its run, since it was installed.
use Rattle.std.proofs.Common.{◌≡◌, ℕ, List, [], ◌∷◌, ◌++◌, Bool, true, false, not, ◌&&◌, ◌||◌, ◌==◌, Option, None}
use Rattle.std.proofs.Common.{Some, is_some, if◌then◌else◌, nat_lt, length, drop, sum, append_assoc, refl, sym, ◌∙◌}
use Rattle.std.proofs.Common.{ap, subst, arith}
use Rattle.std.proofs.lemmas.List.Sums.{fold-append}
use Rattle.tty_base.specs.declared.characters.Flagged.{Flagged}
use Rattle.tty_base.specs.declared.counters.Errno.{Errno}
use Rattle.tty_base.specs.declared.counters.Errno.TheVariants.{EAGAIN}
use Rattle.tty_calls.specs.declared.calls.Access.{Access}
use Rattle.tty_calls.specs.declared.calls.When.{When}
use Rattle.tty_calls.specs.declared.calls.When.TheVariants as when
use Rattle.tty_calls.specs.declared.calls.Queue.{Queue}
use Rattle.tty_calls.specs.declared.calls.Queue.TheVariants as queue
use Rattle.tty_calls.specs.declared.calls.Act.{Act}
use Rattle.tty_calls.specs.declared.calls.Act.TheVariants as act
use Rattle.tty_calls.specs.declared.journals.Who.{Who}
use Rattle.tty_calls.specs.declared.journals.Who.TheVariants.{Caller, Flusher, Line, Clock, Session}
use Rattle.tty_calls.specs.Plain.{PlainCall, opens, closes, reads, writes, gets_modes, sets_modes, gets_disc}
use Rattle.tty_calls.specs.Plain.{sets_disc, flushes, steers, counts_input, counts_output, excludes, admits, drains}
use Rattle.tty_calls.specs.Plain.{gets_counts, hangs_up, sends_packet, takes_packet, PlainEvent, answered, parted}
use Rattle.tty_calls.specs.Plain.{waited, flushed, ticked, line_ended, clock_ended, caller_ended, phase_ended}
use Rattle.tty_calls.specs.Plain.{hung_up, PlainEntry}
use Rattle.tty_modes.specs.Settings.{Settings, character as control}
use Rattle.tty_modes.specs.declared.places.TheConstants.{VSTART, VSTOP}
use Rattle.tty_modes.specs.Word.{after_words}
use Rattle.flow_control.specs.Output.{on_wire, room_of}
use Rattle.opost_out.specs.Column.{column_of}
use Rattle.n_tty.specs.States.{NTtyState}
use Rattle.n_tty.specs.Reading.{is_readable}
use Rattle.n_tty.specs.Writing.{piece_size}
use Rattle.n_slip.specs.Discipline.{Slip}
use Rattle.n_slip.specs.History.{HasSeen}
use Rattle.slip_frames.specs.Slip.{max_packet, spelling_of}
use Rattle.handle_table.specs.declared.HandleState.{HandleState}
use Rattle.handle_table.specs.Handles as table
use Rattle.ldisc_switch.specs.declared.kinds.Kind.{Kind}
use Rattle.ldisc_switch.specs.declared.kinds.Kind.TheVariants as kind
use Rattle.ldisc_switch.specs.declared.discipline.Disc.{Disc}
use Rattle.ldisc_switch.specs.declared.discipline.Disc.TheVariants as disc
use Rattle.ldisc_switch.specs.Disciplines.{kind_of, kind_of_number, fresh_of}
use Rattle.ldisc_switch.specs.Happenings.{Happening, read, write, flush, mode_change, packet_take}
use Rattle.ldisc_switch.specs.Happenings.{after_one, after_all, HasHappened, slip_parts}
use Rattle.ldisc_switch.specs.Posted.{text_of_all}
use Rattle.ldisc_switch.proofs.ColumnLemmas.{column_of_posted}
use Rattle.ldisc_switch.proofs.KindLemmas.{kept_kind}
use Rattle.ldisc_switch.proofs.PacketLemmas.{seen_by_slip}
use Rattle.tty_terminal.specs.declared.callers.CallerState.{CallerState}
use Rattle.tty_terminal.specs.Terminals.{Terminal, opening, handle_at, handle_for, caller_at}
use Rattle.tty_terminal.specs.Receiving.{after_character, after_characters}
use Rattle.tty_terminal.specs.Generations.{after_change, after_close, after_last_close}
use Rattle.tty_terminal.specs.Outcomes.{Outcome, refuses, does, may_read, may_write, on_live, on_access}
use Rattle.tty_terminal.specs.Opening.{is_last_live, closing_outcome}
use Rattle.tty_terminal.specs.Transfers.{since_or, has_parts, is_outlived, write_refusal, read_outcome}
use Rattle.tty_terminal.specs.Transfers.{reading_outcome, write_outcome, writing_outcome}
use Rattle.tty_terminal.specs.Modes.{is_drained, modes_outcome}
use Rattle.tty_terminal.specs.Switching.{number_of, change_outcome, hangup_outcome}
use Rattle.tty_terminal.specs.Flow.{flush_outcome, after_act}
use Rattle.tty_terminal.specs.Packets.{with_packet_sent, sending_outcome, taking_outcome}
use Rattle.tty_terminal.specs.Calls.{outcome, outcome_of}
use Rattle.tty_terminal.specs.Steps.{left_by, TakesPart, IsAllowed, after_event, after}
use Rattle.tty_terminal.specs.Runs.{Leads, IsRun}
use Rattle.tty_terminal.specs.Begins.{is_last_close, is_change, call_begins}
use Rattle.tty_terminal.specs.Begins.{known_call_begins, begins_generation, generation_after}
use Rattle.tty_terminal.specs.Happened.{by_live, by_access, read_by, reading_by, write_by, writing_by, modes_by}
use Rattle.tty_terminal.specs.Happened.{flush_by, take_by, happens_by_call, happens_by_known, happens_by_flush}
use Rattle.tty_terminal.specs.Happened.{happens_by, happened_after, happened_in}
use Rattle.tty_terminal.specs.Heard.{character_of, characters_of, flushed_by, heard_after, heard_in, HasHeard}
use Rattle.tty_terminal.proofs.Effects.{outcome_keeps}
use Rattle.tty_terminal.proofs.BeginLaws.{known_generation}

-- ---- one call

-- an outcome leaves the discipline that comes of these
abbrev Comes : Terminal → List Happening → Outcome → Type 0
Comes t events o = (left_by o t).disc ≡ after_all t.disc events

neither : (t : Terminal) (b : Bool) (d e : List Happening) (x y : Outcome)
    → Comes t d x
    → Comes t e y
    → Comes t (if b then d else e) (if b then x else y)
neither t true d e x y p q = p
neither t false d e x y p q = q

-- neither of both is anything
nothing : (t : Terminal) (b : Bool) (x y : Outcome) → Comes t [] x → Comes t [] y → Comes t [] (if b then x else y)
nothing t true x y p q = p
nothing t false x y p q = q

-- the test stands the other way round
unless : (t : Terminal) (b : Bool) (d e : List Happening) (x y : Outcome)
    → Comes t d x
    → Comes t e y
    → Comes t (if b then d else e) (if not b then y else x)
unless t true d e x y p q = p
unless t false d e x y p q = q

live_comes : (t : Terminal) (o : Option HandleState) (events : List Happening) (x : Outcome)
    → Comes t events x
    → Comes t (by_live o events) (on_live t o x)
live_comes t None events x h = refl
live_comes t (Some handle) events x h = neither t handle.live events [] x _ h refl

access_comes : (may : Access → Bool) (t : Terminal) (o : Option HandleState) (events : List Happening) (x : Outcome)
    → Comes t events x
    → Comes t (by_access may o events) (on_access may t o x)
access_comes may t None events x h = refl
access_comes may t (Some handle) events x h =
    neither t (may handle.access) _ [] _ _ (live_comes t (Some handle) events x h) refl

live_nothing : (t : Terminal) (o : Option HandleState) (x : Outcome) → Comes t [] x → Comes t [] (on_live t o x)
live_nothing t None x h = refl
live_nothing t (Some handle) x h = nothing t handle.live x _ h refl

access_nothing : (may : Access → Bool) (t : Terminal) (o : Option HandleState) (x : Outcome)
    → Comes t [] x
    → Comes t [] (on_access may t o x)
access_nothing may t None x h = refl
access_nothing may t (Some handle) x h = nothing t (may handle.access) _ _ (live_nothing t (Some handle) x h) refl

read_comes : (t : Terminal) (s : CallerState) (nonblock : Bool) (n : ℕ) (d : Disc)
    → t.disc ≡ d
    → Comes t (read_by t s nonblock n d) (read_outcome t s nonblock n d)
read_comes t s nonblock n (disc.Slip slip) e = refl
read_comes t s nonblock n (disc.Tty tty) e =
    neither t (is_readable t.modes nonblock n (since_or s.waits t.tick) t.tick tty) (read t.modes n ∷ []) [] _ _
    (ap (λ (d : Disc). after_one d (read t.modes n)) (sym e))
    (nothing t nonblock _ _ refl refl)

reading_comes : (t : Terminal) (s : CallerState) (n : ℕ) (o : Option HandleState)
    → Comes t (reading_by t s n o) (reading_outcome t s n o)
reading_comes t s n None = refl
reading_comes t s n (Some handle) =
    unless t (may_read handle.access) _ [] _ _
    (unless t handle.live _ [] _ _ (read_comes t s handle.nonblock n t.disc refl) refl)
    refl

refusal_nothing : (t : Terminal) (s : CallerState) (errno : Errno) → Comes t [] (write_refusal t s errno)
refusal_nothing t s errno = nothing t (has_parts s) _ _ refl refl

part_comes : (t : Terminal) (all some : Bool) (events : List Happening) (x y z : Outcome)
    → Comes t events x
    → Comes t events y
    → Comes t [] z
    → Comes t (if all || some then events else []) (if all then x else if some then y else z)
part_comes t true some events x y z p q r = p
part_comes t false true events x y z p q r = q
part_comes t false false events x y z p q r = r

write_comes : (t : Terminal) (s : CallerState) (nonblock : Bool) (rest : List ℕ) (d : Disc)
    → t.disc ≡ d
    → Comes t (write_by t rest d) (write_outcome t s nonblock rest d)
write_comes t s nonblock rest (disc.Slip slip) e = refusal_nothing t s _
write_comes t s nonblock rest (disc.Tty tty) e =
    let fit = piece_size t.modes tty t.output rest in
    let posted : after_one (disc.Tty tty) (write t.modes t.output rest)
    ≡ after_one t.disc (write t.modes t.output rest) =
    ap (λ (d : Disc). after_one d (write t.modes t.output rest)) (sym e) in
    part_comes t (fit == length rest) (nat_lt 0 fit) (write t.modes t.output rest ∷ []) _ _ _ posted posted
    (nothing t nonblock _ _ (refusal_nothing t s _) refl)

writing_comes : (t : Terminal) (s : CallerState) (bytes : List ℕ) (o : Option HandleState)
    → Comes t (writing_by t s bytes o) (writing_outcome t s bytes o)
writing_comes t s bytes None = refusal_nothing t s _
writing_comes t s bytes (Some handle) =
    unless t (may_write handle.access) _ [] _ _
    (unless t handle.live _ [] _ _
    (neither t (is_outlived t s) [] _ _ _ refl (write_comes t s handle.nonblock (drop s.taken bytes) t.disc refl))
    (refusal_nothing t s _))
    (refusal_nothing t s _)

modes_comes : (t : Terminal) (w : When) (new : Settings) → Comes t (modes_by t w new) (modes_outcome t w new)
modes_comes t when.Now new = refl
modes_comes t when.Drain new = neither t (is_drained t) (mode_change t.modes new ∷ []) [] _ _ refl refl
modes_comes t when.Flush new = neither t (is_drained t) (flush ∷ mode_change t.modes new ∷ []) [] _ _ refl refl

flush_comes : (t : Terminal) (q : Queue) → Comes t (flush_by q) (flush_outcome t q)
flush_comes t queue.Input = refl
flush_comes t queue.Output = refl
flush_comes t queue.Both = refl

taking_comes : (t : Terminal) (d : Disc) → t.disc ≡ d → Comes t (take_by d) (taking_outcome t d)
taking_comes t (disc.Tty tty) e = refl
taking_comes t (disc.Slip slip) e =
    neither t (length slip.packets == 0) [] (packet_take ∷ []) _ _ refl
    (ap (λ (d : Disc). after_one d packet_take) (sym e))

same_disc : (b : Bool) (x y : Terminal) (d : Disc) → x.disc ≡ d → y.disc ≡ d → (if b then x else y).disc ≡ d
same_disc true x y d p q = p
same_disc false x y d p q = q

act_nothing : (t : Terminal) (a : Act) → (after_act t a).disc ≡ t.disc
act_nothing t act.Ooff = refl
act_nothing t act.Oon = refl
act_nothing t act.Ioff = same_disc (control t.modes VSTOP == 0) t
    (record t { output = on_wire t.output (control t.modes VSTOP ∷ []) }) t.disc refl refl
act_nothing t act.Ion = same_disc (control t.modes VSTART == 0) t
    (record t { output = on_wire t.output (control t.modes VSTART ∷ []) }) t.disc refl refl

sending_nothing : (t : Terminal) (bytes : List ℕ) (d : Disc) → Comes t [] (sending_outcome t bytes d)
sending_nothing t bytes (disc.Tty tty) = refl
sending_nothing t bytes (disc.Slip slip) = nothing t (nat_lt max_packet (length bytes)) _ _ refl
    (nothing t (nat_lt (room_of t.output) (length (spelling_of bytes))) (refuses EAGAIN t)
    (does (with_packet_sent t bytes)) refl refl)

-- ---- a discipline that is fresh, or comes of these

abbrev IsFresh : Disc → Type 0
IsFresh u = (k : Kind) × (u ≡ fresh_of k)

abbrev DiscComes : Disc → Bool → List Happening → Disc → Type 0
DiscComes d true events u = IsFresh u
DiscComes d false events u = u ≡ after_all d events

abbrev ComesBy : Terminal → Bool → Terminal → Type 0
ComesBy t b u = DiscComes t.disc b [] u.disc

live_case : (t : Terminal) (live : Bool) (x y : Outcome) (b : Bool)
    → ComesBy t b (left_by x t)
    → ComesBy t false (left_by y t)
    → ComesBy t (live && b) (left_by (if live then x else y) t)
live_case t true x y b h k = h
live_case t false x y b h k = k

live_begins : (t : Terminal) (o : Option HandleState) (x : Outcome) (b : Bool)
    → ComesBy t b (left_by x t)
    → ComesBy t (table.is_live o && b) (left_by (on_live t o x) t)
live_begins t None x b h = refl
live_begins t (Some handle) x b h = live_case t handle.live x _ b h refl

close_case : (t : Terminal) (h : ℕ) (last : Bool)
    → ComesBy t last (if last then after_last_close (after_close t h) else after_close t h)
close_case t h true = (kind.Tty, refl)
close_case t h false = refl

closing_comes : (t : Terminal) (h : ℕ) (o : Option HandleState)
    → ComesBy t (is_last_close t o) (left_by (closing_outcome t h o) t)
closing_comes t h None = refl
closing_comes t h (Some handle) = close_case t h (is_last_live t handle)

change_case : (t : Terminal) (new : Kind) (same : Bool) → ComesBy t (not same) (if same then t else after_change t new)
change_case t new true = refl
change_case t new false = (new, refl)

change_comes : (t : Terminal) (n : ℕ) (o : Option Kind) → ComesBy t (is_change t n o) (left_by (change_outcome t n o) t)
change_comes t n None = refl
change_comes t n (Some new) = change_case t new (number_of t.disc == n)

and_true : (b : Bool) → (b && true) ≡ b
and_true true = refl
and_true false = refl

call_comes : (t : Terminal) (s : CallerState) (call : PlainCall)
    → DiscComes t.disc (call_begins t s call) (happens_by_call t s call) (left_by (outcome t s call) t).disc
call_comes t s (opens h access nonblock) =
    nothing t (is_some (handle_at t h)) _ _ refl (nothing t t.exclusive _ _ refl refl)
call_comes t s (closes h) = closing_comes t h (handle_at t h)
call_comes t s (reads h n) = reading_comes t s n (handle_for t s h)
call_comes t s (writes h bytes) = writing_comes t s bytes (handle_for t s h)
call_comes t s (gets_modes h) = live_nothing t (handle_for t s h) _ refl
call_comes t s (sets_modes h w words) =
    live_comes t (handle_for t s h) _ _ (modes_comes t w (after_words t.modes words))
call_comes t s (gets_disc h) = live_nothing t (handle_for t s h) _ refl
call_comes t s (sets_disc h n) =
    live_begins t (handle_for t s h) _ (is_change t n (kind_of_number n)) (change_comes t n (kind_of_number n))
call_comes t s (flushes h q) = live_comes t (handle_for t s h) _ _ (flush_comes t q)
call_comes t s (steers h a) = live_nothing t (handle_for t s h) _ (act_nothing t a)
call_comes t s (counts_input h) = live_nothing t (handle_for t s h) _ refl
call_comes t s (counts_output h) = live_nothing t (handle_for t s h) _ refl
call_comes t s (excludes h) = live_nothing t (handle_for t s h) _ refl
call_comes t s (admits h) = live_nothing t (handle_for t s h) _ refl
call_comes t s (drains h) = live_nothing t (handle_for t s h) _ (nothing t (is_drained t) _ _ refl refl)
call_comes t s (gets_counts h) = live_nothing t (handle_for t s h) _ refl
call_comes t s (hangs_up h) =
    subst (λ (b : Bool). ComesBy t b (left_by (on_live t (handle_for t s h) (hangup_outcome t)) t))
    (and_true (table.is_live (handle_for t s h)))
    (live_begins t (handle_for t s h) (hangup_outcome t) true (kind.Tty, refl))
call_comes t s (sends_packet h bytes) = access_nothing may_write t (handle_for t s h) _ (sending_nothing t bytes t.disc)
call_comes t s (takes_packet h) = access_comes may_read t (handle_for t s h) _ _ (taking_comes t t.disc refl)

known_comes : (t : Terminal) (s : CallerState) (o : Option PlainCall)
    → DiscComes t.disc (known_call_begins t s o) (happens_by_known t s o) (left_by (outcome_of t s o) t).disc
known_comes t s None = refl
known_comes t s (Some call) = call_comes t s call

-- ---- one entry

receiving_comes : (t : Terminal) (chars : List Flagged)
    → (after_characters t chars).disc ≡ after_all t.disc (happens_by_flush t chars)
receiving_comes t [] = refl
receiving_comes t (c ∷ cs) = receiving_comes (after_character t c) cs

no_begin : (b : Bool) (n m : ℕ) → m ≡ n → m ≡ generation_after b n → b ≡ false
no_begin true n m e k = absurd (omega arith)
no_begin false n m e k = refl

-- a part begins no generation
part_begins : (f : ℕ → ℕ → Option PlainCall) (t : Terminal) (c step n : ℕ)
    → TakesPart (outcome_of t (caller_at t c) (f c step)) n
    → known_call_begins t (caller_at t c) (f c step) ≡ false
part_begins f t c step n h =
    no_begin (known_call_begins t (caller_at t c) (f c step)) t.generation
    (left_by (outcome_of t (caller_at t c) (f c step)) t).generation
    ((outcome_keeps t (caller_at t c) (f c step)).part n h).generation (known_generation t (caller_at t c) (f c step))

event_comes : (f : ℕ → ℕ → Option PlainCall) (counts : List ℕ) (t : Terminal) (who : Who) (step part : ℕ)
    (event : PlainEvent)
    → IsAllowed f counts t who step part event
    → DiscComes t.disc (begins_generation f t who step event) (happens_by f t who step event)
    (after_event f t who step part event).disc
event_comes f counts t (Caller c) step part (answered a dropped) h = known_comes t (caller_at t c) (f c step)
event_comes f counts t Flusher step part (answered a dropped) h = absurd h
event_comes f counts t Line step part (answered a dropped) h = absurd h
event_comes f counts t Clock step part (answered a dropped) h = absurd h
event_comes f counts t Session step part (answered a dropped) h = absurd h
event_comes f counts t (Caller c) step part (parted n) h =
    subst (λ (b : Bool). DiscComes t.disc b (happens_by_known t (caller_at t c) (f c step))
    (left_by (outcome_of t (caller_at t c) (f c step)) t).disc)
    (part_begins f t c step n h.takes) (known_comes t (caller_at t c) (f c step))
event_comes f counts t Flusher step part (parted n) h = absurd h
event_comes f counts t Line step part (parted n) h = absurd h
event_comes f counts t Clock step part (parted n) h = absurd h
event_comes f counts t Session step part (parted n) h = absurd h
event_comes f counts t (Caller c) step part waited h = refl
event_comes f counts t Flusher step part waited h = absurd h
event_comes f counts t Line step part waited h = absurd h
event_comes f counts t Clock step part waited h = absurd h
event_comes f counts t Session step part waited h = absurd h
event_comes f counts t who step part (flushed chars) h = receiving_comes t chars
event_comes f counts t who step part ticked h = refl
event_comes f counts t who step part (line_ended n) h = refl
event_comes f counts t who step part clock_ended h = refl
event_comes f counts t (Caller c) step part caller_ended h = refl
event_comes f counts t Flusher step part caller_ended h = absurd h
event_comes f counts t Line step part caller_ended h = absurd h
event_comes f counts t Clock step part caller_ended h = absurd h
event_comes f counts t Session step part caller_ended h = absurd h
event_comes f counts t who step part phase_ended h = refl
event_comes f counts t who step part (hung_up dropped) h = (kind.Tty, refl)

-- ---- runs

-- the kind that was installed, to which these have happened
abbrev Happened : Disc → List Happening → Type 0
Happened d events = (k : Kind) × HasHappened d k events

one_entry : (d : Disc) (b : Bool) (happened now : List Happening) (u : Disc)
    → DiscComes d b now u
    → Happened d happened
    → Happened u (happened_after b happened now)
one_entry d true happened now u h was = h
one_entry d false happened now u h was =
    (was.0, h ∙ ap (λ (x : Disc). after_all x now) was.1 ∙ sym (fold-append after_one (fresh_of was.0) happened now))

leads_happened : (f : ℕ → ℕ → Option PlainCall) (counts : List ℕ) (t : Terminal) (es : List PlainEntry) (u : Terminal)
    (happened : List Happening)
    → Leads f counts t es u
    → Happened t.disc happened
    → Happened u.disc (happened_in f t es happened)
leads_happened f counts t [] u happened h was = subst (λ (v : Terminal). Happened v.disc happened) (sym h) was
leads_happened f counts t (e ∷ es) u happened h was =
    leads_happened f counts (after f t e) es u _ h.1
    (one_entry t.disc (begins_generation f t e.who e.step e.event) happened (happens_by f t e.who e.step e.event)
    (after f t e).disc
    (event_comes f counts t e.who e.step e.part e.event h.0.1) was)

of_its_kind : (d : Disc) (events : List Happening) → Happened d events → HasHappened d (kind_of d) events
of_its_kind d events h =
    subst (λ (k : Kind). HasHappened d k events) (sym (ap kind_of h.1 ∙ kept_kind h.0 events)) h.1

-- a discipline is the fold of what has happened to it since it was installed
pub run_happened : (f : ℕ → ℕ → Option PlainCall) (counts : List ℕ) (capacity : ℕ) (es : List PlainEntry) (u : Terminal)
    → IsRun f counts capacity es u
    → HasHappened u.disc (kind_of u.disc) (happened_in f (opening (sum counts) capacity) es [])
run_happened f counts capacity es u h =
    of_its_kind u.disc (happened_in f (opening (sum counts) capacity) es [])
    (leads_happened f counts (opening (sum counts) capacity) es u [] h (kind.Tty, refl))

-- the same of a discipline whose kind is known
run_kind : (f : ℕ → ℕ → Option PlainCall) (counts : List ℕ) (capacity : ℕ) (es : List PlainEntry) (u : Terminal)
    (d : Disc)
    → IsRun f counts capacity es u
    → u.disc ≡ d
    → HasHappened d (kind_of d) (happened_in f (opening (sum counts) capacity) es [])
run_kind f counts capacity es u d h is =
    subst (λ (x : Disc). HasHappened x (kind_of x) (happened_in f (opening (sum counts) capacity) es [])) is
    (run_happened f counts capacity es u h)

pub run_column : (f : ℕ → ℕ → Option PlainCall) (counts : List ℕ) (capacity : ℕ) (es : List PlainEntry) (u : Terminal)
    (tty : NTtyState)
    → IsRun f counts capacity es u
    → u.disc ≡ disc.Tty tty
    → tty.column ≡ column_of (text_of_all (fresh_of kind.Tty) (happened_in f (opening (sum counts) capacity) es []))
run_column f counts capacity es u tty h is = column_of_posted tty (happened_in f (opening (sum counts) capacity) es [])
    (run_kind f counts capacity es u (disc.Tty tty) h is)

pub run_packets : (f : ℕ → ℕ → Option PlainCall) (counts : List ℕ) (capacity : ℕ) (es : List PlainEntry) (u : Terminal)
    (slip : Slip)
    → IsRun f counts capacity es u
    → u.disc ≡ disc.Slip slip
    → HasSeen slip (slip_parts (happened_in f (opening (sum counts) capacity) es []))
run_packets f counts capacity es u slip h is = seen_by_slip slip (happened_in f (opening (sum counts) capacity) es [])
    (run_kind f counts capacity es u (disc.Slip slip) h is)

-- ---- the characters among it

-- no character is among these
abbrev IsSilent : List Happening → Type 0
IsSilent events = characters_of events ≡ []

silent_either : (b : Bool) (d e : List Happening) → IsSilent d → IsSilent e → IsSilent (if b then d else e)
silent_either true d e p q = p
silent_either false d e p q = q

silent_live : (o : Option HandleState) (events : List Happening) → IsSilent events → IsSilent (by_live o events)
silent_live None events h = refl
silent_live (Some handle) events h = silent_either handle.live events [] h refl

silent_access : (may : Access → Bool) (o : Option HandleState) (events : List Happening)
    → IsSilent events
    → IsSilent (by_access may o events)
silent_access may None events h = refl
silent_access may (Some handle) events h =
    silent_either (may handle.access) _ [] (silent_live (Some handle) events h) refl

silent_read : (t : Terminal) (s : CallerState) (nonblock : Bool) (n : ℕ) (d : Disc)
    → IsSilent (read_by t s nonblock n d)
silent_read t s nonblock n (disc.Slip slip) = refl
silent_read t s nonblock n (disc.Tty tty) =
    silent_either (is_readable t.modes nonblock n (since_or s.waits t.tick) t.tick tty) _ [] refl refl

silent_reading : (t : Terminal) (s : CallerState) (n : ℕ) (o : Option HandleState) → IsSilent (reading_by t s n o)
silent_reading t s n None = refl
silent_reading t s n (Some handle) = silent_access may_read (Some handle) _ (silent_read t s handle.nonblock n t.disc)

silent_write : (t : Terminal) (rest : List ℕ) (d : Disc) → IsSilent (write_by t rest d)
silent_write t rest (disc.Slip slip) = refl
silent_write t rest (disc.Tty tty) = silent_either
    ((piece_size t.modes tty t.output rest == length rest) || nat_lt 0 (piece_size t.modes tty t.output rest))
    _ [] refl refl

silent_modes : (t : Terminal) (w : When) (new : Settings) → IsSilent (modes_by t w new)
silent_modes t when.Now new = refl
silent_modes t when.Drain new = silent_either (is_drained t) _ [] refl refl
silent_modes t when.Flush new = silent_either (is_drained t) _ [] refl refl

silent_flush : (q : Queue) → IsSilent (flush_by q)
silent_flush queue.Input = refl
silent_flush queue.Output = refl
silent_flush queue.Both = refl

silent_take : (d : Disc) → IsSilent (take_by d)
silent_take (disc.Tty tty) = refl
silent_take (disc.Slip slip) = silent_either (length slip.packets == 0) [] _ refl refl

silent_call : (t : Terminal) (s : CallerState) (call : PlainCall) → IsSilent (happens_by_call t s call)
silent_call t s (reads h n) = silent_reading t s n (handle_for t s h)
silent_call t s (writes h bytes) = silent_access may_write (handle_for t s h) _
    (silent_either (is_outlived t s) [] _ refl (silent_write t (drop s.taken bytes) t.disc))
silent_call t s (sets_modes h w words) = silent_live (handle_for t s h) _ (silent_modes t w (after_words t.modes words))
silent_call t s (flushes h q) = silent_live (handle_for t s h) _ (silent_flush q)
silent_call t s (takes_packet h) = silent_access may_read (handle_for t s h) _ (silent_take t.disc)
silent_call t s call = refl

silent_known : (t : Terminal) (s : CallerState) (o : Option PlainCall) → IsSilent (happens_by_known t s o)
silent_known t s None = refl
silent_known t s (Some call) = silent_call t s call

flushed_characters : (t : Terminal) (chars : List Flagged) → characters_of (happens_by_flush t chars) ≡ chars
flushed_characters t [] = refl
flushed_characters t (c ∷ cs) = ap (λ (rest : List Flagged). c ∷ rest) (flushed_characters (after_character t c) cs)

event_characters : (f : ℕ → ℕ → Option PlainCall) (t : Terminal) (who : Who) (step : ℕ) (event : PlainEvent)
    → characters_of (happens_by f t who step event) ≡ flushed_by event
event_characters f t (Caller c) step (answered a dropped) = silent_known t (caller_at t c) (f c step)
event_characters f t Flusher step (answered a dropped) = refl
event_characters f t Line step (answered a dropped) = refl
event_characters f t Clock step (answered a dropped) = refl
event_characters f t Session step (answered a dropped) = refl
event_characters f t (Caller c) step (parted n) = silent_known t (caller_at t c) (f c step)
event_characters f t Flusher step (parted n) = refl
event_characters f t Line step (parted n) = refl
event_characters f t Clock step (parted n) = refl
event_characters f t Session step (parted n) = refl
event_characters f t who step waited = refl
event_characters f t who step (flushed chars) = flushed_characters t chars
event_characters f t who step ticked = refl
event_characters f t who step (line_ended n) = refl
event_characters f t who step clock_ended = refl
event_characters f t who step caller_ended = refl
event_characters f t who step phase_ended = refl
event_characters f t who step (hung_up dropped) = refl

characters_both : (xs ys : List Happening) → characters_of (xs ++ ys) ≡ characters_of xs ++ characters_of ys
characters_both [] ys = refl
characters_both (x ∷ xs) ys =
    ap (λ (cs : List Flagged). character_of x ++ cs) (characters_both xs ys)
    ∙ sym (append_assoc (character_of x) (characters_of xs) (characters_of ys))

heard_one : (b : Bool) (event : PlainEvent) (happened now : List Happening) → characters_of now ≡ flushed_by event
    → characters_of (happened_after b happened now) ≡ heard_after b event (characters_of happened)
heard_one true event happened now h = refl
heard_one false event happened now h =
    characters_both happened now ∙ ap (λ (cs : List Flagged). characters_of happened ++ cs) h

-- the characters among what has happened are those of the flushes
pub happened_characters : (f : ℕ → ℕ → Option PlainCall) (t : Terminal) (es : List PlainEntry)
    (happened : List Happening)
    → characters_of (happened_in f t es happened) ≡ heard_in f t es (characters_of happened)
happened_characters f t [] happened = refl
happened_characters f t (e ∷ es) happened =
    happened_characters f (after f t e) es _
    ∙ ap (λ (cs : List Flagged). heard_in f (after f t e) es cs)
    (heard_one (begins_generation f t e.who e.step e.event) e.event happened (happens_by f t e.who e.step e.event)
    (event_characters f t e.who e.step e.event))

-- the discipline has heard the characters of the flushes since it was installed, and no others
pub run_heard : (f : ℕ → ℕ → Option PlainCall) (counts : List ℕ) (capacity : ℕ) (es : List PlainEntry) (u : Terminal)
    → IsRun f counts capacity es u → HasHeard u.disc (heard_in f (opening (sum counts) capacity) es [])
run_heard f counts capacity es u h =
    record {
      kind = kind_of u.disc;
      events = happened_in f (opening (sum counts) capacity) es [];
      happened = run_happened f counts capacity es u h;
      heard = happened_characters f (opening (sum counts) capacity) es [];
    }
