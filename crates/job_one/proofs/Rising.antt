-- Signals are never taken back.
use Rattle.std.proofs.Common.{◌≡◌, ◌≤◌, ℕ, zero, suc, Bool, true, false, not, ◌&&◌}
use Rattle.std.proofs.Common.{List, [], ◌∷◌, Option, None, Some, length, map, take}
use Rattle.std.proofs.Common.{if◌then◌else◌, refl, ap, arith, length-append}
use Rattle.std.proofs.lemmas.List.{length-map}
use Rattle.tty_base.specs.declared.characters.Flag.{Flag}
use Rattle.tty_base.specs.declared.characters.Flag.TheVariants as flag
use Rattle.tty_base.specs.declared.characters.Flagged.{Flagged}
use Rattle.tty_base.specs.declared.counters.Signal.{Signal}
use Rattle.tty_base.specs.declared.counters.Signal.TheVariants.{Int}
use Rattle.tty_modes.specs.Settings.{Settings, has_flag}
use Rattle.tty_modes.specs.declared.places.TheConstants.{ICANON, IGNBRK, BRKINT, IGNPAR, PARMRK, INPCK}
use Rattle.tty_modes.specs.declared.places.TheConstants.{IUTF8, IXON, IXANY, NOFLSH, VSTART, VSTOP}
use Rattle.tty_calls.specs.declared.journals.Who.{Who}
use Rattle.tty_calls.specs.Plain.{PlainCall, PlainEvent, answered, parted, waited, flushed, ticked}
use Rattle.tty_calls.specs.Plain.{line_ended, clock_ended, caller_ended, phase_ended, hung_up, PlainEntry}
use Rattle.flow_control.specs.Output.{Output, has_room}
use Rattle.flow_control.specs.declared.tally.Counter.TheVariants as counter
use Rattle.flow_control.specs.declared.tally.Tally.{Tally}
use Rattle.n_tty.specs.declared.roles.Role.{Role}
use Rattle.n_tty.specs.declared.roles.Role.TheVariants as role
use Rattle.n_tty.specs.States.{OnPort, on_port}
use Rattle.n_tty_edit.specs.Line.{EraseLast, EraseWord, Clear, after_change}
use Rattle.n_tty_edit.specs.Width.{gone_of}
use Rattle.echo_out.specs.Echo.{echo_of}
use Rattle.echo_out.specs.declared.EchoEvent.TheVariants as event
use Rattle.n_tty.specs.Posting.{posted_echo, tally_after_try, after_echo}
use Rattle.n_tty.specs.Storing.{after_store, with_piece}
use Rattle.n_tty.specs.Editing.{echo_of_word_erase, echo_of_kill, echo_of_erase, with_line}
use Rattle.n_tty.specs.Flow.{with_signal, after_signal, after_drop}
use Rattle.n_tty.specs.Roles.{is_character, signal_of, mapped_byte, role_of}
use Rattle.n_tty.specs.Receiving.{with_one_more, with_quoted, after_resume, after_resume_where, ordinary_bytes}
use Rattle.n_tty.specs.Receiving.{stripped_byte, after_ordinary, after_role, after_mapped}
use Rattle.n_tty.specs.Receiving.{after_unsteered, after_unquoted, after_good, after_break, after_bad, after_flagged}
use Rattle.ldisc_switch.specs.declared.discipline.Disc.{Disc}
use Rattle.ldisc_switch.specs.declared.discipline.Disc.TheVariants as disc
use Rattle.ldisc_switch.specs.Disciplines.{after_character_of}
use Rattle.tty_terminal.specs.Terminals.{Terminal}
use Rattle.tty_terminal.specs.Receiving.{after_character, after_characters}
use Rattle.tty_terminal.specs.Steps.{after}
use Rattle.tty_terminal.specs.Runs.{is_flush}
use Rattle.passed_calls.specs.Journals.{Journal, terminal_after, terminal_at}
use Rattle.job_steps.specs.Steps.{job_signal, raised_at}
use Rattle.job_one.specs.Desk.{signals_of}
use Rattle.job_one.proofs.Raised.{entry_still}

-- ---- by a character

abbrev AtLeast : ℕ → OnPort → Type 0
AtLeast n port = n ≤ length port.tally.signals.items

either : (n : ℕ) (b : Bool) (x y : OnPort) → AtLeast n x → AtLeast n y → AtLeast n (if b then x else y)
either n true x y p q = p
either n false x y p q = q

one_tally : (b : Bool) (t u : Tally) → u.signals ≡ t.signals → (if b then t else u).signals ≡ t.signals
one_tally true t u same = refl
one_tally false t u same = same

echoes : (n : ℕ) (modes : Settings) (echo : List ℕ) (port : OnPort)
    → AtLeast n port
    → AtLeast n (after_echo modes echo port)
echoes n modes echo port h =
    let text = posted_echo modes port echo in
    let same : (tally_after_try port.output text port.tally).signals ≡ port.tally.signals =
    one_tally (has_room port.output text) port.tally _ refl in
    omega (arith, h, ap (λ s. length s.items) same)

stores : (n : ℕ) (modes : Settings) (now : ℕ) (bytes : List ℕ) (port : OnPort)
    → AtLeast n port
    → AtLeast n (after_store modes now bytes port)
stores n modes now bytes port h = either n (has_flag modes ICANON) _ _ (either n _ _ _ h h) h

ordinary : (n : ℕ) (modes : Settings) (now byte : ℕ) (port : OnPort)
    → AtLeast n port
    → AtLeast n (after_ordinary modes now byte port)
ordinary n modes now byte port h = echoes n modes (echo_of modes (event.Plain byte))
    (after_store modes now (ordinary_bytes modes byte) port) (stores n modes now (ordinary_bytes modes byte) port h)

by_role : (n : ℕ) (modes : Settings) (now : ℕ) (r : Role) (byte : ℕ) (port : OnPort)
    → AtLeast n port
    → AtLeast n (after_role modes now r byte port)
by_role n modes now role.Erase byte port h =
    echoes n modes (echo_of_erase modes (gone_of modes port.tty.start port.tty.edit))
    (with_line (after_change port.tty.edit (EraseLast (has_flag modes IUTF8))) port) h
by_role n modes now role.Kill byte port h = echoes n modes (echo_of_kill modes port.tty.start port.tty.edit)
    (with_line (after_change port.tty.edit Clear) port) h
by_role n modes now role.WordErase byte port h =
    echoes n modes (echo_of_word_erase modes port.tty) (with_line (after_change port.tty.edit EraseWord) port) h
by_role n modes now role.Quote byte port h = echoes n modes (echo_of modes event.Quoted) (with_quoted true port) h
by_role n modes now role.Newline byte port h =
    echoes n modes (echo_of modes event.Newline) (record port { tty = with_piece now byte port.tty }) h
by_role n modes now role.Eof byte port h = h
by_role n modes now role.Delimiter byte port h =
    echoes n modes (echo_of modes (event.Plain byte)) (record port { tty = with_piece now byte port.tty }) h
by_role n modes now role.Ordinary byte port h = ordinary n modes now byte port h

mapped : (n : ℕ) (modes : Settings) (now : ℕ) (byte : Option ℕ) (port : OnPort)
    → AtLeast n port
    → AtLeast n (after_mapped modes now byte port)
mapped n modes now None port h = h
mapped n modes now (Some byte) port h = either n (has_flag modes ICANON) _ _
    (by_role n modes now (role_of modes byte) byte port h) (ordinary n modes now byte port h)

resumes : (n : ℕ) (b : Bool) (port : OnPort) → AtLeast n port → AtLeast n (after_resume_where b port)
resumes n true port h = h
resumes n false port h = h

signals : (n : ℕ) (modes : Settings) (signal : Signal) (port : OnPort)
    → AtLeast n port
    → AtLeast n (after_signal modes signal port)
signals n modes signal port h =
    let raised : OnPort = record port { tally = with_signal signal port.tally } in
    let more : AtLeast n raised = omega (arith, h, length-append port.tally.signals.items (signal ∷ [])) in
    either n (has_flag modes NOFLSH) raised (after_drop raised) more more

unsteered : (n : ℕ) (modes : Settings) (now byte : ℕ) (signal : Option Signal) (port : OnPort)
    → AtLeast n port
    → AtLeast n (after_unsteered modes now byte signal port)
unsteered n modes now byte (Some signal) port h =
    echoes n modes (echo_of modes (event.Plain byte))
    (after_resume_where (has_flag modes IXON) (after_signal modes signal port))
    (resumes n (has_flag modes IXON) (after_signal modes signal port) (signals n modes signal port h))
unsteered n modes now byte None port h = mapped n modes now (mapped_byte modes byte) port h

unquoted : (n : ℕ) (modes : Settings) (now byte : ℕ) (port : OnPort)
    → AtLeast n port
    → AtLeast n (after_unquoted modes now byte port)
unquoted n modes now byte port h =
    let resumed = after_resume_where (has_flag modes IXON && has_flag modes IXANY) port in
    let rest = after_unsteered modes now byte (signal_of modes byte) resumed in
    let stopped : OnPort = record port { output = record port.output { stopped = true } } in
    let is_stop = has_flag modes IXON && is_character modes VSTOP byte in
    either n (has_flag modes IXON && is_character modes VSTART byte) (after_resume port)
    (if is_stop then stopped else rest) h
    (either n is_stop stopped rest h
    (unsteered n modes now byte (signal_of modes byte) resumed
    (resumes n (has_flag modes IXON && has_flag modes IXANY) port h)))

good : (n : ℕ) (modes : Settings) (now byte : ℕ) (port : OnPort)
    → AtLeast n port
    → AtLeast n (after_good modes now byte port)
good n modes now byte port h =
    let code = stripped_byte modes byte in
    either n port.tty.quoted (after_ordinary modes now code (with_quoted false port))
    (after_unquoted modes now code port) (ordinary n modes now code (with_quoted false port) h)
    (unquoted n modes now code port h)

broken : (n : ℕ) (modes : Settings) (now : ℕ) (port : OnPort) → AtLeast n port → AtLeast n (after_break modes now port)
broken n modes now port h =
    let bytes = if has_flag modes PARMRK then 255 ∷ 0 ∷ 0 ∷ [] else 0 ∷ [] in
    let stored = after_store modes now bytes port in
    let raised = after_signal modes Int port in
    either n (has_flag modes IGNBRK) port (if has_flag modes BRKINT then raised else stored) h
    (either n (has_flag modes BRKINT) raised stored (signals n modes Int port h) (stores n modes now bytes port h))

bad : (n : ℕ) (modes : Settings) (now byte : ℕ) (port : OnPort)
    → AtLeast n port
    → AtLeast n (after_bad modes now byte port)
bad n modes now byte port h =
    let bytes = if has_flag modes PARMRK then 255 ∷ 0 ∷ byte ∷ [] else 0 ∷ [] in
    let stored = after_store modes now bytes port in
    either n (not (has_flag modes INPCK)) (after_good modes now byte port)
    (if has_flag modes IGNPAR then port else stored) (good n modes now byte port h)
    (either n (has_flag modes IGNPAR) port stored h (stores n modes now bytes port h))

by_flag : (n : ℕ) (modes : Settings) (now : ℕ) (f : Flag) (byte : ℕ) (port : OnPort)
    → AtLeast n port
    → AtLeast n (after_flagged modes now f byte port)
by_flag n modes now flag.Normal byte port h = good n modes now byte port h
by_flag n modes now flag.Break byte port h = broken n modes now (with_one_more counter.Break port) h
by_flag n modes now flag.Parity byte port h = bad n modes now byte (with_one_more counter.Parity port) h
by_flag n modes now flag.Frame byte port h = bad n modes now byte (with_one_more counter.Frame port) h
by_flag n modes now flag.Overrun byte port h = h

by_disc : (n : ℕ) (modes : Settings) (now : ℕ) (c : Flagged) (d : Disc) (output : Output) (tally : Tally)
    → n ≤ length tally.signals.items
    → n ≤ length (after_character_of modes now c d output tally).tally.signals.items
by_disc n modes now c (disc.Tty tty) output tally h = by_flag n modes now c.flag c.byte (on_port tty output tally) h
by_disc n modes now c (disc.Slip slip) output tally h = h

-- ---- by entries

by_characters : (n : ℕ) (t : Terminal) (chars : List Flagged)
    → n ≤ length (signals_of t)
    → n ≤ length (signals_of (after_characters t chars))
by_characters n t [] h = h
by_characters n t (c ∷ cs) h =
    by_characters n (after_character t c) cs (by_disc n t.modes t.tick c t.disc t.output t.tally h)

still : (n : ℕ) (calls : ℕ → ℕ → Option PlainCall) (t : Terminal) (e : PlainEntry)
    → is_flush e.event ≡ false
    → n ≤ length (signals_of t)
    → n ≤ length (signals_of (after calls t e))
still n calls t e none h = omega (arith, h, ap (λ (ss : List Signal). length ss) (entry_still calls t e none))

abbrev entry : Who → ℕ → ℕ → ℕ → PlainEvent → PlainEntry
entry who step part generation event =
    record { who = who; step = step; part = part; generation = generation; event = event }

by_event : (n : ℕ) (calls : ℕ → ℕ → Option PlainCall) (t : Terminal) (who : Who) (step part g : ℕ) (event : PlainEvent)
    → n ≤ length (signals_of t)
    → n ≤ length (signals_of (after calls t (entry who step part g event)))
by_event n calls t who step part g (flushed chars) h = by_characters n t chars h
by_event n calls t who step part g (answered a dropped) h =
    still n calls t (entry who step part g (answered a dropped)) refl h
by_event n calls t who step part g (parted taken) h = still n calls t (entry who step part g (parted taken)) refl h
by_event n calls t who step part g waited h = still n calls t (entry who step part g waited) refl h
by_event n calls t who step part g ticked h = still n calls t (entry who step part g ticked) refl h
by_event n calls t who step part g (line_ended m) h = still n calls t (entry who step part g (line_ended m)) refl h
by_event n calls t who step part g clock_ended h = still n calls t (entry who step part g clock_ended) refl h
by_event n calls t who step part g caller_ended h = still n calls t (entry who step part g caller_ended) refl h
by_event n calls t who step part g phase_ended h = still n calls t (entry who step part g phase_ended) refl h
by_event n calls t who step part g (hung_up dropped) h =
    still n calls t (entry who step part g (hung_up dropped)) refl h

by_all : (n : ℕ) (calls : ℕ → ℕ → Option PlainCall) (t : Terminal) (es : List PlainEntry)
    → n ≤ length (signals_of t)
    → n ≤ length (signals_of (terminal_after calls t es))
by_all n calls t [] h = h
by_all n calls t (e ∷ es) h =
    by_all n calls (after calls t e) es (by_event n calls t e.who e.step e.part e.generation e.event h)

by_first : (calls : ℕ → ℕ → Option PlainCall) (t : Terminal) (es : List PlainEntry) (a b : ℕ)
    → a ≤ b
    → length (signals_of (terminal_after calls t (take a es)))
    ≤ length (signals_of (terminal_after calls t (take b es)))
by_first calls t [] zero zero le = omega arith
by_first calls t [] zero (suc b) le = omega arith
by_first calls t [] (suc a) zero le = omega arith
by_first calls t [] (suc a) (suc b) le = omega arith
by_first calls t (e ∷ es) zero b le = by_all (length (signals_of t)) calls t (take b (e ∷ es)) (omega arith)
by_first calls t (e ∷ es) (suc a) zero le = absurd (omega (arith, le))
by_first calls t (e ∷ es) (suc a) (suc b) le = by_first calls (after calls t e) es a b (omega (arith, le))

-- as many signals were raised by fewer entries at most
pub raised_rise : (journal : Journal) (a b : ℕ) → a ≤ b → length (raised_at journal a) ≤ length (raised_at journal b)
raised_rise journal a b le =
    let few = by_first journal.calls journal.opening journal.entries a b le in
    let x = length-map (signals_of (terminal_at journal a)) job_signal in
    let y = length-map (signals_of (terminal_at journal b)) job_signal in
    omega (arith, few, x, y)
