-- How far a call moves the column at most, how much room it spends, and that it sets no tick but now: what a caller
-- of many needs.
use Rattle.std.proofs.Common.{◌≡◌, ap, ℕ, ◌+◌, ◌*◌, ◌-◌, ◌%◌, ◌≤◌, Bool, true, false, if◌then◌else◌, not, ◌&&◌}
use Rattle.std.proofs.Common.{◌||◌, ◌==◌, nat_le, nat_lt, bit_xor, Option, None, Some, List, [], ◌∷◌, ◌++◌, length}
use Rattle.std.proofs.Common.{replicate, take, drop, sym, subst, refl, inl, inr, arith, length-append, length-drop}
use Rattle.std.proofs.lemmas.Bool.{cond_both}
use Rattle.std.proofs.lemmas.List.{length-replicate, length-take, take-append-drop}
use Rattle.tty_base.specs.Sizes.{COLUMNS_OF_CHARACTER, COLUMNS_OF_PIECE, MOST_LINE, MOST_POSTED, MOST_UNREAD}
use Rattle.tty_base.specs.declared.characters.Flag.{Flag}
use Rattle.tty_base.specs.declared.characters.Flag.TheVariants as flag
use Rattle.tty_base.specs.declared.counters.Signal.{Signal}
use Rattle.tty_base.specs.declared.counters.Signal.TheVariants.{Int}
use Rattle.tty_modes.specs.Settings.{Settings, has_flag, character}
use Rattle.tty_modes.specs.declared.places.TheConstants.{ICANON, NOFLSH, PARMRK, IXANY, IUTF8, VERASE, VKILL, IXON}
use Rattle.tty_modes.specs.declared.places.TheConstants.{VSTART, VSTOP, IGNBRK, BRKINT, INPCK, IGNPAR, ISTRIP, ECHO}
use Rattle.tty_modes.specs.declared.places.TheConstants.{ECHOE, ECHOK, ECHONL, ECHOCTL, OPOST, TAB3, ONLCR, ONOCR}
use Rattle.tty_modes.specs.declared.places.TheConstants.{OCRNL}
use Rattle.n_tty_edit.specs.declared.line.Gone.{Gone}
use Rattle.n_tty_edit.specs.Line.{AddBytes, EraseLast, EraseWord, Clear, after_change, erase_size, word_start}
use Rattle.n_tty_edit.specs.Width.{width_of, gone_of}
use Rattle.echo_out.specs.Echo.{shown_bytes, blanking_bytes, rubout_bytes, kill_rubs_out, echo_of, FitsEcho}
use Rattle.echo_out.specs.declared.EchoEvent.{EchoEvent}
use Rattle.echo_out.specs.declared.EchoEvent.TheVariants as event
use Rattle.echo_out.specs.declared.EraseKind.{EraseKind}
use Rattle.echo_out.specs.declared.EraseKind.TheVariants.{Erase, Word, Kill}
use Rattle.opost_out.specs.Posted.{posted_bytes}
use Rattle.flow_control.specs.Output.{Output, is_halted, has_room, after_send, after_try, after_start}
use Rattle.flow_control.specs.declared.tally.Counter.{Counter}
use Rattle.flow_control.specs.declared.tally.Counter.TheVariants as counter
use Rattle.flow_control.specs.declared.tally.Tally.{Tally}
use Rattle.n_tty.specs.declared.roles.Role.{Role}
use Rattle.n_tty.specs.declared.roles.Role.TheVariants as role
use Rattle.n_tty.specs.States.{NTtyState, OnPort}
use Rattle.n_tty.specs.Storing.{after_store, with_piece}
use Rattle.n_tty.specs.Roles.{is_character, signal_of, mapped_byte, role_of}
use Rattle.n_tty.specs.Posting.{column_past_text, all_posted_bytes, tally_after_try, after_echo}
use Rattle.n_tty.specs.Editing.{with_line, echo_of_gone, echo_of_word_erase, echo_of_kill, echo_of_erase}
use Rattle.n_tty.specs.Flow.{after_signal}
use Rattle.n_tty.specs.Spending.{pending_count}
use Rattle.n_tty.specs.Writing.{piece_size, piece_text, after_write}
use Rattle.n_tty.specs.Receiving.{with_one_more, with_quoted, stripped_byte, ordinary_bytes, after_resume}
use Rattle.n_tty.specs.Receiving.{after_resume_where, after_ordinary, after_role, after_mapped, after_unsteered}
use Rattle.n_tty.specs.Receiving.{after_unquoted, after_good, after_break, after_bad, after_flagged}
use Rattle.n_tty.proofs.ErasedLemmas.{OfBytes, OnlyRubs-rubbed_out, OnlyRubs-echo_of_gone, all_posted_bytes-rubs}
use Rattle.n_tty.proofs.ErasedLemmas.{width_in, gone-width-le, length-echo-le, length-blanked}
use Rattle.n_tty.proofs.PostingLemmas.{column_past_text-le}
use Rattle.n_tty.proofs.WritingLemmas.{all_posted_bytes-append, fitting_count-le}

abbrev AtMost : ℕ → List ℕ → Type 0
AtMost n xs = length xs ≤ n

-- at most 8 bytes are posted for one
posted_bytes-le : (modes : Settings) (column b : ℕ) → length (posted_bytes modes column b) ≤ 8
posted_bytes-le modes column b =
    cond_both (not (has_flag modes OPOST)) _ _ (AtMost 8) (λ _. omega arith)
    (λ _. cond_both (b == 10) _ _ (AtMost 8)
    (λ _. cond_both (has_flag modes ONLCR) _ _ (AtMost 8) (λ _. omega arith) (λ _. omega arith))
    (λ _. cond_both (b == 13) _ _ (AtMost 8) (λ _. cond_both (has_flag modes ONOCR && column == 0) _ _ (AtMost 8)
    (λ _. omega arith) (λ _. cond_both (has_flag modes OCRNL) _ _ (AtMost 8) (λ _. omega arith) (λ _. omega arith)))
    (λ _. cond_both (b == 9) _ _ (AtMost 8)
    (λ _. cond_both (has_flag modes TAB3) _ _ (AtMost 8)
    (λ _. omega (arith, length-replicate {A = ℕ} (8 - column % 8) 32)) (λ _. omega arith))
    (λ _. omega arith))))

pub all_posted_bytes-le : (modes : Settings) (column : ℕ) (bytes : List ℕ)
    → length (all_posted_bytes modes column bytes) ≤ 8 * length bytes
all_posted_bytes-le modes column [] = omega arith
all_posted_bytes-le modes column (b ∷ bytes) =
    let piece = posted_bytes modes column b in
    let next = column_past_text modes column piece in
    omega (
      arith,
      posted_bytes-le modes column b,
      all_posted_bytes-le modes next bytes,
      length-append piece (all_posted_bytes modes next bytes),
    )

-- and of an echo
shown_bytes-le : (modes : Settings) (b : ℕ) → length (shown_bytes modes b) ≤ 2
shown_bytes-le modes b =
    cond_both (has_flag modes ECHOCTL && ((nat_lt b 32 && not (b == 9 || b == 10)) || b == 127))
    (94 ∷ bit_xor b 64 ∷ []) (b ∷ []) (AtMost 2)
    (λ _. omega arith) (λ _. omega arith)

rubout_bytes-le : (b width : ℕ) → width ≤ 8 → length (rubout_bytes b width) ≤ 24
rubout_bytes-le b width narrow =
    cond_both (b == 9) (replicate width 8) (blanking_bytes width) (AtMost 24)
    (λ _. omega (arith, length-replicate {A = ℕ} width 8, narrow)) (λ _. omega (arith, length-blanked width, narrow))

echo_of-le : (modes : Settings) (e : EchoEvent) → FitsEcho e → length (echo_of modes e) ≤ 24
echo_of-le modes (event.Plain b) fits =
    cond_both (has_flag modes ECHO) _ _ (AtMost 24) (λ _. omega (arith, shown_bytes-le modes b)) (λ _. omega arith)
echo_of-le modes (event.Erased Erase b width) fits =
    cond_both (has_flag modes ECHO) _ _ (AtMost 24)
    (λ _. cond_both (has_flag modes ECHOE) _ _ (AtMost 24) (λ _. rubout_bytes-le b width fits)
    (λ _. omega (arith, shown_bytes-le modes (character modes VERASE))))
    (λ _. omega arith)
echo_of-le modes (event.Erased Word b width) fits =
    cond_both (has_flag modes ECHO) _ _ (AtMost 24) (λ _. rubout_bytes-le b width fits) (λ _. omega arith)
echo_of-le modes (event.Erased Kill b width) fits =
    cond_both (has_flag modes ECHO) _ _ (AtMost 24)
    (λ _. cond_both (kill_rubs_out modes) _ _ (AtMost 24) (λ _. rubout_bytes-le b width fits) (λ _. omega arith))
    (λ _. omega arith)
echo_of-le modes event.Killed fits =
    cond_both (has_flag modes ECHO) _ _ (AtMost 24)
    (λ _. cond_both (kill_rubs_out modes) _ _ (AtMost 24) (λ _. omega arith)
    (λ _.
    cond_both (has_flag modes ECHOK) (10 ∷ []) [] (λ xs. length (shown_bytes modes (character modes VKILL) ++ xs) ≤ 24)
    (λ _. omega (
      arith,
      shown_bytes-le modes (character modes VKILL),
      length-append (shown_bytes modes (character modes VKILL)) (10 ∷ []),
    ))
    (λ _. omega (
      arith,
      shown_bytes-le modes (character modes VKILL),
      length-append (shown_bytes modes (character modes VKILL)) [],
    ))))
    (λ _. omega arith)
echo_of-le modes event.Quoted fits =
    cond_both (has_flag modes ECHO && has_flag modes ECHOCTL) _ _ (AtMost 24) (λ _. omega arith) (λ _. omega arith)
echo_of-le modes event.Newline fits =
    cond_both (has_flag modes ECHO || has_flag modes ECHONL) _ _ (AtMost 24) (λ _. omega arith) (λ _. omega arith)

echo_of_erase-le : (modes : Settings) (o : Option Gone) → width_in o ≤ 8 → length (echo_of_erase modes o) ≤ 24
echo_of_erase-le modes None narrow = omega arith
echo_of_erase-le modes (Some gone) narrow = echo_of-le modes (event.Erased Erase gone.first gone.width) narrow

echo_of_gone-le : (modes : Settings) (kind : EraseKind) (start : ℕ) (kept gone : List ℕ) → OfBytes kind
    → length (echo_of_gone modes kind start kept gone) ≤ 8 * length gone
echo_of_gone-le modes kind start kept [] of = omega arith
echo_of_gone-le modes kind start kept (b ∷ gone) of =
    let rest = echo_of_gone modes kind start (kept ++ b ∷ []) gone in
    omega (
      arith,
      echo_of_gone-le modes kind start (kept ++ b ∷ []) gone of,
      length-echo-le modes kind start kept b of,
      length-append rest (echo_of modes (event.Erased kind b (width_of modes start kept b))),
    )

echo_of_word_erase-le : (modes : Settings) (tty : NTtyState)
    → length (echo_of_word_erase modes tty) ≤ 8 * length tty.edit
echo_of_word_erase-le modes tty =
    let from = word_start tty.edit in
    omega (
      arith,
      echo_of_gone-le modes Word tty.start (take from tty.edit) (drop from tty.edit) (inl refl),
      length-drop from tty.edit,
    )

echo_of_kill-le : (modes : Settings) (start : ℕ) (line : List ℕ)
    → length (echo_of_kill modes start line) ≤ 8 * length line + 24
echo_of_kill-le modes start [] = omega arith
echo_of_kill-le modes start (b ∷ line) =
    omega (
      arith,
      echo_of_gone-le modes Kill start [] (b ∷ line) (inr refl),
      echo_of-le modes event.Killed tt,
      length-append (echo_of_gone modes Kill start [] (b ∷ line)) (echo_of modes event.Killed),
    )

added-le : (line bytes : List ℕ) → length (after_change line (AddBytes bytes)) ≤ length line + length bytes
added-le line bytes =
    cond_both (nat_le (length line + length bytes) MOST_LINE) (line ++ bytes) line
    (λ xs. length xs ≤ length line + length bytes)
    (λ _. omega (arith, length-append line bytes)) (λ _. omega arith)

erased-le : (utf8 : Bool) (line : List ℕ) → length (after_change line (EraseLast utf8)) ≤ length line
erased-le utf8 line = omega (arith, length-take (length line - erase_size utf8 line) line)

-- an echo of at most 3 bytes, or one that rubs out at most 8 columns, is posted as at most 24 bytes
abbrev Posts24 : Settings → (column : ℕ) → List ℕ → Type 0
Posts24 modes column echo = length (all_posted_bytes modes column echo) ≤ 24

few_posted : (modes : Settings) (column : ℕ) (echo : List ℕ) → length echo ≤ 3 → Posts24 modes column echo
few_posted modes column echo few = omega (arith, all_posted_bytes-le modes column echo, few)

rubs_posted : (modes : Settings) (column b width : ℕ) → width ≤ 8 → Posts24 modes column (rubout_bytes b width)
rubs_posted modes column b width narrow =
    omega (
      arith,
      ap length (all_posted_bytes-rubs modes column (rubout_bytes b width) (OnlyRubs-rubbed_out b width)),
      rubout_bytes-le b width narrow,
    )

none_posted : (modes : Settings) (column : ℕ) → Posts24 modes column []
none_posted modes column = omega arith

pub echo_posted-le : (modes : Settings) (column : ℕ) (e : EchoEvent)
    → FitsEcho e
    → Posts24 modes column (echo_of modes e)
echo_posted-le modes column (event.Plain b) fits =
    cond_both (has_flag modes ECHO) _ _ (Posts24 modes column)
    (λ _. few_posted modes column (shown_bytes modes b) (omega (arith, shown_bytes-le modes b)))
    (λ _. none_posted modes column)
echo_posted-le modes column (event.Erased Erase b width) fits =
    cond_both (has_flag modes ECHO) _ _ (Posts24 modes column)
    (λ _. cond_both (has_flag modes ECHOE) _ _ (Posts24 modes column) (λ _. rubs_posted modes column b width fits)
    (λ _. few_posted modes column (shown_bytes modes (character modes VERASE))
    (omega (arith, shown_bytes-le modes (character modes VERASE)))))
    (λ _. none_posted modes column)
echo_posted-le modes column (event.Erased Word b width) fits =
    cond_both (has_flag modes ECHO) _ _ (Posts24 modes column) (λ _. rubs_posted modes column b width fits)
    (λ _. none_posted modes column)
echo_posted-le modes column (event.Erased Kill b width) fits =
    cond_both (has_flag modes ECHO) _ _ (Posts24 modes column)
    (λ _. cond_both (kill_rubs_out modes) _ _ (Posts24 modes column) (λ _. rubs_posted modes column b width fits)
    (λ _. none_posted modes column))
    (λ _. none_posted modes column)
echo_posted-le modes column event.Killed fits =
    let kill = shown_bytes modes (character modes VKILL) in
    cond_both (has_flag modes ECHO) _ _ (Posts24 modes column)
    (λ _. cond_both (kill_rubs_out modes) _ _ (Posts24 modes column) (λ _. none_posted modes column)
    (λ _. cond_both (has_flag modes ECHOK) (10 ∷ []) [] (λ xs. Posts24 modes column (kill ++ xs))
    (λ _. few_posted modes column (kill ++ 10 ∷ [])
    (omega (arith, shown_bytes-le modes (character modes VKILL), length-append kill (10 ∷ []))))
    (λ _. few_posted modes column (kill ++ [])
    (omega (arith, shown_bytes-le modes (character modes VKILL), length-append kill [])))))
    (λ _. none_posted modes column)
echo_posted-le modes column event.Quoted fits =
    cond_both (has_flag modes ECHO && has_flag modes ECHOCTL) _ _ (Posts24 modes column)
    (λ _. few_posted modes column (94 ∷ 8 ∷ []) (omega arith)) (λ _. none_posted modes column)
echo_posted-le modes column event.Newline fits =
    cond_both (has_flag modes ECHO || has_flag modes ECHONL) _ _ (Posts24 modes column)
    (λ _. few_posted modes column (10 ∷ []) (omega arith)) (λ _. none_posted modes column)

erase_posted-le : (modes : Settings) (column : ℕ) (o : Option Gone)
    → width_in o ≤ 8
    → Posts24 modes column (echo_of_erase modes o)
erase_posted-le modes column None narrow = none_posted modes column
erase_posted-le modes column (Some gone) narrow =
    echo_posted-le modes column (event.Erased Erase gone.first gone.width) narrow

-- what takes bytes off the screen is posted as it is
gone_posted-le : (modes : Settings) (column : ℕ) (kind : EraseKind) (start : ℕ) (kept gone : List ℕ) → OfBytes kind
    → length (all_posted_bytes modes column (echo_of_gone modes kind start kept gone)) ≤ 8 * length gone
gone_posted-le modes column kind start kept gone of =
    omega (
      arith,
      ap length (all_posted_bytes-rubs modes column (echo_of_gone modes kind start kept gone)
          (OnlyRubs-echo_of_gone modes kind start kept gone of)),
      echo_of_gone-le modes kind start kept gone of,
    )

word_posted-le : (modes : Settings) (column : ℕ) (tty : NTtyState)
    → length (all_posted_bytes modes column (echo_of_word_erase modes tty))
    + 8 * length (take (word_start tty.edit) tty.edit) ≤ 8 * length tty.edit
word_posted-le modes column tty =
    let from = word_start tty.edit in
    let kept = take from tty.edit in
    let gone = drop from tty.edit in
    omega (
      arith,
      gone_posted-le modes column Word tty.start kept gone (inl refl),
      length-append kept gone,
      ap length (take-append-drop from tty.edit),
    )

kill_posted-le : (modes : Settings) (column start : ℕ) (line : List ℕ)
    → length (all_posted_bytes modes column (echo_of_kill modes start line)) ≤ 8 * length line + 24
kill_posted-le modes column start [] = omega arith
kill_posted-le modes column start (b ∷ line) =
    let gone = echo_of_gone modes Kill start [] (b ∷ line) in
    let whole = echo_of modes event.Killed in
    let next = column_past_text modes column (all_posted_bytes modes column gone) in
    omega (
      arith,
      gone_posted-le modes column Kill start [] (b ∷ line) (inr refl),
      echo_posted-le modes next event.Killed tt,
      ap length (all_posted_bytes-append modes column gone whole),
      length-append (all_posted_bytes modes column gone) (all_posted_bytes modes next whole),
    )

-- what output takes of the room on the wire, and of what can be held
abbrev Spends : ℕ → Output → Output → Type 0
Spends most output output' = output.spare + length output'.held ≤ output'.spare + (length output.held + most)

after_send-spends : (output : Output) (bytes : List ℕ) → Spends (length bytes) output (after_send output bytes)
after_send-spends output bytes =
    cond_both (is_halted output) _ _ (Spends (length bytes) output)
    (λ _. omega (arith, length-append output.held bytes)) (λ _. omega arith)

after_try-spends : (output : Output) (bytes : List ℕ) → Spends (length bytes) output (after_try output bytes)
after_try-spends output bytes =
    cond_both (has_room output bytes) _ _ (Spends (length bytes) output) (λ _. after_send-spends output bytes)
    (λ _. omega arith)

after_start-spends : (output : Output) → Spends 0 output (after_start output)
after_start-spends output =
    cond_both (is_halted (record output { stopped = false })) _ _ (Spends 0 output) (λ _. omega arith)
    (λ _. omega arith)

tally_after_try-signals : (output : Output) (text : List ℕ) (tally : Tally)
    → (tally_after_try output text tally).signals.spare ≡ tally.signals.spare
tally_after_try-signals output text tally =
    cond_both (has_room output text) _ _ (λ (t : Tally). t.signals.spare ≡ tally.signals.spare) (λ _. refl) (λ _. refl)

-- A character leaves the column near, since an echo moves it by at most 64 for each of its bytes; the tick of the
-- last byte is now or stays; and it spends at most so much of the room, beyond what was pending.
pub record Near (now : ℕ) (port port' : OnPort) : Type 0 where
  pub moved : port'.tty.column ≤ port.tty.column + COLUMNS_OF_CHARACTER
  pub past : port.tty.last ≤ now → port'.tty.last ≤ now
  pub spent : port.output.spare + pending_count port'.tty port'.output
      ≤ port'.output.spare + (pending_count port.tty port.output + 40)
  pub signals : port.tally.signals.spare ≤ port'.tally.signals.spare + 1

-- what stands before an echo that is posted as so many bytes
record Still (now text : ℕ) (port port' : OnPort) : Type 0 where
  column : port'.tty.column ≡ port.tty.column
  past : port.tty.last ≤ now → port'.tty.last ≤ now
  spent : port.output.spare + (pending_count port'.tty port'.output + text)
      ≤ port'.output.spare + (pending_count port.tty port.output + 40)
  signals : port.tally.signals.spare ≤ port'.tally.signals.spare + 1

near : (now : ℕ) (port port' : OnPort) → Still now 0 port port' → Near now port port'
near now port port' still = record {
  moved = omega (arith, still.column);
  past = still.past;
  spent = omega (arith, still.spent);
  signals = still.signals;
}

unmoved : (now : ℕ) (port : OnPort) → Near now port port
unmoved now port = record { moved = omega arith; past = λ h. h; spent = omega arith; signals = omega arith }

near_echo : (modes : Settings) (now text : ℕ) (echo : List ℕ) (port port' : OnPort)
    → Still now text port port'
    → length echo ≤ 32792
    → length (all_posted_bytes modes port'.tty.column echo) ≤ text
    → Near now port (after_echo modes echo port')
near_echo modes now text echo port port' still short posts =
    let bytes = all_posted_bytes modes port'.tty.column echo in
    record {
      moved = cond_both (has_room port'.output bytes) (column_past_text modes port'.tty.column bytes) port'.tty.column
          (λ n. n ≤ port.tty.column + COLUMNS_OF_CHARACTER)
          (λ _. omega (
            arith,
            still.column,
            short,
            column_past_text-le modes port'.tty.column bytes,
            all_posted_bytes-le modes port'.tty.column echo,
          ))
          (λ _. omega (arith, still.column));
      past = still.past;
      spent = omega (arith, still.spent, posts, after_try-spends port'.output bytes);
      signals = omega (arith, still.signals, tally_after_try-signals port'.output bytes port'.tally);
    }

near_event : (modes : Settings) (now : ℕ) (e : EchoEvent) (port port' : OnPort) → FitsEcho e → Still now 24 port port'
    → Near now port (after_echo modes (echo_of modes e) port')
near_event modes now e port port' fits still =
    near_echo modes now 24 (echo_of modes e) port port' still (omega (arith, echo_of-le modes e fits))
    (echo_posted-le modes port'.tty.column e fits)

-- bytes that are stored may have to be taken off the screen
abbrev Stores : (now : ℕ) → List ℕ → OnPort → OnPort → Type 0
Stores now bytes port port' = (text : ℕ) → 8 * length bytes + text ≤ 40 → Still now text port port'

still_stored : (modes : Settings) (now : ℕ) (bytes : List ℕ) (port : OnPort)
    → Stores now bytes port (after_store modes now bytes port)
still_stored modes now bytes port =
    cond_both (has_flag modes ICANON) _ _ (Stores now bytes port)
    (λ _. cond_both (nat_le (length port.tty.edit + length bytes) MOST_LINE) _ _ (Stores now bytes port)
    (λ _ text few. record {
      column = refl;
      past = λ h. omega arith;
      spent = omega (arith, few, added-le port.tty.edit bytes);
      signals = omega arith;
    })
    (λ _ text few. record { column = refl; past = λ h. h; spent = omega (arith, few); signals = omega arith }))
    (λ _ text few. record { column = refl; past = λ h. omega arith; spent = omega (arith, few); signals = omega arith })

still_signalled : (modes : Settings) (now : ℕ) (signal : Signal) (port : OnPort)
    → Still now 24 port (after_signal modes signal port)
still_signalled modes now signal port =
    cond_both (has_flag modes NOFLSH) _ _ (Still now 24 port)
    (λ _. record { column = refl; past = λ h. h; spent = omega arith; signals = omega arith })
    (λ _. record { column = refl; past = λ h. h; spent = omega arith; signals = omega arith })

-- resuming output spends what was held
still_resumed : (now text : ℕ) (applies : Bool) (port port' : OnPort)
    → Still now text port port'
    → Still now text port (after_resume_where applies port')
still_resumed now text false port port' still = still
still_resumed now text true port port' still = record {
  column = still.column;
  past = still.past;
  spent = omega (arith, still.spent, after_start-spends port'.output);
  signals = still.signals;
}

near_resumed : (now : ℕ) (applies : Bool) (port port' : OnPort)
    → Near now (after_resume_where applies port) port'
    → Near now port port'
near_resumed now false port port' h = h
near_resumed now true port port' h = record {
  moved = h.moved;
  past = h.past;
  spent = omega (arith, h.spent, after_start-spends port.output);
  signals = h.signals;
}

-- each way to take a character, in the order in which one is built on another
near_ordinary : (modes : Settings) (now b : ℕ) (port : OnPort) → Near now port (after_ordinary modes now b port)
near_ordinary modes now b port =
    let bytes = ordinary_bytes modes b in
    let few : length bytes ≤ 2 =
    cond_both (has_flag modes PARMRK && not (has_flag modes ISTRIP) && b == 255) (255 ∷ 255 ∷ []) (b ∷ []) (AtMost 2)
    (λ _. omega arith) (λ _. omega arith) in
    near_event modes now (event.Plain b) port (after_store modes now bytes port) tt
    (still_stored modes now bytes port 24 (omega (arith, few)))

near_as : (modes : Settings) (now : ℕ) (r : Role) (b : ℕ) (port : OnPort)
    → length port.tty.edit ≤ MOST_UNREAD
    → Near now port (after_role modes now r b port)
near_as modes now role.Erase b port short =
    let gone = gone_of modes port.tty.start port.tty.edit in
    let left = after_change port.tty.edit (EraseLast (has_flag modes IUTF8)) in
    let narrow = gone-width-le modes port.tty.start port.tty.edit in
    near_echo modes now 24 (echo_of_erase modes gone) port (with_line left port)
    (record {
      column = refl;
      past = λ h. h;
      spent = omega (arith, erased-le (has_flag modes IUTF8) port.tty.edit);
      signals = omega arith;
    })
    (omega (arith, echo_of_erase-le modes gone narrow)) (erase_posted-le modes port.tty.column gone narrow)
near_as modes now role.Kill b port short =
    near_echo modes now (8 * length port.tty.edit + 24) (echo_of_kill modes port.tty.start port.tty.edit) port
    (with_line (after_change port.tty.edit Clear) port)
    (record { column = refl; past = λ h. h; spent = omega arith; signals = omega arith })
    (omega (arith, echo_of_kill-le modes port.tty.start port.tty.edit, short))
    (kill_posted-le modes port.tty.column port.tty.start port.tty.edit)
near_as modes now role.WordErase b port short =
    let echo = echo_of_word_erase modes port.tty in
    near_echo modes now (length (all_posted_bytes modes port.tty.column echo)) echo port
    (with_line (after_change port.tty.edit EraseWord) port)
    (record {
      column = refl;
      past = λ h. h;
      spent = omega (arith, word_posted-le modes port.tty.column port.tty);
      signals = omega arith;
    })
    (omega (arith, echo_of_word_erase-le modes port.tty, short)) (omega arith)
near_as modes now role.Quote b port short =
    near_event modes now event.Quoted port (with_quoted true port) tt
    (record { column = refl; past = λ h. h; spent = omega arith; signals = omega arith })
near_as modes now role.Newline b port short =
    near_event modes now event.Newline port (record port { tty = with_piece now b port.tty }) tt
    (record { column = refl; past = λ h. omega arith; spent = omega arith; signals = omega arith })
near_as modes now role.Eof b port short =
    record { moved = omega arith; past = λ h. h; spent = omega arith; signals = omega arith }
near_as modes now role.Delimiter b port short =
    near_event modes now (event.Plain b) port (record port { tty = with_piece now b port.tty }) tt
    (record { column = refl; past = λ h. omega arith; spent = omega arith; signals = omega arith })
near_as modes now role.Ordinary b port short = near_ordinary modes now b port

near_mapped : (modes : Settings) (now : ℕ) (m : Option ℕ) (port : OnPort)
    → length port.tty.edit ≤ MOST_UNREAD
    → Near now port (after_mapped modes now m port)
near_mapped modes now None port short = unmoved now port
near_mapped modes now (Some b) port short =
    cond_both (has_flag modes ICANON) _ _ (Near now port) (λ _. near_as modes now (role_of modes b) b port short)
    (λ _. near_ordinary modes now b port)

near_unsteered : (modes : Settings) (now b : ℕ) (signal : Option Signal) (port : OnPort)
    → length port.tty.edit ≤ MOST_UNREAD
    → Near now port (after_unsteered modes now b signal port)
near_unsteered modes now b (Some signal) port short =
    near_event modes now (event.Plain b) port
    (after_resume_where (has_flag modes IXON) (after_signal modes signal port)) tt
    (still_resumed now 24 (has_flag modes IXON) port (after_signal modes signal port)
    (still_signalled modes now signal port))
near_unsteered modes now b None port short = near_mapped modes now (mapped_byte modes b) port short

resumed_line : (applies : Bool) (port : OnPort)
    → length (after_resume_where applies port).tty.edit ≡ length port.tty.edit
resumed_line true port = refl
resumed_line false port = refl

near_unquoted : (modes : Settings) (now b : ℕ) (port : OnPort)
    → length port.tty.edit ≤ MOST_UNREAD
    → Near now port (after_unquoted modes now b port)
near_unquoted modes now b port short =
    let applies = has_flag modes IXON && has_flag modes IXANY in
    let resumes = after_resume_where applies port in
    cond_both (has_flag modes IXON && is_character modes VSTART b) _ _ (Near now port)
    (λ _. near_resumed now true port _ (unmoved now (after_resume port)))
    (λ _. cond_both (has_flag modes IXON && is_character modes VSTOP b) _ _ (Near now port)
    (λ _. record { moved = omega arith; past = λ h. h; spent = omega arith; signals = omega arith })
    (λ _. near_resumed now applies port _
    (near_unsteered modes now b (signal_of modes b) resumes (omega (arith, short, resumed_line applies port)))))

near_good : (modes : Settings) (now b : ℕ) (port : OnPort)
    → length port.tty.edit ≤ MOST_UNREAD
    → Near now port (after_good modes now b port)
near_good modes now b port short =
    cond_both port.tty.quoted _ _ (Near now port)
    (λ _. let h = near_ordinary modes now (stripped_byte modes b) (with_quoted false port) in
    record { moved = h.moved; past = h.past; spent = h.spent; signals = h.signals })
    (λ _. near_unquoted modes now (stripped_byte modes b) port short)

near_break : (modes : Settings) (now : ℕ) (port : OnPort) → Near now port (after_break modes now port)
near_break modes now port =
    let bytes = if has_flag modes PARMRK then 255 ∷ 0 ∷ 0 ∷ [] else 0 ∷ [] in
    let few : length bytes ≤ 3 =
    cond_both (has_flag modes PARMRK) (255 ∷ 0 ∷ 0 ∷ []) (0 ∷ []) (AtMost 3) (λ _. omega arith) (λ _. omega arith) in
    cond_both (has_flag modes IGNBRK) _ _ (Near now port) (λ _. unmoved now port)
    (λ _. cond_both (has_flag modes BRKINT) _ _ (Near now port)
    (λ _. let h = still_signalled modes now Int port in
    record { moved = omega (arith, h.column); past = h.past; spent = omega (arith, h.spent); signals = h.signals })
    (λ _. near now port (after_store modes now bytes port) (still_stored modes now bytes port 0 (omega (arith, few)))))

near_bad : (modes : Settings) (now b : ℕ) (port : OnPort)
    → length port.tty.edit ≤ MOST_UNREAD
    → Near now port (after_bad modes now b port)
near_bad modes now b port short =
    let bytes = if has_flag modes PARMRK then 255 ∷ 0 ∷ b ∷ [] else 0 ∷ [] in
    let few : length bytes ≤ 3 =
    cond_both (has_flag modes PARMRK) (255 ∷ 0 ∷ b ∷ []) (0 ∷ []) (AtMost 3) (λ _. omega arith) (λ _. omega arith) in
    cond_both (not (has_flag modes INPCK)) _ _ (Near now port) (λ _. near_good modes now b port short)
    (λ _. cond_both (has_flag modes IGNPAR) _ _ (Near now port) (λ _. unmoved now port)
    (λ _. near now port (after_store modes now bytes port) (still_stored modes now bytes port 0 (omega (arith, few)))))

-- a count is neither room nor column
near_counted : (now : ℕ) (kind : Counter) (port port' : OnPort)
    → Near now (with_one_more kind port) port'
    → Near now port port'
near_counted now kind port port' h = record { moved = h.moved; past = h.past; spent = h.spent; signals = h.signals }

after_flagged-near : (modes : Settings) (now : ℕ) (f : Flag) (b : ℕ) (port : OnPort)
    → length port.tty.edit ≤ MOST_UNREAD
    → Near now port (after_flagged modes now f b port)
after_flagged-near modes now flag.Normal b port short = near_good modes now b port short
after_flagged-near modes now flag.Break b port short =
    near_counted now counter.Break port _ (near_break modes now (with_one_more counter.Break port))
after_flagged-near modes now flag.Parity b port short =
    near_counted now counter.Parity port _ (near_bad modes now b (with_one_more counter.Parity port) short)
after_flagged-near modes now flag.Frame b port short =
    near_counted now counter.Frame port _ (near_bad modes now b (with_one_more counter.Frame port) short)
after_flagged-near modes now flag.Overrun b port short =
    near_counted now counter.Mark port _ (unmoved now (with_one_more counter.Mark port))

-- the same of a port that is known to be what such a character leaves
pub near_by : (modes : Settings) (now : ℕ) (f : Flag) (b : ℕ) (port port' : OnPort) → length port.tty.edit ≤ MOST_LINE
    → port' ≡ after_flagged modes now f b port → Near now port port'
near_by modes now f b port port' short left =
    subst (Near now port) (sym left) (after_flagged-near modes now f b port (omega (arith, short)))

-- a piece of a write moves the column by at most 4096, and takes at most 512 of the room on the wire
pub after_write-column-le : (modes : Settings) (output : Output) (bytes : List ℕ) (tty : NTtyState)
    → (after_write modes output bytes tty).column ≤ tty.column + COLUMNS_OF_PIECE
after_write-column-le modes output bytes tty =
    let size = piece_size modes tty output bytes in
    omega (
      arith,
      column_past_text-le modes tty.column (piece_text modes tty output bytes),
      all_posted_bytes-le modes tty.column (take size bytes),
      length-take size bytes,
      fitting_count-le modes tty.column output (take 64 bytes),
      length-take 64 bytes,
    )

pub piece_text-le : (modes : Settings) (tty : NTtyState) (output : Output) (bytes : List ℕ)
    → length (piece_text modes tty output bytes) ≤ MOST_POSTED
piece_text-le modes tty output bytes =
    let size = piece_size modes tty output bytes in
    omega (
      arith,
      all_posted_bytes-le modes tty.column (take size bytes),
      length-take size bytes,
      fitting_count-le modes tty.column output (take 64 bytes),
      length-take 64 bytes,
    )
