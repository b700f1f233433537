-- What a call is answered, and what it leaves, where a terminal holds bytes, modes and counts that can be printed.
use Rattle.std.proofs.Common.{◌≡◌, ℕ, suc, ◌+◌, ◌<◌, ◌≤◌, Bool, true, false, not, ◌&&◌, ◌==◌, nat_le}
use Rattle.std.proofs.Common.{nat_lt, is_some, if◌then◌else◌, Option, None, Some, List, [], ◌∷◌, ◌++◌}
use Rattle.std.proofs.Common.{length, map, take, drop, refl, sym, ◌∙◌, ap, subst, arith, length-append}
use Rattle.std.proofs.Common.{length-take, length-drop, length-set, ltb-false, take-take}
use Rattle.std.specs.List.{AllByRecursion}
use Rattle.std.proofs.lemmas.Bool.{cond_both}
use Rattle.tty_base.specs.Sizes.{MOST_ASKED, MOST_READ, PIECE}
use Rattle.tty_base.specs.declared.counters.Errno.{Errno}
use Rattle.tty_base.specs.declared.counters.Errno.TheVariants.{EBADF, EEXIST, EBUSY, EAGAIN}
use Rattle.tty_base.specs.declared.counters.Errno.TheVariants.{EIO, EINVAL, ENOTTY, EMSGSIZE}
use Rattle.tty_modes.specs.Settings.{Settings, has_flag, character, with_flags_at, sane_modes, raw_places}
use Rattle.tty_modes.specs.declared.places.TheConstants.{ICANON, IXON, VSTART, VSTOP}
use Rattle.tty_modes.specs.Word.{IsModeWord, after_word, after_words}
use Rattle.tty_modes.specs.declared.words.Word.{Word}
use Rattle.tty_modes.specs.declared.words.Word.TheVariants.{On, Off, Cc, Raw, Sane}
use Rattle.tty_calls.specs.declared.calls.Access.{Access}
use Rattle.tty_calls.specs.declared.calls.When.{When}
use Rattle.tty_calls.specs.declared.calls.When.TheVariants as when
use Rattle.tty_calls.specs.declared.calls.Queue.{Queue}
use Rattle.tty_calls.specs.declared.calls.Queue.TheVariants as queue
use Rattle.tty_calls.specs.declared.calls.Act.{Act}
use Rattle.tty_calls.specs.declared.calls.Act.TheVariants as act
use Rattle.tty_calls.specs.Plain.{PlainAnswer, done, count_is, got, PlainCall, opens, closes, reads, writes, gets_modes}
use Rattle.tty_calls.specs.Plain.{sets_modes, gets_disc, sets_disc, flushes, steers, counts_input, counts_output}
use Rattle.tty_calls.specs.Plain.{excludes, admits, drains, gets_counts, hangs_up, sends_packet, takes_packet}
use Rattle.tty_calls.specs.Limits.{byte_count}
use Rattle.line_store.specs.Unread.{Item, Byte, End, bytes_of, first_piece, read_size}
use Rattle.line_store.proofs.ItemLemmas.{bytes_of-append, bytes_of-plain}
use Rattle.opost_out.specs.Posted.{posted_bytes}
use Rattle.flow_control.specs.Output.{Output, is_halted, room_of, has_room, after_send, after_tco_on}
use Rattle.flow_control.specs.declared.tally.Counter.TheVariants.{PacketOut}
use Rattle.n_tty.specs.States.{NTtyState}
use Rattle.n_tty.specs.Posting.{column_past_text, all_posted_bytes}
use Rattle.n_tty.specs.Reading.{bytes_read, after_read, is_readable}
use Rattle.n_tty.specs.Writing.{fitting_count, piece_size, piece_text}
use Rattle.n_tty.specs.Storing.{plain_piece, after_recast}
use Rattle.n_tty.proofs.FitsLemmas.{length-bytes_of-drop, length-bytes_of-after_line}
use Rattle.n_tty.proofs.PostingLemmas.{after_send-nil, after_send-append}
use Rattle.n_tty.proofs.WritingLemmas.{fitting_count-le}
use Rattle.session_text.specs.Writable.{SetsModeWords}
use Rattle.slip_frames.specs.Slip.{max_packet, spelling_of}
use Rattle.n_slip.specs.Discipline.{Slip, first_packet}
use Rattle.handle_table.specs.declared.HandleState.{HandleState}
use Rattle.ldisc_switch.specs.declared.kinds.Kind.{Kind}
use Rattle.ldisc_switch.specs.declared.kinds.Kind.TheVariants as kind
use Rattle.ldisc_switch.specs.declared.discipline.Disc.{Disc}
use Rattle.ldisc_switch.specs.declared.discipline.Disc.TheVariants as disc
use Rattle.ldisc_switch.specs.Disciplines.{kind_of_number, fresh_of, unread_of, has_piece_of}
use Rattle.ldisc_switch.specs.Happenings.{flush, mode_change, after_one}
use Rattle.tty_terminal.specs.declared.callers.CallerState.{CallerState}
use Rattle.tty_terminal.specs.Terminals.{Terminal, handle_at, handle_for}
use Rattle.tty_terminal.specs.Receiving.{after_ixoff}
use Rattle.tty_terminal.specs.Generations.{after_close, after_last_close, after_change, after_hangup}
use Rattle.tty_terminal.specs.Outcomes.{Outcome, unknown, waits, takes, gives, refuses}
use Rattle.tty_terminal.specs.Outcomes.{tells, may_read, may_write, on_live, on_access}
use Rattle.tty_terminal.specs.Opening.{opening_outcome, is_last_live, closing_outcome}
use Rattle.tty_terminal.specs.Transfers.{since_or, has_parts, write_refusal, read_outcome, reading_outcome}
use Rattle.tty_terminal.specs.Transfers.{with_piece_posted, write_outcome, is_outlived, writing_outcome}
use Rattle.tty_terminal.specs.Modes.{is_drained, output_under, with_modes, without_input, modes_outcome}
use Rattle.tty_terminal.specs.Switching.{number_of, change_outcome}
use Rattle.tty_terminal.specs.Flow.{without_held, flush_outcome, with_character_sent, after_act}
use Rattle.tty_terminal.specs.Packets.{sending_outcome, taking_outcome}
use Rattle.tty_terminal.specs.Calls.{input_count, outcome}
use Rattle.tty_terminal.specs.Steps.{Answers, left_by}
use Rattle.check_text.specs.Callers.{answer_kind}
use Rattle.check_text.specs.Grammar.{most}
use Rattle.check_text.specs.Printed.{AreCounts, AreModes, IsAnswerTo}
use Rattle.journal_bound.specs.Counts.{written_count}
use Rattle.read_back.proofs.Lists.{AllBytes, are_bytes, each_of_both, each_taken}
use Rattle.read_back.proofs.Lists.{each_left, each_set, each_at, each_mapped}
use Rattle.read_back.proofs.Characters.{IsByteItem, IsByteTty, HeldFits, sent_fits}
use Rattle.read_back.proofs.Characters.{started_fits, rule_fits, counts_kept}
use Rattle.read_back.proofs.Packets.{IsPacket, IsByteSlip, no_packet}

-- ---- what is kept

abbrev pub IsByteDisc : ℕ → Disc → Type 0
IsByteDisc few (disc.Tty tty) = IsByteTty few tty
IsByteDisc few (disc.Slip slip) = IsByteSlip slip

-- modes, counts, input and output are such as can be printed, with so many bytes unread at most
pub record IsSized (few : ℕ) (t : Terminal) : Type 0 where
  pub modes : AreModes t.modes
  pub counts : AreCounts t.tally.counts
  pub disc : IsByteDisc few t.disc
  pub held : HeldFits t.output

-- a call sets mode words, and hands over no more than a number counts
pub record IsSmallCall (call : PlainCall) : Type 0 where
  pub modes : SetsModeWords call
  pub bytes : byte_count call ≤ MOST_ASKED

-- what was taken of the bytes that a call writes lies within them
abbrev pub IsTaken : CallerState → PlainCall → Type 0
IsTaken s call = s.taken ≤ written_count call

-- an outcome's answer is one that can be printed for the call, and what it leaves is kept
abbrev pub IsMet : PlainCall → ℕ → Terminal → Outcome → Type 0
IsMet call few t unknown = IsSized few t
IsMet call few t waits = IsSized few t
IsMet call few t (takes taken left) = IsSized few left
IsMet call few t (gives answer drops left) = IsAnswerTo (answer_kind call) answer × IsSized few left

pub fresh_is : (few : ℕ) (k : Kind) → IsByteDisc few (fresh_of k)
fresh_is few kind.Tty = record { items = tt; edit = tt; few = omega arith }
fresh_is few kind.Slip = record { piece = no_packet; packets = tt }

-- ---- what an outcome comes to

ruled : (few : ℕ) (t : Terminal) → IsSized few t → IsSized few (after_ixoff t)
ruled few t h = record {
  modes = h.modes;
  counts = h.counts;
  disc = h.disc;
  held = rule_fits t.modes (unread_of t.disc) (has_piece_of t.disc) t.output h.held;
}

pub left_sized : (call : PlainCall) (few : ℕ) (t : Terminal) (o : Outcome)
    → IsMet call few t o
    → IsSized few (left_by o t)
left_sized call few t unknown h = h
left_sized call few t waits h = h
left_sized call few t (takes taken left) h = h
left_sized call few t (gives answer drops left) h = ruled few left h.1

pub met_answers : (call : PlainCall) (few : ℕ) (t : Terminal) (may : Bool) (o : Outcome) (a : PlainAnswer)
    → Answers may o a
    → IsMet call few t o
    → IsAnswerTo (answer_kind call) a
met_answers call few t may unknown a is h = absurd is
met_answers call few t may waits a is h = subst (λ (x : PlainAnswer). IsAnswerTo (answer_kind call) x) (sym is.0) tt
met_answers call few t may (takes taken left) a is h = absurd is
met_answers call few t may (gives answer drops left) a is h =
    subst (λ (x : PlainAnswer). IsAnswerTo (answer_kind call) x) (sym is) h.0

-- ---- outcomes

module _ (call : PlainCall) (few : ℕ) (t : Terminal) (h : IsSized few t) where
  refusing : (errno : Errno) → IsMet call few t (refuses errno t)
  refusing errno = (tt, h)

  either : (b : Bool) (x y : Outcome) → IsMet call few t x → IsMet call few t y → IsMet call few t (if b then x else y)
  either true x y p q = p
  either false x y p q = q

  living : (handle : Option HandleState) (live : Outcome)
      → IsMet call few t live
      → IsMet call few t (on_live t handle live)
  living None live k = refusing EBADF
  living (Some handle) live k = either handle.live live (refuses EIO t) k (refusing EIO)

  accessing : (may : Access → Bool) (handle : Option HandleState) (live : Outcome)
      → IsMet call few t live
      → IsMet call few t (on_access may t handle live)
  accessing may None live k = refusing EBADF
  accessing may (Some handle) live k = either (may handle.access) (on_live t (Some handle) live) (refuses EBADF t)
      (living (Some handle) live k) (refusing EBADF)

  draining : (u : Terminal) (answer : PlainAnswer) (drops : Bool)
      → IsMet call few t (gives answer drops u)
      → IsMet call few t (if is_drained t then gives answer drops u else waits)
  draining u answer drops k = either (is_drained t) (gives answer drops u) waits k h

-- ---- opens and closes

opening_met : (h0 few : ℕ) (access : Access) (nonblock : Bool) (t : Terminal)
    → IsSized few t
    → IsMet (opens h0 access nonblock) few t (opening_outcome t h0 access nonblock)
opening_met h0 few access nonblock t h =
    let call : PlainCall = opens h0 access nonblock in
    either call few t h (is_some (handle_at t h0)) _ _ (refusing call few t h EEXIST)
    (either call few t h t.exclusive _ _ (refusing call few t h EBUSY)
    (tt, record { modes = h.modes; counts = h.counts; disc = h.disc; held = h.held }))

closed_sized : (b : Bool) (few h0 : ℕ) (t : Terminal)
    → IsSized few t
    → IsSized few (if b then after_last_close (after_close t h0) else after_close t h0)
closed_sized true few h0 t h =
    record { modes = h.modes; counts = h.counts; disc = fresh_is few kind.Tty; held = omega arith }
closed_sized false few h0 t h = record { modes = h.modes; counts = h.counts; disc = h.disc; held = h.held }

closing_met : (h0 few : ℕ) (t : Terminal)
    → IsSized few t
    → (handle : Option HandleState)
    → IsMet (closes h0) few t (closing_outcome t h0 handle)
closing_met h0 few t h None = refusing (closes h0) few t h EBADF
closing_met h0 few t h (Some handle) = (tt, closed_sized (is_last_live t handle) few h0 t h)

-- ---- reads

first_bytes : (items : List Item) → AllByRecursion IsByteItem items → AllBytes (first_piece items)
first_bytes [] h = tt
first_bytes (Byte b ∷ items) h = (h.0, first_bytes items h.1)
first_bytes (End ∷ items) h = tt

all_bytes : (items : List Item) → AllByRecursion IsByteItem items → AllBytes (bytes_of items)
all_bytes [] h = tt
all_bytes (Byte b ∷ items) h = (h.0, all_bytes items h.1)
all_bytes (End ∷ items) h = all_bytes items h.1

-- bytes that a number of 64 bits counts
record IsRead (bytes : List ℕ) : Type 0 where
  are : AllBytes bytes
  few : length bytes ≤ MOST_READ

taken_read : (n : ℕ) (bytes : List ℕ) → AllBytes bytes → IsRead (take (read_size n) bytes)
taken_read n bytes h = record {
  are = each_taken (λ b. b < 256) (read_size n) bytes h;
  few = omega (arith, length-take (read_size n) bytes);
}

read_is : (modes : Settings) (n : ℕ) (tty : NTtyState)
    → AllByRecursion IsByteItem tty.items
    → IsRead (bytes_read modes n tty)
read_is modes n tty h = cond_both (has_flag modes ICANON) _ _ IsRead
    (λ _. taken_read n (first_piece tty.items) (first_bytes tty.items h))
    (λ _. taken_read n (bytes_of tty.items) (all_bytes tty.items h))

left_is : (modes : Settings) (n few : ℕ) (tty : NTtyState) → IsByteTty few tty → IsByteTty few (after_read modes n tty)
left_is modes n few tty h =
    let before = h.few in
    record {
      items = cond_both (has_flag modes ICANON) _ _ (AllByRecursion IsByteItem)
          (λ _. cond_both (nat_le (length (first_piece tty.items)) (read_size n)) _ _ (AllByRecursion IsByteItem)
          (λ _. each_left IsByteItem (suc (length (first_piece tty.items))) tty.items h.items)
          (λ _. each_left IsByteItem (read_size n) tty.items h.items))
          (λ _. each_left IsByteItem (read_size n) tty.items h.items);
      edit = h.edit;
      few =
          cond_both (has_flag modes ICANON) _ _ (λ (items : List Item). length (bytes_of items) + length tty.edit ≤ few)
          (λ _. omega (arith, before, length-bytes_of-after_line (read_size n) tty.items))
          (λ _. omega (arith, before, length-bytes_of-drop (read_size n) tty.items));
    }

got_fits : (bytes : List ℕ) → IsRead bytes → IsAnswerTo (answer_kind (reads 0 0)) (got bytes)
got_fits bytes h = let few = h.few in (are_bytes bytes h.are, omega (arith, few))

reading_met : (h0 n few : ℕ) (t : Terminal)
    → IsSized few t
    → (s : CallerState) (handle : Option HandleState)
    → IsMet (reads h0 n) few t (reading_outcome t s n handle)
reading_met h0 n few t h s handle = by_handle handle
  where
    call : PlainCall
    call = reads h0 n

    by_disc : (nonblock : Bool) (d : Disc) → IsByteDisc few d → IsMet call few t (read_outcome t s nonblock n d)
    by_disc nonblock (disc.Slip slip) k = refusing call few t h EIO
    by_disc nonblock (disc.Tty tty) k =
        either call few t h (is_readable t.modes nonblock n (since_or s.waits t.tick) t.tick tty) _ _ (
          got_fits (bytes_read t.modes n tty) (read_is t.modes n tty k.items),
          record { modes = h.modes; counts = h.counts; disc = left_is t.modes n few tty k; held = h.held },
        )
        (either call few t h nonblock (refuses EAGAIN t) waits (refusing call few t h EAGAIN) h)

    by_handle : (handle : Option HandleState) → IsMet call few t (reading_outcome t s n handle)
    by_handle None = refusing call few t h EBADF
    by_handle (Some handle) =
        either call few t h (not (may_read handle.access)) _ _ (refusing call few t h EBADF)
        (either call few t h (not handle.live) _ _ (got_fits [] (record { are = tt; few = omega arith }), h)
        (by_disc handle.nonblock t.disc h.disc))

-- ---- writes

fitting_fits : (modes : Settings) (bytes : List ℕ) (column : ℕ) (output : Output)
    → HeldFits output
    → HeldFits
    (after_send output (all_posted_bytes modes column (take (fitting_count modes column output bytes) bytes)))
fitting_fits modes [] column output h = subst HeldFits (sym (after_send-nil output)) h
fitting_fits modes (b ∷ bytes) column output h =
    by_room (has_room output (posted_bytes modes column b)) refl
    (λ room. fitting_fits modes bytes (column_past_text modes column (posted_bytes modes column b))
    (after_send output (posted_bytes modes column b)) (sent_fits output (posted_bytes modes column b) room h))
  where
    text : List ℕ
    text = posted_bytes modes column b

    next : ℕ
    next = column_past_text modes column text

    rest : List ℕ
    rest = all_posted_bytes modes next (take (fitting_count modes next (after_send output text) bytes) bytes)

    by_room : (r : Bool)
        → has_room output text ≡ r
        → (has_room output text ≡ true → HeldFits (after_send (after_send output text) rest))
        → HeldFits (after_send output (all_posted_bytes modes column
        (take (if r then suc (fitting_count modes next (after_send output text) bytes) else 0) (b ∷ bytes))))
    by_room false room later = subst HeldFits (sym (after_send-nil output)) h
    by_room true room later = subst HeldFits (sym (after_send-append output text rest)) (later room)

posted_fits : (modes : Settings) (tty : NTtyState) (output : Output) (bytes : List ℕ)
    → HeldFits output
    → HeldFits (after_send output (piece_text modes tty output bytes))
posted_fits modes tty output bytes h =
    let n : ℕ = piece_size modes tty output bytes in
    let few : n ≤ length (take PIECE bytes) = fitting_count-le modes tty.column output (take PIECE bytes) in
    let same : take n (take PIECE bytes) ≡ take n bytes =
    take-take n PIECE bytes (omega (arith, few, length-take PIECE bytes)) in
    subst (λ (xs : List ℕ). HeldFits (after_send output (all_posted_bytes modes tty.column xs))) same
    (fitting_fits modes (take PIECE bytes) tty.column output h)

piece_few : (modes : Settings) (tty : NTtyState) (output : Output) (bytes : List ℕ)
    → piece_size modes tty output bytes ≤ length bytes
piece_few modes tty output bytes =
    omega (arith, fitting_count-le modes tty.column output (take PIECE bytes), length-take PIECE bytes)

writing_met : (h0 : ℕ) (bytes : List ℕ) (few : ℕ) (t : Terminal)
    → IsSized few t
    → (s : CallerState)
    → length bytes ≤ MOST_ASKED
    → s.taken ≤ length bytes
    → (handle : Option HandleState)
    → IsMet (writes h0 bytes) few t (writing_outcome t s bytes handle)
writing_met h0 bytes few t h s short within handle = by_handle handle
  where
    call : PlainCall
    call = writes h0 bytes

    counted : IsMet call few t (tells (count_is s.taken) t)
    counted = (omega (arith, short, within), h)

    refused_is : (errno : Errno) → IsMet call few t (write_refusal t s errno)
    refused_is errno = either call few t h (has_parts s) _ _ counted (refusing call few t h errno)

    by_disc : (nonblock : Bool) (d : Disc)
        → IsByteDisc few d
        → IsMet call few t (write_outcome t s nonblock (drop s.taken bytes) d)
    by_disc nonblock (disc.Slip slip) k = refused_is EIO
    by_disc nonblock (disc.Tty tty) k =
        let rest : List ℕ = drop s.taken bytes in
        let fit : ℕ = piece_size t.modes tty t.output rest in
        let after : IsSized few (with_piece_posted t tty rest) = record {
          modes = h.modes;
          counts = h.counts;
          disc = record { items = k.items; edit = k.edit; few = k.few };
          held = posted_fits t.modes tty t.output rest h.held;
        } in
        either call few t h (fit == length rest) _ _
        (omega (arith, short, within, piece_few t.modes tty t.output rest, length-drop s.taken bytes), after)
        (either call few t h (nat_lt 0 fit) _ _ after (either call few t h nonblock _ _ (refused_is EAGAIN) h))

    by_handle : (handle : Option HandleState) → IsMet call few t (writing_outcome t s bytes handle)
    by_handle None = refused_is EBADF
    by_handle (Some handle) =
        either call few t h (not (may_write handle.access)) _ _ (refused_is EBADF)
        (either call few t h (not handle.live) _ _ (refused_is EIO)
        (either call few t h (is_outlived t s) _ _ counted (by_disc handle.nonblock t.disc h.disc)))

-- ---- modes

flags_stay : (value : Bool) (places : List ℕ) (flags : List Bool)
    → length (with_flags_at value places flags) ≡ length flags
flags_stay value [] flags = refl
flags_stay value (place ∷ places) flags = flags_stay value places _ ∙ length-set flags place value

characters_at : (characters : List ℕ)
    → ((i : ℕ) → character (record { flags = []; characters = characters }) i < 256)
    → AllBytes characters
characters_at [] h = tt
characters_at (x ∷ xs) h = (h 0, characters_at xs (λ i. h (suc i)))

pub sane_are : AreModes sane_modes
sane_are = record {
  flags = refl;
  characters = refl;
  bytes = are_bytes sane_modes.characters (
    omega arith,
    (
      omega arith,
      (
        omega arith,
        (
          omega arith,
          (
            omega arith,
            (
              omega arith,
              (
                omega arith,
                (
                  omega arith,
                  (
                    omega arith,
                    (
                      omega arith,
                      (omega arith, (omega arith, (omega arith, (omega arith, (omega arith, tt))))),
                    ),
                  ),
                ),
              ),
            ),
          ),
        ),
      ),
    ),
  );
}

word_kept : (modes : Settings) (word : Word) → IsModeWord word → AreModes modes → AreModes (after_word modes word)
word_kept modes (On place) small h =
    record { flags = length-set modes.flags place true ∙ h.flags; characters = h.characters; bytes = h.bytes }
word_kept modes (Off place) small h =
    record { flags = length-set modes.flags place false ∙ h.flags; characters = h.characters; bytes = h.bytes }
word_kept modes (Cc place byte) small h = record {
  flags = h.flags;
  characters = length-set modes.characters place byte ∙ h.characters;
  bytes = are_bytes _
      (each_set (λ b. b < 256) modes.characters place byte (characters_at modes.characters h.bytes) small.1);
}
word_kept modes Raw small h =
    record { flags = flags_stay false raw_places modes.flags ∙ h.flags; characters = h.characters; bytes = h.bytes }
word_kept modes Sane small h = sane_are

words_kept : (words : List Word) (modes : Settings)
    → AllByRecursion IsModeWord words
    → AreModes modes
    → AreModes (after_words modes words)
words_kept [] modes small h = h
words_kept (word ∷ words) modes small h =
    words_kept words (after_word modes word) small.1 (word_kept modes word small.0 h)

plain_bytes : (items : List Item)
    → AllByRecursion IsByteItem items
    → AllByRecursion IsByteItem (map Byte (bytes_of items))
plain_bytes items h = each_mapped IsByteItem Byte (bytes_of items) (all_bytes items h)

recast_items : (items : List Item) → AllByRecursion IsByteItem items → AllByRecursion IsByteItem (plain_piece items)
recast_items [] h = tt
recast_items (item ∷ items) h = (h.0, each_of_both IsByteItem items (End ∷ []) h.1 (tt, tt))

recast_count : (items : List Item) → length (bytes_of (plain_piece items)) ≡ length (bytes_of items)
recast_count [] = refl
recast_count (item ∷ items) =
    ap length (bytes_of-append (item ∷ items) (End ∷ [])) ∙ omega (arith, length-append (bytes_of (item ∷ items)) [])

recast_is : (old new : Settings) (few : ℕ) (tty : NTtyState)
    → IsByteTty few tty
    → IsByteTty few (after_recast old new tty)
recast_is old new few tty h =
    let before = h.few in
    cond_both (has_flag old ICANON) _ _ (IsByteTty few)
    (λ _. cond_both (has_flag new ICANON) _ _ (IsByteTty few) (λ _. h)
    (λ _. record {
      items = each_of_both IsByteItem (map Byte (bytes_of tty.items)) (map Byte tty.edit)
          (plain_bytes tty.items h.items) (each_mapped IsByteItem Byte tty.edit h.edit);
      edit = tt;
      few = omega (arith, before, plain_count tty.items tty.edit);
    }))
    (λ _. cond_both (has_flag new ICANON) _ _ (IsByteTty few)
    (λ _. record {
      items = recast_items tty.items h.items;
      edit = h.edit;
      few = omega (arith, before, recast_count tty.items);
    })
    (λ _. h))
  where
    plain_count : (items : List Item) (line : List ℕ)
        → length (bytes_of (map Byte (bytes_of items) ++ map Byte line)) ≡ length (bytes_of items) + length line
    plain_count items line =
        ap length (bytes_of-append (map Byte (bytes_of items)) (map Byte line)
        ∙ (λ i. bytes_of-plain (bytes_of items) i ++ bytes_of-plain line i))
        ∙ length-append (bytes_of items) line

recast_disc : (old new : Settings) (few : ℕ) (d : Disc)
    → IsByteDisc few d
    → IsByteDisc few (after_one d (mode_change old new))
recast_disc old new few (disc.Tty tty) h = recast_is old new few tty h
recast_disc old new few (disc.Slip slip) h = h

flushed_disc : (few : ℕ) (d : Disc) → IsByteDisc few d → IsByteDisc few (after_one d flush)
flushed_disc few (disc.Tty tty) h = record { items = tt; edit = tt; few = omega arith }
flushed_disc few (disc.Slip slip) h = record { piece = h.piece; packets = tt }

under_fits : (old new : Settings) (output : Output) → HeldFits output → HeldFits (output_under old new output)
under_fits old new output h =
    cond_both (has_flag old IXON && not (has_flag new IXON)) _ _ HeldFits (λ _. started_fits output h) (λ _. h)

with_modes_sized : (new : Settings) (few : ℕ) (t : Terminal)
    → AreModes new
    → IsSized few t
    → IsSized few (with_modes t new)
with_modes_sized new few t are h = record {
  modes = are;
  counts = h.counts;
  disc = recast_disc t.modes new few t.disc h.disc;
  held = under_fits t.modes new t.output h.held;
}

without_input_sized : (few : ℕ) (t : Terminal) → IsSized few t → IsSized few (without_input t)
without_input_sized few t h =
    record { modes = h.modes; counts = h.counts; disc = flushed_disc few t.disc h.disc; held = h.held }

without_held_sized : (few : ℕ) (t : Terminal) → IsSized few t → IsSized few (without_held t)
without_held_sized few t h = record { modes = h.modes; counts = h.counts; disc = h.disc; held = omega arith }

modes_met : (h0 few : ℕ) (words : List Word) (w : When) (t : Terminal)
    → IsSized few t
    → (new : Settings)
    → AreModes new
    → IsMet (sets_modes h0 w words) few t (modes_outcome t w new)
modes_met h0 few words when.Now t h new are = (tt, with_modes_sized new few t are h)
modes_met h0 few words when.Drain t h new are = draining (sets_modes h0 when.Drain words) few t h (with_modes t new)
    done false (tt, with_modes_sized new few t are h)
modes_met h0 few words when.Flush t h new are =
    draining (sets_modes h0 when.Flush words) few t h (with_modes (without_input t) new) done true
    (tt, with_modes_sized new few (without_input t) are (without_input_sized few t h))

-- ---- disciplines, output, packets

number_small : (d : Disc) → number_of d ≤ most
number_small (disc.Tty tty) = omega arith
number_small (disc.Slip slip) = omega arith

changed_sized : (b : Bool) (new : Kind) (few : ℕ) (t : Terminal)
    → IsSized few t
    → IsSized few (if b then t else after_change t new)
changed_sized true new few t h = h
changed_sized false new few t h =
    record { modes = h.modes; counts = h.counts; disc = fresh_is few new; held = started_fits t.output h.held }

change_met : (h0 n few : ℕ) (t : Terminal)
    → IsSized few t
    → (new : Option Kind)
    → IsMet (sets_disc h0 n) few t (change_outcome t n new)
change_met h0 n few t h None = refusing (sets_disc h0 n) few t h EINVAL
change_met h0 n few t h (Some new) = (tt, changed_sized (number_of t.disc == n) new few t h)

flush_met : (h0 few : ℕ) (q : Queue) (t : Terminal) → IsSized few t → IsMet (flushes h0 q) few t (flush_outcome t q)
flush_met h0 few queue.Input t h = (tt, without_input_sized few t h)
flush_met h0 few queue.Output t h = (tt, without_held_sized few t h)
flush_met h0 few queue.Both t h = (tt, without_held_sized few (without_input t) (without_input_sized few t h))

sent_sized : (place few : ℕ) (t : Terminal) → IsSized few t → IsSized few (with_character_sent t place)
sent_sized place few t h = cond_both (character t.modes place == 0) _ _ (IsSized few) (λ _. h)
    (λ _. record { modes = h.modes; counts = h.counts; disc = h.disc; held = h.held })

on_fits : (output : Output) → HeldFits output → HeldFits (after_tco_on output)
on_fits output h = cond_both output.off _ _ HeldFits (λ _. omega arith) (λ _. h)

act_sized : (few : ℕ) (a : Act) (t : Terminal) → IsSized few t → IsSized few (after_act t a)
act_sized few act.Ooff t h = record { modes = h.modes; counts = h.counts; disc = h.disc; held = h.held }
act_sized few act.Oon t h = record { modes = h.modes; counts = h.counts; disc = h.disc; held = on_fits t.output h.held }
act_sized few act.Ioff t h = sent_sized VSTOP few t h
act_sized few act.Ion t h = sent_sized VSTART few t h

pub hung_up_sized : (few : ℕ) (t : Terminal) → IsSized few t → IsSized few (after_hangup t)
hung_up_sized few t h = record { modes = h.modes; counts = h.counts; disc = fresh_is few kind.Tty; held = omega arith }

first_is : (slip : Slip) → IsByteSlip slip → IsPacket (first_packet slip)
first_is slip h = each_at IsPacket slip.packets 0 [] h.packets no_packet

input_small : (modes : Settings) (few : ℕ) (d : Disc) → few ≤ most → IsByteDisc few d → input_count modes d ≤ most
input_small modes few (disc.Tty tty) small h =
    let before = h.few in
    cond_both (has_flag modes ICANON) _ _ (λ (n : ℕ). n ≤ most) (λ _. omega (arith, before, small))
    (λ _. omega (arith, before, small))
input_small modes few (disc.Slip slip) small h = let short = (first_is slip h).few in omega (arith, short)

sending_met : (h0 few : ℕ) (bytes : List ℕ) (t : Terminal)
    → IsSized few t
    → (d : Disc)
    → IsMet (sends_packet h0 bytes) few t (sending_outcome t bytes d)
sending_met h0 few bytes t h (disc.Tty tty) = refusing (sends_packet h0 bytes) few t h ENOTTY
sending_met h0 few bytes t h (disc.Slip slip) =
    either (sends_packet h0 bytes) few t h (nat_lt max_packet (length bytes)) _ _
    (refusing (sends_packet h0 bytes) few t h EMSGSIZE)
    (cond_both (nat_lt (room_of t.output) (length (spelling_of bytes))) _ _ (IsMet (sends_packet h0 bytes) few t)
    (λ _. refusing (sends_packet h0 bytes) few t h EAGAIN)
    (λ room. (
      tt,
      record {
        modes = h.modes;
        counts = counts_kept t.tally.counts PacketOut 1 h.counts;
        disc = h.disc;
        held = packet_fits (ltb-false (room_of t.output) (length (spelling_of bytes)) room);
      },
    )))
  where
    packet_fits : length (spelling_of bytes) ≤ room_of t.output → HeldFits (after_send t.output (spelling_of bytes))
    packet_fits fits = (let before = h.held in
        cond_both (is_halted t.output) _ _ HeldFits
        (λ _. omega (arith, fits, before, length-append t.output.held (spelling_of bytes))) (λ _. before))

taking_met : (h0 few : ℕ) (t : Terminal)
    → IsSized few t
    → (d : Disc)
    → IsByteDisc few d
    → IsMet (takes_packet h0) few t (taking_outcome t d)
taking_met h0 few t h (disc.Tty tty) k = refusing (takes_packet h0) few t h ENOTTY
taking_met h0 few t h (disc.Slip slip) k =
    let first = first_is slip k in
    let short = first.few in
    either (takes_packet h0) few t h (length slip.packets == 0) _ _ (refusing (takes_packet h0) few t h EAGAIN) (
      (are_bytes (first_packet slip) first.are, omega (arith, short)),
      record {
        modes = h.modes;
        counts = h.counts;
        disc = record { piece = k.piece; packets = each_left IsPacket 1 slip.packets k.packets };
        held = h.held;
      },
    )

-- ---- any call

pub call_met : (few : ℕ) (t : Terminal) (s : CallerState) (call : PlainCall)
    → few ≤ most
    → IsSmallCall call
    → IsTaken s call
    → IsSized few t
    → IsMet call few t (outcome t s call)
call_met few t s (opens h0 access nonblock) small is within h = opening_met h0 few access nonblock t h
call_met few t s (closes h0) small is within h = closing_met h0 few t h (handle_at t h0)
call_met few t s (reads h0 n) small is within h = reading_met h0 n few t h s (handle_for t s h0)
call_met few t s (writes h0 bytes) small is within h =
    writing_met h0 bytes few t h s is.bytes within (handle_for t s h0)
call_met few t s (gets_modes h0) small is within h = living (gets_modes h0) few t h (handle_for t s h0) _ (h.modes, h)
call_met few t s (sets_modes h0 w words) small is within h =
    living (sets_modes h0 w words) few t h (handle_for t s h0) _
    (modes_met h0 few words w t h (after_words t.modes words) (words_kept words t.modes is.modes h.modes))
call_met few t s (gets_disc h0) small is within h =
    living (gets_disc h0) few t h (handle_for t s h0) _ (number_small t.disc, h)
call_met few t s (sets_disc h0 n) small is within h =
    living (sets_disc h0 n) few t h (handle_for t s h0) _ (change_met h0 n few t h (kind_of_number n))
call_met few t s (flushes h0 q) small is within h =
    living (flushes h0 q) few t h (handle_for t s h0) _ (flush_met h0 few q t h)
call_met few t s (steers h0 a) small is within h =
    living (steers h0 a) few t h (handle_for t s h0) _ (tt, act_sized few a t h)
call_met few t s (counts_input h0) small is within h =
    living (counts_input h0) few t h (handle_for t s h0) _ (input_small t.modes few t.disc small h.disc, h)
call_met few t s (counts_output h0) small is within h =
    (let held = h.held in living (counts_output h0) few t h (handle_for t s h0) _ (omega (arith, held), h))
call_met few t s (excludes h0) small is within h = living (excludes h0) few t h (handle_for t s h0) _
    (tt, record { modes = h.modes; counts = h.counts; disc = h.disc; held = h.held })
call_met few t s (admits h0) small is within h = living (admits h0) few t h (handle_for t s h0) _
    (tt, record { modes = h.modes; counts = h.counts; disc = h.disc; held = h.held })
call_met few t s (drains h0) small is within h =
    living (drains h0) few t h (handle_for t s h0) _ (draining (drains h0) few t h t done false (tt, h))
call_met few t s (gets_counts h0) small is within h =
    living (gets_counts h0) few t h (handle_for t s h0) _ (h.counts, h)
call_met few t s (hangs_up h0) small is within h =
    living (hangs_up h0) few t h (handle_for t s h0) _ (tt, hung_up_sized few t h)
call_met few t s (sends_packet h0 bytes) small is within h =
    accessing (sends_packet h0 bytes) few t h may_write (handle_for t s h0) _ (sending_met h0 few bytes t h t.disc)
call_met few t s (takes_packet h0) small is within h =
    accessing (takes_packet h0) few t h may_read (handle_for t s h0) _ (taking_met h0 few t h t.disc h.disc)
