-- Reserved room makes no difference: what the fields do is what the terminal does.
use Rattle.std.proofs.Common.{◌≡◌, ℕ, ◌≤◌, ◌%◌, ◌^◌, min, Bool, true, false, not, ◌&&◌, Some, None, ◌++◌}
use Rattle.std.proofs.Common.{if◌then◌else◌, List, length, map, take, drop, ap, sym, ◌∙◌, arith}
use Rattle.std.proofs.lemmas.List.{length-take, take_min}
use Rattle.tty_base.specs.Sizes.{MOST_READ, PIECE}
use Rattle.tty_base.specs.declared.characters.Flagged.{Flagged}
use Rattle.tty_modes.specs.declared.places.TheConstants.{ICANON, IXON}
use Rattle.tty_modes.specs.declared.words.Word.{Word}
use Rattle.tty_modes.specs.Settings.{Settings, has_flag}
use Rattle.tty_modes.specs.Word.{after_word}
use Rattle.line_store.specs.Unread.{read_size, first_piece, bytes_of}
use Rattle.flow_control.specs.Output.{Output, without_room, after_send, after_start}
use Rattle.flow_control.specs.declared.tally.Tally.{Tally}
use Rattle.flow_control.proofs.RoomLemmas.{without_room-if, after_send-room, after_start-room}
use Rattle.n_tty.specs.States.{NTtyState, OnPort, on_port, is_accepting, unread_count, has_piece}
use Rattle.n_tty.specs.Room.{port_without_room}
use Rattle.n_tty.specs.Receiving.{after_character}
use Rattle.n_tty.specs.Reading.{bytes_read, after_read}
use Rattle.n_tty.specs.Storing.{after_recast}
use Rattle.n_tty.specs.Flow.{after_ixoff_rule}
use Rattle.n_tty.specs.Writing.{piece_size, piece_text, after_write}
use Rattle.n_tty.proofs.WithoutRoom.{after_character-room, piece_size-room, piece_text-room, after_write-room}
use Rattle.n_tty.proofs.WithoutRoom.{after_ixoff_rule-room}
use Rattle.tty_embed.proofs.Accepting.{after_accepted-room, accepted_count-room}
use Rattle.tty_embed.specs.Embedded.{Embedded, good, offered, with_column_in_32_bits, accepts, after_receipt}
use Rattle.tty_embed.specs.Embedded.{after_accepted, accepted_count, after_receiving, received_count, after_writing}
use Rattle.tty_embed.specs.Embedded.{with_rule, output_under, after_setting, asked_count, is_ready_for, bytes_given}
use Rattle.tty_embed.specs.Embedded.{read_answer, at_front, place_after_read, after_reading}

-- a terminal of these fields
abbrev pub of_fields : Settings → (tick : ℕ) → NTtyState → Output → Tally → Embedded
of_fields modes tick tty wire tally =
    record { port = port_without_room (on_port tty wire tally); modes = modes; tick = tick }

then_is : {A : Type 0} (test : Bool) (x y : A) → test ≡ true → (if test then x else y) ≡ x
then_is test x y e = ap (λ (b : Bool). if b then x else y) e

-- a port on which room was reserved is the same without room
pub reserved : (tty : NTtyState) (wire more : Output) (tally signals : Tally)
    → more ≡ record wire { spare = more.spare }
    → signals.counts ≡ tally.counts
    → signals.signals.items ≡ tally.signals.items
    → port_without_room (on_port tty more signals) ≡ port_without_room (on_port tty wire tally)
reserved tty wire more tally signals same counts items =
    λ i.
    on_port tty (ap without_room same i) (record { counts = counts i; signals = record { items = items i; spare = 0 } })

-- a character that was received, with room that was reserved for it, is received without room
pub receipt_made : (modes : Settings) (tick : ℕ) (c : Flagged) (tty : NTtyState) (wire more : Output)
    (tally signals : Tally) (heard wrapped : NTtyState) (output : Output) (counted : Tally)
    → is_accepting modes tty ≡ true
    → port_without_room (on_port tty more signals) ≡ port_without_room (on_port tty wire tally)
    → on_port heard output counted ≡ after_character modes tick c (on_port tty more signals)
    → wrapped ≡ record heard { column = heard.column % 2 ^ 32 }
    → of_fields modes tick wrapped output counted ≡ after_receipt (of_fields modes tick tty wire tally) c
receipt_made modes tick c tty wire more tally signals heard wrapped output counted accepted room took wraps =
    let t = of_fields modes tick tty wire tally in
    let step = λ (p : OnPort). record t { port = with_column_in_32_bits p } in
    ap (λ (s : NTtyState). of_fields modes tick s output counted) wraps
    ∙ (ap (λ (p : OnPort). step (port_without_room p)) took
    ∙ (ap step (after_character-room modes tick c (on_port tty more signals))
    ∙ (ap (λ (p : OnPort). step (after_character modes tick c p)) room
    ∙ sym (then_is (accepts t) (step (after_character modes tick c t.port)) t accepted))))

-- so many characters are offered to a call
pub offered_in : (bytes front : List ℕ) (n : ℕ)
    → n ≡ min PIECE (length bytes)
    → front ≡ take n bytes
    → map good front ≡ offered bytes
offered_in bytes front n is first = ap (map good) (first ∙ (ap (λ (k : ℕ). take k bytes) is ∙ take_min PIECE bytes))

-- how many good characters a call receives, with room that was reserved for them
pub receiving_counted : (modes : Settings) (tick : ℕ) (bytes : List ℕ) (cs : List Flagged) (tty : NTtyState)
    (wire more : Output) (tally signals : Tally) (count : ℕ)
    → cs ≡ offered bytes
    → port_without_room (on_port tty more signals) ≡ port_without_room (on_port tty wire tally)
    → count ≡ accepted_count modes tick cs (on_port tty more signals)
    → count ≡ received_count (of_fields modes tick tty wire tally) bytes
receiving_counted modes tick bytes cs tty wire more tally signals count same room is =
    is
    ∙ (accepted_count-room modes tick cs (on_port tty more signals)
    ∙ (λ i. accepted_count modes tick (same i) (room i)))

-- good characters that were received in one call, with room that was reserved for them, are received without room
pub receiving_made : (modes : Settings) (tick : ℕ) (bytes : List ℕ) (cs : List Flagged) (tty : NTtyState)
    (wire more : Output) (tally signals : Tally) (heard wrapped : NTtyState) (output : Output) (counted : Tally)
    → cs ≡ offered bytes
    → port_without_room (on_port tty more signals) ≡ port_without_room (on_port tty wire tally)
    → on_port heard output counted ≡ after_accepted modes tick cs (on_port tty more signals)
    → wrapped ≡ record heard { column = heard.column % 2 ^ 32 }
    → of_fields modes tick wrapped output counted ≡ after_receiving (of_fields modes tick tty wire tally) bytes
receiving_made modes tick bytes cs tty wire more tally signals heard wrapped output counted same room took wraps =
    let t = of_fields modes tick tty wire tally in
    let step = λ (p : OnPort). record t { port = with_column_in_32_bits p } in
    ap (λ (s : NTtyState). of_fields modes tick s output counted) wraps
    ∙ (ap (λ (p : OnPort). step (port_without_room p)) took
    ∙ (ap step (after_accepted-room modes tick cs (on_port tty more signals))
    ∙ (λ i. step (after_accepted modes tick (same i) (room i)))))

-- how many bytes a piece of a write takes, with room that was reserved for it
pub piece_counted : (modes : Settings) (tty : NTtyState) (wire more : Output) (bytes : List ℕ) (count : ℕ)
    → more ≡ record wire { spare = more.spare }
    → count ≡ piece_size modes tty more bytes
    → count ≡ piece_size modes tty (without_room wire) bytes
piece_counted modes tty wire more bytes count same is =
    is
    ∙ (sym (piece_size-room modes tty more bytes)
    ∙ ap (λ (o : Output). piece_size modes tty (without_room o) bytes) same)

-- a piece of a write that was posted, with room that was reserved for it, is posted without room
pub writing_made : (modes : Settings) (tick : ℕ) (bytes : List ℕ) (tty : NTtyState) (wire more : Output) (tally : Tally)
    (written wrapped : NTtyState) (output : Output)
    → more ≡ record wire { spare = more.spare }
    → written ≡ after_write modes more bytes tty
    → output ≡ after_send more (piece_text modes tty more bytes)
    → wrapped ≡ record written { column = written.column % 2 ^ 32 }
    → of_fields modes tick wrapped output tally ≡ after_writing (of_fields modes tick tty wire tally) bytes
writing_made modes tick bytes tty wire more tally written wrapped output same wrote sent wraps =
    let t = of_fields modes tick tty wire tally in
    let step = λ (s : NTtyState) (o : Output).
    record t { port = with_column_in_32_bits (record t.port { tty = s; output = o }) } in
    let bare = ap without_room same in
    let state =
    wrote ∙ (sym (after_write-room modes more bytes tty) ∙ ap (λ (o : Output). after_write modes o bytes tty) bare) in
    let text = sym (piece_text-room modes tty more bytes) ∙ ap (λ (o : Output). piece_text modes tty o bytes) bare in
    let posted =
    ap without_room sent
    ∙ (after_send-room (piece_text modes tty more bytes) more ∙ (λ i. after_send (bare i) (text i))) in
    ap (λ (s : NTtyState). of_fields modes tick s output tally) wraps ∙ (λ i. step (state i) (posted i))

few_of_either : (test : Bool) (n : ℕ) (xs ys : List ℕ)
    → length xs ≤ n
    → length ys ≤ n
    → length (if test then xs else ys) ≤ n
few_of_either true n xs ys few others = few
few_of_either false n xs ys few others = others

few_taken : (n : ℕ) (xs : List ℕ) → length (take (read_size n) xs) ≤ n
few_taken n xs = omega (arith, length-take (read_size n) xs)

-- a read gives no more than it asks for
pub length-bytes_read : (modes : Settings) (n : ℕ) (tty : NTtyState) → length (bytes_read modes n tty) ≤ n
length-bytes_read modes n tty =
    few_of_either (has_flag modes ICANON) n (take (read_size n) (first_piece tty.items))
    (take (read_size n) (bytes_of tty.items))
    (few_taken n (first_piece tty.items)) (few_taken n (bytes_of tty.items))

-- how many bytes a read gives
pub read_counted : (modes : Settings) (tick : ℕ) (nonblock : Bool) (since n asked count : ℕ) (tty : NTtyState)
    (wire : Output) (tally : Tally)
    → is_ready_for (of_fields modes tick tty wire tally) nonblock since n ≡ true
    → asked ≡ min n MOST_READ
    → count ≡ length (bytes_read modes asked tty)
    → Some count ≡ read_answer (of_fields modes tick tty wire tally) nonblock since n
read_counted modes tick nonblock since n asked count tty wire tally ready asks is =
    let t = of_fields modes tick tty wire tally in
    ap (λ (k : ℕ). Some k) (is ∙ ap (λ (k : ℕ). length (bytes_read modes k tty)) asks)
    ∙ sym (then_is (is_ready_for t nonblock since n) (Some (length (bytes_given t n))) None ready)

-- the place into which it was read
pub read_placed : (modes : Settings) (tick : ℕ) (nonblock : Bool) (since asked : ℕ) (tty : NTtyState)
    (wire : Output) (tally : Tally) (place front now : List ℕ)
    → is_ready_for (of_fields modes tick tty wire tally) nonblock since (length place) ≡ true
    → asked ≡ min (length place) MOST_READ
    → front ≡ bytes_read modes asked tty
    → now ≡ front ++ drop (length front) place
    → now ≡ place_after_read (of_fields modes tick tty wire tally) nonblock since place
read_placed modes tick nonblock since asked tty wire tally place front now ready asks is put =
    let t = of_fields modes tick tty wire tally in
    put
    ∙ (ap (λ (xs : List ℕ). at_front place xs) (is ∙ ap (λ (k : ℕ). bytes_read modes k tty) asks)
    ∙ sym (then_is (is_ready_for t nonblock since (length place)) (at_front place (bytes_given t (length place))) place
    ready))

-- the rule for ixoff, on output for which room was reserved
ruled : (modes : Settings) (tty : NTtyState) (bare more wrote : Output)
    → without_room more ≡ bare
    → wrote ≡ after_ixoff_rule modes (unread_count tty) (has_piece tty) more
    → without_room wrote ≡ after_ixoff_rule modes (unread_count tty) (has_piece tty) bare
ruled modes tty bare more wrote same rule =
    ap without_room rule
    ∙ (after_ixoff_rule-room modes (unread_count tty) (has_piece tty) more
    ∙ ap (λ (o : Output). after_ixoff_rule modes (unread_count tty) (has_piece tty) o) same)

-- a read, with room that was reserved for the rule for ixoff, is one without room
pub reading_made : (modes : Settings) (tick : ℕ) (nonblock : Bool) (since n asked : ℕ) (tty now : NTtyState)
    (wire more wrote : Output) (tally : Tally)
    → is_ready_for (of_fields modes tick tty wire tally) nonblock since n ≡ true
    → asked ≡ min n MOST_READ
    → more ≡ record wire { spare = more.spare }
    → now ≡ after_read modes asked tty
    → wrote ≡ after_ixoff_rule modes (unread_count now) (has_piece now) more
    → of_fields modes tick now wrote tally ≡ after_reading (of_fields modes tick tty wire tally) nonblock since n
reading_made modes tick nonblock since n asked tty now wire more wrote tally ready asks same read rule =
    let t = of_fields modes tick tty wire tally in
    let step = λ (s : NTtyState). record t { port = with_rule modes (record t.port { tty = s }) } in
    let sent = ruled modes now (without_room wire) more wrote (ap without_room same) rule in
    (λ i. record t { port = record t.port { tty = now; output = sent i } })
    ∙ (ap step (read ∙ ap (λ (k : ℕ). after_read modes k tty) asks)
    ∙ sym (then_is (is_ready_for t nonblock since n) (step (after_read modes (asked_count n) tty)) t ready))

-- other modes, with room that was reserved for what they send, are set without room
pub setting_made : (modes new : Settings) (tick : ℕ) (word : Word) (applies : Bool) (tty now : NTtyState)
    (wire more started wrote : Output) (tally : Tally)
    → new ≡ after_word modes word
    → applies ≡ (has_flag modes IXON && not (has_flag new IXON))
    → more ≡ record wire { spare = more.spare }
    → now ≡ after_recast modes new tty
    → started ≡ (if applies then after_start more else more)
    → wrote ≡ after_ixoff_rule new (unread_count now) (has_piece now) started
    → of_fields new tick now wrote tally ≡ after_setting (of_fields modes tick tty wire tally) (Some word)
setting_made modes new tick word applies tty now wire more started wrote tally made applied same recast start rule =
    let t = of_fields modes tick tty wire tally in
    let bare = ap without_room same in
    let resumed : without_room started ≡ output_under modes new (without_room wire) =
    ap without_room start
    ∙ (without_room-if applies _ _ _ _ (after_start-room more ∙ ap after_start bare) bare
    ∙ ap (λ (b : Bool). if b then after_start (without_room wire) else without_room wire) applied) in
    let sent = ruled new now (output_under modes new (without_room wire)) started wrote resumed rule in
    let step = λ (m : Settings) (s : NTtyState).
    record t { modes = m; port = with_rule m (record t.port { tty = s; output = output_under modes m t.port.output }) } in
    (λ i. record t { modes = new; port = record t.port { tty = now; output = sent i } })
    ∙ (ap (step new) recast ∙ ap (λ (m : Settings). step m (after_recast modes m tty)) made)
