-- Of the pieces that were heard the bad ones and the packets are counted, and the silent ones are not.
use Rattle.std.proofs.Common.{◌≡◌, ◌∙◌, ℕ, ◌+◌, ◌≤◌, min, Bool, true, false, cond, ◌==◌, List, [], ◌∷◌}
use Rattle.std.proofs.Common.{◌++◌, length, drop, nat_lt, refl, sym, ap, arith, inl, inr, append_assoc}
use Rattle.std.proofs.lemmas.List.{append-nil}
use Rattle.std.proofs.lemmas.Bool.{and_parts, cases_Bool, true≢false}
use Rattle.tty_base.specs.declared.characters.Flag.{Flag}
use Rattle.tty_base.specs.declared.characters.Flag.TheVariants as flags
use Rattle.tty_base.specs.declared.characters.Flagged.{Flagged}
use Rattle.tty_base.specs.declared.counters.Counts.{Counts}
use Rattle.flow_control.specs.Counting.{with_count}
use Rattle.flow_control.specs.declared.tally.Counter.TheVariants as counter
use Rattle.slip_frames.specs.declared.receiving.Fed.{Fed}
use Rattle.slip_frames.specs.declared.receiving.Fed.TheVariants.{Going, Empty, Packet, Bad}
use Rattle.slip_frames.specs.Slip.{end, is_normal, is_end, Outcome, bad, silent, packet_of, outcomes}
use Rattle.slip_frames.specs.Decoding.{BegunPiece, piece_of, rest_of, outcomes_by_answer}
use Rattle.slip_frames.specs.Decoding.{answer_to_end, answer_to, piece_after_character, packet_in}
use Rattle.slip_frames.proofs.Feeding.{piece_more, outcomes_more}
use Rattle.n_slip.specs.Discipline.{Slip, after_character, counts_with_flag, counts_with_piece, counts_after_character}
use Rattle.n_slip.specs.History.{Happening, character, packet_take, flush, characters_of, outcomes_at, HasSeen}
use Rattle.n_slip.specs.Counted.{bad_count, packet_count, counts_of_all}
use Rattle.n_slip.proofs.Happenings.{outcomes_at-answer}

abbrev most : ℕ
most = 18446744073709551615

-- ---- what an answer tells

abbrev bad_in : Fed → ℕ
bad_in Going = 0
bad_in Empty = 0
bad_in Packet = 0
bad_in Bad = 1

abbrev packets_in : Fed → ℕ
packets_in Going = 0
packets_in Empty = 0
packets_in Packet = 1
packets_in Bad = 0

bad_told : (fed : Fed) (packet : List ℕ) → bad_count (outcomes_by_answer fed packet) ≡ bad_in fed
bad_told Going packet = refl
bad_told Empty packet = refl
bad_told Packet packet = refl
bad_told Bad packet = refl

packets_told : (fed : Fed) (packet : List ℕ) → packet_count (outcomes_by_answer fed packet) ≡ packets_in fed
packets_told Going packet = refl
packets_told Empty packet = refl
packets_told Packet packet = refl
packets_told Bad packet = refl

one_at_most : (fed : Fed) → packets_in fed ≤ 1
one_at_most Going = omega arith
one_at_most Empty = omega arith
one_at_most Packet = omega arith
one_at_most Bad = omega arith

bad_count-append : (xs ys : List Outcome) → bad_count (xs ++ ys) ≡ bad_count xs + bad_count ys
bad_count-append [] ys = omega arith
bad_count-append (bad ∷ xs) ys = omega (arith, bad_count-append xs ys)
bad_count-append (silent ∷ xs) ys = bad_count-append xs ys
bad_count-append (packet_of packet ∷ xs) ys = bad_count-append xs ys

packet_count-append : (xs ys : List Outcome) → packet_count (xs ++ ys) ≡ packet_count xs + packet_count ys
packet_count-append [] ys = omega arith
packet_count-append (bad ∷ xs) ys = packet_count-append xs ys
packet_count-append (silent ∷ xs) ys = packet_count-append xs ys
packet_count-append (packet_of packet ∷ xs) ys = omega (arith, packet_count-append xs ys)

-- ---- what a character counts

flag_bad : (counts : Counts) (f : Flag) → (counts_with_flag counts f).pbad ≡ counts.pbad
flag_bad counts flags.Normal = refl
flag_bad counts flags.Break = refl
flag_bad counts flags.Parity = refl
flag_bad counts flags.Frame = refl
flag_bad counts flags.Overrun = refl

flag_packets : (counts : Counts) (f : Flag)
    → (counts_with_flag counts f).pin + (counts_with_flag counts f).pfull ≡ counts.pin + counts.pfull
flag_packets counts flags.Normal = refl
flag_packets counts flags.Break = refl
flag_packets counts flags.Parity = refl
flag_packets counts flags.Frame = refl
flag_packets counts flags.Overrun = refl

abbrev with_one_packet : Bool → Counts → Counts
with_one_packet waits counts =
    cond waits (with_count counts counter.PacketIn 1) (with_count counts counter.PacketFull 1)

packet_is_not_bad : (waits : Bool) (counts : Counts) → (with_one_packet waits counts).pbad ≡ counts.pbad
packet_is_not_bad true counts = refl
packet_is_not_bad false counts = refl

packet_counts_one : (waits : Bool) (counts : Counts)
    → counts.pin + counts.pfull + 1 ≤ most
    → (with_one_packet waits counts).pin + (with_one_packet waits counts).pfull ≡ counts.pin + counts.pfull + 1
packet_counts_one true counts room = omega (arith, room)
packet_counts_one false counts room = omega (arith, room)

piece_bad : (fed : Fed) (waiting : List (List ℕ)) (counts : Counts)
    → counts.pbad ≤ most
    → (counts_with_piece counts waiting fed).pbad ≡ min (counts.pbad + bad_in fed) most
piece_bad Going waiting counts within = omega (arith, within)
piece_bad Empty waiting counts within = omega (arith, within)
piece_bad Packet waiting counts within = omega (arith, within, packet_is_not_bad (nat_lt (length waiting) 64) counts)
piece_bad Bad waiting counts within = refl

piece_packets : (fed : Fed) (waiting : List (List ℕ)) (counts : Counts)
    → counts.pin + counts.pfull + 1 ≤ most
    → (counts_with_piece counts waiting fed).pin + (counts_with_piece counts waiting fed).pfull
    ≡ counts.pin + counts.pfull + packets_in fed
piece_packets Going waiting counts room = omega arith
piece_packets Empty waiting counts room = omega arith
piece_packets Packet waiting counts room = packet_counts_one (nat_lt (length waiting) 64) counts room
piece_packets Bad waiting counts room = omega arith

step_bad : (slip : Slip) (c : Flagged) (counts : Counts)
    → counts.pbad ≤ most
    → (counts_after_character slip c counts).pbad ≡ min (counts.pbad + bad_in (answer_to slip.piece c)) most
step_bad slip c counts within =
    let flagged = flag_bad counts c.flag in
    let fed : Fed = answer_to slip.piece c in
    piece_bad fed slip.packets (counts_with_flag counts c.flag) (omega (arith, within, flagged))
    ∙ ap (λ (n : ℕ). min (n + bad_in fed) most) flagged

step_packets : (slip : Slip) (c : Flagged) (counts : Counts)
    → counts.pin + counts.pfull + 1 ≤ most
    → (counts_after_character slip c counts).pin + (counts_after_character slip c counts).pfull
    ≡ counts.pin + counts.pfull + packets_in (answer_to slip.piece c)
step_packets slip c counts room =
    let flagged = flag_packets counts c.flag in
    let fed : Fed = answer_to slip.piece c in
    piece_packets fed slip.packets (counts_with_flag counts c.flag) (omega (arith, room, flagged))
    ∙ ap (λ (n : ℕ). n + packets_in fed) flagged

-- ---- over a life

told : (list : List Flagged) (c : Flagged) (slip : Slip)
    → slip.piece ≡ piece_of (rest_of list)
    → outcomes (list ++ c ∷ [])
    ≡ outcomes list ++ outcomes_by_answer (answer_to slip.piece c) (cond (is_end c) (packet_in slip.piece) [])
told list c slip piece = outcomes_more list c (record { piece = slip.piece; packet = [] }) piece

begun : (list : List Flagged) (c : Flagged) (slip : Slip)
    → slip.piece ≡ piece_of (rest_of list)
    → piece_after_character slip.piece c ≡ piece_of (rest_of (list ++ c ∷ []))
begun list c slip piece = ap (λ (b : BegunPiece). piece_after_character b c) piece ∙ piece_more list c

pub bad_counted : (list : List Flagged) (events : List Happening) (slip : Slip) (counts : Counts) (base : ℕ)
    → slip.piece ≡ piece_of (rest_of list)
    → counts.pbad ≡ min (base + bad_count (outcomes list)) most
    → (counts_of_all slip events counts).pbad ≡ min (base + bad_count (outcomes (list ++ characters_of events))) most
bad_counted list [] slip counts base piece is =
    is ∙ ap (λ (cs : List Flagged). min (base + bad_count (outcomes cs)) most) (sym (append-nil list))
bad_counted list (character c ∷ events) slip counts base piece is =
    let fed : Fed = answer_to slip.piece c in
    let packet : List ℕ = cond (is_end c) (packet_in slip.piece) [] in
    let added : bad_count (outcomes (list ++ c ∷ [])) ≡ bad_count (outcomes list) + bad_in fed =
    ap bad_count (told list c slip piece)
    ∙ bad_count-append (outcomes list) (outcomes_by_answer fed packet)
    ∙ ap (λ (n : ℕ). bad_count (outcomes list) + n) (bad_told fed packet) in
    let step = step_bad slip c counts (omega (arith, is)) in
    let now : (counts_after_character slip c counts).pbad ≡ min (base + bad_count (outcomes (list ++ c ∷ []))) most =
    omega (arith, step, is, added) in
    bad_counted (list ++ c ∷ []) events (after_character slip c) (counts_after_character slip c counts) base
    (begun list c slip piece) now
    ∙ ap (λ (cs : List Flagged). min (base + bad_count (outcomes cs)) most)
    (append_assoc list (c ∷ []) (characters_of events))
bad_counted list (packet_take ∷ events) slip counts base piece is =
    bad_counted list events (record slip { packets = drop 1 slip.packets }) counts base piece is
bad_counted list (flush ∷ events) slip counts base piece is =
    bad_counted list events (record slip { packets = [] }) counts base piece is

pub packets_counted : (list : List Flagged) (events : List Happening) (slip : Slip) (counts : Counts) (base : ℕ)
    → slip.piece ≡ piece_of (rest_of list)
    → counts.pin + counts.pfull ≡ base + packet_count (outcomes list)
    → counts.pin + counts.pfull + length (characters_of events) ≤ most
    → (counts_of_all slip events counts).pin + (counts_of_all slip events counts).pfull
    ≡ base + packet_count (outcomes (list ++ characters_of events))
packets_counted list [] slip counts base piece is room =
    is ∙ ap (λ (cs : List Flagged). base + packet_count (outcomes cs)) (sym (append-nil list))
packets_counted list (character c ∷ events) slip counts base piece is room =
    let fed : Fed = answer_to slip.piece c in
    let packet : List ℕ = cond (is_end c) (packet_in slip.piece) [] in
    let added : packet_count (outcomes (list ++ c ∷ [])) ≡ packet_count (outcomes list) + packets_in fed =
    ap packet_count (told list c slip piece)
    ∙ packet_count-append (outcomes list) (outcomes_by_answer fed packet)
    ∙ ap (λ (n : ℕ). packet_count (outcomes list) + n) (packets_told fed packet) in
    let step = step_packets slip c counts (omega (arith, room)) in
    packets_counted (list ++ c ∷ []) events (after_character slip c) (counts_after_character slip c counts) base
    (begun list c slip piece)
    (omega (arith, step, is, added)) (omega (arith, step, room, one_at_most fed))
    ∙ ap (λ (cs : List Flagged). base + packet_count (outcomes cs)) (append_assoc list (c ∷ []) (characters_of events))
packets_counted list (packet_take ∷ events) slip counts base piece is room =
    packets_counted list events (record slip { packets = drop 1 slip.packets }) counts base piece is room
packets_counted list (flush ∷ events) slip counts base piece is room =
    packets_counted list events (record slip { packets = [] }) counts base piece is room

-- ---- a silent piece

normal_counts : (counts : Counts) (f : Flag) → is_normal f ≡ true → counts_with_flag counts f ≡ counts
normal_counts counts flags.Normal is = refl
normal_counts counts flags.Break is = absurd (true≢false (sym is))
normal_counts counts flags.Parity is = absurd (true≢false (sym is))
normal_counts counts flags.Frame is = absurd (true≢false (sym is))
normal_counts counts flags.Overrun is = absurd (true≢false (sym is))

silent_counts : (fed : Fed) (packet : List ℕ) (waiting : List (List ℕ)) (counts : Counts)
    → outcomes_by_answer fed packet ≡ silent ∷ []
    → counts_with_piece counts waiting fed ≡ counts
silent_counts Going packet waiting counts is = refl
silent_counts Empty packet waiting counts is = refl
silent_counts Packet packet waiting counts is = absurd (omega (arith, ap packet_count is))
silent_counts Bad packet waiting counts is = absurd (omega (arith, ap bad_count is))

ended : (piece : BegunPiece) (c : Flagged)
    → outcomes_by_answer (answer_to piece c) (cond (is_end c) (packet_in piece) []) ≡ silent ∷ []
    → is_end c ≡ true
ended piece c is = elim (cases_Bool (is_end c)) [
  | inl is_so ↦ is_so
  | inr other ↦ absurd (omega (
    arith,
    ap length (ap (λ (b : Bool). outcomes_by_answer (cond b (answer_to_end piece) Going) (cond b (packet_in piece) []))
        (sym other)
        ∙ is),
  ))
]

pub silent_counts_nothing : (slip : Slip) (events : List Happening) (c : Flagged) (counts : Counts)
    → HasSeen slip events
    → outcomes_at (characters_of events) c ≡ silent ∷ []
    → counts_after_character slip c counts ≡ counts
silent_counts_nothing slip events c counts h is =
    let answered : outcomes_by_answer (answer_to slip.piece c)
    (cond (is_end c) (packet_in slip.piece) []) ≡ silent ∷ [] =
    sym (outcomes_at-answer (characters_of events) c slip.piece h.piece) ∙ is in
    let good : is_normal c.flag ≡ true =
    (and_parts (is_normal c.flag) (c.byte == end) (ended slip.piece c answered)).0 in
    silent_counts (answer_to slip.piece c) (cond (is_end c) (packet_in slip.piece) []) slip.packets
    (counts_with_flag counts c.flag) answered
    ∙ normal_counts counts c.flag good
