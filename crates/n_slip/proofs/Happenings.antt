-- What one more happening does to what has been seen.
use Rattle.std.proofs.Common.{◌≡◌, ℕ, cond, List, [], ◌∷◌, ◌++◌, length, drop}
use Rattle.std.proofs.Common.{refl, sym, ap, ◌∙◌, inl, inr, append_assoc}
use Rattle.std.proofs.Math.Seq.{drop-append_seam}
use Rattle.std.proofs.lemmas.List.{append-nil}
use Rattle.std.proofs.lemmas.Bool.{cases_Bool}
use Rattle.tty_base.specs.declared.characters.Flagged.{Flagged}
use Rattle.slip_frames.specs.declared.receiving.Fed.{Fed}
use Rattle.slip_frames.specs.declared.receiving.Fed.TheVariants.{Going, Empty, Packet, Bad}
use Rattle.slip_frames.specs.Slip.{Outcome, outcomes, is_end}
use Rattle.slip_frames.specs.Decoding.{BegunPiece, piece_of, rest_of, outcomes_by_answer}
use Rattle.slip_frames.specs.Decoding.{answer_to_end, answer_to, piece_after_character, packet_in}
use Rattle.slip_frames.proofs.Feeding.{piece_more, outcomes_more}
use Rattle.n_slip.specs.Discipline.{Slip, packets_after_answer, after_character}
use Rattle.n_slip.specs.History.{Happening, character, packet_take, flush, characters_of}
use Rattle.n_slip.specs.History.{with_packets, outcomes_at, packets_after, HasSeen}

characters_of-append : (events more : List Happening)
    → characters_of (events ++ more) ≡ characters_of events ++ characters_of more
characters_of-append [] more = refl
characters_of-append (character c ∷ events) more = ap (λ (cs : List Flagged). c ∷ cs) (characters_of-append events more)
characters_of-append (packet_take ∷ events) more = characters_of-append events more
characters_of-append (flush ∷ events) more = characters_of-append events more

packets_after-append : (list : List Flagged) (waiting : List (List ℕ)) (events more : List Happening)
    → packets_after list waiting (events ++ more)
    ≡ packets_after (list ++ characters_of events) (packets_after list waiting events) more
packets_after-append list waiting [] more =
    ap (λ (cs : List Flagged). packets_after cs waiting more) (sym (append-nil list))
packets_after-append list waiting (character c ∷ events) more =
    let after = with_packets waiting (outcomes_at list c) in
    packets_after-append (list ++ c ∷ []) after events more
    ∙ ap (λ (cs : List Flagged). packets_after cs (packets_after (list ++ c ∷ []) after events) more)
    (append_assoc list (c ∷ []) (characters_of events))
packets_after-append list waiting (packet_take ∷ events) more = packets_after-append list (drop 1 waiting) events more
packets_after-append list waiting (flush ∷ events) more = packets_after-append list [] events more

with_packets-answer : (fed : Fed) (waiting : List (List ℕ)) (packet : List ℕ)
    → with_packets waiting (outcomes_by_answer fed packet) ≡ packets_after_answer fed waiting packet
with_packets-answer Going waiting packet = refl
with_packets-answer Empty waiting packet = refl
with_packets-answer Packet waiting packet = refl
with_packets-answer Bad waiting packet = refl

with_packets-fed : (piece : BegunPiece) (c : Flagged) (waiting : List (List ℕ))
    → with_packets waiting (outcomes_by_answer (answer_to piece c) (cond (is_end c) (packet_in piece) []))
    ≡ packets_after_answer (answer_to piece c) waiting (packet_in piece)
with_packets-fed piece c waiting =
    elim (cases_Bool (is_end c)) [
      | inl e ↦ rw e (with_packets-answer (answer_to_end piece) waiting (packet_in piece))
      | inr e ↦ rw e refl
    ]

-- what a character ended is what the decoder told
pub outcomes_at-answer : (list : List Flagged) (c : Flagged) (piece : BegunPiece) → piece ≡ piece_of (rest_of list)
    → outcomes_at list c ≡ outcomes_by_answer (answer_to piece c) (cond (is_end c) (packet_in piece) [])
outcomes_at-answer list c piece h =
    ap (λ (os : List Outcome). drop (length (outcomes list)) os)
    (outcomes_more list c (record { piece = piece; packet = [] }) h)
    ∙ drop-append_seam (outcomes list) (outcomes_by_answer (answer_to piece c) (cond (is_end c) (packet_in piece) []))

pub HasSeen-character : (slip : Slip) (events : List Happening) (c : Flagged)
    → HasSeen slip events
    → HasSeen (after_character slip c) (events ++ character c ∷ [])
HasSeen-character slip events c h =
    let list = characters_of events in
    let chars : characters_of (events ++ character c ∷ []) ≡ list ++ c ∷ [] =
    characters_of-append events (character c ∷ []) in
    let begun : piece_after_character slip.piece c ≡ piece_of (rest_of (list ++ c ∷ [])) =
    ap (λ (b : BegunPiece). piece_after_character b c) h.piece ∙ piece_more list c in
    let told_is : with_packets (packets_after [] [] events) (outcomes_at list c)
    ≡ packets_after_answer (answer_to slip.piece c) slip.packets (packet_in slip.piece) =
    ap (λ (os : List Outcome). with_packets (packets_after [] [] events) os)
    (outcomes_at-answer list c slip.piece h.piece)
    ∙ ap
    (λ (w : List (List ℕ)).
    with_packets w (outcomes_by_answer (answer_to slip.piece c) (cond (is_end c) (packet_in slip.piece) [])))
    (sym h.packets)
    ∙ with_packets-fed slip.piece c slip.packets
    in
    record {
      piece = begun ∙ ap (λ (cs : List Flagged). piece_of (rest_of cs)) (sym chars);
      packets = sym (packets_after-append [] [] events (character c ∷ []) ∙ told_is);
    }

pub HasSeen-packet_take : (slip : Slip) (events : List Happening)
    → HasSeen slip events
    → HasSeen (record slip { packets = drop 1 slip.packets }) (events ++ packet_take ∷ [])
HasSeen-packet_take slip events h =
    let chars : characters_of (events ++ packet_take ∷ []) ≡ characters_of events =
    characters_of-append events (packet_take ∷ []) ∙ append-nil (characters_of events) in
    record {
      piece = h.piece ∙ ap (λ (cs : List Flagged). piece_of (rest_of cs)) (sym chars);
      packets =
          ap (λ (w : List (List ℕ)). drop 1 w) h.packets ∙ sym (packets_after-append [] [] events (packet_take ∷ []));
    }

pub HasSeen-flush : (slip : Slip) (events : List Happening)
    → HasSeen slip events
    → HasSeen (record slip { packets = [] }) (events ++ flush ∷ [])
HasSeen-flush slip events h =
    let chars : characters_of (events ++ flush ∷ []) ≡ characters_of events =
    characters_of-append events (flush ∷ []) ∙ append-nil (characters_of events) in
    record {
      piece = h.piece ∙ ap (λ (cs : List Flagged). piece_of (rest_of cs)) (sym chars);
      packets = sym (packets_after-append [] [] events (flush ∷ []));
    }
