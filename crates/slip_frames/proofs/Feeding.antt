-- What one character more does to what a decoder knows.
use Rattle.std.proofs.Common.{◌≡◌, ℕ, eqb, ltb, Bool, true, false, cond, not, ◌||◌, List}
use Rattle.std.proofs.Common.{[], ◌∷◌, ◌++◌, length, refl, sym, ap, ◌∙◌, inl, inr, arith}
use Rattle.std.specs.Prelude.{map}
use Rattle.std.specs.List.{list_any}
use Rattle.std.proofs.lemmas.List.{map-append, length-append}
use Rattle.std.proofs.lemmas.List.Folds.{list_any-append}
use Rattle.std.proofs.lemmas.Bool.{cases_Bool, cases_lt, ltb-true, lt-ltb, le-ltb}
use Rattle.tty_base.specs.declared.characters.Flagged.{Flagged}
use Rattle.slip_frames.specs.Slip.{esc, max_packet}
use Rattle.slip_frames.specs.Slip.{byte_after_escape, text_of, is_normal, is_flagged, bytes_of, is_end}
use Rattle.slip_frames.specs.Slip.{is_bad, pieces, Outcome, bad, outcome_of, outcome_by_text, outcomes}
use Rattle.slip_frames.specs.Decoding.{rest_of, BegunPiece, bad_piece, spelling, ends_in_escape, piece_of, WasFed}
use Rattle.slip_frames.specs.Decoding.{Decoding, outcomes_by_answer, answer_to_end, answer_to, with_text_byte}
use Rattle.slip_frames.specs.Decoding.{with_byte, piece_after_character, packet_in, decoding_after_character}
use Rattle.slip_frames.proofs.Spelling.{text_after, text_of-push, ends_in_escape-push}
use Rattle.slip_frames.proofs.Pieces.{pieces_ended, pieces_going, rest_ended, rest_going}

-- what is known of a piece, by whether it has a flagged character, its text and whether it ends in an ESC
abbrev known : Bool → List ℕ → Bool → BegunPiece
known f text escaped = cond (f || ltb max_packet (length text)) bad_piece (spelling text escaped)

-- a text that is no longer than a packet, with one byte more
grown : (text : List ℕ) (x : ℕ)
    → ltb max_packet (length text) ≡ false
    → cond (ltb max_packet (length (text ++ x ∷ []))) bad_piece
    (spelling (text ++ x ∷ []) false) ≡ with_text_byte text x
grown text x h =
    elim (cases_lt (length text) max_packet) [
      | inl lt ↦
          let fits : ltb max_packet (length (text ++ x ∷ [])) ≡ false =
          le-ltb _ _ (omega (arith, length-append text (x ∷ []))) in
          let more : ltb (length text) max_packet ≡ true = lt-ltb _ _ lt in
          rw (fits, more) refl
      | inr le ↦
          let long : ltb max_packet (length (text ++ x ∷ [])) ≡ true =
          lt-ltb _ _ (omega (arith, length-append text (x ∷ []))) in
          let full : ltb (length text) max_packet ≡ false = le-ltb _ _ le in
          rw (long, full) refl
    ]

-- a text that is too long stays so
longer : (text : List ℕ) (escaped u : Bool) (b : ℕ)
    → ltb max_packet (length text) ≡ true
    → ltb max_packet (length (text_after text escaped u b)) ≡ true
longer text true u b h =
    let lt = ltb-true _ _ h in lt-ltb _ _ (omega (arith, length-append text (byte_after_escape b ∷ [])))
longer text false true b h = h
longer text false false b h = let lt = ltb-true _ _ h in lt-ltb _ _ (omega (arith, length-append text (b ∷ [])))

byte_more : (text : List ℕ) (escaped : Bool) (b : ℕ)
    → ltb max_packet (length text) ≡ false
    → known false (text_after text escaped (eqb b esc) b) (cond escaped false (eqb b esc))
    ≡ with_byte (spelling text escaped) b
byte_more text true b h = grown text (byte_after_escape b) h
byte_more text false b h =
    elim (cases_Bool (eqb b esc)) [
      | inl e ↦ rw (e, h) refl
      | inr e ↦ rw e (grown text b h)
    ]

known_more : (f n : Bool) (text : List ℕ) (escaped : Bool) (b : ℕ)
    → known (f || (not n || false)) (text_after text escaped (eqb b esc) b) (cond escaped false (eqb b esc))
    ≡ cond n (with_byte (known f text escaped) b) bad_piece
known_more true true text escaped b = refl
known_more true false text escaped b = refl
known_more false false text escaped b = refl
known_more false true text escaped b =
    elim (cases_Bool (ltb max_packet (length text))) [
      | inl h ↦ rw (longer text escaped (eqb b esc) b h, h) refl
      | inr h ↦
          byte_more text escaped b h ∙ sym (ap (λ (t : Bool). with_byte (cond t bad_piece (spelling text escaped)) b) h)
    ]

bytes_of-push : (piece : List Flagged) (c : Flagged) → bytes_of (piece ++ c ∷ []) ≡ bytes_of piece ++ c.byte ∷ []
bytes_of-push piece c = map-append (λ c. c.byte) piece (c ∷ [])

-- what is known of a piece with one character more
piece_of-push : (piece : List Flagged) (c : Flagged)
    → piece_of (piece ++ c ∷ []) ≡ cond (is_normal c.flag) (with_byte (piece_of piece) c.byte) bad_piece
piece_of-push piece c =
    let flagged : list_any is_flagged (piece ++ c ∷ [])
    ≡ (list_any is_flagged piece || (not (is_normal c.flag) || false)) = list_any-append is_flagged piece (c ∷ []) in
    let text : text_of (bytes_of (piece ++ c ∷ []))
    ≡ text_after (text_of (bytes_of piece)) (ends_in_escape (bytes_of piece)) (eqb c.byte esc) c.byte =
    ap text_of (bytes_of-push piece c) ∙ text_of-push (bytes_of piece) c.byte in
    let escaped : ends_in_escape (bytes_of (piece ++ c ∷ []))
    ≡ cond (ends_in_escape (bytes_of piece)) false (eqb c.byte esc) =
    ap ends_in_escape (bytes_of-push piece c) ∙ ends_in_escape-push (bytes_of piece) c.byte in
    rw (flagged, text, escaped) (known_more (list_any is_flagged piece) (is_normal c.flag) (text_of (bytes_of piece))
    (ends_in_escape (bytes_of piece)) c.byte)

-- a decoder that was fed a list is, after one character more, one that was fed that too
pub piece_more : (list : List Flagged) (c : Flagged)
    → piece_after_character (piece_of (rest_of list)) c ≡ piece_of (rest_of (list ++ c ∷ []))
piece_more list c =
    elim (cases_Bool (is_end c)) [
      | inl e ↦ rw e (sym (ap piece_of (rest_ended list c e)))
      | inr e ↦ rw e (sym (ap piece_of (rest_going list c e) ∙ piece_of-push (rest_of list) c))
    ]

-- what an END tells of a piece is what the piece is
outcomes_by_answer-known : (b escaped : Bool) (text : List ℕ)
    → outcomes_by_answer (answer_to_end (cond b bad_piece (spelling text escaped)))
    (packet_in (cond b bad_piece (spelling text escaped)))
    ≡ cond b bad (outcome_by_text text) ∷ []
outcomes_by_answer-known true escaped text = refl
outcomes_by_answer-known false escaped [] = refl
outcomes_by_answer-known false escaped (b ∷ text) = refl

outcomes_ended : (list : List Flagged) (c : Flagged)
    → is_end c ≡ true
    → outcomes (list ++ c ∷ []) ≡ outcomes list ++ outcome_of (rest_of list) ∷ []
outcomes_ended list c e =
    ap (λ (ps : List (List Flagged)). map outcome_of ps) (pieces_ended list c e)
    ∙ map-append outcome_of (pieces list) (rest_of list ∷ [])

append-nil : (xs : List Outcome) → xs ++ [] ≡ xs
append-nil [] = refl
append-nil (x ∷ xs) = ap (λ (ys : List Outcome). x ∷ ys) (append-nil xs)

pub outcomes_more : (list : List Flagged) (c : Flagged) (d : Decoding)
    → WasFed d list
    → outcomes (list ++ c ∷ [])
    ≡ outcomes list ++ outcomes_by_answer (answer_to d.piece c) (decoding_after_character d c).packet
outcomes_more list c d h =
    elim (cases_Bool (is_end c)) [
      | inl e ↦ rw (e, h) (outcomes_ended list c e
          ∙ sym (ap (λ (x : List Outcome). outcomes list ++ x) (outcomes_by_answer-known (is_bad (rest_of list))
          (ends_in_escape (bytes_of (rest_of list))) (text_of (bytes_of (rest_of list))))))
      | inr e ↦ rw e (ap (λ (ps : List (List Flagged)). map outcome_of ps) (pieces_going list c e)
          ∙ sym (append-nil (outcomes list)))
    ]
