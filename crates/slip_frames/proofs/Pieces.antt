-- How a list is cut, when one character more comes, and when it is a packet that was sent.
use Rattle.std.proofs.Common.{◌≡◌, ℕ, true, false, cond, List, [], ◌∷◌, ◌++◌, refl, sym, ap}
use Rattle.std.proofs.Common.{◌∙◌, subst, inl, inr, ◌<◌, ◌≤◌, ltb, length, append_assoc, arith}
use Rattle.std.specs.Prelude.{map}
use Rattle.slip_frames.proofs.Spelling.{text_from_Spells}
use Rattle.std.specs.List.{flat_map, list_any}
use Rattle.std.proofs.lemmas.List.{map-append}
use Rattle.std.proofs.lemmas.Bool.{cases_eq, ne_eqb, le-ltb}
use Rattle.tty_base.specs.declared.characters.Flag.TheVariants.{Normal}
use Rattle.tty_base.specs.declared.characters.Flagged.{Flagged}
use Rattle.slip_frames.specs.Slip.{end, esc, max_packet}
use Rattle.tty_base.specs.Characters.{good_characters}
use Rattle.slip_frames.specs.Slip.{Spells, nothing, escaped_end, escaped_escape, itself, is_end}
use Rattle.slip_frames.specs.Slip.{with_first_character, pieces, spelling_of_byte, spelling_of, bytes_of}
use Rattle.slip_frames.specs.Slip.{is_flagged, text_of, Outcome, silent, packet_of, outcome_of, outcomes}
use Rattle.slip_frames.specs.Decoding.{rest_with, rest_of}

with_first_character-push : (d : Flagged) (ps : List (List Flagged)) (rest : List Flagged)
    → with_first_character d (ps ++ rest ∷ []) ≡ with_first_character d ps ++ rest_with d ps rest ∷ []
with_first_character-push d [] rest = refl
with_first_character-push d (p ∷ ps) rest = refl

-- what one character more does to the pieces
pub pieces_ended : (list : List Flagged) (c : Flagged)
    → is_end c ≡ true
    → pieces (list ++ c ∷ []) ≡ pieces list ++ rest_of list ∷ []
pieces_ended [] c e = rw e refl
pieces_ended (d ∷ list) c e =
    elim (is_end d)
    as (λ t.
    cond t ([] ∷ pieces (list ++ c ∷ [])) (with_first_character d (pieces (list ++ c ∷ [])))
    ≡ cond t ([] ∷ pieces list) (with_first_character d (pieces list))
    ++ cond t (rest_of list) (rest_with d (pieces list) (rest_of list)) ∷ []) [
      | true ↦ ap (λ (ps : List (List Flagged)). [] ∷ ps) (pieces_ended list c e)
      | false ↦
          ap (λ (ps : List (List Flagged)). with_first_character d ps) (pieces_ended list c e)
          ∙ with_first_character-push d (pieces list) (rest_of list)
    ]

pub pieces_going : (list : List Flagged) (c : Flagged) → is_end c ≡ false → pieces (list ++ c ∷ []) ≡ pieces list
pieces_going [] c e = rw e refl
pieces_going (d ∷ list) c e =
    elim (is_end d)
    as (λ t.
    cond t ([] ∷ pieces (list ++ c ∷ [])) (with_first_character d (pieces (list ++ c ∷ [])))
    ≡ cond t ([] ∷ pieces list) (with_first_character d (pieces list))) [
      | true ↦ ap (λ (ps : List (List Flagged)). [] ∷ ps) (pieces_going list c e)
      | false ↦ ap (λ (ps : List (List Flagged)). with_first_character d ps) (pieces_going list c e)
    ]

rest_with_ended : (d : Flagged) (ps : List (List Flagged)) (rest x : List Flagged) → rest_with d (ps ++ rest ∷ []) x ≡ x
rest_with_ended d [] rest x = refl
rest_with_ended d (p ∷ ps) rest x = refl

rest_with-push : (d c : Flagged) (ps : List (List Flagged)) (rest : List Flagged)
    → rest_with d ps (rest ++ c ∷ []) ≡ rest_with d ps rest ++ c ∷ []
rest_with-push d c [] rest = refl
rest_with-push d c (p ∷ ps) rest = refl

pub rest_ended : (list : List Flagged) (c : Flagged) → is_end c ≡ true → rest_of (list ++ c ∷ []) ≡ []
rest_ended [] c e = rw e refl
rest_ended (d ∷ list) c e =
    elim (is_end d)
    as (λ t.
    cond t (rest_of (list ++ c ∷ [])) (rest_with d (pieces (list ++ c ∷ [])) (rest_of (list ++ c ∷ []))) ≡ []) [
      | true ↦ rest_ended list c e
      | false ↦
          ap (λ (ps : List (List Flagged)). rest_with d ps (rest_of (list ++ c ∷ []))) (pieces_ended list c e)
          ∙ rest_with_ended d (pieces list) (rest_of list) (rest_of (list ++ c ∷ []))
          ∙ rest_ended list c e
    ]

pub rest_going : (list : List Flagged) (c : Flagged)
    → is_end c ≡ false
    → rest_of (list ++ c ∷ []) ≡ rest_of list ++ c ∷ []
rest_going [] c e = rw e refl
rest_going (d ∷ list) c e =
    elim (is_end d)
    as (λ t.
    cond t (rest_of (list ++ c ∷ [])) (rest_with d (pieces (list ++ c ∷ [])) (rest_of (list ++ c ∷ [])))
    ≡ cond t (rest_of list) (rest_with d (pieces list) (rest_of list)) ++ c ∷ []) [
      | true ↦ rest_going list c e
      | false ↦
          ap (λ (ps : List (List Flagged)). rest_with d ps (rest_of (list ++ c ∷ []))) (pieces_going list c e)
          ∙ ap (λ (r : List Flagged). rest_with d (pieces list) r) (rest_going list c e)
          ∙ rest_with-push d c (pieces list) (rest_of list)
    ]

-- ---- a packet that was sent

-- the piece in which a packet is sent, and that it spells the packet
stuffed_spells : (b : ℕ) (piece bytes : List ℕ) → Spells piece bytes → Spells (spelling_of_byte b ++ piece) (b ∷ bytes)
stuffed_spells b piece bytes s =
    elim (cases_eq b end) [
      | inl e ↦ subst (λ (c : ℕ). Spells (spelling_of_byte c ++ piece) (c ∷ bytes)) (sym e) (escaped_end piece bytes s)
      | inr n ↦ elim (cases_eq b esc) [
        | inl e ↦
            subst (λ (c : ℕ). Spells (spelling_of_byte c ++ piece) (c ∷ bytes)) (sym e) (escaped_escape piece bytes s)
        | inr m ↦ rw (ne_eqb b end n, ne_eqb b esc m) (itself b piece bytes m s)
      ]
    ]

pub spelling_text : (packet : List ℕ) → Spells (flat_map spelling_of_byte packet) packet
spelling_text [] = nothing
spelling_text (b ∷ packet) = stuffed_spells b (flat_map spelling_of_byte packet) packet (spelling_text packet)

-- a byte that is no END goes onto the first piece
plain_first : (b : ℕ) (list : List Flagged) (p : List Flagged)
    → (b ≡ end → ⊥)
    → pieces list ≡ p ∷ []
    → pieces (record { byte = b; flag = Normal } ∷ list) ≡ (record { byte = b; flag = Normal } ∷ p) ∷ []
plain_first b list p n e = rw (ne_eqb b end n, e) refl

stuffed_first : (b : ℕ) (rest : List ℕ) (p : List Flagged)
    → pieces (good_characters rest) ≡ p ∷ []
    → pieces (good_characters (spelling_of_byte b ++ rest)) ≡ (good_characters (spelling_of_byte b) ++ p) ∷ []
stuffed_first b rest p h =
    elim (cases_eq b end) [
      | inl e ↦ subst (λ (c : ℕ).
          pieces (good_characters (spelling_of_byte c ++ rest)) ≡ (good_characters (spelling_of_byte c) ++ p) ∷ [])
          (sym e) (rw h refl)
      | inr n ↦ elim (cases_eq b esc) [
        | inl e ↦ subst (λ (c : ℕ).
            pieces (good_characters (spelling_of_byte c ++ rest)) ≡ (good_characters (spelling_of_byte c) ++ p) ∷ [])
            (sym e) (rw h refl)
        | inr m ↦ rw (ne_eqb b end n, ne_eqb b esc m) (plain_first b (good_characters rest) p n h)
      ]
    ]

stuffed_pieces : (packet : List ℕ)
    → pieces (good_characters (flat_map spelling_of_byte packet ++ end ∷ []))
    ≡ good_characters (flat_map spelling_of_byte packet) ∷ []
stuffed_pieces [] = refl
stuffed_pieces (b ∷ packet) =
    ap (λ (x : List ℕ). pieces (good_characters x))
    (append_assoc (spelling_of_byte b) (flat_map spelling_of_byte packet) (end ∷ []))
    ∙ stuffed_first b (flat_map spelling_of_byte packet ++ end ∷ [])
    (good_characters (flat_map spelling_of_byte packet)) (stuffed_pieces packet)
    ∙ ap (λ (p : List Flagged). p ∷ []) (sym (map-append _ (spelling_of_byte b) (flat_map spelling_of_byte packet)))

pub sent_pieces : (packet : List ℕ)
    → pieces (good_characters (spelling_of packet)) ≡ [] ∷ good_characters (flat_map spelling_of_byte packet) ∷ []
sent_pieces packet = ap (λ (ps : List (List Flagged)). [] ∷ ps) (stuffed_pieces packet)

bytes_of-good_characters : (bytes : List ℕ) → bytes_of (good_characters bytes) ≡ bytes
bytes_of-good_characters [] = refl
bytes_of-good_characters (b ∷ bytes) = ap (λ (x : List ℕ). b ∷ x) (bytes_of-good_characters bytes)

none_flagged : (bytes : List ℕ) → list_any is_flagged (good_characters bytes) ≡ false
none_flagged [] = refl
none_flagged (b ∷ bytes) = none_flagged bytes

outcome_good : (piece packet : List ℕ)
    → packet ≡ text_of piece
    → 0 < length packet
    → length packet ≤ max_packet
    → outcome_of (good_characters piece) ≡ packet_of packet
outcome_good piece [] e some few = absurd (omega arith)
outcome_good piece (b ∷ packet) e some few =
    let fits : ltb max_packet (length (b ∷ packet)) ≡ false = le-ltb _ _ few in
    rw (none_flagged piece, bytes_of-good_characters piece, ← e, fits) refl

pub sent_outcomes : (packet : List ℕ)
    → 0 < length packet
    → length packet ≤ max_packet
    → outcomes (good_characters (spelling_of packet)) ≡ silent ∷ packet_of packet ∷ []
sent_outcomes packet some few =
    ap (λ (ps : List (List Flagged)). map outcome_of ps) (sent_pieces packet)
    ∙ ap (λ (o : Outcome). silent ∷ o ∷ [])
    (outcome_good (flat_map spelling_of_byte packet) packet (text_from_Spells _ _ (spelling_text packet)) some few)
