-- Characters that stand for themselves, one after the other, are added to the piece at once.
use Rattle.std.proofs.Common.{◌≡◌, ℕ, zero, suc, get_or, ◌+◌, ◌≤◌, ◌<◌, Bool, true, false, cond, ◌&&◌, ◌==◌, List, []}
use Rattle.std.proofs.Common.{◌∷◌, ◌++◌, length, ap, sym, ◌∙◌, arith, append_assoc, ne_eqb, length-append, lt-ltb}
use Rattle.std.proofs.lemmas.Bool.{cond-true, cond-false, true≢false}
use Rattle.std.specs.List.{AllByRecursion}
use Rattle.char_lanes.specs.Runs.{IsInBounds}
use Rattle.tty_base.specs.declared.characters.Flagged.{Flagged}
use Rattle.slip_frames.specs.Slip.{end, esc, is_normal, is_end, bytes_of}
use Rattle.slip_frames.specs.declared.receiving.Parse.{Parse}
use Rattle.slip_frames.specs.declared.receiving.Parse.TheVariants.{Plain, Escaped, Spoilt, Ended}
use Rattle.slip_frames.specs.Inside.{decoding_by}
use Rattle.slip_frames.specs.Decoding.{Decoding, BegunPiece, spelling, bad_piece, packet_in, with_byte}
use Rattle.slip_frames.specs.Decoding.{decoding_after_character, decoding_after_characters, IsText}

text_stays : (c : Flagged) → IsText c → is_end c ≡ false
text_stays c text = ap (λ f. is_normal f && (c.byte == end)) text.good ∙ ne_eqb c.byte end text.inside

one_text : (c : Flagged) (text packet : List ℕ)
    → IsText c
    → length text + 1 ≤ 1006
    → decoding_after_character (record { piece = spelling text false; packet = packet }) c
    ≡ record { piece = spelling (text ++ c.byte ∷ []) false; packet = [] }
one_text c text packet is room =
    let goes : is_end c ≡ false = text_stays c is in
    let piece : BegunPiece = spelling text false in
    let added : with_byte piece c.byte ≡ spelling (text ++ c.byte ∷ []) false =
    cond-false _ _ _ (ne_eqb c.byte esc is.itself)
    ∙ cond-true _ _ _ (lt-ltb (length text) 1006 (omega (arith, room))) in
    ap (λ b. record {
      piece = cond b (spelling [] false) (cond (is_normal c.flag) (with_byte piece c.byte) bad_piece);
      packet = cond b (packet_in piece) [];
    }) goes
    ∙ ap (λ f. record { piece = cond (is_normal f) (with_byte piece c.byte) bad_piece; packet = [] }) is.good
    ∙ ap (λ (p : BegunPiece). record { piece = p; packet = [] }) added

pub text_run : (c : Flagged) (cs : List Flagged) (text packet : List ℕ)
    → AllByRecursion IsText (c ∷ cs)
    → length text + length (c ∷ cs) ≤ 1006
    → decoding_after_characters (record { piece = spelling text false; packet = packet }) (c ∷ cs)
    ≡ record { piece = spelling (text ++ bytes_of (c ∷ cs)) false; packet = [] }
text_run c [] text packet all room = one_text c text packet all.0 (omega (arith, room))
text_run c (d ∷ cs) text packet all room =
    ap (λ (k : Decoding). decoding_after_characters k (d ∷ cs)) (one_text c text packet all.0 (omega (arith, room)))
    ∙ text_run d cs (text ++ c.byte ∷ []) [] all.1 (omega (arith, room, length-append text (c.byte ∷ [])))
    ∙ ap (λ (bytes : List ℕ). record { piece = spelling bytes false; packet = [] })
    (append_assoc text (c.byte ∷ []) (bytes_of (d ∷ cs)))

abbrev ends_escaped : BegunPiece → Bool
ends_escaped bad_piece = true
ends_escaped (spelling text escaped) = escaped

-- where a plain piece stands with no packet, its bytes are kept
kept_text : (piece : Parse) (bytes text : List ℕ)
    → decoding_by piece bytes ≡ record { piece = spelling text false; packet = [] }
    → bytes ≡ text
kept_text Plain bytes text is = ap (λ (d : Decoding). packet_in d.piece) is
kept_text Escaped bytes text is = absurd (true≢false (ap (λ (d : Decoding). ends_escaped d.piece) is))
kept_text Spoilt bytes text is = absurd (true≢false (ap (λ (d : Decoding). ends_escaped d.piece) is))
kept_text Ended bytes text is = ap (λ (d : Decoding). d.packet) is ∙ ap (λ (d : Decoding). packet_in d.piece) is

pub fed_run : (d d' : Decoding) (piece : Parse) (bytes later text packet : List ℕ) (cs : List Flagged)
    → d ≡ record { piece = spelling text false; packet = packet }
    → decoding_by piece bytes ≡ d'
    → d' ≡ record d { packet = [] }
    → later ≡ bytes ++ bytes_of cs
    → AllByRecursion IsText cs
    → 0 < length cs
    → length text + length cs ≤ 1006
    → record { piece = spelling later false; packet = [] } ≡ decoding_after_characters d cs
fed_run d d' piece bytes later text packet [] before view forgotten kept all some room = absurd (omega arith)
fed_run d d' piece bytes later text packet (c ∷ cs) before view forgotten kept all some room =
    let same : bytes ≡ text =
    kept_text piece bytes text (view ∙ forgotten ∙ ap (λ (e : Decoding). record e { packet = [] }) before) in
    ap (λ (b : List ℕ). record { piece = spelling b false; packet = [] }) (kept ∙ ap (λ b. b ++ bytes_of (c ∷ cs)) same)
    ∙ sym (text_run c cs text packet all room)
    ∙ ap (λ (e : Decoding). decoding_after_characters e (c ∷ cs)) (sym before)

-- characters of a run stand for themselves
pub are_text : (cs : List Flagged) → AllByRecursion (IsInBounds 0 255 (end ∷ esc ∷ [])) cs → AllByRecursion IsText cs
are_text [] all = tt
are_text (c ∷ cs) all =
    (record { good = all.0.good; inside = all.0.none.0; itself = all.0.none.1.0 }, are_text cs all.1)

-- a run takes its first character
pub some_taken : (P : Flagged → Type 0) (count : ℕ) (cs : List Flagged) (d : Flagged)
    → 0 < length cs
    → P (get_or cs 0 d)
    → (count < length cs → ¬ P (get_or cs count d))
    → 0 < count
some_taken P zero cs d some first stops = absurd (stops some first)
some_taken P (suc count) cs d some first stops = omega arith
