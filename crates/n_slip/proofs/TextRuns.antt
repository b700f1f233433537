-- Characters that stand for themselves within a piece end none, and are not counted.
use Rattle.std.proofs.Common.{◌≡◌, cond, ◌&&◌, ◌==◌, List, [], ◌∷◌, ap, sym, refl, ◌∙◌, ne_eqb}
use Rattle.std.specs.List.{AllByRecursion}
use Rattle.tty_base.specs.declared.characters.Flagged.{Flagged}
use Rattle.tty_base.specs.declared.counters.Counts.{Counts}
use Rattle.slip_frames.specs.declared.receiving.Fed.TheVariants.{Going}
use Rattle.slip_frames.specs.Slip.{end, is_normal}
use Rattle.slip_frames.specs.Decoding.{Decoding, BegunPiece, answer_to, answer_to_end, piece_after_character}
use Rattle.slip_frames.specs.Decoding.{packet_in, decoding_after_character, decoding_after_characters, IsText}
use Rattle.n_slip.specs.Discipline.{Slip, packets_after_answer, after_character, after_characters, counts_with_flag}
use Rattle.n_slip.specs.Discipline.{counts_with_piece, counts_after_character, counts_after_characters}

goes : (piece : BegunPiece) (c : Flagged) → IsText c → answer_to piece c ≡ Going
goes piece c text =
    ap (λ f. cond (is_normal f && (c.byte == end)) (answer_to_end piece) Going) text.good
    ∙ ap (λ b. cond b (answer_to_end piece) Going) (ne_eqb c.byte end text.inside)

stays : (slip : Slip) (c : Flagged)
    → IsText c
    → after_character slip c ≡ record slip { piece = piece_after_character slip.piece c }
stays slip c text =
    ap (λ answer. record {
      piece = piece_after_character slip.piece c;
      packets = packets_after_answer answer slip.packets (packet_in slip.piece);
    })
    (goes slip.piece c text)

pub received_run : (slip : Slip) (d : Decoding) (cs : List Flagged) → d.piece ≡ slip.piece → AllByRecursion IsText cs
    → record slip { piece = (decoding_after_characters d cs).piece } ≡ after_characters slip cs
received_run slip d [] same text = ap (λ (piece : BegunPiece). record slip { piece = piece }) same
received_run slip d (c ∷ cs) same text =
    let next : Slip = record slip { piece = piece_after_character slip.piece c } in
    received_run next (decoding_after_character d c) cs (ap (λ piece. piece_after_character piece c) same) text.1
    ∙ ap (λ s. after_characters s cs) (sym (stays slip c text.0))

uncounted : (slip : Slip) (c : Flagged) (counts : Counts) → IsText c → counts_after_character slip c counts ≡ counts
uncounted slip c counts text =
    ap (λ f. counts_with_piece (counts_with_flag counts f) slip.packets (answer_to slip.piece c)) text.good
    ∙ ap (λ answer. counts_with_piece counts slip.packets answer) (goes slip.piece c text)

pub uncounted_run : (slip : Slip) (cs : List Flagged) (counts : Counts)
    → AllByRecursion IsText cs
    → counts_after_characters slip cs counts ≡ counts
uncounted_run slip [] counts text = refl
uncounted_run slip (c ∷ cs) counts text =
    ap (counts_after_characters (after_character slip c) cs) (uncounted slip c counts text.0)
    ∙ uncounted_run (after_character slip c) cs counts text.1
