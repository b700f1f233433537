use Rattle.std.proofs.Common.{◌∙◌, sym}
use Rattle.std.specs.List.{flat_map}
use Rattle.slip_frames.specs.Slip.{spelling_of_byte}
use Rattle.slip_frames.proofs.Spelling.{text_from_Spells}
use Rattle.slip_frames.proofs.Pieces.{sent_pieces, sent_outcomes, spelling_text}
use Rattle.slip_frames.proofs.laws.a_sent_packet_comes_back.Goals as goal

pub returns-clause-pieces : goal.returns-clause-pieces
returns-clause-pieces c packet =
    let piece = flat_map spelling_of_byte packet in (
      piece,
      sent_pieces packet,
      spelling_text packet,
      λ bytes s. text_from_Spells piece bytes s ∙ sym (text_from_Spells piece packet (spelling_text packet)),
    )

pub returns-clause-outcomes : goal.returns-clause-outcomes
returns-clause-outcomes c = sent_outcomes
