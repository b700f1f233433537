-- How a decoder keeps what it knows.
use Rattle.std.specs.Prelude.{◌≤◌, List, ℕ, [], true, false, vec_len, vec_capacity}
use Rattle.slip_frames.specs.Slip.{max_packet}
use Rattle.slip_frames.specs.declared.receiving.Parse.{Parse}
use Rattle.slip_frames.specs.declared.receiving.Parse.TheVariants.{Plain, Escaped, Spoilt, Ended}
use Rattle.slip_frames.specs.declared.receiving.Decoder.TheInside.{Inside}
use Rattle.slip_frames.specs.Decoding.{bad_piece, spelling, Decoding}

abbrev pub decoding_by : Parse → List ℕ → Decoding
decoding_by Plain bytes = record { piece = spelling bytes false; packet = [] }
decoding_by Escaped bytes = record { piece = spelling bytes true; packet = [] }
decoding_by Spoilt bytes = record { piece = bad_piece; packet = [] }
decoding_by Ended bytes = record { piece = spelling [] false; packet = bytes }

abbrev pub decoding_of : Inside → Decoding
decoding_of d = decoding_by d.piece d.bytes.items

pub record IsReserved (d : Inside) : Type 0 where
  pub within : vec_len d.bytes ≤ max_packet
  pub room : max_packet ≤ vec_capacity d.bytes
