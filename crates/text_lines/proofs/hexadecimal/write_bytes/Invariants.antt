use Rattle.std.proofs.Common.{ℕ, ◌≡◌, ◌<◌, get_or}
use Rattle.text_lines.specs.Values.{bytes_of}
use Rattle.text_lines.proofs.hexadecimal.write_bytes.Given as goal

abbrev pub invariant-loop-place : goal.invariant-loop-place
invariant-loop-place l = (k : ℕ) → k < l.place → get_or l.bytes k 0 ≡ get_or (bytes_of l.digits) k 0
