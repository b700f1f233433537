use Rattle.std.proofs.Common.{◌≡◌, ℕ, ◌+◌, ◌*◌, ◌/◌, ◌%◌, ap, ◌∙◌, arith}
use Rattle.flip_buffer.specs.Packed.{flag_of_number}
use Rattle.flip_buffer.proofs.packed.mark_of.Goals as goal

pub returns : goal.returns
returns c = record {
  few = omega (arith, c.flag_number.ensures.fits);
  seen = λ byte small.
      let number : ℕ = c.flag_number.result in
      let low : (byte + 256 * number) % 256 ≡ byte = omega (arith, small) in
      let high : (byte + 256 * number) / 256 ≡ number = omega (arith, small) in
      λ i. record { byte = low i; flag = (ap flag_of_number high ∙ c.flag_number.ensures.flag) i };
}
