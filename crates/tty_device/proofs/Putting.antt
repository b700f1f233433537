-- Characters that are put one run after another.
use Rattle.std.proofs.Common.{◌≡◌, ◌≤◌, ◌+◌, ◌++◌, ◌∙◌, ℕ, List, take, drop, sym, ap, arith, append_assoc}
use Rattle.std.proofs.Math.Seq.{take-add}
use mathlib.Core.List.{map-append}
use Rattle.tty_base.specs.declared.characters.Flag.{Flag}
use Rattle.tty_base.specs.declared.characters.Flagged.{Flagged}
use Rattle.word_ring.specs.Ends.{PutterState}
use Rattle.flip_buffer.specs.Packed.{with_flag}
use Rattle.tty_device.specs.Lines.{Puts}

runs_are_one : (flag : Flag) (bytes : List ℕ) (done count : ℕ)
    → with_flag flag (take (done + count) bytes)
    ≡ with_flag flag (take done bytes) ++ with_flag flag (take count (drop done bytes))
runs_are_one flag bytes done count =
    ap (with_flag flag) (take-add done count bytes)
    ∙ map-append (λ (byte : ℕ). record { byte = byte; flag = flag }) (take done bytes) (take count (drop done bytes))

pub more_put : (a b c : PutterState Flagged) (flag : Flag) (bytes : List ℕ) (done count : ℕ)
    → Puts a b (with_flag flag (take done bytes))
    → Puts b c (with_flag flag (take count (drop done bytes)))
    → Puts a c (with_flag flag (take (done + count) bytes))
more_put a b c flag bytes done count first then =
    let low : a.floor ≤ b.floor = first.known in
    let high : b.floor ≤ c.floor = then.known in
    record {
      ring = then.ring ∙ first.ring;
      capacity = then.capacity ∙ first.capacity;
      pushed = then.pushed ∙ first.pushed;
      sent = then.sent ∙ (ap (λ (xs : List Flagged). xs ++ with_flag flag (take count (drop done bytes))) first.sent
          ∙ (append_assoc a.sent (with_flag flag (take done bytes)) (with_flag flag (take count (drop done bytes)))
          ∙ ap (λ (xs : List Flagged). a.sent ++ xs) (sym (runs_are_one flag bytes done count))));
      known = omega (arith, low, high);
    }
