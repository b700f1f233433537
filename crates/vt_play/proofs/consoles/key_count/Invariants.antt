use Rattle.std.proofs.Common.{◌≡◌, ◌+◌, drop, length, map}
use Rattle.vt_text.specs.Sessions.{vt_phase_of}
use Rattle.vt_account.specs.Keyed.{all_keys}
use Rattle.vt_play.proofs.consoles.key_count.Given as goal

abbrev pub invariant-loop-k : goal.invariant-loop-k
invariant-loop-k l = record {
  left : l.count + length (all_keys (map vt_phase_of (drop l.k l.phases)))
      ≡ length (all_keys (map vt_phase_of l.phases));
}
