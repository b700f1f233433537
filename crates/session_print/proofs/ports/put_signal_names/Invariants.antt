use Rattle.std.proofs.Common.{◌≡◌, ◌++◌, codes, drop, flat_map, string_bytes}
use Rattle.session_print.specs.Words.{signal_name}
use Rattle.session_print.proofs.ports.put_signal_names.Given as goal

abbrev pub invariant-loop-signal : goal.invariant-loop-signal
invariant-loop-signal l =
    string_bytes l.text ++ flat_map (λ signal. codes " " ++ signal_name signal) (drop l.signal-index l.signals)
    ≡ string_bytes l.initial.text ++ flat_map (λ signal. codes " " ++ signal_name signal) l.signals
