-- The words of a report: verbs, errors, signals, counts and answers.
use Rattle.std.specs.Prelude.{ℕ, List, [], ◌∷◌, ◌++◌, codes, decimal, length}
use Rattle.hex.specs.Hex.{encode_lower}
use Rattle.tty_base.specs.declared.counters.Counts.{Counts}
use Rattle.tty_base.specs.declared.counters.Signal.{Signal}
use Rattle.tty_base.specs.declared.counters.Signal.TheVariants.{Int, Quit, Susp}
use Rattle.tty_base.specs.declared.counters.Errno.{Errno}
use Rattle.tty_base.specs.declared.counters.Errno.TheVariants.{EBADF, EEXIST, EBUSY, EAGAIN}
use Rattle.tty_base.specs.declared.counters.Errno.TheVariants.{EIO, EINVAL, ENOTTY, EMSGSIZE}
use Rattle.tty_modes.specs.Word.{modes_text}
use Rattle.tty_calls.specs.Plain.{PlainCall, opens, closes, reads, writes, gets_modes, sets_modes, gets_disc}
use Rattle.tty_calls.specs.Plain.{sets_disc, flushes, steers, counts_input, counts_output, excludes, admits}
use Rattle.tty_calls.specs.Plain.{drains, gets_counts, hangs_up, sends_packet, takes_packet, PlainAnswer}
use Rattle.tty_calls.specs.Plain.{done, count_is, got, number_is, modes_are, counts_are, refused, idle}

abbrev pub verb_of : PlainCall → List ℕ
verb_of (opens h access nonblock) = codes "open"
verb_of (closes h) = codes "close"
verb_of (reads h n) = codes "read"
verb_of (writes h bytes) = codes "write"
verb_of (gets_modes h) = codes "getm"
verb_of (sets_modes h when words) = codes "modes"
verb_of (gets_disc h) = codes "getd"
verb_of (sets_disc h number) = codes "setd"
verb_of (flushes h queue) = codes "flush"
verb_of (steers h act) = codes "xonc"
verb_of (counts_input h) = codes "inq"
verb_of (counts_output h) = codes "outq"
verb_of (excludes h) = codes "excl"
verb_of (admits h) = codes "nxcl"
verb_of (drains h) = codes "drain"
verb_of (gets_counts h) = codes "counts"
verb_of (hangs_up h) = codes "vhangup"
verb_of (sends_packet h bytes) = codes "send"
verb_of (takes_packet h) = codes "take"

abbrev pub errno_name : Errno → List ℕ
errno_name EBADF = codes "EBADF"
errno_name EEXIST = codes "EEXIST"
errno_name EBUSY = codes "EBUSY"
errno_name EAGAIN = codes "EAGAIN"
errno_name EIO = codes "EIO"
errno_name EINVAL = codes "EINVAL"
errno_name ENOTTY = codes "ENOTTY"
errno_name EMSGSIZE = codes "EMSGSIZE"

abbrev pub signal_name : Signal → List ℕ
signal_name Int = codes "INT"
signal_name Quit = codes "QUIT"
signal_name Susp = codes "SUSP"

-- the ten counts by their names
abbrev pub counts_text : Counts → List ℕ
counts_text n =
    codes "mark=" ++ (decimal n.mark ++ (codes " parity=" ++ (decimal n.parity ++ (codes " frame=" ++ (decimal n.frame
    ++ (codes " break=" ++ (decimal n.breaks ++ (codes " cut=" ++ (decimal n.cut ++ (codes " echo=" ++ (decimal n.echo
    ++ (codes " pin=" ++ (decimal n.pin ++ (codes " pout=" ++ (decimal n.pout ++ (codes " pbad=" ++ (decimal n.pbad
    ++ (codes " pfull=" ++ decimal n.pfull))))))))))))))))))

-- bytes in hexadecimal, after their number
abbrev pub got_text : List ℕ → List ℕ
got_text [] = codes "0"
got_text (byte ∷ bytes) = decimal (length (byte ∷ bytes)) ++ (codes " " ++ encode_lower (byte ∷ bytes))

abbrev pub answer_text : PlainAnswer → List ℕ
answer_text done = codes "ok"
answer_text (count_is taken) = decimal taken
answer_text (got bytes) = got_text bytes
answer_text (number_is n) = decimal n
answer_text (modes_are modes) = modes_text modes
answer_text (counts_are counts) = counts_text counts
answer_text (refused errno) = errno_name errno
answer_text idle = codes "idle"
