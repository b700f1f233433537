-- Worked texts: what is refused, and what is spelled.
use Rattle.std.specs.Prelude.{ℕ, true, false, List, [], ◌∷◌, codes, ◌++◌}
use Rattle.tty_base.specs.declared.characters.Flag.TheVariants.{Normal, Parity, Frame}
use Rattle.tty_base.specs.declared.lines.LineStep.TheVariants.{Break, Idle, Mask, Unmask, Trigger}
use Rattle.tty_modes.specs.declared.words.Word.TheVariants.{On, Off, Cc, Raw, Sane}
use Rattle.tty_calls.specs.declared.calls.Access.TheVariants.{R, W, Rw}
use Rattle.tty_calls.specs.declared.calls.When.TheVariants.{Now, Drain, Flush}
use Rattle.tty_calls.specs.declared.calls.Queue.TheVariants.{Input, Output, Both}
use Rattle.tty_calls.specs.declared.calls.Act.TheVariants.{Ooff, Oon, Ioff, Ion}
use Rattle.line_steps.specs.Steps.{rx_step}
use Rattle.tty_calls.specs.Plain.{PlainCall, opens, closes, reads, writes, gets_modes, sets_modes, gets_disc}
use Rattle.tty_calls.specs.Plain.{sets_disc, flushes, steers, counts_input, counts_output, excludes, admits}
use Rattle.tty_calls.specs.Plain.{drains, gets_counts, hangs_up, sends_packet, takes_packet}
use Rattle.tty_calls.specs.Sessions.{PlainScript, PlainSession}
use Rattle.session_text.specs.declared.faults.Reason.{Reason}
use Rattle.session_text.specs.declared.faults.Reason.TheVariants.{Header, Word, Number, Hex, Order, Limit}
use Rattle.session_text.specs.declared.faults.BadLine.{BadLine}

-- a text, its first wrong line, and why that line is wrong
pub record RefusedRow : Type 0 where
  pub text : List ℕ
  pub line : BadLine

abbrev pub refused_at : ℕ → Reason → List ℕ → RefusedRow
refused_at line reason text = record { text = text; line = record { line = line; reason = reason } }

-- a text that begins well, with two ports; the next line is its third
abbrev pub two_ports_with : List ℕ → List ℕ
two_ports_with more = codes "tty-session 1\nports 2\n" ++ more

abbrev pub refused_rows : List RefusedRow
refused_rows =
    -- no bytes, and comments alone
    refused_at 1 Order (codes "") ∷
    refused_at 3 Order (codes "# nothing\n\n") ∷
    -- the header
    refused_at 1 Header (codes "tty-session 3\n") ∷
    refused_at 1 Header (codes "tty-session 1 x\n") ∷
    refused_at 1 Header (codes "tty-session\n") ∷
    refused_at 1 Header (codes "tty-session 01\n") ∷
    refused_at 2 Header (codes "# a comment\nports 1\n") ∷
    -- the number of ports
    refused_at 2 Limit (codes "tty-session 1\nports 9\n") ∷
    refused_at 2 Limit (codes "tty-session 1\nports 0\n") ∷
    refused_at 2 Number (codes "tty-session 1\nports one\n") ∷
    refused_at 2 Order (codes "tty-session 1\nphase\n") ∷
    refused_at 3 Order (codes "tty-session 1\nports 1\nports 1\n") ∷
    refused_at 2 Number (codes "tty-session 1\nports 01\n") ∷
    refused_at 2 Word (codes "tty-session 1\nports 1 2\n") ∷
    refused_at 2 Word (codes "tty-session 1\nports,1\n") ∷
    -- the place is tested by the first word alone, and before the number of words
    refused_at 4 Order (codes "tty-session 1\nports 1\nphase\nrx 61\n") ∷
    refused_at 4 Order (codes "tty-session 1\nports 1\nphase\nrx\n") ∷
    refused_at 5 Order (codes "tty-session 1\nports 1\nphase\nline 0\nread 0\n") ∷
    refused_at 3 Order (codes "tty-session 1\nports 1\ntty-session 9\n") ∷
    refused_at 3 Word (codes "tty-session 1\nports 1\nend x\n") ∷
    refused_at 5 Word (codes "tty-session 1\nports 1\nphase\nline 0\nrxx 61\n") ∷
    refused_at 5 Order (codes "tty-session 1\nports 1\nphase\nline 0\ntick 1\n") ∷
    refused_at 5 Order (codes "tty-session 1\nports 1\nphase\ncaller a 0\nbreak\n") ∷
    refused_at 3 Word (codes "tty-session 1\nports 1\nphase 1\n") ∷
    -- the end
    refused_at 5 Order (codes "tty-session 1\nports 1\nphase\nend\nphase\n") ∷
    refused_at 5 Order (codes "tty-session 1\nports 1\nphase\nend\nread 0 1\n") ∷
    refused_at 5 Word (codes "tty-session 1\nports 1\nphase\nend\nfoo\n") ∷
    refused_at 5 Order (codes "tty-session 1\nports 1\nphase\ncaller a 0\n") ∷
    refused_at 5 Order (codes "tty-session 1\nports 1\nphase\n# not yet\n") ∷
    refused_at 4 Order (codes "tty-session 1\nports 1\nphase") ∷
    refused_at 2 Order (codes "tty-session 1\nend\n") ∷
    refused_at 4 Word (codes "tty-session 1\nports 1\nend\nflip 0 64\n") ∷
    refused_at 4 Order (codes "tty-session 2\nports 1\nend\nflip 0 64\n") ∷
    -- a line block
    refused_at 4 Limit (codes "tty-session 1\nports 1\nphase\nline 1\n") ∷
    refused_at 5 Order (codes "tty-session 1\nports 1\nphase\nline 0\nline 0\n") ∷
    refused_at 5 Word (codes "tty-session 1\nports 1\nphase\nline 0\nline 0 0\n") ∷
    refused_at 5 Limit (codes "tty-session 1\nports 1\nphase\nline 0\nidle 1001\n") ∷
    refused_at 5 Limit (codes "tty-session 1\nports 1\nphase\nline 0\nidle 0\n") ∷
    refused_at 5 Limit (codes "tty-session 1\nports 1\nphase\nline 0\ntrigger 2\n") ∷
    refused_at 5 Limit (codes "tty-session 1\nports 1\nphase\nline 0\ntrigger 0\n") ∷
    refused_at 5 Number (codes "tty-session 1\nports 1\nphase\nline 0\ntrigger 01\n") ∷
    refused_at 5 Word (codes "tty-session 1\nports 1\nphase\nline 0\nbreak 1\n") ∷
    refused_at 5 Hex (codes "tty-session 1\nports 1\nphase\nline 0\nrx 686") ∷
    refused_at 5 Hex (codes "tty-session 1\nports 1\nphase\nline 0\nrxp 6g\n") ∷
    refused_at 5 Word (codes "tty-session 1\nports 1\nphase\nline 0\nrxf\n") ∷
    -- a clock block
    refused_at 5 Limit (codes "tty-session 1\nports 1\nphase\nclock 0\ntick 0\n") ∷
    refused_at 5 Limit (codes "tty-session 1\nports 1\nphase\nclock 0\ntick 65537\n") ∷
    refused_at 5 Order (codes "tty-session 1\nports 1\nphase\nclock 0\nclock 0\n") ∷
    refused_at 5 Order (codes "tty-session 1\nports 1\nphase\nclock 0\nmask\n") ∷
    -- a caller's block
    refused_at 4 Word (codes "tty-session 1\nports 1\nphase\ncaller A 0\n") ∷
    refused_at 4 Word (codes "tty-session 1\nports 1\nphase\ncaller A 9\n") ∷
    refused_at 4 Number (codes "tty-session 1\nports 1\nphase\ncaller a x\n") ∷
    refused_at 4 Limit (codes "tty-session 1\nports 1\nphase\ncaller a 9\n") ∷
    refused_at 4 Word (codes "tty-session 1\nports 1\nphase\ncaller a\n") ∷
    refused_at 4 Word (codes "tty-session 1\nports 1\nphase\ncaller a2345678901234567 0\n") ∷
    refused_at 4 Word (codes "tty-session 1\nports 1\nphase\ncaller 1a 0\n") ∷
    refused_at 5 Order (codes "tty-session 1\nports 1\nphase\ncaller a 0\ncaller a 0\n") ∷
    -- arguments, one by one
    refused_at 5 Number (codes "tty-session 1\nports 1\nphase\ncaller a 0\nread 0 01\n") ∷
    refused_at 5 Word (codes "tty-session 1\nports 1\nphase\ncaller a 0\nread 0\n") ∷
    refused_at 5 Limit (codes "tty-session 1\nports 1\nphase\ncaller a 0\nread 0 65537\n") ∷
    refused_at 5 Limit (codes "tty-session 1\nports 1\nphase\ncaller a 0\nread 0 0\n") ∷
    refused_at 5 Hex (codes "tty-session 1\nports 1\nphase\ncaller a 0\nwrite 0 6g\n") ∷
    refused_at 5 Hex (codes "tty-session 1\nports 1\nphase\ncaller a 0\nwrite 0 616\n") ∷
    refused_at 5 Limit (codes "tty-session 1\nports 1\nphase\ncaller a 0\nopen 32 rw\n") ∷
    refused_at 5 Limit (codes "tty-session 1\nports 1\nphase\ncaller a 0\nopen 32 x\n") ∷
    refused_at 5 Number (codes "tty-session 1\nports 1\nphase\ncaller a 0\nopen x x\n") ∷
    refused_at 5 Word (codes "tty-session 1\nports 1\nphase\ncaller a 0\nopen 0 x y z\n") ∷
    refused_at 5 Word (codes "tty-session 1\nports 1\nphase\ncaller a 0\nopen 0 rw block\n") ∷
    refused_at 5 Limit (codes "tty-session 1\nports 1\nphase\ncaller a 0\nsetd 0 4294967296\n") ∷
    refused_at 5 Number (codes "tty-session 1\nports 1\nphase\ncaller a 0\nsetd 0 10000000000\n") ∷
    refused_at 5 Word (codes "tty-session 1\nports 1\nphase\ncaller a 0\nflush 0 all\n") ∷
    refused_at 5 Word (codes "tty-session 1\nports 1\nphase\ncaller a 0\nxonc 0 off\n") ∷
    refused_at 5 Word (codes "tty-session 1\nports 1\nphase\ncaller a 0\nclose 0 0\n") ∷
    refused_at 5 Hex (codes "tty-session 1\nports 1\nphase\ncaller a 0\nsend 0 0x41\n") ∷
    refused_at 5 Word (codes "tty-session 1\nports 1\nphase\ncaller a 0\nhangup 0\n") ∷
    -- mode words
    refused_at 5 Word (codes "tty-session 1\nports 1\nphase\ncaller a 0\nmodes 0 now\n") ∷
    refused_at 5 Word (codes "tty-session 1\nports 1\nphase\ncaller a 0\nmodes 0 later\n") ∷
    refused_at 5 Word (codes "tty-session 1\nports 1\nphase\ncaller a 0\nmodes 0 later raw\n") ∷
    refused_at 5 Limit (codes "tty-session 1\nports 1\nphase\ncaller a 0\nmodes 32 later x\n") ∷
    refused_at 5 Word (codes "tty-session 1\nports 1\nphase\ncaller a 0\nmodes 0 now min=256\n") ∷
    refused_at 5 Word (codes "tty-session 1\nports 1\nphase\ncaller a 0\nmodes 0 now min=01\n") ∷
    refused_at 5 Word (codes "tty-session 1\nports 1\nphase\ncaller a 0\nmodes 0 now min=\n") ∷
    refused_at 5 Word (codes "tty-session 1\nports 1\nphase\ncaller a 0\nmodes 0 now min=+1\n") ∷
    refused_at 5 Word (codes "tty-session 1\nports 1\nphase\ncaller a 0\nmodes 0 now -raw\n") ∷
    refused_at 5 Word (codes "tty-session 1\nports 1\nphase\ncaller a 0\nmodes 0 now -sane\n") ∷
    -- flip buffers
    refused_at 3 Word (codes "tty-session 1\nports 1\nflip 0 64\n") ∷
    refused_at 2 Word (codes "tty-session 1\nflip\n") ∷
    refused_at 3 Limit (codes "tty-session 2\nports 1\nflip 0 63\n") ∷
    refused_at 3 Limit (codes "tty-session 2\nports 1\nflip 0 65537\n") ∷
    refused_at 3 Limit (codes "tty-session 2\nports 1\nflip 1 64\n") ∷
    refused_at 4 Order (codes "tty-session 2\nports 1\nflip 0 64\nflip 0 64\n") ∷
    refused_at 4 Limit (codes "tty-session 2\nports 1\nflip 0 64\nflip 0 63\n") ∷
    refused_at 4 Order (codes "tty-session 2\nports 1\nphase\nflip x\n") ∷
    refused_at 2 Order (codes "tty-session 2\nflip x\n") ∷
    []

-- ---- texts that spell a session

abbrev pub three_bytes_text : List ℕ
three_bytes_text = codes
    "tty-session 1\nports 1\nphase\ncaller a 0\nopen 0 rw nonblock\nmodes 0 now raw\nphase\nline 0\nrx 68690a\ncaller a 0\nread 0 64\nclose 0\nend\n"

abbrev pub script : ℕ → List ℕ → List PlainCall → PlainScript
script port name calls = record { port = port; name = name; calls = calls }

abbrev pub three_bytes_session : PlainSession
three_bytes_session = record {
  version = 1;
  ports = 1;
  flips = 4096 ∷ [];
  phases =
      record {
        lines = [] ∷ [];
        ticks = 0 ∷ [];
        callers = script 0 (codes "a") (opens 0 Rw true ∷ sets_modes 0 Now (Raw ∷ []) ∷ []) ∷ [];
      }
      ∷ record {
        lines = (rx_step Normal 104 ∷ rx_step Normal 105 ∷ rx_step Normal 10 ∷ []) ∷ [];
        ticks = 0 ∷ [];
        callers = script 0 (codes "a") (reads 0 64 ∷ closes 0 ∷ []) ∷ [];
      }
      ∷ [];
}

abbrev pub empty_text : List ℕ
empty_text = codes "tty-session 1\nports 1\nend"

abbrev pub empty_session : PlainSession
empty_session = record { version = 1; ports = 1; flips = 4096 ∷ []; phases = [] }

-- each item of a line and of a clock, for several ports; comments, blanks, TABs and CRs
abbrev pub items_text : List ℕ
items_text =
    codes
    "# lines and clocks\n\ntty-session 2\r\nports\t3\nflip 2 64\nflip 0 65536\nphase\nline 2\nrx 4aFf\nrxp 00\n rxf 7F\nbreak\nmask\nunmask\nidle 1000\ntrigger 14\nclock 0\ntick 1\ntick 65535\nline 0\nclock 2\ntick 7\n"
    ++ codes "end\n# over\n"

abbrev pub items_session : PlainSession
items_session = record {
  version = 2;
  ports = 3;
  flips = 65536 ∷ 4096 ∷ 64 ∷ [];
  phases =
      record {
        lines =
            [] ∷ []
            ∷ (rx_step Normal 74 ∷ rx_step Normal 255 ∷ rx_step Parity 0 ∷ rx_step Frame 127 ∷ Break ∷ Mask ∷ Unmask
            ∷ Idle 1000 ∷ Trigger 14 ∷ []) ∷ [];
        ticks = 65536 ∷ 0 ∷ 7 ∷ [];
        callers = [];
      }
      ∷ [];
}

-- each call
abbrev pub calls_text : List ℕ
calls_text =
    codes
    "tty-session 1\nports 2\nphase\ncaller first_1 1\nopen 0 r\nopen 1 w\nopen 31 rw nonblock\nclose 0\nread 0 65536\nwrite 1 61fF\ngetm 1\nmodes 1 now raw sane\nmodes 1 drain echo -icanon min=0\nmodes 1 flush eol2=255\n"
    ++ codes
    "getd 1\nsetd 1 4294967295\nflush 1 in\nflush 1 out\nflush 1 both\nxonc 1 ooff\nxonc 1 oon\nxonc 1 ioff\nxonc 1 ion\ninq 1\noutq 1\nexcl 1\nnxcl 1\ndrain 1\ncounts 1\nvhangup 1\nsend 1 c0\ntake 1\n"
    ++ codes "caller b 0\ncaller first_1 0\ninq 2\nend\n"

abbrev pub first_calls : List PlainCall
first_calls =
    opens 0 R false ∷ opens 1 W false ∷ opens 31 Rw true ∷ closes 0 ∷ reads 0 65536 ∷ writes 1 (97 ∷ 255 ∷ [])
    ∷ gets_modes 1
    ∷ sets_modes 1 Now (Raw ∷ Sane ∷ []) ∷ sets_modes 1 Drain (On 19 ∷ Off 18 ∷ Cc 6 0 ∷ [])
    ∷ sets_modes 1 Flush (Cc 14 255 ∷ [])
    ∷ gets_disc 1 ∷ sets_disc 1 4294967295 ∷ flushes 1 Input ∷ flushes 1 Output ∷ flushes 1 Both
    ∷ steers 1 Ooff ∷ steers 1 Oon ∷ steers 1 Ioff ∷ steers 1 Ion ∷ counts_input 1 ∷ counts_output 1 ∷ excludes 1
    ∷ admits 1 ∷ drains 1
    ∷ gets_counts 1 ∷ hangs_up 1 ∷ sends_packet 1 (192 ∷ []) ∷ takes_packet 1 ∷ []

abbrev pub calls_session : PlainSession
calls_session = record {
  version = 1;
  ports = 2;
  flips = 4096 ∷ 4096 ∷ [];
  phases =
      record {
        lines = [] ∷ [] ∷ [];
        ticks = 0 ∷ 0 ∷ [];
        callers =
            script 1 (codes "first_1") first_calls ∷ script 0 (codes "b") []
            ∷ script 0 (codes "first_1") (counts_input 2 ∷ []) ∷ [];
      }
      ∷ [];
}
