-- Worked lines and texts: what they say, and why they are wrong.
use Rattle.std.specs.Prelude.{ℕ, true, false, List, [], ◌∷◌, ◌++◌, codes, Result, Ok, Err}
use Rattle.session_text.specs.declared.faults.Reason.{Reason}
use Rattle.session_text.specs.declared.faults.Reason.TheVariants.{Header, Word, Number, Order, Limit}
use Rattle.tty_base.specs.declared.lines.LineStep.TheVariants.{Break}
use Rattle.tty_calls.specs.declared.calls.Access.TheVariants.{Rw}
use Rattle.tty_calls.specs.Plain.{opens, gets_modes}
use Rattle.modem_lines.specs.declared.pins.Pin.TheVariants as pin
use Rattle.modem_text.specs.declared.verbs.ModemVerb.{ModemVerb}
use Rattle.modem_text.specs.declared.verbs.ModemVerb.TheVariants.{Modem, Dcd, Mget, Mset, Softcar, Msr}
use Rattle.modem_text.specs.declared.items.OwnCall.TheVariants as call
use Rattle.modem_text.specs.declared.items.ModemItem.{ModemItem}
use Rattle.modem_text.specs.declared.items.ModemItem.TheVariants as item
use Rattle.passed_calls.specs.Scripts.{plain, further}
use Rattle.modem_text.specs.Sessions.{ModemSession}
use Rattle.session_text.specs.Rows.{RefusedRow, refused_at, two_ports_with}

-- a verb with its arguments, and what comes of it on a session of two ports
pub record LineRow : Type 0 where
  pub verb : ModemVerb
  pub arguments : List (List ℕ)
  pub read : Result ModemItem Reason

abbrev pub row : ModemVerb → List (List ℕ) → Result ModemItem Reason → LineRow
row verb arguments read = record { verb = verb; arguments = arguments; read = read }

abbrev pub line_rows : List LineRow
line_rows =
    row Modem (codes "1" ∷ []) (Ok (item.Block 1))
    ∷ row Modem (codes "2" ∷ []) (Err Limit)
    ∷ row Modem [] (Err Word)
    ∷ row Dcd (codes "1" ∷ []) (Ok (item.Pin pin.Dcd true))
    ∷ row Dcd (codes "2" ∷ []) (Err Limit)
    ∷ row Dcd (codes "01" ∷ []) (Err Number)
    ∷ row Mget (codes "31" ∷ []) (Ok (item.Call (call.Mget 31)))
    ∷ row Mget (codes "32" ∷ []) (Err Limit)
    ∷ row Mget (codes "0" ∷ codes "0" ∷ []) (Err Word)
    ∷ row Mset (codes "0" ∷ codes "511" ∷ []) (Ok (item.Call (call.Mset 0 511)))
    ∷ row Mset (codes "0" ∷ codes "512" ∷ []) (Err Limit)
    ∷ row Mset (codes "32" ∷ codes "x" ∷ []) (Err Limit)
    ∷ row Mset (codes "x" ∷ codes "512" ∷ []) (Err Number)
    ∷ row Softcar (codes "0" ∷ codes "1" ∷ []) (Ok (item.Call (call.Softcar 0 true)))
    ∷ row Softcar (codes "0" ∷ codes "2" ∷ []) (Err Limit)
    ∷ row Msr (codes "0" ∷ []) (Ok (item.Call (call.Msr 0)))
    ∷ []

-- .. and in its first phase; the next line is its fourth
abbrev pub in_phase : List ℕ → List ℕ
in_phase more = two_ports_with (codes "phase\n" ++ more)

-- .. and in a caller's block; the next line is its fifth
abbrev pub in_caller : List ℕ → List ℕ
in_caller more = in_phase (codes "caller a 0\n" ++ more)

-- .. and in a modem block
abbrev pub in_modem : List ℕ → List ℕ
in_modem more = in_phase (codes "modem 0\n" ++ more)

abbrev pub refused_rows : List RefusedRow
refused_rows =
    refused_at 2 Order (codes "# nothing") ∷
    refused_at 1 Header (codes "modem 0\n") ∷
    refused_at 1 Header (codes "vt-session 1\n") ∷
    refused_at 2 Order (codes "tty-session 1\nmodem 0\n") ∷
    refused_at 3 Word (two_ports_with (codes "flip 0 64\n")) ∷
    -- modem blocks
    refused_at 3 Order (two_ports_with (codes "modem 0\n")) ∷
    refused_at 3 Order (two_ports_with (codes "dcd 1\n")) ∷
    refused_at 4 Order (in_phase (codes "dcd 1\n")) ∷
    refused_at 4 Word (in_phase (codes "modem\n")) ∷
    refused_at 4 Word (in_phase (codes "modem 0 1\n")) ∷
    refused_at 4 Number (in_phase (codes "modem a\n")) ∷
    refused_at 4 Limit (in_phase (codes "modem 2\n")) ∷
    refused_at 7 Order (in_modem (codes "dcd 1\nline 0\nmodem 0\n")) ∷
    refused_at 5 Word (in_modem (codes "dcd\n")) ∷
    refused_at 5 Number (in_modem (codes "ri x\n")) ∷
    refused_at 5 Limit (in_modem (codes "cts 2\n")) ∷
    refused_at 6 Order (in_modem (codes "line 0\ndsr 1\n")) ∷
    refused_at 5 Order (in_caller (codes "dsr 1\n")) ∷
    -- what stands in other blocks stands in none of these
    refused_at 5 Order (in_modem (codes "rx 61\n")) ∷
    refused_at 5 Order (in_modem (codes "tick 0\n")) ∷
    refused_at 5 Order (in_modem (codes "inq\n")) ∷
    refused_at 6 Order (in_caller (codes "modem 0\nread 0 8\n")) ∷
    refused_at 5 Word (in_modem (codes "foo\n")) ∷
    -- callers
    refused_at 4 Word (in_phase (codes "caller carrier 9\n")) ∷
    refused_at 3 Order (two_ports_with (codes "caller carrier 0\n")) ∷
    refused_at 4 Word (in_phase (codes "caller carrier\n")) ∷
    refused_at 4 Limit (in_phase (codes "caller a 2\n")) ∷
    refused_at 5 Order (in_caller (codes "caller a 0\n")) ∷
    refused_at 19 Limit
    (in_phase (codes
    "caller a 0\ncaller b 0\ncaller c 0\ncaller d 0\ncaller e 0\ncaller f 0\ncaller g 0\ncaller h 0\ncaller i 0\ncaller j 0\ncaller k 0\ncaller l 0\ncaller m 0\ncaller n 0\ncaller o 0\ncaller p 0\n"))
    ∷
    refused_at 19 Order
    (in_phase (codes
    "caller a 0\ncaller b 0\ncaller c 0\ncaller d 0\ncaller e 0\ncaller f 0\ncaller g 0\ncaller h 0\ncaller i 0\ncaller j 0\ncaller k 0\ncaller l 0\ncaller m 0\ncaller n 0\ncaller o 0\ncaller a 0\n"))
    ∷
    -- calls
    refused_at 4 Order (in_phase (codes "mget 0\n")) ∷
    refused_at 5 Order (in_modem (codes "mget 0\n")) ∷
    refused_at 6 Order (in_caller (codes "line 0\nmsr 0\n")) ∷
    refused_at 5 Word (in_caller (codes "getcar\n")) ∷
    refused_at 5 Number (in_caller (codes "softcar 0 on\n")) ∷
    refused_at 5 Limit (in_caller (codes "hupcl 0 2\n")) ∷
    refused_at 5 Limit (in_caller (codes "mbis 32 x\n")) ∷
    -- the items of other texts, and the end
    refused_at 5 Word (in_caller (codes "sctty 0\n")) ∷
    refused_at 4 Word (in_phase (codes "keys 61\n")) ∷
    refused_at 4 Order (in_phase (codes "")) ∷
    refused_at 4 Word (in_phase (codes "end x\n")) ∷
    refused_at 4 Order (two_ports_with (codes "end\nmodem 0\n")) ∷ []

abbrev pub two_ports_text : List ℕ
two_ports_text =
    codes
    "tty-session 1\nports 2\nphase\nmodem 1\ndcd 1\nri 0\ncaller a 0\nmget 0\nopen 0 rw\nmodem 0\ncts 1\ncaller b 1\ngetm 0\nmset 0 2\nmsr 0\n"
    ++ codes "phase\nline 0\nbreak\nphase\n# again\ncaller a 0\nsoftcar 0 1\nend\n"

abbrev pub two_ports : ModemSession
two_ports = record {
  version = 1;
  ports = 2;
  flips = 4096 ∷ 4096 ∷ [];
  phases =
      record {
        lines = [] ∷ [] ∷ [];
        ticks = 0 ∷ 0 ∷ [];
        pins =
            (record { pin = pin.Cts; up = true } ∷ [])
            ∷ (record { pin = pin.Dcd; up = true } ∷ record { pin = pin.Ri; up = false } ∷ []) ∷ [];
        callers =
            record { port = 0; name = codes "a"; calls = further (call.Mget 0) ∷ plain (opens 0 Rw false) ∷ [] }
            ∷ record {
              port = 1;
              name = codes "b";
              calls = plain (gets_modes 0) ∷ further (call.Mset 0 2) ∷ further (call.Msr 0) ∷ [];
            } ∷ [];
      }
      ∷ record { lines = (Break ∷ []) ∷ [] ∷ []; ticks = 0 ∷ 0 ∷ []; pins = [] ∷ [] ∷ []; callers = [] }
      ∷ record {
        lines = [] ∷ [] ∷ [];
        ticks = 0 ∷ 0 ∷ [];
        pins = [] ∷ [] ∷ [];
        callers = record { port = 0; name = codes "a"; calls = further (call.Softcar 0 true) ∷ [] } ∷ [];
      } ∷ [];
}
