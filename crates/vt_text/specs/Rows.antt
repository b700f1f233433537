-- Worked texts: what is refused, and what is read.
use Rattle.std.specs.Prelude.{ℕ, true, List, [], ◌∷◌, ◌++◌, codes}
use Rattle.tty_calls.specs.declared.calls.Access.TheVariants.{Rw}
use Rattle.tty_calls.specs.Plain.{opens, reads, counts_input}
use Rattle.tty_calls.specs.Sessions.{PlainScript, PlainPhase}
use Rattle.session_text.specs.declared.faults.Reason.TheVariants.{Header, Word, Number, Hex, Order, Limit}
use Rattle.vt_text.specs.declared.sessions.OpCall.TheVariants as op
use Rattle.vt_text.specs.Sessions.{PlainVtSession}
use Rattle.session_text.specs.Rows.{RefusedRow, refused_at}

-- a text that begins well, with one console; the next line is its third
abbrev pub one_console : List ℕ → List ℕ
one_console more = codes "vt-session 1\nconsoles 1\n" ++ more

-- .. and in its first phase; the next line is its fourth
abbrev pub in_phase : List ℕ → List ℕ
in_phase more = one_console (codes "phase\n" ++ more)

abbrev pub refused_rows : List RefusedRow
refused_rows =
    refused_at 1 Order (codes "") ∷
    -- the header
    refused_at 1 Header (codes "tty-session 1\n") ∷
    refused_at 1 Header (codes "vt-session\n") ∷
    refused_at 1 Header (codes "vt-session 2\n") ∷
    refused_at 1 Header (codes "vt-session 01\n") ∷
    refused_at 1 Header (codes "vt-session 1 x\n") ∷
    refused_at 1 Header (codes "consoles 1\n") ∷
    -- the number of consoles
    refused_at 2 Limit (codes "vt-session 1\nconsoles 0\n") ∷
    refused_at 2 Limit (codes "vt-session 1\nconsoles 9\n") ∷
    refused_at 2 Number (codes "vt-session 1\nconsoles one\n") ∷
    refused_at 2 Word (codes "vt-session 1\nconsoles 1 2\n") ∷
    refused_at 2 Order (codes "vt-session 1\nphase\n") ∷
    refused_at 2 Word (codes "vt-session 1\nports 1\n") ∷
    refused_at 3 Order (one_console (codes "vt-session 1\n")) ∷
    refused_at 3 Order (one_console (codes "consoles 1\n")) ∷
    -- the items of other texts
    refused_at 3 Word (one_console (codes "tty-session 1\n")) ∷
    refused_at 3 Word (one_console (codes "flip 0 64\n")) ∷
    refused_at 4 Word (in_phase (codes "line 0\n")) ∷
    refused_at 4 Word (in_phase (codes "clock 0\n")) ∷
    refused_at 4 Word (in_phase (codes "rx 61\n")) ∷
    refused_at 4 Word (in_phase (codes "tick 1\n")) ∷
    -- keys
    refused_at 3 Order (one_console (codes "keys 61\n")) ∷
    refused_at 4 Word (in_phase (codes "keys\n")) ∷
    refused_at 4 Word (in_phase (codes "keys 61 62\n")) ∷
    refused_at 4 Hex (in_phase (codes "keys 6\n")) ∷
    refused_at 4 Hex (in_phase (codes "keys xy\n")) ∷
    refused_at 6 Order (in_phase (codes "caller a 0\nkeys 61\ninq 0\n")) ∷
    refused_at 6 Order (in_phase (codes "operator o\nkeys 61\nstate\n")) ∷
    -- operators
    refused_at 3 Order (one_console (codes "operator o\n")) ∷
    refused_at 4 Word (in_phase (codes "operator O\n")) ∷
    refused_at 4 Word (in_phase (codes "operator o 0\n")) ∷
    refused_at 5 Order (in_phase (codes "operator o\noperator o\n")) ∷
    refused_at 5 Word (in_phase (codes "operator o\noperator\n")) ∷
    refused_at 20 Limit
    (in_phase (codes "operator a\noperator b\noperator c\noperator d\noperator e\noperator f\noperator g\n"
    ++ codes "operator h\noperator i\noperator j\noperator k\noperator l\noperator m\noperator n\n"
    ++ codes "operator o\noperator p\noperator q\n"))
    ∷
    refused_at 4 Order (in_phase (codes "activate 0\n")) ∷
    refused_at 4 Order (in_phase (codes "state 0\n")) ∷
    refused_at 5 Order (in_phase (codes "caller a 0\nstate\n")) ∷
    refused_at 5 Word (in_phase (codes "operator o\nactivate\n")) ∷
    refused_at 5 Number (in_phase (codes "operator o\nactivate x\n")) ∷
    refused_at 5 Limit (in_phase (codes "operator o\nactivate 256\n")) ∷
    refused_at 5 Word (in_phase (codes "operator o\nstate 0\n")) ∷
    -- callers
    refused_at 4 Limit (in_phase (codes "caller a 1\n")) ∷
    refused_at 5 Order (in_phase (codes "caller a 0\ncaller a 0\n")) ∷
    refused_at 4 Order (in_phase (codes "inq 0\n")) ∷
    refused_at 5 Order (in_phase (codes "operator o\ninq 0\n")) ∷
    refused_at 5 Limit (in_phase (codes "caller a 0\ninq 32\n")) ∷
    refused_at 5 Word (in_phase (codes "caller a 0\nfoo\n")) ∷
    -- the end
    refused_at 4 Order (in_phase (codes "")) ∷
    refused_at 3 Word (one_console (codes "end x\n")) ∷
    refused_at 4 Order (one_console (codes "end\nkeys 61\n")) ∷
    refused_at 4 Order (one_console (codes "end\nphase\n")) ∷
    refused_at 4 Word (one_console (codes "end\nline 0\n")) ∷
    refused_at 4 Word (one_console (codes "end\nfoo\n")) ∷ []

abbrev pub two_consoles_text : List ℕ
two_consoles_text =
    codes "vt-session 1\nconsoles 2\n"
    ++ codes "phase\ncaller a 0\nopen 0 rw nonblock\ncaller a 1\nopen 0 rw nonblock\n"
    ++ codes "phase\nkeys 6869\n"
    ++ codes "phase\noperator o\nactivate 1\nstate\n"
    ++ codes "phase\nkeys 6a\n# more keys\nkeys 0d\n"
    ++ codes "phase\ncaller a 0\ninq 0\ncaller a 1\nread 0 64\nend\n"

abbrev pub phase_with : List PlainScript → PlainPhase
phase_with callers = record { lines = [] ∷ [] ∷ []; ticks = 0 ∷ 0 ∷ []; callers = callers }

abbrev pub two_consoles : PlainVtSession
two_consoles = record {
  calls = record {
    version = 1;
    ports = 2;
    flips = 4096 ∷ 4096 ∷ [];
    phases =
        phase_with (
        record { port = 0; name = codes "a"; calls = opens 0 Rw true ∷ [] }
        ∷ record { port = 1; name = codes "a"; calls = opens 0 Rw true ∷ [] } ∷ [])
        ∷ phase_with [] ∷ phase_with [] ∷ phase_with []
        ∷ phase_with (
        record { port = 0; name = codes "a"; calls = counts_input 0 ∷ [] }
        ∷ record { port = 1; name = codes "a"; calls = reads 0 64 ∷ [] } ∷ [])
        ∷ [];
  };
  phases =
      record { keys = []; operators = [] }
      ∷ record { keys = 0x68 ∷ 0x69 ∷ []; operators = [] }
      ∷ record { keys = []; operators = record { name = codes "o"; calls = op.Activate 1 ∷ op.State ∷ [] } ∷ [] }
      ∷ record { keys = 0x6a ∷ 0x0d ∷ []; operators = [] }
      ∷ record { keys = []; operators = [] } ∷ [];
}
