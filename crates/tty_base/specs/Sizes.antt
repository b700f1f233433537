-- The sizes and limits of the terminal layer, each by what it bounds. They have the names of the constants of
-- `src/sizes.rt`, and compute to numerals.
use Rattle.std.specs.Prelude.{ℕ, ◌^◌}

-- the most characters of one piece of a flush, and bytes of one piece of a write
abbrev pub PIECE : ℕ
PIECE = 64

-- the most unread bytes of a port, with those of its edited line
abbrev pub MOST_UNREAD : ℕ
MOST_UNREAD = 4096

-- the most ends of input lines among the unread bytes
abbrev pub MOST_ENDS : ℕ
MOST_ENDS = 4096

-- the most bytes of the edited line
abbrev pub MOST_LINE : ℕ
MOST_LINE = 4095

-- the most unread bytes beside which a character is accepted in any case: it may take two bytes
abbrev pub MOST_TO_ACCEPT : ℕ
MOST_TO_ACCEPT = 4094

-- the most of them under `parmrk`, where a character may take three bytes
abbrev pub MOST_TO_ACCEPT_MARKED : ℕ
MOST_TO_ACCEPT_MARKED = 4092

-- the most bytes that one read gives
abbrev pub MOST_READ : ℕ
MOST_READ = 4096

-- the most bytes of output that are held back
abbrev pub MOST_HELD : ℕ
MOST_HELD = 4096

-- the most bytes that are posted for one piece of a write
abbrev pub MOST_POSTED : ℕ
MOST_POSTED = 512

-- the most columns by which one byte of output moves the column
abbrev pub COLUMNS_OF_BYTE : ℕ
COLUMNS_OF_BYTE = 64

-- the most columns by which one piece of a write moves the column
abbrev pub COLUMNS_OF_PIECE : ℕ
COLUMNS_OF_PIECE = 4096

-- the most columns by which one received character moves the column
abbrev pub COLUMNS_OF_CHARACTER : ℕ
COLUMNS_OF_CHARACTER = 2 ^ 22

-- the most columns by which one entry of a journal moves the column
abbrev pub COLUMNS_OF_ENTRY : ℕ
COLUMNS_OF_ENTRY = 2 ^ 28

-- the most bytes that one call asks for or brings
abbrev pub MOST_ASKED : ℕ
MOST_ASKED = 65536

-- the most mode words of one call
abbrev pub MOST_MODE_WORDS : ℕ
MOST_MODE_WORDS = 64

-- how many handles a port has
abbrev pub MOST_HANDLES : ℕ
MOST_HANDLES = 32

-- the last number of a handle
abbrev pub LAST_HANDLE : ℕ
LAST_HANDLE = 31

-- the places of a flip buffer of which a session says nothing
abbrev pub DEFAULT_FLIP : ℕ
DEFAULT_FLIP = 4096

-- the fewest places of a flip buffer
abbrev pub LEAST_FLIP : ℕ
LEAST_FLIP = 64

-- the most places of a flip buffer
abbrev pub MOST_FLIP : ℕ
MOST_FLIP = 65536

-- the most characters that are ever put into a flip buffer
abbrev pub MOST_SENT : ℕ
MOST_SENT = 2 ^ 63

-- the most seats of a shared value
abbrev pub MOST_SEATS : ℕ
MOST_SEATS = 4096

-- the most of them for the callers of a port
abbrev pub MOST_CALLER_SEATS : ℕ
MOST_CALLER_SEATS = 4092

-- the most callers of a port that have numbers
abbrev pub MOST_NUMBERED : ℕ
MOST_NUMBERED = 65536

-- the most bytes of a name
abbrev pub MOST_NAME : ℕ
MOST_NAME = 16

-- the most ports of a session
abbrev pub MOST_PORTS : ℕ
MOST_PORTS = 8

-- the most phases of a session
abbrev pub MOST_PHASES : ℕ
MOST_PHASES = 64

-- the most callers of a port in one phase
abbrev pub MOST_CALLERS : ℕ
MOST_CALLERS = 16

-- the most steps of a session
abbrev pub MOST_STEPS : ℕ
MOST_STEPS = 65536

-- the most ticks of a port in a session
abbrev pub MOST_TICKS : ℕ
MOST_TICKS = 65536

-- the most characters that arrive on a port in a session
abbrev pub MOST_ARRIVALS : ℕ
MOST_ARRIVALS = 262144

-- the most character times that pass in one step
abbrev pub MOST_IDLE : ℕ
MOST_IDLE = 1000

-- the most consoles of a session
abbrev pub MOST_CONSOLES : ℕ
MOST_CONSOLES = 8

-- the most operators of one phase
abbrev pub MOST_OPERATORS : ℕ
MOST_OPERATORS = 16

-- the most calls of operators in a session
abbrev pub MOST_OPERATOR_CALLS : ℕ
MOST_OPERATOR_CALLS = 65536

-- the most keys of a session
abbrev pub MOST_KEYS : ℕ
MOST_KEYS = 262144

-- the most processes of a port in a session
abbrev pub MOST_PROCESSES : ℕ
MOST_PROCESSES = 1024

-- the last number of a group of processes, and of a session of them
abbrev pub LAST_GROUP : ℕ
LAST_GROUP = 65535

-- the numbers of groups, and of sessions of processes, are below this
abbrev pub GROUP_END : ℕ
GROUP_END = 65536

-- the most bytes of a text that is read
abbrev pub MOST_TEXT : ℕ
MOST_TEXT = 4194304

-- the most entries of a journal
abbrev pub MOST_ENTRIES : ℕ
MOST_ENTRIES = 4194304

-- the numbers of generations, phases, steps, parts and ticks stay below this
abbrev pub NUMBER_END : ℕ
NUMBER_END = 2 ^ 31

-- counts of characters, and columns, stay below this as long as anything runs
abbrev pub COUNT_END : ℕ
COUNT_END = 2 ^ 62
