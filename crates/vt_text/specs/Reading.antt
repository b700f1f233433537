-- Reading a text, line by line: the session of consoles that is built, or the first wrong line.
use Rattle.std.specs.Prelude.{ℕ, ◌-◌, ◌==◌, ◌&&◌, Bool, List, [], ◌∷◌, length, Option}
use Rattle.std.specs.Prelude.{None, Some, Result, Ok, Err, codes, if◌then◌else◌}
use Rattle.std.specs.Str.{bytes_eq}
use Rattle.text_lines.specs.Lines.{first_is}
use Rattle.text_lines.specs.Values.{word_at, number_at}
use Rattle.session_text.specs.declared.faults.Reason.{Reason}
use Rattle.session_text.specs.declared.faults.Reason.TheVariants.{Header as header, Word, Order, Limit}
use Rattle.session_text.specs.declared.faults.BadLine.{BadLine}
use Rattle.session_text.specs.Stands.{is_start, is_ended, verdict_on}
use Rattle.session_text.specs.Drafts.{session_with}
use Rattle.session_text.specs.Refusals.{next_line, lines_in}
use Rattle.session_text.specs.Reading.{PlainReading, reading_after_item}
use Rattle.vt_text.specs.declared.sessions.OpCall.TheVariants as op
use Rattle.vt_text.specs.declared.items.Block.TheVariants as block
use Rattle.vt_text.specs.declared.verbs.VtVerb.{VtVerb}
use Rattle.vt_text.specs.declared.verbs.VtVerb.TheVariants.{Header, Consoles, Phase, Caller, Keys}
use Rattle.vt_text.specs.declared.verbs.VtVerb.TheVariants.{Operator, Activate, State, End, Call}
use Rattle.vt_text.specs.Sessions.{PlainVtSession}
use Rattle.vt_text.specs.Verbs.{verb_of}
use Rattle.vt_text.specs.Items.{PlainVtReading, first_vt_reading, in_open_phase, is_caller, keys_fault, operator_fault}
use Rattle.vt_text.specs.Items.{activate_fault, state_fault, with_keys, with_operator, with_call, with_phase_closed}

abbrev pub bad : {X : Type 0} → ℕ → Reason → Result X BadLine
bad n reason = Err (record { line = n; reason = reason })

infixl 10 ◌>>=◌
abbrev pub ◌>>=◌ : {X Y : Type 0} → Result X BadLine → (X → Result Y BadLine) → Result Y BadLine
Ok x >>= later = later x
Err line >>= later = Err line

-- the reading, unless something is wrong
abbrev pub unless : ℕ → Option Reason → PlainVtReading → Result PlainVtReading BadLine
unless n None r = Ok r
unless n (Some reason) r = bad n reason

-- an item of the callers' session, with this first word
abbrev pub after_session_item : PlainVtReading → ℕ → List ℕ → List (List ℕ) → Result PlainVtReading BadLine
after_session_item r n word arguments =
    reading_after_item r.session n arguments (verdict_on r.session.stand word arguments)
    >>= λ (session : PlainReading). Ok (record r { session = session })

-- the first item is `vt-session 1`
abbrev pub is_header : List ℕ → List (List ℕ) → Bool
is_header word arguments =
    (bytes_eq word (codes "vt-session") && length arguments == 1) && bytes_eq (word_at arguments 0) (codes "1")

-- the header begins the reading
abbrev pub after_header : ℕ → List ℕ → List (List ℕ) → Result PlainVtReading BadLine
after_header n word arguments =
    if is_header word arguments
    then after_session_item first_vt_reading n (codes "tty-session") arguments
    else bad n header

-- a call spends one of those that may still come
abbrev pub spend : ℕ → PlainVtReading → Result PlainVtReading BadLine
spend n r = if r.calls_left == 0 then bad n Limit else Ok (record r { calls_left = r.calls_left - 1 })

-- a call stands in the block of a caller
abbrev pub after_call : PlainVtReading → ℕ → List ℕ → List (List ℕ) → Result PlainVtReading BadLine
after_call r n word arguments =
    if is_caller r.block then (after_session_item r n word arguments >>= spend n) else bad n Order

-- an item at which an open phase is over
abbrev pub after_border : PlainVtReading → ℕ → List ℕ → List (List ℕ) → Result PlainVtReading BadLine
after_border r n word arguments =
    after_session_item r n word arguments >>= λ (next : PlainVtReading). Ok (with_phase_closed (in_open_phase r) next)

abbrev pub after_verb : PlainVtReading → ℕ → List ℕ → List (List ℕ) → Option VtVerb → Result PlainVtReading BadLine
after_verb r n word arguments None = bad n Word
after_verb r n word arguments (Some Header) = bad n Order
after_verb r n word arguments (Some Consoles) = after_session_item r n (codes "ports") arguments
after_verb r n word arguments (Some Phase) = after_border r n word arguments
after_verb r n word arguments (Some Caller) =
    after_session_item r n word arguments >>= λ (next : PlainVtReading). Ok (record next { block = block.Caller })
after_verb r n word arguments (Some Keys) = unless n (keys_fault r arguments) (with_keys r (word_at arguments 0))
after_verb r n word arguments (Some Operator) =
    unless n (operator_fault r arguments) (with_operator r (word_at arguments 0))
after_verb r n word arguments (Some Activate) =
    unless n (activate_fault r arguments) (with_call r (op.Activate (number_at arguments 0)))
after_verb r n word arguments (Some State) = unless n (state_fault r arguments) (with_call r op.State)
after_verb r n word arguments (Some End) = after_border r n word arguments
after_verb r n word arguments (Some Call) = after_call r n word arguments

abbrev pub after_item : PlainVtReading → ℕ → List ℕ → List (List ℕ) → Result PlainVtReading BadLine
after_item r n word arguments =
    if is_start r.session.stand.place
    then after_header n word arguments
    else after_verb r n word arguments (verb_of word)

abbrev pub after_line : PlainVtReading → ℕ → List (List ℕ) → Result PlainVtReading BadLine
after_line r n [] = Ok r
after_line r n (word ∷ arguments) = if first_is 35 word then Ok r else after_item r n word arguments

abbrev pub vt_at_end : PlainVtReading → ℕ → Result PlainVtSession BadLine
vt_at_end r n =
    if is_ended r.session.stand.place
    then Ok (record { calls = session_with r.session.stand r.session.draft; phases = r.phases })
    else bad n Order

-- a text that ends too early is wrong at the line after its last
abbrev pub vt_from : PlainVtReading → ℕ → List (List (List ℕ)) → Result PlainVtSession BadLine
vt_from r n [] = vt_at_end r n
vt_from r n (words ∷ lines) = after_line r n words >>= λ (next : PlainVtReading). vt_from next (next_line n) lines

-- the session of consoles that a text spells, or its first wrong line
abbrev pub vt_in : List ℕ → Result PlainVtSession BadLine
vt_in text = vt_from first_vt_reading 1 (lines_in text)
