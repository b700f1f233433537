-- A session of consoles that is read of a text keeps the limits of every one.
use Rattle.std.proofs.Common.{◌≡◌, ℕ, ◌+◌, ◌-◌, ◌*◌, ◌≤◌, ◌⊎◌, inl, inr, Bool, true}
use Rattle.std.proofs.Common.{false, cond, if◌then◌else◌, Result, Ok, Err, List, [], ◌∷◌}
use Rattle.std.proofs.Common.{length, refl, ◌∙◌, ap, subst, arith}
use Rattle.tty_base.specs.Sizes.{MOST_KEYS, MOST_OPERATORS, MOST_OPERATOR_CALLS}
use Rattle.session_text.specs.declared.faults.Reason.TheVariants as reason
use Rattle.session_text.specs.declared.faults.BadLine.{BadLine}
use Rattle.session_text.specs.Stands.{is_ended}
use Rattle.session_text.specs.Drafts.{session_with}
use Rattle.session_text.specs.Refusals.{next_line, lines_in}
use Rattle.session_text.specs.Asked.{asked_of}
use Rattle.session_text.specs.Reading.{PlainReading, first_reading, session_from}
use Rattle.session_text.proofs.PhaseCounts.{ended_no_phase, lines_within}
use Rattle.session_text.proofs.Spelled.{read_spells}
use Rattle.session_text.proofs.TextAsks.{text_asks}
use Rattle.vt_text.proofs.Joined.{AreLines, lines_again, text_words, cost}
use Rattle.vt_text.proofs.Joined.{costs, text_long, text_cost}
use Rattle.vt_text.specs.Sessions.{PlainVtSession}
use Rattle.vt_text.specs.Left.{text_of}
use Rattle.vt_text.specs.Limits.{key_count, op_call_count, operator_count, IsVtWithin}
use Rattle.vt_text.specs.Items.{PlainVtReading, first_vt_reading}
use Rattle.vt_text.specs.Reading.{bad, ◌>>=◌}
use Rattle.vt_text.specs.Reading.{after_line, vt_from, vt_in}
use Rattle.vt_text.proofs.LineLimits.{Moves, ReadsOn, Within, first_within, goes_line, keys_in}
use Rattle.vt_text.proofs.LineLimits.{nothing_read, ok_same, one_if, open_count}

-- The callers' session is that of lines from here on, or that of lines from the first reading on: these, and two
-- letters for each key, are so long.
record GoesOn (r : PlainReading) (n room : ℕ) (x : PlainVtSession) : Type 0 where
  own : ℕ
  reads : ReadsOn r n x.calls own
  fits : own + 2 * key_count x.phases ≤ room

record IsRead (r : PlainReading) (n keys rest : ℕ) (x : PlainVtSession) : Type 0 where
  reads : GoesOn r n (2 * keys + rest) x ⊎ GoesOn first_reading n (rest + 1) x
  whole : length x.calls.phases ≡ length x.phases
  keys_few : key_count x.phases ≤ MOST_KEYS
  calls : op_call_count x.phases ≤ MOST_OPERATOR_CALLS
  operators : operator_count x.phases ≤ MOST_OPERATORS * length x.phases

read_at_end : (r : PlainVtReading) (n : ℕ)
    → is_ended r.session.stand.place ≡ true
    → Within r
    → IsRead r.session n (keys_in r) 0
    (record { calls = session_with r.session.stand r.session.draft; phases = r.phases })
read_at_end r n ended h =
    let none : open_count r ≡ 0 = ap one_if (ended_no_phase r.session.stand.place ended) in
    record {
      reads = inl (record {
        own = 0;
        reads = record {
          lines = [];
          is = ap (λ (b : Bool). cond b (Ok (session_with r.session.stand r.session.draft))
              (Err (record { line = n; reason = reason.Order }))) ended;
          words = tt;
          long_is = refl;
        };
        fits = omega arith;
      });
      whole = omega (arith, h.whole, none);
      keys_few = omega (arith, h.keys);
      calls = omega (arith, h.calls);
      operators = h.before;
    }

end_by : (r : PlainVtReading) (n : ℕ) (ended : Bool) (x : PlainVtSession)
    → is_ended r.session.stand.place ≡ ended
    → Within r
    → (if ended
    then Ok (record { calls = session_with r.session.stand r.session.draft; phases = r.phases })
    else bad n reason.Order) ≡ Ok x
    → IsRead r.session n (keys_in r) 0 x
end_by r n true x e within h =
    let made : PlainVtSession = record { calls = session_with r.session.stand r.session.draft; phases = r.phases } in
    subst (IsRead r.session n (keys_in r) 0) (ok_same made x h) (read_at_end r n e within)
end_by r n false x e within h = absurd (cc)

-- a line more in front
reads_behind : (n long rest : ℕ) (r next : PlainVtReading) (x : PlainVtSession) → 1 ≤ long → Moves n long r next
    → GoesOn next.session (next_line n) (2 * keys_in next + rest) x ⊎ GoesOn first_reading (next_line n) (rest + 1) x
    → GoesOn r.session n (2 * keys_in r + (long + rest)) x ⊎ GoesOn first_reading n ((long + rest) + 1) x
reads_behind n long rest r next x some (inl goes) (inl on) =
    inl (record {
      own = goes.own + on.own;
      reads = goes.reads x.calls on.own on.reads;
      fits = omega (arith, goes.grows, on.fits);
    })
reads_behind n long rest r next x some (inr goes) (inl on) =
    inr (record {
      own = goes.own + on.own;
      reads = goes.reads x.calls on.own on.reads;
      fits = omega (arith, goes.grows, on.fits);
    })
reads_behind n long rest r next x some moves (inr anew) =
    inr (record {
      own = 1 + anew.own;
      reads = nothing_read first_reading n x.calls anew.own anew.reads;
      fits = omega (arith, anew.fits, some);
    })

moved_within : (n long : ℕ) (r next : PlainVtReading) → Moves n long r next → Within r → Within next
moved_within n long r next (inl goes) h = goes.within h
moved_within n long r next (inr goes) h = goes.within first_within

line_by : (n long rest : ℕ) (r : PlainVtReading) (read : Result PlainVtReading BadLine)
    (later : PlainVtReading → Result PlainVtSession BadLine) (x : PlainVtSession)
    → 1 ≤ long
    → ((next : PlainVtReading) → read ≡ Ok next → Moves n long r next)
    → ((next : PlainVtReading)
    → Within next
    → later next ≡ Ok x
    → IsRead next.session (next_line n) (keys_in next) rest x)
    → Within r
    → (read >>= later) ≡ Ok x
    → IsRead r.session n (keys_in r) (long + rest) x
line_by n long rest r (Ok next) later x some goes behind within h =
    let on = goes next refl in
    let is = behind next (moved_within n long r next on within) h in
    record {
      reads = reads_behind n long rest r next x some on is.reads;
      whole = is.whole;
      keys_few = is.keys_few;
      calls = is.calls;
      operators = is.operators;
    }
line_by n long rest r (Err line) later x some goes behind within h = absurd (cc)

read_from : (lines : List (List (List ℕ))) (r : PlainVtReading) (n : ℕ) (x : PlainVtSession)
    → AreLines lines
    → Within r
    → vt_from r n lines ≡ Ok x
    → IsRead r.session n (keys_in r) (costs lines) x
read_from [] r n x words within h = end_by r n (is_ended r.session.stand.place) x refl within h
read_from (words ∷ lines) r n x good within h =
    line_by n (cost words) (costs lines) r (after_line r n words)
    (λ (next : PlainVtReading). vt_from next (next_line n) lines) x (omega arith)
    (λ next e. goes_line r n words next good.0 e) (λ next w e. read_from lines next (next_line n) x good.1 w e) within h

-- the callers' session is that of lines, which are no longer than the text but for what keys take, and for two letters
record IsOfLines (text : List ℕ) (x : PlainVtSession) : Type 0 where
  lines : List (List (List ℕ))
  is : session_from first_reading 1 lines ≡ Ok x.calls
  words : AreLines lines
  few : costs lines + 2 * key_count x.phases ≤ length text + 2

of_lines : (text : List ℕ) (x : PlainVtSession) (room : ℕ)
    → GoesOn first_reading 1 room x
    → room ≤ length text + 2
    → IsOfLines text x
of_lines text x room on h = record {
  lines = on.reads.lines;
  is = on.reads.is;
  words = on.reads.words;
  few = omega (arith, on.fits, h, on.reads.long_is);
}

by_lines : (text : List ℕ) (x : PlainVtSession)
    → GoesOn first_reading 1 (2 * 0 + costs (lines_in text)) x ⊎ GoesOn first_reading 1 (costs (lines_in text) + 1) x
    → IsOfLines text x
by_lines text x (inl on) = of_lines text x (2 * 0 + costs (lines_in text)) on (omega (arith, text_cost text))
by_lines text x (inr on) = of_lines text x (costs (lines_in text) + 1) on (omega (arith, text_cost text))

text_read : (text : List ℕ) (x : PlainVtSession)
    → vt_in text ≡ Ok x
    → IsRead first_reading 1 0 (costs (lines_in text)) x
text_read text x h = read_from (lines_in text) first_vt_reading 1 x (text_words text) first_within h

pub read_within : (text : List ℕ) (x : PlainVtSession) → vt_in text ≡ Ok x → IsVtWithin x
read_within text x h =
    let is = text_read text x h in
    let of = by_lines text x is.reads in
    record {
      calls = lines_within of.lines 1 x.calls of.is;
      whole = is.whole;
      few_keys = is.keys_few;
      few_calls = is.calls;
      few_operators = is.operators;
    }

-- A text is as long as what its session asks of a console, but for two letters: the words of its lines, put into lines
-- again, are the text of a session of ports.
pub read_asks : (text : List ℕ) (x : PlainVtSession) (p : ℕ)
    → vt_in text ≡ Ok x
    → asked_of p x.calls.phases + 2 * key_count x.phases ≤ length text + 2
read_asks text x p h =
    let of = by_lines text x (text_read text x h).reads in
    let again = text_of of.lines in
    let spells = read_spells again x.calls
    (ap (λ (lines : List (List (List ℕ))). session_from first_reading 1 lines) (lines_again of.lines of.words)
    ∙ of.is) in
    omega (arith, of.few, text_long of.lines, text_asks again x.calls p spells)
