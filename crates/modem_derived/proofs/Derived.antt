-- The session that is derived of what was kept is the one that the ports were played.
use Rattle.std.proofs.Common.{◌≡◌, ◌<◌, inl, inr, ℕ, ◌+◌, ◌-◌}
use Rattle.std.proofs.Common.{List, [], ◌∷◌, ◌++◌, Option, length, map, flat_map}
use Rattle.std.proofs.Common.{refl, sym, ap, ◌∙◌, arith}
use Rattle.std.proofs.Common.{append-nil}
use Rattle.std.specs.Prelude.{All, slice_index_or}
use Rattle.std.specs.List.{range_with_len}
use Rattle.std.proofs.lemmas.Bool.{cases_lt}
use Rattle.std.proofs.lemmas.List.{get_or_past, map-append}
use Rattle.tty_calls.specs.declared.journals.PortRun.{PortRun}
use Rattle.tty_calls.specs.Plain.{PlainCall, hangs_up}
use Rattle.tty_calls.specs.Sessions.{PlainSession}
use Rattle.passed_calls.specs.Blocks.{names_on}
use Rattle.passed_calls.specs.Derived.{Passing, passed_phases}
use Rattle.derived_session.specs.declared.passed.FurtherBlock.{FurtherBlock}
use Rattle.derived_session.specs.declared.passed.PassedDown.{PassedDown}
use Rattle.derived_session.specs.declared.passed.Down.TheVariants as down
use Rattle.derived_session.specs.Begun.{begun_down}
use Rattle.derived_session.specs.Steps.{CallerStep, scripts_in, step_at, own_call, passing_of, passings_of, derived_of}
use Rattle.derived_session.proofs.ByCalls.{one_passed, kept_begun, begun_passed}
use Rattle.modem_text.specs.declared.sessions.ModemPart.{ModemPart}
use Rattle.modem_text.specs.Events.{ModemEvent, pin_set, own, passed, carrier_lost, ModemLog, events_on}
use Rattle.modem_text.specs.Sessions.{ModemCall, ModemSession, part_of, blocks_in, session_with}
use Rattle.modem_text.specs.Within.{IsModemSessionWithin}
use Rattle.modem_steps.specs.Derived.{carrier_on, modem_call_at, plain_call, passings_from}
use Rattle.modem_one.specs.Played.{answered_by, is_answer_to, derived_with, all_passed}
use Rattle.modem_derived.specs.Blocks.{AreCarriers, nothing_passed}
use Rattle.modem_derived.specs.Walked.{Walked, first_walk, walked_by, walked_over, all_down, down_on}
use Rattle.modem_derived.proofs.Carried.{all_steps, blocks_are, base_names, call_is}
use Rattle.modem_derived.proofs.ByEvents.{no_passings}
use Rattle.order_laws.specs.Sessions.{journal_on}
use Rattle.order_laws.proofs.Answering.{stepped, set_length, answers_more}
use Rattle.passed_ports.proofs.Started.{zeros_at, zeros_long}

-- ---- what was logged of a port

module _ (made : (c step : ℕ) → Option CallerStep) (calls : (c step : ℕ) → Option ModemCall)
    (same : (c step : ℕ) → own_call (made c step) ≡ plain_call (calls c step)) where
  abbrev own_at : (c step : ℕ) → List PlainCall
  own_at c step = plain_call (calls c step)

  abbrev all_of : List PassedDown → List Passing
  all_of ds = map (passing_of made) ds

  pub walk_passed : (w : Walked) (es : List ModemEvent)
      → all_of (walked_over w es).passed ≡ all_of w.passed ++ passings_from calls w.carrier w.items es
  walk_passed w [] = sym (append-nil (all_of w.passed))
  walk_passed w (pin_set pin up ∷ es) = walk_passed (walked_by w (pin_set pin up)) es
  walk_passed w (own c step answer ∷ es) = walk_passed (walked_by w (own c step answer)) es
  walk_passed w (passed c step answer ∷ es) =
      walk_passed (walked_by w (passed c step answer)) es
      ∙ one_passed made own_at same w.passed (record { caller = c; step = step; down = down.Call })
      (record { caller = c; step = step; calls = plain_call (calls c step) })
      (passings_from calls w.carrier w.items es)
      (ap (λ (cs : List PlainCall). record { caller = c; step = step; calls = cs }) (same c step))
  walk_passed w (carrier_lost h ∷ es) =
      walk_passed (walked_by w (carrier_lost h)) es
      ∙ one_passed made own_at same w.passed (record { caller = w.carrier; step = w.items - 1; down = down.Hangup h })
      (record { caller = w.carrier; step = w.items - 1; calls = hangs_up h ∷ [] })
      (passings_from calls w.carrier w.items es) refl

-- ---- how many calls were answered

answers_walked : (w : Walked) (es : List ModemEvent) (c : ℕ)
    → c < length w.answered
    → slice_index_or (walked_over w es).answered c 0 ≡ slice_index_or w.answered c 0 + answered_by c es
answers_walked w [] c lt = omega arith
answers_walked w (pin_set pin up ∷ es) c lt =
    let rest = answers_walked (walked_by w (pin_set pin up)) es c lt in
    let more = answers_more is_answer_to c (pin_set pin up) es in
    omega (arith, rest, more)
answers_walked w (own d step answer ∷ es) c lt =
    let rest = answers_walked (walked_by w (own d step answer)) es c
    (omega (arith, lt, set_length w.answered d (slice_index_or w.answered d 0 + 1))) in
    let one = stepped w.answered d c lt in
    let more = answers_more is_answer_to c (own d step answer) es in
    omega (arith, rest, one, more)
answers_walked w (passed d step answer ∷ es) c lt =
    let rest = answers_walked (walked_by w (passed d step answer)) es c
    (omega (arith, lt, set_length w.answered d (slice_index_or w.answered d 0 + 1))) in
    let one = stepped w.answered d c lt in
    let more = answers_more is_answer_to c (passed d step answer) es in
    omega (arith, rest, one, more)
answers_walked w (carrier_lost h ∷ es) c lt =
    let rest = answers_walked (walked_by w (carrier_lost h)) es c lt in
    let more = answers_more is_answer_to c (carrier_lost h) es in
    omega (arith, rest, more)

walked_long : (w : Walked) (es : List ModemEvent) → length (walked_over w es).answered ≡ length w.answered
walked_long w [] = refl
walked_long w (pin_set pin up ∷ es) = walked_long (walked_by w (pin_set pin up)) es
walked_long w (own d step answer ∷ es) =
    walked_long (walked_by w (own d step answer)) es ∙ set_length w.answered d (slice_index_or w.answered d 0 + 1)
walked_long w (passed d step answer ∷ es) =
    walked_long (walked_by w (passed d step answer)) es ∙ set_length w.answered d (slice_index_or w.answered d 0 + 1)
walked_long w (carrier_lost h ∷ es) = walked_long (walked_by w (carrier_lost h)) es

-- ---- all of a port

module _ (base : PlainSession) (parts : List ModemPart) (carriers : List (List FurtherBlock))
    (are : AreCarriers base.ports (length base.phases) parts carriers)
    (within : IsModemSessionWithin (session_with base (map part_of parts))) (bare : PlainSession)
    (none : bare ≡ nothing_passed (session_with base (map part_of parts))) (log : ModemLog) (runs : List PortRun) where
  abbrev session : ModemSession
  session = session_with base (map part_of parts)

  abbrev made_on : (p c n : ℕ) → Option CallerStep
  made_on p = step_at (scripts_in (all_steps base parts carriers are)) p

  abbrev names : ℕ → List (List ℕ)
  names p = names_on p (blocks_in session)

  port_by : (p : ℕ)
      → map (passing_of (made_on p)) (all_down (names p) (events_on p log) (journal_on runs p))
      ≡ all_passed session log p (journal_on runs p)
  port_by p =
      let made = made_on p in
      let calls = modem_call_at p session in
      let own_calls : (c n : ℕ) → List PlainCall = λ c n. plain_call (calls c n) in
      let same : (c n : ℕ) → own_call (made c n) ≡ plain_call (calls c n) = call_is base parts carriers are within p in
      let n = length (names p) in
      let es = events_on p log in
      let first = first_walk n (carrier_on p session) in
      let w = walked_over first es in
      let journal = journal_on runs p in
      let many : length w.answered ≡ n = walked_long first es ∙ zeros_long n in
      let counts : (c : ℕ) → c < n → slice_index_or w.answered c 0 ≡ answered_by c es =
      λ c lt.
      (let all = answers_walked first es c (omega (arith, lt, zeros_long n)) in
      let zero_first = zeros_at n c in
      omega (arith, all, zero_first)) in
      map-append (passing_of made) w.passed (begun_down journal w.answered)
      ∙ λ i.
      walk_passed made calls same first es i
      ++ (ap (λ (m : ℕ). map (passing_of made)
      (flat_map (kept_begun made own_calls same journal w.answered) (range_with_len 0 m))) many
      ∙ begun_passed made own_calls same journal w.answered (λ c. answered_by c es) 0 n
      (λ c lt. counts c (omega (arith, lt)))) i

  port_is : (p : ℕ)
      → map (passing_of (made_on p)) (down_on bare log runs p) ≡ all_passed session log p (journal_on runs p)
  port_is p =
      ap (λ (ns : List (List ℕ)). map (passing_of (made_on p)) (all_down ns (events_on p log) (journal_on runs p)))
      (base_names base parts carriers are p bare none)
      ∙ port_by p

  -- ---- the session

  pub passings_are : (lists : List (List PassedDown))
      → length runs ≡ base.ports
      → All (λ l. l.port < base.ports) log
      → length lists ≡ length runs
      → ((p : ℕ) → p < length runs → slice_index_or lists p [] ≡ down_on bare log runs p)
      → (p : ℕ)
      → passings_of (scripts_in (all_steps base parts carriers are)) lists p
      ≡ all_passed session log p (journal_on runs p)
  passings_are lists many below long each p = elim (cases_lt p (length runs)) [
    | inl lt ↦ ap (λ (ds : List PassedDown). map (passing_of (made_on p)) ds) (each p lt) ∙ port_is p
    | inr le ↦
        ap (λ (ds : List PassedDown). map (passing_of (made_on p)) ds)
        (get_or_past lists p [] (omega (arith, le, long)))
        ∙ sym (no_passings session base.ports log runs p many below le)
  ]

  pub derived_are : (lists : List (List PassedDown))
      → ((p : ℕ)
      → passings_of (scripts_in (all_steps base parts carriers are)) lists p
      ≡ all_passed session log p (journal_on runs p))
      → derived_of base (all_steps base parts carriers are) lists ≡ derived_with session log runs
  derived_are lists passed_down = λ i. record {
    version = base.version;
    ports = base.ports;
    flips = base.flips;
    phases = passed_phases (λ p. passed_down p i) (blocks_are base parts carriers are i);
  }

pub bare_is : (base : PlainSession) (parts : List ModemPart) (carriers : List (List FurtherBlock))
    (are : AreCarriers base.ports (length base.phases) parts carriers)
    → derived_of base (all_steps base parts carriers are) [] ≡ nothing_passed (session_with base (map part_of parts))
bare_is base parts carriers are = λ i. record {
  version = base.version;
  ports = base.ports;
  flips = base.flips;
  phases = passed_phases (λ p. []) (blocks_are base parts carriers are i);
}
