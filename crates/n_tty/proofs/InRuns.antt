-- Characters of a run, one after the other, are what the run is at once.
use Rattle.std.proofs.Common.{◌≡◌, ℕ, suc, ◌+◌, ◌-◌, ◌≤◌, ◌<◌, Bool, true, false, cond, not, ◌&&◌, ◌||◌, nat_le, List}
use Rattle.std.proofs.Common.{[], ◌∷◌, ◌++◌, length, map, ap, sym, ◌∙◌, refl, subst, arith, inl, inr, append_assoc}
use Rattle.std.proofs.Common.{ne_eqb, length-append, le-leb, lt-ltb}
use Rattle.std.proofs.lemmas.Bool.{cases_Bool, cond-true, cond-false}
use Rattle.std.specs.List.{AllByRecursion}
use Rattle.tty_base.specs.Sizes.{MOST_ENDS, MOST_LINE, MOST_TO_ACCEPT, MOST_TO_ACCEPT_MARKED}
use Rattle.tty_base.specs.declared.characters.Flagged.{Flagged}
use Rattle.tty_modes.specs.Settings.{Settings, has_flag}
use Rattle.tty_modes.specs.declared.places.TheConstants.{ICANON, IXOFF, PARMRK, ISTRIP, ECHO}
use Rattle.line_store.specs.Unread.{Item, Byte, end_count}
use Rattle.n_tty_edit.specs.Line.{AddBytes, after_change}
use Rattle.echo_out.specs.declared.EchoEvent.TheVariants as event
use Rattle.flow_control.specs.Output.{Output, is_halted, has_room, room_of, on_wire, after_try}
use Rattle.n_tty.specs.Posting.{tally_after_try}
use Rattle.n_tty.specs.States.{NTtyState, OnPort, on_port, is_accepting}
use Rattle.n_tty.specs.States.{unread_count, most_unread, has_piece, FitsModes}
use Rattle.n_tty.specs.Storing.{start_of, with_line_bytes, after_store}
use Rattle.n_tty.specs.Roles.{is_raw, IsPlain}
use Rattle.n_tty.specs.Receiving.{after_character, after_flagged, after_ordinary}
use Rattle.n_tty.specs.Receiving.{ordinary_bytes, with_echo, with_ixoff_rule}
use Rattle.n_tty_edit.specs.Typed.{IsTyped}
use Rattle.line_store.specs.Good.{bytes_in, IsGood}
use Rattle.n_tty.specs.Runs.{after_characters, AcceptsAll, after_stored, after_joined, after_typed}
use Rattle.n_tty.proofs.EchoLemmas.{echoed_plainly, never_both, unechoed}
use Rattle.n_tty.proofs.FitsLemmas.{Fits-taken}
use Rattle.n_tty.proofs.PlainLemmas.{good_raw, good_plain, rule_idle}
use Rattle.n_tty.proofs.PostingLemmas.{tally_after_try-fits}
use Rattle.n_tty.proofs.StoringLemmas.{length-bytes_of-byte, end_count-byte}

pub Fits-all : (modes : Settings) (now : ℕ) (cs : List Flagged) (port : OnPort)
    → FitsModes modes port.tty
    → FitsModes modes (after_characters modes now cs port).tty
Fits-all modes now [] port fits = fits
Fits-all modes now (c ∷ cs) port fits =
    Fits-all modes now cs (after_character modes now c port) (Fits-taken modes now c.flag c.byte port fits)

-- n more characters of a run can be taken
pub record MayRun (modes : Settings) (n : ℕ) (port : OnPort) : Type 0 where
  pub unquoted : port.tty.quoted ≡ false
  pub quiet : port.output.noted ≡ false
  pub ends : end_count port.tty.items < MOST_ENDS
  pub room : unread_count port.tty + n ≤ 4093

always : (modes : Settings) (unread : ℕ) → unread ≤ MOST_TO_ACCEPT_MARKED → nat_le unread (most_unread modes) ≡ true
always modes unread few = elim (cases_Bool (has_flag modes PARMRK)) [
  | inl on ↦ ap (λ b. nat_le unread (cond b MOST_TO_ACCEPT_MARKED MOST_TO_ACCEPT)) on
      ∙ le-leb unread MOST_TO_ACCEPT_MARKED few
  | inr off ↦ ap (λ b. nat_le unread (cond b MOST_TO_ACCEPT_MARKED MOST_TO_ACCEPT)) off
      ∙ le-leb unread MOST_TO_ACCEPT (omega arith)
]

accepts_in_run : (modes : Settings) (n : ℕ) (port : OnPort)
    → MayRun modes (suc n) port
    → is_accepting modes port.tty ≡ true
accepts_in_run modes n port may =
    let free : Bool = has_flag modes ICANON && not (has_piece port.tty) in
    ap (λ b. b && (nat_le (unread_count port.tty) (most_unread modes) || free))
    (lt-ltb (end_count port.tty.items) MOST_ENDS may.ends)
    ∙ ap (λ b. b || free) (always modes (unread_count port.tty) (omega (arith, may.room)))

-- a run by one character and the next
module _ (modes : Settings) (now : ℕ) (run : List ℕ → OnPort → OnPort) (Fits : Flagged → Type 0)
    (May : ℕ → OnPort → Type 0) (empty : (port : OnPort) → run [] port ≡ port)
    (one : (c : Flagged) (n : ℕ) (port : OnPort)
    → Fits c
    → May (suc n) port
    → run (c.byte ∷ []) port ≡ after_character modes now c port)
    (accepted : (n : ℕ) (port : OnPort) → May (suc n) port → is_accepting modes port.tty ≡ true)
    (next : (b n : ℕ) (port : OnPort) → May (suc n) port → May n (run (b ∷ []) port))
    (more : (b : ℕ) (bytes : List ℕ) (port : OnPort) → run (b ∷ bytes) port ≡ run bytes (run (b ∷ []) port)) where
  pub by_one : (cs : List Flagged) (port : OnPort)
      → AllByRecursion Fits cs
      → May (length cs) port
      → run (bytes_in cs) port ≡ after_characters modes now cs port
  by_one [] port fit may = empty port
  by_one (c ∷ cs) port fit may =
      more c.byte (bytes_in cs) port
      ∙ by_one cs (run (c.byte ∷ []) port) fit.1 (next c.byte (length cs) port may)
      ∙ ap (after_characters modes now cs) (one c (length cs) port fit.0 may)

  pub accepts_run : (cs : List Flagged) (port : OnPort)
      → AllByRecursion Fits cs
      → May (length cs) port
      → AcceptsAll modes now cs port
  accepts_run [] port fit may = tt
  accepts_run (c ∷ cs) port fit may = (
    accepted (length cs) port may,
    subst (AcceptsAll modes now cs) (one c (length cs) port fit.0 may)
        (accepts_run cs (run (c.byte ∷ []) port) fit.1 (next c.byte (length cs) port may)),
  )

-- ---- bytes in raw mode

module _ (modes : Settings) (now : ℕ) (raw : is_raw modes ≡ true) (free : has_flag modes IXOFF ≡ false) where
  stored_one : (c : Flagged) (n : ℕ) (port : OnPort)
      → IsGood c
      → MayRun modes (suc n) port
      → after_stored now (c.byte ∷ []) port ≡ after_character modes now c port
  stored_one c n port good may =
      let stored : OnPort = after_stored now (c.byte ∷ []) port in
      rule_idle modes stored free may.quiet
      ∙ ap (with_ixoff_rule modes)
      (good_raw modes raw now c.byte port may.unquoted ∙ ap (λ f. after_flagged modes now f c.byte port) (sym good))

  stored_next : (b n : ℕ) (port : OnPort) → MayRun modes (suc n) port → MayRun modes n (after_stored now (b ∷ []) port)
  stored_next b n port may = record {
    unquoted = may.unquoted;
    quiet = may.quiet;
    ends = omega (arith, may.ends, end_count-byte port.tty.items b);
    room = omega (arith, may.room, length-bytes_of-byte port.tty.items b);
  }

  stored_more : (b : ℕ) (bytes : List ℕ) (port : OnPort)
      → after_stored now (b ∷ bytes) port ≡ after_stored now bytes (after_stored now (b ∷ []) port)
  stored_more b [] port = refl
  stored_more b (d ∷ bytes) port =
      ap (λ (items : List Item). record port { tty = record port.tty { items = items; last = now } })
      (sym (append_assoc port.tty.items (Byte b ∷ []) (map Byte (d ∷ bytes))))

  pub stored_run : (cs : List Flagged) (port : OnPort)
      → AllByRecursion IsGood cs
      → MayRun modes (length cs) port
      → after_stored now (bytes_in cs) port ≡ after_characters modes now cs port
  stored_run = by_one modes now (after_stored now) IsGood (MayRun modes) (λ port. refl) stored_one
      (accepts_in_run modes) stored_next stored_more

  pub accepts_stored : (cs : List Flagged) (port : OnPort)
      → AllByRecursion IsGood cs
      → MayRun modes (length cs) port
      → AcceptsAll modes now cs port
  accepts_stored = accepts_run modes now (after_stored now) IsGood (MayRun modes) (λ port. refl) stored_one
      (accepts_in_run modes) stored_next stored_more

-- ---- bytes from blank to tilde in canonical mode

-- a line's start column is set while it is empty alone
start_stays : (line : List ℕ) (b start column later : ℕ)
    → start_of line start column ≡ start_of (line ++ b ∷ []) (start_of line start column) later
start_stays [] b start column later = refl
start_stays (x ∷ line) b start column later = refl

module _ (modes : Settings) (now : ℕ) (canonical : has_flag modes ICANON ≡ true)
    (plain : (byte : ℕ) → 32 ≤ byte → byte ≤ 126 → IsPlain modes byte) (free : has_flag modes IXOFF ≡ false) where
  joined : (b : ℕ) (port : OnPort)
      → b ≤ 126
      → length port.tty.edit < MOST_LINE
      → record port { tty = with_line_bytes now (b ∷ []) port.tty }
      ≡ after_store modes now (ordinary_bytes modes b) port
  joined b port high short =
      let room : nat_le (length port.tty.edit + 1) MOST_LINE ≡ true =
      le-leb (length port.tty.edit + 1) MOST_LINE (omega arith) in
      let unmarked : ordinary_bytes modes b ≡ b ∷ [] =
      cond-false _ _ _
      (ap (λ t. has_flag modes PARMRK && not (has_flag modes ISTRIP) && t) (ne_eqb b 255 (λ e. omega (arith, high)))
      ∙ never_both (has_flag modes PARMRK && not (has_flag modes ISTRIP))) in
      sym (cond-true _ _ _ canonical ∙ cond-true _ _ _ room)
      ∙ ap (λ bytes. after_store modes now bytes port) (sym unmarked)

  -- what an ordinary byte leaves is what its character leaves
  by_rules : (c : Flagged) (port left : OnPort) → IsTyped c → port.tty.quoted ≡ false → left.output.noted ≡ false
      → left ≡ after_ordinary modes now c.byte port → left ≡ after_character modes now c port
  by_rules c port left typed unquoted quiet ordinary =
      rule_idle modes left free quiet
      ∙ ap (with_ixoff_rule modes)
      (
      ordinary
      ∙ sym (good_plain modes c.byte (plain c.byte typed.low typed.high) now port unquoted)
      ∙ ap (λ f. after_flagged modes now f c.byte port) (sym typed.good)
      )

-- ---- bytes that are not echoed

module _ (modes : Settings) (now : ℕ) (canonical : has_flag modes ICANON ≡ true) (silent : has_flag modes ECHO ≡ false)
    (plain : (byte : ℕ) → 32 ≤ byte → byte ≤ 126 → IsPlain modes byte) (free : has_flag modes IXOFF ≡ false) where
  joined_one : (c : Flagged) (n : ℕ) (port : OnPort)
      → IsTyped c
      → MayRun modes (suc n) port
      → after_joined now (c.byte ∷ []) port ≡ after_character modes now c port
  joined_one c n port typed may =
      let b : ℕ = c.byte in
      let tty : NTtyState = port.tty in
      let short : length tty.edit < MOST_LINE = omega (arith, may.room) in
      let room : nat_le (length tty.edit + 1) MOST_LINE ≡ true = le-leb (length tty.edit + 1) MOST_LINE (omega arith) in
      let line : tty.edit ++ b ∷ [] ≡ after_change tty.edit (AddBytes (b ∷ [])) = sym (cond-true _ _ _ room) in
      let ordinary : after_joined now (b ∷ []) port ≡ after_ordinary modes now b port =
      ap (λ edit.
      record port { tty = record tty { edit = edit; start = start_of tty.edit tty.start tty.column; last = now } }) line
      ∙ joined modes now canonical plain free b port typed.high short
      ∙ unechoed modes b (after_store modes now (ordinary_bytes modes b) port) silent in
      by_rules modes now canonical plain free c port (after_joined now (b ∷ []) port)
      typed may.unquoted may.quiet ordinary

  joined_next : (b n : ℕ) (port : OnPort) → MayRun modes (suc n) port → MayRun modes n (after_joined now (b ∷ []) port)
  joined_next b n port may = record {
    unquoted = may.unquoted;
    quiet = may.quiet;
    ends = may.ends;
    room = omega (arith, may.room, length-append port.tty.edit (b ∷ []));
  }

  joined_more : (b : ℕ) (bytes : List ℕ) (port : OnPort)
      → after_joined now (b ∷ bytes) port ≡ after_joined now bytes (after_joined now (b ∷ []) port)
  joined_more b [] port = refl
  joined_more b (d ∷ bytes) port =
      let tty : NTtyState = port.tty in
      let line : tty.edit ++ b ∷ d ∷ bytes ≡ (tty.edit ++ b ∷ []) ++ d ∷ bytes =
      sym (append_assoc tty.edit (b ∷ []) (d ∷ bytes)) in
      let start = start_stays tty.edit b tty.start tty.column tty.column in
      λ i. record port { tty = record tty { edit = line i; start = start i; last = now } }

  pub joined_run : (cs : List Flagged) (port : OnPort)
      → AllByRecursion IsTyped cs
      → MayRun modes (length cs) port
      → after_joined now (bytes_in cs) port ≡ after_characters modes now cs port
  joined_run = by_one modes now (after_joined now) IsTyped (MayRun modes) (λ port. refl) joined_one
      (accepts_in_run modes) joined_next joined_more

  pub accepts_joined : (cs : List Flagged) (port : OnPort)
      → AllByRecursion IsTyped cs
      → MayRun modes (length cs) port
      → AcceptsAll modes now cs port
  accepts_joined = accepts_run modes now (after_joined now) IsTyped (MayRun modes) (λ port. refl) joined_one
      (accepts_in_run modes) joined_next joined_more

-- ---- bytes that are echoed

-- n more characters of a run can be taken, and output is not halted
pub record MayType (modes : Settings) (n : ℕ) (port : OnPort) : Type 0 where
  pub may : MayRun modes n port
  pub flows : is_halted port.output ≡ false

module _ (modes : Settings) (now : ℕ) (canonical : has_flag modes ICANON ≡ true) (echoes : has_flag modes ECHO ≡ true)
    (plain : (byte : ℕ) → 32 ≤ byte → byte ≤ 126 → IsPlain modes byte) (free : has_flag modes IXOFF ≡ false) where
  -- in place of the edited line, the wire and the column, what the rules make of them
  echoed : (b : ℕ) (port : OnPort)
      → 32 ≤ b
      → b ≤ 126
      → length port.tty.edit < MOST_LINE
      → is_halted port.output ≡ false
      → after_typed now (b ∷ []) port
      ≡ with_echo modes (event.Plain b) (record port { tty = with_line_bytes now (b ∷ []) port.tty })
  echoed b port low high short flows =
      let tty : NTtyState = port.tty in
      let output : Output = port.output in
      let room : nat_le (length tty.edit + 1) MOST_LINE ≡ true = le-leb (length tty.edit + 1) MOST_LINE (omega arith) in
      let line : tty.edit ++ b ∷ [] ≡ after_change tty.edit (AddBytes (b ∷ [])) = sym (cond-true _ _ _ room) in
      let fits : has_room output (b ∷ []) ≡ true = ap (λ h. not h || nat_le 1 (room_of output)) flows in
      let sent : on_wire output (b ∷ []) ≡ after_try output (b ∷ []) =
      sym (cond-true _ _ _ fits ∙ cond-false _ _ _ flows) in
      let column : tty.column + 1 ≡ cond (has_room output (b ∷ [])) (tty.column + 1) tty.column =
      sym (cond-true _ _ _ fits) in
      let tally : port.tally ≡ tally_after_try output (b ∷ []) port.tally =
      sym (tally_after_try-fits output (b ∷ []) port.tally fits) in
      (λ i. on_port
      (record tty { edit = line i; start = start_of tty.edit tty.start tty.column; last = now; column = column i })
      (sent i) (tally i))
      ∙ echoed_plainly modes b (with_line_bytes now (b ∷ []) tty) output port.tally echoes low high

  typed_one : (c : Flagged) (n : ℕ) (port : OnPort)
      → IsTyped c
      → MayType modes (suc n) port
      → after_typed now (c.byte ∷ []) port ≡ after_character modes now c port
  typed_one c n port typed may =
      let b : ℕ = c.byte in
      let short : length port.tty.edit < MOST_LINE = omega (arith, may.may.room) in
      let ordinary : after_typed now (b ∷ []) port ≡ after_ordinary modes now b port =
      echoed b port typed.low typed.high short may.flows
      ∙ ap (with_echo modes (event.Plain b)) (joined modes now canonical plain free b port typed.high short) in
      by_rules modes now canonical plain free c port (after_typed now (b ∷ []) port)
      typed may.may.unquoted may.may.quiet ordinary

  typed_next : (b n : ℕ) (port : OnPort) → MayType modes (suc n) port → MayType modes n (after_typed now (b ∷ []) port)
  typed_next b n port may = record {
    may = record {
      unquoted = may.may.unquoted;
      quiet = may.may.quiet;
      ends = may.may.ends;
      room = omega (arith, may.may.room, length-append port.tty.edit (b ∷ []));
    };
    flows = may.flows;
  }

  typed_more : (b : ℕ) (bytes : List ℕ) (port : OnPort)
      → after_typed now (b ∷ bytes) port ≡ after_typed now bytes (after_typed now (b ∷ []) port)
  typed_more b [] port = refl
  typed_more b (d ∷ bytes) port =
      let tty = port.tty in
      let output = port.output in
      let line : tty.edit ++ b ∷ d ∷ bytes ≡ (tty.edit ++ b ∷ []) ++ d ∷ bytes =
      sym (append_assoc tty.edit (b ∷ []) (d ∷ bytes)) in
      let start = start_stays tty.edit b tty.start tty.column (tty.column + 1) in
      let column : tty.column + length (b ∷ d ∷ bytes) ≡ tty.column + 1 + length (d ∷ bytes) = omega arith in
      let wire : output.wire ++ b ∷ d ∷ bytes ≡ (output.wire ++ b ∷ []) ++ d ∷ bytes =
      sym (append_assoc output.wire (b ∷ []) (d ∷ bytes)) in
      let spare : output.spare - length (b ∷ d ∷ bytes) ≡ output.spare - 1 - length (d ∷ bytes) = omega arith in
      λ i. on_port (record tty { edit = line i; start = start i; last = now; column = column i })
      (record output { wire = wire i; spare = spare i }) port.tally

  pub typed_run : (cs : List Flagged) (port : OnPort)
      → AllByRecursion IsTyped cs
      → MayType modes (length cs) port
      → after_typed now (bytes_in cs) port ≡ after_characters modes now cs port
  typed_run = by_one modes now (after_typed now) IsTyped (MayType modes) (λ port. refl) typed_one
      (λ n port may. accepts_in_run modes n port may.may) typed_next typed_more

  pub accepts_typed : (cs : List Flagged) (port : OnPort)
      → AllByRecursion IsTyped cs
      → MayType modes (length cs) port
      → AcceptsAll modes now cs port
  accepts_typed = accepts_run modes now (after_typed now) IsTyped (MayType modes) (λ port. refl) typed_one
      (λ n port may. accepts_in_run modes n port may.may) typed_next typed_more
