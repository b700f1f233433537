-- What N_TTY keeps on its port of characters that are bytes: unread input of bytes, few of them, counts of 64 bits,
-- and no more held output than can be held.
use Rattle.std.proofs.Common.{◌≡◌, ℕ, ◌+◌, ◌-◌, ◌^◌, ◌<◌, ◌≤◌, Bool, true, false, not, ◌&&◌, ◌||◌}
use Rattle.std.proofs.Common.{◌==◌, nat_le, if◌then◌else◌, Option, None, Some, List, [], ◌∷◌, ◌++◌}
use Rattle.std.proofs.Common.{length, map, take, arith, length-append, length-take, leb-true}
use Rattle.std.specs.List.{AllByRecursion}
use Rattle.std.proofs.lemmas.Bool.{cond_both, false≢true}
use Rattle.std.proofs.lemmas.Nat.{mod_below}
use Rattle.tty_base.specs.Sizes.{MOST_HELD}
use Rattle.tty_base.specs.declared.characters.Flag.{Flag}
use Rattle.tty_base.specs.declared.characters.Flag.TheVariants as flag
use Rattle.tty_base.specs.declared.characters.Flagged.{Flagged}
use Rattle.tty_base.specs.declared.counters.Counts.{Counts}
use Rattle.tty_base.specs.declared.counters.Signal.{Signal}
use Rattle.tty_base.specs.declared.counters.Signal.TheVariants.{Int}
use Rattle.tty_modes.specs.Settings.{Settings, has_flag, character}
use Rattle.tty_modes.specs.declared.places.TheConstants.{IGNBRK, BRKINT, IGNPAR, PARMRK, INPCK, ISTRIP, INLCR, IGNCR}
use Rattle.tty_modes.specs.declared.places.TheConstants.{ICRNL, IXON, IXANY, ICANON, IUTF8, NOFLSH, VSTART, VSTOP}
use Rattle.line_store.specs.Unread.{Item, Byte, End}
use Rattle.n_tty_edit.specs.Line.{AddBytes, after_change, erase_size, word_start}
use Rattle.n_tty_edit.specs.Width.{gone_of}
use Rattle.echo_out.specs.declared.EchoEvent.TheVariants as event
use Rattle.echo_out.specs.Echo.{echo_of}
use Rattle.flow_control.specs.Output.{Output, is_halted, room_of, has_room, after_send, after_try, after_start}
use Rattle.flow_control.specs.Counting.{count_after, with_count}
use Rattle.flow_control.specs.declared.tally.Counter.{Counter}
use Rattle.flow_control.specs.declared.tally.Counter.TheVariants as counter
use Rattle.flow_control.specs.declared.tally.Tally.{Tally}
use Rattle.n_tty.specs.declared.roles.Role.{Role}
use Rattle.n_tty.specs.declared.roles.Role.TheVariants as role
use Rattle.n_tty.specs.States.{NTtyState, OnPort, unread_count, has_piece}
use Rattle.n_tty.specs.Posting.{posted_echo, after_echo}
use Rattle.n_tty.specs.Storing.{after_store, with_piece, with_eof_piece}
use Rattle.n_tty.specs.Editing.{with_line, echo_of_erase, echo_of_kill, echo_of_word_erase}
use Rattle.n_tty.specs.Flow.{after_signal, must_stop, may_start, after_ixoff_rule}
use Rattle.n_tty.specs.Roles.{is_character, signal_of, mapped_byte, role_of}
use Rattle.n_tty.specs.Receiving.{with_one_more, with_quoted, stripped_byte, ordinary_bytes, after_resume_where}
use Rattle.n_tty.specs.Receiving.{after_ordinary, after_role, after_mapped, after_unsteered, after_unquoted}
use Rattle.n_tty.specs.Receiving.{after_good, after_break, after_bad, after_flagged, after_character}
use Rattle.n_tty.proofs.StoringLemmas.{length-bytes_of-plain, length-bytes_of-piece}
use Rattle.check_text.specs.Printed.{AreCounts}
use Rattle.read_back.proofs.Lists.{AllBytes, each_of_both, each_taken, each_mapped}

-- ---- what is kept

abbrev pub IsByteItem : Item → Type 0
IsByteItem (Byte b) = b < 256
IsByteItem End = Unit {0}

-- unread input of bytes, of which there are so many at most
pub record IsByteTty (most : ℕ) (tty : NTtyState) : Type 0 where
  pub items : AllByRecursion IsByteItem tty.items
  pub edit : AllBytes tty.edit
  pub few : unread_count tty ≤ most

pub record IsBytePort (most : ℕ) (port : OnPort) : Type 0 where
  pub tty : IsByteTty most port.tty
  pub counts : AreCounts port.tally.counts
  pub held : length port.output.held ≤ MOST_HELD

pub tty_more : (n m : ℕ) (tty : NTtyState) → n ≤ m → IsByteTty n tty → IsByteTty m tty
tty_more n m tty few h = record { items = h.items; edit = h.edit; few = omega (arith, few, h.few) }

more : (n m : ℕ) (port : OnPort) → n ≤ m → IsBytePort n port → IsBytePort m port
more n m port few h = record { tty = tty_more n m port.tty few h.tty; counts = h.counts; held = h.held }

byte_items : (bytes : List ℕ) → AllBytes bytes → AllByRecursion IsByteItem (map Byte bytes)
byte_items bytes h = each_mapped IsByteItem Byte bytes h

-- ---- counts

counted : (count more : ℕ) → count_after count more < 2 ^ 64
counted count more = omega arith

pub counts_kept : (counts : Counts) (kind : Counter) (n : ℕ) → AreCounts counts → AreCounts (with_count counts kind n)
counts_kept counts counter.Mark n h = record {
  mark = counted counts.mark n;
  parity = h.parity;
  frame = h.frame;
  breaks = h.breaks;
  cut = h.cut;
  echo = h.echo;
  pin = h.pin;
  pout = h.pout;
  pbad = h.pbad;
  pfull = h.pfull;
}
counts_kept counts counter.Parity n h = record {
  mark = h.mark;
  parity = counted counts.parity n;
  frame = h.frame;
  breaks = h.breaks;
  cut = h.cut;
  echo = h.echo;
  pin = h.pin;
  pout = h.pout;
  pbad = h.pbad;
  pfull = h.pfull;
}
counts_kept counts counter.Frame n h = record {
  mark = h.mark;
  parity = h.parity;
  frame = counted counts.frame n;
  breaks = h.breaks;
  cut = h.cut;
  echo = h.echo;
  pin = h.pin;
  pout = h.pout;
  pbad = h.pbad;
  pfull = h.pfull;
}
counts_kept counts counter.Break n h = record {
  mark = h.mark;
  parity = h.parity;
  frame = h.frame;
  breaks = counted counts.breaks n;
  cut = h.cut;
  echo = h.echo;
  pin = h.pin;
  pout = h.pout;
  pbad = h.pbad;
  pfull = h.pfull;
}
counts_kept counts counter.Cut n h = record {
  mark = h.mark;
  parity = h.parity;
  frame = h.frame;
  breaks = h.breaks;
  cut = counted counts.cut n;
  echo = h.echo;
  pin = h.pin;
  pout = h.pout;
  pbad = h.pbad;
  pfull = h.pfull;
}
counts_kept counts counter.Echo n h = record {
  mark = h.mark;
  parity = h.parity;
  frame = h.frame;
  breaks = h.breaks;
  cut = h.cut;
  echo = counted counts.echo n;
  pin = h.pin;
  pout = h.pout;
  pbad = h.pbad;
  pfull = h.pfull;
}
counts_kept counts counter.PacketIn n h = record {
  mark = h.mark;
  parity = h.parity;
  frame = h.frame;
  breaks = h.breaks;
  cut = h.cut;
  echo = h.echo;
  pin = counted counts.pin n;
  pout = h.pout;
  pbad = h.pbad;
  pfull = h.pfull;
}
counts_kept counts counter.PacketOut n h = record {
  mark = h.mark;
  parity = h.parity;
  frame = h.frame;
  breaks = h.breaks;
  cut = h.cut;
  echo = h.echo;
  pin = h.pin;
  pout = counted counts.pout n;
  pbad = h.pbad;
  pfull = h.pfull;
}
counts_kept counts counter.PacketBad n h = record {
  mark = h.mark;
  parity = h.parity;
  frame = h.frame;
  breaks = h.breaks;
  cut = h.cut;
  echo = h.echo;
  pin = h.pin;
  pout = h.pout;
  pbad = counted counts.pbad n;
  pfull = h.pfull;
}
counts_kept counts counter.PacketFull n h = record {
  mark = h.mark;
  parity = h.parity;
  frame = h.frame;
  breaks = h.breaks;
  cut = h.cut;
  echo = h.echo;
  pin = h.pin;
  pout = h.pout;
  pbad = h.pbad;
  pfull = counted counts.pfull n;
}

-- ---- output

-- no more is held than can be
abbrev pub HeldFits : Output → Type 0
HeldFits output = length output.held ≤ MOST_HELD

fits_halted : (halted fits : Bool) → (not halted || fits) ≡ true → halted ≡ true → fits ≡ true
fits_halted true fits h is = h
fits_halted false fits h is = absurd (false≢true is)

pub sent_fits : (output : Output) (text : List ℕ)
    → has_room output text ≡ true
    → HeldFits output
    → HeldFits (after_send output text)
sent_fits output text room h =
    cond_both (is_halted output) _ _ HeldFits
    (λ halted. omega (
      arith,
      h,
      length-append output.held text,
      leb-true (length text) (room_of output)
          (fits_halted (is_halted output) (nat_le (length text) (room_of output)) room halted),
    ))
    (λ _. h)

tried_fits : (output : Output) (text : List ℕ) → HeldFits output → HeldFits (after_try output text)
tried_fits output text h = cond_both (has_room output text) _ _ HeldFits (λ room. sent_fits output text room h) (λ _. h)

pub started_fits : (output : Output) → HeldFits output → HeldFits (after_start output)
started_fits output h =
    cond_both (is_halted (record output { stopped = false })) _ _ HeldFits (λ _. h) (λ _. omega arith)

pub rule_fits : (modes : Settings) (unread : ℕ) (complete : Bool) (output : Output)
    → HeldFits output
    → HeldFits (after_ixoff_rule modes unread complete output)
rule_fits modes unread complete output h =
    cond_both (must_stop modes unread complete output) _ _ HeldFits
    (λ _. cond_both (character modes VSTOP == 0) output _ HeldFits (λ _. h) (λ _. h))
    (λ _. cond_both (may_start modes unread output) _ _ HeldFits
    (λ _. cond_both (character modes VSTART == 0) _ _ HeldFits (λ _. h) (λ _. h))
    (λ _. h))

-- ---- echo, and what is stored

echoed : (modes : Settings) (echo : List ℕ) (n : ℕ) (port : OnPort)
    → IsBytePort n port
    → IsBytePort n (after_echo modes echo port)
echoed modes echo n port h =
    let text = posted_echo modes port echo in
    record {
      tty = record { items = h.tty.items; edit = h.tty.edit; few = h.tty.few };
      counts = cond_both (has_room port.output text) _ _ (λ (t : Tally). AreCounts t.counts) (λ _. h.counts)
          (λ _. counts_kept port.tally.counts counter.Echo (length text) h.counts);
      held = tried_fits port.output text h.held;
    }

added_bytes : (line bytes : List ℕ) → AllBytes line → AllBytes bytes → AllBytes (after_change line (AddBytes bytes))
added_bytes line bytes h k = cond_both (nat_le (length line + length bytes) 4095) _ _ AllBytes
    (λ _. each_of_both (λ b. b < 256) line bytes h k) (λ _. h)

added_few : (line bytes : List ℕ) → length (after_change line (AddBytes bytes)) ≤ length line + length bytes
added_few line bytes = cond_both (nat_le (length line + length bytes) 4095) _ _
    (λ (xs : List ℕ). length xs ≤ length line + length bytes) (λ _. omega (arith, length-append line bytes))
    (λ _. omega arith)

stored : (modes : Settings) (now : ℕ) (bytes : List ℕ) (n m : ℕ) (port : OnPort)
    → AllBytes bytes
    → n + length bytes ≤ m
    → IsBytePort n port
    → IsBytePort m (after_store modes now bytes port)
stored modes now bytes n m port are few h =
    let before = h.tty.few in
    cond_both (has_flag modes ICANON) _ _ (IsBytePort m)
    (λ _. cond_both (nat_le (length port.tty.edit + length bytes) 4095) _ _ (IsBytePort m)
    (λ _. record {
      tty = record {
        items = h.tty.items;
        edit = added_bytes port.tty.edit bytes h.tty.edit are;
        few = omega (arith, before, few, added_few port.tty.edit bytes);
      };
      counts = h.counts;
      held = h.held;
    })
    (λ _. record {
      tty = tty_more n m port.tty (omega (arith, few)) h.tty;
      counts = counts_kept port.tally.counts counter.Cut 1 h.counts;
      held = h.held;
    }))
    (λ _. record {
      tty = record {
        items = each_of_both IsByteItem port.tty.items (map Byte bytes) h.tty.items (byte_items bytes are);
        edit = h.tty.edit;
        few = omega (arith, before, few, length-bytes_of-plain port.tty.items bytes);
      };
      counts = h.counts;
      held = h.held;
    })

-- ---- the ways to take a character

ordinary_are : (modes : Settings) (b : ℕ) → b < 256 → AllBytes (ordinary_bytes modes b)
ordinary_are modes b small = cond_both (has_flag modes PARMRK && not (has_flag modes ISTRIP) && b == 255) _ _ AllBytes
    (λ _. (omega arith, (omega arith, tt))) (λ _. (small, tt))

ordinary_few : (modes : Settings) (b : ℕ) → length (ordinary_bytes modes b) ≤ 3
ordinary_few modes b = cond_both (has_flag modes PARMRK && not (has_flag modes ISTRIP) && b == 255) _ _
    (λ (xs : List ℕ). length xs ≤ 3) (λ _. omega arith) (λ _. omega arith)

by_ordinary : (modes : Settings) (now b n : ℕ) (port : OnPort)
    → b < 256
    → IsBytePort n port
    → IsBytePort (n + 3) (after_ordinary modes now b port)
by_ordinary modes now b n port small h =
    echoed modes (echo_of modes (event.Plain b)) (n + 3) (after_store modes now (ordinary_bytes modes b) port)
    (stored modes now (ordinary_bytes modes b) n (n + 3) port (ordinary_are modes b small)
    (omega (arith, ordinary_few modes b)) h)

by_piece : (now b n : ℕ) (port : OnPort)
    → b < 256
    → IsBytePort n port
    → IsBytePort (n + 3) (record port { tty = with_piece now b port.tty })
by_piece now b n port small h =
    let before = h.tty.few in
    let tail : List Item = Byte b ∷ End ∷ [] in
    record {
      tty = record {
        items = each_of_both IsByteItem port.tty.items (map Byte port.tty.edit ++ tail) h.tty.items
            (each_of_both IsByteItem (map Byte port.tty.edit) tail (byte_items port.tty.edit h.tty.edit)
            (small, (tt, tt)));
        edit = tt;
        few = omega (arith, before, length-bytes_of-piece port.tty.items port.tty.edit tail);
      };
      counts = h.counts;
      held = h.held;
    }

by_eof : (n : ℕ) (port : OnPort)
    → IsBytePort n port
    → IsBytePort (n + 3) (record port { tty = with_eof_piece port.tty })
by_eof n port h =
    let before = h.tty.few in
    let tail : List Item = End ∷ [] in
    record {
      tty = record {
        items = each_of_both IsByteItem port.tty.items (map Byte port.tty.edit ++ tail) h.tty.items
            (each_of_both IsByteItem (map Byte port.tty.edit) tail (byte_items port.tty.edit h.tty.edit) (tt, tt));
        edit = tt;
        few = omega (arith, before, length-bytes_of-piece port.tty.items port.tty.edit tail);
      };
      counts = h.counts;
      held = h.held;
    }

-- the first bytes of the line stay
by_line : (k n : ℕ) (port : OnPort) → IsBytePort n port → IsBytePort (n + 3) (with_line (take k port.tty.edit) port)
by_line k n port h =
    let before = h.tty.few in
    record {
      tty = record {
        items = h.tty.items;
        edit = each_taken (λ b. b < 256) k port.tty.edit h.tty.edit;
        few = omega (arith, before, length-take k port.tty.edit);
      };
      counts = h.counts;
      held = h.held;
    }

by_clear : (n : ℕ) (port : OnPort) → IsBytePort n port → IsBytePort (n + 3) (with_line [] port)
by_clear n port h =
    let before = h.tty.few in
    record {
      tty = record { items = h.tty.items; edit = tt; few = omega (arith, before) };
      counts = h.counts;
      held = h.held;
    }

quoting : (quoted : Bool) (n : ℕ) (port : OnPort) → IsBytePort n port → IsBytePort n (with_quoted quoted port)
quoting quoted n port h = record {
  tty = record { items = h.tty.items; edit = h.tty.edit; few = h.tty.few };
  counts = h.counts;
  held = h.held;
}

by_role : (modes : Settings) (now : ℕ) (r : Role) (b n : ℕ) (port : OnPort)
    → b < 256
    → IsBytePort n port
    → IsBytePort (n + 3) (after_role modes now r b port)
by_role modes now role.Erase b n port small h =
    echoed modes (echo_of_erase modes (gone_of modes port.tty.start port.tty.edit)) (n + 3) _
    (by_line (length port.tty.edit - erase_size (has_flag modes IUTF8) port.tty.edit) n port h)
by_role modes now role.Kill b n port small h =
    echoed modes (echo_of_kill modes port.tty.start port.tty.edit) (n + 3) _ (by_clear n port h)
by_role modes now role.WordErase b n port small h =
    echoed modes (echo_of_word_erase modes port.tty) (n + 3) _ (by_line (word_start port.tty.edit) n port h)
by_role modes now role.Quote b n port small h = echoed modes (echo_of modes event.Quoted) (n + 3) _
    (quoting true (n + 3) port (more n (n + 3) port (omega arith) h))
by_role modes now role.Newline b n port small h =
    echoed modes (echo_of modes event.Newline) (n + 3) _ (by_piece now b n port small h)
by_role modes now role.Eof b n port small h = by_eof n port h
by_role modes now role.Delimiter b n port small h =
    echoed modes (echo_of modes (event.Plain b)) (n + 3) _ (by_piece now b n port small h)
by_role modes now role.Ordinary b n port small h = by_ordinary modes now b n port small h

abbrev IsByteIfSome : Option ℕ → Type 0
IsByteIfSome None = Unit {0}
IsByteIfSome (Some b) = b < 256

mapped_small : (modes : Settings) (b : ℕ) → b < 256 → IsByteIfSome (mapped_byte modes b)
mapped_small modes b small =
    cond_both (b == 13) _ _ IsByteIfSome
    (λ _. cond_both (has_flag modes IGNCR) _ _ IsByteIfSome (λ _. tt)
    (λ _. cond_both (has_flag modes ICRNL) _ _ IsByteIfSome (λ _. omega arith) (λ _. omega arith)))
    (λ _. cond_both (b == 10 && has_flag modes INLCR) _ _ IsByteIfSome (λ _. omega arith) (λ _. small))

by_mapped : (modes : Settings) (now : ℕ) (m : Option ℕ) (n : ℕ) (port : OnPort)
    → IsByteIfSome m
    → IsBytePort n port
    → IsBytePort (n + 3) (after_mapped modes now m port)
by_mapped modes now None n port small h = more n (n + 3) port (omega arith) h
by_mapped modes now (Some b) n port small h =
    cond_both (has_flag modes ICANON) _ _ (IsBytePort (n + 3))
    (λ _. by_role modes now (role_of modes b) b n port small h) (λ _. by_ordinary modes now b n port small h)

signalled : (modes : Settings) (signal : Signal) (n : ℕ) (port : OnPort)
    → IsBytePort n port
    → IsBytePort n (after_signal modes signal port)
signalled modes signal n port h =
    cond_both (has_flag modes NOFLSH) _ _ (IsBytePort n)
    (λ _. record { tty = h.tty; counts = h.counts; held = h.held })
    (λ _. record { tty = record { items = tt; edit = tt; few = omega arith }; counts = h.counts; held = omega arith })

resumed : (applies : Bool) (n : ℕ) (port : OnPort) → IsBytePort n port → IsBytePort n (after_resume_where applies port)
resumed true n port h = record { tty = h.tty; counts = h.counts; held = started_fits port.output h.held }
resumed false n port h = h

by_unsteered : (modes : Settings) (now b : ℕ) (signal : Option Signal) (n : ℕ) (port : OnPort)
    → b < 256
    → IsBytePort n port
    → IsBytePort (n + 3) (after_unsteered modes now b signal port)
by_unsteered modes now b (Some signal) n port small h =
    more n (n + 3) _ (omega arith)
    (echoed modes (echo_of modes (event.Plain b)) n _
    (resumed (has_flag modes IXON) n _ (signalled modes signal n port h)))
by_unsteered modes now b None n port small h =
    by_mapped modes now (mapped_byte modes b) n port (mapped_small modes b small) h

by_unquoted : (modes : Settings) (now b n : ℕ) (port : OnPort)
    → b < 256
    → IsBytePort n port
    → IsBytePort (n + 3) (after_unquoted modes now b port)
by_unquoted modes now b n port small h =
    cond_both (has_flag modes IXON && is_character modes VSTART b) _ _ (IsBytePort (n + 3))
    (λ _. more n (n + 3) _ (omega arith) (resumed true n port h))
    (λ _. cond_both (has_flag modes IXON && is_character modes VSTOP b) _ _ (IsBytePort (n + 3))
    (λ _. record { tty = tty_more n (n + 3) port.tty (omega arith) h.tty; counts = h.counts; held = h.held })
    (λ _. by_unsteered modes now b (signal_of modes b) n _ small
    (resumed (has_flag modes IXON && has_flag modes IXANY) n port h)))

stripped_small : (modes : Settings) (b : ℕ) → b < 256 → stripped_byte modes b < 256
stripped_small modes b small = cond_both (has_flag modes ISTRIP) _ _ (λ (x : ℕ). x < 256)
    (λ _. omega (arith, mod_below b 128 (omega arith))) (λ _. small)

by_good : (modes : Settings) (now b n : ℕ) (port : OnPort)
    → b < 256
    → IsBytePort n port
    → IsBytePort (n + 3) (after_good modes now b port)
by_good modes now b n port small h =
    cond_both port.tty.quoted _ _ (IsBytePort (n + 3))
    (λ _. by_ordinary modes now (stripped_byte modes b) n (with_quoted false port) (stripped_small modes b small)
    (quoting false n port h))
    (λ _. by_unquoted modes now (stripped_byte modes b) n port (stripped_small modes b small) h)

-- what is stored for a character that is not good
record IsMark (bytes : List ℕ) : Type 0 where
  are : AllBytes bytes
  few : length bytes ≤ 3

marked : (modes : Settings) (b : ℕ) → b < 256 → IsMark (if has_flag modes PARMRK then 255 ∷ 0 ∷ b ∷ [] else 0 ∷ [])
marked modes b small = cond_both (has_flag modes PARMRK) _ _ IsMark
    (λ _. record { are = (omega arith, (omega arith, (small, tt))); few = omega arith })
    (λ _. record { are = (omega arith, tt); few = omega arith })

by_mark : (modes : Settings) (now : ℕ) (bytes : List ℕ) (n : ℕ) (port : OnPort)
    → IsMark bytes
    → IsBytePort n port
    → IsBytePort (n + 3) (after_store modes now bytes port)
by_mark modes now bytes n port mark h =
    let few = mark.few in stored modes now bytes n (n + 3) port mark.are (omega (arith, few)) h

by_break : (modes : Settings) (now n : ℕ) (port : OnPort)
    → IsBytePort n port
    → IsBytePort (n + 3) (after_break modes now port)
by_break modes now n port h =
    cond_both (has_flag modes IGNBRK) _ _ (IsBytePort (n + 3)) (λ _. more n (n + 3) port (omega arith) h)
    (λ _. cond_both (has_flag modes BRKINT) _ _ (IsBytePort (n + 3))
    (λ _. more n (n + 3) _ (omega arith) (signalled modes Int n port h))
    (λ _. by_mark modes now _ n port (marked modes 0 (omega arith)) h))

by_bad : (modes : Settings) (now b n : ℕ) (port : OnPort)
    → b < 256
    → IsBytePort n port
    → IsBytePort (n + 3) (after_bad modes now b port)
by_bad modes now b n port small h =
    cond_both (not (has_flag modes INPCK)) _ _ (IsBytePort (n + 3)) (λ _. by_good modes now b n port small h)
    (λ _. cond_both (has_flag modes IGNPAR) _ _ (IsBytePort (n + 3)) (λ _. more n (n + 3) port (omega arith) h)
    (λ _. by_mark modes now _ n port (marked modes b small) h))

counting : (kind : Counter) (n : ℕ) (port : OnPort) → IsBytePort n port → IsBytePort n (with_one_more kind port)
counting kind n port h = record { tty = h.tty; counts = counts_kept port.tally.counts kind 1 h.counts; held = h.held }

by_flag : (modes : Settings) (now : ℕ) (f : Flag) (b n : ℕ) (port : OnPort)
    → b < 256
    → IsBytePort n port
    → IsBytePort (n + 3) (after_flagged modes now f b port)
by_flag modes now flag.Normal b n port small h = by_good modes now b n port small h
by_flag modes now flag.Break b n port small h = by_break modes now n _ (counting counter.Break n port h)
by_flag modes now flag.Parity b n port small h = by_bad modes now b n _ small (counting counter.Parity n port h)
by_flag modes now flag.Frame b n port small h = by_bad modes now b n _ small (counting counter.Frame n port h)
by_flag modes now flag.Overrun b n port small h = more n (n + 3) _ (omega arith) (counting counter.Mark n port h)

pub by_character : (modes : Settings) (now : ℕ) (c : Flagged) (n : ℕ) (port : OnPort)
    → c.byte < 256
    → IsBytePort n port
    → IsBytePort (n + 3) (after_character modes now c port)
by_character modes now c n port small h =
    let u = after_flagged modes now c.flag c.byte port in
    let k = by_flag modes now c.flag c.byte n port small h in
    record {
      tty = k.tty;
      counts = k.counts;
      held = rule_fits modes (unread_count u.tty) (has_piece u.tty) u.output k.held;
    }
