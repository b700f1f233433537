-- What the reader's values are as plain data.
use Rattle.std.specs.Prelude.{map, option_map}
use Rattle.tty_calls.specs.Sessions.{PlainPhase, phase_of, script_of}
use Rattle.session_text.specs.declared.stands.Key.{Key}
use Rattle.session_text.specs.declared.stands.Stand.{Stand}
use Rattle.session_text.specs.declared.drafts.OpenPhase.{OpenPhase}
use Rattle.session_text.specs.declared.drafts.Draft.{Draft}
use Rattle.session_text.specs.declared.reader.Reader.{Reader}
use Rattle.session_text.specs.Stands.{PlainKey, PlainStand}
use Rattle.session_text.specs.Drafts.{PlainDraft}
use Rattle.session_text.specs.Reading.{PlainReading}

abbrev pub key_of : Key → PlainKey
key_of key = record { name = key.name.bytes; port = key.port }

abbrev pub stand_of : Stand → PlainStand
stand_of s = record {
  place = s.place;
  version = s.version;
  ports = s.ports;
  flips = s.flips.items;
  lines = s.lines.items;
  clocks = s.clocks.items;
  callers = map key_of s.callers.items;
  port = s.port;
  phases_left = s.phases_left;
  steps_left = s.steps_left;
  characters_left = s.characters_left;
  ticks_left = s.ticks_left;
}

abbrev pub phase_view : OpenPhase → PlainPhase
phase_view p = record {
  lines = map (λ steps. steps.items) p.lines.items;
  ticks = p.ticks.items;
  callers = map script_of p.callers.items;
}

abbrev pub draft_of : Draft → PlainDraft
draft_of d = record {
  flips = d.flips.items;
  phases = map phase_of d.phases.items;
  open_phase = option_map phase_view d.open_phase;
}

-- a reader's two parts, as they are lent
abbrev pub reading_at : Stand → Draft → PlainReading
reading_at s d = record { stand = stand_of s; draft = draft_of d }

abbrev pub reading_of : Reader → PlainReading
reading_of r = record { stand = stand_of r.stand; draft = draft_of r.draft }
