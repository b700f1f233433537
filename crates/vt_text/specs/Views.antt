-- What the reader's value is as plain data.
use Rattle.std.specs.Prelude.{map}
use Rattle.session_text.specs.Views.{reading_of}
use Rattle.vt_text.specs.declared.reader.VtReader.{VtReader}
use Rattle.vt_text.specs.Sessions.{operators_of, vt_phase_of}
use Rattle.vt_text.specs.Items.{PlainVtReading}

abbrev pub vt_reading_of : VtReader → PlainVtReading
vt_reading_of r = record {
  session = reading_of r.session;
  block = r.block;
  keys = r.keys.items;
  operators = operators_of r.operators.items;
  phases = map vt_phase_of r.phases.items;
  calls_left = r.calls_left;
  keys_left = r.keys_left;
}
