-- What the reader's value is as plain data.
use Rattle.std.specs.Prelude.{map}
use Rattle.further_text.specs.Views.{base_of}
use Rattle.modem_text.specs.declared.reader.ModemReader.{ModemReader}
use Rattle.modem_text.specs.Sessions.{part_of}
use Rattle.modem_text.specs.Reading.{ModemReading}

abbrev pub modem_reading_of : ModemReader → ModemReading
modem_reading_of r = record {
  base = base_of r.base;
  open_block = r.block;
  modems = r.modems.items;
  callers = r.callers.items;
  part = record { pins = r.pins.items; own = r.own.items };
  parts = map part_of r.parts.items;
}
