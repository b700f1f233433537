use Rattle.std.proofs.Common.{◌≡◌, ◌++◌, drop, string_bytes}
use Rattle.session_print.specs.Printing.{fields_text}
use Rattle.session_print.proofs.fields.put_fields.Given as goal

abbrev pub invariant-loop-field : goal.invariant-loop-field
invariant-loop-field l =
    string_bytes l.text ++ fields_text (drop l.field-index l.fields) l.end
    ≡ string_bytes l.initial.text ++ fields_text l.fields l.end
