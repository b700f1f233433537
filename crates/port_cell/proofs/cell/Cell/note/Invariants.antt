use Rattle.port_cell.proofs.cell.Cell.note.Given as goal

abbrev pub ghosts-tell : goal.ghosts-tell
ghosts-tell g a = record { told = g.V.Kept.list a.value.now }
