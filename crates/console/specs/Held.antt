-- What a line and a sheet hold, as their callers see it.
use Rattle.std.specs.Prelude.{ℕ, Option, Some, None, List, take}
use Rattle.console.specs.declared.input.Line.{Line}
use Rattle.console.specs.declared.sheets.Sheet.{Sheet}

-- how many bytes a sheet has, and which
abbrev pub sheet_length : Sheet → ℕ
sheet_length sheet = sheet.length

abbrev pub sheet_bytes : Sheet → List ℕ
sheet_bytes sheet = take sheet.length sheet.bytes

-- the bytes of a line, as many as it has; none, where it has more than there are places
abbrev pub taken : List ℕ → Option ℕ → Option (List ℕ)
taken bytes (Some length) = Some (take length bytes)
taken bytes None = None

abbrev pub line_text : Line → Option (List ℕ)
line_text line = taken line.bytes line.length
