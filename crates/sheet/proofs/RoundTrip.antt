-- Reading and writing a sheet undo each other, by what is shown of a whole sheet.
use Prim.Native.Nat.{ℕ, ◌<◌}
use mathlib.Core.Path.{◌≡◌, sym, ap, ◌∙◌}
use mathlib.Core.List.{List}
use lib.ListN.{length, get_or, take}
use Rattle.std.specs.Prelude.{Ok}
use Rattle.sheet.specs.declared.PathValue.{PathValue}
use Rattle.sheet.specs.Forms.{stands_for}
use Rattle.sheet.specs.Sheets.{value_in, read_sheet, sheet_of_value, write_answer, bytes_written}
use Rattle.sheet.proofs.Forms.{same-sheet}
use Rattle.sheet.proofs.Sheets.{value_read, SheetWritten, sheet-written, accepted-stands, accepted-is, standing-read, written_stands, written-is, standing-answer, standing-bytes}

-- each sheet that is written is read back in the same form as the same path
pub written-then-read : (value : PathValue) (lent : List ℕ) (n : ℕ) → length value.operators ≡ 16 → write_answer value lent ≡ Ok n
    → (back : PathValue) × (read_sheet (take n (bytes_written value lent)) ≡ Ok back) × (back.form ≡ value.form) × (stands_for back ≡ stands_for value)
written-then-read value lent n whole answer =
    let stands = written_stands value lent answer in
    let read = value_read value lent stands whole in
    let bytes : take n (bytes_written value lent) ≡ sheet_of_value value = rw (written-is value lent answer) (standing-bytes value lent stands) in
    (value_in (sheet_of_value value), ap read_sheet bytes ∙ standing-read (sheet_of_value value) read.stands, read.form, read.path)

accepted-written : (sheet : List ℕ) {value : PathValue} → read_sheet sheet ≡ Ok value → SheetWritten sheet value
accepted-written sheet accepted = rw (accepted-is sheet accepted) (sheet-written sheet (accepted-stands sheet accepted))

pub read-is-written : (sheet : List ℕ) {value : PathValue} → ((k : ℕ) → get_or sheet k 0 < 256) → read_sheet sheet ≡ Ok value → sheet_of_value value ≡ sheet
read-is-written sheet each accepted = (accepted-written sheet accepted).written each

-- each accepted sheet, read and written, gives the same bytes
pub read-then-written : (sheet lent : List ℕ) (value : PathValue) → ((k : ℕ) → get_or sheet k 0 < 256) → length lent ≡ 256 → read_sheet sheet ≡ Ok value
    → (write_answer value lent ≡ Ok (length sheet)) × (take (length sheet) (bytes_written value lent) ≡ sheet)
read-then-written sheet lent value each size accepted =
    let stands = (accepted-written sheet accepted).stands lent size in
    let back = read-is-written sheet each accepted in (
      standing-answer value lent stands ∙ ap (λ (bytes : List ℕ). Ok (length bytes)) back,
      rw back at (standing-bytes value lent stands),
    )

-- and so no two sheets of one form are read as one path
pub one-sheet-a-path : (first second : List ℕ) (one other : PathValue) → ((k : ℕ) → get_or first k 0 < 256) → ((k : ℕ) → get_or second k 0 < 256)
    → read_sheet first ≡ Ok one → read_sheet second ≡ Ok other → one.form ≡ other.form → stands_for one ≡ stands_for other → first ≡ second
one-sheet-a-path first second one other first-bytes second-bytes first-accepted second-accepted form path =
    sym (read-is-written first first-bytes first-accepted) ∙ same-sheet one other form path ∙ read-is-written second second-bytes second-accepted
