-- What the arguments may ask for.
use Rattle.std.specs.Prelude.{ℕ, ◌≤◌, ◌≡◌}
use Rattle.contact_box.specs.declared.arguments.Mode.{Mode}
use Rattle.contact_box.specs.declared.arguments.Mode.TheVariants.{Revision, LastWriteWins}
use Rattle.contact_box.specs.declared.arguments.Setup.{Setup}
use Rattle.contact_box.specs.declared.arguments.Asked.{Asked}
use Rattle.contact_box.specs.declared.arguments.Asked.TheVariants.{Serve, Record}

-- there is a table of so many rows in such a mode
pub record Makes (rows mode : ℕ) : Type 0 where
  pub some : 1 ≤ rows
  pub most : rows ≤ 256
  pub first : 1 ≤ mode
  pub last : mode ≤ 2

-- as a table's head has it
abbrev pub mode_number : Mode → ℕ
mode_number Revision = 1
mode_number LastWriteWins = 2

abbrev pub Fits : Setup → Type 0
Fits setup = Makes setup.rows (mode_number setup.mode)

abbrev pub Allowed : Asked → Type 0
Allowed (Serve setup) = Fits setup
Allowed (Record setup) = Fits setup × (setup.rows ≡ 32)
