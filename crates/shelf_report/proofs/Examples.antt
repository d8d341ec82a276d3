-- The report, evaluated: of no volume, and of V, V after 01's writes and a short volume.
use mathlib.Core.Path.{◌≡◌, refl}
use Rattle.text.specs.Decimal.{decimal_in, decimal}
use Rattle.text.specs.Letters.{letters}
use Rattle.shelf_figures.specs.Shelf.{bare}
use Rattle.shelf_report.specs.Report.{line, report}

pub record Examples : Type 0 where
  pub no_volume_lem : report bare ≡ letters "0\n0\n0\n0\n0\n0\n0\n"
  -- refused, files, entries, records present, blocks held, blocks free, waste
  pub three_volumes : report (record { refused = 1; files = 1; entries = 2; records = 14; held = 3; free = 75; waste = 10; seen = 3 }) ≡ letters "1\n1\n2\n14\n3\n75\n10\n"

pub examples : Examples
unfolding report line decimal decimal_in
examples = record { no_volume_lem = refl; three_volumes = refl }
