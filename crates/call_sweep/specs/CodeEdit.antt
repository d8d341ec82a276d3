-- An edit in two parts, as code makes it: which entries it is meant for, and what it makes of one of them; and what a sweep
-- stores.
use Rattle.std.specs.Prelude.{Bool, List, [], ℕ}
use Rattle.disk_geometry.specs.declared.Geometry.{Geometry}
use Rattle.disk_volume.specs.declared.Wanted.{Wanted}
use Rattle.disk_volume.specs.declared.Wanted.TheVariants.{File, Match}
use Rattle.disk_volume.specs.Name.{strip}
use Rattle.disk_volume.specs.Entry.{Entry}
use Rattle.disk_volume.specs.Directory.{fits}
use Rattle.disk_stores.specs.Pieces.{meant_only}
use Rattle.disk_stores.specs.Stores.{Store, directory_records, sweep_stores}
use Rattle.call_sweep.specs.declared.Edit.{Edit}
use Rattle.call_sweep.specs.declared.Edit.TheVariants.{Erase, Rename, Attributes}
use Rattle.call_sweep.specs.Sweep.{erased, renamed, attributed}

abbrev pub meant : Edit → Wanted
meant Erase = Match
meant Rename = File
meant Attributes = File

abbrev pub edited : Edit → List ℕ → Entry → Entry
edited Erase new e = erased e
edited Rename new e = renamed e new
edited Attributes new e = attributed e new

-- the entries that an edit is meant for, by a name (or pattern) as it is lent, with top bits; and the change of an entry
abbrev pub lent_meant : Geometry → Edit → ℕ → List ℕ → Entry → Bool
lent_meant g edit u name = fits g u (strip name) (meant edit)

abbrev pub lent_change : Geometry → Edit → ℕ → List ℕ → List ℕ → Entry → Entry
lent_change g edit u name new = meant_only (lent_meant g edit u name) (edited edit new)

-- the stores of the sweep
abbrev pub edit_stores : Geometry → Edit → ℕ → List ℕ → List ℕ → List ℕ → List Store
edit_stores g edit u name new v = sweep_stores g (lent_meant g edit u name) (edited edit new) v 0 (directory_records g)

-- an entry that is erased has no use for a new name
abbrev pub erase_stores : Geometry → ℕ → List ℕ → List ℕ → List Store
erase_stores g u pattern v = edit_stores g Erase u pattern [] v
