-- What the definition names of the file is what the calls answered.
use Rattle.files.specs.Line.{file_bytes}
use Rattle.disk_volume.specs.Name.{name_at}
use Rattle.lists.specs.Bytes.{part}
use Rattle.files.proofs.line.put_file_of.Goals as goal

pub returns : goal.returns
unfolding file_bytes name_at part
returns c = rw (← c.is_marked-read_only.ensures, ← c.is_marked-system.ensures, ← c.size_of-records.ensures.0, ← c.blocks_of-blocks.ensures) c.put_line.ensures
