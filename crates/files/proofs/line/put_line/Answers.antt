-- The bytes are the definition's.
use mathlib.Core.Path.{◌≡◌}
use borrow.Author.Rules.{rules}
use Rattle.files.proofs.LineLaws.{name_bytes_lem, four_lowest, two_lowest}
use Rattle.files.specs.Line.{flag, line_bytes}
use Rattle.files.proofs.line.put_line.Goals as goal

pub returns : goal.returns
unfolding line_bytes
returns c =
    let records = four_lowest _ _ c.to_le_bytes-records.ensures in
    let blocks = two_lowest _ _ c.to_le_bytes-blocks.ensures in
    let first : flag c.args.read_only ≡ c.from.result = search rules in
    let second : flag c.args.system ≡ c.from-2.result = search rules in
    rw (name_bytes_lem _ c.requires.1, records, blocks, first, second) c.copy_from_slice.ensures.after
