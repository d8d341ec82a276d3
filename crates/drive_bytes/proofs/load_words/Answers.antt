-- The number of bytes says how many words are stored.
use mathlib.Core.Path.{ap, ◌∙◌}
use native.Mathlib.Omega.{arith}
use Rattle.drive_bytes.specs.Layout.{held_at, fields}
use Rattle.drive_bytes.proofs.LoadLaws.{drive_words}
use Rattle.drive_bytes.proofs.load_words.Goals as goal

pub words-requires : goal.words-requires
words-requires c =
    let s = c.args.s.now in
    let w = drive_words s c.requires.0 c.words_in.ensures in
    (omega arith, (w.few, c.requires.1))

pub returns : goal.returns
unfolding fields
returns c =
    let s = c.args.s.now in
    let w = drive_words s c.requires.0 c.words_in.ensures in
    c.words.ensures ∙ ap (held_at s) w.stored
