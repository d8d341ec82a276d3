-- The number of bytes says how many words are stored.
use mathlib.Core.Path.{ap, ◌∙◌}
use mathlib.Core.List.{◌++◌}
use Prim.Native.Nat.{ℕ}
use lib.ListN.{take}
use Rattle.drive_bytes.specs.Layout.{HELD_AT, held_bytes}
use Rattle.drive_bytes.proofs.LoadLaws.{drive_words}
use Rattle.drive_bytes.proofs.lay_words.Goals as goal

pub words-requires : goal.words-requires
words-requires c =
    let s = c.args.out.now in
    let w = drive_words s c.requires c.words_in-n.ensures in
    (w.fill, w.few)

pub returns : goal.returns
returns c =
    let a = c.args in
    let s = a.out.now in
    let w = drive_words s c.requires c.words_in-n.ensures in
    c.words.ensures ∙ ap (λ (n : ℕ). take HELD_AT s ++ held_bytes a.held.now 0 n) w.stored
