-- Three parts fill the first 32 bytes, and the words fill the rest.
use mathlib.Core.Path.{ap, ◌∙◌}
use mathlib.Core.List.{List, ◌++◌}
use Prim.Native.Nat.{ℕ}
use native.Mathlib.Omega.{arith}
use Rattle.lists.specs.Bytes.{put}
use Rattle.disk_geometry.specs.Geometry.{blocks}
use Rattle.drive_bytes.specs.Layout.{stored_words, head_bytes, search_bytes, placing_bytes, held_bytes, front_bytes, encoded}
use Rattle.drive_bytes.proofs.LoadLaws.{at_least, counted}
use Rattle.drive_bytes.proofs.LayLaws.{three_laid, length_head, length_search, length_placing, placing_word}
use Rattle.drive_bytes.proofs.lay.put_drive.Goals as goal

pub returns : goal.returns
unfolding encoded front_bytes put
returns c =
    let a = c.args in
    let d = a.d in
    let q = d.search in
    let size = c.out-3-1.given.1 ∙ c.out-2-1.given.1 ∙ c.out-1.given.1 ∙ c.requires in
    let w = counted (blocks d.geometry) size c.words_in-n.ensures in
    c.words.ensures
    ∙ rw (w.stored, c.put_head.ensures, c.put_search.ensures, c.put_eight.ensures, placing_word d.geometry)
    (ap (λ (l : List ℕ). l ++ held_bytes d.held 0 (stored_words (blocks d.geometry)))
    (three_laid a.out.now (head_bytes d.geometry d.user d.protected) (search_bytes q.kind q.user q.last q.pattern) (placing_bytes d.geometry) 8 16 8 (omega (arith, c.requires, at_least (blocks d.geometry)))
    (length_head d.geometry d.user d.protected) (length_search q.kind q.user q.last q.pattern) (length_placing d.geometry)))
