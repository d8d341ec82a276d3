-- What is known once the tests of what is lent have passed.
use mathlib.Core.Path.{◌≡◌, refl}
use mathlib.Core.Bool.{true, ◌&&◌}
use mathlib.Core.List.{List}
use Prim.Native.Nat.{ℕ, ◌*◌, ◌≤◌}
use lib.Dec.{leb, eqb}
use lib.ListN.{length}
use borrow.Author.Tests.{not-false, eqb-true, leb-true}
use Rattle.lists.proofs.BoolLaws.{and_parts}
use Rattle.disk_geometry.specs.Geometry.{bytes}
use Rattle.call_answers.specs.declared.Refusal.TheVariants.{Closed, VolumeLength, FcbLength, BadCount, BufferLength}
use Rattle.call_answers.specs.Refusal.{is_none, first_met}
use Rattle.call_answers.proofs.Ladder.{unmet}
use Rattle.filecalls.specs.declared.Drive.{Drive}
use Rattle.filecalls.specs.State.{is_open}
use Rattle.several.specs.Several.{several_tests}

pub record LentPieces (d : Drive) (v f b : List ℕ) (k : ℕ) : Type 0 where
  pub opens : is_open d ≡ true
  pub volume : length v ≡ bytes d.geometry
  pub fcb : length f ≡ 36
  pub least : 1 ≤ k
  pub most : k ≤ 16
  pub buffer : length b ≡ 128 * k

pub lent_pieces : (d : Drive) (v f b : List ℕ) (k : ℕ) → is_none (first_met (several_tests d v f b k)) ≡ true → LentPieces d v f b k
unfolding several_tests
lent_pieces d v f b k e =
    let s = unmet Closed _ _ refl e in
    let x = unmet VolumeLength _ _ refl s.1 in
    let y = unmet FcbLength _ _ refl x.1 in
    let z = unmet BadCount _ _ refl y.1 in
    let w = unmet BufferLength _ _ refl z.1 in
    let n = and_parts (leb 1 k) (leb k 16) (not-false (leb 1 k && leb k 16) z.0) in
    record {
      opens = not-false (is_open d) s.0;
      volume = eqb-true (length v) (bytes d.geometry) (not-false (eqb (length v) (bytes d.geometry)) x.0);
      fcb = eqb-true (length f) 36 (not-false (eqb (length f) 36) y.0);
      least = leb-true 1 k n.0;
      most = leb-true k 16 n.1;
      buffer = eqb-true (length b) (128 * k) (not-false (eqb (length b) (128 * k)) w.0);
    }
