-- The fields of the types passed so far are laid.
use Rattle.loading.specs.Page.{field_bytes, field}
use Rattle.load_header.specs.Header.{CODE}
use Rattle.joined.specs.Joined.{joined}
use lib.ListN.{take}
use Prim.Native.Nat.{◌*◌}
use mathlib.Core.Path.{◌≡◌}
use Rattle.loading.proofs.page.put_page.Given as goal

abbrev pub invariant-loop-i : goal.invariant-loop-i
invariant-loop-i l = take (field_bytes * l.i) l.out ≡ joined (field l.h l.granted) CODE l.i
