-- Laws of entries: what an entry counts below, in and above its own extent, and the entry in a slot as it is lent.
use mathlib.Core.Path.{◌≡◌, ap, ◌∙◌}
use mathlib.Core.List.{List}
use Prim.Native.Nat.{ℕ, ◌+◌, ◌-◌, ◌<◌, ◌≤◌, min}
use native.Mathlib.Omega.{arith}
use lib.ListN.{take, drop}
use borrow.Author.Tests.{lt-ltb, le-ltb}
use Rattle.lists.specs.Bytes.{byte, part}
use Rattle.disk_geometry.specs.declared.Geometry.{Geometry}
use Rattle.disk_geometry.specs.Geometry.{slot_start}
use Rattle.disk_volume.specs.Entry.{Entry, extent, count_of}
use Rattle.disk_volume.specs.Directory.{slot_at}

module _ (e : Entry) (x : ℕ) where
  pub count_below : x < extent e → count_of e x ≡ 128
  unfolding count_of
  count_below h = rw (lt-ltb x (extent e) h)

  pub count_above : extent e < x → count_of e x ≡ 0
  unfolding count_of
  count_above h =
      let l : extent e ≤ x = omega arith in
      rw (le-ltb x (extent e) l, lt-ltb (extent e) x h)

  pub count_own : x ≡ extent e → count_of e x ≡ min (byte e 15) 128
  unfolding count_of
  count_own q =
      let l : extent e ≤ x = omega arith in
      let h : x ≤ extent e = omega arith in
      rw (le-ltb x (extent e) l, le-ltb (extent e) x h)

-- `&l[at..at + n]`, and `&volume[at..at + 32]`, where at is the start of slot i
pub lent_part : (l : List ℕ) (at n : ℕ) → take (at + n - at) (drop at l) ≡ part l at n
unfolding part
lent_part l at n =
    let z : at + n - at ≡ n = omega arith in
    rw z

pub lent_slot : (g : Geometry) (v : List ℕ) (i at : ℕ) → at ≡ slot_start g i → take (at + 32 - at) (drop at v) ≡ slot_at g v i
unfolding slot_at
lent_slot g v i at e = lent_part v at 32 ∙ ap (λ (a : ℕ). part v a 32) e
