-- The six bytes are the definition's.
use Rattle.loading.specs.Page.{field_of}
use Rattle.numbers.specs.Numbers.{bytes_of}
use Rattle.memory_spans.specs.Span.{paragraph_bytes}
use native.Mathlib.Omega.{arith}
use Prim.Native.Nat.{◌-◌, ◌*◌, ◌/◌}
use mathlib.Core.Path.{◌≡◌}
use Rattle.loading.proofs.page.put_field.Goals as goal

pub returns : goal.returns
unfolding field_of bytes_of
returns c =
    let x = paragraph_bytes * c.args.s.length - 1 in
    let high : x / 65536 ≡ x / 256 / 256 = omega arith in
    rw (← high) (rw (c.to_le_bytes.ensures, c.to_le_bytes-2.ensures, c.saturating_sub-end.ensures, c.from-bytes.ensures) at c.copy_from_slice.ensures.after)
