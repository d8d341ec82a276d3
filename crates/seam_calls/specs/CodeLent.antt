-- What a cut lends on of control block and buffer: all, or nothing of one whose length no call takes; not for the reader of the
-- paper. That it makes no difference is a law.
use Rattle.std.specs.Prelude.{cond, List, ℕ, ◌*◌, leb, eqb, length, take}
use Rattle.disk_geometry.specs.Geometry.{record_bytes}
use Rattle.call_fcb.specs.Fcb.{fcb_bytes}

-- the longest buffer that a call is lent has sixteen records
abbrev pub buffer_bytes : ℕ
buffer_bytes = 16 * record_bytes

abbrev pub fcb_lent : ℕ → ℕ
fcb_lent n = cond (eqb n fcb_bytes) n 0

abbrev pub buffer_lent : ℕ → ℕ
buffer_lent n = cond (leb n buffer_bytes) n 0

abbrev pub lent_fcb : List ℕ → List ℕ
lent_fcb fcb = take (fcb_lent (length fcb)) fcb

abbrev pub lent_buffer : List ℕ → List ℕ
lent_buffer b = take (buffer_lent (length b)) b
