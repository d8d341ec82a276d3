-- The script: a header with a volume, then one call after the other; `Layout` says where their fields stand.
use Rattle.std.specs.Prelude.{Option, Some, None, Bool, cond, ◌&&◌, ◌||◌, List, ℕ, leb, eqb, length}
use Rattle.disk_geometry.specs.Geometry.{geometry_of, with_placing}
use Rattle.lists.specs.Bytes.{byte, part}
use Rattle.disk_geometry.specs.declared.Geometry.{Geometry}
use Rattle.call_served.specs.Asked.{Asked, asked}
use Rattle.call_served.specs.Calls.{call_of}
use Rattle.replay_script.specs.declared.Header.{Header}
use Rattle.replay_script.specs.declared.Head.{Head}
use Rattle.replay_script.specs.declared.Next.{Next}
use Rattle.numbers.specs.Numbers.{two, four}
use Rattle.replay_script.specs.Layout.{b_at, t_at, d_at, placing_at, l_at, header_bytes, longest_volume, function_at, parameter_at, f_at, fcb_at, k_at, buffer_at, call_bytes, touch}
use Rattle.replay_script.specs.Lends.{is_served}
use Rattle.replay_script.specs.declared.Next.TheVariants as next

-- "13 and 37 log in with the header's geometry"
abbrev pub geometry_in : List ℕ → Geometry
geometry_in s = with_placing (geometry_of (two s b_at) (two s t_at) (byte s d_at)) (byte s placing_at)

-- a header that is cut off, or whose volume is too long, is bad
unfoldable pub header_of : List ℕ → Option Header
header_of s =
    cond (leb header_bytes (length s) && leb (four s l_at) longest_volume) (Some (record { geometry = geometry_in s; volume_bytes = four s l_at })) None

-- F and K of the call that stands at the start of s, and how long the call is
abbrev pub fcb_length : List ℕ → ℕ
fcb_length s = byte s f_at

abbrev pub buffer_length : List ℕ → ℕ
buffer_length s = two s (k_at (fcb_length s))

unfoldable pub call_length : List ℕ → ℕ
call_length s = call_bytes (fcb_length s) (buffer_length s)

-- function 0 is "something else touches the volume"
abbrev pub is_known : ℕ → Bool
is_known n = eqb n touch || is_served (call_of n)

abbrev pub head_of : List ℕ → Head
head_of s = record { function = byte s function_at; parameter = byte s parameter_at; fcb = fcb_length s; buffer = buffer_length s }

-- what stands at the start of s: the script's end, a call, or "a cut-off script, or a number that is not served"
unfoldable pub next_of : List ℕ → Next
next_of s =
    cond (eqb (length s) 0) next.End
    (cond (leb (call_length s) (length s) && is_known (byte s function_at)) (next.Call (head_of s)) next.Bad)

-- the call of a head that is lent this control block and this buffer, and the one that is lent the script's own bytes
abbrev pub asked_by : Head → List ℕ → List ℕ → Asked
asked_by h fcb b = asked h.function h.parameter fcb b

abbrev pub lent_by : Head → List ℕ → Asked
lent_by h s = asked_by h (part s fcb_at h.fcb) (part s (buffer_at h.fcb) h.buffer)

unfoldable pub call_at : List ℕ → Asked
call_at s = lent_by (head_of s) s
