-- Where the fields of a script stand: "B, T, D (16 bits each), L (32 bits), L bytes of volume .. then for
-- each call: function number (1 byte), parameter (1 byte, user code for 32), F (1 byte) and F bytes lent as control block,
-- K (16 bits) and K bytes lent as transfer buffer". A call's fields are counted from its own first byte.
use Rattle.std.specs.Prelude.{ℕ, ◌+◌}

-- the header
abbrev pub b_at : ℕ
b_at = 0

abbrev pub t_at : ℕ
t_at = 2

-- D has one byte: what was its high byte is the placing (02 (i)), 0 where records lie one behind the other
abbrev pub d_at : ℕ
d_at = 4

abbrev pub placing_at : ℕ
placing_at = 5

abbrev pub l_at : ℕ
l_at = 6

-- how long it is: the volume stands behind it
abbrev pub header_bytes : ℕ
header_bytes = 10

-- the most that L can be, 3 MiB: the program has the volume on its stack twice, so not every volume of (xi) has room there
abbrev pub longest_volume : ℕ
longest_volume = 3145728

-- a call
abbrev pub function_at : ℕ
function_at = 0

abbrev pub parameter_at : ℕ
parameter_at = 1

abbrev pub f_at : ℕ
f_at = 2

abbrev pub fcb_at : ℕ
fcb_at = 3

-- its head, function, parameter, F and K, has five bytes; the others are lent
abbrev pub head_bytes : ℕ
head_bytes = 5

-- by F: where K and where the buffer stands; by F and K: how long the call is
abbrev pub k_at : ℕ → ℕ
k_at f = fcb_at + f

abbrev pub buffer_at : ℕ → ℕ
buffer_at f = head_bytes + f

abbrev pub call_bytes : ℕ → ℕ → ℕ
call_bytes f k = head_bytes + f + k

-- the largest F and K, and so the longest call
abbrev pub longest_fcb : ℕ
longest_fcb = 255

abbrev pub longest_buffer : ℕ
longest_buffer = 65535

abbrev pub longest_call : ℕ
longest_call = call_bytes longest_fcb longest_buffer

-- "Function 0 is `something else touches the volume`: its F bytes are a 24-bit offset and the bytes to lay there"
abbrev pub touch : ℕ
touch = 0

abbrev pub offset_bytes : ℕ
offset_bytes = 3
