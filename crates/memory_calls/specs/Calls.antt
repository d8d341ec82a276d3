-- The memory calls over the memory control block: M-Base, M-Length and M-Ext. A refusal leaves table and block as they were; "M-Ext
-- becomes 0" with a success of 53 to 57.
use Rattle.std.specs.Prelude.{cond, ◌&&◌, ◌||◌, [], ◌∷◌, ◌++◌, ℕ, min, leb, ltb, eqb, Ok, Err}
use Rattle.memory_spans.specs.Span.{places, paragraphs, span}
use Rattle.memory_spans.specs.Room.{has_room}
use Rattle.memory_room.specs.Starts.{lowest_start, longest}
use Rattle.memory_regions.specs.Freeing.{freeable, freed}
use Rattle.memory_calls.specs.declared.Table.{Table}
use Rattle.memory_calls.specs.declared.Mcb.{Mcb}
use Rattle.memory_calls.specs.declared.Refusal.{Refusal}
use Rattle.memory_calls.specs.declared.Refusal.TheVariants.{NotServed, Rules, NoPlace, NoRoom, BadFree}
use Rattle.memory_calls.specs.declared.Reply.{Reply}
use Rattle.memory_calls.specs.Table.{pieces_of, regions_of, with_regions, within_rules}

-- the numbers of the calls, by their names in 000 (5.5.2)
abbrev pub GET_MAX_MEM : ℕ
GET_MAX_MEM = 53

abbrev pub GET_ABS_MAX : ℕ
GET_ABS_MAX = 54

abbrev pub ALLOC_MEM : ℕ
ALLOC_MEM = 55

abbrev pub ALLOC_ABS_MEM : ℕ
ALLOC_ABS_MEM = 56

abbrev pub FREE_MEM : ℕ
FREE_MEM = 57

abbrev pub FREE_ALL_MEM : ℕ
FREE_ALL_MEM = 58

-- the M-Ext that frees every region: FFH
abbrev pub EVERY : ℕ
EVERY = 0xFF

-- refused, and all as it was; done, with the table, M-Base and M-Length
abbrev pub refused : Refusal → Table → Mcb → Reply
refused why t m = record { answer = Err why; table = t; mcb = m }

abbrev pub done : Table → ℕ → ℕ → Reply
done t base length = record { answer = Ok tt; table = t; mcb = record { base = base; length = length; ext = 0 } }

-- 53: "gives the longest free run, lowest of equals, at most the length asked"
unfoldable pub longest_run_of : Table → Mcb → Reply
longest_run_of t m =
    let k = longest (pieces_of t) (regions_of t) in
    cond
    (eqb m.length 0 || eqb k 0)
    (refused NoRoom t m)
    (done t (lowest_start (pieces_of t) (regions_of t) k) (min k m.length))

-- 54: "tests just the region asked"
unfoldable pub tested : Table → Mcb → Reply
tested t m = cond (has_room (pieces_of t) (regions_of t) m.length m.base) (done t m.base m.length) (refused NoRoom t m)

-- a region more, behind the others
abbrev pub granting : Table → ℕ → ℕ → Reply
granting t start length = done (with_regions t (regions_of t ++ (span start length ∷ []))) start length

-- 55: the region asked, at the lowest start with room
unfoldable pub granted : Table → Mcb → Reply
granted t m =
    let start = lowest_start (pieces_of t) (regions_of t) m.length in
    cond (ltb t.granted places) (cond (ltb start paragraphs) (granting t start m.length) (refused NoRoom t m)) (refused NoPlace t m)

-- 56: the region asked, where it is asked
unfoldable pub granted_at : Table → Mcb → Reply
granted_at t m =
    cond
    (ltb t.granted places)
    (cond (has_room (pieces_of t) (regions_of t) m.length m.base) (granting t m.base m.length) (refused NoRoom t m))
    (refused NoPlace t m)

-- 57: a region, or its start or end; all regions where M-Ext is FFH
unfoldable pub freeing_part : Table → Mcb → Reply
freeing_part t m =
    let part = span m.base m.length in
    cond
    (freeable part (regions_of t))
    (done (with_regions t (freed part (regions_of t))) m.base m.length)
    (refused BadFree t m)

unfoldable pub freeing : Table → Mcb → Reply
freeing t m = cond (eqb m.ext EVERY) (done (with_regions t []) m.base m.length) (freeing_part t m)

-- 58: all regions; it has no control block
abbrev pub free_all : Table → Mcb → Reply
free_all t m = record { answer = Ok tt; table = with_regions t []; mcb = m }

-- the call of that number on a table within the rules
unfoldable pub serve : ℕ → Table → Mcb → Reply
serve f t m =
    cond
    (eqb f GET_MAX_MEM)
    (longest_run_of t m)
    (cond
    (eqb f GET_ABS_MAX)
    (tested t m)
    (cond (eqb f ALLOC_MEM) (granted t m) (cond (eqb f ALLOC_ABS_MEM) (granted_at t m) (cond (eqb f FREE_MEM) (freeing t m) (free_all t m)))))

-- a memory call in a memory of so many bytes: "65 is tested in every call"
unfoldable pub memory_call : ℕ → ℕ → Table → Mcb → Reply
memory_call f bytes t m =
    cond (leb GET_MAX_MEM f && leb f FREE_ALL_MEM) (cond (within_rules bytes t) (serve f t m) (refused Rules t m)) (refused NotServed t m)
