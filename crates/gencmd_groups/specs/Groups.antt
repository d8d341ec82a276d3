-- The groups: the byte at each address, how far a group reaches, and its length in paragraphs. The lines are those before the
-- end line.
use Rattle.std.specs.Prelude.{Bool, false, cond, ◌&&◌, ◌||◌, List, [], ◌∷◌, ℕ, zero, suc, ◌+◌, ◌-◌, ◌/◌, max, leb, ltb, eqb}
use Rattle.memory_spans.specs.Span.{paragraph_bytes}
use Rattle.load_header.specs.Header.{CODE, DATA, EXTRA, STACK, page_paragraphs}
use Rattle.gencmd_lines.specs.Line.{Line, count_of, address_of, data_of, group_of}
use Rattle.gencmd_groups.specs.declared.Groups.{Groups}

-- a line gives the byte at address a of group g
abbrev pub gives : Line → ℕ → ℕ → Bool
gives l g a = eqb (group_of l) g && (leb (address_of l) a && ltb a (address_of l + count_of l))

-- some line gives it
unfoldable pub given : List Line → ℕ → ℕ → Bool
given [] g a = false
given (l ∷ ls) g a = gives l g a || given ls g a

-- the byte there: "where lines overlap, the later one counts"; zero where no line gives it
unfoldable pub byte_at : List Line → ℕ → ℕ → ℕ
byte_at [] g a = 0
byte_at (l ∷ ls) g a =
    let later = byte_at ls g a in
    cond (given ls g a) later (cond (gives l g a) (data_of l (a - address_of l)) 0)

-- f i, f (i + 1), .., k of them
unfoldable pub list_from : (ℕ → ℕ) → ℕ → ℕ → List ℕ
list_from f i zero = []
list_from f i (suc k) = f i ∷ list_from f (suc i) k

-- the first n bytes of a group
abbrev pub group_bytes : List Line → ℕ → ℕ → List ℕ
group_bytes ls g n = list_from (byte_at ls g) 0 n

-- "a group reaches from 0 to its highest byte": how many addresses that is, 0 where no line gives it a byte
abbrev pub end_of : Line → ℕ → ℕ
end_of l g = cond (eqb (group_of l) g && ltb 0 (count_of l)) (address_of l + count_of l) 0

unfoldable pub reach_of : List Line → ℕ → ℕ
reach_of [] g = 0
reach_of (l ∷ ls) g = max (end_of l g) (reach_of ls g)

-- how far each group reaches
abbrev pub reaches : List Line → Groups
reaches ls = record { code = reach_of ls CODE; «data» = reach_of ls DATA; extra = reach_of ls EXTRA; stack = reach_of ls STACK }

-- "rounded up to whole paragraphs"
abbrev pub rounded : ℕ → ℕ
rounded reach = (reach + paragraph_bytes - 1) / paragraph_bytes

-- to at least so many; a group that no line gives a byte is not there
abbrev pub paragraphs : ℕ → ℕ → ℕ
paragraphs least reach = cond (eqb reach 0) 0 (max least (rounded reach))

-- "the base page's group to at least 16": the data group, or else the code group
unfoldable pub sizes_of : Groups → Groups
sizes_of r = record {
  code = paragraphs (cond (eqb r.«data» 0) page_paragraphs 0) r.code;
  «data» = paragraphs page_paragraphs r.«data»;
  extra = paragraphs 0 r.extra;
  stack = paragraphs 0 r.stack;
}
