-- A tree of the files passed so far: each has a key, and the way to it goes by the key's chain and then bit by bit, over the first
-- entries of files whose keys begin alike. So a way is long only where long beginnings of keys are alike.
use Rattle.std.specs.Prelude.{◌≡◌, Bool, true, cond, ◌&&◌, List, ℕ, zero, suc, ◌+◌, ◌-◌, ◌*◌, ◌/◌, ◌%◌, ◌≤◌, ◌<◌, eqb, leb, length, set}
use Rattle.lists.specs.Bounded.{fold}
use Rattle.lists.specs.Bytes.{byte}
use Rattle.disk_geometry.specs.declared.Geometry.{Geometry}
use Rattle.disk_volume.specs.Fields.{USER, name_bytes}
use Rattle.disk_volume.specs.Name.{name_of}
use Rattle.disk_volume.specs.Entry.{Entry}
use Rattle.disk_volume.specs.Directory.{slot_at}
use Rattle.files.specs.Files.{is_listed}
use Rattle.shelf_files.specs.declared.Tree.{Tree}

-- how many chains there are, slots of the largest directory, and keys
abbrev pub CHAINS : ℕ
CHAINS = 256

abbrev pub most_slots : ℕ
most_slots = 2048

abbrev pub KEYS : ℕ
KEYS = 1099511627776

-- it spreads the keys of names that differ in their numbers only
abbrev pub FACTOR : ℕ
FACTOR = 13964171

-- the key of a user and a name, and that of an entry
abbrev pub next_key : List ℕ → ℕ → ℕ → ℕ
next_key name key p = (FACTOR * key + byte name p) % KEYS

unfoldable pub key_of : ℕ → List ℕ → ℕ
key_of u name = fold (next_key name) u 0 name_bytes

abbrev pub entry_key : Entry → ℕ
entry_key e = key_of (byte e USER) (name_of e)

-- what is left of a key from its 17th bit on behind d of them, and the next: its low 16 bits are a mark of inspection, by which names are easily
-- found alike
abbrev pub MIXED : ℕ
MIXED = 65536

unfoldable pub rest_of : ℕ → ℕ → ℕ
rest_of zero k = k / MIXED
rest_of (suc d) k = rest_of d k / 2

abbrev pub bit_of : ℕ → ℕ → ℕ
bit_of d k = rest_of d k % 2

-- two keys have the same chain and the same d bits
unfoldable pub alike : ℕ → ℕ → ℕ → Bool
alike zero a b = eqb (a % CHAINS) (b % CHAINS)
alike (suc d) a b = alike d a b && eqb (bit_of d a) (bit_of d b)

-- slot j has the first entry of a file whose key begins as k does
abbrev pub is_like : Geometry → List ℕ → ℕ → ℕ → ℕ → Bool
is_like g v k d j = is_listed g v (slot_at g v j) j && alike d k (entry_key (slot_at g v j))

-- 1 and the lowest slot from s on and below n that passes p, 0 where there is none
unfoldable pub low_between : (ℕ → Bool) → ℕ → ℕ → ℕ
low_between p s zero = 0
low_between p s (suc n) = let lower = low_between p s n in cond (eqb lower 0) (cond (leb s n && p n) (suc n) 0) lower

-- the way of key k over the slots below n: 1 and its first slot, and each time the lowest behind it that is like k in one bit more
unfoldable pub way : Geometry → List ℕ → ℕ → ℕ → ℕ → ℕ
way g v n k zero = low_between (is_like g v k 0) 0 n
way g v n k (suc d) = let s = way g v n k d in cond (eqb s 0) 0 (low_between (is_like g v k (suc d)) s n)

-- the word of a slot on the way: 1 and the next slot for either bit, 0 where there is none, and the top 8 bits of the key
-- of the slot's entry. How many words there are is the first of the keys that have these bits
abbrev pub NEXT : ℕ
NEXT = 4096

abbrev pub KEYED : ℕ
KEYED = 16777216

abbrev pub WORDS : ℕ
WORDS = 4294967296

-- the word of a slot at which no way goes on yet
abbrev pub key_word : ℕ → ℕ
key_word k = k / WORDS * KEYED

abbrev pub next_in : ℕ → ℕ → ℕ
next_in bit w = cond (eqb bit 0) (w % NEXT) (w / NEXT % NEXT)

abbrev pub with_next : ℕ → ℕ → ℕ → ℕ
with_next bit s w = w + cond (eqb bit 0) s (s * NEXT)

-- what code keeps of the slots below n: where each way begins, and where it goes on
pub record Heads (g : Geometry) (v heads : List ℕ) (n : ℕ) : Type 0 where
  pub many : length heads ≡ CHAINS
  pub begins : (k : ℕ) → byte heads (k % CHAINS) ≡ way g v n k 0

pub record Nodes (g : Geometry) (v nodes : List ℕ) (n : ℕ) : Type 0 where
  pub long : length nodes ≡ most_slots
  pub goes_on : (k d j : ℕ) → way g v n k d ≡ suc j → next_in (bit_of d k) (byte nodes j) ≡ way g v n k (suc d)
  pub keyed : (j : ℕ) → j < n → is_listed g v (slot_at g v j) j ≡ true → byte nodes j / KEYED ≡ entry_key (slot_at g v j) / WORDS
  pub unset : (j : ℕ) → n ≤ j → byte nodes j ≡ 0

-- the tree of the slots below n, and one in which no slot is yet
pub record HoldsFirst (g : Geometry) (v : List ℕ) (tree : Tree) (n : ℕ) : Type 0 where
  pub begin : Heads g v tree.heads n
  pub go_on : Nodes g v tree.nodes n

abbrev pub HoldsNone : Tree → Type 0
HoldsNone tree = (g : Geometry) (v : List ℕ) → HoldsFirst g v tree 0

-- the way of key k ends: at no slot, or at `last` (1 and the slot), behind which it would go on by `bit`
pub record Ended (g : Geometry) (v : List ℕ) (n k last bit : ℕ) : Type 0 where
  pub bare : last ≡ 0 → way g v n k 0 ≡ 0
  pub depth : ℕ
  pub at : 0 < last → way g v n k depth ≡ last
  pub turn : 0 < last → bit ≡ bit_of depth k
  pub none : 0 < last → way g v n k (suc depth) ≡ 0

-- slot n is where it goes on
abbrev pub linked_heads : List ℕ → ℕ → ℕ → ℕ → List ℕ
linked_heads heads k last n = cond (eqb last 0) (set heads (k % CHAINS) (n + 1)) heads

abbrev pub linked_nodes : List ℕ → ℕ → ℕ → ℕ → List ℕ
linked_nodes nodes last bit n = cond (eqb last 0) nodes (set nodes (last - 1) (with_next bit (n + 1) (byte nodes (last - 1))))

abbrev pub linked : Tree → ℕ → ℕ → ℕ → ℕ → Tree
linked tree k last bit n = record { heads = linked_heads tree.heads k last n; nodes = linked_nodes tree.nodes last bit n }
