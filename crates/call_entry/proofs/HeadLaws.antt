-- What the first twelve bytes of an entry say: its user, its name, whether it is empty or read-only. Two entries that
-- share them are of the same file.
use mathlib.Core.Path.{◌≡◌, sym, ap, ◌∙◌}
use mathlib.Core.List.{List}
use Prim.Native.Nat.{ℕ, ◌≤◌, ◌<◌}
use native.Mathlib.Omega.{arith}
use lib.Dec.{eqb, leb}
use lib.ListN.{length, set}
use lib.Seq.{take-set-le, get_or-take}
use Rattle.lists.proofs.PartLaws.{part_part}
use Rattle.lists.specs.Bytes.{byte, part}
use Rattle.disk_volume.specs.Entry.{Entry, is_empty, read_only, of_file, matches}
use Rattle.disk_volume.specs.Name.{strip, name_at, name_of}

abbrev pub head : Entry → List ℕ
head e = part e 0 12

-- ---- it stays where a later byte is set
pub head_set : (e : Entry) (i x : ℕ) → 12 ≤ i → head (set e i x) ≡ head e
unfolding part
head_set e i x h = take-set-le 12 e i x h

module _ (d e : Entry) (same_head : head d ≡ head e) where
  pub head_byte : (k : ℕ) → k < 12 → byte d k ≡ byte e k
  unfolding part
  head_byte k h = sym (get_or-take 12 d k 0 h) ∙ ap (λ (l : List ℕ). byte l k) same_head ∙ get_or-take 12 e k 0 h

  pub head_read_only : read_only d ≡ read_only e
  head_read_only = ap (leb 128) (head_byte 9 (omega arith))

  pub head_is_empty : is_empty d ≡ is_empty e
  head_is_empty = ap (λ (x : ℕ). eqb x 229) (head_byte 0 (omega arith))

  module _ (d32 : length d ≡ 32) (e32 : length e ≡ 32) where
    pub head_name : name_of d ≡ name_of e
    unfolding name_at
    head_name =
        ap strip
        (sym (part_part d 0 12 (omega arith) 1 11 (omega arith)) ∙ ap (λ (l : List ℕ). part l 1 11) same_head ∙ part_part e 0 12 (omega arith) 1 11 (omega arith))

    pub head_of_file : (u : ℕ) (name : List ℕ) → of_file u name d ≡ of_file u name e
    unfolding of_file
    head_of_file u name = rw (head_byte 0 (omega arith), head_name)

    pub head_matches : (u : ℕ) (pattern : List ℕ) → matches u pattern d ≡ matches u pattern e
    unfolding matches
    head_matches u pattern = rw (head_byte 0 (omega arith), head_name)
