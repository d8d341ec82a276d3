-- What the functions of a write say to each other and to their callers; not for the reader of the paper.
use Rattle.std.specs.Prelude.{◌≡◌, Bool, cond, ◌&&◌, List, ℕ, ◌-◌, length}
use Rattle.disk_geometry.specs.declared.Geometry.{Geometry}
use Rattle.disk_volume.specs.Name.{name_of}
use Rattle.disk_volume.specs.Entry.{Entry}
use Rattle.disk_volume.specs.Record.{counted, record_at}
use Rattle.disk_stores.specs.Stores.{Store, cut}
use Rattle.call_fcb.specs.Fcb.{set_to}
use Rattle.call_answers.specs.declared.Refusal.{Refusal}
use Rattle.call_answers.specs.Refusal.{is_none, first_met}
use Rattle.call_entry.specs.Grown.{written_entry}
use Rattle.call_store.specs.Stores.{data_then_entry}
use Rattle.call_decide.specs.Write.{needs_block, write_block, entry_after, write_tests}
use Rattle.call_write.specs.Write.{write_stores, hold_if}
use Rattle.call_write.specs.declared.Source.{Source}
use Rattle.call_write.specs.declared.Source.TheVariants.{Buffer, Standing}
use Rattle.call_write.specs.Rewrite.{with_first_two}

-- the stores of a write that is decided: into this block, and by the entry e that grows in this slot
abbrev pub decided_stores : Geometry → Bool → List ℕ → List ℕ → ℕ → ℕ → ℕ → Bool → Entry → List Store
decided_stores g fills v b n slot block fresh e =
    data_then_entry g (fills && fresh) v block n b slot (written_entry g e n block)

-- what such a write leaves: volume, control block, held blocks, and how many stores are left
pub record Carried (g : Geometry) (fills : Bool) (v fcb b held : List ℕ) (n cr most slot block : ℕ) (fresh : Bool) (e : Entry)
    (v' fcb' held' : List ℕ) (left' : ℕ) : Type 0 where
  pub volume_is : v' ≡ cut g v most (decided_stores g fills v b n slot block fresh e)
  pub fcb_is_lem : fcb' ≡ set_to fcb (written_entry g e n block) n cr
  pub held_is : held' ≡ hold_if fresh held block
  pub left_is : left' ≡ most - length (decided_stores g fills v b n slot block fresh e)

-- record n by the entry e, if that counts it
abbrev pub counted_bytes : Geometry → List ℕ → Entry → ℕ → ℕ → List ℕ → List ℕ
counted_bytes g v e n block b = cond (counted g e n) (record_at g v block n) b

-- the bytes of a write, laid over others, by the entry e that grows
abbrev pub laid_bytes : Geometry → List ℕ → Entry → ℕ → ℕ → Source → List ℕ → List ℕ
laid_bytes g v e n block (Buffer b) over = b.now
laid_bytes g v e n block (Standing low high) over = with_first_two low high (counted_bytes g v e n block over)

-- what a write of record n with the bytes b answers, and all that it leaves: a refusal alters nothing
module _ (g : Geometry) (fills : Bool) (v fcb b : List ℕ) (u : ℕ) (held : List ℕ) (n cr most : ℕ) where
  abbrev name : List ℕ
  name = name_of fcb

  abbrev stores : List Store
  stores = write_stores g held v u name n fills b

  pub record Wrote (r : Refusal) (v' fcb' held' : List ℕ) (left' : ℕ) : Type 0 where
    pub why_is : r ≡ first_met (write_tests g held v u name n)
    pub volume_is : v' ≡ cond (is_none r) (cut g v most stores) v
    pub fcb_is_lem : fcb' ≡ cond (is_none r) (set_to fcb (entry_after g held v u name n) n cr) fcb
    pub held_is : held' ≡ cond (is_none r) (hold_if (needs_block g v u name n) held (write_block g held v u name n)) held
    pub left_is : left' ≡ cond (is_none r) (most - length stores) most
