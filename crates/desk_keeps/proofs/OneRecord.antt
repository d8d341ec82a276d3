-- One record rewritten: bytes 0 and 1 where it stands are the siglum, and no other byte is altered; so the directory stays, and
-- with it the file and the places of its records.
use mathlib.Core.Path.{◌≡◌, refl, sym, ap, ◌∙◌}
use mathlib.Core.Bool.{true}
use mathlib.Core.Logic.{◌⊎◌, inl, inr, ◌≢◌}
use mathlib.Core.List.{List}
use Prim.Native.Nat.{ℕ, ◌+◌, ◌-◌, ◌/◌, ◌%◌, ◌≤◌, ◌<◌}
use native.Mathlib.Decide.{ℕ_discrete, dec_lt}
use native.Mathlib.Omega.{arith}
use lib.ListN.{length, set, length-set}
use lib.Seq.{get_or-set_same, get_or-set_other}
use borrow.Author.Tests.{not-false}
use Rattle.lists.specs.Bytes.{byte, put}
use Rattle.lists.proofs.PartLaws.{byte_in, byte_out, byte_part}
use Rattle.numbers.specs.Numbers.{Bytes}
use Rattle.disk_geometry.specs.declared.Geometry.{Geometry}
use Rattle.disk_geometry.specs.Geometry.{lawful, bytes, records, inside, record_start}
use Rattle.disk_geometry.proofs.GeometryLaws.{records_apart, records_apart_within}
use Rattle.disk_geometry.proofs.InsideLaws.{inside_is}
use Rattle.disk_volume.specs.Name.{name_of}
use Rattle.disk_volume.specs.Record.{record_at, put_record}
use Rattle.disk_volume.proofs.DirectoryLaws.{record_inside, record_length, put_record_length, slot_put_record}
use Rattle.filecalls.specs.declared.Drive.{Drive}
use Rattle.desk.specs.Records.{readable, with_siglum, rewritten}
use Rattle.desk_keeps.specs.Sigla.{stands_at}
use Rattle.desk_keeps.proofs.Rewritten.{File, found, home, rewritten_is}
use Rattle.desk_keeps.proofs.Directory.{Alike, home_same, file_same}

-- two records stand in one place or apart, so none begins with the second byte of another
aligned : (g : Geometry) → lawful g ≡ true → (b c n m : ℕ) → b < g.blocks → c < g.blocks → record_start g b n ≢ record_start g c m + 1
unfolding record_start
aligned g law b c n m b< c< e = go (ℕ_discrete b c) (ℕ_discrete (n % records g) (m % records g))
  where
    apart : (x y : ℕ) → x ≡ y + 1 → (x + 128 ≤ y) ⊎ (y + 128 ≤ x) → ⊥
    apart x y q (inl h) = omega (arith, q, h)
    apart x y q (inr h) = omega (arith, q, h)

    one : (x y : ℕ) → x ≡ y → x ≡ y + 1 → ⊥
    one x y p q = omega (arith, p, q)

    go : Dec (b ≡ c) → Dec (n % records g ≡ m % records g) → ⊥
    go (yes x) (yes y) = one (record_start g b n) (record_start g c m) (rw (x, y)) e
    go (yes x) (no y) = apart (record_start g b n) (record_start g b m) (e ∙ ap (λ (k : ℕ). record_start g k m + 1) (sym x)) (records_apart_within g law b n m b< y)
    go (no x) y = apart (record_start g b n) (record_start g c m) e (records_apart g law b c n m b< c< x)

-- ---- in a block
module _ (g : Geometry) (law : lawful g ≡ true) (v : List ℕ) (size : length v ≡ bytes g) (b n : ℕ) (b< : b < g.blocks) (siglum : ℕ) where
  abbrev own : List ℕ
  own = record_at g v b n

  abbrev new : List ℕ
  new = with_siglum siglum own

  own_length : length own ≡ 128
  own_length = record_length g law v size b n b<

  new_length : length new ≡ 128
  new_length = length-set (set own 0 (siglum % 256)) 1 (siglum / 256) ∙ length-set own 0 (siglum % 256) ∙ own_length

  laid_low : byte (put_record g v b n new) (record_start g b n) ≡ siglum % 256
  unfolding put_record
  laid_low =
      let a = record_start g b n in
      let z : a + 0 ≡ a = omega arith in
      let l = own_length in
      rw z at
      (byte_in v a 128 new (record_inside g law v size b n b<) new_length 0 (omega arith)
      ∙ get_or-set_other (set own 0 (siglum % 256)) 1 0 (siglum / 256) 0 (omega arith) ∙ get_or-set_same own 0 (siglum % 256) 0 (omega (arith, l)))

  laid_high : byte (put_record g v b n new) (record_start g b n + 1) ≡ siglum / 256
  unfolding put_record
  laid_high =
      let l = length-set own 0 (siglum % 256) ∙ own_length in
      byte_in v (record_start g b n) 128 new (record_inside g law v size b n b<) new_length 1 (omega arith)
      ∙ get_or-set_same (set own 0 (siglum % 256)) 1 (siglum / 256) 0 (omega (arith, l))

  laid_byte : (x : ℕ) → x ≢ record_start g b n → x ≢ record_start g b n + 1 → byte (put_record g v b n new) x ≡ byte v x
  unfolding put_record record_at
  laid_byte x zeroth first = go (dec_lt x a) (dec_lt x (a + 128))
    where
      a : ℕ
      a = record_start g b n

      fits : a + 128 ≤ length v
      fits = record_inside g law v size b n b<

      go : Dec (x < a) → Dec (x < a + 128) → byte (put v a 128 new) x ≡ byte v x
      go (yes h) q = byte_out v a 128 new fits new_length x (inl (omega (arith, h)))
      go (no h) (no q) = byte_out v a 128 new fits new_length x (inr (omega (arith, q)))
      go (no h) (yes q) =
          let z : a + (x - a) ≡ x = omega (arith, h) in
          let i : x - a < 128 = omega (arith, h, q) in
          let j : x - a ≢ 0 = λ e. zeroth (omega (arith, e, h)) in
          let k : x - a ≢ 1 = λ e. first (omega (arith, e, h)) in
          rw z at
          (byte_in v a 128 new fits new_length (x - a) i
          ∙ get_or-set_other (set own 0 (siglum % 256)) 1 (x - a) (siglum / 256) 0 k
          ∙ get_or-set_other own 0 (x - a) (siglum % 256) 0 j
          ∙ byte_part v a 128 (x - a) i)

  laid_alike : g.directory_blocks ≤ b → Alike g v (put_record g v b n new)
  laid_alike low = record {
    size = put_record_length g law v size b n b< new new_length;
    entries = slot_put_record g law v size b n b< new new_length low;
  }

-- ---- in the file
module _ (d : Drive) (v f : List ℕ) (file : File d v f) (n : ℕ) (n< : n < 65536) (can : readable d v f n ≡ true) where
  pub within : (d.geometry.directory_blocks ≤ home d v f file n n< can) × (home d v f file n n< can < d.geometry.blocks)
  within = inside_is d.geometry _ (not-false (inside d.geometry (home d v f file n n< can)) (found d v f file n n< can).outside)

  -- a volume with the same directory has it in the same place
  pub place_same : (w : List ℕ) → Alike d.geometry v w → stands_at d w f n ≡ stands_at d v f n
  place_same w alike = ap (λ (h : ℕ). record_start d.geometry h n) (home_same d.geometry v w alike d.user (name_of f) n (found d v f file n n< can))

  module _ (siglum : ℕ) where
    abbrev after : List ℕ
    after = rewritten d f siglum v n

    pub low_is : byte after (stands_at d v f n) ≡ siglum % 256
    low_is =
        ap (λ (w : List ℕ). byte w (stands_at d v f n)) (rewritten_is d v f file n n< can siglum)
        ∙ laid_low d.geometry file.state.law v file.size (home d v f file n n< can) n within.1 siglum

    pub high_is : byte after (stands_at d v f n + 1) ≡ siglum / 256
    high_is =
        ap (λ (w : List ℕ). byte w (stands_at d v f n + 1)) (rewritten_is d v f file n n< can siglum)
        ∙ laid_high d.geometry file.state.law v file.size (home d v f file n n< can) n within.1 siglum

    -- a byte keeps its value, or has it anew
    pub value_kept : (x c : ℕ) → byte v x ≡ c → (x ≡ stands_at d v f n → c ≡ siglum % 256) → (x ≡ stands_at d v f n + 1 → c ≡ siglum / 256) → byte after x ≡ c
    value_kept x c e zeroth first = go (ℕ_discrete x (stands_at d v f n)) (ℕ_discrete x (stands_at d v f n + 1))
      where
        go : Dec (x ≡ stands_at d v f n) → Dec (x ≡ stands_at d v f n + 1) → byte after x ≡ c
        go (yes q) r = ap (byte after) q ∙ low_is ∙ sym (zeroth q)
        go (no q) (yes r) = ap (byte after) r ∙ high_is ∙ sym (first r)
        go (no q) (no r) =
            ap (λ (w : List ℕ). byte w x) (rewritten_is d v f file n n< can siglum)
            ∙ laid_byte d.geometry file.state.law v file.size (home d v f file n n< can) n within.1 siglum x q r ∙ e

    pub rewritten_alike : Alike d.geometry v after
    rewritten_alike =
        rw (rewritten_is d v f file n n< can siglum)
        (laid_alike d.geometry file.state.law v file.size (home d v f file n n< can) n within.1 siglum within.0)

    -- bytes stay bytes, so the file passes the same tests
    rewritten_small : siglum < 65536 → Bytes after
    rewritten_small s16 x = go (ℕ_discrete x (stands_at d v f n)) (ℕ_discrete x (stands_at d v f n + 1))
      where
        go : Dec (x ≡ stands_at d v f n) → Dec (x ≡ stands_at d v f n + 1) → byte after x < 256
        go (yes q) r = rw (q, low_is) (omega arith)
        go (no q) (yes r) = rw (r, high_is) (omega (arith, s16))
        go (no q) (no r) = rw (value_kept x (byte v x) refl (λ e. absurd (q e)) (λ e. absurd (r e))) (file.small x)

    pub file_after : siglum < 65536 → File d after f
    file_after s16 = file_same d v after f rewritten_alike file (rewritten_small s16)

-- no record of the file begins with the second byte of another
pub places_aligned : (d : Drive) (v f : List ℕ) (file : File d v f) (n m : ℕ) → n < 65536 → m < 65536 → readable d v f n ≡ true → readable d v f m ≡ true
    → stands_at d v f n ≢ stands_at d v f m + 1
places_aligned d v f file n m n< m< can-n can-m =
    aligned d.geometry file.state.law _ _ n m (within d v f file n n< can-n).1 (within d v f file m m< can-m).1
