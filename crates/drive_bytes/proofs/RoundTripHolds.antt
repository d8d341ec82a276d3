-- The round trips hold: decoding what was encoded, and encoding what was decoded and not closed.
use mathlib.Core.Path.{◌≡◌, refl, sym, ap, ap₂, ◌∙◌}
use mathlib.Core.Bool.{Bool, true, false, not, cond, ◌&&◌, ◌||◌, true≢false, false≢true}
use mathlib.Core.List.{List, ◌∷◌, ◌++◌}
use Prim.Native.Nat.{ℕ, ◌+◌, ◌*◌, ◌-◌, ◌%◌, ◌^◌, ◌≤◌, ◌<◌}
use native.Mathlib.Decide.{ℕ_discrete}
use native.Mathlib.Omega.{arith}
use lib.Dec.{leb, eqb}
use lib.ListN.{length, replicate, length-append, length-replicate}
use borrow.Author.Tests.{leb-true, eq-eqb, ne_eqb}
use Rattle.lists.specs.Bytes.{byte, part, all}
use Rattle.lists.proofs.BoolLaws.{and_parts}
use Rattle.lists.proofs.PartLaws.{length_part}
use Rattle.disk_geometry.specs.Geometry.{lawful}
use Rattle.call_search.specs.declared.SearchKind.{SearchKind}
use Rattle.call_search.specs.declared.SearchKind.TheVariants.{Nothing, Pattern, Everything}
use Rattle.filecalls.specs.declared.Drive.{Drive}
use Rattle.filecalls.specs.declared.KeptSearch.{KeptSearch}
use Rattle.filecalls.specs.CodeFront.{front_of, joined}
use Rattle.filecalls.specs.State.{is_open, closed, no_search}
use Rattle.filecalls.specs.Outcome.{with_search}
use Rattle.filecalls.specs.Search.{is_kept}
use Rattle.numbers.specs.Numbers.{Bytes, bytes_of, number, bytes_from, zeros}
use Rattle.drive_bytes.specs.Layout.{stored_words, drive_bytes, head_bytes, kept_bytes, search_bytes, placing_bytes, held_bytes, front_bytes, encoded, encoded_in, blocks_at, kind_stored, words_at, fields, good_flag, laid_out, is_drive, decoded}
use Rattle.drive_bytes.specs.RoundTrip.{Carried, DecodeEncode, EncodeDecode, ReadCarried, ClosedIsZeros, ZerosAreClosed}
use Rattle.numbers.proofs.NumberLaws.{number_bytes_lem, number_zero, bytes_number, number_low, part_bytes, bytes_from_lem, zeros_are}
use Rattle.drive_bytes.proofs.LoadLaws.{drive_whole, drive_enough, drive_laid, words_bytes, words_high}
use Rattle.drive_bytes.proofs.WordLaws.{zero_byte, length_held, length_all, words_back, words_filled, words_rest, words_low, held_back, from_parts}

-- ---- a flag as a byte
flag_back : (p : Bool) → eqb (cond p 1 0) 1 ≡ p
flag_back true = refl
flag_back false = refl

flag_is : (x : ℕ) → x ≤ 1 → cond (eqb x 1) 1 0 ≡ x
flag_is x h = elim (ℕ_discrete x 1) [
  | yes e ↦ rw (eq-eqb x 1 e) (sym e)
  | no n ↦ rw (ne_eqb x 1 n) (omega arith)
]

-- ---- decoding what was encoded
-- the bytes of a search between the rest of a drive's, and words behind them
abbrev around : Drive → List ℕ → List ℕ → List ℕ
around d search words = head_bytes d.geometry d.user d.protected ++ search ++ placing_bytes d.geometry ++ words

pub front_size : (d : Drive) → length (front_bytes d) ≡ 32
front_size d = go d.search.kind refl
  where
    go : (k : SearchKind) → d.search.kind ≡ k → length (front_bytes d) ≡ 32
    go Nothing e = unfold front_bytes head_bytes search_bytes bytes_of in rw e
    go Pattern e = unfold front_bytes head_bytes search_bytes kept_bytes bytes_of bytes_from in rw e
    go Everything e = unfold front_bytes head_bytes search_bytes kept_bytes bytes_of bytes_from in rw e

blocks_front : (d : Drive) → d.geometry.blocks < 65536 → (words : List ℕ) → blocks_at (front_bytes d ++ words) ≡ d.geometry.blocks
unfolding front_bytes head_bytes bytes_of part
blocks_front d low words = number_bytes_lem 2 d.geometry.blocks low

laid_front : (d : Drive) (words : List ℕ) → laid_out (front_bytes d ++ words) ≡ true
laid_front d words = go d.search.kind d.protected refl refl
  where
    go : (k : SearchKind) (p : Bool) → d.search.kind ≡ k → d.protected ≡ p → laid_out (front_bytes d ++ words) ≡ true
    go Nothing true e h = unfold laid_out front_bytes head_bytes search_bytes bytes_of part all in rw (e, h)
    go Nothing false e h = unfold laid_out front_bytes head_bytes search_bytes bytes_of part all in rw (e, h)
    go Pattern true e h = unfold laid_out front_bytes head_bytes search_bytes kept_bytes bytes_of bytes_from part all in rw (e, h)
    go Pattern false e h = unfold laid_out front_bytes head_bytes search_bytes kept_bytes bytes_of bytes_from part all in rw (e, h)
    go Everything true e h = unfold laid_out front_bytes head_bytes search_bytes kept_bytes bytes_of bytes_from part all in rw (e, h)
    go Everything false e h = unfold laid_out front_bytes head_bytes search_bytes kept_bytes bytes_of bytes_from part all in rw (e, h)

module _ (d : Drive) (c : Carried d) where
  abbrev n : ℕ
  n = stored_words d.geometry.blocks

  drive_encoded : is_drive (encoded d) ≡ true
  unfolding is_drive encoded
  drive_encoded =
      let words = held_bytes d.held 0 n in
      let t : blocks_at (front_bytes d ++ words) ≡ d.geometry.blocks = blocks_front d c.geometry.blocks_16 words in
      let size : length (front_bytes d ++ words) ≡ drive_bytes d.geometry.blocks = omega (arith, length-append (front_bytes d) words, front_size d, length_held d.held 0 n, words_bytes d.geometry.blocks) in
      rw (t, eq-eqb (length (front_bytes d ++ words)) (drive_bytes d.geometry.blocks) size) (laid_front d words)

  placing_back : d.geometry.placing % 256 ≡ d.geometry.placing
  placing_back = omega (arith, c.geometry.placing_8)

  idle_back : (words : List ℕ) → front_of (fields (around d (replicate 16 0) words)) ≡ front_of (with_search d no_search)
  unfolding fields kind_stored number head_bytes bytes_of bytes_from part
  idle_back words =
      rw (
        placing_back,
        number_bytes_lem 2 d.geometry.block_bytes c.geometry.block_bytes_16,
        number_bytes_lem 2 d.geometry.blocks c.geometry.blocks_16,
        number_bytes_lem 2 d.geometry.directory_blocks c.geometry.directory_blocks_16,
        flag_back d.protected,
      )

  kept_back : (kind : ℕ) (words : List ℕ) → let q = d.search in
      front_of (fields (around d (kept_bytes kind q.user q.last q.pattern) words))
      ≡ front_of (with_search d (record { kind = kind_stored kind; user = q.user; last = q.last; pattern = q.pattern }))
  unfolding fields head_bytes kept_bytes bytes_of bytes_from part
  kept_back kind words =
      rw (
        placing_back,
        number_bytes_lem 2 d.geometry.block_bytes c.geometry.block_bytes_16,
        number_bytes_lem 2 d.geometry.blocks c.geometry.blocks_16,
        number_bytes_lem 2 d.geometry.directory_blocks c.geometry.directory_blocks_16,
        flag_back d.protected,
        number_bytes_lem 2 d.search.last c.last,
        bytes_from_lem d.search.pattern 12 c.pattern,
      )

  front_encoded : (words : List ℕ) → front_of (fields (front_bytes d ++ words)) ≡ front_of d
  front_encoded words = go d.search.kind refl
    where
      -- the search's bytes by its kind
      by_kind : {k : SearchKind} → d.search.kind ≡ k → front_of (fields (front_bytes d ++ words)) ≡ front_of (fields (around d (search_bytes k d.search.user d.search.last d.search.pattern) words))
      by_kind e = unfold front_bytes in ap (λ (k : SearchKind). front_of (fields (around d (search_bytes k d.search.user d.search.last d.search.pattern) words))) e

      -- the search is the one with its own kind
      own_kind : {k : SearchKind} → d.search.kind ≡ k
          → front_of (with_search d (record { kind = k; user = d.search.user; last = d.search.last; pattern = d.search.pattern })) ≡ front_of d
      own_kind e = ap (λ (k : SearchKind). front_of (with_search d (record { kind = k; user = d.search.user; last = d.search.last; pattern = d.search.pattern }))) (sym e)

      go : (k : SearchKind) → d.search.kind ≡ k → front_of (fields (front_bytes d ++ words)) ≡ front_of d
      go Nothing e = unfold search_bytes in by_kind e ∙ idle_back words ∙ ap (λ (q : KeptSearch). front_of (with_search d q)) (sym (c.idle e))
      go Pattern e = unfold search_bytes kind_stored in by_kind e ∙ kept_back 1 words ∙ own_kind e
      go Everything e = unfold search_bytes kind_stored in by_kind e ∙ kept_back 2 words ∙ own_kind e

  held_encoded : (fields (front_bytes d ++ held_bytes d.held 0 n)).held ≡ d.held
  unfolding fields
  held_encoded =
      let words = held_bytes d.held 0 n in
      rw (blocks_front d c.geometry.blocks_16 words)
      (ap (λ (l : List ℕ). l ++ replicate (64 - n) 0) (words_back (front_bytes d) d.held (front_size d) c.words n)
      ∙ words_filled d.held c.all_words n (words_high d.geometry.blocks) c.rest)

  fields_encoded : fields (encoded d) ≡ d
  fields_encoded = unfold encoded in ap₂ joined (front_encoded (held_bytes d.held 0 n)) held_encoded

pub decode_encode : DecodeEncode
unfolding decoded
decode_encode d c = rw (drive_encoded d c) (fields_encoded d c)

-- ---- encoding what was decoded and not closed
three_parts : {a b c x y z : List ℕ} → a ≡ x → b ≡ y → c ≡ z → a ++ b ++ c ≡ x ++ y ++ z
three_parts e f g = rw (e, f, g)

pub open_drive : (s : List ℕ) → is_open (decoded s) ≡ true → is_drive s ≡ true
open_drive s e = go (is_drive s) refl
  where
    go : (t : Bool) → is_drive s ≡ t → is_drive s ≡ true
    go true h = h
    go false h =
        let k : false ≡ is_open (decoded s) = unfold decoded is_open lawful in ap (λ (t : Bool). is_open (cond t (fields s) closed)) (sym h) in
        absurd (false≢true (k ∙ e))

-- byte 8 is zero where it says that no search is kept
idle_kind : (x : ℕ) → kind_stored x ≡ Nothing → x ≡ 0
unfolding kind_stored
idle_kind x e = go (ℕ_discrete x 0) (ℕ_discrete x 1)
  where
    go : Dec (x ≡ 0) → Dec (x ≡ 1) → x ≡ 0
    go (yes z) o = z
    go (no z) (yes o) = absurd (true≢false (ap is_kept (rw (ne_eqb x 0 z, eq-eqb x 1 o) at e)))
    go (no z) (no o) = absurd (true≢false (ap is_kept (rw (ne_eqb x 0 z, ne_eqb x 1 o) at e)))

module _ (s : List ℕ) (bytes : Bytes s) (drive : is_drive s ≡ true) where
  abbrev words : ℕ
  words = stored_words (blocks_at s)

  size : length s ≡ 32 + 8 * words
  size = drive_whole s drive ∙ words_bytes (blocks_at s)

  enough : 64 ≤ length s
  enough = drive_enough s drive

  -- n bytes of s as a number, and back
  back : (a n : ℕ) → a + n ≤ 64 → bytes_of n (number (part s a n)) ≡ bytes_from s a n
  back a n h = ap (λ (l : List ℕ). bytes_of n (number l)) (part_bytes s a n (omega (arith, enough))) ∙ bytes_number s bytes a n

  -- what the layout asks of the bytes
  record Laid : Type 0 where
    flag : byte s 7 ≤ 1
    kind : byte s 8 ≤ 2
    spare : zeros (part s 25 7) ≡ true
    idle : (not (eqb (byte s 8) 0) || zeros (part s 9 15)) ≡ true

  laid : Laid
  unfolding laid_out
  laid =
      let flag = good_flag s in
      let kind = leb (byte s 8) 2 in
      let p = and_parts (flag && kind && zeros (part s 25 7)) _ (drive_laid s drive) in
      let q = and_parts (flag && kind) _ p.0 in
      let r = and_parts flag _ q.0 in
      record { flag = leb-true (byte s 7) 1 r.0; kind = leb-true (byte s 8) 2 r.1; spare = q.1; idle = p.1 }

  zeros_from : (a n : ℕ) → a + n ≤ 64 → zeros (part s a n) ≡ true → replicate n 0 ≡ bytes_from s a n
  zeros_from a n h z =
      let k : length (part s a n) ≡ n = length_part s a n (omega (arith, enough)) in
      sym (zeros_are (part s a n) z ∙ ap (λ (i : ℕ). replicate i 0) k) ∙ part_bytes s a n (omega (arith, enough))

  head_back : head_bytes (fields s).geometry (fields s).user (fields s).protected ≡ bytes_from s 0 8
  unfolding head_bytes fields bytes_from
  head_back = rw (back 0 2 (omega arith), back 2 2 (omega arith), back 4 2 (omega arith), flag_is (byte s 7) laid.flag)

  kept_bytes_lem : kept_bytes (byte s 8) (byte s 9) (number (part s 10 2)) (part s 12 12) ≡ bytes_from s 8 16
  unfolding kept_bytes bytes_from
  kept_bytes_lem =
      let k : length (part s 12 12) ≡ 12 = length_part s 12 12 (omega (arith, enough)) in
      rw (back 10 2 (omega arith), bytes_from_lem (part s 12 12) 12 k, part_bytes s 12 12 (omega (arith, enough)))

  kept_as : {kind : ℕ} → byte s 8 ≡ kind → kept_bytes kind (byte s 9) (number (part s 10 2)) (part s 12 12) ≡ bytes_from s 8 16
  kept_as e = ap (λ (x : ℕ). kept_bytes x (byte s 9) (number (part s 10 2)) (part s 12 12)) (sym e) ∙ kept_bytes_lem

  idle_bytes : byte s 8 ≡ 0 → replicate 16 0 ≡ bytes_from s 8 16
  unfolding bytes_from
  idle_bytes e =
      let z : zeros (part s 9 15) ≡ true = rw (eq-eqb (byte s 8) 0 e) at laid.idle in
      ap₂ (λ (x : ℕ) (y : List ℕ). x ∷ y) (sym e) (zeros_from 9 15 (omega arith) z)

  search_back : search_bytes (kind_stored (byte s 8)) (byte s 9) (number (part s 10 2)) (part s 12 12) ≡ bytes_from s 8 16
  search_back = go (ℕ_discrete (byte s 8) 0) (ℕ_discrete (byte s 8) 1)
    where
      go : Dec (byte s 8 ≡ 0) → Dec (byte s 8 ≡ 1) → search_bytes (kind_stored (byte s 8)) (byte s 9) (number (part s 10 2)) (part s 12 12) ≡ bytes_from s 8 16
      go (yes e) f = unfold search_bytes kind_stored in rw (eq-eqb (byte s 8) 0 e) (idle_bytes e)
      go (no n) (yes e) = unfold search_bytes kind_stored in rw (ne_eqb (byte s 8) 0 n, eq-eqb (byte s 8) 1 e) (kept_as e)
      go (no n) (no m) =
          unfold search_bytes kind_stored in rw (ne_eqb (byte s 8) 0 n, ne_eqb (byte s 8) 1 m) (kept_as {kind = 2} (omega (arith, laid.kind)))

  -- the same, by the state's fields
  search_fields : let q = (fields s).search in search_bytes q.kind q.user q.last q.pattern ≡ bytes_from s 8 16
  unfolding fields
  search_fields = search_back

  placing_fields : placing_bytes (fields s).geometry ≡ bytes_from s 24 8
  unfolding fields bytes_of bytes_from
  placing_fields =
      let low : byte s 24 % 256 ≡ byte s 24 = omega (arith, bytes 24) in
      ap₂ (λ (x : ℕ) (y : List ℕ). x ∷ y) low (zeros_from 25 7 (omega arith) laid.spare)

  front_back : front_bytes (fields s) ≡ bytes_from s 0 32
  unfolding front_bytes bytes_from
  front_back = three_parts head_back search_fields placing_fields

  held_fields : held_bytes (fields s).held 0 words ≡ bytes_from s 32 (8 * words)
  unfolding fields
  held_fields = held_back s bytes words (omega (arith, size))

  pub encoded_fields : encoded (fields s) ≡ s
  encoded_fields =
      let e : encoded (fields s) ≡ front_bytes (fields s) ++ held_bytes (fields s).held 0 words = unfold encoded fields in refl in
      e ∙ ap₂ (λ (x y : List ℕ). x ++ y) front_back held_fields ∙ sym (from_parts s 0 32 (8 * words)) ∙ bytes_from_lem s (32 + 8 * words) size

  -- ---- what is read can be carried
  low : (a n : ℕ) → a + n ≤ 64 → number (part s a n) < 256 ^ n
  low a n h = rw (part_bytes s a n (omega (arith, enough))) (number_low s bytes a n)

  idle_search : kind_stored (byte s 8) ≡ Nothing → (fields s).search ≡ no_search
  unfolding fields number bytes_from part
  idle_search e =
      let z : zeros (part s 9 15) ≡ true = rw (eq-eqb (byte s 8) 0 (idle_kind (byte s 8) e)) at laid.idle in
      rw (e, part_bytes s 10 2 (omega (arith, enough)), part_bytes s 12 12 (omega (arith, enough)))
      (ap (λ (l : List ℕ). record { kind = Nothing; user = byte l 0; last = number (part l 1 2); pattern = part l 3 12 }) (sym (zeros_from 9 15 (omega arith) z)))

  fields_carried : Carried (fields s)
  unfolding fields
  fields_carried =
      record {
        geometry = record {
          block_bytes_16 = low 0 2 (omega arith);
          blocks_16 = low 2 2 (omega arith);
          directory_blocks_16 = low 4 2 (omega arith);
          placing_8 = bytes 24;
        };
        last = low 10 2 (omega arith);
        pattern = length_part s 12 12 (omega (arith, enough));
        all_words = length_all s words (words_high (blocks_at s));
        words = words_low s bytes words (omega (arith, size));
        rest = words_rest s words;
        idle = idle_search;
      }

pub encode_decode : EncodeDecode
encode_decode s bytes e =
    unfold decoded in rw (open_drive s e) (encoded_fields s bytes (open_drive s e))

pub read_carried : ReadCarried
read_carried s bytes e =
    unfold decoded in rw (open_drive s e) (fields_carried s bytes (open_drive s e))

-- ---- the closed value
pub closed_is_zeros : ClosedIsZeros
unfolding encoded_in
closed_is_zeros s = go (ℕ_discrete (length s) 64)
  where
    zeros_64 : encoded closed ≡ replicate 64 0
    zeros_64 = unfold encoded front_bytes head_bytes search_bytes held_bytes bytes_of in refl

    go : Dec (length s ≡ 64) → cond (eqb (length s) 64) (encoded closed) (replicate (length s) 0) ≡ replicate (length s) 0
    go (yes e) = rw (eq-eqb (length s) 64 e, e) zeros_64
    go (no n) = rw (ne_eqb (length s) 64 n)

-- zeros are read as the closed state, however many they are
pub zeros_read : (n : ℕ) → decoded (replicate n 0) ≡ closed
zeros_read n = go (is_drive (replicate n 0)) refl
  where
    go : (t : Bool) → is_drive (replicate n 0) ≡ t → decoded (replicate n 0) ≡ closed
    go true e =
        let enough : 64 ≤ length {A = ℕ} (replicate n 0) = drive_enough (replicate n 0) e in
        let none : blocks_at (replicate n 0) ≡ 0 = ap number (part_bytes (replicate n 0) 2 2 (omega (arith, enough))) ∙ number_zero (replicate n 0) 2 2 (λ k low high. zero_byte n k) in
        let is : n ≡ 64 = sym (length-replicate {A = ℕ} n 0) ∙ drive_whole (replicate n 0) e ∙ ap drive_bytes none in
        rw is (unfold decoded is_drive laid_out fields words_at kind_stored number part all in refl)
    go false e = unfold decoded in rw e

pub zeros_are_closed : ZerosAreClosed
unfolding is_open lawful
zeros_are_closed n = ap is_open (zeros_read n)
