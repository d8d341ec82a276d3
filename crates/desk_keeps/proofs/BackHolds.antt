-- There and back: a replacement of a by b, where b was not in the chapter, and then of b by a gives the old bytes. On a volume that
-- passes inspection record 0 shares no place with a body, so the second call finds the contents as they were.
use mathlib.Core.Path.{◌≡◌, refl, sym, ap, ◌∙◌}
use mathlib.Core.Bool.{Bool, true, false, ◌&&◌, ◌||◌, true≢false}
use mathlib.Core.Logic.{◌⊎◌, inl, inr}
use mathlib.Core.List.{List}
use Prim.Native.Nat.{ℕ, zero, suc, ◌+◌, ◌*◌, ◌/◌, ◌%◌, ◌≤◌, ◌<◌}
use native.Mathlib.Decide.{ℕ_discrete}
use native.Mathlib.Omega.{arith}
use lib.Dec.{eqb}
use lib.ListN.{length}
use lib.Seq.{ext_get_or}
use borrow.Author.Tests.{not-false, eqb-true, eq-eqb, eqb-false}
use Rattle.lists.specs.Bytes.{byte}
use Rattle.lists.specs.Bounded.{every_from}
use Rattle.lists.proofs.BoundedLaws.{every_true, every_ext}
use Rattle.lists.proofs.PartLaws.{byte_part}
use Rattle.numbers.specs.Numbers.{Bytes, two}
use Rattle.disk_geometry.specs.Geometry.{slots}
use Rattle.disk_volume.specs.Name.{name_of}
use Rattle.disk_volume.specs.Record.{present, record_at}
use Rattle.disk_volume.proofs.DirectoryLaws.{record_length}
use Rattle.disk_rules.specs.GoodSlot.{lowest_bad}
use Rattle.call_answers.specs.Refusal.{is_none, first_met}
use Rattle.call_read.specs.Read.{read_bytes}
use Rattle.filecalls.specs.declared.Drive.{Drive}
use Rattle.filecalls.specs.Change.{change_tests}
use Rattle.desk_contents.specs.Contents.{first_at, total, chapter_place}
use Rattle.std.specs.Prelude.{Result, Ok, Err}
use Rattle.desk.specs.declared.Why.{Why}
use Rattle.desk.specs.Records.{readable, record_shown, bears}
use Rattle.desk.specs.Replace.{plan, rewrite_all, carried_out, replacement}
use Rattle.desk.proofs.ReplaceLaws.{Goes, plan_goes, Body, goes_body, goes, told}
use Rattle.desk_keeps.specs.Sigla.{stands_at, Altered, NotInChapter, ThereAndBack}
use Rattle.desk_keeps.proofs.Rewritten.{File, file_clear, found, record_is}
use Rattle.desk_keeps.proofs.Directory.{tests_same, readable_same}
use Rattle.desk_keeps.proofs.OneRecord.{within, place_same}
use Rattle.desk_keeps.proofs.OneByOne.{Rewrote, rewrote}
use Rattle.desk_keeps.proofs.ReplacesHolds.{Hit, all_altered}

-- ---- one of k numbers from i on passes, or none
record Found (q : ℕ → Bool) (i k : ℕ) : Type 0 where
  at : ℕ
  low : i ≤ at
  high : at < i + k
  hit : q at ≡ true

seek : (q : ℕ → Bool) (k i : ℕ) → Found q i k ⊎ ((n : ℕ) → i ≤ n → n < i + k → q n ≡ false)
seek q zero i = inr (λ n a b. absurd (none n a b))
  where
    none : (n : ℕ) → i ≤ n → n < i + 0 → ⊥
    none n a b = omega (arith, a, b)
seek q (suc k) i = go (q i) refl (seek q k (suc i))
  where
    go : (t : Bool) → q i ≡ t → Found q (suc i) k ⊎ ((n : ℕ) → suc i ≤ n → n < suc i + k → q n ≡ false) → Found q i (suc k) ⊎ ((n : ℕ) → i ≤ n → n < i + suc k → q n ≡ false)
    go true e rest = inl (record { at = i; low = omega arith; high = omega arith; hit = e })
    go false e (inl x) = let l = x.low in let h = x.high in inl (record { at = x.at; low = omega (arith, l); high = omega (arith, h); hit = x.hit })
    go false e (inr none) = inr (λ n a b. at_or_after n a b (ℕ_discrete n i))
      where
        at_or_after : (n : ℕ) → i ≤ n → n < i + suc k → Dec (n ≡ i) → q n ≡ false
        at_or_after n a b (yes z) = rw z e
        at_or_after n a b (no z) = none n (omega (arith, a, z)) (omega (arith, b))

-- ---- the siglum of a record, by the bytes where it stands
module _ (d : Drive) (v f : List ℕ) (file : File d v f) (n : ℕ) (n< : n < 65536) (can : readable d v f n ≡ true) where
  byte_is : (k : ℕ) → k < 128 → byte (record_shown d v f n) k ≡ byte v (stands_at d v f n + k)
  unfolding record_at
  byte_is k h = ap (λ (r : List ℕ). byte r k) (record_is d v f file n n< can) ∙ byte_part v (stands_at d v f n) 128 k h

  siglum_is : two (record_shown d v f n) 0 ≡ byte v (stands_at d v f n) + 256 * byte v (stands_at d v f n + 1)
  siglum_is =
      let z : stands_at d v f n + 0 ≡ stands_at d v f n = omega arith in
      let x : byte (record_shown d v f n) 0 ≡ byte v (stands_at d v f n) = rw z at (byte_is 0 (omega arith)) in
      rw (x, byte_is 1 (omega arith))

  -- a record that has the siglum has its two bytes
  has_bytes : (siglum : ℕ) → bears d v f siglum n ≡ true → (byte v (stands_at d v f n) ≡ siglum % 256) × (byte v (stands_at d v f n + 1) ≡ siglum / 256)
  has_bytes siglum e =
      let s = sym siglum_is ∙ eqb-true (two (record_shown d v f n) 0) siglum e in
      let l = file.small (stands_at d v f n) in
      let h = file.small (stands_at d v f n + 1) in
      (low _ _ s l, high _ _ s l)
    where
      low : (x y : ℕ) → x + 256 * y ≡ siglum → x < 256 → x ≡ siglum % 256
      low x y s l = omega (arith, s, l)

      high : (x y : ℕ) → x + 256 * y ≡ siglum → x < 256 → y ≡ siglum / 256
      high x y s l = omega (arith, s, l)

  bytes_have : (siglum : ℕ) → byte v (stands_at d v f n) ≡ siglum % 256 → byte v (stands_at d v f n + 1) ≡ siglum / 256 → bears d v f siglum n ≡ true
  bytes_have siglum l h = eq-eqb (two (record_shown d v f n) 0) siglum (siglum_is ∙ rw (l, h) (omega arith))

-- ---- the two replacements
module _ (d : Drive) (v f : List ℕ) (chapter a b : ℕ) (small : Bytes v) (a16 : a < 65536) (b16 : b < 65536) (ok : lowest_bad d.geometry v ≡ slots d.geometry)
    (absent : NotInChapter d v f chapter b) (first k : ℕ) (g : Goes d v f chapter first k) where
  file : File d v f
  file = file_clear d v f small g.file

  body : Body d v f first k
  body = goes_body g

  low : (n : ℕ) → n < first + k → n < 65536
  low n h = let top = body.to_last in omega (arith, h, top)

  -- the first
  abbrev w : List ℕ
  w = rewrite_all (bears d v f a) d f b v first k

  once : Rewrote (bears d v f a) d f b v first k w
  once = rewrote (bears d v f a) d f b b16 k first v file body.to_last body.can

  altered : Altered d v f (Hit (bears d v f a) first k) b w
  altered = all_altered (bears d v f a) d f b b16 k first v file body.to_last body.can

  can_after : (n : ℕ) → n < 65536 → readable d v f n ≡ true → readable d w f n ≡ true
  can_after n n< can = readable_same d v w f once.alike file n n< can

  place : (n : ℕ) → n < 65536 → readable d v f n ≡ true → stands_at d w f n ≡ stands_at d v f n
  place n n< can = place_same d v f file n n< can w once.alike

  -- a record of the file that is none of those altered has its bytes
  kept : (n : ℕ) → n < 65536 → readable d v f n ≡ true → (Hit (bears d v f a) first k n → ⊥) → (j : ℕ) → j < 128
      → byte w (stands_at d v f n + j) ≡ byte v (stands_at d v f n + j)
  unfolding read_bytes
  kept n n< can none j j< =
      let there = not-false (present d.geometry v d.user (name_of f) n) (found d v f file n n< can).absent in
      let e = altered.records_stay ok d.user (name_of f) file.state.user15 n there j j< (λ x y h. absurd (none h)) in
      let x : byte (record_shown d w f n) j ≡ byte w (stands_at d w f n + j) = byte_is d w f once.file n n< (can_after n n< can) j j< in
      let y : byte (record_shown d v f n) j ≡ byte v (stands_at d v f n + j) = byte_is d v f file n n< can j j< in
      let p : byte w (stands_at d w f n + j) ≡ byte w (stands_at d v f n + j) = ap (λ (s : ℕ). byte w (s + j)) (place n n< can) in
      let r : byte (record_shown d w f n) j ≡ byte (read_bytes d.geometry w d.user (name_of f) n) j = ap (λ (s : List ℕ). byte s j) (record_is d w f once.file n n< (can_after n n< can)) in
      let q : byte (record_shown d v f n) j ≡ byte (read_bytes d.geometry v d.user (name_of f) n) j = ap (λ (s : List ℕ). byte s j) (record_is d v f file n n< can) in
      sym p ∙ sym x ∙ r ∙ e ∙ sym q ∙ y

  -- record 0 is none of them, so the second call is planned as the first
  contents_same : record_shown d w f 0 ≡ record_shown d v f 0
  contents_same =
      let can = g.has_contents in
      let n< : 0 < 65536 = omega arith in
      let one = body.from_one in
      let x = record_is d w f once.file 0 n< (can_after 0 n< can) in
      let y = record_is d v f file 0 n< can in
      let lx = ap length x ∙ record_length d.geometry file.state.law w once.file.size _ 0 (within d w f once.file 0 n< (can_after 0 n< can)).1 in
      let ly = ap length y ∙ record_length d.geometry file.state.law v file.size _ 0 (within d v f file 0 n< can).1 in
      ext_get_or 0 (record_shown d w f 0) (record_shown d v f 0) (lx ∙ sym ly)
      (λ j j<.
      let j128 : j < 128 = rw lx at j< in
      byte_is d w f once.file 0 n< (can_after 0 n< can) j j128 ∙ ap (λ (s : ℕ). byte w (s + j)) (place 0 n< can)
      ∙ kept 0 n< can (λ h. none h.0 one) j j128 ∙ sym (byte_is d v f file 0 n< can j j128))
    where
      none : first ≤ 0 → 1 ≤ first → ⊥
      none x y = omega (arith, x, y)

  planned : plan d w f chapter ≡ Ok (first, k)
  planned =
      let s = record_shown d v f 0 in
      let in_all = g.within in
      let few = in_all.few in
      let clear : is_none (first_met (change_tests d w f)) ≡ true = rw (tests_same d v w f once.alike) g.file in
      let reads : every_from (readable d w f) 1 (total s 16) ≡ true =
      every_ext (readable d w f) (readable d v f) 1 (total s 16)
      (λ m x y. let can = every_true (readable d v f) 1 (total s 16) in_all.all_read m x y in can_after m (omega (arith, y, few)) can ∙ sym can)
      ∙ in_all.all_read in
      let here = goes d w f s chapter in_all.good few in_all.there reads in
      let go = ap (λ (i : ℕ). Ok (i, k)) g.first_is ∙ ap (λ (j : ℕ). Ok (first_at s (chapter_place s chapter), j)) g.count_is ∙ here in
      sym (told d w f chapter clear refl (can_after 0 (omega arith) g.has_contents) (sym contents_same) go)

  -- the second
  abbrev z : List ℕ
  z = rewrite_all (bears d w f b) d f a w first k

  can_w : (n : ℕ) → first ≤ n → n < first + k → readable d w f n ≡ true
  can_w n x y = can_after n (low n y) (body.can n x y)

  back : Altered d w f (Hit (bears d w f b) first k) a z
  back = all_altered (bears d w f b) d f a a16 k first w once.file body.to_last can_w

  -- which records it alters
  same_hits : (n : ℕ) → first ≤ n → n < first + k → bears d v f a n ≡ true → bears d w f b n ≡ true
  same_hits n x y h =
      let can = body.can n x y in
      let l = altered.siglum_laid n (x, (y, h)) in
      let p = place n (low n y) can in
      bytes_have d w f once.file n (low n y) (can_w n x y) b (rw p l.0) (rw p l.1)

  no_others : (n : ℕ) → first ≤ n → n < first + k → bears d w f b n ≡ true → bears d v f a n ≡ true
  no_others n x y h = go (bears d v f a n) refl
    where
      go : (t : Bool) → bears d v f a n ≡ t → bears d v f a n ≡ true
      go true e = e
      go false e =
          let n< = low n y in
          let can = body.can n x y in
          let p = place n n< can in
          let had = has_bytes d w f once.file n n< (can_w n x y) b h in
          let miss : Hit (bears d v f a) first k n → ⊥ = λ q. true≢false (sym q.1.1 ∙ e) in
          let o : stands_at d v f n + 0 ≡ stands_at d v f n = omega arith in
          let low_byte : byte v (stands_at d v f n) ≡ b % 256 = sym (rw o at (kept n n< can miss 0 (omega arith))) ∙ (rw p at had.0) in
          let high_byte : byte v (stands_at d v f n + 1) ≡ b / 256 = sym (kept n n< can miss 1 (omega arith)) ∙ (rw p at had.1) in
          let fx = g.first_is in
          let cx = g.count_is in
          absurd (absent n (record { from_first = omega (arith, fx, x); to_last = omega (arith, fx, cx, y); has_siglum = bytes_have d v f file n n< can b low_byte high_byte }))

  -- each byte is as it was: one of a siglum that was altered, or another
  each : (x : ℕ) → byte z x ≡ byte v x
  each x = go (seek (λ n. bears d v f a n && (eqb x (stands_at d v f n) || eqb x (stands_at d v f n + 1))) k first)
    where
      both : (s t : Bool) → (s && t) ≡ true → (s ≡ true) × (t ≡ true)
      both true true e = (refl, refl)
      both true false e = absurd (true≢false (sym e))
      both false t e = absurd (true≢false (sym e))

      either : (s t : Bool) → (s || t) ≡ true → (s ≡ true) ⊎ (t ≡ true)
      either true t e = inl refl
      either false t e = inr e

      neither : (s t u : Bool) → (s && (t || u)) ≡ false → s ≡ true → (t ≡ false) × (u ≡ false)
      neither s t u e h = parts t u (rw h at e)
        where
          parts : (t u : Bool) → (t || u) ≡ false → (t ≡ false) × (u ≡ false)
          parts false false e = (refl, refl)
          parts false true e = absurd (true≢false e)
          parts true u e = absurd (true≢false e)

      go : Found (λ n. bears d v f a n && (eqb x (stands_at d v f n) || eqb x (stands_at d v f n + 1))) first k
          ⊎ ((n : ℕ) → first ≤ n → n < first + k → (bears d v f a n && (eqb x (stands_at d v f n) || eqb x (stands_at d v f n + 1))) ≡ false) → byte z x ≡ byte v x
      go (inl r) =
          let n = r.at in
          let h = both (bears d v f a n) _ r.hit in
          let can = body.can n r.low r.high in
          let p = place n (low n r.high) can in
          let old = has_bytes d v f file n (low n r.high) can a h.0 in
          let new = back.siglum_laid n (r.low, (r.high, same_hits n r.low r.high h.0)) in
          at_siglum n (rw p at new.0) (rw p at new.1) old.0 old.1 (either _ _ h.1)
        where
          at_siglum : (n : ℕ) → byte z (stands_at d v f n) ≡ a % 256 → byte z (stands_at d v f n + 1) ≡ a / 256 → byte v (stands_at d v f n) ≡ a % 256 → byte v (stands_at d v f n + 1) ≡ a / 256
              → (eqb x (stands_at d v f n) ≡ true) ⊎ (eqb x (stands_at d v f n + 1) ≡ true) → byte z x ≡ byte v x
          at_siglum n zl zh vl vh (inl e) = let q = eqb-true x (stands_at d v f n) e in rw q (zl ∙ sym vl)
          at_siglum n zl zh vl vh (inr e) = let q = eqb-true x (stands_at d v f n + 1) e in rw q (zh ∙ sym vh)
      go (inr none) =
          back.others_stay x (λ n h.
          let can = body.can n h.0 h.1.0 in
          let p = place n (low n h.1.0) can in
          let m = neither _ _ _ (none n h.0 h.1.0) (no_others n h.0 h.1.0 h.1.1) in
          rw p (eqb-false x (stands_at d v f n) m.0, eqb-false x (stands_at d v f n + 1) m.1))
          ∙ altered.others_stay x (λ n h.
          let m = neither _ _ _ (none n h.0 h.1.0) h.1.1 in
          (eqb-false x (stands_at d v f n) m.0, eqb-false x (stands_at d v f n + 1) m.1))

  old_bytes : z ≡ v
  old_bytes = ext_get_or 0 z v (back.length_stays ∙ altered.length_stays) (λ x h. each x)

-- ---- whatever the plan is
pub there_and_back : (d : Drive) (v f : List ℕ) (chapter a b : ℕ) → Bytes v → a < 65536 → b < 65536 → lowest_bad d.geometry v ≡ slots d.geometry
    → ThereAndBack d v f chapter a b
unfolding replacement carried_out
there_and_back d v f chapter a b small a16 b16 ok absent = go (plan d v f chapter) refl
  where
    go : (q : Result (ℕ × ℕ) Why) → plan d v f chapter ≡ q → (carried_out d (carried_out d v f a b q).volume f b a (plan d (carried_out d v f a b q).volume f chapter)).volume ≡ v
    go (Err why) e = rw e
    go (Ok (first, k)) e =
        let g = plan_goes d v f chapter first k e in
        rw (planned d v f chapter a b small a16 b16 ok absent first k g) (old_bytes d v f chapter a b small a16 b16 ok absent first k g)
