-- Request (xi), "the hard disk of the second machine", evaluated on the smallest such volume: block numbers of two bytes written, read,
-- held, freed and inspected, the eighth place of a map and the record behind it, and which geometries are refused. All values are
-- worked out by hand from the request: "block numbers in entries take two bytes, low first, eight to an entry, and an entry has
-- B/2,048 extents". Entries of two extents stand in `disk_geometry/proofs/Examples`.
use Rattle.std.specs.Prelude.{◌≡◌, refl, Bool, true, false, not, cond, List, [], ◌∷◌, ◌++◌, ℕ, zero, suc, ◌+◌, ◌*◌, ◌/◌, ◌%◌, ◌^◌, ◌≤◌, ltb, eqb, length, take, drop, replicate}
use Rattle.std.proofs.Common.{sym, ap, subst, ◌∙◌, arith, append_assoc, length-append}
use Rattle.std.proofs.lemmas.List.{length-replicate, replicate-append-replicate}
use Rattle.lists.specs.Bytes.{byte, part, put}
use Rattle.lists.proofs.PartLaws.{length_put}
use Rattle.disk_geometry.specs.declared.Geometry.{Geometry}
use Rattle.disk_geometry.specs.Geometry.{lawful, bytes, start, record_start, blocks, directory_blocks_of, slots, geometry_of}
use Rattle.disk_volume.specs.Fields.{NAME}
use Rattle.disk_volume.specs.Name.{name_of}
use Rattle.disk_volume.specs.Entry.{matches}
use Rattle.disk_volume.specs.Directory.{slot_at}
use Rattle.disk_volume.specs.Record.{record_slot, record_at}
use Rattle.disk_stores.specs.Stores.{Store, store, laid, directory_records, sweep_stores}
use Rattle.disk_held.specs.Held.{free_count}
use Rattle.disk_rules.specs.GoodSlot.{lowest_bad}
use Rattle.disk_rules.specs.Named.{held_of}
use Rattle.call_answers.specs.declared.Answer.TheVariants as answer
use Rattle.call_answers.specs.declared.Refusal.{Refusal}
use Rattle.call_answers.specs.declared.Refusal.TheVariants.{Closed, VolumeLength, BadSlot, NoGroup, Outside}
use Rattle.call_answers.specs.Refusal.{Test, test, is_none, first_met}
use Rattle.call_fcb.specs.Fcb.{R2, random, set_to}
use Rattle.call_read.specs.Read.{read_block, read_tests, read_bytes}
use Rattle.call_delete.specs.Delete.{delete_tests, free_matches}
use Rattle.call_sweep.specs.Sweep.{erased}
use Rattle.call_write.specs.Write.{hold_if}
use Rattle.filecalls.specs.declared.Drive.{Drive}
use Rattle.filecalls.specs.declared.Reply.{Reply}
use Rattle.filecalls.specs.State.{closed, logged_in}
use Rattle.filecalls.specs.Tests.{closed_state, fcb_length, buffer_length, drive_code, bad_name, beyond, protected_drive}
use Rattle.filecalls.specs.Outcome.{keeps, takes, frees, Act, deny, done as acts, unless, Outcome, outcome, left, changed_state, with_held}
use Rattle.filecalls.specs.LogIn.{log_in as log_in_reply, log_in_tests, refused_log_in}
use Rattle.filecalls.specs.Names.{delete_ladder, delete_act}
use Rattle.filecalls.specs.Read.{random_tests, read_done, read_random_act}
use Rattle.filecalls.specs.Write.{directory_tests, write_done, write_random_act}
use Rattle.examples.specs.Script.{log_in, delete, read, write, done, free, refused, bad_slot, Call, Line, call, altered, held_are, volume_at, fcb_is, buffer_is, Script, script, seen, told, seen_after, told_by, perform, answered, words, before}
use Rattle.examples.specs.Samples.{sigla, entry, empty, control, fresh, record_of, filled}

-- B 2,048, T 257, D 1: blocks 1 to 256 behind a directory of 64 slots, 16 records a block, one extent an entry
abbrev pub hard : Geometry
hard = geometry_of 2048 257 1

abbrev pub hard_disk : List ℕ → ℕ → List ℕ
hard_disk entries others = entries ++ empty others ++ replicate 524288 0

-- the places of a map, "low first"
unfoldable pub two : List ℕ → List ℕ
two [] = []
two (b ∷ bs) = b % 256 ∷ b / 256 ∷ two bs

-- SIGLA.TXT has block 255 in place 0
abbrev pub on_hard : List Line
on_hard =
    -- "Refusals: 32 also for B 1,024 with T above 256, and for a volume above 8 MiB"; 8 MiB itself is no reason, and so it is 33
    call (log_in (geometry_of 1024 257 1)) (refused 32)
    ∷ call (log_in (geometry_of 2048 4097 1)) (refused 32)
    ∷ call (log_in (geometry_of 4096 2049 1)) (refused 32)
    ∷ call (log_in (geometry_of 2048 4096 1)) (refused 33)
    ∷ call (log_in (geometry_of 4096 2048 1)) (refused 33)
    ∷ call (log_in hard) (free 255)
    ∷ held_are (0 ∷ 0 ∷ 0 ∷ 2 ^ 63 ∷ [])
    -- place 1 gets the block above 255: 256, whose low byte is 0
    ∷ call (write (record_of sigla 16) (filled 7)) (done 0)
    ∷ volume_at 0 (entry 0 sigla 0 0 17 (255 ∷ 0 ∷ 0 ∷ 1 ∷ []) ++ empty 63)
    ∷ volume_at 524288 (filled 7 ++ replicate 1920 0)
    ∷ fcb_is (control sigla 0 0 17 (255 ∷ 0 ∷ 0 ∷ 1 ∷ []) 16 16)
    ∷ held_are (0 ∷ 0 ∷ 0 ∷ 2 ^ 63 ∷ 1 ∷ [])
    ∷ call (read (record_of sigla 16) (filled 0)) (done 0)
    ∷ buffer_is (filled 7)
    -- "eight to an entry": record 127 is in the eighth place; record 128, which a ninth would have, is in an entry of its own
    ∷ call (write (record_of sigla 127) (filled 8)) (done 0)
    ∷ call (write (record_of sigla 128) (filled 9)) (done 0)
    ∷ volume_at 0 (entry 0 sigla 0 0 128 (two (255 ∷ 256 ∷ 0 ∷ 0 ∷ 0 ∷ 0 ∷ 0 ∷ 1 ∷ [])) ++ entry 0 sigla 1 0 1 (two (2 ∷ [])) ++ empty 62)
    ∷ held_are (6 ∷ 0 ∷ 0 ∷ 2 ^ 63 ∷ 1 ∷ [])
    ∷ call (delete (fresh sigla)) (done 0)
    ∷ held_are []
    -- block 513 is none, though its low byte is that of block 1
    ∷ altered (hard_disk (entry 0 sigla 0 0 16 (two (513 ∷ []))) 63)
    ∷ call (read (record_of sigla 0) (filled 0)) (refused 41)
    ∷ call (log_in hard) (bad_slot 0)
    ∷ []

abbrev pub wide : List Script
wide = script (hard_disk (entry 0 sigla 0 0 16 (two (255 ∷ []))) 63) on_hard ∷ []

-- ---- The volume is too long to be walked byte by byte. So its directory stands in full below, and of the bytes behind it only
-- what a line shows is looked up, by laws of parts.

-- the front of two lists that are one, and what lies behind it
put_far : (s t : List ℕ) (m a n : ℕ) (new : List ℕ) → m ≡ length s + a → put (s ++ t) m n new ≡ s ++ put t a n new
unfolding put
put_far [] t m a n new e = let z : m ≡ a = omega arith in ap (λ (k : ℕ). put t k n new) z
put_far (x ∷ s) t zero a n new e = absurd (omega arith)
put_far (x ∷ s) t (suc m) a n new e = ap (λ (l : List ℕ). x ∷ l) (put_far s t m a n new (omega arith))

drop_near : (s t : List ℕ) (n : ℕ) → n ≤ length s → drop n (s ++ t) ≡ drop n s ++ t
drop_near s t zero h = refl
drop_near [] t (suc n) h = absurd (omega arith)
drop_near (x ∷ s) t (suc n) h = drop_near s t n (omega arith)

put_near : (s t : List ℕ) (m n : ℕ) (new : List ℕ) → m + n ≤ length s → put (s ++ t) m n new ≡ put s m n new ++ t
unfolding put
put_near s t zero n new h =
    ap (λ (l : List ℕ). new ++ l) (drop_near s t n (omega arith)) ∙ sym (append_assoc new (drop n s) t)
put_near [] t (suc m) n new h = absurd (omega arith)
put_near (x ∷ s) t (suc m) n new h = ap (λ (l : List ℕ). x ∷ l) (put_near s t m n new (omega arith))

part_far : (s t : List ℕ) (m a n : ℕ) → m ≡ length s + a → part (s ++ t) m n ≡ part t a n
unfolding part
part_far [] t m a n e = let z : m ≡ a = omega arith in ap (λ (k : ℕ). part t k n) z
part_far (x ∷ s) t zero a n e = absurd (omega arith)
part_far (x ∷ s) t (suc m) a n e = part_far s t m a n (omega arith)

part_front : (s t : List ℕ) → part (s ++ t) 0 (length s) ≡ s
unfolding part
part_front [] t = refl
part_front (x ∷ s) t = ap (λ (l : List ℕ). x ∷ l) (part_front s t)

part_all : (s : List ℕ) → part s 0 (length s) ≡ s
unfolding part
part_all [] = refl
part_all (x ∷ s) = ap (λ (l : List ℕ). x ∷ l) (part_all s)

-- a data record and the directory's first record, stored behind and in the front
laid_two : (s t s' : List ℕ) (q a : ℕ) (r e : List ℕ) → length s ≡ 2048 → q * 128 ≡ 2048 + a → put s 0 128 e ≡ s'
    → laid hard (s ++ t) (store q r ∷ store 0 e ∷ []) ≡ s' ++ put t a 128 r
unfolding laid start
laid_two s t s' q a r e h k p =
    ap (λ (l : List ℕ). put l 0 128 e) (put_far s t (q * 128) a 128 r (omega arith)) ∙ put_near s (put t a 128 r) 0 128 e (omega arith)
    ∙ ap (λ (l : List ℕ). l ++ put t a 128 r) p

abbrev zeros : ℕ → List ℕ
zeros n = replicate n 0

zeros_length : (n : ℕ) → length (zeros n) ≡ n
zeros_length n = length-replicate n 0

zeros_more : (n m : ℕ) → zeros n ++ zeros m ≡ zeros (n + m)
zeros_more n m = replicate-append-replicate n m 0

-- ---- the lines from a call on
record Holds (o : Outcome) (ls : List Line) : Type 0 where
  is : seen_after o ls ≡ told_by ls

nothing_more : {o : Outcome} → Holds o []
unfolding seen_after told_by
nothing_more = record { is = refl }

calls : {c : Call} {a : List ℕ} {ls : List Line} {o n : Outcome} → perform c o.drive o.volume ≡ n → answered n.answer ≡ a → Holds n ls → Holds o (call c a ∷ ls)
unfolding seen_after told_by
calls {c} {a} {ls} {o} {n} p q h =
    record { is = ap (λ (x : Outcome). answered x.answer ∷ seen_after x ls) p ∙ (λ i. q i ∷ h.is i) }

lends : {v : List ℕ} {ls : List Line} {o : Outcome}
    → Holds (record { answer = o.answer; drive = o.drive; volume = v; fcb = o.fcb; buffer = o.buffer }) ls → Holds o (altered v ∷ ls)
unfolding seen_after told_by
lends h = record { is = h.is }

shows_volume : {at : ℕ} {l : List ℕ} {ls : List Line} {o : Outcome} → part o.volume at (length l) ≡ l → Holds o ls → Holds o (volume_at at l ∷ ls)
unfolding seen_after told_by
shows_volume p h = record { is = λ i. p i ∷ h.is i }

shows_held : {l : List ℕ} {ls : List Line} {o : Outcome} → o.drive.held ≡ words l → Holds o ls → Holds o (held_are l ∷ ls)
unfolding seen_after told_by
shows_held p h = record { is = λ i. p i ∷ h.is i }

shows_fcb : {l : List ℕ} {ls : List Line} {o : Outcome} → o.fcb ≡ l → Holds o ls → Holds o (fcb_is l ∷ ls)
unfolding seen_after told_by
shows_fcb p h = record { is = λ i. p i ∷ h.is i }

shows_buffer : {l : List ℕ} {ls : List Line} {o : Outcome} → o.buffer ≡ l → Holds o ls → Holds o (buffer_is l ∷ ls)
unfolding seen_after told_by
shows_buffer p h = record { is = λ i. p i ∷ h.is i }

-- ---- the calls, with what the test of the volume's length says
log_in_by : Bool → Bool → Geometry → List ℕ → Reply
log_in_by good sized g v =
    cond (is_none (first_met ((test Closed (not good) ∷ test VolumeLength (not sized) ∷ []) ++ (test BadSlot (ltb (lowest_bad g v) (slots g)) ∷ []))))
    (record {
      answer = answer.Ready (free_count (held_of g v) (directory_blocks_of g) (blocks g));
      drive = logged_in g (held_of g v);
    })
    (record {
      answer =
          cond (is_none (first_met (test Closed (not good) ∷ test VolumeLength (not sized) ∷ []))) (answer.BadSlot (lowest_bad g v))
          (answer.Refused (first_met (test Closed (not good) ∷ test VolumeLength (not sized) ∷ [])));
      drive = closed;
    })

log_in_as : Bool → Geometry → List ℕ → Reply
log_in_as sized g v = log_in_by (lawful g) sized g v

unlawful : (g : Geometry) (v : List ℕ) (t : Bool) → lawful g ≡ false → log_in_as t g v ≡ record { answer = answer.Refused Closed; drive = closed }
unfolding log_in_as log_in_by first_met
unlawful g v t e = ap (λ (l : Bool). log_in_by l t g v) e

wrong_length : (g : Geometry) (v : List ℕ) → lawful g ≡ true → log_in_as false g v ≡ record { answer = answer.Refused VolumeLength; drive = closed }
unfolding log_in_as log_in_by first_met
wrong_length g v e = ap (λ (l : Bool). log_in_by l false g v) e

logs_in : (d : Drive) (g : Geometry) (v : List ℕ) (t : Bool) (r : Reply) → eqb (length v) (bytes g) ≡ t → log_in_as t g v ≡ r
    → perform (log_in g) d v ≡ left r v [] []
unfolding perform log_in_reply log_in_tests refused_log_in log_in_as log_in_by
logs_in d g v t r e h = ap (λ (x : Reply). left x v [] []) (ap (λ (x : Bool). log_in_as x g v) e ∙ h)

random_as : Bool → Drive → List ℕ → List ℕ → List Test
random_as sized d fcb b =
    closed_state d ∷ test VolumeLength (not sized) ∷ fcb_length fcb ∷ buffer_length b ∷ drive_code fcb ∷ bad_name false fcb NAME
    ∷ beyond (not (eqb (byte fcb R2) 0)) ∷ []

read_as : Drive → List ℕ → List ℕ → List ℕ → List ℕ → Act
read_as d v fcb b found =
    unless (random_as true d fcb b ++ read_tests d.geometry v d.user (name_of fcb) (random fcb) NoGroup)
    (acts 0 keeps [] (set_to fcb (slot_at d.geometry v (record_slot d.geometry v d.user (name_of fcb) (random fcb))) (random fcb) (random fcb % 128)) found)

reads : (d : Drive) (v fcb b found : List ℕ) (act : Act) → eqb (length v) (bytes d.geometry) ≡ true
    → read_bytes d.geometry v d.user (name_of fcb) (random fcb) ≡ found → read_as d v fcb b found ≡ act → perform (read fcb b) d v ≡ outcome d v fcb b act
unfolding perform read_random_act random_tests read_done read_as random_as
reads d v fcb b found act e f h =
    ap (outcome d v fcb b)
    ((λ i.
    unless (random_as (e i) d fcb b ++ read_tests d.geometry v d.user (name_of fcb) (random fcb) NoGroup)
    (acts 0 keeps [] (set_to fcb (slot_at d.geometry v (record_slot d.geometry v d.user (name_of fcb) (random fcb))) (random fcb) (random fcb % 128)) (f i)))
    ∙ h)

write_as : Drive → List ℕ → List ℕ → List ℕ → Act
write_as d v fcb b = unless (random_as true d fcb b ++ directory_tests d v fcb (random fcb)) (write_done d v fcb (random fcb) (random fcb % 128) false b)

writes : (d : Drive) (v fcb b : List ℕ) (act : Act) → eqb (length v) (bytes d.geometry) ≡ true → write_as d v fcb b ≡ act
    → perform (write fcb b) d v ≡ outcome d v fcb b act
unfolding perform write_random_act random_tests write_as random_as
writes d v fcb b act e h =
    ap (outcome d v fcb b)
    ((λ i. unless (random_as (e i) d fcb b ++ directory_tests d v fcb (random fcb)) (write_done d v fcb (random fcb) (random fcb % 128) false b)) ∙ h)

-- what a call leaves that was done, and one that read
abbrev leaves : Drive → List ℕ → List ℕ → List ℕ → Outcome
leaves d v fcb b = record { answer = answer.Done 0; drive = d; volume = v; fcb = fcb; buffer = b }

wrote : (d : Drive) (v fcb b v' h' : List ℕ) (k : ℕ) (ss : List Store) (f' b' : List ℕ) → laid d.geometry v ss ≡ v' → hold_if true d.held k ≡ h'
    → outcome d v fcb b (acts 0 (takes true k) ss f' b') ≡ leaves (with_held d h') v' f' b'
unfolding outcome changed_state
wrote d v fcb b v' h' k ss f' b' e h = λ i. leaves (with_held d (h i)) (e i) f' b'

did_read : (d : Drive) (v fcb b f' b' : List ℕ) → outcome d v fcb b (acts 0 keeps [] f' b') ≡ leaves d v f' b'
unfolding outcome changed_state laid
did_read d v fcb b f' b' = refl

did_delete : (d : Drive) (v fcb b h' : List ℕ) (u : ℕ) (pattern : List ℕ) (ss : List Store) (f' b' : List ℕ) → free_matches d.geometry v u pattern d.held ≡ h'
    → outcome d v fcb b (acts 0 (frees u pattern) ss f' b') ≡ leaves (with_held d h') (laid d.geometry v ss) f' b'
unfolding outcome changed_state
did_delete d v fcb b h' u pattern ss f' b' h = ap (λ (x : List ℕ). leaves (with_held d x) (laid d.geometry v ss) f' b') h

denied : (d : Drive) (v fcb b : List ℕ) (why : Refusal)
    → outcome d v fcb b (deny why) ≡ record { answer = answer.Refused why; drive = d; volume = v; fcb = fcb; buffer = b }
unfolding outcome
denied d v fcb b why = refl

delete_as : Drive → List ℕ → List ℕ → List Store → Act
delete_as d v fcb ss =
    unless
    (closed_state d ∷ test VolumeLength (not true) ∷ fcb_length fcb ∷ drive_code fcb ∷ bad_name true fcb NAME ∷ protected_drive d
    ∷ delete_tests d.geometry v d.user (name_of fcb))
    (acts 0 (frees d.user (name_of fcb)) ss fcb [])

-- what its stores leave isn't looked at
record Deleted (d : Drive) (v fcb : List ℕ) : Type 0 where
  stores : List Store
  is : perform (delete fcb) d v ≡ outcome d v fcb [] (delete_as d v fcb stores)

deletes : (d : Drive) (v fcb : List ℕ) → eqb (length v) (bytes d.geometry) ≡ true → Deleted d v fcb
unfolding perform delete_act delete_ladder delete_as
deletes d v fcb e =
    record {
      stores = sweep_stores d.geometry (matches d.user (name_of fcb)) erased v 0 (directory_records d.geometry);
      is =
          ap (outcome d v fcb [])
          (λ i.
          unless
          (closed_state d ∷ test VolumeLength (not (e i)) ∷ fcb_length fcb ∷ drive_code fcb ∷ bad_name true fcb NAME ∷ protected_drive d
          ∷ delete_tests d.geometry v d.user (name_of fcb))
          (acts 0 (frees d.user (name_of fcb)) (sweep_stores d.geometry (matches d.user (name_of fcb)) erased v 0 (directory_records d.geometry)) fcb []));
    }

-- ---- the volume's length
sized : (s t : List ℕ) → length s ≡ 2048 → length t ≡ 524288 → length (s ++ t) ≡ 526336
sized s t h k = length-append s t ∙ omega arith

fits_hard : (s t : List ℕ) → length s ≡ 2048 → length t ≡ 524288 → eqb (length (s ++ t)) (bytes hard) ≡ true
unfolding bytes
fits_hard s t h k = ap (λ (n : ℕ). eqb n (bytes hard)) (sized s t h k)

not_so_long : (s t : List ℕ) → length s ≡ 2048 → length t ≡ 524288 → eqb (length (s ++ t)) (bytes (geometry_of 2048 4096 1)) ≡ false
unfolding bytes
not_so_long s t h k = ap (λ (n : ℕ). eqb n (bytes (geometry_of 2048 4096 1))) (sized s t h k)

nor_so_long : (s t : List ℕ) → length s ≡ 2048 → length t ≡ 524288 → eqb (length (s ++ t)) (bytes (geometry_of 4096 2048 1)) ≡ false
unfolding bytes
nor_so_long s t h k = ap (λ (n : ℕ). eqb n (bytes (geometry_of 4096 2048 1))) (sized s t h k)

-- ---- the directory before and after each write, and the one of the second volume
abbrev dir_0 : List ℕ
dir_0 = entry 0 sigla 0 0 16 (two (255 ∷ [])) ++ empty 63

abbrev dir_1 : List ℕ
dir_1 = entry 0 sigla 0 0 17 (255 ∷ 0 ∷ 0 ∷ 1 ∷ []) ++ empty 63

abbrev dir_2 : List ℕ
dir_2 = entry 0 sigla 0 0 128 (two (255 ∷ 256 ∷ 0 ∷ 0 ∷ 0 ∷ 0 ∷ 0 ∷ 1 ∷ [])) ++ empty 63

abbrev dir_3 : List ℕ
dir_3 = entry 0 sigla 0 0 128 (two (255 ∷ 256 ∷ 0 ∷ 0 ∷ 0 ∷ 0 ∷ 0 ∷ 1 ∷ [])) ++ entry 0 sigla 1 0 1 (two (2 ∷ [])) ++ empty 62

abbrev dir_4 : List ℕ
dir_4 = entry 0 sigla 0 0 16 (two (513 ∷ [])) ++ empty 63

abbrev held_0 : List ℕ
held_0 = words (0 ∷ 0 ∷ 0 ∷ 2 ^ 63 ∷ [])

abbrev held_1 : List ℕ
held_1 = words (0 ∷ 0 ∷ 0 ∷ 2 ^ 63 ∷ 1 ∷ [])

abbrev held_2 : List ℕ
held_2 = words (2 ∷ 0 ∷ 0 ∷ 2 ^ 63 ∷ 1 ∷ [])

abbrev held_3 : List ℕ
held_3 = words (6 ∷ 0 ∷ 0 ∷ 2 ^ 63 ∷ 1 ∷ [])

abbrev on : List ℕ → Drive
on held = logged_in hard held

module _ (t : List ℕ) where
  in_0 : log_in_as true hard (dir_0 ++ t) ≡ record { answer = answer.Ready 255; drive = on held_0 }
  unfolding seen two log_in_as log_in_by
  in_0 = refl

  write_16 : write_as (on held_0) (dir_0 ++ t) (record_of sigla 16) (filled 7)
      ≡ acts 0 (takes true 256) (store 4096 (filled 7) ∷ store 0 (take 128 dir_1) ∷ []) (control sigla 0 0 17 (255 ∷ 0 ∷ 0 ∷ 1 ∷ []) 16 16) (filled 7)
  unfolding seen two write_as random_as
  write_16 = refl

  read_16_block : read_block hard (dir_1 ++ t) 0 (name_of (record_of sigla 16)) (random (record_of sigla 16)) ≡ 256
  unfolding seen two
  read_16_block = refl

  read_16 : read_as (on held_1) (dir_1 ++ t) (record_of sigla 16) (filled 0) (filled 7)
      ≡ acts 0 keeps [] (control sigla 0 0 17 (255 ∷ 0 ∷ 0 ∷ 1 ∷ []) 16 16) (filled 7)
  unfolding seen two read_as random_as
  read_16 = refl

  write_127 : write_as (on held_1) (dir_1 ++ t) (record_of sigla 127) (filled 8)
      ≡ acts 0 (takes true 1) (store 31 (filled 8) ∷ store 0 (take 128 dir_2) ∷ [])
      (control sigla 0 0 128 (two (255 ∷ 256 ∷ 0 ∷ 0 ∷ 0 ∷ 0 ∷ 0 ∷ 1 ∷ [])) 127 127) (filled 8)
  unfolding seen two write_as random_as
  write_127 = refl

  write_128 : write_as (on held_2) (dir_2 ++ t) (record_of sigla 128) (filled 9)
      ≡ acts 0 (takes true 2) (store 32 (filled 9) ∷ store 0 (take 128 dir_3) ∷ []) (control sigla 1 0 1 (two (2 ∷ [])) 0 128) (filled 9)
  unfolding seen two write_as random_as
  write_128 = refl

  delete_all : (ss : List Store) → delete_as (on held_3) (dir_3 ++ t) (fresh sigla) ss ≡ acts 0 (frees 0 (name_of (fresh sigla))) ss (fresh sigla) []
  unfolding seen two delete_as
  delete_all ss = refl

  freed : free_matches hard (dir_3 ++ t) 0 (name_of (fresh sigla)) held_3 ≡ words []
  unfolding seen two
  freed = refl

  read_0 : (found : List ℕ) → read_as (on (words [])) (dir_4 ++ t) (record_of sigla 0) (filled 0) found ≡ deny Outside
  unfolding seen two read_as random_as
  read_0 found = refl

  in_4 : log_in_as true hard (dir_4 ++ t) ≡ record { answer = answer.BadSlot 0; drive = closed }
  unfolding seen two log_in_as log_in_by
  in_4 = refl

-- ---- and so what the lines show
laws_1 : lawful (geometry_of 1024 257 1) ≡ false
unfolding lawful
laws_1 = refl

laws_2 : lawful (geometry_of 2048 4097 1) ≡ false
unfolding lawful
laws_2 = refl

laws_3 : lawful (geometry_of 4096 2049 1) ≡ false
unfolding lawful
laws_3 = refl

laws_4 : lawful (geometry_of 2048 4096 1) ≡ true
unfolding lawful
laws_4 = refl

laws_5 : lawful (geometry_of 4096 2048 1) ≡ true
unfolding lawful
laws_5 = refl

length_0 : length dir_0 ≡ 2048
unfolding two
length_0 = refl

length_1 : length dir_1 ≡ 2048
length_1 = refl

length_2 : length dir_2 ≡ 2048
unfolding two
length_2 = refl

length_3 : length dir_3 ≡ 2048
unfolding two
length_3 = refl

length_4 : length dir_4 ≡ 2048
unfolding two
length_4 = refl

put_1 : put dir_0 0 128 (take 128 dir_1) ≡ dir_1
unfolding put two
put_1 = refl

put_2 : put dir_1 0 128 (take 128 dir_2) ≡ dir_2
unfolding put two
put_2 = refl

put_3 : put dir_2 0 128 (take 128 dir_3) ≡ dir_3
unfolding put two
put_3 = refl

hold_1 : hold_if true held_0 256 ≡ held_1
unfolding seen
hold_1 = refl

hold_2 : hold_if true held_1 1 ≡ held_2
unfolding seen
hold_2 = refl

hold_3 : hold_if true held_2 2 ≡ held_3
unfolding seen
hold_3 = refl

-- block 256, the last one
abbrev last_block : List ℕ
last_block = filled 7 ++ replicate 1920 0

put_last : put (replicate 2048 0) 0 128 (filled 7) ≡ last_block
unfolding put
put_last = refl

first_record : part last_block 0 128 ≡ filled 7
unfolding part
first_record = refl

begins_at : record_start hard 256 (random (record_of sigla 16)) ≡ 524288
unfolding seen record_start
begins_at = refl

found_at : (v name x : List ℕ) (n k at : ℕ) → read_block hard v 0 name n ≡ k → record_start hard k n ≡ at → part v at 128 ≡ x → read_bytes hard v 0 name n ≡ x
unfolding read_bytes record_at
found_at v name x n k at e f h = ap (λ (y : ℕ). record_at hard v y n) e ∙ ap (λ (y : ℕ). part v y 128) f ∙ h

-- the second volume
on_second : (t : List ℕ) → length t ≡ 524288
    → Holds (leaves (on (words [])) (dir_4 ++ t) (fresh sigla) []) (call (read (record_of sigla 0) (filled 0)) (refused 41) ∷ call (log_in hard) (bad_slot 0) ∷ [])
on_second t h =
    calls
    (reads (on (words [])) (dir_4 ++ t) (record_of sigla 0) (filled 0)
    (read_bytes hard (dir_4 ++ t) 0 (name_of (record_of sigla 0)) (random (record_of sigla 0)))
    (deny Outside) (fits_hard dir_4 t length_4 h) refl
    (read_0 t (read_bytes hard (dir_4 ++ t) 0 (name_of (record_of sigla 0)) (random (record_of sigla 0))))
    ∙ denied (on (words [])) (dir_4 ++ t) (record_of sigla 0) (filled 0) Outside)
    refl
    (calls (logs_in (on (words [])) hard (dir_4 ++ t) true _ (fits_hard dir_4 t length_4 h) (in_4 t)) refl nothing_more)

abbrev second_as_written : List ℕ
second_as_written = hard_disk (entry 0 sigla 0 0 16 (two (513 ∷ []))) 63

second_is : dir_4 ++ replicate 524288 0 ≡ second_as_written
unfolding two
second_is = append_assoc (entry 0 sigla 0 0 16 (two (513 ∷ []))) (empty 63) (replicate 524288 0)

-- after the first write
after_16 : (far : List ℕ) → length far ≡ 522240
    → Holds (leaves (on held_1) (dir_1 ++ (far ++ last_block)) (control sigla 0 0 17 (255 ∷ 0 ∷ 0 ∷ 1 ∷ []) 16 16) (filled 7))
    (call (read (record_of sigla 16) (filled 0)) (done 0)
    ∷ buffer_is (filled 7)
    ∷ call (write (record_of sigla 127) (filled 8)) (done 0)
    ∷ call (write (record_of sigla 128) (filled 9)) (done 0)
    ∷ volume_at 0 (entry 0 sigla 0 0 128 (two (255 ∷ 256 ∷ 0 ∷ 0 ∷ 0 ∷ 0 ∷ 0 ∷ 1 ∷ [])) ++ entry 0 sigla 1 0 1 (two (2 ∷ [])) ++ empty 62)
    ∷ held_are (6 ∷ 0 ∷ 0 ∷ 2 ^ 63 ∷ 1 ∷ [])
    ∷ call (delete (fresh sigla)) (done 0)
    ∷ held_are []
    ∷ altered second_as_written
    ∷ call (read (record_of sigla 0) (filled 0)) (refused 41)
    ∷ call (log_in hard) (bad_slot 0)
    ∷ [])
after_16 far h =
    let t1 : List ℕ = far ++ last_block in
    let k1 : length t1 ≡ 524288 = length-append far last_block ∙ omega arith in
    let t2 : List ℕ = put t1 1920 128 (filled 8) in
    let k2 : length t2 ≡ 524288 = length_put t1 1920 128 (omega arith) (filled 8) refl ∙ k1 in
    let t3 : List ℕ = put t2 2048 128 (filled 9) in
    let k3 : length t3 ≡ 524288 = length_put t2 2048 128 (omega arith) (filled 9) refl ∙ k2 in
    let found : part (dir_1 ++ t1) 524288 128 ≡ filled 7
    = part_far dir_1 t1 524288 522240 128 (omega (arith, length_1)) ∙ part_far far last_block 522240 0 128 (omega arith) ∙ first_record in
    let d : Deleted (on held_3) (dir_3 ++ t3) (fresh sigla) = deletes (on held_3) (dir_3 ++ t3) (fresh sigla) (fits_hard dir_3 t3 length_3 k3) in
    calls
    (reads (on held_1) (dir_1 ++ t1) (record_of sigla 16) (filled 0) (filled 7) _ (fits_hard dir_1 t1 length_1 k1)
    (found_at (dir_1 ++ t1) (name_of (record_of sigla 16)) (filled 7) (random (record_of sigla 16)) 256 524288 (read_16_block t1) begins_at found)
    (read_16 t1)
    ∙ did_read (on held_1) (dir_1 ++ t1) (record_of sigla 16) (filled 0) (control sigla 0 0 17 (255 ∷ 0 ∷ 0 ∷ 1 ∷ []) 16 16) (filled 7))
    refl
    (shows_buffer refl
    (calls
    (writes (on held_1) (dir_1 ++ t1) (record_of sigla 127) (filled 8) _ (fits_hard dir_1 t1 length_1 k1) (write_127 t1)
    ∙ wrote (on held_1) (dir_1 ++ t1) (record_of sigla 127) (filled 8) (dir_2 ++ t2) held_2 1 _ _ _
    (laid_two dir_1 t1 dir_2 31 1920 (filled 8) (take 128 dir_2) length_1 refl put_2) hold_2)
    refl
    (calls
    (writes (on held_2) (dir_2 ++ t2) (record_of sigla 128) (filled 9) _ (fits_hard dir_2 t2 length_2 k2) (write_128 t2)
    ∙ wrote (on held_2) (dir_2 ++ t2) (record_of sigla 128) (filled 9) (dir_3 ++ t3) held_3 2 _ _ _
    (laid_two dir_2 t2 dir_3 32 2048 (filled 9) (take 128 dir_3) length_2 refl put_3) hold_3)
    refl
    (shows_volume (part_front dir_3 t3)
    (shows_held refl
    (calls
    (d.is ∙ ap (outcome (on held_3) (dir_3 ++ t3) (fresh sigla) []) (delete_all t3 d.stores)
    ∙ did_delete (on held_3) (dir_3 ++ t3) (fresh sigla) [] (words []) 0 (name_of (fresh sigla)) d.stores (fresh sigla) [] (freed t3))
    refl
    (shows_held refl
    (lends
    (subst
    (λ (v : List ℕ). Holds (leaves (on (words [])) v (fresh sigla) []) (call (read (record_of sigla 0) (filled 0)) (refused 41) ∷ call (log_in hard) (bad_slot 0) ∷ []))
    second_is
    (on_second (replicate 524288 0) (zeros_length 524288)))))))))))

-- from the first line on
all_lines : (far : List ℕ) → length far ≡ 522240 → Holds (before (dir_0 ++ (far ++ replicate 2048 0))) on_hard
all_lines far h =
    let t0 : List ℕ = far ++ replicate 2048 0 in
    let k0 : length t0 ≡ 524288 = length-append far (replicate 2048 0) ∙ omega arith in
    let t1 : List ℕ = far ++ last_block in
    let stored : put t0 522240 128 (filled 7) ≡ t1
    = put_far far (replicate 2048 0) 522240 0 128 (filled 7) (omega arith) ∙ ap (λ (l : List ℕ). far ++ l) put_last in
    let shown : part (dir_1 ++ t1) 524288 (length last_block) ≡ last_block
    = part_far dir_1 t1 524288 522240 (length last_block) (omega (arith, length_1)) ∙ part_far far last_block 522240 0 (length last_block) (omega arith)
    ∙ part_all last_block in
    calls (logs_in closed (geometry_of 1024 257 1) (dir_0 ++ t0) _ _ refl (unlawful (geometry_of 1024 257 1) (dir_0 ++ t0) _ laws_1)) refl
    (calls (logs_in closed (geometry_of 2048 4097 1) (dir_0 ++ t0) _ _ refl (unlawful (geometry_of 2048 4097 1) (dir_0 ++ t0) _ laws_2)) refl
    (calls (logs_in closed (geometry_of 4096 2049 1) (dir_0 ++ t0) _ _ refl (unlawful (geometry_of 4096 2049 1) (dir_0 ++ t0) _ laws_3)) refl
    (calls
    (logs_in closed (geometry_of 2048 4096 1) (dir_0 ++ t0) false _ (not_so_long dir_0 t0 length_0 k0)
    (wrong_length (geometry_of 2048 4096 1) (dir_0 ++ t0) laws_4))
    refl
    (calls
    (logs_in closed (geometry_of 4096 2048 1) (dir_0 ++ t0) false _ (nor_so_long dir_0 t0 length_0 k0)
    (wrong_length (geometry_of 4096 2048 1) (dir_0 ++ t0) laws_5))
    refl
    (calls (logs_in closed hard (dir_0 ++ t0) true _ (fits_hard dir_0 t0 length_0 k0) (in_0 t0)) refl
    (shows_held refl
    (calls
    (writes (on held_0) (dir_0 ++ t0) (record_of sigla 16) (filled 7) _ (fits_hard dir_0 t0 length_0 k0) (write_16 t0)
    ∙ wrote (on held_0) (dir_0 ++ t0) (record_of sigla 16) (filled 7) (dir_1 ++ t1) held_1 256 _ _ _
    (laid_two dir_0 t0 dir_1 4096 522240 (filled 7) (take 128 dir_1) length_0 refl put_1 ∙ ap (λ (l : List ℕ). dir_1 ++ l) stored) hold_1)
    refl
    (shows_volume (part_front dir_1 t1)
    (shows_volume shown
    (shows_fcb refl
    (shows_held refl
    (after_16 far h))))))))))))

first_is : dir_0 ++ (replicate 522240 0 ++ replicate 2048 0) ≡ hard_disk (entry 0 sigla 0 0 16 (two (255 ∷ []))) 63
unfolding two
first_is =
    ap (λ (l : List ℕ). dir_0 ++ l) (zeros_more 522240 2048)
    ∙ append_assoc (entry 0 sigla 0 0 16 (two (255 ∷ []))) (empty 63) (replicate 524288 0)

all_hold : (s : Script) → Holds (before s.volume) s.lines → seen (s ∷ []) ≡ told (s ∷ [])
unfolding seen told
all_hold s h = ap (λ (x : List (List ℕ)). x ∷ []) h.is

wide_holds : seen wide ≡ told wide
wide_holds =
    all_hold (script (hard_disk (entry 0 sigla 0 0 16 (two (255 ∷ []))) 63) on_hard)
    (subst (λ (v : List ℕ). Holds (before v) on_hard) first_is (all_lines (replicate 522240 0) (zeros_length 522240)))
