-- The theorem: the file that gencmd writes loads.
use mathlib.Core.Path.{◌≡◌, refl, sym, ap, ◌∙◌}
use mathlib.Core.Bool.{true, false}
use mathlib.Core.List.{List, ◌++◌, append_assoc}
use Prim.Native.Nat.{ℕ, ◌+◌, ◌*◌, ◌-◌, ◌≤◌, ◌<◌}
use native.Mathlib.Omega.{arith}
use borrow.Author.Tests.{le-ltb, eqb-false}
use lib.Dec.{eqb, ltb}
use lib.ListN.{length, replicate, length-append}
use lib.Seq.{take_at, drop_at}
use lib.ListN.{take, drop}
use Rattle.lists.specs.Bytes.{byte}
use Rattle.disk_geometry.specs.Geometry.{record_bytes}
use Rattle.filecalls.specs.declared.Drive.{Drive}
use Rattle.memory_spans.specs.Span.{places, paragraph_bytes}
use Rattle.memory_calls.specs.declared.Table.{Table}
use Rattle.memory_calls.specs.Table.{pieces_of, regions_of}
use Rattle.memory_calls.proofs.CallLaws.{within_facts}
use Rattle.load_header.specs.Header.{CODE, length_at, groups, image_start, good_header}
use Rattle.load_records.specs.Records as records
use Rattle.load_records.proofs.RecordLaws.{record_length}
use Rattle.load_records.proofs.ImageLaws.{image_length}
use Rattle.load_grants.proofs.GrantsLaws.{Fits, grants_fit}
use Rattle.loading.specs.Load.{grants_of, image_short, loaded, placed, load}
use Rattle.loading.proofs.LoadLaws.{good_facts, page_below}
use Rattle.gencmd_lines.specs.declared.Refusal.TheVariants.{NoCode}
use Rattle.std.specs.Prelude.{is_none}
use Rattle.gencmd_lines.specs.Refusal.{refusing}
use Rattle.gencmd_lines.specs.Lines.{lines_of, lines_in, lines_refusal}
use Rattle.gencmd_lines.proofs.RefusalLaws.{first_parts, unmet}
use Rattle.gencmd_groups.specs.Groups.{reach_of, reaches}
use Rattle.gencmd_groups.specs.CodeMeasure.{SizeWithin}
use Rattle.gencmd_groups.proofs.ReachLaws.{reaches_within, sizes_within}
use Rattle.gencmd_file.specs.File.{header_bytes, header, image, file_length, file_with, file_of}
use Rattle.gencmd_file.specs.Gencmd.{refusal_of}
use Rattle.gencmd_file.proofs.FileLaws.{length_header}
use Rattle.gencmd_loads.specs.Loads.{groups_of, Says, OnVolume, HasRoom, region_at, Leaves, sizes_in, header_of, FileLoads}
use Rattle.gencmd_loads.proofs.HeaderSays.{header_says}
use Rattle.gencmd_loads.proofs.HeaderGood.{Paged, paged, header_good}
use Rattle.gencmd_loads.proofs.HeaderHolds.{header_holds}
use Rattle.gencmd_loads.proofs.ImageHas.{image_long, image_has}
use Rattle.gencmd_loads.proofs.GrantsExact.{grants_most, grants_apart}
use Rattle.gencmd_loads.proofs.MemoryHas.{memory_has}

-- ---- a text that is not refused
record Taken (text : List ℕ) : Type 0 where
  pub lines : is_none (lines_refusal (lines_of text)) ≡ true
  pub within : SizeWithin (sizes_in text)
  pub pages : Paged (sizes_in text)

taken : (text : List ℕ) (room : ℕ) → is_none (refusal_of text room) ≡ true → Taken text
unfolding refusal_of
taken text room e =
    let a = first_parts (lines_refusal (lines_of text)) _ e in
    let b = first_parts (refusing NoCode (eqb (reach_of (lines_in text) CODE) 0)) _ a.1 in
    let c = eqb-false (reach_of (lines_in text) CODE) 0 (unmet NoCode (eqb (reach_of (lines_in text) CODE) 0) b.0) in
    record {
      lines = a.0;
      within = sizes_within (reaches (lines_in text)) (reaches_within (lines_of text) a.0);
      pages = paged (reaches (lines_in text)) (some (reach_of (lines_in text) CODE) c);
    }
  where
    some : (n : ℕ) → (n ≡ 0 → ⊥) → 0 < n
    some n c = omega arith

module _ (text : List ℕ) (d : Drive) (v f : List ℕ) (t : Table) (memory : List ℕ) (k : Taken text)
    (o : OnVolume (file_of (lines_in text)) d v f) (r : HasRoom (length memory) (header_of text) t) where
  abbrev h : List ℕ
  h = header_of text

  abbrev picture : List ℕ
  picture = image (lines_in text) (sizes_in text)

  abbrev zeros : List ℕ
  zeros = replicate (file_length (sizes_in text) - length (header (sizes_in text) ++ picture)) 0

  says : Says h (groups_of (sizes_in text))
  says = header_says (sizes_in text) k.within

  good : good_header h ≡ true
  good = header_good (sizes_in text) k.within k.pages

  -- ---- what load reads: the header, and then the image
  file_is : file_of (lines_in text) ≡ h ++ (picture ++ zeros)
  unfolding file_with
  file_is = append_assoc h picture zeros

  head : records.record_of d v f 0 ≡ h
  head =
      sym (take_at (records.record_of d v f 0) (records.image d v f) header_bytes (record_length d v f 0))
      ∙ ap (take header_bytes) (o.bytes ∙ file_is) ∙ take_at h (picture ++ zeros) header_bytes (length_header (sizes_in text))

  rest : records.image d v f ≡ picture ++ zeros
  rest =
      sym (drop_at (records.record_of d v f 0) (records.image d v f) header_bytes (record_length d v f 0))
      ∙ ap (drop header_bytes) (o.bytes ∙ file_is) ∙ drop_at h (picture ++ zeros) header_bytes (length_header (sizes_in text))

  whole : paragraph_bytes * image_start h (groups h) ≤ length (records.image d v f)
  whole = rw (rest, length-append) (omega (arith, image_long (lines_in text) (sizes_in text) h says))

  -- ---- no test refuses it
  load_is : load d v f t memory ≡ loaded h (grants_of h t) (records.image d v f) t memory
  unfolding load placed
  load_is =
      let short : image_short h (records.image_records d v f) ≡ false =
      le-ltb (record_bytes * records.image_records d v f) (paragraph_bytes * image_start h (groups h)) (omega (arith, whole, image_length d v f)) in
      let left : ltb places (t.granted + groups h) ≡ false = le-ltb places (t.granted + groups h) r.left in
      let all : ltb (length (grants_of h t)) (groups h) ≡ false = le-ltb (length (grants_of h t)) (groups h) (omega (arith, r.all)) in
      rw (o.read, head, r.rules, good, short, left, all)

  -- ---- what was granted
  law : (i : ℕ) → i < groups h → Fits (length memory) h i (region_at h t i)
  law i l =
      let z : 0 + i ≡ i = omega arith in
      rw z at (grants_fit (length memory) h (pieces_of t) (regions_of t) 0 (groups h) (within_facts (length memory) t r.rules).law r.all i l)

  exact : (i : ℕ) → i < groups h → (region_at h t i).length ≡ length_at h i
  exact i l =
      let z : 0 + i ≡ i = omega arith in
      let m = rw z at (grants_most h (pieces_of t) (regions_of t) 0 (groups h) r.all i l) in
      let b : i < length (groups_of (sizes_in text)) = omega (arith, says.number) in
      let q = law i l in
      omega (arith, q.enough, says.least i b, says.most i b)

  leaves : Leaves (lines_in text) h t (loaded h (grants_of h t) (records.image d v f) t memory)
  unfolding loaded
  leaves =
      record {
        answer = refl;
        table = refl;
        size = exact;
        whole = header_holds (lines_of text) h k.lines says;
        memory = λ i x l m q.
            memory_has h (grants_of h t) (records.image d v f) memory whole law
            (grants_apart (length memory) h (pieces_of t) (regions_of t) (groups h) (within_facts (length memory) t r.rules).law r.all)
            (page_below h good) (good_facts h good).page i x l m q
            ∙ ap (λ (l : List ℕ). byte l (paragraph_bytes * image_start h i + x)) rest
            ∙ image_has (lines_in text) (sizes_in text) h says zeros i x l m;
      }

pub file_loads : FileLoads
file_loads text room d v f t memory e o r =
    let k = taken text room e in
    (says text d v f t memory k o r, rw (load_is text d v f t memory k o r) (leaves text d v f t memory k o r))
