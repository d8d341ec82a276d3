-- A table that 66 bytes can carry: calls and loads leave such a one, and laid and read again it is the same but for what stands behind
-- its ends.
use mathlib.Core.Path.{◌≡◌, sym, ap, ◌∙◌}
use mathlib.Core.Bool.{true, ◌&&◌, ◌||◌}
use mathlib.Core.List.{List, [], ◌∷◌, ◌++◌}
use Prim.Native.Nat.{ℕ, ◌≤◌, ◌<◌}
use native.Mathlib.Omega.{arith}
use borrow.Author.Tests.{ltb-true}
use lib.Dec.{leb, ltb, eqb}
use lib.ListN.{length, get_or, take, length-append, length-take}
use Rattle.numbers.specs.Numbers.{Bytes}
use Rattle.filecalls.specs.declared.Drive.{Drive}
use Rattle.memory_spans.specs.declared.Span.{Span}
use Rattle.memory_spans.specs.Span.{places, paragraphs, span, none}
use Rattle.memory_spans.specs.Room.{has_room}
use Rattle.memory_spans.proofs.MemberLaws.{in_at}
use Rattle.memory_spans.proofs.RulesLaws.{region_in_memory}
use Rattle.memory_room.specs.Starts.{lowest_start, longest}
use Rattle.memory_regions.specs.Places.{padded}
use Rattle.memory_regions.specs.Freeing.{freeable, freed}
use Rattle.memory_regions.proofs.PlaceLaws.{padded_length, padded_used, used_length}
use Rattle.memory_calls.specs.declared.Table.{Table}
use Rattle.memory_calls.specs.declared.Mcb.{Mcb}
use Rattle.memory_calls.specs.Table.{pieces_of, regions_of, with_regions, within_rules}
use Rattle.memory_calls.specs.Calls.{longest_run_of, tested, granted, granted_at, freeing, freeing_part, memory_call}
use Rattle.memory_calls.proofs.CallLaws.{within_facts, within_test}
use Rattle.memory_promises.proofs.RulesKept.{freed_length}
use Rattle.memory_promises.proofs.Theorem.{split, served}
use Rattle.memory_bytes.specs.TableBytes.{PIECES, REGIONS, table_of, table_laid}
use Rattle.memory_bytes.specs.RoundTrip.{Short, Carried}
use Rattle.memory_bytes.proofs.BytesLaws.{spans_length}
use Rattle.memory_bytes.proofs.RoundTripHolds.{laid_is_read}
use Rattle.load_records.specs.Records.{record_of, image_records, image}
use Rattle.load_records.proofs.ImageLaws.{image_length}
use Rattle.load_header.specs.Header.{groups}
use Rattle.loading.specs.Load.{After, grants_of, loaded, load}
use Rattle.load_promises.proofs.Theorem.{Outcome, denied, went, outcome, few}
use Rattle.load_runs.proofs.ShortLaws.{Every, nothing, also, every_behind, every_take, every_at, every_of, none_short, spans_short, Named, freed_short, grants_short}

pub record Lays (t : Table) : Type 0 where
  pub pieces_size : length t.pieces ≡ places
  pub regions_size : length t.regions ≡ places
  pub pieces : Every Short (pieces_of t)
  pub regions : Every Short (regions_of t)

-- a table that was read
pub read_lays : (b : List ℕ) → Bytes b → Lays (table_of b)
unfolding table_of
read_lays b bytes =
    record {
      pieces_size = spans_length b PIECES places;
      regions_size = spans_length b REGIONS places;
      pieces = every_take (table_of b).used (spans_short b bytes PIECES places);
      regions = every_take (table_of b).granted (spans_short b bytes REGIONS places);
    }

-- other regions
with_lays : (t : Table) → Lays t → (l : List Span) → length l ≤ places → Every Short l → Lays (with_regions t l)
with_lays t c l h a =
    record { pieces_size = c.pieces_size; regions_size = padded_length places l; pieces = c.pieces; regions = rw (padded_used places l h) a }

pub used_le : (arr : List Span) (m : ℕ) → length (take m arr) ≤ m
used_le arr m = rw length-take (omega arith)

-- ---- a memory call
module _ (bytes : ℕ) (t : Table) (b : Mcb) (rules : within_rules bytes t ≡ true) (base : b.base < paragraphs) (size : b.length < paragraphs) (c : Lays t) where
  granting_lays : (s : ℕ) → s < paragraphs → t.granted < places → Lays (with_regions t (regions_of t ++ (span s b.length ∷ [])))
  granting_lays s h g =
      with_lays t c (regions_of t ++ (span s b.length ∷ [])) (rw length-append (omega (arith, used_le t.regions t.granted)))
      (every_behind c.regions (also (span s b.length) [] (record { start = h; length = size }) nothing))

  named : Every Named (regions_of t)
  named =
      every_of (regions_of t)
      (λ i h. record {
        short = every_at none_short c.regions i;
        ends = (region_in_memory bytes (pieces_of t) (regions_of t) (within_facts bytes t rules).law (get_or (regions_of t) i none) (in_at (regions_of t) i h)).0;
      })

  freeing_lays : (part : Span) → Lays (with_regions t (freed part (regions_of t)))
  freeing_lays part =
      with_lays t c (freed part (regions_of t))
      (omega (arith, freed_length part (regions_of t), used_le t.regions t.granted, (within_facts bytes t rules).few_regions))
      (freed_short part named)

  clearing_lays : Lays (with_regions t [])
  clearing_lays = with_lays t c [] (omega arith) nothing

  pub call_lays : (f : ℕ) → Lays (memory_call f bytes t b).table
  unfolding memory_call longest_run_of tested granted granted_at freeing freeing_part
  call_lays f =
      split (λ r. Lays r.table) (leb 53 f && leb f 58) _ _
      (λ x.
      split (λ r. Lays r.table) (within_rules bytes t) _ _
      (λ y.
      served (λ r. Lays r.table) f t b
      (split (λ r. Lays r.table) (eqb b.length 0 || eqb (longest (pieces_of t) (regions_of t)) 0) _ _ (λ e. c) (λ e. c))
      (split (λ r. Lays r.table) (has_room (pieces_of t) (regions_of t) b.length b.base) _ _ (λ e. c) (λ e. c))
      (split (λ r. Lays r.table) (ltb t.granted places) _ _
      (λ e.
      split (λ r. Lays r.table) (ltb (lowest_start (pieces_of t) (regions_of t) b.length) paragraphs) _ _
      (λ g. granting_lays (lowest_start (pieces_of t) (regions_of t) b.length) (ltb-true (lowest_start (pieces_of t) (regions_of t) b.length) paragraphs g) (ltb-true t.granted places e))
      (λ g. c))
      (λ e. c))
      (split (λ r. Lays r.table) (ltb t.granted places) _ _
      (λ e.
      split (λ r. Lays r.table) (has_room (pieces_of t) (regions_of t) b.length b.base) _ _
      (λ g. granting_lays b.base base (ltb-true t.granted places e))
      (λ g. c))
      (λ e. c))
      (split (λ r. Lays r.table) (eqb b.ext 255) _ _ (λ e. clearing_lays)
      (λ e. split (λ r. Lays r.table) (freeable (span b.base b.length) (regions_of t)) _ _ (λ g. freeing_lays (span b.base b.length)) (λ g. c)))
      clearing_lays)
      (λ y. c))
      (λ x. c)

-- ---- a load
pub load_lays : (d : Drive) (v f : List ℕ) (t : Table) (memory : List ℕ) → Lays t → Lays (load d v f t memory).reply.table
unfolding loaded
load_lays d v f t memory c = go (outcome d v f t memory)
  where
    go : {r : After} → Outcome (record_of d v f 0) (image_records d v f) (image d v f) t memory r → Lays r.reply.table
    go (denied why) = c
    go (went w) =
        let h = record_of d v f 0 in
        with_lays t c (regions_of t ++ grants_of h t) (few h (image_records d v f) (image d v f) t memory (image_length d v f) w)
        (every_behind c.regions (grants_short (pieces_of t) c.pieces h (regions_of t) 0 (groups h)))

-- ---- laid and read again: behind the ends are zeros, and all else is the same
abbrev pub tidy : Table → Table
tidy t = record { pieces = padded places (pieces_of t); used = t.used; regions = padded places (regions_of t); granted = t.granted }

again : (arr : List Span) (m : ℕ) → length arr ≡ places → m ≤ places → take m (padded places (take m arr)) ≡ take m arr
again arr m size few =
    let n : length (take m arr) ≡ m = used_length arr m size few in
    ap (λ (k : ℕ). take k (padded places (take m arr))) (sym n) ∙ padded_used places (take m arr) (omega (arith, n))

module _ (bytes : ℕ) (t : Table) (c : Lays t) (rules : within_rules bytes t ≡ true) where
  pub pieces_tidy : pieces_of (tidy t) ≡ pieces_of t
  pieces_tidy = again t.pieces t.used c.pieces_size (within_facts bytes t rules).few_pieces

  pub regions_tidy : regions_of (tidy t) ≡ regions_of t
  regions_tidy = again t.regions t.granted c.regions_size (within_facts bytes t rules).few_regions

  carried : Carried (tidy t)
  carried =
      record {
        few_pieces = (within_facts bytes t rules).few_pieces;
        few_regions = (within_facts bytes t rules).few_regions;
        piece = λ i. rw pieces_tidy (every_at none_short c.pieces i);
        region = λ i. rw regions_tidy (every_at none_short c.regions i);
        pieces_end = ap (padded places) (sym pieces_tidy);
        regions_end = ap (padded places) (sym regions_tidy);
      }

  pub laid_tidy : table_laid (tidy t) ≡ table_laid t
  unfolding table_laid
  laid_tidy = rw (pieces_tidy, regions_tidy)

  pub read_again : table_of (table_laid t) ≡ tidy t
  read_again = ap table_of (sym laid_tidy) ∙ laid_is_read (tidy t) carried

  pub regions_again : regions_of (table_of (table_laid t)) ≡ regions_of t
  regions_again = ap (λ (x : Table). regions_of x) read_again ∙ regions_tidy

  pub rules_tidy : within_rules bytes (tidy t) ≡ true
  rules_tidy =
      within_test bytes (tidy t)
      (record {
        few_pieces = (within_facts bytes t rules).few_pieces;
        few_regions = (within_facts bytes t rules).few_regions;
        law = rw (pieces_tidy, regions_tidy) (within_facts bytes t rules).law;
      })

  pub rules_again : within_rules bytes (table_of (table_laid t)) ≡ true
  rules_again = rw read_again rules_tidy

  pub lays_again : Lays (table_of (table_laid t))
  lays_again =
      rw read_again
      (record {
        pieces_size = padded_length places (pieces_of t);
        regions_size = padded_length places (regions_of t);
        pieces = rw pieces_tidy c.pieces;
        regions = rw regions_tidy c.regions;
      })
