-- Function 40 is function 34 but for the zeros: both acts stand under the same tests, and what they leave differs in the
-- data that is stored alone.
use mathlib.Core.Path.{◌≡◌, refl, sym, ap, ap₂, ◌∙◌}
use mathlib.Core.Bool.{Bool, true, false, true≢false}
use mathlib.Core.Logic.{◌≢◌}
use mathlib.Core.List.{List, ◌++◌}
use Prim.Native.Nat.{ℕ, ◌+◌, ◌*◌, ◌/◌, ◌%◌}
use native.Mathlib.Nat.{div-add-mod'}
use lib.ListN.{length, replicate}
use Rattle.lists.specs.Bytes.{byte}
use Rattle.disk_geometry.specs.declared.Geometry.{Geometry}
use Rattle.disk_volume.specs.declared.Wanted.TheVariants.{Group}
use Rattle.disk_geometry.specs.Geometry.{bytes, records}
use Rattle.disk_volume.specs.Name.{name_of}
use Rattle.disk_volume.specs.Entry.{Entry, block_in}
use Rattle.disk_volume.specs.Directory.{slot_at, find_slot}
use Rattle.disk_volume.specs.Record.{record_slot, record_block, record_at, OffBlock}
use Rattle.disk_geometry.proofs.GeometryLaws.{same_place, same_group}
use Rattle.call_fcb.specs.Fcb.{random, set_to}
use Rattle.call_answers.specs.declared.Answer.TheVariants.{Done, Refused}
use Rattle.call_answers.specs.Refusal.{Test, is_none, first_met}
use Rattle.call_answers.specs.Answer.{succeeded}
use Rattle.call_read.specs.Read.{read_block, read_bytes}
use Rattle.call_decide.specs.Write.{write_slot, entry_after}
use Rattle.call_write.proofs.AfterLaws.{written, held_after, after_size, after_byte, after_block, after_slot, after_record_slot, after_record_within}
use Rattle.filecalls.specs.declared.Drive.{Drive}
use Rattle.filecalls.specs.Outcome.{Outcome, outcome, with_held}
use Rattle.filecalls.specs.Read.{random_tests}
use Rattle.filecalls.specs.Write.{directory_tests, write_done, write_direct_act, write_random_act, write_zero_fill_act}
use Rattle.filecalls.proofs.OutcomeLaws as laws
use Rattle.filecalls.proofs.WriteLaws.{leaves}
use Rattle.bdos.specs.Step.{carries, does, step}
use Rattle.call_served.specs.Calls.{call_of}
use Rattle.demands.specs.ZeroFill.{gives, block_of, ZeroFill}
use Rattle.demands.proofs.Demand2Writes.{Clear, clear_random}

-- two records of one block that have one place in it are one record
one_record : (r m n : ℕ) → m / r ≡ n / r → m % r ≡ n % r → m ≡ n
one_record r m n q e = sym (div-add-mod' m r) ∙ ap₂ (λ (x y : ℕ). x * r + y) q e ∙ div-add-mod' n r

module _ (d : Drive) (v f b : List ℕ) where
  abbrev n : ℕ
  n = random f

  abbrev tests : List Test
  tests = random_tests d v f b ++ directory_tests d v f n

  -- ---- what is left, by whether a test is met and whether blocks are filled
  abbrev result : Bool → Bool → Outcome
  result true fills =
      record {
        answer = Done 0;
        drive = with_held d (held_after d.geometry d.held v d.user (name_of f) n);
        volume = written d.geometry d.held v d.user (name_of f) n fills b;
        fcb = set_to f (entry_after d.geometry d.held v d.user (name_of f) n) n (n % 128);
        buffer = b;
      }
  result false fills = record { answer = Refused (first_met tests); drive = d; volume = v; fcb = f; buffer = b }

  result_is : (fills t : Bool) → is_none (first_met tests) ≡ t → outcome d v f b (write_direct_act fills d v f b) ≡ result t fills
  result_is fills true e = ap (outcome d v f b) (laws.does tests (write_done d v f n (n % 128) fills b) e) ∙ leaves d v f n (n % 128) fills b
  result_is fills false e = ap (outcome d v f b) (laws.denies tests (write_done d v f n (n % 128) fills b) e) ∙ unfold outcome in refl

  -- what looks alike in both
  alike : {A : Type 0} (look : Outcome → A) → ((t : Bool) → is_none (first_met tests) ≡ t → look (result t true) ≡ look (result t false))
      → look (outcome d v f b (write_direct_act true d v f b)) ≡ look (outcome d v f b (write_direct_act false d v f b))
  alike look same =
      let t = is_none (first_met tests) in
      ap look (result_is true t refl) ∙ same t refl ∙ sym (ap look (result_is false t refl))

  -- all but the volume
  but_volume : (t : Bool) → result t true
      ≡ record {
        answer = (result t false).answer;
        drive = (result t false).drive;
        volume = (result t true).volume;
        fcb = (result t false).fcb;
        buffer = (result t false).buffer;
      }
  but_volume true = refl
  but_volume false = refl

  -- ---- the volume
  no_block : gives d v f ≡ false → (t : Bool) → (result t true).volume ≡ (result t false).volume
  no_block e true = rw e
  no_block e false = refl

  clear : is_none (first_met tests) ≡ true → Clear d v f b n
  clear e = clear_random d v f b e

  sizes : (t : Bool) → is_none (first_met tests) ≡ t → length (result t true).volume ≡ length (result t false).volume
  sizes false e = refl
  sizes true e = size_of_lem true ∙ sym (size_of_lem false)
    where
      size_of_lem : (fills : Bool) → length (written d.geometry d.held v d.user (name_of f) n fills b) ≡ bytes d.geometry
      size_of_lem fills = let c = clear e in after_size d.geometry d.held v d.user (name_of f) n c.state.law c.size c.passed fills b c.record128

  elsewhere : (x : ℕ) → OffBlock d.geometry (block_of d v f) x → (t : Bool) → is_none (first_met tests) ≡ t → byte (result t true).volume x ≡ byte (result t false).volume x
  elsewhere x out false e = refl
  elsewhere x out true e =
      let c = clear e in
      after_byte d.geometry d.held v d.user (name_of f) n c.state.law c.size c.passed true b c.record128 x out
      ∙ sym (after_byte d.geometry d.held v d.user (name_of f) n c.state.law c.size c.passed false b c.record128 x out)

  -- ---- the block's other records, where no test is met
  module _ (e : is_none (first_met tests) ≡ true) (needs : gives d v f ≡ true) where
    abbrev g : Geometry
    g = d.geometry

    abbrev after : List ℕ
    after = written g d.held v d.user (name_of f) n true b

    zeros : (m : ℕ) → m % records g ≢ n % records g → record_at g after (block_of d v f) m ≡ replicate 128 0
    zeros m ne =
        let c = clear e in
        after_record_within g d.held v d.user (name_of f) n c.state.law c.size c.passed true b c.record128 m ne ∙ rw needs

    -- a record that belongs to the block by its number is read from it
    read_there : (m : ℕ) → m / records g ≡ n / records g → read_bytes g after d.user (name_of f) m ≡ record_at g after (block_of d v f) m
    unfolding read_bytes read_block record_slot
    read_there m q =
        let c = clear e in
        let place = same_place g c.state.law m n q in
        let slot : record_slot g after d.user (name_of f) m ≡ write_slot g v d.user (name_of f) n
        = ap (λ (k : ℕ). find_slot g after d.user (name_of f) (Group k)) (same_group g c.state.law m n q)
        ∙ after_record_slot g d.held v d.user (name_of f) n c.state.law c.size c.passed true b c.record128 in
        let entry = ap (slot_at g after) slot ∙ after_slot g d.held v d.user (name_of f) n c.state.law c.size c.passed true b c.record128 in
        let block = ap (λ (x : Entry). record_block g x m) entry
        ∙ ap (block_in g (entry_after g d.held v d.user (name_of f) n)) place
        ∙ after_block g d.held v d.user (name_of f) n c.state.law c.size c.passed in
        ap (λ (x : ℕ). record_at g after x m) block

    read_zeros : (m : ℕ) → m ≢ n → m / records g ≡ n / records g → read_bytes g after d.user (name_of f) m ≡ replicate 128 0
    read_zeros m ne q = read_there m q ∙ zeros m (λ z. ne (one_record (records g) m n q z))

  -- ---- a success: no test is met
  none_met : succeeded (outcome d v f b (write_zero_fill_act d v f b)).answer ≡ true → is_none (first_met tests) ≡ true
  unfolding write_zero_fill_act
  none_met h = go (is_none (first_met tests)) refl
    where
      go : (t : Bool) → is_none (first_met tests) ≡ t → is_none (first_met tests) ≡ true
      go true e = e
      go false e = absurd (true≢false (sym h ∙ ap (λ (o : Outcome). succeeded o.answer) (result_is true false e)))

  volume_is : is_none (first_met tests) ≡ true
      → (outcome d v f b (write_zero_fill_act d v f b)).volume ≡ written d.geometry d.held v d.user (name_of f) n true b
  unfolding write_zero_fill_act
  volume_is e = ap (λ (o : Outcome). o.volume) (result_is true true e)

pub zero_fill : ZeroFill
unfolding step does carries call_of write_random_act write_zero_fill_act
zero_fill = record {
  same_answer = λ g p d v f b. alike d v f b (λ o. o.answer) (λ t e. ap (λ (o : Outcome). o.answer) (but_volume d v f b t));
  same_state = λ g p d v f b. alike d v f b (λ o. o.drive) (λ t e. ap (λ (o : Outcome). o.drive) (but_volume d v f b t));
  same_fcb = λ g p d v f b. alike d v f b (λ o. o.fcb) (λ t e. ap (λ (o : Outcome). o.fcb) (but_volume d v f b t));
  same_buffer = λ g p d v f b. alike d v f b (λ o. o.buffer) (λ t e. ap (λ (o : Outcome). o.buffer) (but_volume d v f b t));
  same_volume = λ g p d v f b h. alike d v f b (λ o. o.volume) (λ t e. no_block d v f b h t);
  same_length = λ g p d v f b. alike d v f b (λ o. length o.volume) (sizes d v f b);
  same_elsewhere = λ g p d v f b x out. alike d v f b (λ o. byte o.volume x) (elsewhere d v f b x out);
  others_zero = λ g p d v f b s needs m ne.
      let e = none_met d v f b s in
      ap (λ (w : List ℕ). record_at d.geometry w (block_of d v f) m) (volume_is d v f b e) ∙ zeros d v f b e needs m ne;
  others_read_zeros = λ g p d v f b s needs m ne q r there.
      let e = none_met d v f b s in
      sym there.has_bytes ∙ ap (λ (w : List ℕ). read_bytes d.geometry w d.user (name_of f) m) (volume_is d v f b e)
      ∙ read_zeros d v f b e needs m ne q;
}
