-- Renaming by way of a third name leaves no traces: the two sweeps of first to second and of second to third are the one of
-- first to third, entry by entry; those of there and back leave every entry. Inspection is used once, in
-- `only-attributes`.
use mathlib.Core.Path.{◌≡◌, refl, sym, ap, ◌∙◌}
use mathlib.Core.Bool.{Bool, true, false, true≢false}
use mathlib.Core.List.{List}
use Prim.Native.Nat.{ℕ, ◌<◌}
use lib.ListN.{length}
use Rattle.lists.specs.Bytes.{part}
use Rattle.disk_geometry.specs.Geometry.{slots}
use Rattle.disk_volume.specs.Name.{same, good_name}
use Rattle.call_typing.specs.Typing.{typeable}
use Rattle.disk_volume.specs.Entry.{Entry, of_file}
use Rattle.disk_volume.specs.Directory.{slot_at}
use Rattle.disk_volume.proofs.NameLaws.{same_refl, same_true}
use Rattle.disk_rules.specs.GoodSlot.{good_top_bits}
use Rattle.disk_rules.proofs.AcceptedLaws.{good_entry_lem}
use Rattle.call_sweep.specs.declared.Edit.TheVariants.{Rename}
use Rattle.call_sweep.specs.Sweep.{renamed, changed}
use Rattle.filecalls.specs.declared.Drive.{Drive}
use Rattle.filecalls.specs.Outcome.{Outcome}
use Rattle.filecalls.proofs.StateLaws.{is_open_lem}
use Rattle.demands.specs.Renaming.{exists, Drafts, PassesInspection, Asks, SameAttributes, ByThird, ThereAndBack, NoTraces, ByThirdAlways}
use Rattle.demands.specs.RenamingOnV.{state_v, volume_v, draft, temporary, finished, there, on, direct, back, inspected, drafts, draft_typeable, asks_there, asks_on, asks_direct, asks_back}
use Rattle.demands.proofs.Files.{is_of, file_live}
use Rattle.demands.proofs.RenameKeeps.{rename_hit, rename_miss}
use Rattle.demands.proofs.RenamingSweeps.{map_slots_same, map_slots_leaves}
use Rattle.demands.proofs.RenamingEntries.{renamed_under, read_only_stays, system_stays, renamed_twice, renamed_back}
use Rattle.demands.proofs.RenamingCalls.{none_of, Granted, edit, after, leaves, eleven, new_bytes, law, edit_keeps, after_slot, entry_length, still_free, granted_next}
use Rattle.demands.proofs.RenamingTwice.{both, one_sweep, both_hit, both_miss}

-- different names are so in either order
different : (a b : List ℕ) → same a b ≡ false → same b a ≡ false
different a b h = go (same b a) refl
  where
    go : (t : Bool) → same b a ≡ t → t ≡ false
    go false e = refl
    go true e = let z : b ≡ a = same_true b a e in absurd (true≢false (sym (same_refl a) ∙ (rw z at h)))

-- an entry keeps its attribute bits
attributes_kept : (u : ℕ) (old new : List ℕ) → length new ≡ 11 → (e : Entry) → length e ≡ 32 → SameAttributes e (changed Rename u old new e)
attributes_kept u old new n11 e e32 = go (of_file u old e) refl
  where
    go : (t : Bool) → of_file u old e ≡ t → SameAttributes e (changed Rename u old new e)
    go true own =
        let w = renamed_under e new e32 n11 in
        rw (rename_hit u old new e own) (record { read_only = read_only_stays new e (renamed e new) w; system = system_stays new e (renamed e new) w })
    go false own = rw (rename_miss u old new e own) (record { read_only = refl; system = refl })

-- ---- what is asked grants the renames
module _ {d : Drive} {v first second third : List ℕ} (given : Drafts d v first second third) where
  from_first : {f new : List ℕ} → Asks f first new → good_name false new ≡ true → typeable new ≡ true → exists d v new ≡ false → Granted d v f first new
  from_first asks permitted typed free = record {
    asks = asks;
    state_open = given.is_open_lem;
    volume_length_lem = given.volume_length_lem;
    not_protected = given.not_protected;
    old_permitted = given.first_permitted;
    new_permitted = permitted;
    new_typeable = typed;
    old_exists = given.first_exists;
    not_read_only = given.not_read_only;
    new_free = free;
  }

  to_second : {f : List ℕ} → Asks f first second → Granted d v f first second
  to_second asks = from_first asks given.second_permitted given.second_typeable given.second_free

  to_third : {f : List ℕ} → Asks f first third → Granted d v f first third
  to_third asks = from_first asks given.third_permitted given.third_typeable given.third_free

  module _ {f : List ℕ} (asks : Asks f first second) where
    then_third : {h : List ℕ} → Asks h second third → Granted d (after d v f first) h second third
    then_third asks' =
        granted_next (to_second asks) asks' given.third_permitted given.third_typeable
        (still_free (to_second asks) third (different second third given.second_not_third) (λ j j< other. none_of d v third given.third_free j j<))

    then_first : {h : List ℕ} → typeable first ≡ true → Asks h second first → Granted d (after d v f first) h second first
    then_first typed asks' = granted_next (to_second asks) asks' given.first_permitted typed (still_free (to_second asks) first given.first_not_second (λ j j< other. other))

-- ---- on to the third
module _ {d : Drive} {v f h k first second third : List ℕ} (r : Granted d v f first second) (s : Granted d (after d v f first) h second third) (t : Granted d v k first third) where
  -- first to second and second to third make the same of an entry as first to third
  same_entry : (j : ℕ) → j < slots d.geometry → (x : Bool) → of_file d.user first (slot_at d.geometry v j) ≡ x
      → edit d k first (slot_at d.geometry v j) ≡ edit d h second (edit d f first (slot_at d.geometry v j))
  same_entry j j< true own =
      let e = slot_at d.geometry v j in
      rename_hit d.user first (part k 17 11) e own
      ∙ sym (both_hit r s j j< own
      ∙ renamed_twice e (entry_length r j j<) (part f 17 11) (part h 17 11) (eleven r) (eleven s) (part k 17 11) (eleven t) (new_bytes s ∙ sym (new_bytes t)))
  same_entry j j< false other = rename_miss d.user first (part k 17 11) (slot_at d.geometry v j) other ∙ sym (both_miss r s j j< other)

  same_volume : after d (after d v f first) h second ≡ after d v k first
  same_volume =
      one_sweep r s
      ∙ sym (map_slots_same d.geometry (law t) (edit d k first) (λ e. edit d h second (edit d f first e)) (edit_keeps t) v t.volume_length_lem
      (λ j j<. same_entry j j< (of_file d.user first (slot_at d.geometry v j)) refl))

  attributes : (i : ℕ) → i < slots d.geometry → SameAttributes (slot_at d.geometry v i) (slot_at d.geometry (after d v k first) i)
  attributes i i< = rw (after_slot t i i<) (attributes_kept d.user first (part k 17 11) (eleven t) (slot_at d.geometry v i) (entry_length t i i<))

pub by_third : ByThirdAlways
by_third d v first second third given there on direct asks_there asks_on asks_direct =
    let r = to_second given asks_there in
    let s = then_third given asks_there asks_on in
    let t = to_third given asks_direct in
    record {
      there_answer = ap (λ (o : Outcome). o.answer) (leaves r);
      on_answer = ap (λ (o : Outcome). o.answer) (both r s);
      direct_answer = ap (λ (o : Outcome). o.answer) (leaves t);
      same_bytes = ap (λ (o : Outcome). o.volume) (both r s) ∙ same_volume r s t ∙ sym (ap (λ (o : Outcome). o.volume) (leaves t));
      same_state = ap (λ (o : Outcome). o.drive) (both r s) ∙ sym (ap (λ (o : Outcome). o.drive) (leaves t));
      attributes_stay = λ i i<. rw (both r s, same_volume r s t) (attributes r s t i i<);
    }

-- ---- there and back
module _ {d : Drive} {v f h first second : List ℕ} (inspected : PassesInspection d v) (r : Granted d v f first second) (s : Granted d (after d v f first) h second first) where
  -- what inspection is needed for: no byte of the file's entries but 9 and 10 has a top bit, which rename would take off
  only_attributes : (j : ℕ) → j < slots d.geometry → of_file d.user first (slot_at d.geometry v j) ≡ true → good_top_bits (slot_at d.geometry v j) ≡ true
  only_attributes j j< own =
      (good_entry_lem d.geometry v inspected j j< (file_live d.user first (slot_at d.geometry v j) (is_open_lem d r.state_open).user15 own)).top_bits

  old_entry : (j : ℕ) → j < slots d.geometry → (x : Bool) → of_file d.user first (slot_at d.geometry v j) ≡ x
      → edit d h second (edit d f first (slot_at d.geometry v j)) ≡ slot_at d.geometry v j
  old_entry j j< true own =
      let e = slot_at d.geometry v j in
      both_hit r s j j< own
      ∙ renamed_back e (entry_length r j j<) (part f 17 11) (part h 17 11) (eleven r) (eleven s) (only_attributes j j< own)
      (new_bytes s ∙ sym (is_of d.user first e own).name_is)
  old_entry j j< false other = both_miss r s j j< other

  old_volume : after d (after d v f first) h second ≡ v
  old_volume =
      one_sweep r s
      ∙ map_slots_leaves d.geometry (law r) (λ e. edit d h second (edit d f first e)) v r.volume_length_lem
      (λ j j<. old_entry j j< (of_file d.user first (slot_at d.geometry v j)) refl)

  there_and_back : ThereAndBack d v f h
  there_and_back = record {
    there_answer = ap (λ (o : Outcome). o.answer) (leaves r);
    back_answer = ap (λ (o : Outcome). o.answer) (both r s);
    old_bytes = ap (λ (o : Outcome). o.volume) (both r s) ∙ old_volume;
    old_state = ap (λ (o : Outcome). o.drive) (both r s);
  }

-- ---- the request
pub no_traces : NoTraces
no_traces d v first second third inspected given there on direct undone asks_there asks_on asks_direct asks_back = (
  by_third d v first second third given there on direct asks_there asks_on asks_direct,
  (λ typed. there_and_back inspected (to_second given asks_there) (then_first given asks_there typed asks_back)),
)

-- on V
pub no_traces_on_v : ByThird state_v (volume_v draft) there on direct × ThereAndBack state_v (volume_v draft) there back
no_traces_on_v =
    let n = no_traces state_v (volume_v draft) draft temporary finished inspected drafts there on direct back asks_there asks_on asks_direct asks_back in
    (n.0, n.1 draft_typeable)
