-- A cut does no harm, whichever call it cuts and wherever, at every moment of a run. What `Keeps` says of each call's act gives
-- it for all calls but function 221, whose cuts lie in its single writes.
use mathlib.Core.Path.{◌≡◌, refl, sym, ap, ◌∙◌, subst}
use mathlib.Core.Logic.{◌≢◌}
use mathlib.Core.Bool.{Bool, true, false, cond}
use mathlib.Core.List.{List, []}
use Prim.Native.Nat.{ℕ, suc, ◌+◌, ◌*◌, ◌≤◌, ◌<◌}
use native.Mathlib.Omega.{arith}
use lib.ListN.{length}
use Rattle.disk_geometry.specs.declared.Geometry.{Geometry}
use Rattle.disk_stores.specs.Stores.{Store, laid, cut}
use Rattle.disk_stores.specs.Order.{ends, Ordered, directory}
use Rattle.disk_stores.proofs.LaidLaws.{cut_enough}
use Rattle.call_fcb.specs.Fcb.{position}
use Rattle.call_answers.specs.declared.Refusal.TheVariants.{None}
use Rattle.call_answers.specs.declared.Answer.TheVariants.{Several}
use Rattle.call_answers.specs.Answer.{value_of}
use Rattle.call_answers.specs.Refusal.{Test, is_none, first_met}
use Rattle.filecalls.specs.declared.Drive.{Drive}
use Rattle.filecalls.specs.Outcome.{Change, Act, deny, done, act_stores, unless, Outcome, outcome}
use Rattle.filecalls.specs.Open.{open_tests, open_act, close_tests, close_act, size_tests, size_act}
use Rattle.filecalls.specs.Search.{hit_act, first_tests, search_first_act, next_tests, search_next_act}
use Rattle.filecalls.specs.Read.{read_done, read_sequential_act, read_random_act}
use Rattle.filecalls.specs.Write.{write_random_act, write_zero_fill_act}
use Rattle.filecalls.specs.Leaves.{read_sequential_leaves}
use Rattle.several.specs.Several.{piece_at, on_piece, several}
use Rattle.several.specs.Stores.{several_stores}
use Rattle.several.proofs.SeveralLaws as laws
use Rattle.call_served.specs.declared.Call.{Call}
use Rattle.call_served.specs.declared.Call.TheVariants.{LogIn, Open, Close, SearchFirst, SearchNext, Delete, Make, Rename, Protect, Attributes, User, Size, SetRandom, Moves, Unserved}
use Rattle.call_served.specs.declared.Transfer.TheVariants.{ReadSequential, WriteSequential, ReadRandom, WriteRandom, WriteZeroFill, ReadSeveral, WriteSeveral}
use Rattle.call_served.specs.Asked.{Asked, asked}
use Rattle.call_served.specs.Calls.{call_of}
use Rattle.bdos.specs.Step.{carries, does, step}
use Rattle.bdos.specs.Stores.{transfer_stores, call_stores, stores_of}
use Rattle.numbers.specs.Numbers.{Bytes}
use Rattle.demands.specs.Demand1.{call}
use Rattle.demands.specs.Demand2.{Writes, sequential, direct, zero_filling, Present}
use Rattle.demands.specs.Demand3.{names_file, touches}
use Rattle.demands.specs.Cuts.{Harmless, LentWell, after_writes, next_stores, in_turn, InOneWrite, CutAnywhere, AnyCut, AcceptsCut}
use Rattle.demands.proofs.Inspected.{sound_accepted}
use Rattle.demands.proofs.Acts.{Consistent, act_laid, Safe, cuts_none, Keeps, keeps_cuts, keeps_ordered}
use Rattle.demands.proofs.DeleteKeeps.{delete_keeps}
use Rattle.demands.proofs.MakeKeeps.{make_keeps}
use Rattle.demands.proofs.RenameKeeps.{rename_keeps}
use Rattle.demands.proofs.AttributesKeep.{attributes_keep}
use Rattle.demands.proofs.WritesKeep.{write_sequential_keeps, write_random_keeps, write_zero_fill_keeps}
use Rattle.demands.proofs.Demand3Holds.{starts, demand3}
use Rattle.demands.proofs.AlwaysHolds.{Along, always_along}
use Rattle.demands.proofs.WriteCut.{WriteSafe}
use Rattle.demands.proofs.WritesCut.{sequential_safe, direct_safe}
use Rattle.demands.proofs.SeveralWritesCut.{InOne, singles_moment, several_cut_lem, several_laid, several_pieces}
use Rattle.demands.proofs.StoresInTurn.{turns_are}
use Rattle.demands.proofs.DoneBefore.{singles_done}

-- ---- calls that store nothing leave the volume
quiet : (d : Drive) (v f b : List ℕ) (ts : List Test) (code : ℕ) (change : Change) (f' b' : List ℕ) → v ≡ (outcome d v f b (unless ts (done code change [] f' b'))).volume
unfolding unless outcome laid
quiet d v f b ts code change f' b' = go (is_none (first_met ts))
  where
    go : (t : Bool) → v ≡ (outcome d v f b (cond t (done code change [] f' b') (deny (first_met ts)))).volume
    go true = refl
    go false = refl

module _ (d : Drive) (v f b : List ℕ) where
  open_quiet : v ≡ (outcome d v f [] (open_act d v f)).volume
  unfolding open_act
  open_quiet = quiet d v f [] (open_tests d v f) _ _ _ _

  close_quiet : v ≡ (outcome d v f [] (close_act d v f)).volume
  unfolding close_act
  close_quiet = quiet d v f [] (close_tests d v f) _ _ _ _

  size_quiet : v ≡ (outcome d v f [] (size_act d v f)).volume
  unfolding size_act
  size_quiet = quiet d v f [] (size_tests d v f) _ _ _ _

  first_quiet : v ≡ (outcome d v f b (search_first_act d v f b)).volume
  unfolding search_first_act hit_act
  first_quiet = quiet d v f b (first_tests d v f b) _ _ _ _

  next_quiet : v ≡ (outcome d v [] b (search_next_act d v b)).volume
  unfolding search_next_act hit_act
  next_quiet = quiet d v [] b (next_tests d v b) _ _ _ _

  read_sequential_quiet : v ≡ (outcome d v f b (read_sequential_act d v f b)).volume
  unfolding read_sequential_act read_done
  read_sequential_quiet = quiet d v f b _ _ _ _ _

  read_random_quiet : v ≡ (outcome d v f b (read_random_act d v f b)).volume
  unfolding read_random_act read_done
  read_random_quiet = quiet d v f b _ _ _ _ _

read_several_quiet : (d : Drive) (v f b : List ℕ) (k : ℕ) → v ≡ (several read_sequential_leaves d v f b k).volume
unfolding on_piece
read_several_quiet d v f b k =
    laws.several_keeps read_sequential_leaves (λ e w h a. v ≡ w) (λ i e w h a z. z ∙ read_sequential_quiet e w h _) d v f b k refl

-- ---- every call
-- its stores ss, and the volume w that it leaves
record Stored (call : Call) (d : Drive) (v f : List ℕ) (ss : List Store) (w : List ℕ) : Type 0 where
  cuts : (k : ℕ) → Safe (λ u name. names_file call d.user f u name) d.geometry v (cut d.geometry v k ss)
  ordered : call ≢ Moves WriteSeveral → Ordered d.geometry ss
  all_laid : laid d.geometry v ss ≡ w

module _ {call : Call} {d : Drive} {v f : List ℕ} (c : Consistent d v) where
  nothing : {w : List ℕ} → v ≡ w → Stored call d v f [] w
  unfolding laid
  nothing same = record { cuts = cuts_none c; ordered = λ h. directory [] (ends 0); all_laid = same }

  by_act : (b : List ℕ) {act : Act} → Keeps (λ u name. names_file call d.user f u name) d v act → Stored call d v f (act_stores act) (outcome d v f b act).volume
  by_act b {act} k = record { cuts = keeps_cuts c k; ordered = λ h. keeps_ordered k; all_laid = act_laid d v f b act }

module _ (g : Geometry) (p : ℕ) (d : Drive) (v f b : List ℕ) (c : Consistent d v) (small : Bytes f) where
  call_stored : (call : Call) → Stored call d v f (call_stores call p d v f b) (does g call p d v f b).volume
  unfolding call_stores transfer_stores does carries write_random_act write_zero_fill_act outcome
  call_stored LogIn = nothing c refl
  call_stored Open = nothing c (open_quiet d v f b)
  call_stored Close = nothing c (close_quiet d v f b)
  call_stored SearchFirst = nothing c (first_quiet d v f b)
  call_stored SearchNext = nothing c (next_quiet d v f b)
  call_stored Delete = by_act c [] (delete_keeps d v f c)
  call_stored Make = by_act c [] (make_keeps d v f c)
  call_stored Rename = by_act c [] (rename_keeps d v f c)
  call_stored Protect = nothing c refl
  call_stored Attributes = by_act c [] (attributes_keep d v f c)
  call_stored User = nothing c refl
  call_stored Size = nothing c (size_quiet d v f b)
  call_stored SetRandom = nothing c refl
  call_stored (Moves ReadSequential) = nothing c (read_sequential_quiet d v f b)
  call_stored (Moves WriteSequential) = by_act c b (write_sequential_keeps d v f b c)
  call_stored (Moves ReadRandom) = nothing c (read_random_quiet d v f b)
  call_stored (Moves WriteRandom) = by_act c b (write_random_keeps d v f b c small)
  call_stored (Moves WriteZeroFill) = by_act c b (write_zero_fill_keeps d v f b c small)
  call_stored (Moves ReadSeveral) = nothing c (read_several_quiet d v f b p)
  call_stored (Moves WriteSeveral) = record {
    cuts = λ k. (several_cut_lem d v f b p c k).all.safe;
    ordered = λ h. absurd (h refl);
    all_laid = several_laid d v f b p c;
  }
  call_stored Unserved = nothing c refl

  write_safe : (k : ℕ) {call : Call} {n : ℕ} {r : List ℕ} → Writes f b call n r → WriteSafe d f n r v (cut d.geometry v k (call_stores call p d v f b))
  unfolding call_stores transfer_stores
  write_safe k sequential = sequential_safe d v f b c k
  write_safe k direct = direct_safe d v f b c small false k
  write_safe k zero_filling = direct_safe d v f b c small true k

-- ---- what the statement says of a cut
harmless_by : (c : Asked) (d : Drive) (v w : List ℕ) → Safe (λ u name. touches c d u name) d.geometry v w
    → ((n : ℕ) (r : List ℕ) → Writes c.fcb c.buffer (call c) n r → WriteSafe d c.fcb n r v w) → Harmless d.geometry c d v w
harmless_by c d v w safe write = record {
  length_kept = safe.same_size;
  inspected = sound_accepted d.geometry w safe.sound;
  others_present = λ u name u15 h. (safe.others u name u15 h).presence;
  others_bytes = λ u name u15 h. (safe.others u name u15 h).contents;
  records_stay = λ n r x. (write n r x).records_stay;
  itself = λ n r x. (write n r x).itself;
}

-- of a single write of several records
next_harmless : (g : Geometry) (d : Drive) (v f r w : List ℕ) → d.geometry ≡ g → WriteSafe d f (position f) r v w → Harmless g (asked 21 0 f r) d v w
unfolding touches call_of
next_harmless g d v f r w is-g x =
    subst (λ (h : Geometry). Harmless h (asked 21 0 f r) d v w) is-g (harmless_by (asked 21 0 f r) d v w x.safe (λ n s y. go y refl))
  where
    go : {k : Call} {n : ℕ} {s : List ℕ} → Writes f r k n s → k ≡ Moves WriteSequential → WriteSafe d f n s v w
    go sequential e = x
    go direct e = let z : ◌≡◌ {A = ℕ} 0 1 = cc in absurd (omega arith)
    go zero_filling e = let z : ◌≡◌ {A = ℕ} 0 1 = cc in absurd (omega arith)

module _ (c : Asked) (d : Drive) (v : List ℕ) (s : Consistent d v) (small : Bytes c.fcb) where
  -- function 221
  module _ (e : call c ≡ Moves WriteSeveral) where
    in_one : (k : ℕ) → InOne 0 c.parameter d v c.fcb c.buffer c.buffer (cut d.geometry v k (stores_of c d v))
    unfolding call_stores transfer_stores
    in_one k = rw e (several_cut_lem d v c.fcb c.buffer c.parameter s k)

    in_one_write : (k : ℕ) → InOneWrite stores_of d.geometry c d v (cut d.geometry v k (stores_of c d v))
    unfolding call_of call_stores transfer_stores
    in_one_write k =
        let x = in_one k in
        let z : 0 + x.before ≡ x.before = omega arith in
        record {
          before = x.before;
          made = x.made;
          is = rw z at x.is;
          harmless = next_harmless _ _ _ _ _ _ x.same_geometry (rw z at x.one);
        }

    -- the buffer has a piece for each of its records
    fits : LentWell c d v → (j : ℕ) → j ≤ c.parameter → 128 * j ≤ length c.buffer
    fits h j l = let p = several_pieces d v c.fcb c.buffer c.parameter h in omega arith

    as_singles : LentWell c d v → stores_of c d v ≡ in_turn stores_of c c.parameter d v
    unfolding call_stores transfer_stores several_stores
    as_singles h = rw (e, h) (sym (turns_are c d v c.parameter (fits h c.parameter (omega arith))))

    done_before : LentWell c d v → (k j : ℕ) → j < c.parameter
        → (after_writes c (suc j) d v).answer ≡ Several (suc j) None → length (in_turn stores_of c (suc j) d v) ≤ k
        → Present d c.fcb (cut d.geometry v k (stores_of c d v)) (position c.fcb + j) (piece_at c.buffer j)
    unfolding call_stores transfer_stores several_stores
    done_before h k j j< told l =
        let z : 0 + j ≡ j = omega arith in
        rw (e, h)
        (rw z at (singles_done j c.parameter 0 k d v c.fcb c.buffer s j< (omega (arith, fits h c.parameter (omega arith))) (ap value_of told ∙ omega arith)
        (rw (turns_are c d v (suc j) (fits h (suc j) (omega arith))) at l)))

    each_in_order : (j : ℕ) → Ordered d.geometry (next_stores stores_of c j d v)
    unfolding call_of call_stores transfer_stores
    each_in_order j =
        let m = singles_moment j 0 d v c.fcb c.buffer s in
        subst (λ (g : Geometry). Ordered g (next_stores stores_of c j d v)) m.geometry_is
        (keeps_ordered (write_sequential_keeps _ _ _ (piece_at c.buffer j) m.consistent))

  pub cut_anywhere : CutAnywhere stores_of d.geometry c d v
  unfolding step touches call_stores transfer_stores
  cut_anywhere =
      let g = d.geometry in
      let x = call_stored g c.parameter d v c.fcb c.buffer s small (call c) in
      record {
        harmless = λ k. harmless_by c d v _ (x.cuts k) (λ n r w. write_safe g c.parameter d v c.fcb c.buffer s small k w);
        as_singles = as_singles;
        in_one_write = in_one_write;
        outside_stay = λ e k. (in_one e k).all.records_stay;
        done_before = done_before;
        in_order = x.ordered;
        each_in_order = each_in_order;
        enough = λ k h. cut_enough g v (stores_of c d v) k h ∙ x.all_laid;
      }

-- ---- at every moment of a run
along_cut : (g : Geometry) (c : Asked) (d : Drive) (v : List ℕ) → Along g d v → Bytes c.fcb → CutAnywhere stores_of g c d v
along_cut g c d v a small = subst (λ (h : Geometry). CutAnywhere stores_of h c d v) a.geometry_is (cut_anywhere c d v a.consistent small)

pub any_cut : AnyCut
any_cut g law v size ok login first cs small d c lent = along_cut g c _ _ (always_along g law v size ok login first cs small d) lent

-- the volume has its length and passes inspection, so a further log-in accepts
pub accepts_cut : AcceptsCut
accepts_cut g law v size ok login first cs small d c lent k again last e =
    let x = (any_cut g law v size ok login first cs small d c lent).harmless k in
    let y = demand3 g law v size ok login first cs small d d in
    ap (λ (o : Outcome). o.answer) (starts g law _ (x.length_kept ∙ y.length_kept ∙ size) x.inspected again last e)
