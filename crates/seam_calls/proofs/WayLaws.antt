-- What is known of a call by its way through the door: one that asks does not log in and stores nothing; one that changes the volume
-- asks whether the state is open, and leaves all of the state but the held blocks.
use mathlib.Core.Path.{◌≡◌, refl, sym, ap, ◌∙◌}
use mathlib.Core.Bool.{Bool, true, false, cond, true≢false, false≢true}
use mathlib.Core.List.{List, []}
use Prim.Native.Nat.{ℕ}
use Rattle.disk_geometry.specs.declared.Geometry.{Geometry}
use Rattle.call_answers.specs.Refusal.{Test, is_none, first_met}
use Rattle.call_served.specs.declared.Call.{Call}
use Rattle.call_served.specs.declared.Call.TheVariants.{LogIn, Open, Close, SearchFirst, SearchNext, Delete, Make, Rename, Protect, Attributes, User, Size, SetRandom, Moves, Unserved}
use Rattle.call_served.specs.declared.Transfer.TheVariants.{ReadSequential, WriteSequential, ReadRandom, WriteRandom, WriteZeroFill, ReadSeveral, WriteSeveral}
use Rattle.filecalls.specs.declared.Drive.{Drive}
use Rattle.filecalls.specs.CodeFront.{front_of}
use Rattle.filecalls.specs.Outcome.{Act, deny, unless, changed_state, outcome}
use Rattle.filecalls.specs.Names.{delete_act, make_act, rename_act, attributes_act}
use Rattle.filecalls.specs.Write.{write_done, write_sequential_act, write_random_act, write_zero_fill_act}
use Rattle.filecalls.specs.Leaves.{write_sequential_leaves}
use Rattle.several.specs.Several.{on_piece}
use Rattle.several.proofs.SeveralLaws.{several_keeps}
use Rattle.bdos.specs.Step.{carries, does}
use Rattle.disk_stores.specs.Stores.{Store}
use Rattle.bdos.specs.Stores.{transfer_stores, call_stores}
use Rattle.bdos.specs.declared.Way.{Way}
use Rattle.bdos.specs.declared.Way.TheVariants.{LogsIn, Asks, Changes}
use Rattle.bdos.specs.CodeWay.{way_of, asks, changes}
use Rattle.seam_calls.specs.CodeSeam.{asks_open}

pub asks_other : (call : Call) → asks (way_of call) ≡ true → call ≡ LogIn → ⊥
asks_other call a e = false≢true (ap (λ (k : Call). asks (way_of k)) (sym e) ∙ a)

pub changes_other : (call : Call) → changes (way_of call) ≡ true → call ≡ LogIn → ⊥
changes_other call a e = false≢true (ap (λ (k : Call). changes (way_of k)) (sym e) ∙ a)

-- ---- a call that does not change the volume
pub asks_changes_not : (way : Way) → asks way ≡ true → changes way ≡ false
asks_changes_not LogsIn a = refl
asks_changes_not Asks a = refl
asks_changes_not Changes a = absurd (false≢true a)

pub stores_nothing_lem : (call : Call) → changes (way_of call) ≡ false → (p : ℕ) (d : Drive) (v f b : List ℕ) → ◌≡◌ {A = List Store} (call_stores call p d v f b) []
unfolding call_stores transfer_stores
stores_nothing_lem LogIn a p d v f b = refl
stores_nothing_lem Open a p d v f b = refl
stores_nothing_lem Close a p d v f b = refl
stores_nothing_lem SearchFirst a p d v f b = refl
stores_nothing_lem SearchNext a p d v f b = refl
stores_nothing_lem Delete a p d v f b = absurd (true≢false a)
stores_nothing_lem Make a p d v f b = absurd (true≢false a)
stores_nothing_lem Rename a p d v f b = absurd (true≢false a)
stores_nothing_lem Protect a p d v f b = refl
stores_nothing_lem Attributes a p d v f b = absurd (true≢false a)
stores_nothing_lem User a p d v f b = refl
stores_nothing_lem Size a p d v f b = refl
stores_nothing_lem SetRandom a p d v f b = refl
stores_nothing_lem (Moves ReadSequential) a p d v f b = refl
stores_nothing_lem (Moves WriteSequential) a p d v f b = absurd (true≢false a)
stores_nothing_lem (Moves ReadRandom) a p d v f b = refl
stores_nothing_lem (Moves WriteRandom) a p d v f b = absurd (true≢false a)
stores_nothing_lem (Moves WriteZeroFill) a p d v f b = absurd (true≢false a)
stores_nothing_lem (Moves ReadSeveral) a p d v f b = refl
stores_nothing_lem (Moves WriteSeveral) a p d v f b = absurd (true≢false a)
stores_nothing_lem Unserved a p d v f b = refl

-- ---- a call that changes the volume
-- where no test refuses the change is one of held blocks, and where one does there is none
front_unless : (d : Drive) (v f b : List ℕ) (ts : List Test) (act : Act) → front_of (outcome d v f b act).drive ≡ front_of d → front_of (outcome d v f b (unless ts act)).drive ≡ front_of d
unfolding unless outcome
front_unless d v f b ts act e = go (is_none (first_met ts))
  where
    go : (t : Bool) → front_of (outcome d v f b (cond t act (deny (first_met ts)))).drive ≡ front_of d
    go true = e
    go false = refl

-- what is known of each of them
pub record Changing (g : Geometry) (call : Call) (p : ℕ) (d : Drive) (v f b : List ℕ) : Type 0 where
  pub itself : asks_open call ≡ true
  pub same : front_of (does g call p d v f b).drive ≡ front_of d

module _ (g : Geometry) (p : ℕ) (d : Drive) (v f b : List ℕ) where
  sequential : (x : Drive) (w h c : List ℕ) → front_of (write_sequential_leaves x w h c).drive ≡ front_of x
  unfolding write_sequential_act write_done outcome changed_state
  sequential x w h c = front_unless x w h c _ _ refl

  pub changing : (call : Call) → changes (way_of call) ≡ true → Changing g call p d v f b
  unfolding does carries delete_act make_act rename_act attributes_act write_random_act write_zero_fill_act write_done outcome changed_state on_piece
  changing LogIn a = absurd (false≢true a)
  changing Open a = absurd (false≢true a)
  changing Close a = absurd (false≢true a)
  changing SearchFirst a = absurd (false≢true a)
  changing SearchNext a = absurd (false≢true a)
  changing Delete a = record { itself = refl; same = front_unless d v f [] _ _ refl }
  changing Make a = record { itself = refl; same = front_unless d v f [] _ _ refl }
  changing Rename a = record { itself = refl; same = front_unless d v f [] _ _ refl }
  changing Protect a = absurd (false≢true a)
  changing Attributes a = record { itself = refl; same = front_unless d v f [] _ _ refl }
  changing User a = absurd (false≢true a)
  changing Size a = absurd (false≢true a)
  changing SetRandom a = absurd (false≢true a)
  changing (Moves ReadSequential) a = absurd (false≢true a)
  changing (Moves WriteSequential) a = record { itself = refl; same = sequential d v f b }
  changing (Moves ReadRandom) a = absurd (false≢true a)
  changing (Moves WriteRandom) a = record { itself = refl; same = front_unless d v f b _ _ refl }
  changing (Moves WriteZeroFill) a = record { itself = refl; same = front_unless d v f b _ _ refl }
  changing (Moves ReadSeveral) a = absurd (false≢true a)
  changing (Moves WriteSeveral) a = record {
    itself = refl;
    same = several_keeps write_sequential_leaves (λ x w h c. front_of x ≡ front_of d) (λ i x w h c e. sequential x w h _ ∙ e) d v f b p refl;
  }
  changing Unserved a = absurd (false≢true a)
