-- A control block or a buffer of a length that no call takes is refused by it, or by what is tested before it, whatever its bytes:
-- so an empty one in its place gets the same answer, and no store.
use mathlib.Core.Path.{◌≡◌, refl, sym, ap, ◌∙◌}
use mathlib.Core.Bool.{Bool, true, false, not, cond, ◌&&◌}
use mathlib.Core.List.{List, [], ◌∷◌, ◌++◌}
use Prim.Native.Nat.{ℕ, ◌*◌, ◌≤◌, ◌<◌}
use native.Mathlib.Omega.{arith}
use lib.Dec.{leb, eqb}
use lib.ListN.{length, take}
use lib.Seq.{take-length}
use borrow.Author.Tests.{not-false, leb-true, leb-false, ne_eqb}
use Rattle.lists.proofs.BoolLaws.{and_left, and_right}
use Rattle.disk_geometry.specs.declared.Geometry.{Geometry}
use Rattle.call_answers.specs.declared.Refusal.{Refusal}
use Rattle.call_answers.specs.declared.Refusal.TheVariants.{NotServed, FcbLength, BufferLength, BadCount}
use Rattle.call_answers.specs.Refusal.{Test, test, is_none, first, first_met}
use Rattle.call_answers.proofs.Ladder.{ladder_append}
use Rattle.filecalls.proofs.OutcomeLaws.{denies}
use Rattle.call_served.specs.declared.Call.{Call}
use Rattle.call_served.specs.declared.Call.TheVariants.{LogIn, Open, Close, SearchFirst, SearchNext, Delete, Make, Rename, Protect, Attributes, User, Size, SetRandom, Moves, Unserved}
use Rattle.call_served.specs.declared.Transfer.TheVariants.{ReadSequential, WriteSequential, ReadRandom, WriteRandom, WriteZeroFill, ReadSeveral, WriteSeveral}
use Rattle.filecalls.specs.declared.Drive.{Drive}
use Rattle.filecalls.specs.Tests.{closed_state, volume_length, fcb_length}
use Rattle.filecalls.specs.Outcome.{Act, deny, done, act_stores, unless, outcome}
use Rattle.filecalls.specs.Open.{open_tests, open_act, close_tests, close_act, size_tests, size_act}
use Rattle.filecalls.specs.Search.{first_tests, search_first_act, next_tests, search_next_act}
use Rattle.filecalls.specs.Names.{delete_ladder, delete_act, make_ladder, make_act, rename_ladder, rename_act, attributes_ladder, attributes_act}
use Rattle.filecalls.specs.Read.{sequential_tests, random_tests, read_sequential_act, read_random_act}
use Rattle.filecalls.specs.Write.{write_sequential_act, write_random_act, write_zero_fill_act}
use Rattle.filecalls.specs.Small.{set_random_tests, set_random_act}
use Rattle.several.specs.Several.{Single, pieces_length, several_tests, several}
use Rattle.filecalls.specs.Leaves.{read_sequential_leaves, write_sequential_leaves}
use Rattle.several.specs.Stores.{several_stores}
use Rattle.bdos.specs.Step.{carries, does}
use Rattle.bdos.specs.Stores.{transfer_stores, call_stores}
use Rattle.seam_calls.specs.CodeLent.{lent_fcb, lent_buffer}

-- a call and its answer do not depend on what else is in an act that is refused
answer_of : (d : Drive) (v f f' b b' : List ℕ) (act : Act) → (outcome d v f b act).answer ≡ (outcome d v f' b' act).answer
unfolding outcome
answer_of d v f f' b b' (deny why) = refl
answer_of d v f f' b b' (done k c ss f₂ b₂) = refl

-- the same answer, and the same stores
pub record Alike (g : Geometry) (kind : Call) (p : ℕ) (d : Drive) (v f b f' b' : List ℕ) : Type 0 where
  pub answer_is : (does g kind p d v f' b').answer ≡ (does g kind p d v f b).answer
  pub stores_are : call_stores kind p d v f' b' ≡ call_stores kind p d v f b

-- two acts that are the same
from_act : (d : Drive) (v f f' b b' : List ℕ) {act act' : Act} → act' ≡ act → (outcome d v f' b' act').answer ≡ (outcome d v f b act).answer
from_act d v f f' b b' {act} e = ap (λ (x : Act). (outcome d v f' b' x).answer) e ∙ answer_of d v f' f b' b act

-- ---- a ladder with a test that is met: what stands behind it makes no difference
met_here : (why : Refusal) → is_none why ≡ false → (rest : List Test) → first_met (test why true ∷ rest) ≡ why
unfolding first_met
met_here why n rest = rw n

first_some : (a b : Refusal) → is_none b ≡ false → is_none (first a b) ≡ false
first_some a b n = go (is_none a) refl
  where
    go : (t : Bool) → is_none a ≡ t → is_none (cond t b a) ≡ false
    go true e = n
    go false e = e

module _ (xs : List Test) (why : Refusal) (some : is_none why ≡ false) where
  stops_by : (rest : List Test) → first_met (xs ++ (test why true ∷ rest)) ≡ first (first_met xs) why
  stops_by rest = ladder_append xs (test why true ∷ rest) ∙ ap (first (first_met xs)) (met_here why some rest)

  same_first : (rest rest' : List Test) → first_met (xs ++ (test why true ∷ rest)) ≡ first_met (xs ++ (test why true ∷ rest'))
  same_first rest rest' = stops_by rest ∙ sym (stops_by rest')

  some_first : (rest : List Test) → is_none (first_met (xs ++ (test why true ∷ rest))) ≡ false
  some_first rest = ap is_none (stops_by rest) ∙ first_some (first_met xs) why some

  same_denied : (rest rest' : List Test) (act act' : Act) → unless (xs ++ (test why true ∷ rest)) act ≡ unless (xs ++ (test why true ∷ rest')) act'
  same_denied rest rest' act act' =
      denies _ act (some_first rest) ∙ ap deny (same_first rest rest') ∙ sym (denies _ act' (some_first rest'))

-- ---- a control block that is not 36 bytes long
module _ (d : Drive) (v f : List ℕ) (other : eqb (length f) 36 ≡ false) where
  open_fcb : open_act d v [] ≡ open_act d v f
  unfolding open_act open_tests
  open_fcb = rw other (same_denied (closed_state d ∷ volume_length d v ∷ []) FcbLength refl _ _ _ _)

  close_fcb : close_act d v [] ≡ close_act d v f
  unfolding close_act close_tests
  close_fcb = rw other (same_denied (closed_state d ∷ volume_length d v ∷ []) FcbLength refl _ _ _ _)

  size_fcb : size_act d v [] ≡ size_act d v f
  unfolding size_act size_tests
  size_fcb = rw other (same_denied (closed_state d ∷ volume_length d v ∷ []) FcbLength refl _ _ _ _)

  delete_fcb : delete_act d v [] ≡ delete_act d v f
  unfolding delete_act delete_ladder
  delete_fcb = rw other (same_denied (closed_state d ∷ volume_length d v ∷ []) FcbLength refl _ _ _ _)

  make_fcb : make_act d v [] ≡ make_act d v f
  unfolding make_act make_ladder
  make_fcb = rw other (same_denied (closed_state d ∷ volume_length d v ∷ []) FcbLength refl _ _ _ _)

  rename_fcb : rename_act d v [] ≡ rename_act d v f
  unfolding rename_act rename_ladder
  rename_fcb = rw other (same_denied (closed_state d ∷ volume_length d v ∷ []) FcbLength refl _ _ _ _)

  attributes_fcb : attributes_act d v [] ≡ attributes_act d v f
  unfolding attributes_act attributes_ladder
  attributes_fcb = rw other (same_denied (closed_state d ∷ volume_length d v ∷ []) FcbLength refl _ _ _ _)

  first_fcb : (b : List ℕ) → search_first_act d v [] b ≡ search_first_act d v f b
  unfolding search_first_act first_tests
  first_fcb b = rw other (same_denied (closed_state d ∷ volume_length d v ∷ []) FcbLength refl _ _ _ _)

  read_sequential_fcb : (b : List ℕ) → read_sequential_act d v [] b ≡ read_sequential_act d v f b
  unfolding read_sequential_act sequential_tests
  read_sequential_fcb b = rw other (same_denied (closed_state d ∷ volume_length d v ∷ []) FcbLength refl _ _ _ _)

  read_random_fcb : (b : List ℕ) → read_random_act d v [] b ≡ read_random_act d v f b
  unfolding read_random_act random_tests
  read_random_fcb b = rw other (same_denied (closed_state d ∷ volume_length d v ∷ []) FcbLength refl _ _ _ _)

  write_sequential_fcb : (b : List ℕ) → write_sequential_act d v [] b ≡ write_sequential_act d v f b
  unfolding write_sequential_act sequential_tests
  write_sequential_fcb b = rw other (same_denied (closed_state d ∷ volume_length d v ∷ []) FcbLength refl _ _ _ _)

  write_random_fcb : (b : List ℕ) → write_random_act d v [] b ≡ write_random_act d v f b
  unfolding write_random_act random_tests
  write_random_fcb b = rw other (same_denied (closed_state d ∷ volume_length d v ∷ []) FcbLength refl _ _ _ _)

  write_zero_fill_fcb : (b : List ℕ) → write_zero_fill_act d v [] b ≡ write_zero_fill_act d v f b
  unfolding write_zero_fill_act random_tests
  write_zero_fill_fcb b = rw other (same_denied (closed_state d ∷ volume_length d v ∷ []) FcbLength refl _ _ _ _)

  set_random_fcb : set_random_act d [] ≡ set_random_act d f
  unfolding set_random_act set_random_tests
  set_random_fcb = rw other (same_denied (closed_state d ∷ []) FcbLength refl _ _ _ _)

-- several records: the tests of what is lent refuse both alike
several_alike : (single : Single) (d : Drive) (v f f' b b' : List ℕ) (k : ℕ) → first_met (several_tests d v f' b' k) ≡ first_met (several_tests d v f b k)
    → is_none (first_met (several_tests d v f b k)) ≡ false
    → ((several single d v f' b' k).answer ≡ (several single d v f b k).answer) × (several_stores d v f' b' k ≡ several_stores d v f b k)
unfolding several several_stores
several_alike single d v f f' b b' k e n = (rw (e, n), rw (e, n))

module _ (d : Drive) (v f b : List ℕ) (k : ℕ) (other : eqb (length f) 36 ≡ false) where
  fcb_met : first_met (several_tests d v [] b k) ≡ first_met (several_tests d v f b k)
  unfolding several_tests
  fcb_met = rw other (same_first (closed_state d ∷ volume_length d v ∷ []) FcbLength refl _ _)

  fcb_some : is_none (first_met (several_tests d v f b k)) ≡ false
  unfolding several_tests
  fcb_some = rw other (some_first (closed_state d ∷ volume_length d v ∷ []) FcbLength refl _)

-- ---- every call with an empty control block in its place
pub fcb_alike : (g : Geometry) (kind : Call) (p : ℕ) (d : Drive) (v f b : List ℕ) → eqb (length f) 36 ≡ false → Alike g kind p d v f b [] b
unfolding does call_stores carries transfer_stores
fcb_alike g LogIn p d v f b other = record { answer_is = refl; stores_are = refl }
fcb_alike g Open p d v f b other = record { answer_is = from_act d v f [] [] [] (open_fcb d v f other); stores_are = refl }
fcb_alike g Close p d v f b other = record { answer_is = from_act d v f [] [] [] (close_fcb d v f other); stores_are = refl }
fcb_alike g SearchFirst p d v f b other = record { answer_is = from_act d v f [] b b (first_fcb d v f other b); stores_are = refl }
fcb_alike g SearchNext p d v f b other = record { answer_is = refl; stores_are = refl }
fcb_alike g Delete p d v f b other = record { answer_is = from_act d v f [] [] [] (delete_fcb d v f other); stores_are = ap act_stores (delete_fcb d v f other) }
fcb_alike g Make p d v f b other = record { answer_is = from_act d v f [] [] [] (make_fcb d v f other); stores_are = ap act_stores (make_fcb d v f other) }
fcb_alike g Rename p d v f b other = record { answer_is = from_act d v f [] [] [] (rename_fcb d v f other); stores_are = ap act_stores (rename_fcb d v f other) }
fcb_alike g Protect p d v f b other = record { answer_is = refl; stores_are = refl }
fcb_alike g Attributes p d v f b other = record { answer_is = from_act d v f [] [] [] (attributes_fcb d v f other); stores_are = ap act_stores (attributes_fcb d v f other) }
fcb_alike g User p d v f b other = record { answer_is = refl; stores_are = refl }
fcb_alike g Size p d v f b other = record { answer_is = from_act d v f [] [] [] (size_fcb d v f other); stores_are = refl }
fcb_alike g SetRandom p d v f b other = record { answer_is = from_act d [] f [] [] [] (set_random_fcb d v f other); stores_are = refl }
fcb_alike g (Moves ReadSequential) p d v f b other = record { answer_is = from_act d v f [] b b (read_sequential_fcb d v f other b); stores_are = refl }
fcb_alike g (Moves WriteSequential) p d v f b other = record { answer_is = from_act d v f [] b b (write_sequential_fcb d v f other b); stores_are = ap act_stores (write_sequential_fcb d v f other b) }
fcb_alike g (Moves ReadRandom) p d v f b other = record { answer_is = from_act d v f [] b b (read_random_fcb d v f other b); stores_are = refl }
fcb_alike g (Moves WriteRandom) p d v f b other = record { answer_is = from_act d v f [] b b (write_random_fcb d v f other b); stores_are = unfold write_random_act in ap act_stores (write_random_fcb d v f other b) }
fcb_alike g (Moves WriteZeroFill) p d v f b other = record { answer_is = from_act d v f [] b b (write_zero_fill_fcb d v f other b); stores_are = unfold write_zero_fill_act in ap act_stores (write_zero_fill_fcb d v f other b) }
fcb_alike g (Moves ReadSeveral) p d v f b other = record { answer_is = (several_alike read_sequential_leaves d v f [] b b p (fcb_met d v f b p other) (fcb_some d v f b p other)).0; stores_are = refl }
fcb_alike g (Moves WriteSeveral) p d v f b other =
    let x = several_alike write_sequential_leaves d v f [] b b p (fcb_met d v f b p other) (fcb_some d v f b p other) in
    record { answer_is = x.0; stores_are = x.1 }
fcb_alike g Unserved p d v f b other = record { answer_is = answer_of d v [] f b b (deny NotServed); stores_are = refl }

-- ---- a buffer of more than sixteen records
module _ (d : Drive) (v f b : List ℕ) (other : eqb (length b) 128 ≡ false) where
  next_buffer : search_next_act d v [] ≡ search_next_act d v b
  unfolding search_next_act next_tests
  next_buffer = rw other (same_denied (closed_state d ∷ volume_length d v ∷ []) BufferLength refl _ _ _ _)

  first_buffer : search_first_act d v f [] ≡ search_first_act d v f b
  unfolding search_first_act first_tests
  first_buffer = rw other (same_denied (closed_state d ∷ volume_length d v ∷ fcb_length f ∷ []) BufferLength refl _ _ _ _)

  read_sequential_buffer : read_sequential_act d v f [] ≡ read_sequential_act d v f b
  unfolding read_sequential_act sequential_tests
  read_sequential_buffer = rw other (same_denied (closed_state d ∷ volume_length d v ∷ fcb_length f ∷ []) BufferLength refl _ _ _ _)

  read_random_buffer : read_random_act d v f [] ≡ read_random_act d v f b
  unfolding read_random_act random_tests
  read_random_buffer = rw other (same_denied (closed_state d ∷ volume_length d v ∷ fcb_length f ∷ []) BufferLength refl _ _ _ _)

  write_sequential_buffer : write_sequential_act d v f [] ≡ write_sequential_act d v f b
  unfolding write_sequential_act sequential_tests
  write_sequential_buffer = rw other (same_denied (closed_state d ∷ volume_length d v ∷ fcb_length f ∷ []) BufferLength refl _ _ _ _)

  write_random_buffer : write_random_act d v f [] ≡ write_random_act d v f b
  unfolding write_random_act random_tests
  write_random_buffer = rw other (same_denied (closed_state d ∷ volume_length d v ∷ fcb_length f ∷ []) BufferLength refl _ _ _ _)

  write_zero_fill_buffer : write_zero_fill_act d v f [] ≡ write_zero_fill_act d v f b
  unfolding write_zero_fill_act random_tests
  write_zero_fill_buffer = rw other (same_denied (closed_state d ∷ volume_length d v ∷ fcb_length f ∷ []) BufferLength refl _ _ _ _)

not_one : (b : List ℕ) → 2048 < length b → eqb (length b) 128 ≡ false
not_one b long = ne_eqb (length b) 128 (omega arith)

-- k is from 1 to 16 where 46 is not met
count_in : (k : ℕ) → not (leb 1 k && leb k 16) ≡ false → (1 ≤ k) × (k ≤ 16)
count_in k e = let h = not-false _ e in (leb-true 1 k (and_left (leb 1 k) (leb k 16) h), leb-true k 16 (and_right (leb 1 k) (leb k 16) h))

-- several records: 46 or 35 refuses it
module _ (d : Drive) (v f b : List ℕ) (k : ℕ) (long : 2048 < length b) where
  buffer_met : (first_met (several_tests d v f [] k) ≡ first_met (several_tests d v f b k)) × (is_none (first_met (several_tests d v f b k)) ≡ false)
  unfolding several_tests
  buffer_met = go (not (leb 1 k && leb k 16)) refl
    where
      go : (t : Bool) → not (leb 1 k && leb k 16) ≡ t
          → (first_met (closed_state d ∷ volume_length d v ∷ fcb_length f ∷ test BadCount t ∷ pieces_length k [] ∷ [])
          ≡ first_met (closed_state d ∷ volume_length d v ∷ fcb_length f ∷ test BadCount t ∷ pieces_length k b ∷ []))
          × (is_none (first_met (closed_state d ∷ volume_length d v ∷ fcb_length f ∷ test BadCount t ∷ pieces_length k b ∷ [])) ≡ false)
      go true e =
          (same_first (closed_state d ∷ volume_length d v ∷ fcb_length f ∷ []) BadCount refl _ _, some_first (closed_state d ∷ volume_length d v ∷ fcb_length f ∷ []) BadCount refl _)
      go false e =
          let n = count_in k e in
          let a : eqb 0 (128 * k) ≡ false = ne_eqb 0 (128 * k) (omega (arith, n)) in
          let z : eqb (length b) (128 * k) ≡ false = ne_eqb (length b) (128 * k) (omega (arith, n, long)) in
          rw (a, z) (
            same_first (closed_state d ∷ volume_length d v ∷ fcb_length f ∷ test BadCount false ∷ []) BufferLength refl [] [],
            some_first (closed_state d ∷ volume_length d v ∷ fcb_length f ∷ test BadCount false ∷ []) BufferLength refl [],
          )

pub buffer_alike : (g : Geometry) (kind : Call) (p : ℕ) (d : Drive) (v f b : List ℕ) → 2048 < length b → Alike g kind p d v f b f []
unfolding does call_stores carries transfer_stores
buffer_alike g LogIn p d v f b long = record { answer_is = refl; stores_are = refl }
buffer_alike g Open p d v f b long = record { answer_is = refl; stores_are = refl }
buffer_alike g Close p d v f b long = record { answer_is = refl; stores_are = refl }
buffer_alike g SearchFirst p d v f b long = record { answer_is = from_act d v f f b [] (first_buffer d v f b (not_one b long)); stores_are = refl }
buffer_alike g SearchNext p d v f b long = record { answer_is = from_act d v [] [] b [] (next_buffer d v f b (not_one b long)); stores_are = refl }
buffer_alike g Delete p d v f b long = record { answer_is = refl; stores_are = refl }
buffer_alike g Make p d v f b long = record { answer_is = refl; stores_are = refl }
buffer_alike g Rename p d v f b long = record { answer_is = refl; stores_are = refl }
buffer_alike g Protect p d v f b long = record { answer_is = refl; stores_are = refl }
buffer_alike g Attributes p d v f b long = record { answer_is = refl; stores_are = refl }
buffer_alike g User p d v f b long = record { answer_is = refl; stores_are = refl }
buffer_alike g Size p d v f b long = record { answer_is = refl; stores_are = refl }
buffer_alike g SetRandom p d v f b long = record { answer_is = refl; stores_are = refl }
buffer_alike g (Moves ReadSequential) p d v f b long = record { answer_is = from_act d v f f b [] (read_sequential_buffer d v f b (not_one b long)); stores_are = refl }
buffer_alike g (Moves WriteSequential) p d v f b long = record { answer_is = from_act d v f f b [] (write_sequential_buffer d v f b (not_one b long)); stores_are = ap act_stores (write_sequential_buffer d v f b (not_one b long)) }
buffer_alike g (Moves ReadRandom) p d v f b long = record { answer_is = from_act d v f f b [] (read_random_buffer d v f b (not_one b long)); stores_are = refl }
buffer_alike g (Moves WriteRandom) p d v f b long = record { answer_is = from_act d v f f b [] (write_random_buffer d v f b (not_one b long)); stores_are = unfold write_random_act in ap act_stores (write_random_buffer d v f b (not_one b long)) }
buffer_alike g (Moves WriteZeroFill) p d v f b long = record { answer_is = from_act d v f f b [] (write_zero_fill_buffer d v f b (not_one b long)); stores_are = unfold write_zero_fill_act in ap act_stores (write_zero_fill_buffer d v f b (not_one b long)) }
buffer_alike g (Moves ReadSeveral) p d v f b long =
    let m = buffer_met d v f b p long in
    record { answer_is = (several_alike read_sequential_leaves d v f f b [] p m.0 m.1).0; stores_are = refl }
buffer_alike g (Moves WriteSeveral) p d v f b long =
    let m = buffer_met d v f b p long in
    let x = several_alike write_sequential_leaves d v f f b [] p m.0 m.1 in
    record { answer_is = x.0; stores_are = x.1 }
buffer_alike g Unserved p d v f b long = record { answer_is = answer_of d v f f [] b (deny NotServed); stores_are = refl }

-- ---- what is lent on
both : {g : Geometry} {kind : Call} {p : ℕ} {d : Drive} {v f b f' b' : List ℕ} → Alike g kind p d v f b f' b → Alike g kind p d v f' b f' b' → Alike g kind p d v f b f' b'
both x y = record { answer_is = y.answer_is ∙ x.answer_is; stores_are = y.stores_are ∙ x.stores_are }

lent_fcb_lem : (g : Geometry) (kind : Call) (p : ℕ) (d : Drive) (v f b : List ℕ) → Alike g kind p d v f b (lent_fcb f) b
lent_fcb_lem g kind p d v f b = go (eqb (length f) 36) refl
  where
    go : (t : Bool) → eqb (length f) 36 ≡ t → Alike g kind p d v f b (take (cond t (length f) 0) f) b
    go true e = rw (take-length f) (record { answer_is = refl; stores_are = refl })
    go false e = fcb_alike g kind p d v f b e

lent_buffer_lem : (g : Geometry) (kind : Call) (p : ℕ) (d : Drive) (v f b : List ℕ) → Alike g kind p d v f b f (lent_buffer b)
lent_buffer_lem g kind p d v f b = go (leb (length b) 2048) refl
  where
    go : (t : Bool) → leb (length b) 2048 ≡ t → Alike g kind p d v f b f (take (cond t (length b) 0) b)
    go true e = rw (take-length b) (record { answer_is = refl; stores_are = refl })
    go false e = buffer_alike g kind p d v f b (leb-false (length b) 2048 e)

pub lent_alike : (g : Geometry) (kind : Call) (p : ℕ) (d : Drive) (v f b : List ℕ) → Alike g kind p d v f b (lent_fcb f) (lent_buffer b)
lent_alike g kind p d v f b = both (lent_fcb_lem g kind p d v f b) (lent_buffer_lem g kind p d v (lent_fcb f) b)
