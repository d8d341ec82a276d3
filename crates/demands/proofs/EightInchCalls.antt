-- All that each call leaves on the image and on the unskewed volume: the one is the other, unskewed, and the image is what records
-- of its blocks make of it.
use mathlib.Core.Path.{◌≡◌, refl, sym, ap, subst, subst₂, ◌∙◌}
use mathlib.Core.Bool.{Bool, true, false, not, cond, ◌&&◌}
use mathlib.Core.List.{List, [], ◌∷◌, ◌++◌}
use Prim.Native.Nat.{ℕ, zero, suc, ◌*◌}
use lib.Dec.{ltb, eqb}
use lib.ListN.{length}
use Rattle.lists.specs.Bytes.{put}
use Rattle.disk_geometry.specs.declared.Geometry.{Geometry}
use Rattle.disk_geometry.specs.Geometry.{lawful, bytes}
use Rattle.disk_stores.specs.Stores.{Store, laid}
use Rattle.disk_stores.proofs.LaidLaws.{laid_append}
use Rattle.call_answers.specs.declared.Refusal.{Refusal}
use Rattle.call_answers.specs.declared.Refusal.TheVariants.{Closed, VolumeLength, UserCode, NotServed}
use Rattle.call_answers.specs.declared.Answer.TheVariants as answer
use Rattle.call_answers.specs.Refusal.{Test, test, is_none, first_met}
use Rattle.call_answers.specs.Answer.{succeeded, why_of}
use Rattle.call_fcb.specs.Fcb.{position, position_fits, with_random}
use Rattle.call_served.specs.declared.Call.{Call}
use Rattle.call_served.specs.declared.Call.TheVariants.{LogIn, Open, Close, SearchFirst, SearchNext, Delete, Make, Rename, Protect, Attributes, User, Size, SetRandom, Moves, Unserved}
use Rattle.call_served.specs.declared.Transfer.TheVariants.{ReadSequential, WriteSequential, ReadRandom, WriteRandom, WriteZeroFill, ReadSeveral, WriteSeveral}
use Rattle.filecalls.specs.declared.Drive.{Drive}
use Rattle.filecalls.specs.Tests.{closed_state, fcb_length, drive_code, too_large}
use Rattle.filecalls.specs.Outcome.{Change, keeps, takes, frees, protects, becomes, searches, Act, deny, done, act_stores, unless, with_held, changed_state, Outcome, outcome}
use Rattle.filecalls.specs.Leaves.{read_sequential_leaves, write_sequential_leaves}
use Rattle.filecalls.specs.Write.{write_random_act, write_zero_fill_act}
use Rattle.filecalls.specs.Small.{protect_tests, protect_act, user_tests, user_act, set_random_tests, set_random_act}
use Rattle.several.specs.Several.{Single, bad_count, pieces_length, several_tests, ended, piece_at, on_piece, singles, several}
use Rattle.filecalls.specs.Stores.{sequential_stores}
use Rattle.several.specs.Stores.{singles_stores, several_stores}
use Rattle.filecalls.proofs.OutcomeLaws.{same_geometry}
use Rattle.bdos.specs.Step.{keeps_buffer, keeps_fcb, keeps_volume, carries, does}
use Rattle.bdos.specs.Stores.{transfer_stores, call_stores}
use Rattle.unskewed.specs.Unskewed.{unskewed}
use Rattle.unskewed.proofs.Logical.{Within, none, laid_size, laid_seen}
use Rattle.unskewed.proofs.Asked.{freed_seen}
use Rattle.unskewed.proofs.Stored.{within_append}
use Rattle.demands.proofs.EightInchActs.{placed, AsksSame, StoresSame, placed_open, length_same, open_act_lem, close_act_lem, size_act_lem, first_act, next_act, delete_act_lem, make_act_lem, rename_act_lem, attributes_act_lem, read_sequential_act_lem, read_random_act_lem, write_sequential_act_lem, write_direct_act_lem}

-- all that is left, unskewed, with a straight geometry
abbrev pub placed_outcome : Geometry → Outcome → Outcome
placed_outcome g o =
    record { answer = o.answer; drive = placed o.drive; volume = unskewed g o.volume; fcb = o.fcb; buffer = o.buffer }

-- ---- what is left on the image, o, and on the unskewed volume, p, by a call whose stores are ss there and ss' here
-- the state d and the volume w that are left on the image v
pub record Laid (g : Geometry) (v : List ℕ) (ss ss' : List Store) (d : Drive) (w : List ℕ) : Type 0 where
  pub geometry : d.geometry ≡ g
  pub stores_same : ss' ≡ ss
  pub within : Within g ss
  pub volume_is : w ≡ laid g v ss

pub record Kin (g : Geometry) (v : List ℕ) (ss ss' : List Store) (o p : Outcome) : Type 0 where
  pub same : p ≡ placed_outcome g o
  pub lays : Laid g v ss ss' o.drive o.volume

-- nothing is stored
kept : (g : Geometry) (v : List ℕ) (d : Drive) → d.geometry ≡ g → Laid g v [] [] d v
unfolding laid
kept g v d e = record { geometry = e; stores_same = refl; within = none; volume_is = refl }

kin_cond : {g : Geometry} {v : List ℕ} {x x' y y' : List Store} {a b c e : Outcome} (t : Bool) → Kin g v x x' a c → Kin g v y y' b e
    → Kin g v (cond t x y) (cond t x' y') (cond t a b) (cond t c e)
kin_cond true k l = k
kin_cond false k l = l

module _ (g : Geometry) (v : List ℕ) {ss ss' : List Store} {o p : Outcome} (k : Kin g v ss ss' o p) where
  buffer_kin : (b : List ℕ) → Kin g v ss ss' (keeps_buffer b o) (keeps_buffer b p)
  buffer_kin b = record { same = λ i. keeps_buffer b (k.same i); lays = k.lays }

  fcb_kin : (f : List ℕ) → Kin g v ss ss' (keeps_fcb f o) (keeps_fcb f p)
  fcb_kin f = record { same = λ i. keeps_fcb f (k.same i); lays = k.lays }

pub laid_long : (g : Geometry) → lawful g ≡ true → (v : List ℕ) → length v ≡ bytes g → {ss ss' : List Store} {d : Drive} {w : List ℕ}
    → Laid g v ss ss' d w → length w ≡ bytes g
laid_long g good v size {ss} k = ap length k.volume_is ∙ laid_size g good v size ss k.within ∙ size

-- ---- one act
module _ (d : Drive) (good : lawful d.geometry ≡ true) (v : List ℕ) (size : length v ≡ bytes d.geometry) where
  abbrev g : Geometry
  g = d.geometry

  abbrev s : Drive
  s = placed d

  abbrev w : List ℕ
  w = unskewed d.geometry v

  change_seen : (ch : Change) → changed_state s w ch ≡ placed (changed_state d v ch)
  unfolding changed_state
  change_seen keeps = refl
  change_seen (takes t b) = refl
  change_seen (frees u pattern) =
      λ i. with_held (placed d) (freed_seen g good v size u pattern d.held i)
  change_seen protects = refl
  change_seen (becomes u) = refl
  change_seen (searches q) = refl

  act_kin : (f b : List ℕ) (act : Act) → Within g (act_stores act) → Kin g v (act_stores act) (act_stores act) (outcome d v f b act) (outcome s w f b act)
  unfolding outcome
  act_kin f b (deny why) x = record { same = refl; lays = kept g v d refl }
  act_kin f b (done code ch ss f' b') x =
      record {
        same = λ i. record { answer = answer.Done code; drive = change_seen ch i; volume = sym (laid_seen g good v size ss x) i; fcb = f'; buffer = b' };
        lays = record { geometry = same_geometry d v f b (done code ch ss f' b'); stores_same = refl; within = x; volume_is = refl };
      }

  by_act : (f b : List ℕ) {act act' : Act} → StoresSame g act act'
      → Kin g v (act_stores act) (act_stores act') (outcome d v f b act) (outcome s w f b act')
  by_act f b {act} {act'} k =
      subst (λ (a : Act). Kin g v (act_stores act) (act_stores a) (outcome d v f b act) (outcome s w f b a)) (sym k.same) (act_kin f b act k.stores)

  -- of a call that stores nothing
  asked : (f b : List ℕ) {act act' : Act} → AsksSame act act' → Kin g v [] [] (outcome d v f b act) (outcome s w f b act')
  asked f b {act} {act'} k =
      let x = by_act f b (record { same = k.same; stores = subst (Within g) (sym k.stores) none }) in
      subst₂ (λ ss ss'. Kin g v ss ss' (outcome d v f b act) (outcome s w f b act')) k.stores (x.lays.stores_same ∙ k.stores) x

  -- ---- the calls that are lent no volume
  data Plain : Act → Type 0 where
    denies : (why : Refusal) → Plain (deny why)
    stays : (code : ℕ) (f b : List ℕ) → Plain (done code keeps [] f b)
    protecting : (code : ℕ) (f b : List ℕ) → Plain (done code protects [] f b)
    becoming : (code u : ℕ) (f b : List ℕ) → Plain (done code (becomes u) [] f b)

  record Small (o p : Outcome) : Type 0 where
    answer_is : p.answer ≡ o.answer
    drive_is : p.drive ≡ placed o.drive
    fcb_is_lem : p.fcb ≡ o.fcb
    kept : o.drive.geometry ≡ g

  small : (f : List ℕ) (act : Act) → Plain act → Small (outcome d [] f [] act) (outcome s [] f [] act)
  unfolding outcome changed_state
  small f (deny why) (denies why') = record { answer_is = refl; drive_is = refl; fcb_is_lem = refl; kept = refl }
  small f (done code keeps [] f' b) (stays code' f'' b'') = record { answer_is = refl; drive_is = refl; fcb_is_lem = refl; kept = refl }
  small f (done code protects [] f' b) (protecting code' f'' b'') = record { answer_is = refl; drive_is = refl; fcb_is_lem = refl; kept = refl }
  small f (done code (becomes u) [] f' b) (becoming code' u' f'' b'') = record { answer_is = refl; drive_is = refl; fcb_is_lem = refl; kept = refl }
  small f (done code keeps (_ ∷ _) f' b) x8 = elim x8 [ ]
  small f (done code (takes _ _) _ f' b) x8 = elim x8 [ ]
  small f (done code (frees _ _) _ f' b) x9 = elim x9 [ ]
  small f (done code protects (_ ∷ _) f' b) x11 = elim x11 [ ]
  small f (done code (becomes u) (_ ∷ _) f' b) x12 = elim x12 [ ]
  small f (done code (searches _) _ f' b) x11 = elim x11 [ ]

  plain_unless : (ts : List Test) (act : Act) → Plain act → Plain (unless ts act)
  unfolding unless
  plain_unless ts act x = go (is_none (first_met ts))
    where
      go : (t : Bool) → Plain (cond t act (deny (first_met ts)))
      go true = x
      go false = denies (first_met ts)

  small_kin : (f b : List ℕ) {o p : Outcome} → Small o p
      → Kin g v [] [] (keeps_volume v (keeps_fcb f (keeps_buffer b o))) (keeps_volume w (keeps_fcb f (keeps_buffer b p)))
  small_kin f b {o} x =
      record {
        same = λ i. record { answer = x.answer_is i; drive = x.drive_is i; volume = w; fcb = f; buffer = b };
        lays = kept g v o.drive x.kept;
      }

  small_fcb_kin : (b : List ℕ) {o p : Outcome} → Small o p → Kin g v [] [] (keeps_volume v (keeps_buffer b o)) (keeps_volume w (keeps_buffer b p))
  small_fcb_kin b {o} x =
      record {
        same = λ i. record { answer = x.answer_is i; drive = x.drive_is i; volume = w; fcb = x.fcb_is_lem i; buffer = b };
        lays = kept g v o.drive x.kept;
      }

  small_same : (f : List ℕ) {act act' : Act} → act' ≡ act → Plain act → Small (outcome d [] f [] act) (outcome s [] f [] act')
  small_same f {act} {act'} e x = subst (λ (a : Act). Small (outcome d [] f [] act) (outcome s [] f [] a)) (sym e) (small f act x)

  shut_test : closed_state s ≡ closed_state d
  shut_test = λ i. test Closed (not (placed_open d good i))

  protect_small : Small (outcome d [] [] [] (protect_act d)) (outcome s [] [] [] (protect_act s))
  unfolding protect_act protect_tests
  protect_small = small_same [] (λ i. unless (shut_test i ∷ []) (done 0 protects [] [] [])) (plain_unless _ _ (protecting 0 [] []))

  user_small : (code : ℕ) → Small (outcome d [] [] [] (user_act d code)) (outcome s [] [] [] (user_act s code))
  unfolding user_act user_tests
  user_small code =
      small_same []
      (λ i. unless (shut_test i ∷ test UserCode (ltb 15 code && ltb code 255) ∷ [])
      (cond (eqb code 255) (done d.user keeps [] [] []) (done 0 (becomes code) [] [] [])))
      (plain_unless _ _ (go (eqb code 255)))
    where
      go : (t : Bool) → Plain (cond t (done d.user keeps [] [] []) (done 0 (becomes code) [] [] []))
      go true = stays d.user [] []
      go false = becoming 0 code [] []

  set_random_small : (f : List ℕ) → Small (outcome d [] f [] (set_random_act d f)) (outcome s [] f [] (set_random_act s f))
  unfolding set_random_act set_random_tests
  set_random_small f =
      small_same f
      (λ i. unless (shut_test i ∷ fcb_length f ∷ drive_code f ∷ too_large (position_fits f) ∷ []) (done 0 keeps [] (with_random f (position f)) []))
      (plain_unless _ _ (stays 0 (with_random f (position f)) []))

-- ---- several records
-- what a single call stores, by what it is lent
abbrev Storage : Type 0
Storage = Drive → List ℕ → List ℕ → List ℕ → List Store

-- the stores of k single calls in order from piece i on, to the first refused one
unfoldable turns : Single → Storage → ℕ → ℕ → Drive → List ℕ → List ℕ → List ℕ → List Store
turns single st i zero d v f b = []
turns single st i (suc k) d v f b =
    let o : Outcome = on_piece single i d v f b in
    let rest : List Store = turns single st (suc i) k o.drive o.volume o.fcb o.buffer in
    st d v f (piece_at b i) ++ cond (succeeded o.answer) rest []

write_turns : (k i : ℕ) (d : Drive) (v f b : List ℕ) → turns write_sequential_leaves sequential_stores i k d v f b ≡ singles_stores i k d v f b
unfolding turns singles_stores
write_turns zero i d v f b = refl
write_turns (suc k) i d v f b =
    let o : Outcome = on_piece write_sequential_leaves i d v f b in
    ap (λ (l : List Store). sequential_stores d v f (piece_at b i) ++ cond (succeeded o.answer) l [])
    (write_turns k (suc i) o.drive o.volume o.fcb o.buffer)

either : (t : Bool) → ◌≡◌ {A = List Store} (cond t [] []) []
either true = refl
either false = refl

read_turns : (single : Single) (k i : ℕ) (d : Drive) (v f b : List ℕ) → turns single (λ d v f b. []) i k d v f b ≡ []
unfolding turns
read_turns single zero i d v f b = refl
read_turns single (suc k) i d v f b =
    let o : Outcome = on_piece single i d v f b in
    ap (λ (l : List Store). cond (succeeded o.answer) l []) (read_turns single k (suc i) o.drive o.volume o.fcb o.buffer)
    ∙ either (succeeded o.answer)

-- a single call, of any state with the geometry
abbrev SingleKin : Geometry → Single → Storage → Type 0
SingleKin g single st =
    (d : Drive) → d.geometry ≡ g → (v : List ℕ) → length v ≡ bytes g → (f b : List ℕ)
    → Kin g v (st d v f b) (st (placed d) (unskewed g v) f b) (single d v f b) (single (placed d) (unskewed g v) f b)

module _ (g : Geometry) (good : lawful g ≡ true) (single : Single) (st : Storage) (one : SingleKin g single st) where
  piece_kin : (i : ℕ) (d : Drive) → d.geometry ≡ g → (v : List ℕ) → length v ≡ bytes g → (f b : List ℕ)
      → Kin g v (st d v f (piece_at b i)) (st (placed d) (unskewed g v) f (piece_at b i))
      (on_piece single i d v f b) (on_piece single i (placed d) (unskewed g v) f b)
  unfolding on_piece
  piece_kin i d e v size f b =
      let k = one d e v size f (piece_at b i) in
      record {
        same = λ j. record {
          answer = (k.same j).answer;
          drive = (k.same j).drive;
          volume = (k.same j).volume;
          fcb = (k.same j).fcb;
          buffer = put b (128 * i) 128 (k.same j).buffer;
        };
        lays = k.lays;
      }

  -- what follows a call, after it
  then : {v : List ℕ} {x x' y y' : List Store} {o p a c : Outcome} → Kin g v x x' o p → Kin g o.volume y y' a c → Kin g v (x ++ y) (x' ++ y') a c
  then {v} {x} {x'} {y} {y'} k l =
      record {
        same = l.same;
        lays = record {
          geometry = l.lays.geometry;
          stores_same = λ i. k.lays.stores_same i ++ l.lays.stores_same i;
          within = within_append k.lays.within l.lays.within;
          volume_is = l.lays.volume_is ∙ ap (λ (u : List ℕ). laid g u y) k.lays.volume_is ∙ sym (laid_append g x y v);
        };
      }

  ended_kin : (n : ℕ) (why : Refusal) (d : Drive) → d.geometry ≡ g → (v f b : List ℕ)
      → Kin g v [] [] (ended n why d v f b) (ended n why (placed d) (unskewed g v) f b)
  ended_kin n why d e v f b = record { same = refl; lays = kept g v d e }

  singles_kin : (k i : ℕ) (d : Drive) → d.geometry ≡ g → (v : List ℕ) → length v ≡ bytes g → (f b : List ℕ)
      → Kin g v (turns single st i k d v f b) (turns single st i k (placed d) (unskewed g v) f b)
      (singles single i k d v f b) (singles single i k (placed d) (unskewed g v) f b)
  unfolding singles turns
  singles_kin zero i d e v size f b = ended_kin i _ d e v f b
  singles_kin (suc k) i d e v size f b =
      let o : Outcome = on_piece single i d v f b in
      let x : Kin g v (st d v f (piece_at b i)) (st (placed d) (unskewed g v) f (piece_at b i)) o (on_piece single i (placed d) (unskewed g v) f b)
      = piece_kin i d e v size f b in
      let rest = singles_kin k (suc i) o.drive x.lays.geometry o.volume (laid_long g good v size x.lays) o.fcb o.buffer in
      let stop = ended_kin i (why_of o.answer) o.drive x.lays.geometry o.volume o.fcb o.buffer in
      subst
      (λ (y : Outcome).
      Kin g v
      (st d v f (piece_at b i) ++ cond (succeeded o.answer) (turns single st (suc i) k o.drive o.volume o.fcb o.buffer) [])
      (st (placed d) (unskewed g v) f (piece_at b i) ++ cond (succeeded y.answer) (turns single st (suc i) k y.drive y.volume y.fcb y.buffer) [])
      (cond (succeeded o.answer) (singles single (suc i) k o.drive o.volume o.fcb o.buffer)
      (ended i (why_of o.answer) o.drive o.volume o.fcb o.buffer))
      (cond (succeeded y.answer) (singles single (suc i) k y.drive y.volume y.fcb y.buffer)
      (ended i (why_of y.answer) y.drive y.volume y.fcb y.buffer)))
      (sym x.same)
      (then x (kin_cond (succeeded o.answer) rest stop))

several_kin : (single : Single) (st : Storage) (d : Drive) (good : lawful d.geometry ≡ true) → SingleKin d.geometry single st
    → (v : List ℕ) → length v ≡ bytes d.geometry → (f b : List ℕ) (k : ℕ)
    → Kin d.geometry v (cond (is_none (first_met (several_tests d v f b k))) (turns single st 0 k d v f b) [])
    (cond (is_none (first_met (several_tests (placed d) (unskewed d.geometry v) f b k))) (turns single st 0 k (placed d) (unskewed d.geometry v) f b) [])
    (several single d v f b k) (several single (placed d) (unskewed d.geometry v) f b k)
unfolding several several_tests
several_kin single st d good one v size f b k =
    let g = d.geometry in
    let s = placed d in
    let w = unskewed d.geometry v in
    let tests : several_tests s w f b k ≡ several_tests d v f b k
    = λ i. test Closed (not (placed_open d good i)) ∷ test VolumeLength (not (length_same d good v size i))
    ∷ fcb_length f ∷ bad_count k ∷ pieces_length k b ∷ [] in
    subst
    (λ (ts : List Test).
    Kin g v (cond (is_none (first_met (several_tests d v f b k))) (turns single st 0 k d v f b) [])
    (cond (is_none (first_met ts)) (turns single st 0 k s w f b) [])
    (cond (is_none (first_met (several_tests d v f b k))) (singles single 0 k d v f b) (ended 0 (first_met (several_tests d v f b k)) d v f b))
    (cond (is_none (first_met ts)) (singles single 0 k s w f b) (ended 0 (first_met ts) s w f b)))
    (sym tests)
    (kin_cond (is_none (first_met (several_tests d v f b k))) (singles_kin g good single st one k 0 d refl v size f b)
    (ended_kin g good single st one 0 _ d refl v f b))

-- a single call of a state is one of its geometry
of_geometry : (g : Geometry) → lawful g ≡ true → (single : Single) (st : Storage)
    → ((d : Drive) → lawful d.geometry ≡ true → (v : List ℕ) → length v ≡ bytes d.geometry → (f b : List ℕ)
    → Kin d.geometry v (st d v f b) (st (placed d) (unskewed d.geometry v) f b) (single d v f b) (single (placed d) (unskewed d.geometry v) f b))
    → SingleKin g single st
of_geometry g good single st one d e v size f b =
    subst (λ (x : Geometry). Kin x v (st d v f b) (st (placed d) (unskewed x v) f b) (single d v f b) (single (placed d) (unskewed x v) f b)) e
    (one d (ap lawful e ∙ good) v (size ∙ ap bytes (sym e)) f b)

module _ (d : Drive) (good : lawful d.geometry ≡ true) (v : List ℕ) (size : length v ≡ bytes d.geometry) (f b : List ℕ) (k : ℕ) where
  reads_kin : Kin d.geometry v [] [] (several read_sequential_leaves d v f b k) (several read_sequential_leaves (placed d) (unskewed d.geometry v) f b k)
  reads_kin =
      subst₂ (λ ss ss'. Kin d.geometry v ss ss' (several read_sequential_leaves d v f b k) (several read_sequential_leaves (placed d) (unskewed d.geometry v) f b k))
      (nothing d v) (nothing (placed d) (unskewed d.geometry v))
      (several_kin read_sequential_leaves (λ d v f b. []) d good
      (of_geometry d.geometry good read_sequential_leaves (λ d v f b. []) (λ c law u long h e. asked c law u long h e (read_sequential_act_lem c law u long h e)))
      v size f b k)
    where
      nothing : (c : Drive) (u : List ℕ) → cond (is_none (first_met (several_tests c u f b k))) (turns read_sequential_leaves (λ d v f b. []) 0 k c u f b) [] ≡ []
      nothing c u =
          ap (λ (l : List Store). cond (is_none (first_met (several_tests c u f b k))) l []) (read_turns read_sequential_leaves k 0 c u f b)
          ∙ either (is_none (first_met (several_tests c u f b k)))

  writes_kin : Kin d.geometry v (several_stores d v f b k) (several_stores (placed d) (unskewed d.geometry v) f b k)
      (several write_sequential_leaves d v f b k) (several write_sequential_leaves (placed d) (unskewed d.geometry v) f b k)
  unfolding several_stores
  writes_kin =
      subst₂ (λ ss ss'. Kin d.geometry v ss ss' (several write_sequential_leaves d v f b k) (several write_sequential_leaves (placed d) (unskewed d.geometry v) f b k))
      (as_said d v) (as_said (placed d) (unskewed d.geometry v))
      (several_kin write_sequential_leaves sequential_stores d good
      (of_geometry d.geometry good write_sequential_leaves sequential_stores (λ c law u long h e. by_act c law u long h e (write_sequential_act_lem c law u long h e)))
      v size f b k)
    where
      as_said : (c : Drive) (u : List ℕ)
          → cond (is_none (first_met (several_tests c u f b k))) (turns write_sequential_leaves sequential_stores 0 k c u f b) []
          ≡ cond (is_none (first_met (several_tests c u f b k))) (singles_stores 0 k c u f b) []
      as_said c u = ap (λ (l : List Store). cond (is_none (first_met (several_tests c u f b k))) l []) (write_turns k 0 c u f b)

-- ---- every call but log-in, from a state with the geometry
pub does_kin : (d : Drive) (good : lawful d.geometry ≡ true) (v : List ℕ) (size : length v ≡ bytes d.geometry) (f b : List ℕ)
    (call : Call) → (call ≡ LogIn → ⊥) → (x y : Geometry) (p : ℕ)
    → Kin d.geometry v (call_stores call p d v f b) (call_stores call p (placed d) (unskewed d.geometry v) f b)
    (does x call p d v f b) (does y call p (placed d) (unskewed d.geometry v) f b)
unfolding does carries call_stores transfer_stores write_random_act write_zero_fill_act
does_kin d good v size f b LogIn other x y p = absurd (other refl)
does_kin d good v size f b Open other x y p = buffer_kin _ v (asked d good v size f [] (open_act_lem d good v size f)) b
does_kin d good v size f b Close other x y p = buffer_kin _ v (asked d good v size f [] (close_act_lem d good v size f)) b
does_kin d good v size f b SearchFirst other x y p = asked d good v size f b (first_act d good v size f b)
does_kin d good v size f b SearchNext other x y p = fcb_kin _ v (asked d good v size [] b (next_act d good v size b)) f
does_kin d good v size f b Delete other x y p = buffer_kin _ v (by_act d good v size f [] (delete_act_lem d good v size f)) b
does_kin d good v size f b Make other x y p = buffer_kin _ v (by_act d good v size f [] (make_act_lem d good v size f)) b
does_kin d good v size f b Rename other x y p = buffer_kin _ v (by_act d good v size f [] (rename_act_lem d good v size f)) b
does_kin d good v size f b Protect other x y p = small_kin d good v size f b (protect_small d good v size)
does_kin d good v size f b Attributes other x y p = buffer_kin _ v (by_act d good v size f [] (attributes_act_lem d good v size f)) b
does_kin d good v size f b User other x y p = small_kin d good v size f b (user_small d good v size p)
does_kin d good v size f b Size other x y p = buffer_kin _ v (asked d good v size f [] (size_act_lem d good v size f)) b
does_kin d good v size f b SetRandom other x y p = small_fcb_kin d good v size b (set_random_small d good v size f)
does_kin d good v size f b (Moves ReadSequential) other x y p = asked d good v size f b (read_sequential_act_lem d good v size f b)
does_kin d good v size f b (Moves WriteSequential) other x y p = by_act d good v size f b (write_sequential_act_lem d good v size f b)
does_kin d good v size f b (Moves ReadRandom) other x y p = asked d good v size f b (read_random_act_lem d good v size f b)
does_kin d good v size f b (Moves WriteRandom) other x y p = by_act d good v size f b (write_direct_act_lem d good v size false f b)
does_kin d good v size f b (Moves WriteZeroFill) other x y p = by_act d good v size f b (write_direct_act_lem d good v size true f b)
does_kin d good v size f b (Moves ReadSeveral) other x y p = reads_kin d good v size f b p
does_kin d good v size f b (Moves WriteSeveral) other x y p = writes_kin d good v size f b p
does_kin d good v size f b Unserved other x y p = act_kin d good v size f b (deny NotServed) none
