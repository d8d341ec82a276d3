-- Laws of an edit: a new name laid with its two marks is the renamed entry, an edit is made where it is meant, an entry
-- keeps its 32 bytes, and a piece of a record is changed where it was lent.
use mathlib.Core.Path.{◌≡◌, refl, sym, ap, ◌∙◌}
use mathlib.Core.Bool.{Bool, true, false, cond}
use mathlib.Core.List.{List, [], ◌∷◌, ◌++◌}
use Prim.Native.Nat.{ℕ, suc, ◌+◌, ◌-◌, ◌*◌, ◌≤◌, ◌<◌, ◌%◌}
use native.Mathlib.Omega.{arith}
use lib.ListN.{length, take, drop, set, length-set, length-append, take-append-drop, drop_of_length-le}
use lib.Seq.{set-append_left, drop-cons, length-take-le}
use Rattle.lists.specs.Bytes.{byte, part, put}
use Rattle.lists.proofs.PartLaws.{length_put}
use Rattle.disk_geometry.specs.declared.Geometry.{Geometry}
use Rattle.disk_volume.specs.Name.{strip}
use Rattle.disk_volume.specs.Entry.{Entry, of_file, matches}
use Rattle.disk_volume.specs.Directory.{fits}
use Rattle.disk_stores.specs.Pieces.{map_piece}
use Rattle.disk_volume.proofs.NameLaws.{length_strip}
use Rattle.call_sweep.specs.declared.Edit.{Edit}
use Rattle.call_sweep.specs.declared.Edit.TheVariants.{Erase, Rename, Attributes}
use Rattle.call_sweep.specs.Sweep.{with_top_bit, erased, renamed, attributed, changed}
use Rattle.call_sweep.specs.CodeEdit.{meant, edited}

-- ---- a store behind a list
set_behind : (xs ys : List ℕ) (n i x : ℕ) → length xs ≡ n → set (xs ++ ys) (n + i) x ≡ xs ++ set ys i x
set_behind [] ys n i x e = let z : n + i ≡ i = omega arith in rw z
set_behind (w ∷ xs) ys n i x e =
    let z : n + i ≡ suc (length xs + i) = omega arith in
    rw (z, set_behind xs ys (length xs) i x refl)

strip_append : (xs ys : List ℕ) → strip (xs ++ ys) ≡ strip xs ++ strip ys
unfolding strip
strip_append [] ys = refl
strip_append (x ∷ xs) ys = rw (strip_append xs ys)

-- the eleven bytes: the first eight, and the three of the type
eleven : (l : List ℕ) → length l ≡ 11 → l ≡ take 8 l ++ (byte l 8 ∷ byte l 9 ∷ byte l 10 ∷ [])
eleven l e =
    let a : 8 < length l = omega arith in
    let b : 9 < length l = omega arith in
    let c : 10 < length l = omega arith in
    let d : length l ≤ 11 = omega arith in
    sym (take-append-drop 8 l) ∙ ap (λ (x : List ℕ). take 8 l ++ x)
    (drop-cons l 8 0 a ∙ ap (λ (x : List ℕ). byte l 8 ∷ x)
    (drop-cons l 9 0 b ∙ ap (λ (x : List ℕ). byte l 9 ∷ x)
    (drop-cons l 10 0 c ∙ ap (λ (x : List ℕ). byte l 10 ∷ x) (drop_of_length-le l d))))

-- ---- rename
marked_type : (l : List ℕ) (x y : ℕ) → length l ≡ 11 → set (set (strip l) 8 x) 9 y ≡ strip (take 8 l) ++ (x ∷ y ∷ byte l 10 % 128 ∷ [])
unfolding strip
marked_type l x y e =
    let h : length (strip (take 8 l)) ≡ 8 = length_strip (take 8 l) ∙ length-take-le 8 l (omega arith) in
    let s : strip l ≡ strip (take 8 l) ++ (byte l 8 % 128 ∷ byte l 9 % 128 ∷ byte l 10 % 128 ∷ [])
    = ap strip (eleven l e) ∙ strip_append (take 8 l) (byte l 8 ∷ byte l 9 ∷ byte l 10 ∷ []) in
    ap (λ (w : List ℕ). set (set w 8 x) 9 y) s
    ∙ ap (λ (w : List ℕ). set w 9 y) (set_behind (strip (take 8 l)) (byte l 8 % 128 ∷ byte l 9 % 128 ∷ byte l 10 % 128 ∷ []) 8 0 x h)
    ∙ set_behind (strip (take 8 l)) (x ∷ byte l 9 % 128 ∷ byte l 10 % 128 ∷ []) 8 1 y h

-- the name laid whole, and then the two bytes that carry marks
pub named_and_marked : (e : Entry) (new : List ℕ) (x y : ℕ) → length e ≡ 32 → length new ≡ 11
    → set (set (put e 1 11 (strip new)) 9 x) 10 y ≡ put e 1 11 (strip (take 8 new) ++ (x ∷ y ∷ byte new 10 % 128 ∷ []))
unfolding put
named_and_marked [] new x y d h = absurd (omega arith)
named_and_marked (w ∷ e) new x y d h =
    let l : length (strip new) ≡ 11 = length_strip new ∙ h in
    let l₁ : 8 < length (strip new) = omega arith in
    let l₂ : 9 < length (set (strip new) 8 x) = rw length-set (omega arith) in
    ap (λ (r : List ℕ). w ∷ set r 9 y) (set-append_left (strip new) (drop 11 e) 8 x l₁)
    ∙ ap (λ (r : List ℕ). w ∷ r) (set-append_left (set (strip new) 8 x) (drop 11 e) 9 y l₂)
    ∙ ap (λ (r : List ℕ). w ∷ (r ++ drop 11 e)) (marked_type new x y h)

-- ---- an edit is made where it is meant
pub changed_is : (g : Geometry) (edit : Edit) (u : ℕ) (name new : List ℕ) (e : Entry)
    → changed edit u name new e ≡ cond (fits g u name (meant edit) e) (edited edit new e) e
unfolding changed
changed_is g Erase u name new e = refl
changed_is g Rename u name new e = refl
changed_is g Attributes u name new e = refl

-- ---- lengths
pub renamed_length : (new : List ℕ) → length new ≡ 11 → (e : Entry) → length e ≡ 32 → length (renamed e new) ≡ 32
unfolding renamed
renamed_length new h e d =
    let n : length (strip (take 8 new)) ≡ 8 = length_strip (take 8 new) ∙ length-take-le 8 new (omega arith) in
    let f : 1 + 11 ≤ length e = omega arith in
    length_put e 1 11 f (strip (take 8 new) ++ (with_top_bit (byte new 8) (byte e 9) ∷ with_top_bit (byte new 9) (byte e 10) ∷ byte new 10 % 128 ∷ [])) (simp length-append (omega arith)) ∙ d

pub erased_length : (e : Entry) → length e ≡ 32 → length (erased e) ≡ 32
erased_length e d = simp length-set d

pub attributed_length : (new : List ℕ) (e : Entry) → length e ≡ 32 → length (attributed e new) ≡ 32
unfolding attributed
attributed_length new e d = simp length-set d

pub edited_length : (edit : Edit) (new : List ℕ) → length new ≡ 11 → (e : Entry) → length e ≡ 32 → length (edited edit new e) ≡ 32
edited_length Erase new h e d = erased_length e d
edited_length Rename new h e d = renamed_length new h e d
edited_length Attributes new h e d = attributed_length new e d

either : (t : Bool) (a b : Entry) → length a ≡ 32 → length b ≡ 32 → length (cond t a b) ≡ 32
either true a b x y = x
either false a b x y = y

pub changed_keeps : (edit : Edit) (u : ℕ) (name new : List ℕ) → length new ≡ 11 → (e : Entry) → length e ≡ 32 → length (changed edit u name new e) ≡ 32
unfolding changed
changed_keeps Erase u name new h e d = either (matches u name e) (erased e) e (edited_length Erase new h e d) d
changed_keeps Rename u name new h e d = either (of_file u name e) (renamed e new) e (edited_length Rename new h e d) d
changed_keeps Attributes u name new h e d = either (of_file u name e) (attributed e new) e (edited_length Attributes new h e d) d

-- ---- a piece of a record, lent as `&mut sector[at..at + 32]`
-- what came back is the piece changed
pub lent_piece : (f : Entry → Entry) (l x : List ℕ) (k : ℕ) → x ≡ f (take (k * 32 + 32 - k * 32) (drop (k * 32) l))
    → take (k * 32) l ++ (x ++ drop (k * 32 + 32 - k * 32) (drop (k * 32) l)) ≡ map_piece f l k
unfolding map_piece part put
lent_piece f l x k e = let z : k * 32 + 32 - k * 32 ≡ 32 = omega arith in rw (e, z)
