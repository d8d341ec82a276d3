-- The image: each group's paragraphs stand behind those of the groups before it, and have the bytes of its lines.
use mathlib.Core.Path.{◌≡◌, refl, sym, ap, ◌∙◌}
use mathlib.Core.Bool.{Bool, true, false, cond}
use mathlib.Core.List.{List, [], ◌∷◌, ◌++◌, append_assoc, append-nil}
use Prim.Native.Nat.{ℕ, zero, suc, ◌+◌, ◌*◌, ◌≤◌, ◌<◌}
use native.Mathlib.Omega.{arith}
use borrow.Author.Tests.{eqb-true}
use lib.Dec.{eqb}
use lib.ListN.{length, get_or, length-append, get_or-append}
use lib.Seq.{get_or-append-add}
use Rattle.lists.specs.Bytes.{byte}
use Rattle.memory_spans.specs.Span.{paragraph_bytes}
use Rattle.load_header.specs.Header.{CODE, DATA, EXTRA, STACK, length_at, groups, type_at, image_start}
use Rattle.gencmd_lines.specs.Line.{Line}
use Rattle.gencmd_groups.specs.declared.Groups.{Groups}
use Rattle.gencmd_groups.specs.Groups.{byte_at, list_from, group_bytes}
use Rattle.gencmd_groups.proofs.ListLaws.{length_list, byte_list}
use Rattle.gencmd_file.specs.File.{image}
use Rattle.gencmd_loads.specs.Loads.{Group, nobody, there, groups_of, Says}

-- how many paragraphs stand before group i
abbrev before : ℕ → List Group → ℕ
before zero gs = 0
before (suc i) [] = 0
before (suc i) (g ∷ gs) = g.size + before i gs

before_next : (gs : List Group) (i : ℕ) → i < length gs → before (suc i) gs ≡ before i gs + (get_or gs i nobody).size
before_next [] i h = absurd (omega arith)
before_next (g ∷ gs) zero h = omega arith
before_next (g ∷ gs) (suc i) h = let k = before_next gs i (omega arith) in omega arith

-- load finds a group's image there
start_is : (h : List ℕ) (gs : List Group) → Says h gs → (i : ℕ) → i ≤ length gs → image_start h i ≡ before i gs
unfolding image_start
start_is h gs s zero l = refl
start_is h gs s (suc i) l =
    let k = start_is h gs s i (omega arith) in
    omega (arith, s.size i (omega arith), before_next gs i (omega arith))

module _ (ls : List Line) where
  abbrev pictured : List Group → List ℕ
  pictured [] = []
  pictured (g ∷ gs) = group_bytes ls g.type (paragraph_bytes * g.size) ++ pictured gs

  picture_there : (g n : ℕ) (gs : List Group) → group_bytes ls g (paragraph_bytes * n) ++ pictured gs ≡ pictured (there g n ++ gs)
  unfolding list_from
  picture_there g n gs = go (eqb n 0) refl
    where
      go : (t : Bool) → eqb n 0 ≡ t → group_bytes ls g (paragraph_bytes * n) ++ pictured gs ≡ pictured (cond t [] (record { type = g; size = n } ∷ []) ++ gs)
      go true e = let z : n ≡ 0 = eqb-true n 0 e in rw z
      go false e = refl

  abbrev bytes : ℕ → ℕ → List ℕ
  bytes g n = group_bytes ls g (paragraph_bytes * n)

  image_is : (s : Groups) → image ls s ≡ pictured (groups_of s)
  unfolding image
  image_is s =
      ap (λ (x : List ℕ). bytes CODE s.code ++ (bytes DATA s.«data» ++ (bytes EXTRA s.extra ++ x)))
      (sym (append-nil (bytes STACK s.stack)) ∙ picture_there STACK s.stack [])
      ∙ ap (λ (x : List ℕ). bytes CODE s.code ++ (bytes DATA s.«data» ++ x)) (picture_there EXTRA s.extra _)
      ∙ ap (λ (x : List ℕ). bytes CODE s.code ++ x) (picture_there DATA s.«data» _)
      ∙ picture_there CODE s.code _

  length_group : (g : Group) → length (group_bytes ls g.type (paragraph_bytes * g.size)) ≡ paragraph_bytes * g.size
  length_group g = length_list (byte_at ls g.type) 0 (paragraph_bytes * g.size)

  length_pictured : (gs : List Group) → length (pictured gs) ≡ paragraph_bytes * before (length gs) gs
  length_pictured [] = refl
  length_pictured (g ∷ gs) = let k = length_pictured gs in rw length-append (omega (arith, length_group g))

  byte_pictured : (gs : List Group) (z : List ℕ) (i x : ℕ) → i < length gs → x < paragraph_bytes * (get_or gs i nobody).size
      → byte (pictured gs ++ z) (paragraph_bytes * before i gs + x) ≡ byte_at ls (get_or gs i nobody).type x
  byte_pictured [] z i x h k = absurd (omega arith)
  byte_pictured (g ∷ gs) z zero x h k =
      let e : paragraph_bytes * 0 + x ≡ x = omega arith in
      let y : 0 + x ≡ x = omega arith in
      rw (append_assoc (group_bytes ls g.type (paragraph_bytes * g.size)) (pictured gs) z, e)
      (get_or-append (group_bytes ls g.type (paragraph_bytes * g.size)) (pictured gs ++ z) 0 x (omega (arith, length_group g))
      ∙ byte_list (byte_at ls g.type) 0 (paragraph_bytes * g.size) x k ∙ ap (byte_at ls g.type) y)
  byte_pictured (g ∷ gs) z (suc i) x h k =
      let e : paragraph_bytes * (g.size + before i gs) + x ≡ length (group_bytes ls g.type (paragraph_bytes * g.size)) + (paragraph_bytes * before i gs + x) = omega (arith, length_group g) in
      rw (append_assoc (group_bytes ls g.type (paragraph_bytes * g.size)) (pictured gs) z, e)
      (get_or-append-add (group_bytes ls g.type (paragraph_bytes * g.size)) (pictured gs ++ z) (paragraph_bytes * before i gs + x) 0
      ∙ byte_pictured gs z i x (omega arith) k)

  -- ---- what load reads there
  module _ (s : Groups) (h : List ℕ) (says : Says h (groups_of s)) where
    pub image_long : length (image ls s) ≡ paragraph_bytes * image_start h (groups h)
    image_long =
        ap length (image_is s) ∙ length_pictured (groups_of s)
        ∙ ap (λ (x : ℕ). paragraph_bytes * x) (sym (start_is h (groups_of s) says (length (groups_of s)) (omega arith)) ∙ ap (image_start h) (sym says.number))

    pub image_has : (z : List ℕ) (i x : ℕ) → i < groups h → x < paragraph_bytes * length_at h i
        → byte (image ls s ++ z) (paragraph_bytes * image_start h i + x) ≡ byte_at ls (type_at h i) x
    image_has z i x l k =
        let m : i < length (groups_of s) = omega (arith, says.number) in
        rw (image_is s, start_is h (groups_of s) says i (omega arith), says.type i m)
        (byte_pictured (groups_of s) z i x m (omega (arith, says.size i m)))
