-- Why the order makes no difference: up to 65,535 volumes the shelf is the sum over its volumes, and sums may be taken in
-- any order.
use mathlib.Core.Path.{◌≡◌, refl, sym, ap, ◌∙◌}
use mathlib.Core.List.{List, [], ◌∷◌, ◌++◌}
use Prim.Native.Nat.{ℕ, suc, ◌+◌, ◌≤◌, ◌<◌}
use native.Mathlib.Omega.{arith}
use borrow.Author.Tests.{le-leb, lt-leb}
use lib.ListN.{length}
use Rattle.std.specs.Prelude.{Err}
use Rattle.shelf_figures.specs.declared.Shelf.{Shelf}
use Rattle.shelf_figures.specs.declared.ShelfRefusal.TheVariants.{Full}
use Rattle.shelf_figures.specs.Shelf.{bare, plus, one, most_volumes, shelved_number, put}
use Rattle.shelf_figures.specs.Order.{Within, Volume, shelve, total, Rearranged, nothing, then_same, exchanged, again, ShelfHolds}
use Rattle.shelf_figures.proofs.ShelfLaws.{within_kept, one_within}

-- ---- a shelf is its eight figures
record Same (a b : Shelf) : Type 0 where
  refused : a.refused ≡ b.refused
  files : a.files ≡ b.files
  entries : a.entries ≡ b.entries
  records : a.records ≡ b.records
  held : a.held ≡ b.held
  free : a.free ≡ b.free
  waste : a.waste ≡ b.waste
  seen : a.seen ≡ b.seen

same_shelf : (a b : Shelf) → Same a b → a ≡ b
same_shelf a b e = rw (← e.refused, ← e.files, ← e.entries, ← e.records, ← e.held, ← e.free, ← e.waste, ← e.seen) eta
  where
    eta : a ≡ record { refused = a.refused; files = a.files; entries = a.entries; records = a.records; held = a.held; free = a.free; waste = a.waste; seen = a.seen }
    eta = refl

all_same : (a b : Shelf) → a.refused ≡ b.refused → a.files ≡ b.files → a.entries ≡ b.entries → a.records ≡ b.records
    → a.held ≡ b.held → a.free ≡ b.free → a.waste ≡ b.waste → a.seen ≡ b.seen → a ≡ b
all_same a b p q r s t u v w = same_shelf a b (record { refused = p; files = q; entries = r; records = s; held = t; free = u; waste = v; seen = w })

plus_bare : (s : Shelf) → plus s bare ≡ s
unfolding plus
plus_bare s = all_same (plus s bare) s (omega arith) (omega arith) (omega arith) (omega arith) (omega arith) (omega arith) (omega arith) (omega arith)

bare_plus : (s : Shelf) → plus bare s ≡ s
unfolding plus
bare_plus s = all_same (plus bare s) s (omega arith) (omega arith) (omega arith) (omega arith) (omega arith) (omega arith) (omega arith) (omega arith)

plus_assoc : (a b c : Shelf) → plus (plus a b) c ≡ plus a (plus b c)
unfolding plus
plus_assoc a b c = all_same (plus (plus a b) c) (plus a (plus b c)) (omega arith) (omega arith) (omega arith) (omega arith) (omega arith) (omega arith) (omega arith) (omega arith)

-- the first two exchanged
plus_exchange : (a b c : Shelf) → plus a (plus b c) ≡ plus b (plus a c)
unfolding plus
plus_exchange a b c = all_same (plus a (plus b c)) (plus b (plus a c)) (omega arith) (omega arith) (omega arith) (omega arith) (omega arith) (omega arith) (omega arith) (omega arith)

-- ---- the figures of n and of m volumes
within_plus : (n m : ℕ) (s t : Shelf) → Within n s → Within m t → Within (n + m) (plus s t)
unfolding plus
within_plus n m s t a b =
    record {
      refused = omega (arith, a.refused, b.refused);
      files = omega (arith, a.files, b.files);
      entries = omega (arith, a.entries, b.entries);
      records = omega (arith, a.records, b.records);
      held = omega (arith, a.held, b.held);
      free = omega (arith, a.free, b.free);
      waste = omega (arith, a.waste, b.waste);
      seen = omega (arith, a.seen, b.seen);
    }

pub bare_within : Within 0 bare
bare_within =
    record {
      refused = omega arith;
      files = omega arith;
      entries = omega arith;
      records = omega arith;
      held = omega arith;
      free = omega arith;
      waste = omega arith;
      seen = refl;
    }

total_within : (vs : List Volume) → Within (length vs) (total vs)
unfolding total
total_within [] = bare_within
total_within (x ∷ xs) =
    let z : 1 + length xs ≡ length (x ∷ xs) = omega arith in
    rw (← z) (within_plus 1 (length xs) (one x.geometry x.bytes) (total xs) (one_within x.geometry x.bytes) (total_within xs))

-- ---- one volume put on a shelf of fewer than 65,535
put_adds : (n : ℕ) (s : Shelf) (x : Volume) → Within n s → n < 65535 → (put s x.geometry x.bytes).shelf ≡ plus s (one x.geometry x.bytes)
unfolding put
put_adds n s x w h = rw (within_kept n s (omega arith) w, lt-leb most_volumes s.seen (omega (arith, w.seen)))

-- so its figures are those of one volume more, and the volume was counted
pub put_within : (n : ℕ) (s : Shelf) (x : Volume) → Within n s → n < 65535 → Within (n + 1) (put s x.geometry x.bytes).shelf
put_within n s x w h =
    rw (put_adds n s x w h) (within_plus n 1 s (one x.geometry x.bytes) w (one_within x.geometry x.bytes))

pub put_counts : (n : ℕ) (s : Shelf) (x : Volume) → Within n s → n < 65535 → shelved_number (put s x.geometry x.bytes).answer ≡ 0
unfolding put
put_counts n s x w h = rw (within_kept n s (omega arith) w, lt-leb most_volumes s.seen (omega (arith, w.seen)))

shelve_adds : (n : ℕ) (s : Shelf) (vs : List Volume) → Within n s → n + length vs ≤ 65535 → shelve s vs ≡ plus s (total vs)
unfolding shelve total
shelve_adds n s [] w h = sym (plus_bare s)
shelve_adds n s (x ∷ xs) w h =
    ap (λ (t : Shelf). shelve t xs) (put_adds n s x w (omega arith))
    ∙ shelve_adds (n + 1) (plus s (one x.geometry x.bytes)) xs (within_plus n 1 s (one x.geometry x.bytes) w (one_within x.geometry x.bytes)) (omega arith)
    ∙ plus_assoc s (one x.geometry x.bytes) (total xs)

figures : (vs : List Volume) → length vs ≤ 65535 → shelve bare vs ≡ total vs
figures vs h = shelve_adds 0 bare vs bare_within (omega arith) ∙ bare_plus (total vs)

-- ---- any order, and in two parts
rearranged_total : (xs ys : List Volume) → Rearranged xs ys → (total xs ≡ total ys) × (length xs ≡ length ys)
unfolding total
rearranged_total xs ys nothing = (refl, refl)
rearranged_total xs ys (then_same x ls ms r) =
    let h = rearranged_total ls ms r in
    (ap (plus (one x.geometry x.bytes)) h.0, ap suc h.1)
rearranged_total xs ys (exchanged x y zs) = (plus_exchange (one x.geometry x.bytes) (one y.geometry y.bytes) (total zs), refl)
rearranged_total xs ys (again ls ms ns r s) =
    let h = rearranged_total ls ms r in
    let k = rearranged_total ms ns s in
    (h.0 ∙ k.0, h.1 ∙ k.1)

total_append : (xs ys : List Volume) → (total (xs ++ ys) ≡ plus (total xs) (total ys)) × (length (xs ++ ys) ≡ length xs + length ys)
unfolding total
total_append [] ys = (sym (bare_plus (total ys)), omega arith)
total_append (x ∷ xs) ys =
    let h = total_append xs ys in
    (ap (plus (one x.geometry x.bytes)) h.0 ∙ sym (plus_assoc (one x.geometry x.bytes) (total xs) (total ys)), omega (arith, h.1))

within_shelf : (vs : List Volume) → length vs ≤ 65535 → Within (length vs) (shelve bare vs)
within_shelf vs h = rw (figures vs h) (total_within vs)

one_too_many : (vs : List Volume) (x : Volume) → length vs ≡ most_volumes → put (shelve bare vs) x.geometry x.bytes ≡ record { answer = Err Full; shelf = shelve bare vs }
unfolding put
one_too_many vs x e =
    let w = within_shelf vs (omega arith) in
    rw (within_kept (length vs) (shelve bare vs) (omega arith) w, le-leb most_volumes (shelve bare vs).seen (omega (arith, w.seen)))

pub shelf_holds : ShelfHolds
shelf_holds =
    record {
      figures = figures;
      order = λ xs ys r h. let t = rearranged_total xs ys r in figures xs h ∙ t.0 ∙ sym (figures ys (omega (arith, t.1)));
      two_shelves = λ xs ys h.
          let t = total_append xs ys in
          figures (xs ++ ys) (omega (arith, t.1)) ∙ t.0 ∙ rw (figures xs (omega arith), figures ys (omega arith));
      bounded = within_shelf;
      never_outside = λ vs h. within_kept (length vs) (shelve bare vs) h (within_shelf vs h);
      one_too_many = one_too_many;
    }
