-- The bytes passed so far are those of the name without top bits.
use mathlib.Core.List.{List, append-nil}
use mathlib.Core.Path.{◌≡◌, sym, ap, ◌∙◌}
use Prim.Native.Nat.{ℕ, ◌+◌, ◌%◌, ◌≤◌, ◌<◌}
use native.Mathlib.Omega.{arith}
use native.Mathlib.Numerals.{add-one}
use native.Mathlib.Nat.{zero-add}
use lib.Seq.{paste, paste-suc, take_all}
use lib.ListN.{length, get_or, set, drop_of_length-le}
use borrow.Author.Rules.{rules}
use Rattle.disk_volume.proofs.NameLaws.{length_strip, byte_strip}
use Rattle.disk_volume.specs.Name.{strip}
use Rattle.call_sweep.proofs.lay_name.Goals as goal

name_step : (d s e : List ℕ) (i : ℕ) → e ≡ paste d 0 (strip s) i → i < length d → i < length s → set e i (get_or s i 0 % 128) ≡ paste d 0 (strip s) (i + 1)
name_step d s e i h hd hs =
    let hs' : i < length (strip s) = rw length_strip hs in
    rw (← byte_strip s i, h)
    (ap (λ (k : ℕ). set (paste d 0 (strip s) i) k (get_or (strip s) i 0)) (sym (zero-add i))
    ∙ paste-suc d 0 (strip s) i 0 (omega arith) hs'
    ∙ ap (paste d 0 (strip s)) (sym (add-one i)))

name_end : (d s e : List ℕ) (i : ℕ) → e ≡ paste d 0 (strip s) i → length d ≡ length s → length s ≤ i → e ≡ strip s
name_end d s e i h l b =
    let k : length d ≤ 0 + i = omega arith in
    let b' : length (strip s) ≤ i = rw length_strip b in
    h ∙ rw (take_all i (strip s) b', drop_of_length-le d k, append-nil)

pub loop-i-preserved : goal.loop-i-preserved
loop-i-preserved c =
    let l = c.loop-i in
    let a = c.args in
    name_step a.dst.now a.name.now l.dst l.i l.invariant (search rules) (search rules)

pub returns : goal.returns
returns c =
    let l = c.loop-i in
    let a = c.args in
    name_end a.dst.now a.name.now l.dst l.i l.invariant (search rules) (search rules)
