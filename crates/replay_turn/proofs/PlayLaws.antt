-- A call is lent the script's own bytes.
use mathlib.Core.Path.{◌≡◌, ap, ◌∙◌}
use mathlib.Core.List.{List}
use Prim.Native.Nat.{ℕ, ◌+◌, ◌-◌}
use native.Mathlib.Omega.{arith}
use lib.ListN.{take, drop}
use Rattle.lists.specs.Bytes.{part, put}
use Rattle.disk_geometry.specs.declared.Geometry.{Geometry}
use Rattle.filecalls.specs.declared.Drive.{Drive}
use Rattle.call_served.specs.Asked.{asked}
use Rattle.text.specs.Text.{Text}
use Rattle.replay_script.specs.declared.Head.{Head}
use Rattle.replay_script.specs.declared.Next.TheVariants.{Call}
use Rattle.replay_script.specs.Script.{lent_by}
use Rattle.replay_turn.specs.Play.{Called, leaves, called, afterwards, after_by}

pub lent_here : (g : Geometry) (h : Head) (d : Drive) (v s : List ℕ) (t : Text) (c n : ℕ) {f : List ℕ} {e : Drive} {w p q : List ℕ} {u : Text}
    → f ≡ take (3 + h.fcb - 3) (drop 3 s) → c ≡ 5 + h.fcb → n ≡ h.buffer
    → leaves e w p q u ≡ called g (asked h.function h.parameter f (take n (drop c s))) d v t
    → afterwards e w (put s c n q) u ≡ after_by (Call h) s d v t (called g (lent_by h s) d v t)
unfolding part
lent_here g h d v s t c n {f} {e} {w} {p} {q} {u} ef ec en l =
    let z : 3 + h.fcb - 3 ≡ h.fcb = omega arith in
    let m : leaves e w p q u ≡ called g (lent_by h s) d v t = l ∙ rw (ef, z, ec, en) in
    rw (ec, en) (ap (λ (o : Called). afterwards o.drive o.volume (put s (5 + h.fcb) h.buffer o.buffer) o.text) m)
