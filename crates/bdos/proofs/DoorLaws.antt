-- What each arm of the door leaves with a number of stores, its own cut; 528 are enough for every call; and who logs in.
use mathlib.Core.Path.{◌≡◌, refl, ap}
use mathlib.Core.Bool.{true, false, false≢true}
use mathlib.Core.List.{List}
use Prim.Native.Nat.{ℕ, ◌≤◌}
use native.Mathlib.Omega.{arith}
use lib.ListN.{length}
use Rattle.disk_geometry.specs.declared.Geometry.{Geometry}
use Rattle.disk_stores.specs.Stores.{Store}
use Rattle.call_served.specs.declared.Call.{Call}
use Rattle.call_served.specs.declared.Call.TheVariants.{LogIn, Open, Close, SearchFirst, SearchNext, Delete, Make, Rename, Protect, Attributes, User, Size, SetRandom, Moves, Unserved}
use Rattle.call_served.specs.declared.Transfer.TheVariants.{ReadSequential, WriteSequential, ReadRandom, WriteRandom, WriteZeroFill, ReadSeveral, WriteSeveral}
use Rattle.filecalls.specs.declared.Drive.{Drive}
use Rattle.filecalls.specs.declared.Reply.{Reply}
use Rattle.filecalls.specs.Outcome.{Act, act_stores, Outcome, outcome}
use Rattle.filecalls.specs.Stores.{Cut, CutAfter, cut_outcome, cut_left, refused_by}
use Rattle.filecalls.proofs.CutLaws.{code_whole}
use Rattle.filecalls.proofs.EnoughLaws.{delete_enough, make_enough, rename_enough, attributes_enough, sequential_enough, direct_enough}
use Rattle.several.proofs.SeveralCutLaws.{several_enough}
use Rattle.bdos.specs.Step.{keeps_buffer}
use Rattle.bdos.specs.Stores.{transfer_stores, call_stores}
use Rattle.bdos.specs.CodeWay.{way_of, logs}

-- one that stores as long as a store is left
pub own_stores : (d : Drive) (v f b : List ℕ) (most : ℕ) (act : Act) {r : Reply} {v' f' b' : List ℕ} {n : ℕ} → cut_left r v' f' b' n ≡ cut_outcome most d v f b act
    → CutAfter most d.geometry v (act_stores act) (outcome d v f b act) (cut_left r v' f' b' n)
unfolding cut_outcome
own_stores d v f b most act e = record {
  volume_is = ap (λ (c : Cut). c.outcome.volume) e;
  left_is = ap (λ (c : Cut). c.left) e;
  refused_is = ap (λ (c : Cut). refused_by c.outcome.answer) e;
  whole = λ w. code_whole d v f b most act w e;
}

-- a buffer that is not lent on stays as it is
pub buffer_kept : {most : ℕ} {g : Geometry} {v : List ℕ} {ss : List Store} {o : Outcome} {r : Reply} {v' f' b' : List ℕ} {n : ℕ} (b : List ℕ)
    → CutAfter most g v ss o (cut_left r v' f' b' n) → CutAfter most g v ss (keeps_buffer b o) (cut_left r v' f' b n)
buffer_kept b x = record {
  volume_is = x.volume_is;
  left_is = x.left_is;
  refused_is = x.refused_is;
  whole = λ w. ap (keeps_buffer b) (x.whole w);
}

pub call_enough : (kind : Call) (p : ℕ) (d : Drive) (v f b : List ℕ) → length (call_stores kind p d v f b) ≤ 528
unfolding call_stores transfer_stores
call_enough LogIn p d v f b = omega arith
call_enough Open p d v f b = omega arith
call_enough Close p d v f b = omega arith
call_enough SearchFirst p d v f b = omega arith
call_enough SearchNext p d v f b = omega arith
call_enough Delete p d v f b = delete_enough d v f
call_enough Make p d v f b = make_enough d v f
call_enough Rename p d v f b = rename_enough d v f
call_enough Protect p d v f b = omega arith
call_enough Attributes p d v f b = attributes_enough d v f
call_enough User p d v f b = omega arith
call_enough Size p d v f b = omega arith
call_enough SetRandom p d v f b = omega arith
call_enough (Moves ReadSequential) p d v f b = omega arith
call_enough (Moves WriteSequential) p d v f b = sequential_enough d v f b
call_enough (Moves ReadRandom) p d v f b = omega arith
call_enough (Moves WriteRandom) p d v f b = direct_enough false d v f b
call_enough (Moves WriteZeroFill) p d v f b = direct_enough true d v f b
call_enough (Moves ReadSeveral) p d v f b = omega arith
call_enough (Moves WriteSeveral) p d v f b = several_enough d v f b p
call_enough Unserved p d v f b = omega arith

-- only a log-in logs in
pub logs_in_lem : (kind : Call) → logs (way_of kind) ≡ true → kind ≡ LogIn
logs_in_lem LogIn h = refl
logs_in_lem Open h = absurd (false≢true h)
logs_in_lem Close h = absurd (false≢true h)
logs_in_lem SearchFirst h = absurd (false≢true h)
logs_in_lem SearchNext h = absurd (false≢true h)
logs_in_lem Delete h = absurd (false≢true h)
logs_in_lem Make h = absurd (false≢true h)
logs_in_lem Rename h = absurd (false≢true h)
logs_in_lem Protect h = absurd (false≢true h)
logs_in_lem Attributes h = absurd (false≢true h)
logs_in_lem User h = absurd (false≢true h)
logs_in_lem Size h = absurd (false≢true h)
logs_in_lem SetRandom h = absurd (false≢true h)
logs_in_lem (Moves ReadSequential) h = absurd (false≢true h)
logs_in_lem (Moves WriteSequential) h = absurd (false≢true h)
logs_in_lem (Moves ReadRandom) h = absurd (false≢true h)
logs_in_lem (Moves WriteRandom) h = absurd (false≢true h)
logs_in_lem (Moves WriteZeroFill) h = absurd (false≢true h)
logs_in_lem (Moves ReadSeveral) h = absurd (false≢true h)
logs_in_lem (Moves WriteSeveral) h = absurd (false≢true h)
logs_in_lem Unserved h = absurd (false≢true h)
