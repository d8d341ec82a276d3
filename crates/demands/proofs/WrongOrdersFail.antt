-- Each wrong way to store is tried on a small volume: one call is evaluated, and after the first stores of it a record or the
-- order is not what the statement says.
use mathlib.Core.Path.{◌≡◌, refl, ap}
use mathlib.Core.Bool.{true≢false, false≢true}
use mathlib.Core.Logic.{◌≢◌}
use mathlib.Core.List.{List, [], ◌∷◌, ◌++◌}
use Prim.Native.Nat.{ℕ}
use native.Mathlib.Omega.{arith}
use lib.ListN.{replicate}
use Rattle.lists.specs.Bytes.{byte}
use Rattle.disk_stores.specs.Stores.{store, cut}
use Rattle.disk_stores.specs.Order.{rises, Ordered, directory, data_first}
use Rattle.filecalls.specs.State.{closed}
use Rattle.several.specs.Several.{several_tests, on_piece, singles}
use Rattle.several.specs.Stores.{singles_stores, several_stores}
use Rattle.call_served.specs.declared.Call.TheVariants.{Delete, Moves}
use Rattle.call_served.specs.declared.Transfer.TheVariants.{WriteSeveral}
use Rattle.call_served.specs.Asked.{Asked, asked}
use Rattle.bdos.specs.Stores.{transfer_stores, call_stores}
use Rattle.numbers.specs.Numbers.{Bytes}
use Rattle.demands.specs.Run.{final, final_state}
use Rattle.demands.specs.Demand2.{direct}
use Rattle.demands.specs.AtSeam.{logs_in}
use Rattle.demands.specs.Cuts.{Storing, Itself, as_before, as_written, in_turn, CutAnywhere, AnyCutOf}
use Rattle.demands.specs.WrongOrders.{directory_first, in_halves, falling, data_of_all, no_entry, OrdersShutOut}
use Rattle.demands.proofs.WrongWaysFail.{computes, small, entry_of, bytes_of, disk, ready, fcb_of, writes, bytes_below}

-- what has to compute where a call's stores are evaluated
unfoldable storing : Unit {0}
unfolding computes final final_state several_tests on_piece singles singles_stores several_stores in_turn transfer_stores call_stores
storing = tt

-- the statement, of a call that follows log-in
on_disk : {stores : Storing} → AnyCutOf stores → (c : Asked) → Bytes c.fcb → CutAnywhere stores small c ready disk
unfolding storing
on_disk any c lent = any small refl disk refl refl logs_in refl [] tt closed c lent

-- record 0 of B, which has no block, in one whose bytes are 5
directory_first_lem : AnyCutOf directory_first → ⊥
unfolding storing
directory_first_lem any = go (((on_disk any (writes 66 0) (bytes_below (fcb_of 66 0) refl)).harmless 1).itself 0 (bytes_of 9) direct)
  where
    go : Itself ready (fcb_of 66 0) disk (cut small disk 1 (directory_first (writes 66 0) ready disk)) 0 (bytes_of 9) → ⊥
    go (as_before same bytes) = true≢false same
    go (as_written new) = let z : ◌≡◌ {A = ℕ} 5 9 = ap (λ (l : List ℕ). byte l 0) new.has_bytes in absurd (omega arith)

-- record 0 of A, present with bytes 7
in_halves_lem : AnyCutOf in_halves → ⊥
unfolding storing
in_halves_lem any = go (((on_disk any (writes 65 0) (bytes_below (fcb_of 65 0) refl)).harmless 1).itself 0 (bytes_of 9) direct)
  where
    go : Itself ready (fcb_of 65 0) disk (cut small disk 1 (in_halves (writes 65 0) ready disk)) 0 (bytes_of 9) → ⊥
    go (as_before same bytes) =
        let z : ◌≡◌ {A = ℕ} 9 7 = ap (λ (l : List ℕ). byte l 0) (bytes (bytes_of 7) (record { is_present = refl; has_bytes = refl })).has_bytes in
        absurd (omega arith)
    go (as_written new) = let z : ◌≡◌ {A = ℕ} 7 9 = ap (λ (l : List ℕ). byte l 127) new.has_bytes in absurd (omega arith)

-- a write of B without its entry leaves record 0 absent
no_entry_lem : AnyCutOf no_entry → ⊥
unfolding storing
no_entry_lem any =
    let z : ◌≡◌ {A = ℕ} 0 1 = ap (λ (v : List ℕ). byte v 47) ((on_disk any (writes 66 0) (bytes_below (fcb_of 66 0) refl)).enough 1 (omega arith)) in
    absurd (omega arith)

-- two records of B: after two stores the first is done
two_records : Asked
two_records = asked 221 2 (fcb_of 66 0) (bytes_of 9 ++ bytes_of 8)

data_of_all_lem : AnyCutOf data_of_all → ⊥
unfolding storing two_records
data_of_all_lem any =
    false≢true ((on_disk any two_records (bytes_below (fcb_of 66 0) refl)).done_before refl refl 2 0 (omega arith) refl (omega arith)).is_present

-- a volume with an entry in each of the first two directory records, and a delete of both
spread : List ℕ
spread = entry_of 65 0 0 ++ (replicate 96 0xE5 ++ (entry_of 66 0 0 ++ (replicate 864 0xE5 ++ replicate 3072 0)))

pattern : List ℕ
pattern = 0 ∷ (replicate 11 63 ++ replicate 24 0)

not_several : Delete ≢ Moves WriteSeveral
not_several e = let z : ◌≡◌ {A = ℕ} 0 1 = cc in absurd (omega arith)

-- record 1 before record 0
not_rising : (a b : List ℕ) → Ordered small (store 1 a ∷ store 0 b ∷ []) → ⊥
not_rising a b (directory ss (rises low s rest x y z (rises low' s' rest' x' y' z' more))) = absurd (omega arith)
not_rising a b (data_first s ss x y rest) = absurd (omega arith)

falls : AnyCutOf falling → ⊥
unfolding storing spread pattern
falls any =
    not_rising _ _ ((any small refl spread refl refl logs_in refl [] tt closed (asked 19 0 pattern []) (bytes_below pattern refl)).in_order not_several)

pub orders_shut_out : OrdersShutOut
orders_shut_out = record {
  directory_first_lem = directory_first_lem;
  in_halves_lem = in_halves_lem;
  falls = falls;
  data_of_all_lem = data_of_all_lem;
  no_entry_lem = no_entry_lem;
}
