-- A replacement alters bytes 0 and 1 of exactly the matching records, whole or cut; on any volume of bytes.
use mathlib.Core.Path.{◌≡◌, refl, sym, ap, ◌∙◌}
use mathlib.Core.Bool.{Bool, true, false, cond}
use mathlib.Core.Logic.{◌≢◌, ◌⊎◌, inl, inr}
use mathlib.Core.List.{List, ◌++◌}
use Prim.Native.Nat.{ℕ, zero, suc, ◌+◌, ◌-◌, ◌≤◌, ◌<◌}
use native.Mathlib.Decide.{dec_le}
use native.Mathlib.Omega.{arith}
use lib.ListN.{length}
use borrow.Author.Tests.{not-false}
use Rattle.lists.specs.Bytes.{byte}
use Rattle.lists.specs.Bounded.{fold, count_from}
use Rattle.numbers.specs.Numbers.{Bytes}
use Rattle.disk_volume.specs.Name.{name_of}
use Rattle.disk_volume.specs.Record.{present}
use Rattle.disk_stores.specs.Stores.{laid, cut}
use Rattle.disk_stores.proofs.LaidLaws.{cut_first, cut_second, cut_enough}
use Rattle.disk_stores.proofs.CodeLaws.{cut_none}
use Rattle.call_answers.specs.declared.Answer.TheVariants.{Done}
use Rattle.filecalls.specs.declared.Drive.{Drive}
use Rattle.desk.specs.declared.Why.{Why}
use Rattle.std.specs.Prelude.{Result, Ok, Err}
use Rattle.desk.specs.Records.{readable, bears, rewritten}
use Rattle.desk.specs.Replace.{rewrite_if, rewrite_all, carried_out, replacement}
use Rattle.desk.specs.Stores.{rewritten_stores, stores_if, all_stores, plan_stores, replacement_stores}
use Rattle.desk.proofs.RecordLaws.{rewritten_laid}
use Rattle.desk.proofs.ReplaceLaws.{Goes, Body, goes_body, by_plan_lem, drive_stays, stores_laid}
use Rattle.desk_keeps.specs.Sigla.{stands_at, body_first, body_count, Matches, Altered, CutShort, at_turn, write_of, Replaces, OnAnyVolume}
use Rattle.desk_keeps.proofs.Rewritten.{File, file_clear, found, rewriting_done, rewritten_cut}
use Rattle.desk_keeps.proofs.Directory.{Alike, readable_same}
use Rattle.desk_keeps.proofs.OneRecord.{rewritten_alike, file_after}
use Rattle.desk_keeps.proofs.OneByOne.{Rewrote, rewrote}
use Rattle.desk_keeps.proofs.OfFiles.{bad_same, present_same, records_kept}

-- ---- records of a body that is read
-- those of k records from i on that are hit
abbrev pub Hit : (ℕ → Bool) → ℕ → ℕ → ℕ → Type 0
Hit p i k n = (i ≤ n) × ((n < i + k) × (p n ≡ true))

-- these records, said in another way
altered_by : {d : Drive} {v f : List ℕ} {these those : ℕ → Type 0} {siglum : ℕ} {w : List ℕ} → ((n : ℕ) → these n → those n) → ((n : ℕ) → those n → these n)
    → Altered d v f these siglum w → Altered d v f those siglum w
altered_by to from a = record {
  length_stays = a.length_stays;
  directory_stays = a.directory_stays;
  siglum_laid = λ n h. a.siglum_laid n (from n h);
  others_stay = λ x o. a.others_stay x (λ n h. o n (to n h));
  presence_stays = a.presence_stays;
  inspected = a.inspected;
  records_stay = λ ok u name u15 m here k k< o. a.records_stay ok u name u15 m here k k< (λ x y h. o x y (to m h));
}

-- none of them
altered_none : (d : Drive) (v f : List ℕ) (these : ℕ → Type 0) (siglum : ℕ) → ((n : ℕ) → these n → ⊥) → Altered d v f these siglum v
altered_none d v f these siglum none = record {
  length_stays = refl;
  directory_stays = λ i h. refl;
  siglum_laid = λ n h. absurd (none n h);
  others_stay = λ x o. refl;
  presence_stays = λ u name m. refl;
  inspected = λ ok. ok;
  records_stay = λ ok u name u15 m here k k< o. refl;
}

module _ (p : ℕ → Bool) (d : Drive) (f : List ℕ) (siglum : ℕ) (s16 : siglum < 65536) where
  pub all_altered : (k i : ℕ) (v : List ℕ) → File d v f → i + k ≤ 65536 → ((n : ℕ) → i ≤ n → n < i + k → readable d v f n ≡ true)
      → Altered d v f (Hit p i k) siglum (rewrite_all p d f siglum v i k)
  all_altered k i v file top can =
      let r = rewrote p d f siglum s16 k i v file top can in
      let w = rewrite_all p d f siglum v i k in
      let others : (x : ℕ) → ((n : ℕ) → Hit p i k n → (x ≢ stands_at d v f n) × (x ≢ stands_at d v f n + 1)) → byte w x ≡ byte v x =
      λ x o. r.values x (byte v x) refl (λ n a b q. ((λ e. absurd ((o n (a, (b, q))).0 e)), (λ e. absurd ((o n (a, (b, q))).1 e)))) in
      record {
        length_stays = r.alike.size;
        directory_stays = r.alike.entries;
        siglum_laid = λ n h. r.laid n h.0 h.1.0 h.1.1;
        others_stay = others;
        presence_stays = present_same d.geometry v w r.alike;
        inspected = λ ok. bad_same d.geometry v w r.alike ∙ ok;
        records_stay = records_kept d v f (Hit p i k) w r.alike file.state.law file.state.user15
            (λ n h. not-false (present d.geometry v d.user (name_of f) n) (found d v f file n (below n h.1.0) (can n h.0 h.1.0)).absent) others;
      }
    where
      below : (n : ℕ) → n < i + k → n < 65536
      below n b = omega (arith, b, top)

  -- a cut lies behind some of the records, all of them whole
  record Reached (v : List ℕ) (i k : ℕ) (w : List ℕ) : Type 0 where
    done : ℕ
    within : done ≤ k
    is : w ≡ rewrite_all p d f siglum v i done

  first_is : (v : List ℕ) (i j : ℕ) {t : Bool} → p i ≡ t
      → rewrite_all p d f siglum v i (suc j) ≡ rewrite_all p d f siglum (cond t (rewritten d f siglum v i) v) (suc i) j
  unfolding fold rewrite_if
  first_is v i j e = ap (λ (t : Bool). rewrite_all p d f siglum (cond t (rewritten d f siglum v i) v) (suc i) j) e

  reaches : (k i : ℕ) (v : List ℕ) → File d v f → i + k ≤ 65536 → ((n : ℕ) → i ≤ n → n < i + k → readable d v f n ≡ true)
      → (most : ℕ) → Reached v i k (cut d.geometry v most (all_stores p d f siglum v i k))
  unfolding all_stores fold rewrite_if
  reaches zero i v file top can most = record { done = 0; within = omega arith; is = cut_none d.geometry v most }
  reaches (suc k) i v file top can most =
      go (p i) refl
      (reaches k (suc i) v file (omega (arith, top)) (λ n a b. can n (omega (arith, a)) (omega (arith, b))) most)
      (λ file' can'. reaches k (suc i) (rewritten d f siglum v i) file' (omega (arith, top)) can')
    where
      i< : i < 65536
      i< = omega (arith, top)

      now : readable d v f i ≡ true
      now = can i (omega arith) (omega arith)

      w : List ℕ
      w = rewritten d f siglum v i

      go : (t : Bool) → p i ≡ t → Reached v (suc i) k (cut d.geometry v most (all_stores p d f siglum v (suc i) k))
          → (File d w f → ((n : ℕ) → suc i ≤ n → n < suc i + k → readable d w f n ≡ true) → (m : ℕ) → Reached w (suc i) k (cut d.geometry w m (all_stores p d f siglum w (suc i) k)))
          → Reached v i (suc k) (cut d.geometry v most (stores_if (p i) d f siglum v i ++ all_stores p d f siglum (cond (p i) w v) (suc i) k))
      go false e rest later = record { done = suc rest.done; within = omega (arith, rest.within); is = rw e rest.is }
      go true e rest' later = either (dec_le (length (rewritten_stores d f siglum v i)) most)
        where
          alike : Alike d.geometry v w
          alike = rewritten_alike d v f file i i< now siglum

          rest : (m : ℕ) → Reached w (suc i) k (cut d.geometry w m (all_stores p d f siglum w (suc i) k))
          rest = later (file_after d v f file i i< now siglum s16) (λ n a b. readable_same d v w f alike file n (omega (arith, b, top)) (can n (omega (arith, a)) (omega (arith, b))))

          stored : laid d.geometry v (rewritten_stores d f siglum v i) ≡ w
          stored = sym (rewritten_laid d f siglum v i)

          either : Dec (length (rewritten_stores d f siglum v i) ≤ most)
              → Reached v i (suc k) (cut d.geometry v most (stores_if (p i) d f siglum v i ++ all_stores p d f siglum (cond (p i) w v) (suc i) k))
          either (yes h) =
              let r = rest (most - length (rewritten_stores d f siglum v i)) in
              record {
                done = suc r.done;
                within = omega (arith, r.within);
                is = rw e (cut_second d.geometry v (rewritten_stores d f siglum v i) (all_stores p d f siglum w (suc i) k) most h
                    ∙ ap (λ (x : List ℕ). cut d.geometry x (most - length (rewritten_stores d f siglum v i)) (all_stores p d f siglum w (suc i) k)) stored ∙ r.is ∙ sym (first_is v i r.done e));
              }
          either (no h) = half (rewritten_cut d v f file i i< now siglum most)
            where
              short : cut d.geometry v most (rewritten_stores d f siglum v i ++ all_stores p d f siglum w (suc i) k) ≡ cut d.geometry v most (rewritten_stores d f siglum v i)
              short = cut_first d.geometry v (rewritten_stores d f siglum v i) (all_stores p d f siglum w (suc i) k) most (omega (arith, h))

              half : (cut d.geometry v most (rewritten_stores d f siglum v i) ≡ v) ⊎ (cut d.geometry v most (rewritten_stores d f siglum v i) ≡ w)
                  → Reached v i (suc k) (cut d.geometry v most (stores_if (p i) d f siglum v i ++ all_stores p d f siglum (cond (p i) w v) (suc i) k))
              half (inl z) = record { done = 0; within = omega arith; is = rw e (short ∙ z) }
              half (inr z) = record { done = 1; within = omega arith; is = rw e (short ∙ z) }

-- ---- the call
module _ (d : Drive) (v f : List ℕ) (chapter old new : ℕ) (small : Bytes v) (s16 : new < 65536) where
  abbrev p : ℕ → Bool
  p = bears d v f old

  -- what is known of a plan that goes
  module _ (first k : ℕ) (g : Goes d v f chapter first k) where
    file : File d v f
    file = file_clear d v f small g.file

    body : Body d v f first k
    body = goes_body g

    to_matches : (n : ℕ) → Hit p first k n → Matches d v f chapter old n
    to_matches n h =
        let x = g.first_is in
        let y = g.count_is in
        let low = h.0 in
        let high = h.1.0 in
        record { from_first = omega (arith, x, low); to_last = omega (arith, x, y, high); has_siglum = h.1.1 }

    from_matches : (n : ℕ) → Matches d v f chapter old n → Hit p first k n
    from_matches n m =
        let x = g.first_is in
        let y = g.count_is in
        let low = m.from_first in
        let high = m.to_last in
        (omega (arith, x, low), (omega (arith, x, y, high), m.has_siglum))

    go_altered : Altered d v f (Matches d v f chapter old) new (rewrite_all p d f new v first k)
    go_altered = altered_by to_matches from_matches (all_altered p d f new s16 k first v file body.to_last body.can)

    go_write : (n : ℕ) → Matches d v f chapter old n
        → ((write_of d (at_turn d v f chapter old new n) f new n).answer ≡ Done 0) × ((write_of d (at_turn d v f chapter old new n) f new n).drive ≡ d)
    go_write n m = rw (← g.first_is) (rewriting_done d w f r.file n n< (readable_same d v w f r.alike file n n< (body.can n low high)) new)
      where
        low : first ≤ n
        low = (from_matches n m).0

        high : n < first + k
        high = (from_matches n m).1.0

        n< : n < 65536
        n< = let top = body.to_last in let h = high in omega (arith, top, h)

        w : List ℕ
        w = rewrite_all p d f new v first (n - first)

        r : Rewrote p d f new v first (n - first) w
        r = rewrote p d f new s16 (n - first) first v file (omega (arith, n<, low)) (λ m a b. body.can m a (before m b low high))
          where
            before : (m : ℕ) → m < first + (n - first) → first ≤ n → n < first + k → m < first + k
            before m b l h = omega (arith, b, l, h)

    go_cut : (most : ℕ) → CutShort d v f chapter old new (cut d.geometry v most (all_stores p d f new v first k))
    go_cut most =
        let r = reaches p d f new s16 k first v file body.to_last body.can most in
        let j = r.done in
        let l = r.within in
        let top = body.to_last in
        record {
          reached = first + j;
          altered = rw r.is
              (altered_by (λ n h. (to_matches n (h.0, (less n (first + j) (first + k) h.1.0 (omega (arith, l)), h.1.1)), h.1.0))
              (λ n h. ((from_matches n h.0).0, (h.1, h.0.has_siglum)))
              (all_altered p d f new s16 j first v file (omega (arith, l, top)) (λ n a b. body.can n a (less n (first + j) (first + k) b (omega (arith, l))))));
        }
      where
        less : (n x y : ℕ) → n < x → x ≤ y → n < y
        less n x y a b = omega (arith, a, b)

  pub replaces : Replaces d v f chapter old new
  unfolding replacement replacement_stores carried_out plan_stores
  replaces = record {
    goes_when = λ first count e. ap (λ (q : Result (ℕ × ℕ) Why). (carried_out d v f old new q).answer) e;
    refused_when = λ why e. ap (λ (q : Result (ℕ × ℕ) Why). (carried_out d v f old new q).answer) e;
    refused_keeps =
        by_plan_lem (λ q. (why : Why) → (carried_out d v f old new q).answer ≡ Err why → (carried_out d v f old new q).volume ≡ v) d v f chapter
        (λ no why e. refl) (λ first k g why e. let z : ◌≡◌ {A = ℕ} 0 1 = cc in absurd (omega arith));
    altered =
        by_plan_lem (λ q. (c : ℕ) → (carried_out d v f old new q).answer ≡ Ok c → Altered d v f (Matches d v f chapter old) new (carried_out d v f old new q).volume) d v f chapter
        (λ no c e. let z : ◌≡◌ {A = ℕ} 0 1 = cc in absurd (omega arith)) (λ first k g c e. go_altered first k g);
    counts =
        by_plan_lem (λ q. (c : ℕ) → (carried_out d v f old new q).answer ≡ Ok c → c ≡ count_from p (body_first d v f chapter) (body_count d v f chapter)) d v f chapter
        (λ no c e. let z : ◌≡◌ {A = ℕ} 0 1 = cc in absurd (omega arith)) (λ first k g c e. let q : c ≡ count_from p first k = cc in q ∙ ap (λ (i : ℕ). count_from p i k) g.first_is ∙ ap (λ (j : ℕ). count_from p (body_first d v f chapter) j) g.count_is);
    state_stays = drive_stays d v f chapter old new;
    each_write =
        by_plan_lem (λ q. (c : ℕ) → (carried_out d v f old new q).answer ≡ Ok c → (n : ℕ) → Matches d v f chapter old n
        → ((write_of d (at_turn d v f chapter old new n) f new n).answer ≡ Done 0) × ((write_of d (at_turn d v f chapter old new n) f new n).drive ≡ d)) d v f chapter
        (λ no c e. let z : ◌≡◌ {A = ℕ} 0 1 = cc in absurd (omega arith)) (λ first k g c e. go_write first k g);
    cut_short =
        by_plan_lem (λ q. (most : ℕ) → CutShort d v f chapter old new (cut d.geometry v most (plan_stores d v f old new q))) d v f chapter
        (λ no most. rw (cut_none d.geometry v most) (record { reached = 0; altered = altered_none d v f _ new (λ n h. below_none n h.1) }))
        (λ first k g most. go_cut first k g most);
    enough = λ k h. cut_enough d.geometry v (replacement_stores d v f chapter old new) k h ∙ stores_laid d v f chapter old new;
  }
    where
      below_none : (n : ℕ) → n < 0 → ⊥
      below_none n h = omega (arith, h)

pub on_any_volume : OnAnyVolume
on_any_volume d v f chapter old new small s16 = replaces d v f chapter old new small s16
