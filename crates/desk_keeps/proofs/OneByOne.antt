-- Records of the file rewritten one after another, those that are hit: each has the siglum afterwards, also where two of them
-- stand in one place, and no other byte is altered.
use mathlib.Core.Path.{◌≡◌, refl, sym, ap, ◌∙◌}
use mathlib.Core.Bool.{Bool, true, false, cond, true≢false}
use mathlib.Core.Logic.{◌≢◌}
use mathlib.Core.List.{List}
use Prim.Native.Nat.{ℕ, zero, suc, ◌+◌, ◌/◌, ◌%◌, ◌≤◌, ◌<◌}
use native.Mathlib.Decide.{ℕ_discrete}
use native.Mathlib.Omega.{arith}
use Rattle.lists.specs.Bytes.{byte}
use Rattle.lists.specs.Bounded.{fold}
use Rattle.filecalls.specs.declared.Drive.{Drive}
use Rattle.desk.specs.Records.{readable, rewritten}
use Rattle.desk.specs.Replace.{rewrite_if, rewrite_all}
use Rattle.desk_keeps.specs.Sigla.{stands_at}
use Rattle.desk_keeps.proofs.Rewritten.{File}
use Rattle.desk_keeps.proofs.Directory.{Alike, alike_refl, alike_then, readable_same}
use Rattle.desk_keeps.proofs.OneRecord.{place_same, low_is, high_is, value_kept, rewritten_alike, file_after, places_aligned}

-- the value c fits a byte x: if it is one of a siglum that is laid, it is that of the siglum
abbrev pub Fits : (ℕ → Bool) → Drive → List ℕ → List ℕ → ℕ → ℕ → ℕ → ℕ → ℕ → Type 0
Fits p d v f siglum i k x c =
    (n : ℕ) → i ≤ n → n < i + k → p n ≡ true → (x ≡ stands_at d v f n → c ≡ siglum % 256) × (x ≡ stands_at d v f n + 1 → c ≡ siglum / 256)

-- k records from i on, of those that p hits; the volume was v and is w
pub record Rewrote (p : ℕ → Bool) (d : Drive) (f : List ℕ) (siglum : ℕ) (v : List ℕ) (i k : ℕ) (w : List ℕ) : Type 0 where
  pub alike : Alike d.geometry v w
  pub file : File d w f
  pub values : (x c : ℕ) → byte v x ≡ c → Fits p d v f siglum i k x c → byte w x ≡ c
  pub laid : (n : ℕ) → i ≤ n → n < i + k → p n ≡ true → (byte w (stands_at d v f n) ≡ siglum % 256) × (byte w (stands_at d v f n + 1) ≡ siglum / 256)

module _ (p : ℕ → Bool) (d : Drive) (f : List ℕ) (siglum : ℕ) (s16 : siglum < 65536) where
  pub rewrote : (k i : ℕ) (v : List ℕ) → File d v f → i + k ≤ 65536 → ((n : ℕ) → i ≤ n → n < i + k → readable d v f n ≡ true)
      → Rewrote p d f siglum v i k (rewrite_all p d f siglum v i k)
  unfolding fold rewrite_if
  rewrote zero i v file top can = record {
    alike = alike_refl d.geometry v;
    file = file;
    values = λ x c e o. e;
    laid = λ n a b q. absurd (none n a b);
  }
    where
      none : (n : ℕ) → i ≤ n → n < i + 0 → ⊥
      none n a b = omega (arith, a, b)
  rewrote (suc k) i v file top can =
      go (p i) refl
      (rewrote k (suc i) v file (omega (arith, top)) (λ n a b. can n (omega (arith, a)) (omega (arith, b))))
      (λ file' can'. rewrote k (suc i) (rewritten d f siglum v i) file' (omega (arith, top)) can')
    where
      i< : i < 65536
      i< = omega (arith, top)

      now : readable d v f i ≡ true
      now = can i (omega arith) (omega arith)

      w : List ℕ
      w = rewritten d f siglum v i

      go : (t : Bool) → p i ≡ t → Rewrote p d f siglum v (suc i) k (fold (rewrite_if p d f siglum) v (suc i) k)
          → (File d w f → ((n : ℕ) → suc i ≤ n → n < suc i + k → readable d w f n ≡ true) → Rewrote p d f siglum w (suc i) k (fold (rewrite_if p d f siglum) w (suc i) k))
          → Rewrote p d f siglum v i (suc k) (fold (rewrite_if p d f siglum) (cond (p i) w v) (suc i) k)
      go false e rest later =
          rw e
          (record {
            alike = rest.alike;
            file = rest.file;
            values = λ x c q o. rest.values x c q (λ n a b. o n (omega (arith, a)) (omega (arith, b)));
            laid = λ n a b q. rest.laid n (next n a q) (omega (arith, b)) q;
          })
        where
          next : (n : ℕ) → i ≤ n → p n ≡ true → suc i ≤ n
          next n a q = after (λ z. true≢false (sym q ∙ ap p z ∙ e))
            where
              after : n ≢ i → suc i ≤ n
              after z = omega (arith, a, z)
      go true e rest' later =
          let alike = rewritten_alike d v f file i i< now siglum in
          let file' = file_after d v f file i i< now siglum s16 in
          let can' : (n : ℕ) → suc i ≤ n → n < suc i + k → readable d w f n ≡ true =
          λ n a b. readable_same d v w f alike file n (omega (arith, b, top)) (can n (omega (arith, a)) (omega (arith, b))) in
          let rest = later file' can' in
          let place : (n : ℕ) → suc i ≤ n → n < suc i + k → stands_at d w f n ≡ stands_at d v f n =
          λ n a b. place_same d v f file n (omega (arith, b, top)) (can n (omega (arith, a)) (omega (arith, b))) w alike in
          let here = place_same d v f file i i< now w alike in
          let can-here : readable d w f i ≡ true = readable_same d v w f alike file i i< now in
          rw e
          (record {
            alike = alike_then d.geometry v w _ alike rest.alike;
            file = rest.file;
            values = λ x c q o.
                rest.values x c
                (value_kept d v f file i i< now siglum x c q (o i (omega arith) (omega arith) e).0 (o i (omega arith) (omega arith) e).1)
                (λ n a b h. rw (place n a b) (o n (omega (arith, a)) (omega (arith, b)) h));
            laid = λ n a b q. laid_at n a b q (ℕ_discrete n i) rest place
                (rw (← here) (
                  rest.values (stands_at d w f i) (siglum % 256) (rw here (low_is d v f file i i< now siglum))
                      (λ m x y h. ((λ z. refl), (λ z. absurd (places_aligned d w f file' i m i< (omega (arith, y, top)) can-here (can' m x y) z)))),
                  rest.values (stands_at d w f i + 1) (siglum / 256) (rw here (high_is d v f file i i< now siglum))
                      (λ m x y h. ((λ z. absurd (places_aligned d w f file' m i (omega (arith, y, top)) i< (can' m x y) can-here (sym z))), (λ z. refl))),
                ));
          })
        where
          laid_at : (n : ℕ) → i ≤ n → n < i + suc k → p n ≡ true → Dec (n ≡ i) → Rewrote p d f siglum w (suc i) k (fold (rewrite_if p d f siglum) w (suc i) k)
              → ((n : ℕ) → suc i ≤ n → n < suc i + k → stands_at d w f n ≡ stands_at d v f n)
              → (byte (fold (rewrite_if p d f siglum) w (suc i) k) (stands_at d v f i) ≡ siglum % 256) × (byte (fold (rewrite_if p d f siglum) w (suc i) k) (stands_at d v f i + 1) ≡ siglum / 256)
              → (byte (fold (rewrite_if p d f siglum) w (suc i) k) (stands_at d v f n) ≡ siglum % 256) × (byte (fold (rewrite_if p d f siglum) w (suc i) k) (stands_at d v f n + 1) ≡ siglum / 256)
          laid_at n a b q (yes z) rest place first = rw z first
          laid_at n a b q (no z) rest place first = rw (← place n (omega (arith, a, z)) (omega (arith, b))) (rest.laid n (omega (arith, a, z)) (omega (arith, b)) q)
