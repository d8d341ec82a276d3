-- No read looks at a held block: a file reads the same on every drive of a front.
use mathlib.Core.Path.{◌≡◌, refl, ap, ◌∙◌, fun_ext}
use mathlib.Core.List.{List, []}
use Prim.Native.Nat.{ℕ, ◌-◌}
use lib.ListN.{replicate}
use Rattle.joined.specs.Joined as behind
use Rattle.numbers.specs.Numbers.{three}
use Rattle.disk_geometry.specs.Geometry.{record_bytes}
use Rattle.call_fcb.specs.Fcb.{R0, with_random}
use Rattle.call_answers.specs.declared.Refusal.{Refusal}
use Rattle.call_answers.specs.Refusal.{first}
use Rattle.call_answers.specs.Answer.{why_of}
use Rattle.filecalls.specs.declared.Front.{Front}
use Rattle.filecalls.specs.declared.Drive.{Drive}
use Rattle.filecalls.specs.CodeFront.{joined}
use Rattle.filecalls.specs.State.{is_open}
use Rattle.filecalls.specs.Outcome.{Act, deny, done, outcome}
use Rattle.filecalls.specs.Read.{random_tests, read_done, read_random_act}
use Rattle.filecalls.specs.Open.{size_tests, size_act}
use Rattle.load_records.specs.Records.{shown, unread, record_of, measured, unsized, first_from, image_records, read_why, image}
use Rattle.load_records.specs.CodeReading.{bare}

-- all that a load asks of a file
pub record ReadsAs (d e : Drive) (v f : List ℕ) : Type 0 where
  pub refusal : read_why d v f ≡ read_why e v f
  pub header : record_of d v f 0 ≡ record_of e v f 0
  pub size : image_records d v f ≡ image_records e v f
  pub image : image d v f ≡ image e v f

-- the same act leaves the same but for the state
record Same (d e : Drive) (v f b : List ℕ) (x y : Act) : Type 0 where
  pub answer : (outcome d v f b x).answer ≡ (outcome e v f b y).answer
  pub fcb : (outcome d v f b x).fcb ≡ (outcome e v f b y).fcb
  pub buffer : (outcome d v f b x).buffer ≡ (outcome e v f b y).buffer

same : (d e : Drive) (v f b : List ℕ) (a : Act) → Same d e v f b a a
unfolding outcome
same d e v f b (deny why) = record { answer = refl; fcb = refl; buffer = refl }
same d e v f b (done code change stores f' b') = record { answer = refl; fcb = refl; buffer = refl }

module _ (w : Front) (held v : List ℕ) where
  read_same : (f b : List ℕ) → Same (joined w held) (bare w) v f b (read_random_act (joined w held) v f b) (read_random_act (bare w) v f b)
  unfolding read_random_act random_tests read_done is_open
  read_same f b = same (joined w held) (bare w) v f b (read_random_act (bare w) v f b)

  size_same : (f : List ℕ) → Same (joined w held) (bare w) v f [] (size_act (joined w held) v f) (size_act (bare w) v f)
  unfolding size_act size_tests is_open
  size_same f = same (joined w held) (bare w) v f [] (size_act (bare w) v f)

  module _ (f : List ℕ) where
    unread_same : unread (joined w held) v f ≡ unread (bare w) v f
    unfolding shown
    unread_same = fun_ext (λ n. ap why_of (read_same (with_random f n) (replicate record_bytes 0)).answer)

    record_same : record_of (joined w held) v f ≡ record_of (bare w) v f
    unfolding shown
    record_same = fun_ext (λ n. (read_same (with_random f n) (replicate record_bytes 0)).buffer)

    unsized_same : unsized (joined w held) v f ≡ unsized (bare w) v f
    unfolding measured
    unsized_same = ap why_of (size_same f).answer

    records_same : image_records (joined w held) v f ≡ image_records (bare w) v f
    unfolding measured
    records_same = ap (λ (l : List ℕ). three l R0 - 1) (size_same f).fcb

    why_same : read_why (joined w held) v f ≡ read_why (bare w) v f
    unfolding read_why
    why_same =
        ap (λ (p : ℕ → Refusal). first (p 0) (first (unsized (joined w held) v f) (first_from p 1 (image_records (joined w held) v f)))) unread_same
        ∙ ap (λ (u : Refusal). first (unread (bare w) v f 0) (first u (first_from (unread (bare w) v f) 1 (image_records (joined w held) v f)))) unsized_same
        ∙ ap (λ (k : ℕ). first (unread (bare w) v f 0) (first (unsized (bare w) v f) (first_from (unread (bare w) v f) 1 k))) records_same

    image_same : image (joined w held) v f ≡ image (bare w) v f
    unfolding image
    image_same =
        ap (λ (r : ℕ → List ℕ). behind.joined r 1 (image_records (joined w held) v f)) record_same
        ∙ ap (λ (k : ℕ). behind.joined (record_of (bare w) v f) 1 k) records_same

    pub reads_as_bare : ReadsAs (joined w held) (bare w) v f
    reads_as_bare =
        record { refusal = why_same; header = ap (λ (r : ℕ → List ℕ). r 0) record_same; size = records_same; image = image_same }
