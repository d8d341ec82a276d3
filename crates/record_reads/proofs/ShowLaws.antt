-- What a random read leaves that is lent the copy, and a buffer of zeros.
use mathlib.Core.Path.{◌≡◌, ap, ◌∙◌}
use mathlib.Core.List.{List}
use Prim.Native.Nat.{ℕ}
use lib.ListN.{replicate}
use Rattle.disk_geometry.specs.Geometry.{record_bytes}
use Rattle.call_fcb.specs.Fcb.{with_random}
use Rattle.call_answers.specs.declared.Refusal.{Refusal}
use Rattle.call_answers.specs.Answer.{why_of}
use Rattle.filecalls.specs.declared.Drive.{Drive}
use Rattle.filecalls.specs.declared.Reply.{Reply}
use Rattle.filecalls.specs.Outcome.{Outcome, left}
use Rattle.filecalls.specs.Leaves.{read_random_leaves}
use Rattle.record_reads.specs.Shown.{shown, unread, record_shown}

pub shows : (d : Drive) (v f : List ℕ) (n : ℕ) (r : Reply) {why : Refusal} {k : ℕ} {copy b f' b' : List ℕ}
    → copy ≡ with_random f n → b ≡ replicate k 0 → k ≡ record_bytes → left r v f' b' ≡ read_random_leaves d v copy b → why ≡ why_of r.answer
    → (why ≡ unread d v f n) × (b' ≡ record_shown d v f n)
unfolding shown
shows d v f n r {why} {k} {copy} {b} {f'} {b'} e z l h w =
    let y : b ≡ replicate record_bytes 0 = z ∙ ap (λ (m : ℕ). replicate m 0) l in
    let o : left r v f' b' ≡ read_random_leaves d v (with_random f n) (replicate record_bytes 0) = rw (e, y) at h in
    (w ∙ ap (λ (x : Outcome). why_of x.answer) o, ap (λ (x : Outcome). x.buffer) o)
