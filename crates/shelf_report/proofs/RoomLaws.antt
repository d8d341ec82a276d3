-- Every report of up to 65,535 volumes fits into its room: no figure has more than ten digits.
use mathlib.Core.Path.{◌≡◌, refl, ap, ◌∙◌}
use mathlib.Core.List.{List}
use Prim.Native.Nat.{ℕ, ◌+◌, ◌*◌, ◌^◌, ◌≤◌, ◌<◌}
use native.Mathlib.Omega.{arith}
use lib.ListN.{length, take, drop, length-append}
use lib.Seq.{take_at}
use Rattle.text.specs.Text.{Text, text, puts}
use Rattle.text.proofs.TextLaws.{puts_room}
use Rattle.text.proofs.DecimalLaws.{decimal_short}
use Rattle.shelf_figures.specs.declared.Shelf.{Shelf}
use Rattle.shelf_report.specs.Report.{line, report}
use Rattle.shelf_report.specs.Room.{room, OfVolumes, Fits}

line_short : (n k : ℕ) → k ≤ 65535 → n ≤ 65536 * k → length (line n) ≤ 11
unfolding line
line_short n k few h =
    let t : n < 10 ^ 10 = omega arith in
    rw length-append (omega (arith, decimal_short 9 n t))

report_short : (s : Shelf) → OfVolumes s → length (report s) ≤ room
unfolding report
report_short s o =
    let w = o.within in
    let k = o.many in
    simp length-append (omega (
      arith,
      line_short s.refused k o.few w.refused,
      line_short s.files k o.few w.files,
      line_short s.entries k o.few w.entries,
      line_short s.records k o.few w.records,
      line_short s.held k o.few w.held,
      line_short s.free k o.few w.free,
      line_short s.waste k o.few w.waste,
    ))

report_whole : (s : Shelf) (out after : List ℕ) (n : ℕ) → OfVolumes s → room ≤ length out → text after n ≡ puts (text out 0) (report s) → take n after ≡ report s
report_whole s out after n o h e =
    let l = report s in
    let is = e ∙ puts_room l out 0 (omega (arith, report_short s o)) in
    let z : n ≡ length l = ap (λ (t : Text). t.at) is ∙ omega arith in
    rw z (ap (λ (t : Text). take (length l) t.bytes) is ∙ take_at l (drop (0 + length l) out) (length l) refl)

pub fits : Fits
fits = record { short = report_short; whole = report_whole }
