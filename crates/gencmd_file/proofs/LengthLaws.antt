-- How long a file is: at most so long, and no longer than the buffer that it was written into.
use mathlib.Core.Path.{◌≡◌, refl, ap}
use mathlib.Core.List.{List, ◌++◌}
use Prim.Native.Nat.{ℕ, ◌≤◌}
use native.Mathlib.Omega.{arith}
use lib.ListN.{length, drop, length-append}
use Rattle.std.specs.Prelude.{is_none, Option, Some, None, Result, Ok, Err}
use Rattle.gencmd_lines.specs.declared.Refusal.{Refusal}
use Rattle.gencmd_lines.specs.Lines.{lines_of, lines_refusal, lines_in}
use Rattle.gencmd_lines.proofs.RefusalLaws.{first_parts}
use Rattle.gencmd_groups.specs.declared.Groups.{Groups}
use Rattle.gencmd_groups.specs.Groups.{reaches, sizes_of}
use Rattle.gencmd_groups.specs.CodeMeasure.{SizeWithin}
use Rattle.gencmd_groups.proofs.ReachLaws.{reaches_within, sizes_within}
use Rattle.gencmd_file.specs.File.{file_length, file_of}
use Rattle.gencmd_file.specs.Gencmd.{After, after, answered, length_of, refusal_of, gencmd}
use Rattle.gencmd_file.specs.Longest.{longest, NotLonger}
use Rattle.gencmd_file.proofs.FileLaws.{length_file}

length_within : (s : Groups) → SizeWithin s → file_length s ≤ longest
length_within s w = omega (arith, w.code, w.«data», w.extra, w.stack)

pub not_longer : (text : List ℕ) → NotLonger text
not_longer text =
    record {
      file = λ e. rw (length_file (lines_in text) (sizes_of (reaches (lines_in text)))) (length_within (sizes_of (reaches (lines_in text))) (sizes_within (reaches (lines_in text)) (reaches_within (lines_of text) e)));
    }

module _ (text out : List ℕ) where
  abbrev file : List ℕ
  file = file_of (lines_in text)

  pub answer_within : length_of (gencmd text out).answer ≤ longest
  unfolding gencmd refusal_of
  answer_within = go (refusal_of text (length out)) refl
    where
      go : (r : Option Refusal) → refusal_of text (length out) ≡ r → length_of (answered r file out).answer ≤ longest
      go None e = (not_longer text).file (first_parts (lines_refusal (lines_of text)) _ (ap is_none e)).0
      go (Some why) e = omega arith

  pub written_within : {n : ℕ} {l : List ℕ} → after (Ok n) l ≡ gencmd text out → n ≤ length l
  unfolding gencmd
  written_within {n} {l} e = go (refusal_of text (length out)) e
    where
      go : (r : Option Refusal) → after (Ok n) l ≡ answered r file out → n ≤ length l
      go None f =
          let a : ◌≡◌ {A = Result ℕ Refusal} (Ok n) (Ok (length file)) = ap (λ (x : After). x.answer) f in
          let z : n ≡ length file = cc in
          let y : l ≡ file ++ drop (length file) out = ap (λ (x : After). x.out) f in
          rw y (rw length-append (omega arith))
      go (Some why) f = let a : ◌≡◌ {A = Result ℕ Refusal} (Ok n) (Err why) = ap (λ (x : After). x.answer) f in cc
