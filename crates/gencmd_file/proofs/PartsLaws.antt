-- The parts of the file, read back.
use mathlib.Core.Path.{◌≡◌, refl}
use mathlib.Core.List.{List, [], ◌++◌, append_assoc}
use Prim.Native.Nat.{ℕ, ◌*◌, ◌-◌}
use native.Mathlib.Omega.{arith}
use lib.ListN.{length, replicate, length-append}
use lib.Seq.{take_at, drop_at}
use Rattle.lists.specs.Bytes.{part}
use Rattle.memory_spans.specs.Span.{paragraph_bytes}
use Rattle.load_header.specs.Header.{CODE, DATA, EXTRA, STACK}
use Rattle.gencmd_lines.specs.Line.{Line}
use Rattle.gencmd_groups.specs.declared.Groups.{Groups}
use Rattle.gencmd_groups.specs.Groups.{byte_at, group_bytes}
use Rattle.gencmd_groups.proofs.ListLaws.{length_list}
use Rattle.gencmd_file.specs.File.{header_bytes, header, image, file_length, file_with}
use Rattle.gencmd_file.specs.Parts.{Parts}
use Rattle.gencmd_file.proofs.FileLaws.{length_header}

-- x between what stands before it and what stands behind it
between : (l before x behind : List ℕ) (a n : ℕ) → l ≡ before ++ (x ++ behind) → length before ≡ a → length x ≡ n → part l a n ≡ x
unfolding part
between l before x behind a n e f s = rw (e, drop_at before (x ++ behind) a f, take_at x behind n s)

module _ (ls : List Line) (s : Groups) where
  -- a group's bytes, as many paragraphs as it has, and the zeros behind the image
  bytes_of : ℕ → ℕ → List ℕ
  bytes_of g n = group_bytes ls g (paragraph_bytes * n)

  length_of_lem : (g n : ℕ) → length (bytes_of g n) ≡ paragraph_bytes * n
  unfolding bytes_of
  length_of_lem g n = length_list (byte_at ls g) 0 (paragraph_bytes * n)

  h : List ℕ
  h = header s

  zeros : List ℕ
  zeros = replicate (file_length s - length (h ++ image ls s)) 0

  pub parts : Parts ls s
  unfolding file_with image h zeros bytes_of
  parts =
      let code = bytes_of CODE s.code in
      let values = bytes_of DATA s.«data» in
      let extra = bytes_of EXTRA s.extra in
      let stack = bytes_of STACK s.stack in
      let head : length h ≡ header_bytes = length_header s in
      let a : length code ≡ paragraph_bytes * s.code = length_of_lem CODE s.code in
      let b : length values ≡ paragraph_bytes * s.«data» = length_of_lem DATA s.«data» in
      let c : length extra ≡ paragraph_bytes * s.extra = length_of_lem EXTRA s.extra in
      record {
        head = between (file_with ls s) [] h (code ++ (values ++ (extra ++ (stack ++ zeros)))) 0 header_bytes (simp append_assoc) refl head;
        code = between (file_with ls s) h code (values ++ (extra ++ (stack ++ zeros))) _ _ (simp append_assoc) (omega arith) a;
        «data» = between (file_with ls s) (h ++ code) values (extra ++ (stack ++ zeros)) _ _ (simp append_assoc) (simp length-append (omega arith)) b;
        extra = between (file_with ls s) (h ++ (code ++ values)) extra (stack ++ zeros) _ _ (simp append_assoc) (simp length-append (omega arith)) c;
        stack = between (file_with ls s) (h ++ (code ++ (values ++ extra))) stack zeros _ _ (simp append_assoc) (simp length-append (omega arith)) (length_of_lem STACK s.stack);
      }
