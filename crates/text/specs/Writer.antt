-- A writer: the text in the buffer that it holds, which buffer that is, and what was appended.
use Rattle.std.specs.Prelude.{◌≡◌, ℕ, List}
use Rattle.text.specs.Text.{Text, text, puts}
use Rattle.text.specs.declared.Writer.{Writer}

abbrev pub written : Writer → Text
written w = text w.out.now w.at

abbrev pub buffer_of : Writer → ℕ
buffer_of w = w.out.ghost_name

-- w holds the buffer that v held, and its text is v's with the bytes l behind
pub record Appends (v : Writer) (l : List ℕ) (w : Writer) : Type 0 where
  pub buffer : buffer_of w ≡ buffer_of v
  pub text_is : written w ≡ puts (written v) l
