-- A text as the bytes of its letters, so that words can be read where they are defined; what stands between words and behind lines.
use Rattle.std.specs.Prelude.{List, [] as none, ◌∷◌ as ◌then◌, ℕ}
use Prim.Native.Char.{code}
use Prim.Native.String.{String, [], ◌∷◌}

abbrev pub letters : String → List ℕ
letters [] = none
letters (c ∷ s) = code c then letters s

abbrev pub blank : List ℕ
blank = letters " "

abbrev pub line_end : List ℕ
line_end = letters "\n"
