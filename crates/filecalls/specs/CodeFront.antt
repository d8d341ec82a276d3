-- The state in two parts, as code hands it about: its front, and beside it the held words, which only the calls look at that
-- take a block or free one; not for the reader of the paper.
use Rattle.std.specs.Prelude.{List, ℕ}
use Rattle.filecalls.specs.declared.Front.{Front}
use Rattle.filecalls.specs.declared.FrontReply.{FrontReply}
use Rattle.filecalls.specs.declared.Drive.{Drive}
use Rattle.filecalls.specs.declared.Reply.{Reply}

abbrev pub front_of : Drive → Front
front_of d = record { geometry = d.geometry; user = d.user; protected = d.protected; search = d.search }

abbrev pub joined : Front → List ℕ → Drive
joined f held =
    record { geometry = f.geometry; user = f.user; protected = f.protected; search = f.search; held = held }

abbrev pub joined_reply : FrontReply → List ℕ → Reply
joined_reply r held = record { answer = r.answer; drive = joined r.front held }
