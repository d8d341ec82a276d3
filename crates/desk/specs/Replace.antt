-- "replacing one siglum by another in one chapter" .. "Everything is tested before anything is changed; the answer counts
-- the matching records. Refusals, after the file's own at record 0 (37 and 38 too): 50 contents against the rules, a listed
-- record that cannot be read, or chapter not there". "A listed record" is one of any chapter; a record from 65,536 on cannot
-- be read. Matches are fixed before any change. Each record that matches is rewritten by one write of the file calls, the
-- lowest first, and nothing else is stored (`Stores`).
use Rattle.std.specs.Prelude.{Bool, cond, ◌&&◌, List, ℕ, ltb, Result, Ok, Err}
use Rattle.lists.specs.Bounded.{every_from, count_from, fold}
use Rattle.call_fcb.specs.Fcb.{file_records}
use Rattle.call_answers.specs.Refusal.{is_none, first_met}
use Rattle.filecalls.specs.declared.Drive.{Drive}
use Rattle.filecalls.specs.Change.{change_tests}
use Rattle.desk_contents.specs.Contents.{contents_places, first_at, count_at, listed, good_contents, chapter_place}
use Rattle.desk.specs.declared.Why.{Why}
use Rattle.desk.specs.declared.Why.TheVariants.{Call, Contents}
use Rattle.desk.specs.declared.Reply.{Reply}
use Rattle.desk.specs.Records.{unread, readable, record_shown, bears, rewritten}

-- ---- what is decided, by reading alone
-- 50 is not answered: s is record 0
unfoldable pub allowed : Drive → List ℕ → List ℕ → List ℕ → ℕ → Bool
allowed d v fcb s chapter =
    good_contents s && ltb (listed s) file_records && ltb (chapter_place s chapter) contents_places
    && every_from (readable d v fcb) 1 (listed s)

-- 50, or the first record and the count of the chapter's body
unfoldable pub plan_in : Drive → List ℕ → List ℕ → List ℕ → ℕ → Result (ℕ × ℕ) Why
plan_in d v fcb s chapter =
    cond (allowed d v fcb s chapter) (Ok (first_at s (chapter_place s chapter), count_at s (chapter_place s chapter))) (Err Contents)

-- first the file's own refusals: those of a random read of record 0, "37 in its place before 3 and 38 straight after it"
unfoldable pub plan : Drive → List ℕ → List ℕ → ℕ → Result (ℕ × ℕ) Why
plan d v fcb chapter =
    cond (is_none (first_met (change_tests d v fcb)))
    (cond (readable d v fcb 0) (plan_in d v fcb (record_shown d v fcb 0) chapter) (Err (Call (unread d v fcb 0))))
    (Err (Call (first_met (change_tests d v fcb))))

-- ---- what is done
-- all that the call leaves: the control block is lent to be read and keeps its bytes
pub record Desk : Type 0 where
  pub answer : Result ℕ Why
  pub drive : Drive
  pub volume : List ℕ

-- a reply with the bytes that stand after the call
abbrev pub left : Reply → List ℕ → Desk
left r volume = record { answer = r.answer; drive = r.drive; volume = volume }

-- each of k records from n on that is hit is rewritten with this siglum, the lowest first
unfoldable pub rewrite_if : (ℕ → Bool) → Drive → List ℕ → ℕ → List ℕ → ℕ → List ℕ
rewrite_if hit d fcb siglum v n = cond (hit n) (rewritten d fcb siglum v n) v

abbrev pub rewrite_all : (ℕ → Bool) → Drive → List ℕ → ℕ → List ℕ → ℕ → ℕ → List ℕ
rewrite_all hit d fcb siglum v n k = fold (rewrite_if hit d fcb siglum) v n k

-- nothing, or the body's matching records are counted and rewritten: those that have the old siglum before any change. "A present
-- record is rewritten in its place, so no block is taken and the state stays as given"
unfoldable pub carried_out : Drive → List ℕ → List ℕ → ℕ → ℕ → Result (ℕ × ℕ) Why → Desk
carried_out d v fcb old new (Err why) = record { answer = Err why; drive = d; volume = v }
carried_out d v fcb old new (Ok (first, count)) = record {
  answer = Ok (count_from (bears d v fcb old) first count);
  drive = d;
  volume = rewrite_all (bears d v fcb old) d fcb new v first count;
}

-- the call
unfoldable pub replacement : Drive → List ℕ → List ℕ → ℕ → ℕ → ℕ → Desk
replacement d v fcb chapter old new = carried_out d v fcb old new (plan d v fcb chapter)
