-- Log-in (functions 13 and 37): "Log-in accepts exactly when all slots are good. It answers 0, the number of free blocks,
-- and a state with user 0, not protected, no search open. Otherwise it answers 36, the lowest bad slot in the count's
-- place (0 for other refusals), and the closed state".
use Rattle.std.specs.Prelude.{not, cond, List, [], ◌∷◌, ◌++◌, ℕ, ltb, eqb, length}
use Rattle.disk_geometry.specs.declared.Geometry.{Geometry}
use Rattle.disk_geometry.specs.Geometry.{lawful, bytes, slots, blocks, directory_blocks_of}
use Rattle.disk_held.specs.Held.{free_count}
use Rattle.call_answers.specs.declared.Refusal.TheVariants.{Closed, VolumeLength, BadSlot}
use Rattle.call_answers.specs.declared.Answer.{Answer}
use Rattle.call_answers.specs.declared.Answer.TheVariants as answer
use Rattle.call_answers.specs.Refusal.{Test, test, is_none, first_met}
use Rattle.disk_rules.specs.GoodSlot.{lowest_bad}
use Rattle.disk_rules.specs.Named.{held_of}
use Rattle.filecalls.specs.declared.Reply.{Reply}
use Rattle.filecalls.specs.State.{closed, logged_in}

-- 32, 33
abbrev pub lent_log_in : Geometry → List ℕ → List Test
lent_log_in g v = test Closed (not (lawful g)) ∷ test VolumeLength (not (eqb (length v) (bytes g))) ∷ []

-- 32, 33, 36
unfoldable pub log_in_tests : Geometry → List ℕ → List Test
log_in_tests g v = lent_log_in g v ++ (test BadSlot (ltb (lowest_bad g v) (slots g)) ∷ [])

-- "36, the lowest bad slot in the count's place (0 for other refusals)": where 32 and 33 are not met, 36 is
unfoldable pub refused_log_in : Geometry → List ℕ → Answer
refused_log_in g v =
    cond (is_none (first_met (lent_log_in g v))) (answer.BadSlot (lowest_bad g v))
    (answer.Refused (first_met (lent_log_in g v)))

unfoldable pub log_in : Geometry → List ℕ → Reply
log_in g v =
    cond (is_none (first_met (log_in_tests g v)))
    (record {
      answer = answer.Ready (free_count (held_of g v) (directory_blocks_of g) (blocks g));
      drive = logged_in g (held_of g v);
    })
    (record { answer = refused_log_in g v; drive = closed })
