-- Whole transcripts, evaluated.
use mathlib.Core.Path.{◌≡◌, refl}
use mathlib.Core.List.{[], ◌∷◌, ◌++◌}
use Rattle.lists.specs.Bytes.{part}
use Rattle.disk_geometry.specs.Geometry.{lawful, bytes}
use Rattle.disk_volume.specs.Name.{same}
use Rattle.call_answers.specs.Refusal.{first_met}
use Rattle.filecalls.specs.State.{is_open}
use Rattle.filecalls.specs.Outcome.{outcome, unless}
use Rattle.filecalls.specs.LogIn.{log_in_tests, refused_log_in, log_in}
use Rattle.filecalls.specs.Search.{first_tests, search_first_act, next_tests, search_next_act}
use Rattle.filecalls.specs.Small.{set_random_tests, set_random_act}
use Rattle.bdos.specs.Step.{carries, does, step}
use Rattle.call_served.specs.Calls.{call_of}
use Rattle.text.specs.Text.{put_byte, puts}
use Rattle.text.specs.Decimal.{decimal_in, decimal}
use Rattle.replay_script.specs.Script.{header_of, call_length, next_of, call_at}
use Rattle.replay_transcript.specs.Hex.{hex}
use Rattle.text.specs.Letters.{letters}
use Rattle.replay_transcript.specs.Lines.{shown, call_line, bad_line, end_line}
use Rattle.replay_transcript.specs.Records.{record_line, record_lines}
use Rattle.replay_turn.specs.Play.{laid, played}
use Rattle.replay_turn.specs.Transcript.{run_from, ended, transcript}

-- nothing at all
no_script : transcript [] ≡ letters "BAD SCRIPT 0\nEND 0\n"
unfolding transcript header_of bad_line end_line decimal decimal_in
no_script = refl

-- B 1,024, T 2, D 1 with a volume of four bytes: a log-in; function 0, whose third byte lies beyond the volume; 36, 17 and
-- 18, of which 18 is lent no control block; and a call that is cut off
few_calls : transcript (
    (0 ∷ 4 ∷ 2 ∷ 0 ∷ 1 ∷ 0 ∷ 4 ∷ 0 ∷ 0 ∷ 0 ∷ 1 ∷ 2 ∷ 3 ∷ 4 ∷ [])
    ++ (13 ∷ 0 ∷ 0 ∷ 0 ∷ 0 ∷ [])
    ++ (0 ∷ 0 ∷ 6 ∷ 2 ∷ 0 ∷ 0 ∷ 9 ∷ 9 ∷ 9 ∷ 0 ∷ 0 ∷ [])
    ++ (36 ∷ 0 ∷ 1 ∷ 7 ∷ 0 ∷ 0 ∷ [])
    ++ (17 ∷ 0 ∷ 0 ∷ 1 ∷ 0 ∷ 171 ∷ [])
    ++ (18 ∷ 0 ∷ 1 ∷ 1 ∷ 2 ∷ 0 ∷ 2 ∷ 3 ∷ [])
    ++ (15 ∷ 0 ∷ [])
    )
    ≡ letters "13 33 0 - -\n"
    ++ letters "0 0 0 - -\n"
    ++ letters "36 32 0 =07 -\n"
    ++ letters "17 32 0 = =AB\n"
    ++ letters "18 32 0 - =0203\n"
    ++ letters "BAD SCRIPT 5\n"
    ++ letters "RECORD 0 01020909\n"
    ++ letters "END 5\n"
unfolding transcript header_of run_from ended next_of call_length call_at played laid puts put_byte step does carries call_of outcome unless first_met log_in log_in_tests refused_log_in lawful bytes is_open set_random_act set_random_tests search_first_act first_tests search_next_act next_tests call_line shown hex bad_line end_line decimal decimal_in record_lines record_line same part
few_calls = refl
