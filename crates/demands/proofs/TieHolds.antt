-- A run of calls at the door is a run of `step`: by induction over the calls.
use mathlib.Core.Path.{◌≡◌, refl, ap, ◌∙◌}
use mathlib.Core.List.{List, [], ◌∷◌}
use Rattle.filecalls.specs.Outcome.{Outcome}
use Rattle.bdos.specs.Step.{step}
use Rattle.demands.specs.Run.{Seen, seen, answers, final}
use Rattle.demands.specs.Tie.{ended, called, Tie, TiedKept}
use Rattle.demands.proofs.Demand3Holds.{demand3}

pub tie : Tie
unfolding answers final
tie g [] d v ss w ended = record { answers_are = refl; volume_is = refl }
tie g (c ∷ cs) d v [] w x = elim x [ ]
tie g (c ∷ cs) d v (x ∷ ss) w (called r v' f' b' e rest) =
    let i = tie g cs r.drive v' ss w rest in
    let s : r.drive ≡ (step g c d v).drive = ap (λ (o : Outcome). o.drive) e in
    let u : v' ≡ (step g c d v).volume = ap (λ (o : Outcome). o.volume) e in
    record {
      answers_are = ap (λ (y : Seen). y ∷ ss) (ap seen e) ∙ ap (λ (l : List Seen). seen (step g c d v) ∷ l) (i.answers_are ∙ rw (s, u));
      volume_is = i.volume_is ∙ rw (s, u);
    }

pub tied_kept : TiedKept
tied_kept g law v size ok login first cs small d e ss w ran =
    let is = tie g (login ∷ cs) d v ss w ran in
    rw (is.answers_are, is.volume_is) (demand3 g law v size ok login first cs small d e)
