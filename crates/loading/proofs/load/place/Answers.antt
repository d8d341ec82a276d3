-- 65, 60, 61 and 63, one after the other.
use Rattle.loading.proofs.LoadLaws.{no_rules, no_header, no_image, no_place, goes_on}
use Rattle.memory_calls.proofs.CallLaws.{within_facts}
use native.Mathlib.Omega.{arith}
use Prim.Native.Nat.{ℕ, ◌-◌}
use mathlib.Core.Path.{sym, ap, ◌∙◌}
use Rattle.loading.proofs.load.place.Goals as goal

pub returns-then-not-is_within_rules : goal.returns-then-not-is_within_rules
returns-then-not-is_within_rules c = no_rules _ _ _ _ _ (sym c.is_within_rules.ensures ∙ c.if-not-is_within_rules.true) c.refuse.ensures

pub returns-then-not-is_good : goal.returns-then-not-is_good
returns-then-not-is_good c = no_header _ _ _ _ _ (sym c.is_within_rules.ensures ∙ c.if-not-is_within_rules.false) (sym c.is_good.ensures ∙ c.if-not-is_good.true) c.refuse-then-not-is_good.ensures

pub returns-then-image-image_start : goal.returns-then-image-image_start
returns-then-image-image_start c =
    let a = sym c.is_within_rules.ensures ∙ c.if-not-is_within_rules.false in
    let b = sym c.is_good.ensures ∙ c.if-not-is_good.false in
    let x = c.saturating_sub-image.ensures ∙ ap (λ (k : ℕ). k - 1) c.requires.1.0 in
    no_image _ _ _ _ _ a b c.groups-n.ensures.0 (rw (x, c.image_start.ensures.0) at c.if-image-image_start.true) c.refuse-then-image-image_start.ensures

pub overflow_add-t : goal.overflow_add-t
overflow_add-t c = let w = within_facts _ _ (sym c.is_within_rules.ensures ∙ c.if-not-is_within_rules.false) in omega (arith, w.few_regions)

pub returns-then-t-n-gt-PLACES : goal.returns-then-t-n-gt-PLACES
returns-then-t-n-gt-PLACES c =
    let a = sym c.is_within_rules.ensures ∙ c.if-not-is_within_rules.false in
    let b = sym c.is_good.ensures ∙ c.if-not-is_good.false in
    let x = c.saturating_sub-image.ensures ∙ ap (λ (k : ℕ). k - 1) c.requires.1.0 in
    let whole = rw (x, c.image_start.ensures.0) at c.if-image-image_start.false in
    no_place _ _ _ _ _ a b c.groups-n.ensures.0 whole c.if-t-n-gt-PLACES.true c.refuse-then-t-n-gt-PLACES.ensures

pub grant_and_lay-requires : goal.grant_and_lay-requires
grant_and_lay-requires c =
    let a = sym c.is_within_rules.ensures ∙ c.if-not-is_within_rules.false in
    let b = sym c.is_good.ensures ∙ c.if-not-is_good.false in
    let x = c.saturating_sub-image.ensures ∙ ap (λ (k : ℕ). k - 1) c.requires.1.0 in
    let whole = rw (x, c.image_start.ensures.0) at c.if-image-image_start.false in
    let w = within_facts _ _ a in
    record { lent = c.requires.0; number = c.groups-n.ensures.0; few = c.groups-n.ensures.1; rules = a; header = b; whole = whole; left = c.if-t-n-gt-PLACES.false; used = w.few_pieces }

pub returns : goal.returns
returns c =
    let a = sym c.is_within_rules.ensures ∙ c.if-not-is_within_rules.false in
    let b = sym c.is_good.ensures ∙ c.if-not-is_good.false in
    let x = c.saturating_sub-image.ensures ∙ ap (λ (k : ℕ). k - 1) c.requires.1.0 in
    let whole = rw (x, c.image_start.ensures.0) at c.if-image-image_start.false in
    goes_on _ _ _ _ _ a b c.groups-n.ensures.0 whole c.if-t-n-gt-PLACES.false c.grant_and_lay.ensures
