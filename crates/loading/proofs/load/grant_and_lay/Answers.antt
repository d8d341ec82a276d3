-- All groups are granted and laid, and the base page with them; or none.
use Rattle.loading.proofs.LoadLaws.{few_enough, granted_to, too_few, all_given, no_room, given, all_room, held, page_fits, all_done}
use Rattle.loading.proofs.LaidLaws.{put_is}
use Rattle.memory_spans.specs.Span.{paragraph_bytes}
use Rattle.loading.specs.Page.{page_bytes}
use Rattle.load_records.specs.Records.{image}
use Rattle.load_records.specs.CodeReading.{bare}
use native.Mathlib.Omega.{arith}
use borrow.Author.Rules.{rules}
use Prim.Native.Nat.{◌+◌, ◌-◌, ◌*◌}
use mathlib.Core.Path.{◌≡◌}
use Rattle.loading.proofs.load.grant_and_lay.Goals as goal

pub grant_all-next-requires : goal.grant_all-next-requires
grant_all-next-requires c = (c.requires.few, few_enough c.requires c.regions-before.ensures)

pub returns-then-granted-n : goal.returns-then-granted-n
returns-then-granted-n c =
    let w = c.requires in
    let g = granted_to w c.regions-before.ensures c.pieces.ensures c.grant_all-next.ensures c.used.ensures in
    no_room _ _ _ _ w.number (too_few w g c.if-granted-n.true) c.refuse.ensures

pub lay_groups-requires : goal.lay_groups-requires
lay_groups-requires c =
    let w = c.requires in
    let g = granted_to w c.regions-before.ensures c.pieces.ensures c.grant_all-next.ensures c.used.ensures in
    let all = all_given w g c.if-granted-n.false in
    record {
      fcb_len = (w.lent, rw all w.few);
      held = (held w g all, rw all w.whole);
    }

pub slice_bounds-put_page-end : goal.slice_bounds-put_page-end
slice_bounds-put_page-end c =
    let w = c.requires in
    let g = granted_to w c.regions-before.ensures c.pieces.ensures c.grant_all-next.ensures c.used.ensures in
    let all = all_given w g c.if-granted-n.false in
    let f = page_fits w g all c.page_start-paragraph.ensures.0 in
    omega (arith, f, c.lay_groups.auto.memory)

pub put_page-requires : goal.put_page-requires
put_page-requires c =
    let w = c.requires in
    let g = granted_to w c.regions-before.ensures c.pieces.ensures c.grant_all-next.ensures c.used.ensures in
    let all = all_given w g c.if-granted-n.false in
    (search rules, rw all w.number)

pub returns : goal.returns
returns c =
    let w = c.requires in
    let g = granted_to w c.regions-before.ensures c.pieces.ensures c.grant_all-next.ensures c.used.ensures in
    let all = all_given w g c.if-granted-n.false in
    let p = c.page_start-paragraph.result in
    let z : paragraph_bytes * p + page_bytes - paragraph_bytes * p ≡ page_bytes = omega arith in
    let a = c.args in
    all_room a.h.now (image (bare a.front) a.volume.now a.fcb.now) a.t a.memory.now w.number (given w g all)
    (all_done w g all (image (bare a.front) a.volume.now a.fcb.now) a.memory.now c.page_start-paragraph.ensures.0 c.lay_groups.ensures (put_is _ _ _ z c.put_page.ensures))
